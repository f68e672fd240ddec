-- The short runs of the tests: one of two leaders fires in the first cycle; and in the last cycle of the quiet run a
-- board may begin.
use Rattle.std.proofs.Common.{◌≡◌, ℕ, zero, suc, ◌<◌, true, [], refl, arith}
use Rattle.std.specs.Prelude.{slice_index_or}
use Rattle.named_run.specs.Named.{fires, values_after, state_after}
use Rattle.named_run.proofs.RunLaws.{none_owned}
use Rattle.gang_board.specs.Begins.{Begins}
use Rattle.thread_tests.specs.Runs.{quiet, one_fires}

pub first_fires : fires one_fires 0 0 ≡ true
unfolding fires values_after state_after
first_fires = refl

owns_none : (p : ℕ) → p < 1 → slice_index_or quiet.owned p [] ≡ []
owns_none zero l = refl
owns_none (suc p) l = absurd (omega (arith, l))

pub begins_late : Begins quiet 1 0 8 8
begins_late = record {
  bound = omega arith;
  within = omega arith;
  clear = λ p t l below. none_owned quiet p t (owns_none p l);
  behind = refl;
}
