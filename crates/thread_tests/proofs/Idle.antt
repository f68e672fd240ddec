-- The idle run of the tests: its number of rows, and that nothing fires.
use Rattle.std.proofs.Common.{◌≡◌, ℕ, ◌+◌, ◌<◌, ◌≤◌, false, List, [], length, refl, sym, ap, subst, arith}
use Rattle.std.proofs.lemmas.List.{length-replicate}
use Rattle.named_run.specs.Named.{end_of}
use Rattle.named_run.proofs.RunLaws.{none_owned}
use Rattle.token_net.specs.Posts.{Leader, MayRaise}
use Rattle.board_rule.specs.Views.{Named, course}
use Rattle.gang_board.specs.Begins.{Begins}
use Rattle.thread_tests.specs.Runs.{idle, idle_named, idle_rows}

rows_are : length idle_rows ≡ 4000000
unfolding idle_rows
rows_are = length-replicate {A = List ℕ} 4000000 []

pub end_is : end_of idle ≡ 4000000
end_is = ap (λ (k : ℕ). 0 + k) rows_are

pub begins : Begins idle 1 0 0 0
begins = record {
  bound = (let e = end_is in omega (arith, e));
  within = omega arith;
  clear = λ p t l below. absurd (omega (arith, below));
  behind = refl;
}

pub may_raise : (n : Named) (p : ℕ) (x : Leader) → n ≡ idle_named → x.halted ≡ false → x.at ≤ x.seen → x.at < 4000000 → MayRaise (course n) p x
may_raise n p x is going clear below = subst (λ (m : Named). MayRaise (course m) p x) (sym is) record {
  runs = record { going = going; clear = clear };
  below = (let e = end_is in omega (arith, e, below));
  quiet = none_owned idle p x.at refl;
}
