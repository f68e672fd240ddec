-- The failing run of the tests: in its first thousand cycles nothing fires, and then each leader's assertion does.
use Rattle.std.proofs.Common.{◌≡◌, ℕ, ◌+◌, ◌-◌, ◌<◌, Bool, true, false, List, [], ◌∷◌, replicate, nat_lt, refl, sym, ap, ◌∙◌, subst, arith}
use Rattle.std.specs.Prelude.{slice_index_or, if◌then◌else◌}
use Rattle.std.specs.List.{list_any}
use Rattle.std.proofs.lemmas.Bool.{cases_lt}
use Rattle.std.proofs.lemmas.List.{length-append, length-replicate, get_or-replicate, get_or_append_left, get_or_push}
use Rattle.netlist.specs.Run.{flat_fired}
use Rattle.netlist.specs.Order.{flat_val}
use Rattle.named_run.specs.Named.{end_of, state_after, values_after, has, fires}
use mathlib.Core.Logic.{∥∥₁_elim}
use native.Mathlib.Bridge.{le_prop}
use Rattle.std.proofs.Common.{true≢false, ⊎_elim, ◌≤◌}
use Rattle.atomic_table.specs.Table.{Me}
use Rattle.token_net.specs.Posts.{Leader, PostsHold, IsFire, MayRaise, none_yet}
use Rattle.board_rule.specs.Views.{Named, course}
use Rattle.board_rule.specs.declared.view.View.{View}
use Rattle.gang_board.specs.Begins.{Begins}
use Rattle.gang_board.specs.Seats.{IsLeaderSeat, StoodLeader}
use Rattle.thread_tests.specs.Runs.{watched, failing, failing_rows, failing_named}

-- a row in which the input is 0, the row in which it is 1, and the assertion that each leader owns
abbrev quiet_row : List ℕ
quiet_row = 0 ∷ []

abbrev last_row : List ℕ
last_row = 1 ∷ []

abbrev owned_by_each : List ℕ
owned_by_each = 0 ∷ []

-- the number of rows
pub end_is : end_of failing ≡ 1001
unfolding failing_rows
end_is = length-append (replicate 1000 quiet_row) (last_row ∷ []) ∙ ap (λ (k : ℕ). k + 1) (length-replicate 1000 quiet_row)

-- which of a leader's assertions fire with a row
abbrev fired_with : List ℕ → List ℕ → ℕ → Bool
fired_with owned row t = list_any (λ x. has owned x.stop) (flat_fired watched (flat_val watched [] (state_after failing t) row))

fires_by : (p t : ℕ) (owned row : List ℕ) → slice_index_or failing.owned p [] ≡ owned → slice_index_or failing.rows t [] ≡ row
    → fires failing p t ≡ (if nat_lt t 0 then false else (if nat_lt t (end_of failing) then fired_with owned row t else false))
unfolding fires values_after
fires_by p t owned row is at = let same : t - 0 ≡ t = omega arith in
    (λ i. if nat_lt t 0 then false else (if nat_lt t (end_of failing)
    then list_any (λ x. has (is i) x.stop) (flat_fired watched (flat_val watched [] (state_after failing (same i)) (slice_index_or failing.rows (same i) [])))
    else false))
    ∙ (λ i. if nat_lt t 0 then false else (if nat_lt t (end_of failing) then fired_with owned (at i) t else false))

no_branch : (b : Bool) → (if b then false else false) ≡ false
no_branch Bool.true = refl
no_branch Bool.false = refl

both_false : (b c : Bool) → (if b then false else (if c then false else false)) ≡ false
both_false Bool.true c = refl
both_false Bool.false Bool.true = refl
both_false Bool.false Bool.false = refl

none_with : (owned : List ℕ) (t : ℕ) → fired_with owned quiet_row t ≡ false
none_with owned t = refl

row_before : (t : ℕ) → t < 1000 → slice_index_or failing.rows t [] ≡ quiet_row
unfolding failing_rows
row_before t l = get_or_append_left (replicate 1000 quiet_row) (last_row ∷ []) [] t
    (let n = length-replicate 1000 quiet_row in omega (arith, l, n)) ∙ get_or-replicate 1000 t quiet_row [] l

row_last : slice_index_or failing.rows 1000 [] ≡ last_row
unfolding failing_rows
row_last = get_or_push (replicate 1000 quiet_row) last_row [] 1000 (length-replicate 1000 quiet_row)

-- before the last row nothing fires
pub no_fire : (p t : ℕ) → t < 1000 → fires failing p t ≡ false
no_fire p t l =
    fires_by p t (slice_index_or failing.owned p []) quiet_row refl (row_before t l)
    ∙ (λ i. if nat_lt t 0 then false else (if nat_lt t (end_of failing) then none_with (slice_index_or failing.owned p []) t i else false))
    ∙ both_false (nat_lt t 0) (nat_lt t (end_of failing))

-- in the last row the assertion of each leader does
pub fire : (p : ℕ) → p < 16 → fires failing p 1000 ≡ true
fire p l =
    let owned : slice_index_or failing.owned p [] ≡ owned_by_each = get_or-replicate 16 p owned_by_each [] l in
    fires_by p 1000 owned_by_each last_row owned row_last
    ∙ ap (λ (n : ℕ). if nat_lt 1000 n then fired_with owned_by_each last_row 1000 else false) end_is

-- a fire is at the failure, or there is none
fire_late : (f : ℕ) → IsFire (course failing_named) f → 1000 ≤ f
fire_late f is = ⊎_elim
    (λ (e : f ≡ none_yet). omega (arith, e))
    (λ (x : (f < end_of failing) × ((p : ℕ) × (p < 16) × (fires failing p f ≡ true))).
    ⊎_elim (λ (l : f < 1000). absurd (true≢false (sym x.1.2 ∙ no_fire x.1.0 f l))) (λ (g : 1000 ≤ f). g) (cases_lt f 1000))
    is

-- a leader up to the failure has seen no fire below its position
pub clear : (words p : ℕ) (x : Leader) (me : Me ℕ View) → IsLeaderSeat words p x me → me.0.named ≡ failing_named → x.at ≤ 1000 → x.at ≤ x.seen
clear words p x me seat named low = ∥∥₁_elim seat.stood le_prop (λ (s : StoodLeader me.0.named p x).
    let holds : PostsHold (course failing_named) s.posts = subst (λ (n : Named). PostsHold (course n) s.posts) named s.holds in
    let there : p < 16 = subst (λ (n : Named). p < n.parts) named seat.there in
    let late = fire_late (s.posts.leader p).seen (holds.leader p there).saw in
    let seen = ap (λ (z : Leader). z.seen) s.is in omega (arith, late, seen, low))

pub may_raise : (words p : ℕ) (x : Leader) (me : Me ℕ View) → IsLeaderSeat words p x me → me.0.named ≡ failing_named → x.halted ≡ false
    → x.at < 1000 → MayRaise (course me.0.named) p x
may_raise words p x me seat named going below = subst (λ (n : Named). MayRaise (course n) p x) (sym named) record {
  runs = record { going = going; clear = clear words p x me seat named (omega (arith, below)) };
  below = (let e = end_is in omega (arith, e, below));
  quiet = no_fire p x.at below;
}

-- a board may begin at the start of the run
pub begins : Begins failing 16 8 0 0
begins = record {
  bound = (let e = end_is in omega (arith, e));
  within = omega arith;
  clear = λ p t l below. absurd (omega (arith, below));
  behind = refl;
}
