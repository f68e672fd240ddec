-- The turns of a loop that ends have different numbers, since one that came back would never end.
use Rattle.std.proofs.Common.{◌≡◌, ◌≤◌, ◌<◌, ◌+◌, ◌^◌, ◌*◌, ℕ, zero, suc, Bool, true, false, pos, ◌-ℤ◌, ◌⊎◌, inl, inr, List, [], ◌∷◌, length, refl, sym, subst, ap, ◌∙◌, arith}
use Rattle.std.specs.Prelude.{Option, Some, None, if◌then◌else◌, max}
use Rattle.bit_ops.specs.Operators as ops
use Rattle.vl_tree.specs.declared.fault.FaultKind.TheVariants.{TooManyTurns}
use Rattle.vl_tree.specs.Syntax.{Place, Loop}
use Rattle.vl_value.specs.Meaning.{Meaning, assigned, true_of}
use Rattle.vl_value.specs.Order.{Found, at}
use Rattle.vl_design.specs.Limits.{Limits}
use Rattle.vl_design.specs.Constants.{Known, value_of, needs}
use Rattle.vl_design.specs.Generate.{Around, in_turn, Turns, ended_by, one_more, next_turn, if_holds, turns_from, turns_of, turn_number}
use Rattle.vl_value.specs.Paths.{same_number}
use Rattle.std.proofs.lemmas.Int.{ints}
use Rattle.std.proofs.lemmas.Bool.{le-leb, lt-leb, cases_lt}
use Rattle.std.proofs.Math.Nat.{mod-lt}
use Rattle.std.proofs.lemmas.Nat.{pow_pos}
use Rattle.vl_scope_paths.proofs.Apart.{Each, each_so, Pairwise}
use Rattle.vl_scope_paths.proofs.Steps.{not_so, both_at_most}

abbrev pub Clean : Turns → Type 0
Clean ts = ts.faults ≡ []

low_fits : (n : ℕ) → ops.low 32 n < 2 ^ 32
low_fits n = mod-lt n (pow_pos 32)

-- what a number stands for, by its sign bit
signed_as : (w n : ℕ) → (2 * n < 2 ^ w × (ops.integer true w n ≡ pos n)) ⊎ (2 ^ w ≤ 2 * n × (ops.integer true w n ≡ pos n -ℤ pos (2 ^ w)))
signed_as w n = elim (cases_lt (2 * n) (2 ^ w)) [
  | inl less ↦ inl (less, rw (lt-leb (2 ^ w) (2 * n) less) refl)
  | inr from ↦ inr (from, rw (le-leb (2 ^ w) (2 * n) from) refl)
]

same_signed : (w m n : ℕ) → m < 2 ^ w → n < 2 ^ w → ops.integer true w m ≡ ops.integer true w n → m ≡ n
same_signed w m n f g e = on (signed_as w m) (signed_as w n)
  where
    on : (2 * m < 2 ^ w × (ops.integer true w m ≡ pos m)) ⊎ (2 ^ w ≤ 2 * m × (ops.integer true w m ≡ pos m -ℤ pos (2 ^ w)))
        → (2 * n < 2 ^ w × (ops.integer true w n ≡ pos n)) ⊎ (2 ^ w ≤ 2 * n × (ops.integer true w n ≡ pos n -ℤ pos (2 ^ w))) → m ≡ n
    on (inl (a, p)) (inl (b, q)) = let h : pos m ≡ pos n = sym p ∙ e ∙ q in grind (ints, arith, h)
    on (inl (a, p)) (inr (b, q)) = let h : pos m ≡ pos n -ℤ pos (2 ^ w) = sym p ∙ e ∙ q in grind (ints, arith, h, g)
    on (inr (a, p)) (inl (b, q)) = let h : pos m -ℤ pos (2 ^ w) ≡ pos n = sym p ∙ e ∙ q in grind (ints, arith, h, f)
    on (inr (a, p)) (inr (b, q)) = let h : pos m -ℤ pos (2 ^ w) ≡ pos n -ℤ pos (2 ^ w) = sym p ∙ e ∙ q in grind (ints, arith, h)

-- the numbers of turns that differ are different signed numbers
pub unlike_turns : (m n : ℕ) → m < 2 ^ 32 → n < 2 ^ 32 → (m ≡ n → ⊥) → same_number (turn_number m) (turn_number n) ≡ false
unlike_turns m n f g never = not_so (same_number (turn_number m) (turn_number n)) (λ e. never (same_signed 32 m n f g (both_at_most (turn_number m) (turn_number n) e)))

-- ---- more turns allowed change nothing where there is no fault

held_alike : (fs : List Found) (v : Option Meaning) (go more : Turns) → (Clean go → more ≡ go) → Clean (if_holds fs v go) → if_holds fs v more ≡ if_holds fs v go
held_alike fs None go more e h = refl
held_alike fs (Some m) go more e h = on (true_of m) h
  where
    on : (b : Bool) → Clean (if b then go else ended_by []) → (if b then more else ended_by []) ≡ (if b then go else ended_by [])
    on true h = e h
    on false h = refl

next_alike : (fs : List Found) (v : Option Meaning) (f g : ℕ → Turns) → ((n : ℕ) → Clean (f n) → g n ≡ f n) → Clean (next_turn f fs v) → next_turn g fs v ≡ next_turn f fs v
next_alike fs None f g e h = refl
next_alike fs (Some m) f g e h = e (assigned 32 m) h

module _ (p : Place) (a : Around) (l : Loop) where
  abbrev from : ℕ → ℕ → Turns
  from = turns_from p a l

  abbrev at_number : ℕ → Known
  at_number n = (in_turn l.variable.text n a).known

  -- what follows a turn
  abbrev after : ℕ → ℕ → Turns
  after k n = next_turn (from k) (needs (at_number n) l.step) (value_of (at_number n) l.step)

  one_allowed : (k n : ℕ) → Clean (from k n) → from (suc k) n ≡ from k n
  one_allowed zero n h =
      held_alike (needs (at_number n) l.condition) (value_of (at_number n) l.condition) (ended_by (at p TooManyTurns ∷ [])) (one_more n (after 0 n))
      (λ e. absurd cc) h
  one_allowed (suc k) n h =
      held_alike (needs (at_number n) l.condition) (value_of (at_number n) l.condition) (one_more n (after k n)) (one_more n (after (suc k) n))
      (λ e. ap (one_more n) (next_alike (needs (at_number n) l.step) (value_of (at_number n) l.step) (from k) (from (suc k)) (one_allowed k) e)) h

  more_allowed : (j k n : ℕ) → Clean (from k n) → from (j + k) n ≡ from k n
  more_allowed zero k n h = let z : 0 + k ≡ k = omega arith in ap (λ w. from w n) z
  more_allowed (suc j) k n h =
      let e = more_allowed j k n h in
      let s : suc j + k ≡ suc (j + k) = omega arith in
      ap (λ w. from w n) s ∙ one_allowed (j + k) n (subst Clean (sym e) h) ∙ e

  -- ---- from each number on the loop ends, in no more turns

  abbrev count : Turns → ℕ
  count ts = length ts.numbers

  abbrev Ends : ℕ → ℕ → ℕ → Type 0
  Ends k most m = (d : ℕ) × ((j : ℕ) × ((d + j ≡ k) × (Clean (from j m) × (count (from j m) ≤ most))))

  ends_later : (k most m : ℕ) → Ends k most m → Ends (suc k) (suc most) m
  ends_later k most m (d, (j, (e, (c, b)))) = (suc d, (j, (omega (arith, e), (c, omega (arith, b)))))

  held_ends : (k n : ℕ) (fs : List Found) (v : Option Meaning) (ts : Turns) → Clean (if_holds fs v (one_more n ts))
      → Ends (suc k) (count (if_holds fs v (one_more n ts))) n → (Clean ts → Each (Ends k (count ts)) ts.numbers)
      → Each (Ends (suc k) (count (if_holds fs v (one_more n ts)))) (if_holds fs v (one_more n ts)).numbers
  held_ends k n fs None ts h own go = tt
  held_ends k n fs (Some m) ts h own go = on (true_of m) h own
    where
      on : (b : Bool) → Clean (if b then one_more n ts else ended_by []) → Ends (suc k) (count (if b then one_more n ts else ended_by [])) n
          → Each (Ends (suc k) (count (if b then one_more n ts else ended_by []))) (if b then one_more n ts else ended_by []).numbers
      on true h o = (o, each_so (Ends k (count ts)) (Ends (suc k) (suc (count ts))) (ends_later k (count ts)) ts.numbers (go h))
      on false h o = tt

  none_held : (fs gs : List Found) (v : Option Meaning) (P : ℕ → Type 0) → Each P (if_holds fs v (ended_by gs)).numbers
  none_held fs gs None P = tt
  none_held fs gs (Some m) P = on (true_of m)
    where
      on : (b : Bool) → Each P (if b then ended_by gs else ended_by []).numbers
      on true = tt
      on false = tt

  next_ends : (k : ℕ) (fs : List Found) (v : Option Meaning) → ((n : ℕ) → Clean (from k n) → Each (Ends k (count (from k n))) (from k n).numbers)
      → Clean (next_turn (from k) fs v) → Each (Ends k (count (next_turn (from k) fs v))) (next_turn (from k) fs v).numbers
  next_ends k fs None go h = tt
  next_ends k fs (Some m) go h = go (assigned 32 m) h

  each_ends : (k n : ℕ) → Clean (from k n) → Each (Ends k (count (from k n))) (from k n).numbers
  each_ends zero n h =
      none_held (needs (at_number n) l.condition) (at p TooManyTurns ∷ []) (value_of (at_number n) l.condition) (Ends 0 (count (from 0 n)))
  each_ends (suc k) n h =
      held_ends k n (needs (at_number n) l.condition) (value_of (at_number n) l.condition) (after k n) h (0, (suc k, (omega arith, (h, omega arith))))
      (next_ends k (needs (at_number n) l.step) (value_of (at_number n) l.step) (each_ends k))

  -- ---- so none comes back

  none_again : (k n m : ℕ) → Clean (from (suc k) n) → from (suc k) n ≡ one_more n (after k n) → Ends k (count (after k n)) m → n ≡ m → ⊥
  none_again k n m h is (d, (j, (e, (c, b)))) same =
      let again : Clean (from j n) = subst (λ w. Clean (from j w)) (sym same) c in
      let f : suc k ≡ suc d + j = omega (arith, e) in
      let all : from (suc k) n ≡ from j n = ap (λ w. from w n) f ∙ more_allowed (suc d) j n again in
      let few : count (from j n) ≤ count (after k n) = subst (λ w. count (from j w) ≤ count (after k n)) (sym same) b in
      let long : suc (count (after k n)) ≡ count (from j n) = ap count (sym is) ∙ ap count all in
      absurd (omega (arith, few, long))

  held_pairs : (n : ℕ) (fs : List Found) (v : Option Meaning) (ts : Turns) → Clean (if_holds fs v (one_more n ts))
      → (if_holds fs v (one_more n ts) ≡ one_more n ts → Each (λ m. n ≡ m → ⊥) ts.numbers)
      → (Clean ts → Pairwise (λ m o. m ≡ o → ⊥) ts.numbers) → Pairwise (λ m o. m ≡ o → ⊥) (if_holds fs v (one_more n ts)).numbers
  held_pairs n fs None ts h first go = tt
  held_pairs n fs (Some m) ts h first go = on (true_of m) h first
    where
      on : (b : Bool) → Clean (if b then one_more n ts else ended_by [])
          → ((if b then one_more n ts else ended_by []) ≡ one_more n ts → Each (λ m. n ≡ m → ⊥) ts.numbers)
          → Pairwise (λ m o. m ≡ o → ⊥) (if b then one_more n ts else ended_by []).numbers
      on true h f = (f refl, go h)
      on false h f = tt

  next_pairs : (k : ℕ) (fs : List Found) (v : Option Meaning) → ((n : ℕ) → Clean (from k n) → Pairwise (λ m o. m ≡ o → ⊥) (from k n).numbers)
      → Clean (next_turn (from k) fs v) → Pairwise (λ m o. m ≡ o → ⊥) (next_turn (from k) fs v).numbers
  next_pairs k fs None go h = tt
  next_pairs k fs (Some m) go h = go (assigned 32 m) h

  last_pairs : (fs gs : List Found) (v : Option Meaning) → Pairwise (λ (m : ℕ) o. m ≡ o → ⊥) (if_holds fs v (ended_by gs)).numbers
  last_pairs fs gs None = tt
  last_pairs fs gs (Some m) = on (true_of m)
    where
      on : (b : Bool) → Pairwise (λ (m : ℕ) o. m ≡ o → ⊥) (if b then ended_by gs else ended_by []).numbers
      on true = tt
      on false = tt

  pairs : (k n : ℕ) → Clean (from k n) → Pairwise (λ m o. m ≡ o → ⊥) (from k n).numbers
  pairs zero n h = last_pairs (needs (at_number n) l.condition) (at p TooManyTurns ∷ []) (value_of (at_number n) l.condition)
  pairs (suc k) n h =
      held_pairs n (needs (at_number n) l.condition) (value_of (at_number n) l.condition) (after k n) h
      (λ is. each_so (Ends k (count (after k n))) (λ m. n ≡ m → ⊥) (λ m. none_again k n m h is) (after k n).numbers
      (next_ends k (needs (at_number n) l.step) (value_of (at_number n) l.step) (each_ends k) (subst Clean is h)))
      (next_pairs k (needs (at_number n) l.step) (value_of (at_number n) l.step) (pairs k))

  -- ---- each number has 32 bits

  held_fits : (n : ℕ) (fs : List Found) (v : Option Meaning) (ts : Turns) → n < 2 ^ 32 → Each (λ m. m < 2 ^ 32) ts.numbers
      → Each (λ m. m < 2 ^ 32) (if_holds fs v (one_more n ts)).numbers
  held_fits n fs None ts f h = tt
  held_fits n fs (Some m) ts f h = on (true_of m)
    where
      on : (b : Bool) → Each (λ m. m < 2 ^ 32) (if b then one_more n ts else ended_by []).numbers
      on true = (f, h)
      on false = tt

  next_fits : (f : ℕ → Turns) (fs : List Found) (v : Option Meaning) → ((n : ℕ) → n < 2 ^ 32 → Each (λ m. m < 2 ^ 32) (f n).numbers)
      → Each (λ m. m < 2 ^ 32) (next_turn f fs v).numbers
  next_fits f fs None go = tt
  next_fits f fs (Some m) go = go (assigned 32 m) (low_fits (m.at (max m.width 32) m.signed))

  fits : (k n : ℕ) → n < 2 ^ 32 → Each (λ m. m < 2 ^ 32) (from k n).numbers
  fits zero n f = none_held (needs (at_number n) l.condition) (at p TooManyTurns ∷ []) (value_of (at_number n) l.condition) (λ m. m < 2 ^ 32)
  fits (suc k) n f =
      held_fits n (needs (at_number n) l.condition) (value_of (at_number n) l.condition) (after k n) f
      (next_fits (from k) (needs (at_number n) l.step) (value_of (at_number n) l.step) (fits k))

  pub turns_differ : (q : Limits) → Clean (turns_of q p a l) → Pairwise (λ m o. m ≡ o → ⊥) (turns_of q p a l).numbers
  turns_differ q h = next_pairs q.turns (needs a.known l.first) (value_of a.known l.first) (pairs q.turns) h

  pub turns_fit : (q : Limits) → Each (λ m. m < 2 ^ 32) (turns_of q p a l).numbers
  turns_fit q = next_fits (from q.turns) (needs a.known l.first) (value_of a.known l.first) (fits q.turns)
