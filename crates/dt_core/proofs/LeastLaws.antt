-- The least number that passes.
use Rattle.std.proofs.Common.{◌≡◌, ℕ, zero, suc, ◌<◌, Bool, true, false, Some, None, refl, sym, ap, subst, arith, ◌∙◌, if◌then◌else◌}
use Rattle.std.specs.Prelude.{Option}
use Rattle.std.proofs.Math.Nat.{eq-or-lt_of_le}
use Rattle.std.proofs.Common.{inl, inr}
use Rattle.dt_core.specs.Least.{least}

abbrev next_least : (ℕ → Bool) → ℕ → Option ℕ → Option ℕ
next_least p n o = elim o [ Some c ↦ Some c | None ↦ if p n then Some n else None ]

pub least_none : (p : ℕ → Bool) (n : ℕ) → ((k : ℕ) → k < n → p k ≡ false) → None ≡ least p n
least_none p zero h = refl
least_none p (suc n) h =
    let e : None ≡ least p n = least_none p n (λ k i. h k (omega arith)) in
    let f : p n ≡ false = h n (omega arith) in
    ap (λ b. if b then Some n else None) (sym f) ∙ ap (next_least p n) e

pub least_some : (p : ℕ → Bool) (n c : ℕ) → c < n → p c ≡ true → ((k : ℕ) → k < c → p k ≡ false) → Some c ≡ least p n
least_some p zero c i t h = absurd (omega arith)
least_some p (suc n) c i t h =
    elim (eq-or-lt_of_le {n = c} {m = n} (omega arith)) [
      | inl e ↦ ap (λ b. if b then Some c else None) (sym t) ∙ subst (λ x. (if p c then Some c else None) ≡ next_least p x (least p x)) e (ap (next_least p c) (least_none p c h))
      | inr j ↦ ap (next_least p n) (least_some p n c j t h)
    ]
