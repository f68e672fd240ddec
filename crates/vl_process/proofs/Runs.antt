-- A design has one run at most over given rows, by induction on the cycle.
use Rattle.std.proofs.Common.{◌≡◌, ℕ, zero, suc, ◌<◌, ◌≤◌, List, length, sym, ap, subst, ◌∙◌, arith}
use Rattle.netlist.specs.Values.{Values}
use Rattle.vl_design.specs.Design.{Design}
use Rattle.vl_process.specs.Settling.{Settles}
use Rattle.vl_process.specs.Run.{IsRun, row_at, next}
use Rattle.vl_process.specs.Laws.{RunsAreOne}

module _ (d : Design) (rows : List (List ℕ)) (s₁ s₂ v₁ v₂ : ℕ → Values) (r₁ : IsRun d rows s₁ v₁) (r₂ : IsRun d rows s₂ v₂) where
  -- from one state one valuation settles
  values_same : (k : ℕ) → k < length rows → s₁ k ≡ s₂ k → v₁ k ≡ v₂ k
  values_same k l e =
      (r₂.settled k l).alone (v₁ k) (subst (λ s. Settles d s (row_at rows k) (v₁ k)) e (r₁.settled k l).settles)

  states_same : (k : ℕ) → k ≤ length rows → s₁ k ≡ s₂ k
  states_same zero h = r₁.start ∙ sym r₂.start
  states_same (suc k) h =
      let l : k < length rows = omega (arith, h) in
      let e = states_same k (omega (arith, h)) in
      r₁.next_states k l ∙ ap (λ s. next d s (v₁ k)) e ∙ ap (next d (s₂ k)) (values_same k l e)
      ∙ sym (r₂.next_states k l)

pub runs_are_one : RunsAreOne
runs_are_one d rows s₁ s₂ v₁ v₂ r₁ r₂ k l =
    let e = states_same d rows s₁ s₂ v₁ v₂ r₁ r₂ k (omega (arith, l)) in
    (e, values_same d rows s₁ s₂ v₁ v₂ r₁ r₂ k l e)
