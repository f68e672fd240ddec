-- The events of a block, one after another.
use Rattle.std.proofs.Common.{◌≡◌, ℕ, ◌+◌, ◌<◌, ◌≤◌, List, [], ◌∷◌, ◌++◌, length, drop, get_or, sym, ap, subst, ◌∙◌, arith, Bool, true, false, length-drop}
use Rattle.std.specs.Prelude.{if◌then◌else◌}
use Rattle.std.proofs.lemmas.List.{drop_more}
use Rattle.netlist.specs.Run.{block_fired, stop_count, is_stop}
use Rattle.netlist.specs.declared.design.Event.{Event}
use Rattle.netlist.specs.declared.node.Node.{Node}
use Rattle.message_text.specs.declared.telling.Given.{Given}
use Rattle.message_text.specs.Told.{Told, IsGiven, AreGiven, FitsShown, FitAll, Tells}

-- after the first k events: what fired and what is to fire are together what the whole block fires, and so are the stops
pub record Front (old now : Told) (es : List Event) (gs : List Given) (k : ℕ) : Type 0 where
  pub fits : FitAll (drop k es) (drop k gs)
  pub few : now.stop ≤ old.stop + k
  pub stops : now.stop + stop_count (drop k es) ≡ old.stop + stop_count es
  pub tells : (nodes : List Node) (xs : List ℕ) → AreGiven nodes xs es gs
      → AreGiven nodes xs (drop k es) (drop k gs)
      × (now.fired ++ block_fired nodes xs now.stop now.text (drop k es)
      ≡ old.fired ++ block_fired nodes xs old.stop [] es)

-- as many things given as there are events
pub fit_length : (es : List Event) (gs : List Given) → FitAll es gs → length es ≤ length gs
fit_length [] gs f = omega arith
fit_length (x ∷ es) [] f = absurd f
fit_length (x ∷ es) (g ∷ gs) f = let rest : length es ≤ length gs = fit_length es gs f.1 in omega (arith, rest)

-- the events from a place on
opened : (es : List Event) (k : ℕ) (x : Event) → k < length es → x ≡ get_or es k x → drop k es ≡ x ∷ drop (k + 1) es
opened es k x less is = drop_more es k x less ∙ ap (λ (y : Event). y ∷ drop (k + 1) es) (sym is)

opened_given : (gs : List Given) (k : ℕ) (g d : Given) → k < length gs → g ≡ get_or gs k d → drop k gs ≡ g ∷ drop (k + 1) gs
opened_given gs k g d less is = drop_more gs k d less ∙ ap (λ (y : Given). y ∷ drop (k + 1) gs) (sym is)

pub fit_here : (es : List Event) (gs : List Given) (k : ℕ) (x : Event) (g d : Given) → k < length es → k < length gs
    → x ≡ get_or es k x → g ≡ get_or gs k d → FitAll (drop k es) (drop k gs)
    → FitsShown x.effect g × FitAll (drop (k + 1) es) (drop (k + 1) gs)
fit_here es gs k x g d le lg ix ig f =
    let first : FitAll (x ∷ drop (k + 1) es) (drop k gs) =
    subst (λ (ys : List Event). FitAll ys (drop k gs)) (opened es k x le ix) f in
    subst (λ (hs : List Given). FitAll (x ∷ drop (k + 1) es) hs) (opened_given gs k g d lg ig) first

given_here : (nodes : List Node) (xs : List ℕ) (es : List Event) (gs : List Given) (k : ℕ) (x : Event) (g d : Given)
    → k < length es → k < length gs → x ≡ get_or es k x → g ≡ get_or gs k d
    → AreGiven nodes xs (drop k es) (drop k gs)
    → IsGiven nodes xs x g × AreGiven nodes xs (drop (k + 1) es) (drop (k + 1) gs)
given_here nodes xs es gs k x g d le lg ix ig f =
    let first : AreGiven nodes xs (x ∷ drop (k + 1) es) (drop k gs) =
    subst (λ (ys : List Event). AreGiven nodes xs ys (drop k gs)) (opened es k x le ix) f in
    subst (λ (hs : List Given). AreGiven nodes xs (x ∷ drop (k + 1) es) hs) (opened_given gs k g d lg ig) first

given_within : (es : List Event) (gs : List Given) (k : ℕ) → k < length es → FitAll (drop k es) (drop k gs)
    → k < length gs
given_within es gs k less f =
    let rest : length (drop k es) ≤ length (drop k gs) = fit_length (drop k es) (drop k gs) f in
    omega (arith, rest, length-drop k es, length-drop k gs)

by_case : (stops : Bool) (rest now new : ℕ) → new ≡ (if stops then now + 1 else now)
    → (new + rest ≡ now + ((if stops then 1 else 0) + rest)) × (new ≤ now + 1)
by_case true rest now new is = (omega (arith, is), omega (arith, is))
by_case false rest now new is = (omega (arith, is), omega (arith, is))

-- the stops of one event more
stop_more : (x : Event) (more : List Event) (now new : ℕ) → new ≡ (if is_stop x.effect then now + 1 else now)
    → (new + stop_count more ≡ now + stop_count (x ∷ more)) × (new ≤ now + 1)
stop_more x more now new is = by_case (is_stop x.effect) (stop_count more) now new is

-- one event more
pub front_more : (old now new : Told) (es : List Event) (gs : List Given) (k : ℕ) (x : Event) (g d : Given) → k < length es
    → x ≡ get_or es k x → g ≡ get_or gs k d → Tells now new x g
    → new.stop ≡ (if is_stop x.effect then now.stop + 1 else now.stop) → Front old now es gs k → Front old new es gs (k + 1)
front_more old now new es gs k x g d le ix ig tells stop front =
    let size : k < length gs = given_within es gs k le front.fits in
    let count = stop_more x (drop (k + 1) es) now.stop new.stop stop in
    let here : stop_count (drop k es) ≡ stop_count (x ∷ drop (k + 1) es) = ap stop_count (opened es k x le ix) in
    record {
      fits = (fit_here es gs k x g d le size ix ig front.fits).1;
      few = omega (arith, count.1, front.few);
      stops = count.0 ∙ ap (λ (n : ℕ). now.stop + n) (sym here) ∙ front.stops;
      tells = λ nodes xs given.
          let before = front.tells nodes xs given in
          let now_given = given_here nodes xs es gs k x g d le size ix ig before.0 in (
            now_given.1,
            tells nodes xs (drop (k + 1) es) now_given.0
                ∙ ap (λ (ys : List Event). now.fired ++ block_fired nodes xs now.stop now.text ys) (sym (opened es k x le ix))
                ∙ before.1,
          );
    }
