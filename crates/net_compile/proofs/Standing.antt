-- What stands in slots stays there, and what is made of it stands too.
use Rattle.std.proofs.Common.{◌≡◌, ℕ, ◌+◌, ◌^◌, ◌<◌, List, refl, sym, ap, ◌∙◌, subst}
use Rattle.std.specs.Prelude.{Option, Some, None, IfSome, pos}
use Rattle.bit_ops.specs.Operators as ops
use Rattle.netlist.specs.Design.{Flat}
use Rattle.netlist.specs.Fits.{IsWidth}
use Rattle.netlist.specs.Run.{all_words}
use Rattle.netlist.specs.Values.{width_at}
use Rattle.netlist.specs.declared.node.Operation.{Operation}
use Rattle.step_program.specs.Values.{Slots, after}
use Rattle.step_program.specs.Draft.{Draft, IsGiven, HasStep, value_in, narrow_count, wide_count}
use Rattle.step_program.specs.Laws.{FitsLaw}
use Rattle.step_program.specs.declared.step.Slot.{Slot}
use Rattle.step_program.specs.declared.step.Step.{Step}
use Rattle.step_program.specs.declared.step.Step.TheVariants as kind
use Rattle.step_program.specs.declared.step.Calculation.{Calculation}
use Rattle.step_program.specs.declared.step.Calculation.TheVariants as calc
use Rattle.step_program.specs.declared.step.Operand.{Operand}
use Rattle.net_compile.specs.Cycle.{Front, Cycle}
use Rattle.net_compile.specs.Stands.{Grows, HasKind, IsCut, IsJoined, Begins, Stands, NodesStand, node_number, operation_number}
use Rattle.net_compile.specs.Lowered.{Mirrors}
use Rattle.net_compile.specs.Quick.{IsQuick}
use Rattle.net_compile.proofs.Numbers.{below_select, below_concat}

-- ---- drafts

pub grows_not : (d : Draft) → Grows d d
grows_not d = record {
  narrow = refl;
  wide = refl;
  placed = λ s p. p;
  same = λ words given s g p. refl;
}

pub same_given : (n m k l : ℕ) (given : Slots) → n ≡ k → m ≡ l → IsGiven k l given → IsGiven n m given
same_given n m k l given e f h = record { narrow = h.narrow ∙ sym e; wide = h.wide ∙ sym f }

pub grows_on : (a b c : Draft) → Grows a b → Grows b c → Grows a c
grows_on a b c g h = record {
  narrow = h.narrow ∙ g.narrow;
  wide = h.wide ∙ g.wide;
  placed = λ s p. h.placed s (g.placed s p);
  same = λ words given s i p.
      h.same words given s (same_given b.narrow b.wide a.narrow a.wide given g.narrow g.wide i) (g.placed s p)
      ∙ g.same words given s i p;
}

pub step_grows : (a b : Draft) (step : Step) (slot : Slot) → HasStep a b step slot → Grows a b
step_grows a b step slot h = record { narrow = h.narrow; wide = h.wide; placed = h.still_placed; same = h.same }

pub begins_on : (front : Front) (a b : Draft) → Begins front a → Grows a b → Begins front b
begins_on front a b h g = record { narrow = g.narrow ∙ h.narrow; wide = g.wide ∙ h.wide }

-- the given slots of a cycle are those of the draft
pub given_of : (f : Flat) (front : Front) (d : Draft) → Begins front d → (c : Cycle f front)
    → IsGiven d.narrow d.wide c.given
given_of f front d b c = same_given d.narrow d.wide front.narrow front.wide c.given b.narrow b.wide c.holds.counts

pub kind_stays : (a b : Draft) (slot : Slot) (w : ℕ) → Grows a b → HasKind a slot w → HasKind b slot w
kind_stays a b slot w g h = record { placed = g.placed slot h.placed; kind = h.kind }

-- ---- cycles

pub stays : (f : Flat) (front : Front) (a b : Draft) (slot : Slot) (w : ℕ) (v : Cycle f front → ℕ) → Begins front a
    → Grows a b → Stands f front a slot w v → Stands f front b slot w v
stays f front a b slot w v i g h = record {
  there = kind_stays a b slot w g h.there;
  wide = h.wide;
  value = λ c. g.same (all_words f.memories c.state.memories) c.given slot (given_of f front a i c) h.there.placed ∙ h.value c;
  fits = h.fits;
}

pub nodes_stay : (f : Flat) (front : Front) (a b : Draft) (slots : List (Option Slot)) → Begins front a → Grows a b
    → NodesStand f front a slots → NodesStand f front b slots
nodes_stay f front a b slots i g h n slot e =
    stays f front a b slot (width_at f.nodes n) (node_number f front n) i g (h n slot e)

-- the same number by another name, at the same width
pub stands_for : (f : Flat) (front : Front) (d : Draft) (slot : Slot) (w x : ℕ) (v u : Cycle f front → ℕ) → w ≡ x
    → ((c : Cycle f front) → v c ≡ u c) → Stands f front d slot w v → Stands f front d slot x u
stands_for f front d slot w x v u e same h =
    subst (λ k. Stands f front d slot k u) e (record {
      there = h.there;
      wide = h.wide;
      value = λ c. h.value c ∙ same c;
      fits = λ c. subst (λ n. n < 2 ^ w) (same c) (h.fits c);
    })

pub cut_stands : (f : Flat) (front : Front) (a b : Draft) (o : Operand) (from w : ℕ) (slot : Slot)
    (v : Cycle f front → ℕ) → Begins front a → Stands f front a o.slot o.width v → IsCut a b o from w slot → IsWidth w
    → Stands f front b slot w (λ c. ops.select (pos from) w (v c))
cut_stands f front a b o from w slot v i h cut wide = record {
  there = cut.there;
  wide = wide;
  value = λ c.
      let words : List (List ℕ) = all_words f.memories c.state.memories in
      cut.value words c.given (given_of f front a i c) (subst (λ n. n < 2 ^ o.width) (sym (h.value c)) (h.fits c))
      ∙ ap (λ n. ops.select (pos from) w n) (h.value c);
  fits = λ c. below_select from w (v c);
}

pub joined_stands : (f : Flat) (front : Front) (a b : Draft) (high low : Operand) (slot : Slot)
    (v u : Cycle f front → ℕ) → Begins front a → Stands f front a high.slot high.width v
    → Stands f front a low.slot low.width u → IsJoined a b high low slot → IsWidth (high.width + low.width)
    → Stands f front b slot (high.width + low.width) (λ c. ops.concat low.width (v c) (u c))
joined_stands f front a b high low slot v u i h l j wide = record {
  there = j.there;
  wide = wide;
  value = λ c.
      let words : List (List ℕ) = all_words f.memories c.state.memories in
      j.value words c.given (given_of f front a i c) (subst (λ n. n < 2 ^ high.width) (sym (h.value c)) (h.fits c))
      (subst (λ n. n < 2 ^ low.width) (sym (l.value c)) (l.fits c))
      ∙ ap (λ n. ops.concat low.width n (value_in a words c.given low.slot)) (h.value c)
      ∙ ap (λ n. ops.concat low.width (v c) n) (l.value c);
  fits = λ c. below_concat high.width low.width (v c) (u c) (h.fits c) (l.fits c);
}

-- ---- steps

-- a step with a calculation
abbrev pub rare : ℕ → Calculation → Step
rare w r = kind.Rare (record { width = w; calculation = r })

pub constant_stands : (f : Flat) (front : Front) (a b : Draft) (w n : ℕ) (slot : Slot) → Begins front a → IsWidth w
    → n < 2 ^ w → HasStep a b (rare w (calc.Constant n)) slot → Stands f front b slot w (λ c. n)
constant_stands f front a b w n slot i wide l h = record {
  there = record { placed = h.placed; kind = h.kind };
  wide = wide;
  value = λ c. h.value (all_words f.memories c.state.memories) c.given (given_of f front a i c);
  fits = λ c. l;
}

pub calculation_stands : (f : Flat) (front : Front) (a b : Draft) (w : ℕ) (x : Operation) (r : Calculation)
    (step : Step) (slot : Slot) → FitsLaw → Begins front a → IsWidth w → Mirrors f front a w x r → IsQuick w r step
    → HasStep a b step slot → Stands f front b slot w (operation_number f front w x)
calculation_stands f front a b w x r step slot law i wide m q h = record {
  there = record { placed = h.placed; kind = h.kind ∙ q.kind };
  wide = wide;
  value = λ c.
      let words : List (List ℕ) = all_words f.memories c.state.memories in
      h.value words c.given (given_of f front a i c)
      ∙ q.value words (after words c.given a.steps) (narrow_count a) (wide_count a) m.fits (m.bounded c) ∙ m.value c;
  fits = λ c. subst (λ n. n < 2 ^ w) (m.value c) (law _ _ _ _ (record { width = w; calculation = r }) (wide, m.fits));
}

-- ---- values that may be missing

pub if_some : {X : Type 0} (o : Option X) (P : X → Type 0) → ((x : X) → o ≡ Some x → P x) → IfSome o P
if_some None P h = tt
if_some (Some x) P h = h x refl

pub some_is : {X : Type 0} (o : Option X) (x : X) (P : X → Type 0) → o ≡ Some x → IfSome o P → P x
some_is None x P e h = absurd cc
some_is (Some y) x P e h = let same : y ≡ x = cc in subst P same h
