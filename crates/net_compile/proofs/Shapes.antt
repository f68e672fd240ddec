-- Bits of slots, and slots side by side.
use Rattle.std.proofs.Common.{refl, ◌≡◌, ℕ, ◌+◌, ◌^◌, ◌<◌, true, false, List, sym, ap, ◌∙◌}
use Rattle.std.specs.Prelude.{pos, slice_index}
use Rattle.bit_ops.specs.Operators as ops
use Rattle.step_program.specs.Values.{after, take_value, is_narrow_width}
use Rattle.step_program.specs.Draft.{Draft, IsPlaced, HasStep, value_in, narrow_count, wide_count}
use Rattle.step_program.specs.declared.step.Slot.{Slot}
use Rattle.step_program.specs.declared.step.Slot.TheVariants as at
use Rattle.step_program.specs.declared.step.Take.{Take}
use Rattle.step_program.specs.declared.step.Operand.{Operand}
use Rattle.step_program.specs.declared.step.Step.{Step}
use Rattle.step_program.specs.declared.step.Step.TheVariants as kind
use Rattle.step_program.specs.Fits.{IsWidth}
use Rattle.net_compile.specs.Quick.{IsQuick}
use Rattle.step_program.specs.declared.step.Calculation.TheVariants as calc
use Rattle.net_compile.specs.Stands.{HasKind, IsCut, IsJoined}
use Rattle.net_compile.proofs.Numbers.{same_low, all_bits}
use Rattle.net_compile.proofs.Standing.{rare, same_given}

pub cut_all : (d : Draft) (o : Operand) → HasKind d o.slot o.width → IsCut d d o 0 o.width o.slot
cut_all d o h = record {
  there = h;
  value = λ words given i l. all_bits o.width (value_in d words given o.slot) l;
}

pub cut_narrow : (a b : Draft) (o : Operand) (k from w : ℕ) (t : Take) (slot : Slot) → o.slot ≡ at.Narrow k
    → HasStep a b (kind.Take t) slot
    → ((xs : List ℕ) → take_value xs t ≡ ops.select (pos from) w (slice_index xs k)) → is_narrow_width w ≡ true
    → IsCut a b o from w slot
cut_narrow a b o k from w t slot e h is narrow = record {
  there = record { placed = h.placed; kind = h.kind ∙ sym narrow };
  value = λ words given i l.
      h.value words given i ∙ is (after words given a.steps).narrow
      ∙ ap (λ s. ops.select (pos from) w (value_in a words given s)) (sym e);
}

pub cut_wide : (a b c : Draft) (o : Operand) (from w : ℕ) (place slot : Slot) → from < 2 ^ 8 → IsPlaced a o.slot
    → HasStep a b (rare 8 (calc.Constant from)) place
    → HasStep b c (rare w (calc.Select o (record { of = record { slot = place; width = 8 }; signed = false }))) slot
    → IsCut a c o from w slot
cut_wide a b c o from w place slot small there g h = record {
  there = record { placed = h.placed; kind = h.kind };
  value = λ words given i l.
      let number : ops.low 8 (value_in b words given place) ≡ from =
      ap (λ n. ops.low 8 n) (g.value words given i) ∙ same_low 8 from small in
      h.value words given (same_given b.narrow b.wide a.narrow a.wide given g.narrow g.wide i)
      ∙ ap (λ n. ops.select (pos n) w (ops.low o.width (value_in b words given o.slot))) number
      ∙ ap (λ n. ops.select (pos from) w (ops.low o.width n)) (g.same words given o.slot i there)
      ∙ ap (λ n. ops.select (pos from) w n) (same_low o.width (value_in a words given o.slot) l);
}

pub concat_joins : (a b : Draft) (x y : Operand) (step : Step) (slot : Slot) → HasKind a x.slot x.width
    → HasKind a y.slot y.width → IsWidth x.width → IsWidth y.width → IsQuick (x.width + y.width) (calc.Concat x y) step
    → HasStep a b step slot → IsJoined a b x y slot
concat_joins a b x y step slot k j wide wide_too q h = record {
  there = record { placed = h.placed; kind = h.kind ∙ q.kind };
  value = λ words given i l m.
      h.value words given i
      ∙ q.value words (after words given a.steps) (narrow_count a) (wide_count a)
      ((k.placed, wide), (j.placed, wide_too), refl)
      (record { fits = l; kind = k.kind }, record { fits = m; kind = j.kind })
      ∙ ap (λ n. ops.concat y.width n (ops.low y.width (value_in a words given y.slot)))
      (same_low x.width (value_in a words given x.slot) l)
      ∙ ap (λ n. ops.concat y.width (value_in a words given x.slot) n)
      (same_low y.width (value_in a words given y.slot) m);
}
