use Rattle.std.proofs.Common.{◌≡◌, false, true, ap, sym, ◌∙◌, refl, subst, if◌then◌else◌}
use Rattle.std.specs.Prelude.{IfOk}
use Rattle.bit_ops.specs.Applied as applied
use Rattle.vl_width.specs.Terms as terms
use Rattle.vl_nodes.specs.Sense.{Sense, on_two, kept}
use Rattle.vl_nodes.specs.Calls.{MakesAt}
use Rattle.vl_nodes.proofs.Making.{grows_none}
use Rattle.vl_vectors.proofs.Joining as joining
use Rattle.vl_operated.specs.Shifts.{is_shift}
use Rattle.vl_operated.proofs.Sizes.{shift_width, shift_is}
use Rattle.vl_operated.proofs.operated.shifted.Goals as goal

pub returns-then-is_shift-clause-made : goal.returns-then-is_shift-clause-made
returns-then-is_shift-clause-made c = λ g x y i j.
    let n0 = c.args.nodes.now in let n1 = c.binary.new.self in let r = c.binary.result in
    let w = c.args.size.width in let s = c.args.size.signed in let f = c.args.operator in let u = c.args.left.width in
    let yes : is_shift f ≡ true = sym c.if-is_shift.ensures in
    let z : Sense = on_two (applied.binary f s u) x y in
    joining.then g n0 n0 n1 w z (on_two (terms.shift_at f s w) x y) r (grows_none g n0)
    (subst (λ k. IfOk r (MakesAt g n0 n1 k z)) (ap (applied.binary_width f) c.requires ∙ shift_width f w yes)
    (c.binary.ensures.made g x y i j))
    (λ v fit. ap (λ k. applied.binary f s k (x.value v) (y.value v)) c.requires
    ∙ sym (shift_is f s w (x.value v) (y.value v)
    ∙ ap (λ b. if b then applied.binary f s w (x.value v) (y.value v) else x.value v) yes))
    (λ q some. refl)

pub returns-else-is_shift-clause-made : goal.returns-else-is_shift-clause-made
returns-else-is_shift-clause-made c = λ g x y i j.
    let n0 = c.args.nodes.now in let n1 = c.keep.new.self in let r = c.keep.result in
    let w = c.args.size.width in let s = c.args.size.signed in let f = c.args.operator in
    let no : is_shift f ≡ false = sym c.if-is_shift.ensures in
    let z : Sense = on_two kept x y in
    joining.then g n0 n0 n1 w z (on_two (terms.shift_at f s w) x y) r (grows_none g n0)
    (subst (λ k. IfOk r (MakesAt g n0 n1 k z)) c.requires (c.keep.ensures.made g x y i j))
    (λ v fit. sym (shift_is f s w (x.value v) (y.value v)
    ∙ ap (λ b. if b then applied.binary f s w (x.value v) (y.value v) else x.value v) no))
    (λ q some. refl)
