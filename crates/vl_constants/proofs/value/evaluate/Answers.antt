use Rattle.std.proofs.Common.{sym, ap, ◌∙◌, [], ◌∷◌, if◌then◌else◌}
use Rattle.vl_tree.specs.SyntaxView as view
use Rattle.vl_tree.specs.declared.fault.FaultKind.TheVariants.{NotConstant}
use Rattle.vl_value.specs.Order.{at, least}
use Rattle.vl_width.specs.Terms.{meant}
use Rattle.vl_design.specs.Constants as design
use Rattle.vl_constants.specs.Needed.{constants_of, faulty_in}
use Rattle.vl_constants.proofs.Evaluating.{is_value, nothing_needed, constant_needed}
use Rattle.vl_constants.proofs.value.evaluate.Goals as goal

pub returns-in-Some : goal.returns-in-Some
returns-in-Some c =
    let k = constants_of c.args.frames.now in let e = view.expr c.args.e.now in
    let h = rw c.in-Some.is at c.in_ok-known.ensures in
    record {
      place = c.start-place.ensures;
      value = h ∙ is_value k e;
      fault = sym (ap least (nothing_needed k e (meant c.in-Some.known) h));
    }

pub returns-in-None : goal.returns-in-None
returns-in-None c =
    let k = constants_of c.args.frames.now in let e = view.expr c.args.e.now in
    let h = rw c.in-None.is at c.in_ok-known.ensures in
    record {
      place = c.start-place.ensures;
      value = h ∙ is_value k e;
      fault = c.not_constant.ensures
          ∙ ap (λ p. least (if design.mentions (faulty_in c.args.frames.now) e then [] else at p NotConstant ∷ [])) c.start-place.ensures
          ∙ sym (ap least (constant_needed k e h));
    }
