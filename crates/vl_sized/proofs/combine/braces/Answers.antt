use Rattle.std.proofs.Common.{◌∙◌, ap, sym, map}
use Rattle.std.specs.Prelude.{Ok}
use Rattle.vl_tree.specs.SyntaxView as view
use Rattle.vl_sized.specs.Moments.{still}
use Rattle.vl_sized.specs.Sensed as sensed
use Rattle.vl_sized.specs.Wholes.{if_width}
use Rattle.vl_sized.specs.Plain.{sense_of, judged, width_together}
use Rattle.vl_sized.proofs.Senses.{together_is}
use Rattle.vl_sized.proofs.Copies.{braces_some, braces_none}
use Rattle.vl_sized.proofs.combine.braces.Goals as goal

pub returns-in-Some : goal.returns-in-Some
returns-in-Some c = λ ns.
    let xs = c.in-Ok.parts in
    let k = c.together.ensures ∙ ap (λ ps. if_width (width_together ps)) c.as_slice.ensures in
    ap Ok (c.braces.ensures ns)
    ∙ braces_some (view.place c.args.place) (map (sense_of ns) xs) (width_together xs) c.in-Some.width (together_is ns still xs) (sym c.in-Some.is ∙ k)
    ∙ sym (ap (λ r. sensed.braces_sensed (view.place c.args.place) (judged (map (sense_of ns)) r)) c.in-Ok.is)

pub returns-in-None : goal.returns-in-None
returns-in-None c = λ ns.
    let xs = c.in-Ok.parts in
    let k = c.together.ensures ∙ ap (λ ps. if_width (width_together ps)) c.as_slice.ensures in
    braces_none (view.place c.args.place) (map (sense_of ns) xs) (width_together xs) (together_is ns still xs) (sym c.in-None.is ∙ k)
    ∙ sym (ap (λ r. sensed.braces_sensed (view.place c.args.place) (judged (map (sense_of ns)) r)) c.in-Ok.is)
