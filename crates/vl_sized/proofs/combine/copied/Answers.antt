use Rattle.std.proofs.Common.{◌∙◌, ap, sym, map, None}
use Rattle.std.specs.Prelude.{Ok}
use Rattle.std.specs.Option.{option_map}
use Rattle.vl_tree.specs.SyntaxView as view
use Rattle.vl_value.specs.Order.{lesser}
use Rattle.vl_sized.specs.Moments.{still}
use Rattle.vl_sized.specs.Sensed as sensed
use Rattle.vl_found.specs.View.{found}
use Rattle.vl_sized.specs.Told.{told}
use Rattle.vl_sized.specs.Nodes.{whole_of}
use Rattle.vl_sized.specs.Wholes.{if_width}
use Rattle.vl_sized.specs.Plain.{sense_of, judged, width_together}
use Rattle.vl_sized.proofs.Senses.{together_is}
use Rattle.vl_sized.proofs.combine.copied.Goals as goal

pub returns-in-Some : goal.returns-in-Some
returns-in-Some c = λ ns.
    let xs = c.in-Ok.parts in let p = view.place c.args.place in let n = option_map whole_of c.args.count in
    let o = option_map found c.args.needed in
    let k = c.together.ensures ∙ ap (λ ps. if_width (width_together ps)) c.as_slice.ensures in
    let own = c.if_copied-own.ensures (width_together xs) k ∙ ap (sensed.if_copied p None n) (together_is ns still xs) in
    ap (λ q. told q (sensed.copied_sense n (map (sense_of ns) xs))) (sym (ap (option_map found) c.in-Some.is) ∙ c.lesser.ensures ∙ ap (lesser o) own)
    ∙ sym (ap (λ r. sensed.copies_sensed p n o (judged (map (sense_of ns)) r)) c.in-Ok.is)

pub returns-in-None : goal.returns-in-None
returns-in-None c = λ ns.
    let xs = c.in-Ok.parts in let p = view.place c.args.place in let n = option_map whole_of c.args.count in
    let o = option_map found c.args.needed in
    let k = c.together.ensures ∙ ap (λ ps. if_width (width_together ps)) c.as_slice.ensures in
    let own = c.if_copied-own.ensures (width_together xs) k ∙ ap (sensed.if_copied p None n) (together_is ns still xs) in
    ap Ok (c.copies.ensures ns)
    ∙ ap (λ q. told q (sensed.copied_sense n (map (sense_of ns) xs))) (sym (ap (option_map found) c.in-None.is) ∙ c.lesser.ensures ∙ ap (lesser o) own)
    ∙ sym (ap (λ r. sensed.copies_sensed p n o (judged (map (sense_of ns)) r)) c.in-Ok.is)
