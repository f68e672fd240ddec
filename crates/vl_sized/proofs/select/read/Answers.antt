use Rattle.std.proofs.Common.{◌∙◌, ap, sym, map}
use Rattle.std.specs.Prelude.{Ok}
use Rattle.std.specs.Option.{option_map}
use Rattle.vl_tree.specs.SyntaxView as view
use Rattle.vl_value.specs.Order.{lesser}
use Rattle.vl_width.specs.Objects.{thing}
use Rattle.vl_sized.specs.Sensed as sensed
use Rattle.vl_found.specs.View.{found}
use Rattle.vl_sized.specs.Told.{told}
use Rattle.vl_sized.specs.Plain.{plain_pick}
use Rattle.vl_sized.proofs.select.read.Goals as goal

pub returns-in-Some : goal.returns-in-Some
returns-in-Some c = λ ns.
    let o = option_map (thing ns) c.args.object in let p = view.place c.args.place in
    let f = option_map found c.args.picks.fault in let ks = map (plain_pick ns) c.args.picks.list in
    let own = c.of_name-own.ensures ns ∙ ap (λ l. sensed.of_name o p f (map (plain_pick ns) l)) c.as_slice.ensures in
    ap (λ q. told q (sensed.named o ks)) (sym (ap (option_map found) c.in-Some.is) ∙ c.lesser.ensures ∙ ap (lesser f) own)

pub returns-in-None : goal.returns-in-None
returns-in-None c = λ ns.
    let o = option_map (thing ns) c.args.object in let p = view.place c.args.place in
    let f = option_map found c.args.picks.fault in let ks = map (plain_pick ns) c.args.picks.list in
    let own = c.of_name-own.ensures ns ∙ ap (λ l. sensed.of_name o p f (map (plain_pick ns) l)) c.as_slice.ensures in
    ap Ok (c.named.ensures ns)
    ∙ ap (λ q. told q (sensed.named o ks)) (sym (ap (option_map found) c.in-None.is) ∙ c.lesser.ensures ∙ ap (lesser f) own)
