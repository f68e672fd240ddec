use Rattle.std.proofs.Common.{◌≡◌, Some, map, sym, ap, subst, ◌∙◌}
use Rattle.vl_tree.specs.SyntaxView as view
use Rattle.vl_value.specs.Order.{least}
use Rattle.vl_width.specs.Lists.{exprs_of}
use Rattle.vl_design.specs.Parameters.{given_in_order, value_order_faults}
use Rattle.vl_constants.specs.Needed.{constants_of}
use Rattle.vl_parameters.specs.Gifts.{GivesAll}
use Rattle.vl_parameters.specs.Open.{texts_of}
use Rattle.vl_parameters.proofs.Giving.{exprs-map}
use Rattle.vl_parameters.proofs.given.given_in.Goals as goal

pub returns-in-Ordered : goal.returns-in-Ordered
returns-in-Ordered c =
    let g = constants_of c.args.frames.now in let m = view.module_tree c.args.parent.now in
    let names = ap texts_of c.as_slice.ensures.value ∙ c.in_ok-texts.ensures in
    let es : exprs_of c.as_slice-in-Ordered.result.now ≡ view.exprs (map view.expr c.in-Ordered.all) = ap exprs_of c.as_slice-in-Ordered.ensures ∙ sym (exprs-map c.in-Ordered.all) in
    let b = ap (λ y. Some (Some (view.binds y))) c.in-Ordered.is in
    let gift = c.in_ok-gift-in-Ordered in
    subst (λ y. GivesAll g m y gift.gift.given.items gift.gift.fault) (sym b)
    (record {
      given = gift.ensures.given ∙ (λ i. given_in_order g (names i) (es i));
      fault = gift.ensures.fault ∙ (λ i. least (value_order_faults g (names i) (es i)));
    })
