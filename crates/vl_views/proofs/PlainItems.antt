-- The plain trees of items that declare parameters, ports, nets, variables, genvars, functions and instances.
use Rattle.std.proofs.Common.{◌≡◌, Bool, List, rules, map, refl, ap, ◌∙◌}
use Rattle.std.specs.Prelude.{Option}
use Rattle.std.specs.Option.{option_map}
use Rattle.dt_core.specs.declared.place.Place.{Place}
use Rattle.vl_tree.specs.declared.expression.Name as code
use Rattle.vl_tree.specs.declared.expression.Range.{Range}
use Rattle.vl_tree.specs.declared.item.Valued.{Valued}
use Rattle.vl_tree.specs.declared.item.Item.{Item, the_lemmas}
use Rattle.vl_tree.specs.declared.item.Item.TheVariants as x
use Rattle.vl_tree.specs.Syntax as t
use Rattle.vl_tree.specs.SyntaxView as view
use Rattle.vl_tree.specs.SyntaxView.{item}

item-parameter : (p : Place) (l s : Bool) (r : Option Range) (vs : List Valued)
    → item (x.Parameter p l s r vs) ≡ t.parameter (view.place p) l s (option_map view.range r) (map view.valued vs)
item-parameter p l s r vs = search (rules, the_lemmas)

pub parameter_is : (i : Item) (p : Place) (l s : Bool) (r : Option Range) (vs : List Valued) → i ≡ x.Parameter p l s r vs
    → item i ≡ t.parameter (view.place p) l s (option_map view.range r) (map view.valued vs)
parameter_is i p l s r vs e = ap item e ∙ item-parameter p l s r vs
