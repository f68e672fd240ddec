-- The plain trees of items that declare nets.
use Rattle.std.proofs.Common.{◌≡◌, Bool, List, rules, map, ap, ◌∙◌}
use Rattle.std.specs.Prelude.{Option}
use Rattle.std.specs.Option.{option_map}
use Rattle.dt_core.specs.declared.place.Place.{Place}
use Rattle.vl_tree.specs.declared.expression.Range.{Range}
use Rattle.vl_tree.specs.declared.item.Net.{Net}
use Rattle.vl_tree.specs.declared.item.Item.{Item, the_lemmas}
use Rattle.vl_tree.specs.declared.item.Item.TheVariants as x
use Rattle.vl_tree.specs.Syntax as t
use Rattle.vl_tree.specs.SyntaxView as view
use Rattle.vl_tree.specs.SyntaxView.{item}

item-nets : (p : Place) (s : Bool) (r : Option Range) (ns : List Net)
    → item (x.Nets p s r ns) ≡ t.nets (view.place p) s (option_map view.range r) (map view.net ns)
item-nets p s r ns = search (rules, the_lemmas)

pub nets_is : (i : Item) (p : Place) (s : Bool) (r : Option Range) (ns : List Net) → i ≡ x.Nets p s r ns
    → item i ≡ t.nets (view.place p) s (option_map view.range r) (map view.net ns)
nets_is i p s r ns e = ap item e ∙ item-nets p s r ns
