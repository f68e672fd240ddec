-- The plain tree of an item that makes instances.
use Rattle.std.proofs.Common.{◌≡◌, List, rules, map, sym, ap, ◌∙◌}
use Rattle.std.specs.Prelude.{Option}
use Rattle.std.specs.Option.{option_map}
use Rattle.vl_tree.specs.declared.expression.Name.{Name}
use Rattle.vl_tree.specs.declared.item.Binds.{Binds}
use Rattle.vl_tree.specs.declared.item.Instance.{Instance}
use Rattle.vl_tree.specs.declared.item.Item.{Item, the_lemmas}
use Rattle.vl_tree.specs.declared.item.Item.TheVariants as x
use Rattle.vl_tree.specs.Syntax as t
use Rattle.vl_tree.specs.SyntaxView as view
use Rattle.vl_tree.specs.SyntaxView.{item}

item-instances : (n : Name) (ps : Option (Option Binds)) (is : List Instance)
    → item (x.Instances n ps is) ≡ t.instances (view.name n) (option_map (option_map view.binds) ps) (map view.instance is)
item-instances n ps is = search (rules, the_lemmas)

pub instances_are : (i : Item) (n : Name) (ps : Option (Option Binds)) (is slice : List Instance) → i ≡ x.Instances n ps is → slice ≡ is
    → item i ≡ t.instances (view.name n) (option_map (option_map view.binds) ps) (map view.instance slice)
instances_are i n ps is slice e s = ap item e ∙ item-instances n ps is
    ∙ ap (λ y. t.instances (view.name n) (option_map (option_map view.binds) ps) (map view.instance y)) (sym s)
