-- The plain trees of the program's items that are no declarations and hold no other items.
use Rattle.std.proofs.Common.{◌≡◌, List, rules, map}
use Rattle.std.specs.Prelude.{Option}
use Rattle.std.specs.Option.{option_map}
use Rattle.dt_core.specs.declared.place.Place.{Place}
use Rattle.vl_tree.specs.declared.expression.Name.{Name}
use Rattle.vl_tree.specs.declared.statement.Stmt.{Stmt}
use Rattle.vl_tree.specs.declared.item.Event.{Event}
use Rattle.vl_tree.specs.declared.item.Function.{Function}
use Rattle.vl_tree.specs.declared.item.Binds.{Binds}
use Rattle.vl_tree.specs.declared.item.Instance.{Instance}
use Rattle.vl_tree.specs.declared.item.Item.{the_lemmas}
use Rattle.vl_tree.specs.declared.item.Item.TheVariants as x
use Rattle.vl_tree.specs.Syntax as t
use Rattle.vl_tree.specs.SyntaxView.{place, name, stmt, event, function, binds, instance, item}

pub item-always : (p : Place) (e : Event) (b : Stmt) → item (x.Always p e b) ≡ t.always (place p) (event e) (stmt b)
item-always p e b = search (rules, the_lemmas)

pub item-initial : (p : Place) (b : Stmt) → item (x.Initial p b) ≡ t.initial (place p) (stmt b)
item-initial p b = search (rules, the_lemmas)

pub item-function : (f : Function) → item (x.Function f) ≡ t.function (function f)
item-function f = search (rules, the_lemmas)

pub item-instances : (n : Name) (b : Option (Option Binds)) (is : List Instance)
    → item (x.Instances n b is) ≡ t.instances (name n) (option_map (option_map binds) b) (map instance is)
item-instances n b is = search (rules, the_lemmas)
