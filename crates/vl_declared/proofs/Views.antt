-- The plain trees of the program's items that declare names.
use Rattle.std.proofs.Common.{◌≡◌, List, rules, map}
use Rattle.std.specs.Prelude.{Bool, Option}
use Rattle.std.specs.Option.{option_map}
use Rattle.dt_core.specs.declared.place.Place.{Place}
use Rattle.vl_tree.specs.declared.expression.Name.{Name}
use Rattle.vl_tree.specs.declared.expression.Range.{Range}
use Rattle.vl_tree.specs.declared.item.Valued.{Valued}
use Rattle.vl_tree.specs.declared.item.Directed.{Directed}
use Rattle.vl_tree.specs.declared.item.Net.{Net}
use Rattle.vl_tree.specs.declared.item.Variable.{Variable}
use Rattle.vl_tree.specs.declared.item.Driven.{Driven}
use Rattle.vl_tree.specs.declared.item.Item.{the_lemmas}
use Rattle.vl_tree.specs.declared.item.Item.TheVariants as x
use Rattle.vl_tree.specs.Syntax as t
use Rattle.vl_tree.specs.SyntaxView.{place, name, range, valued, directed, net, variable, driven, item}

pub item-parameter : (p : Place) (l s : Bool) (r : Option Range) (vs : List Valued)
    → item (x.Parameter p l s r vs) ≡ t.parameter (place p) l s (option_map range r) (map valued vs)
item-parameter p l s r vs = search (rules, the_lemmas)

pub item-directed : (d : Directed) (ns : List Name) → item (x.Directed d ns) ≡ t.directed (directed d) (map name ns)
item-directed d ns = search (rules, the_lemmas)

pub item-nets : (p : Place) (s : Bool) (r : Option Range) (ns : List Net)
    → item (x.Nets p s r ns) ≡ t.nets (place p) s (option_map range r) (map net ns)
item-nets p s r ns = search (rules, the_lemmas)

pub item-registers : (p : Place) (s : Bool) (r : Option Range) (vs : List Variable)
    → item (x.Registers p s r vs) ≡ t.registers (place p) s (option_map range r) (map variable vs)
item-registers p s r vs = search (rules, the_lemmas)

pub item-integer : (p : Place) (vs : List Variable) → item (x.Integer p vs) ≡ t.integer (place p) (map variable vs)
item-integer p vs = search (rules, the_lemmas)

pub item-genvar : (p : Place) (ns : List Name) → item (x.Genvar p ns) ≡ t.genvar (place p) (map name ns)
item-genvar p ns = search (rules, the_lemmas)

pub item-continuous : (p : Place) (ds : List Driven) → item (x.Continuous p ds) ≡ t.continuous (place p) (map driven ds)
item-continuous p ds = search (rules, the_lemmas)
