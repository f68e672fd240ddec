-- Names that expressions and edges are. This project's own.
use Rattle.std.specs.Prelude.{◌≡◌, List, [], ◌∷◌, ◌++◌, map, Option, Some, None}
use Rattle.std.specs.Borrow.{Bor}
use Rattle.vl_tree.specs.declared.expression.Name.{Name}
use Rattle.vl_tree.specs.Syntax.{Expr, read, no_select, Sensed, Event, positive_edge, sensed, Item, Items, always, region, no_item, more_item}
use Rattle.vl_tree.specs.SyntaxView as view
use Rattle.vl_value.specs.Paths.{Text}
use Rattle.vl_design.specs.Lists.{each_of}

abbrev pub texts : List (Bor Name) → List Text
texts = map (λ n. (view.name n.now).text)

-- these were added
abbrev pub Adds : List Text → List (Bor Name) → List (Bor Name) → Type 0
Adds xs old new = texts new ≡ texts old ++ xs

abbrev pub listed : Option (Bor Name) → List Text
listed None = []
listed (Some n) = (view.name n.now).text ∷ []

-- the name that an expression is
abbrev pub plain_names : Expr → List Text
plain_names (read x no_select) = x.text ∷ []
plain_names _ = []

abbrev pub edge_names : Sensed → List Text
edge_names e = elim e.edge [ positive_edge p ↦ plain_names e.signal | _ ↦ [] ]

abbrev pub event_names : Event → List Text
event_names (sensed es) = each_of edge_names es
event_names _ = []

abbrev mutual
  pub clock_names_by : Item → List Text
  clock_names_by (always p e b) = event_names e
  clock_names_by (region p is) = clock_names_in is
  clock_names_by _ = []

  pub clock_names_in : Items → List Text
  clock_names_in no_item = []
  clock_names_in (more_item i is) = clock_names_by i ++ clock_names_in is
