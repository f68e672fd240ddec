-- Ports with the plain names that are connected to them. This project's own.
use Rattle.std.specs.Prelude.{◌≡◌, ◌&&◌, if◌then◌else◌, List, [], ◌∷◌, ◌++◌, map, Option, Some, None}
use Rattle.vl_tree.specs.Syntax.{Expr, Exprs, no_expr, more_expr, Port, Binds, ordered, by_name, NamedBind}
use Rattle.vl_tree.specs.SyntaxView as view
use Rattle.vl_value.specs.Paths.{Text, Path, below}
use Rattle.vl_value.specs.Constant.{Sight}
use Rattle.vl_design.specs.Scopes.{Level}
use Rattle.vl_design.specs.Objects.{objects, object_at}
use Rattle.vl_design.specs.LoopVariables.{object_path, is_path_in}
use Rattle.vl_design.specs.Clocks.{in_order, by_names, is_input, port_name}
use Rattle.vl_clocks.specs.Names.{plain_names}
use Rattle.vl_joins.specs.declared.Join as code

pub record Join : Type 0 where
  pub port : Text
  pub name : Text

abbrev pub plain_join : code.Join → Join
plain_join j = record { port = (view.name j.port.now).text; name = (view.name j.name.now).text }

abbrev pub listed_join : Option code.Join → List Join
listed_join None = []
listed_join (Some j) = plain_join j ∷ []

abbrev pub AddsJoins : List Join → List code.Join → List code.Join → Type 0
AddsJoins js old new = map plain_join new ≡ map plain_join old ++ js

-- a port with each of some names
abbrev pub joins_with : Text → List Text → List Join
joins_with x = map (λ n. record { port = x; name = n })

-- those of ports with expressions
abbrev pub joins_of : List (Text × Expr) → List Join
joins_of [] = []
joins_of (c ∷ cs) = joins_with c.0 (plain_names c.1) ++ joins_of cs

-- that of a port with the first of some expressions
abbrev pub joins_at : Port → Exprs → List Join
joins_at p no_expr = []
joins_at p (more_expr e es) = joins_with (port_name p).text (plain_names e)

-- that of a bind by name
abbrev pub joins_bound : NamedBind → List Join
joins_bound b = elim b.value [ Some e ↦ joins_with b.name.text (plain_names e) | None ↦ [] ]

-- what is connected to the ports of a header
abbrev pub connected_by : List Port → Option Binds → List (Text × Expr)
connected_by ps None = []
connected_by ps (Some (ordered es)) = in_order ps es
connected_by ps (Some (by_name bs)) = by_names bs

-- the parent's name at an input that is a clock name
abbrev pub passed_by : List Path → Level → Sight → Join → List Path
passed_by clocks l s j = if is_input (object_at (objects l) j.port) && is_path_in clocks (below l.path j.port)
    then object_path (s j.name) else []
