-- The connections of an instance (IEEE 1364-2005, 12.3.3 to 12.3.6), each with the place at which it stands as a driver or a
-- fault: the port's name, or in an ordered list the first token of the expression. The places are this project's own.
use Rattle.std.specs.Prelude.{List, [], ◌∷◌, Option, Some, None}
use Rattle.vl_tree.specs.Syntax.{Place, Name, Expr, Exprs, more_expr, Binds, ordered, by_name, NamedBind, Port, Module}
use Rattle.vl_value.specs.Paths.{Text, Path, below}
use Rattle.vl_value.specs.Faults.{start}
use Rattle.vl_design.specs.Lists.{each_of}
use Rattle.vl_design.specs.Scopes.{Scope, Level, instance_of, ports_of}
use Rattle.vl_design.specs.Objects.{Object, objects, object_at}
use Rattle.vl_design.specs.Clocks.{port_name}

-- a port's name and what is connected to it
pub record Bound : Type 0 where
  pub port : Text
  pub place : Place
  pub value : Expr

abbrev pub in_order : List Port → Exprs → List Bound
in_order (p ∷ ps) (more_expr e es) =
    record { port = (port_name p).text; place = start e; value = e } ∷ in_order ps es
in_order _ _ = []

abbrev pub by_names : List NamedBind → List Bound
by_names [] = []
by_names (b ∷ bs) = elim b.value [
  | Some e ↦ record { port = b.name.text; place = b.name.place; value = e } ∷ by_names bs
  | None ↦ by_names bs
]

abbrev pub bound : Module → Option Binds → List Bound
bound m None = []
bound m (Some (ordered es)) = in_order (ports_of m) es
bound m (Some (by_name bs)) = by_names bs

-- a port of an instance, and an expression in the scopes around the instance
pub record Connection : Type 0 where
  pub scope : Scope
  pub outer : List Level
  pub port : Object
  pub place : Place
  pub value : Expr

abbrev pub connection : Scope → List Level → Bound → List Connection
connection s outer b = elim (object_at (objects s.level) b.port) [
  | Some o ↦ record { scope = s; outer = outer; port = o; place = b.place; value = b.value } ∷ []
  | None ↦ []
]

abbrev pub connections : Scope → List Connection
connections s = elim s.origin [
  | instance_of m (Some j) ↦ each_of (connection s j.outer) (bound m j.binds)
  | _ ↦ []
]

abbrev pub port_path : Connection → Path
port_path c = below c.scope.level.path c.port.name.text

-- the port's name, where the connection stands
abbrev pub named_port : Connection → Name
named_port c = record { text = c.port.name.text; place = c.place }
