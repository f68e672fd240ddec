-- Clock names as far as the top's inputs go (this project's own): a name behind `posedge`, and a name that is connected to an
-- input port that is one.
use Rattle.std.specs.Prelude.{Bool, true, false, ◌&&◌, if◌then◌else◌, List, [], ◌∷◌, ◌++◌, Option, Some, None}
use Rattle.vl_tree.specs.Syntax.{Expr, read, Exprs, more_expr, no_select, positive_edge, Sensed, sensed, Item, Items, always, region, no_item, more_item, Binds, ordered, by_name, NamedBind, Module, input, Port, declared_port, named_port, Name}
use Rattle.vl_value.specs.Paths.{Text, Path, below}
use Rattle.vl_value.specs.Constant.{Sight}
use Rattle.vl_design.specs.Lists.{each_of}
use Rattle.vl_design.specs.Scopes.{Scope, Level, levels, instance_of, ports_of}
use Rattle.vl_design.specs.Objects.{Object, objects, object_at, sight}
use Rattle.vl_design.specs.LoopVariables.{object_path, is_path_in}

-- the net or variable that a plain name stands for
abbrev pub plain_path : Sight → Expr → List Path
plain_path s (read x no_select) = object_path (s x.text)
plain_path s _ = []

abbrev pub edge_paths : Sight → Sensed → List Path
edge_paths s e = elim e.edge [ positive_edge p ↦ plain_path s e.signal | _ ↦ [] ]

abbrev mutual
  pub clocked_by : Sight → Item → List Path
  clocked_by s (always p (sensed es) b) = each_of (edge_paths s) es
  clocked_by s (region p is) = clocked_in s is
  clocked_by s _ = []

  pub clocked_in : Sight → Items → List Path
  clocked_in s no_item = []
  clocked_in s (more_item i is) = clocked_by s i ++ clocked_in s is

-- ---- connections of input ports: a port's name, and what is connected to it

abbrev pub port_name : Port → Name
port_name (declared_port d x) = x
port_name (named_port x) = x

abbrev pub in_order : List Port → Exprs → List (Text × Expr)
in_order (p ∷ ps) (more_expr e es) = ((port_name p).text, e) ∷ in_order ps es
in_order _ _ = []

abbrev pub by_names : List NamedBind → List (Text × Expr)
by_names [] = []
by_names (b ∷ bs) = elim b.value [ Some e ↦ (b.name.text, e) ∷ by_names bs | None ↦ by_names bs ]

abbrev pub connected : Module → Option Binds → List (Text × Expr)
connected m None = []
connected m (Some (ordered es)) = in_order (ports_of m) es
connected m (Some (by_name bs)) = by_names bs

abbrev pub is_input : Option Object → Bool
is_input (Some o) = elim o.direction [ Some input ↦ true | _ ↦ false ]
is_input None = false

-- the parent's names at those inputs that are clock names
abbrev pub passed_up : List Path → Level → Sight → List (Text × Expr) → List Path
passed_up clocks l s [] = []
passed_up clocks l s (c ∷ cs) = (if is_input (object_at (objects l) c.0) && is_path_in clocks (below l.path c.0)
    then plain_path s c.1 else []) ++ passed_up clocks l s cs

abbrev pub from_inside : List Path → Scope → List Path
from_inside clocks s = elim s.origin [
  | instance_of m (Some j) ↦ passed_up clocks s.level (sight j.outer) (connected m j.binds)
  | _ ↦ []
]

-- what is inside a scope stands behind it in preorder
abbrev pub clocks_at_top : List Scope → List Path
clocks_at_top [] = []
clocks_at_top (s ∷ ss) = let inner : List Path = clocked_in (sight (levels s)) s.items ++ clocks_at_top ss in
    from_inside inner s ++ inner
