-- What drives and what clocks a design (IEEE 1364-2005, 6.1, 12.3 and 9.9): continuous assignments, nets declared with a value,
-- connections, clocked blocks, and what gives variables their first values. All in the order of the numbering: by scope in
-- preorder, then by text; the connections of an instance stand before its items.
use Rattle.std.specs.Prelude.{Bool, true, false, not, if◌then◌else◌, List, [], ◌∷◌, ◌++◌, map, filter, Some}
use Rattle.std.specs.List.{list_any}
use Rattle.vl_tree.specs.Syntax.{Place, Expr, Exprs, Target, Targets, name, targets, no_target, more_target, read, concat, no_expr, more_expr, no_select, blocking, Stmt, assign, Edge, positive_edge, negative_edge, no_edge, Sensed, Event, sensed}
use Rattle.vl_value.specs.Paths.{Path}
use Rattle.vl_value.specs.Constant.{Sight}
use Rattle.vl_value.specs.Faults.{start}
use Rattle.vl_design.specs.Lists.{each_of}
use Rattle.vl_design.specs.Scopes.{Scope, levels}
use Rattle.vl_design.specs.Objects.{sight}
use Rattle.vl_design.specs.LoopVariables.{is_path_in}
use Rattle.vl_design.specs.Clocks.{is_input}
use Rattle.vl_design.specs.Design.{Design, Piece, assigns, net_value, first_value, process, starts, pieces_in}
use Rattle.vl_process.specs.Texts.{path_text}
use Rattle.vl_process.specs.Connections.{Connection, connections, port_path, named_port}
use Rattle.vl_process.specs.Clocks.{clock_names}
use Rattle.vl_process.specs.Statement.{Station, Store, Write, Outcome, execute, context, writes_of}
use Rattle.vl_value.specs.Meaning.{meaning}
use Rattle.vl_process.specs.Aims.{Aimed, aims, may_assign}

-- the names in sight in a scope
abbrev pub scope_sight : Scope → Sight
scope_sight s = sight (levels s)

-- ---- drivers

-- what drives bits at every moment: a target, the value that it takes, and the names in sight of each. A combinational block
-- is to be another.
pub data Driver : Type 0 where
  assignment : Sight → Target → Sight → Expr → Driver

-- an expression as a target: a name with its selects, or such in braces; anything else is none, which is a fault
abbrev mutual
  pub target_of : Expr → Target
  target_of (read x ks) = name x ks
  target_of (concat p es) = targets p (targets_of es)
  target_of e = targets (start e) no_target

  pub targets_of : Exprs → Targets
  targets_of no_expr = no_target
  targets_of (more_expr e es) = more_target (target_of e) (targets_of es)

-- from the expression to an input port, from an output port to a net (12.3.9.2)
abbrev pub connection_driver : Connection → Driver
connection_driver c = if is_input (Some c.port)
    then assignment (scope_sight c.scope) (name (named_port c) no_select) (sight c.outer) c.value
    else assignment (sight c.outer) (target_of c.value) (scope_sight c.scope) (read (named_port c) no_select)

-- a clock's name is handed down, and drives nothing
abbrev pub hands_a_clock : List Path → Connection → Bool
hands_a_clock clocks c = is_path_in clocks (port_path c)

abbrev pub connection_drivers : List Path → Scope → List Driver
connection_drivers clocks s = map connection_driver (filter (λ c. not (hands_a_clock clocks c)) (connections s))

abbrev pub piece_drivers : Sight → Piece → List Driver
piece_drivers s (assigns d) = assignment s d.target s d.value ∷ []
piece_drivers s (net_value x e) = assignment s (name x no_select) s e ∷ []
piece_drivers s _ = []

abbrev pub scope_drivers : List Path → Scope → List Driver
scope_drivers clocks s =
    connection_drivers clocks s ++ each_of (piece_drivers (scope_sight s)) (pieces_in s.items)

abbrev pub drivers : Design → List Driver
drivers d = each_of (scope_drivers (clock_names d.scopes)) d.scopes

-- the writes with which a driver drives its bits at a moment
abbrev pub driven : Store → Driver → List Write
driven m (assignment s g u e) =
    writes_of (context (record { sight = s; path = [] }) m) g (meaning (context (record { sight = u; path = [] }) m) e)

abbrev pub driver_aims : Driver → List Aimed
driver_aims (assignment s g u e) = aims s g

-- ---- blocks

-- a block: where its `always` or `initial` stands, its scope, and its statement
pub record Block : Type 0 where
  pub place : Place
  pub scope : Scope
  pub station : Station
  pub body : Stmt

abbrev pub station_of : Design → Scope → Station
station_of d s = record { sight = scope_sight s; path = path_text d s.level.path }

abbrev pub block_in : Design → Scope → Place → Stmt → Block
block_in d s p b = record { place = p; scope = s; station = station_of d s; body = b }

-- a block that waits for an edge is clocked, another one combinational (9.7.2)
abbrev pub is_edge : Edge → Bool
is_edge (positive_edge p) = true
is_edge (negative_edge p) = true
is_edge no_edge = false

abbrev pub has_edge : Event → Bool
has_edge (sensed es) = list_any (λ (e : Sensed). is_edge e.edge) es
has_edge _ = false

abbrev pub clocked_block : Design → Scope → Piece → List Block
clocked_block d s (process p e b) = if has_edge e then block_in d s p b ∷ [] else []
clocked_block d s _ = []

abbrev pub scope_blocks : Design → Scope → List Block
scope_blocks d s = each_of (clocked_block d s) (pieces_in s.items)

abbrev pub blocks : Design → List Block
blocks d = each_of (scope_blocks d) d.scopes

abbrev pub executed : Store → Block → Outcome
executed m b = execute b.station m b.body

abbrev pub block_aims : Block → List Aimed
block_aims b = may_assign b.station.sight b.body

-- ---- first values (6.2.1, 9.9.1): those of declarations, and then `initial` blocks

abbrev pub declared_start : Design → Scope → Piece → List Block
declared_start d s (first_value x e) = block_in d s x.place (assign (name x no_select) blocking x.place e) ∷ []
declared_start d s _ = []

abbrev pub initial_block : Design → Scope → Piece → List Block
initial_block d s (starts p b) = block_in d s p b ∷ []
initial_block d s _ = []

abbrev pub all_blocks : (Design → Scope → Piece → List Block) → Design → List Block
all_blocks f d = each_of (λ s. each_of (f d s) (pieces_in s.items)) d.scopes

abbrev pub starting_blocks : Design → List Block
starting_blocks d = all_blocks declared_start d ++ all_blocks initial_block d
