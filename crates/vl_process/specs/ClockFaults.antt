-- The faults of phase 8 on clocks (this project's own, for one clock): a clock's name is an input port of one bit, and in the top
-- exactly one input; it isn't read, and driven by nothing but a plain clock's name that is connected to it.
use Rattle.std.specs.Prelude.{◌==◌, Bool, false, ◌&&◌, not, if◌then◌else◌, List, [], ◌∷◌, ◌++◌, map, filter, bytes_eq, Option, Some}
use Rattle.std.specs.List.{list_any}
use Rattle.vl_tree.specs.declared.fault.FaultKind.TheVariants.{BadClock, SecondClock, ClockAsData}
use Rattle.vl_tree.specs.Syntax.{Place, Name, Sensed, Event, sensed, positive_edge, Item, Items, no_item, more_item, region, instances, Instance, Binds, by_name, NamedBind}
use Rattle.vl_value.specs.Paths.{Text, Path, named, same_path, below}
use Rattle.vl_value.specs.Things.{width_of}
use Rattle.vl_value.specs.Constant.{Sight}
use Rattle.vl_value.specs.Order.{Found, at}
use Rattle.vl_design.specs.Lists.{each_of}
use Rattle.vl_design.specs.Scopes.{Scope, instance_of}
use Rattle.vl_design.specs.Objects.{Object, objects, sight}
use Rattle.vl_design.specs.LoopVariables.{object_path, is_path_in}
use Rattle.vl_design.specs.Clocks.{plain_path, is_input}
use Rattle.vl_design.specs.Design.{Design, Piece, assigns, net_value, first_value, process, starts, pieces_in}
use Rattle.vl_process.specs.Connections.{Connection, connections, port_path}
use Rattle.vl_process.specs.Clocks.{clock_names, is_clocked}
use Rattle.vl_process.specs.Names.{expr_names, target_names, stmt_names}
use Rattle.vl_process.specs.Aims.{Aimed, aims}
use Rattle.vl_process.specs.Processes.{scope_sight, target_of, piece_drivers, driver_aims, scope_blocks, block_aims, Block}
use Rattle.vl_process.specs.Shown.{is_step_below}

-- ---- what is no clock

abbrev pub is_one_bit_input : Object → Bool
is_one_bit_input o = is_input (Some o) && (width_of o.shape == 1)

abbrev pub has_clock_port : Path → Scope → Bool
has_clock_port p s = list_any (λ (o : Object). same_path (below s.level.path o.name.text) p && is_one_bit_input o) (objects s.level)

-- whether a plain name is an input port of one bit
abbrev pub is_clock_port : List Scope → List Path → Bool
is_clock_port ss [] = false
is_clock_port ss (p ∷ ps) = list_any (has_clock_port p) ss

abbrev pub edge_faults : List Scope → Sight → Sensed → List Found
edge_faults ss s e = elim e.edge [
  | positive_edge p ↦ if is_clock_port ss (plain_path s e.signal) then [] else at p BadClock ∷ []
  | _ ↦ []
]

abbrev pub event_faults : List Scope → Sight → Event → List Found
event_faults ss s (sensed es) = each_of (edge_faults ss s) es
event_faults ss s _ = []

-- a clock's port, of one bit, is connected to a plain name that is another one
abbrev pub joint_faults : List Scope → List Path → Connection → List Found
joint_faults ss clocks c = if is_input (Some c.port) && is_path_in clocks (port_path c)
    then (if is_one_bit_input c.port && is_clock_port ss (plain_path (sight c.outer) c.value) then []
    else at c.place BadClock ∷ []) else []

-- ---- clock's ports that aren't connected

-- where a name of an instance stands among items
abbrev pub named_instance : Text → List Instance → List Place
named_instance x is = map (λ (i : Instance). i.name.place) (filter (λ (i : Instance). bytes_eq i.name.text x) is)

abbrev mutual
  pub instance_places : Text → Item → List Place
  instance_places x (instances m ps is) = named_instance x is
  instance_places x (region p is) = all_instance_places x is
  instance_places x _ = []

  pub all_instance_places : Text → Items → List Place
  all_instance_places x no_item = []
  all_instance_places x (more_item i is) = instance_places x i ++ all_instance_places x is

-- the name of the scope at a path, as an item of the scope around it has it
abbrev pub last_name : Path → Text
last_name [] = []
last_name (named x ∷ []) = x
last_name (x ∷ more) = last_name more

abbrev pub scope_places : List Scope → Scope → List Place
scope_places ss s = each_of (λ (o : Scope). if is_step_below o.level.path s.level.path
    then all_instance_places (last_name s.level.path) o.items else []) ss

-- the place of the port's name where it stands with nothing in its parentheses
abbrev pub open_place : Text → List NamedBind → List Place
open_place x bs = map (λ (b : NamedBind). b.name.place) (filter (λ (b : NamedBind). bytes_eq b.name.text x) bs)

abbrev pub binds_places : Text → Option Binds → List Place
binds_places x (Some (by_name bs)) = open_place x bs
binds_places x _ = []

abbrev pub first_place : List Place → List Place → List Place
first_place (p ∷ ps) qs = p ∷ []
first_place [] (q ∷ qs) = q ∷ []
first_place [] [] = []

abbrev pub is_joined : Scope → Path → Bool
is_joined s p = list_any (λ c. same_path (port_path c) p) (connections s)

abbrev pub open_port_faults : List Scope → List Path → Scope → Option Binds → Object → List Found
open_port_faults ss clocks s bs o = let p : Path = below s.level.path o.name.text in
    if is_input (Some o) && (is_path_in clocks p && not (is_joined s p))
    then map (λ q. at q BadClock) (first_place (binds_places o.name.text bs) (scope_places ss s)) else []

abbrev pub open_faults : List Scope → List Path → Scope → List Found
open_faults ss clocks s = elim s.origin [
  | instance_of m (Some j) ↦ each_of (open_port_faults ss clocks s j.binds) (objects s.level)
  | _ ↦ []
]

-- ---- a second clock of the top, in order of declaration

abbrev pub clock_inputs : List Path → Scope → List Object
clock_inputs clocks s = filter (λ (o : Object). is_input (Some o) && is_path_in clocks (below s.level.path o.name.text)) (objects s.level)

abbrev pub all_but_first : List Object → List Found
all_but_first [] = []
all_but_first (o ∷ os) = map (λ (q : Object). at q.name.place SecondClock) os

abbrev pub second_clocks : List Path → List Scope → List Found
second_clocks clocks [] = []
second_clocks clocks (s ∷ ss) = all_but_first (clock_inputs clocks s)

-- ---- clocks that are read or driven

abbrev pub is_clock_name : List Path → Sight → Name → Bool
is_clock_name clocks s x = list_any (is_path_in clocks) (object_path (s x.text))

abbrev pub read_faults : List Path → Sight → List Name → List Found
read_faults clocks s xs = map (λ (x : Name). at x.place ClockAsData) (filter (is_clock_name clocks s) xs)

abbrev pub aim_faults : List Path → List Aimed → List Found
aim_faults clocks as' = map (λ (a : Aimed). at a.place ClockAsData) (filter (λ (a : Aimed). is_path_in clocks a.path) as')

-- a block drives where its `always` stands
abbrev pub block_drives : List Path → Block → List Found
block_drives clocks b = if list_any (λ (a : Aimed). is_path_in clocks a.path) (block_aims b) then at b.place ClockAsData ∷ [] else []

abbrev pub piece_reads : List Path → Sight → Piece → List Found
piece_reads clocks s (assigns d) = read_faults clocks s (target_names d.target ++ expr_names d.value)
piece_reads clocks s (net_value x e) = read_faults clocks s (expr_names e)
piece_reads clocks s (first_value x e) = read_faults clocks s (expr_names e)
piece_reads clocks s (process p e b) = read_faults clocks s (stmt_names b)
piece_reads clocks s (starts p b) = read_faults clocks s (stmt_names b)
piece_reads clocks s _ = []

abbrev pub piece_drives : List Path → Sight → Piece → List Found
piece_drives clocks s q = each_of (λ r. aim_faults clocks (driver_aims r)) (piece_drivers s q)

-- a plain clock's name that is connected to an input is handed down; another expression reads its names; an output reads the port and
-- drives the names
abbrev pub connection_uses : List Path → Connection → List Found
connection_uses clocks c = let s : Sight = sight c.outer in
    if is_input (Some c.port)
    then (if is_clocked clocks c then [] else read_faults clocks s (expr_names c.value))
    else (if is_path_in clocks (port_path c) then at c.place ClockAsData ∷ [] else [])
    ++ (aim_faults clocks (aims s (target_of c.value)) ++ read_faults clocks s (target_names (target_of c.value)))

abbrev pub scope_uses : Design → List Path → Scope → List Found
scope_uses d clocks s = each_of (connection_uses clocks) (connections s)
    ++ (each_of (λ q. piece_reads clocks (scope_sight s) q ++ piece_drives clocks (scope_sight s) q) (pieces_in s.items)
    ++ each_of (block_drives clocks) (scope_blocks d s))

-- ---- all of them

abbrev pub piece_edges : List Scope → Sight → Piece → List Found
piece_edges ss s (process p e b) = event_faults ss s e
piece_edges ss s _ = []

abbrev pub scope_clock_faults : Design → List Path → Scope → List Found
scope_clock_faults d clocks s = each_of (joint_faults d.scopes clocks) (connections s)
    ++ (open_faults d.scopes clocks s
    ++ (each_of (piece_edges d.scopes (scope_sight s)) (pieces_in s.items) ++ scope_uses d clocks s))

abbrev pub clock_faults : Design → List Found
clock_faults d = let clocks : List Path = clock_names d.scopes in
    second_clocks clocks d.scopes ++ each_of (scope_clock_faults d clocks) d.scopes
