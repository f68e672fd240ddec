-- The faults of phase 8 on what drives a bit (IEEE 1364-2005, 4.8 and 6.1, cut down to one driver; this project's own): each bit has at most one
-- driver: a top input, a continuous assignment, a connection, or an `always` block. In a target in braces each name drives by
-- itself. An input below the top that isn't connected may have none.
use Rattle.std.specs.Prelude.{Bool, true, false, ◌&&◌, ◌||◌, not, if◌then◌else◌, nat_le, List, [], ◌∷◌, ◌++◌, map, filter, Some}
use Rattle.std.specs.List.{list_any}
use Rattle.vl_tree.specs.declared.fault.FaultKind.TheVariants.{ManyDrivers}
use Rattle.vl_tree.specs.Syntax.{Place}
use Rattle.vl_value.specs.Paths.{Path, same_path, below}
use Rattle.vl_value.specs.Order.{Found, at}
use Rattle.vl_design.specs.Lists.{each_of}
use Rattle.vl_design.specs.Scopes.{Scope}
use Rattle.vl_design.specs.Objects.{Object, objects}
use Rattle.vl_design.specs.LoopVariables.{is_path_in}
use Rattle.vl_design.specs.Clocks.{is_input}
use Rattle.vl_design.specs.Design.{Design, pieces_in}
use Rattle.vl_process.specs.Connections.{connections, port_path}
use Rattle.vl_process.specs.Aims.{Aimed, has_place}
use Rattle.vl_process.specs.Processes.{Block, driver_aims, connection_driver, piece_drivers, scope_sight, scope_blocks, block_aims}

-- ---- drivers, each with its bits and its place

-- bits that are driven together, and where their driver stands
pub record Driving : Type 0 where
  pub place : Place
  pub aims : List Aimed

abbrev pub alone : Aimed → Driving
alone a = record { place = a.place; aims = a ∷ [] }

-- those of a clock's connection too
abbrev pub scope_driving : Design → Scope → List Driving
scope_driving d s = each_of (λ c. map alone (driver_aims (connection_driver c))) (connections s)
    ++ (each_of (λ q. each_of (λ r. map alone (driver_aims r)) (piece_drivers (scope_sight s) q)) (pieces_in s.items)
    ++ map (λ (b : Block). record { place = b.place; aims = block_aims b }) (scope_blocks d s))

abbrev pub driving : Design → List Driving
driving d = each_of (scope_driving d) d.scopes

-- ---- inputs that nothing in the text may drive: those of the top, and those below it that aren't connected

abbrev pub is_connected : Scope → Path → Bool
is_connected s p = list_any (λ c. same_path (port_path c) p) (connections s)

abbrev pub scope_inputs : Scope → List Path
scope_inputs s = map (λ (o : Object). below s.level.path o.name.text) (filter (λ o. is_input (Some o)) (objects s.level))

abbrev pub closed_inputs : List Scope → List Path
closed_inputs ss = each_of (λ s. filter (λ p. not (is_connected s p)) (scope_inputs s)) ss

-- ---- bits with two drivers

abbrev pub aims_share : Aimed → Aimed → Bool
aims_share a b = same_path a.path b.path && list_any (has_place b.places) a.places

abbrev pub share : Driving → Driving → Bool
share r q = list_any (λ a. list_any (aims_share a) q.aims) r.aims

abbrev pub aims_at_closed : List Path → Aimed → Bool
aims_at_closed ps a = is_path_in ps a.path && (elim a.places [ [] ↦ false | n ∷ ns ↦ true ])

-- the later of two stands later in the text; both are told where they stand at one token
abbrev pub is_not_later : Driving → Driving → Bool
is_not_later r q = nat_le r.place.token q.place.token

abbrev pub has_other : Driving → List Driving → Bool
has_other q rs = list_any (λ r. share r q && is_not_later r q) rs

-- each of these, beside those before it in the list and those behind
abbrev pub many_drivers : List Path → List Driving → List Driving → List Found
many_drivers closed before [] = []
many_drivers closed before (q ∷ qs) =
    (if has_other q before || (has_other q qs || list_any (aims_at_closed closed) q.aims)
    then at q.place ManyDrivers ∷ [] else []) ++ many_drivers closed (q ∷ before) qs

abbrev pub driver_faults : Design → List Found
driver_faults d = many_drivers (closed_inputs d.scopes) [] (driving d)
