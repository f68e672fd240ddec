-- Clock names (this project's own, for one clock): a name behind `posedge`; a plain name that is connected to an input port that is
-- one; an input port that is connected to a plain name that is one. The least such set.
use Rattle.std.specs.Prelude.{Bool, ◌&&◌, if◌then◌else◌, List, [], ◌∷◌, ◌++◌, Some}
use Rattle.std.specs.List.{list_any}
use Rattle.vl_value.specs.Paths.{Path}
use Rattle.vl_design.specs.Lists.{each_of}
use Rattle.vl_design.specs.Scopes.{Scope}
use Rattle.vl_design.specs.Objects.{sight}
use Rattle.vl_design.specs.LoopVariables.{is_path_in}
use Rattle.vl_design.specs.Clocks.{plain_path, clocks_at_top, is_input}
use Rattle.vl_process.specs.Connections.{Connection, connections, port_path}

-- whether what is connected is a plain name that is a clock's
abbrev pub is_clocked : List Path → Connection → Bool
is_clocked clocks c = list_any (is_path_in clocks) (plain_path (sight c.outer) c.value)

-- what is inside an instance stands behind it, so one pass downward is enough
abbrev pub passed_down : List Path → Connection → List Path
passed_down clocks c = if is_input (Some c.port) && is_clocked clocks c then port_path c ∷ [] else []

abbrev pub clocks_below : List Path → List Scope → List Path
clocks_below clocks [] = clocks
clocks_below clocks (s ∷ ss) = clocks_below (each_of (passed_down clocks) (connections s) ++ clocks) ss

-- upward first: a name that one pass downward adds has a clock's name above it already
abbrev pub clock_names : List Scope → List Path
clock_names ss = clocks_below (clocks_at_top ss) ss
