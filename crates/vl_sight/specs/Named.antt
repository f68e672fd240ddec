-- What the names of one scope find. This project's own.
use Rattle.std.specs.Prelude.{◌≡◌, false, slice_get, map, List, [], Option, Some, None, option_and_then}
use Rattle.std.specs.Option.{option_map}
use Rattle.vl_value.specs.Paths.{Text, Path, below}
use Rattle.vl_value.specs.Things.{Thing, signal, memory}
use Rattle.vl_design.specs.Spans.{first_word, last_word}
use Rattle.vl_design.specs.Declarations as d
use Rattle.vl_design.specs.Declarations.{Declared}
use Rattle.vl_design.specs.Scopes.{Level}
use Rattle.vl_design.specs.Objects.{Object, counted_behind, objects_of, local_shape, constant_thing, routine_thing, level_thing}
use Rattle.vl_declares.specs.Plain.{all_plain}
use Rattle.vl_names.specs.Names.{number_of}
use Rattle.vl_objects.specs.Plain.{plain_object}
use Rattle.vl_scopes.specs.Plain.{plain_turn}
use Rattle.vl_scopes.specs.declared.scope.Scope as code_scope
use Rattle.vl_sight.specs.Firsts.{Finds, has_name, passes_named}
use Rattle.vl_sight.specs.Seen.{plain_thing}
use Rattle.vl_sight.specs.declared.first.Wanted.TheVariants as w
use Rattle.vl_sight.specs.declared.names.Names.{Names}
use Rattle.vl_sight.specs.declared.thing.Thing as code_thing

-- the declarations of a scope that count, and its nets and variables
abbrev pub counted_in : code_scope.Scope → List Declared
counted_in c = counted_behind [] (all_plain c.declared.items)

abbrev pub objects_in : code_scope.Scope → List Object
objects_in c = objects_of (counted_in c) (counted_in c)

pub record HasNames (c : code_scope.Scope) (n : Names) : Type 0 where
  pub declared : Finds (passes_named w.InSight) (all_plain c.declared.items) (counted_in c) n.declared
  pub functions : Finds (passes_named w.Functions) (all_plain c.declared.items) (counted_in c) n.functions
  pub objects : map plain_object n.objects.items ≡ objects_in c
  pub numbers : Finds has_name (map plain_object n.objects.items) (map plain_object n.objects.items) n.numbers

-- a scope at a path
abbrev pub level_in : Path → code_scope.Scope → Level
level_in p c = record { path = p; declared = all_plain c.declared.items; turn = option_map plain_turn c.turn }

-- what it has under a name, whatever its path
abbrev pub HasThing : code_scope.Scope → Text → Option code_thing.Thing → Type 0
HasThing c x r = (p : Path) → option_map (plain_thing p x) r ≡ level_thing (level_in p c) x

-- ---- what is found by numbers

abbrev pub declared_by : Names → List Declared → Text → Option Declared
declared_by n ds x = option_and_then (slice_get ds) (number_of n.declared x)

abbrev pub function_by : Names → List Declared → Text → Option Declared
function_by n ds x = option_and_then (slice_get ds) (number_of n.functions x)

abbrev pub object_by : Names → Text → Option Object
object_by n x = option_and_then (slice_get (map plain_object n.objects.items)) (number_of n.numbers x)

abbrev pub routine_in : Declared → Option d.Routine
routine_in (d.routine r) = Some r
routine_in _ = None

-- what a declaration in sight is, with the net or variable of its name
abbrev pub thing_by : Path → Text → Option Object → Declared → Option Thing
thing_by p x o (d.port w k l) = option_map (λ (b : Object). signal (below p x) b.shape) o
thing_by p x o (d.object k l) = option_map (λ (b : Object). signal (below p x) b.shape) o
thing_by p x o (d.memory l ws) = Some (memory (below p x) (local_shape l) (first_word ws) (last_word ws))
thing_by p x o (d.parameter y w) = constant_thing w
thing_by p x o (d.routine r) = Some (routine_thing false p r)
thing_by p x o (d.genvar y) = None
thing_by p x o (d.inner y) = None
