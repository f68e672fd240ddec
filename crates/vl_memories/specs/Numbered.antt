-- Memories and functions of the program as those of a design. This project's own.
use Rattle.std.specs.Prelude.{◌≡◌, ℕ, Bool, if◌then◌else◌, List, [], ◌∷◌, ◌++◌, map, slice_get, Option, Some, None}
use Rattle.vl_tree.specs.Syntax.{no_item}
use Rattle.vl_tree.specs.SyntaxView as view
use Rattle.vl_value.specs.Paths.{below}
use Rattle.vl_design.specs.Lists.{each_of}
use Rattle.vl_design.specs.Declarations.{Declared}
use Rattle.vl_design.specs.Scopes.{Scope, block}
use Rattle.vl_design.specs.Design.{Memory, memory_in, Callable, callable_in}
use Rattle.vl_declares.specs.Plain.{plain_routine}
use Rattle.vl_objects.specs.Plain.{plain_range}
use Rattle.vl_memories.specs.declared.memories.Memory as code_memory
use Rattle.vl_memories.specs.declared.callables.Callable as code_callable

-- the scope of a number; where there is none, one that declares nothing
abbrev pub no_scope : Scope
no_scope = record { origin = block; level = record { path = []; declared = []; turn = None }; outer = []; items = no_item }

abbrev pub or_none : Option Scope → Scope
or_none (Some s) = s
or_none None = no_scope

abbrev pub scope_at : List Scope → ℕ → Scope
scope_at ss k = or_none (slice_get ss k)

-- ---- by the scopes of all numbers

abbrev pub memory_by : (ℕ → Scope) → code_memory.Memory → Memory
memory_by f y = record {
  path = below (f y.scope).level.path (view.name y.name.now).text;
  shape = plain_range y.range;
  first = y.first;
  last = y.last;
}

abbrev pub callable_by : (ℕ → Scope) → code_callable.Callable → Callable
callable_by f c = let r = plain_routine c.routine.now in record {
  path = below (f c.scope).level.path r.result.name.text;
  scope = f c.scope;
  routine = r;
}

abbrev pub listed_memory : (ℕ → Scope) → Option code_memory.Memory → List Memory
listed_memory f None = []
listed_memory f (Some y) = memory_by f y ∷ []

-- the memory that a declaration of the scope of a number declares, if it does
abbrev pub HasMemory : ℕ → Declared → Option code_memory.Memory → Type 0
HasMemory k d y = (f : ℕ → Scope) → listed_memory f y ≡ memory_in (f k).level.path d

-- a declaration, if it counts
abbrev pub one_if : Bool → Declared → List Declared
one_if b d = if b then d ∷ [] else []

-- those of declarations of the scope of a number were added
abbrev pub AddsMemories : ℕ → List Declared → List code_memory.Memory → List code_memory.Memory → Type 0
AddsMemories k ds old new = (f : ℕ → Scope) → map (memory_by f) new ≡ map (memory_by f) old ++ each_of (memory_in (f k).level.path) ds

abbrev pub AddsCallables : ℕ → List Declared → List code_callable.Callable → List code_callable.Callable → Type 0
AddsCallables k ds old new = (f : ℕ → Scope) → map (callable_by f) new ≡ map (callable_by f) old ++ each_of (callable_in (f k)) ds
