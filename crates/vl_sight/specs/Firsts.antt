-- The first of each name in a list. This project's own.
use Rattle.std.specs.Prelude.{◌≡◌, ℕ, Bool, ◌&&◌, if◌then◌else◌, bytes_eq, slice_get, List, [], ◌∷◌, Option, Some, None, option_and_then}
use Rattle.vl_value.specs.Paths.{Text}
use Rattle.vl_design.specs.Declarations.{Declared, Local, is_named}
use Rattle.vl_design.specs.Objects.{Object, is_in_sight}
use Rattle.vl_design.specs.LoopVariables.{is_routine}
use Rattle.vl_names.specs.declared.NameNumbers.{NameNumbers}
use Rattle.vl_names.specs.Names.{number_of}
use Rattle.vl_sight.specs.declared.first.Wanted.{Wanted}
use Rattle.vl_sight.specs.declared.first.Wanted.TheVariants as w

-- the first that passes a test
abbrev pub first_of : {A : Type 0} → (A → Bool) → List A → Option A
first_of f [] = None
first_of f (a ∷ more) = if f a then Some a else first_of f more

-- the numbers give the first of each name among some of a list's elements, by their places in the list
abbrev pub Finds : {A : Type 0} → (Text → A → Bool) → List A → List A → NameNumbers → Type 0
Finds f all some n = (x : Text) → option_and_then (slice_get all) (number_of n x) ≡ first_of (f x) some

-- a place is noted under a name, where it counts
abbrev pub NotesIf : Bool → Text → ℕ → NameNumbers → NameNumbers → Type 0
NotesIf b name k old new = (x : Text) → number_of new x ≡ (if b && bytes_eq name x then Some k else number_of old x)

-- ---- by what is looked up

abbrev pub passes : Wanted → Declared → Bool
passes w.InSight d = is_in_sight d
passes w.Functions d = is_routine d

abbrev pub passes_named : Wanted → Text → Declared → Bool
passes_named q x d = is_named x d && passes q d

abbrev pub has_name : Text → Object → Bool
has_name x o = bytes_eq o.name.text x

abbrev pub is_local : Text → Local → Bool
is_local x l = bytes_eq l.name.text x
