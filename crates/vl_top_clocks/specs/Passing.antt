-- Clock names that are passed up from scopes by number. This project's own.
use Rattle.std.specs.Prelude.{◌≡◌, ℕ, Bool, ◌&&◌, if◌then◌else◌, slice_get, List, [], ◌∷◌, ◌++◌, Option, Some}
use Rattle.std.specs.Borrow.{Bor}
use Rattle.vl_tree.specs.SyntaxView as view
use Rattle.vl_tree.specs.declared.expression.Name as code_name
use Rattle.vl_value.specs.Paths.{Text, Path}
use Rattle.vl_design.specs.Lists.{each_of}
use Rattle.vl_design.specs.Scopes.{Scope, levels}
use Rattle.vl_design.specs.Objects.{sight}
use Rattle.vl_design.specs.LoopVariables.{paths_in}
use Rattle.vl_design.specs.Clocks.{clocked_in, from_inside}
use Rattle.vl_clocks.specs.Names.{texts}
use Rattle.vl_joins.specs.Joins.{Join}
use Rattle.vl_paths.specs.declared.numbers.PathNumbers.{PathNumbers}
use Rattle.vl_paths.specs.declared.set.PathSet.{PathSet}
use Rattle.vl_paths.specs.Numbers.{AreNumbers, number_of}
use Rattle.vl_paths.specs.Sets.{has, HoldsPaths}
use Rattle.vl_scopes.specs.Plain.{levels_at, plain_scope}
use Rattle.vl_scopes.specs.declared.scope.Scope as code
use Rattle.vl_loop_paths.specs.Adding.{AddsPaths}
use Rattle.vl_sight.specs.Levels.{is_input_at, lower_than}

-- ---- what is passed up from the scope of a number, whose path has another one

abbrev pub name_if : Bool → code_name.Name → List Text
name_if b n = if b then (view.name n).text ∷ [] else []

abbrev pub is_passed : List Scope → ℕ → ℕ → PathSet → Text → Bool
is_passed ss k m clocks x = has clocks m x && is_input_at ss k x

abbrev pub name_at : List Scope → ℕ → ℕ → PathSet → Join → List Text
name_at ss k m clocks j = if is_passed ss k m clocks j.port then j.name ∷ [] else []

abbrev pub names_at : List Scope → ℕ → ℕ → PathSet → List Join → List Text
names_at ss k m clocks js = each_of (name_at ss k m clocks) js

-- what these names stand for around an instance is passed up
abbrev pub IsPassedUp : List Scope → ℕ → ℕ → code.Scope → PathSet → List Text → Type 0
IsPassedUp ss k m c clocks xs = (before : List Scope) → slice_get ss k ≡ Some (plain_scope before c)
    → (inner : List Path) → (n : PathNumbers) → m ≡ number_of n k → HoldsPaths n clocks ss inner
    → paths_in (sight (levels_at before c.within)) xs ≡ from_inside inner (plain_scope before c)

-- ---- sets with clock names more

-- what names stand for in the scope of a number, if there is one
abbrev pub AddsOuter : PathNumbers → List Scope → Option ℕ → List (Bor code_name.Name) → PathSet → PathSet → Type 0
AddsOuter n ss w xs old new = AddsPaths n ss (paths_in (sight (levels_at ss w)) (texts xs)) old new

abbrev pub clocks_of : Scope → List Path → List Path
clocks_of s ps = let inner : List Path = clocked_in (sight (levels s)) s.items ++ ps in from_inside inner s ++ inner

-- the clock names of the scope of a number in front of those that are inside
abbrev pub AddsClocks : PathNumbers → List Scope → ℕ → code.Scope → PathSet → PathSet → Type 0
AddsClocks n ss k c old new = (before : List Scope) → slice_get ss k ≡ Some (plain_scope before c)
    → levels_at before c.within ≡ levels_at ss (lower_than k c.within) → AreNumbers n ss
    → (ps : List Path) → HoldsPaths n old ss ps → HoldsPaths n new ss (clocks_of (plain_scope before c) ps)
