-- What maps by name hold. This project's own.
use Rattle.std.specs.Prelude.{◌≡◌, ℕ, Bool, ◌||◌, not, if◌then◌else◌, bytes_eq, List, [], ◌∷◌, is_some, Option, Some, None}
use Rattle.std.specs.List.{list_any}
use Rattle.std.specs.Option.{option_map}
use Rattle.std.specs.Borrow.{Bor}
use Rattle.vl_tree.specs.Syntax as t
use Rattle.vl_tree.specs.SyntaxView as view
use Rattle.vl_tree.specs.declared.item.Module.{Module}
use Rattle.vl_tree.specs.declared.fault.FaultKind.TheVariants.{DuplicateModule}
use Rattle.vl_value.specs.Order.{Found, at}
use Rattle.vl_design.specs.Scopes.{module_at}
use Rattle.vl_design.specs.Walk.{some_instantiates}

-- the plain tree of a module of the program
abbrev pub tree_of : Bor Module → t.Module
tree_of m = view.module_tree m.now

-- a name without its borrow, if there is one
abbrev pub asked : Option (Bor (List ℕ)) → Option (List ℕ)
asked = option_map (λ name. name.now)

-- each name has the first module of that name
abbrev pub FindsModules : (List ℕ → Option (Bor Module)) → List t.Module → Type 0
FindsModules find ms = (x : List ℕ) → option_map tree_of (find x) ≡ module_at ms x

-- the names that are there are those before, and those of which f holds
abbrev pub Gathers : (List ℕ → Option ℕ) → (List ℕ → Option ℕ) → (List ℕ → Bool) → Type 0
Gathers old new f = (x : List ℕ) → is_some (new x) ≡ (is_some (old x) || f x)

-- whether a module among some instantiates a module of a name
abbrev pub is_used_in : List t.Module → List ℕ → Bool
is_used_in ms x = list_any (λ (m : t.Module). some_instantiates x m.items) ms

-- the names that are there are those that modules instantiate
abbrev pub HoldsUsed : (List ℕ → Option ℕ) → List t.Module → Type 0
HoldsUsed find ms = (x : List ℕ) → is_some (find x) ≡ is_used_in ms x

-- what may be there, as a list
abbrev pub listed : {A : Type 0} → Option A → List A
listed None = []
listed (Some a) = a ∷ []

-- whether a module's name isn't there
abbrev pub is_unused : (List ℕ → Option ℕ) → Bor Module → Bool
is_unused find m = not (is_some (find (tree_of m).name.text))

-- a name has a module's tree now, and the others what they had
abbrev pub SetsModule : (List ℕ → Option (Bor Module)) → (List ℕ → Option (Bor Module)) → List ℕ → t.Module → Type 0
SetsModule old new name m = (x : List ℕ) → option_map tree_of (new x) ≡ (if bytes_eq name x then Some m else option_map tree_of (old x))

-- a module whose name is known
abbrev pub duplicate_here : Bool → t.Name → List Found
duplicate_here b x = if b then at x.place DuplicateModule ∷ [] else []
