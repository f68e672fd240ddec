-- Which declarations of a scope count. This project's own.
use Rattle.std.specs.Prelude.{◌≡◌, Bool, if◌then◌else◌, filter, List, [], ◌∷◌, ◌++◌, Option}
use Rattle.std.specs.Option.{option_map}
use Rattle.vl_value.specs.Order.{least}
use Rattle.vl_found.specs.declared.Found.{Found}
use Rattle.vl_found.specs.View.{found}
use Rattle.vl_design.specs.Declarations.{Declared, name_of, is_named}
use Rattle.vl_design.specs.Objects.{counts_behind}
use Rattle.vl_design.specs.ObjectFaults.{same_names}

-- of each declaration behind others whether it counts
abbrev pub flags_behind : List Declared → List Declared → List Bool
flags_behind before [] = []
flags_behind before (b ∷ ds) = counts_behind (filter (is_named (name_of b).text) before) b ∷ flags_behind (before ++ b ∷ []) ds

-- those whose flag is set
abbrev pub picked : {A : Type 0} → List Bool → List A → List A
picked [] xs = []
picked (b ∷ bs) [] = []
picked (b ∷ bs) (x ∷ xs) = (if b then x ∷ [] else []) ++ picked bs xs

pub record AreRepeats (ds : List Declared) (counted : List Bool) (f : Option Found) : Type 0 where
  pub flags : counted ≡ flags_behind [] ds
  pub fault : option_map found f ≡ least (same_names [] ds)
