-- Paths by number: each goes on from one of a lower number. This project's own.
use Rattle.std.specs.Prelude.{◌≡◌, ℕ, ◌<◌, List, [], ◌∷◌, ◌++◌, length, get_or}
use Rattle.vl_value.specs.Paths.{Path, Step, named, turn, unnamed}
use Rattle.vl_paths.specs.declared.key.LastStep.{LastStep}
use Rattle.vl_paths.specs.declared.key.LastStep.TheVariants as l
use Rattle.vl_paths.specs.declared.key.Key.{Key}
use Rattle.vl_paths.specs.declared.key.Key.TheVariants.{Top, Below}

abbrev pub plain_last : LastStep → Step
plain_last (l.Named x) = named x
plain_last (l.Turn x n) = turn x n
plain_last (l.Unnamed k n) = unnamed k n

-- the path of a key among those that have a number
abbrev pub path_by : List Path → Key → Path
path_by ps Top = []
path_by ps (Below n st) = get_or ps n [] ++ plain_last st ∷ []

abbrev pub GoesOnFromLower : ℕ → Key → Type 0
GoesOnFromLower m Top = Unit {0}
GoesOnFromLower m (Below n st) = n < m

-- the path of a number, by its key
abbrev pub Describes : List Path → ℕ → Key → Path → Type 0
Describes ps m k p = GoesOnFromLower m k × (p ≡ path_by ps k)

-- these keys have these paths; none of them has two numbers, and the top has the number 0
pub record AreKeysOf (ks : List Key) (ps : List Path) : Type 0 where
  pub count : length ps ≡ length ks
  pub top : (0 < length ps) × (get_or ps 0 [] ≡ [])
  pub each : (m : ℕ) → m < length ks → Describes ps m (get_or ks m Top) (get_or ps m [])
  pub apart : (m n : ℕ) → m < length ps → n < length ps → get_or ps m [] ≡ get_or ps n [] → m ≡ n

-- a path has a number
abbrev pub IsNumberOf : List Path → Path → ℕ → Type 0
IsNumberOf ps p m = (m < length ps) × (get_or ps m [] ≡ p)

-- paths keep their numbers
abbrev pub Keeps : List Path → List Path → Type 0
Keeps ps qs = (m : ℕ) (p : Path) → IsNumberOf ps p m → IsNumberOf qs p m

-- there may be keys more, by which what goes on by some steps from the path of a number has a number too
abbrev pub GoesOn : ℕ → List Step → ℕ → List Key → List Key → Type 0
GoesOn b sts r old new = (ps : List Path) → AreKeysOf old ps → b < length ps
    → (qs : List Path) × AreKeysOf new qs × Keeps ps qs × IsNumberOf qs (get_or ps b [] ++ sts) r
