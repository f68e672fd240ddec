-- What loading the files of a design does. This project's own.
use Rattle.std.specs.Prelude.{◌≡◌, ℕ, ◌≤◌, ◌+◌, ◌*◌, IsTrue, List, ◌∷◌, ◌++◌, length, map, Some, Result, Ok, Err}
use Rattle.dt_io.specs.declared.outside.LoadFault.{LoadFault}
use Rattle.dt_io.specs.declared.outside.LoadFault.TheVariants as load
use Rattle.dt_core.specs.declared.limits.TheConstants.{MAX_FILE}
use Rattle.dessert.specs.Outside.{FilesAt}
use Rattle.dessert.specs.Answer.{Loaded, HasFailed, IsTooLong}
use Rattle.dessert.specs.Sources.{closed, design_text, line_count}
use Rattle.dessert.specs.declared.sources.SourcesFault.{SourcesFault}
use Rattle.dessert.specs.declared.sources.SourcesFault.TheVariants as sources

-- a file was appended to the text, closed, and its lines were counted; or why it wasn't loaded
abbrev pub LoadsOne : FilesAt → FilesAt → List ℕ → List ℕ → List ℕ → Result ℕ LoadFault → Type 0
LoadsOne old new name text text' (Ok count) =
    (file : List ℕ) × (text' ≡ text ++ closed file) × (count ≡ line_count file) × (length file ≤ MAX_FILE)
    × (IsTrue old.told → old.content name ≡ Some file)
LoadsOne old new name text text' (Err load.Failed) = HasFailed old new name
LoadsOne old new name text text' (Err load.TooLong) = IsTooLong old new name
LoadsOne old new name text text' (Err load.Memory) = new.faults ≡ old.faults

-- the files of these names were loaded, and this is their text, with so many lines of each; that it is short follows
pub record IsLoaded (shelf : FilesAt) (names : List (List ℕ)) (text : List ℕ) (counts : List ℕ) : Type 0 where
  pub files : List (List ℕ)
  pub loaded : Loaded shelf names files
  pub text_is : text ≡ design_text files
  pub counts_are : counts ≡ map line_count files
  pub short : length text ≤ (MAX_FILE + 1) * length names

-- all files before this one were loaded
pub record IsFront (shelf : FilesAt) (names : List (List ℕ)) (name : List ℕ) : Type 0 where
  pub before : List (List ℕ)
  pub after : List (List ℕ)
  pub files : List (List ℕ)
  pub names_are : names ≡ before ++ name ∷ after
  pub loaded : Loaded shelf before files

-- why the files weren't loaded
abbrev pub NotLoaded : FilesAt → FilesAt → List (List ℕ) → SourcesFault → Type 0
NotLoaded old new names (sources.Failed name) = IsFront old names name.now × HasFailed old new name.now
NotLoaded old new names (sources.TooLong name) = IsFront old names name.now × IsTooLong old new name.now
NotLoaded old new names sources.Memory = new.faults ≡ old.faults
