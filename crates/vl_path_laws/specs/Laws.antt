-- Law of paths. This project's own.
use Rattle.std.specs.Prelude.{◌≡◌, ℕ, List, ◌++◌, map, slice_get, Option, Some, Ok, IsTrue}
use Rattle.vl_tree.specs.Syntax.{Source}
use Rattle.vl_value.specs.Paths.{Text, Path, same_path}
use Rattle.vl_design.specs.Limits.{Limits}
use Rattle.vl_design.specs.Design.{Signal, Memory, Callable, Design, elaborated}
use Rattle.vl_store.specs.Stores.{PathsAreDistinct}

-- the paths of all that a design has by number, in the order of its lists
abbrev pub all_paths : Design → List Path
all_paths d = map (λ (x : Signal). x.path) d.signals ++ (map (λ (y : Memory). y.path) d.memories
    ++ (map (λ (c : Callable). c.path) d.callables ++ d.locals))

-- none of these paths stands there twice
abbrev pub StandOnce : List Path → Type 0
StandOnce ps = (i j : ℕ) (p r : Path) → slice_get ps i ≡ Some p → slice_get ps j ≡ Some r → IsTrue (same_path p r) → i ≡ j

-- no two of a design's signals, memories, functions and variables that are no signals have one path
pub record AreApart (d : Design) : Type 0 where
  pub all : StandOnce (all_paths d)
  pub objects : PathsAreDistinct d

abbrev pub PathsLaw : Type 0
PathsLaw = (q : Limits) (src : Source) (top : Option Text) (d : Design) → elaborated q src top ≡ Ok d → AreApart d
