-- How what is in sight changes, in the innermost scope alone. This project's own.
use Rattle.std.specs.Prelude.{◌≡◌, Bool, ◌||◌, ◌&&◌, not, List, [], ◌∷◌, ◌++◌}
use Rattle.vl_value.specs.Paths.{Text}
use Rattle.vl_design.specs.Constants.{Worth, with_constant, without}
use Rattle.vl_design.specs.Generate.{Around}
use Rattle.vl_frames.specs.Marks.{around}
use Rattle.vl_frames.specs.declared.frame.Frame.{Frame}
use Rattle.vl_frames.specs.declared.frames.Frames.{Frames}

-- objects have the names of which f holds
abbrev pub hidden : (Text → Bool) → Around → Around
hidden f a = record { known = without f a.known; is_genvar = λ x. not (f x) && a.is_genvar x }

-- genvars have them
abbrev pub genvar_noted : (Text → Bool) → Around → Around
genvar_noted f a = record { known = a.known; is_genvar = λ x. f x || a.is_genvar x }

-- parameters have them
abbrev pub passed : (Text → Bool) → Around → Around
passed f a = record { known = a.known; is_genvar = λ x. not (f x) && a.is_genvar x }

-- a constant is in sight
abbrev pub declared : Text → Worth → Around → Around
declared x w a = record { known = with_constant x w a.known; is_genvar = a.is_genvar }

-- what is around is this now, by the innermost scope alone
pub record Becomes (old new : Frames) (a : Around) : Type 0 where
  pub sight : around new ≡ a
  pub outer : new.outer.items ≡ old.outer.items

-- a scope without a name is entered
pub record Enters (old new : Frames) : Type 0 where
  pub sight : around new ≡ around old
  pub outer : new.outer.items ≡ old.outer.items ++ old.inner ∷ []

-- the scopes are these
pub record Are (new : Frames) (inner : Frame) (frames : List Frame) : Type 0 where
  pub inmost : new.inner ≡ inner
  pub others : new.outer.items ≡ frames

-- the innermost scope is left
abbrev pub Leaves : Frames → Frames → Type 0
Leaves old new = (fs : List Frame) (f : Frame) → old.outer.items ≡ fs ++ f ∷ [] → Are new f fs
