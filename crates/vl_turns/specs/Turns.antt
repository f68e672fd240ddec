-- What a turn rests on, as the program has it. This project's own.
use Rattle.std.specs.Prelude.{◌≡◌, Bool, true, [], ◌∷◌, ◌++◌, Option}
use Rattle.std.specs.Option.{option_map}
use Rattle.vl_tree.specs.Syntax as t
use Rattle.vl_value.specs.Paths.{Text}
use Rattle.vl_value.specs.Meaning.{Meaning, assigned, true_of}
use Rattle.vl_value.specs.Order.{least}
use Rattle.vl_found.specs.declared.Found.{Found}
use Rattle.vl_found.specs.View.{found}
use Rattle.vl_design.specs.Constants.{Worth, worth, Known, value_of, needs}
use Rattle.vl_frames.specs.declared.frames.Frames.{Frames}
use Rattle.vl_frames.specs.declared.mark.Worth as code
use Rattle.vl_frames.specs.Marks.{around, plain_worth}
use Rattle.vl_frames.specs.Changes.{declared}

-- the worth that a genvar takes from a value
abbrev pub genvar_worth : Option Meaning → Option Worth
genvar_worth = option_map (λ m. worth 32 true (assigned 32 m))

abbrev pub truth_in : Option Meaning → Option Bool
truth_in = option_map true_of

pub record HasNumber (k : Known) (e : t.Expr) (w : Option code.Worth) (f : Option Found) : Type 0 where
  pub number : option_map plain_worth w ≡ genvar_worth (value_of k e)
  pub fault : option_map found f ≡ least (needs k e)

pub record HasTruth (k : Known) (e : t.Expr) (b : Option Bool) (f : Option Found) : Type 0 where
  pub holds : b ≡ truth_in (value_of k e)
  pub fault : option_map found f ≡ least (needs k e)

-- a turn is entered, in which a genvar has a worth; `in_turn` of `vl_design` where that is a number of 32 bits
pub record EntersTurn (x : Text) (w : Worth) (old new : Frames) : Type 0 where
  pub sight : around new ≡ declared x w (around old)
  pub outer : new.outer.items ≡ old.outer.items ++ old.inner ∷ []
