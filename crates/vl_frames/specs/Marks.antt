-- What frames tell of names. This project's own.
use Rattle.std.specs.Prelude.{◌≡◌, Bool, false, nat_eq, List, [], ◌∷◌, Option, Some, None}
use Rattle.std.specs.Cmp.Lexicographic.{pointwise}
use Rattle.indexmap.specs.IndexMap.{get}
use Rattle.vl_value.specs.Paths.{Text}
use Rattle.vl_design.specs.Constants.{Worth, worth, faulty, Known, nothing_known}
use Rattle.vl_design.specs.Generate.{Around}
use Rattle.vl_frames.specs.declared.mark.Worth as code
use Rattle.vl_frames.specs.declared.mark.Worth.TheVariants as w
use Rattle.vl_frames.specs.declared.mark.Mark.{Mark}
use Rattle.vl_frames.specs.declared.mark.Mark.TheVariants as m
use Rattle.vl_frames.specs.declared.frame.Frame.{Frame}
use Rattle.vl_frames.specs.declared.frames.Frames.{Frames}

abbrev pub plain_worth : code.Worth → Worth
plain_worth (w.Number c) = worth c.bits.width c.signed c.bits.value
plain_worth w.Faulty = faulty

-- ---- one scope

abbrev pub worth_of : Mark → Option Worth
worth_of m.Object = None
worth_of (m.Constant w) = Some (plain_worth w)

-- what a scope makes of an outer constant
abbrev pub told : Option Mark → Option Worth → Option Worth
told None o = o
told (Some m) o = worth_of m

-- and of whether a name is a genvar's
abbrev pub told_genvar : Option Bool → Bool → Bool
told_genvar None b = b
told_genvar (Some c) b = c

abbrev pub known_over : Frame → Known → Known
known_over f k = λ x. told (get (pointwise nat_eq) f.constants x) (k x)

abbrev pub genvar_over : Frame → (Text → Bool) → Text → Bool
genvar_over f g = λ x. told_genvar (get (pointwise nat_eq) f.genvars x) (g x)

-- no name
pub record IsEmptyFrame (f : Frame) : Type 0 where
  pub constants : (x : Text) → get (pointwise nat_eq) f.constants x ≡ None
  pub genvars : (x : Text) → get (pointwise nat_eq) f.genvars x ≡ None

-- ---- scopes one within another, from the outermost

abbrev pub known_in : Known → List Frame → Known
known_in k [] = k
known_in k (f ∷ fs) = known_in (known_over f k) fs

abbrev pub genvar_in : (Text → Bool) → List Frame → Text → Bool
genvar_in g [] = g
genvar_in g (f ∷ fs) = genvar_in (genvar_over f g) fs

abbrev pub around : Frames → Around
around f = record {
  known = known_over f.inner (known_in nothing_known f.outer.items);
  is_genvar = genvar_over f.inner (genvar_in (λ x. false) f.outer.items);
}

abbrev pub nothing_around : Around
nothing_around = record { known = nothing_known; is_genvar = λ x. false }

-- the scope of a module without a name
pub record IsNew (f : Frames) : Type 0 where
  pub sight : around f ≡ nothing_around
  pub outer : f.outer.items ≡ []
