-- A name is looked up scope by scope.
use Rattle.std.proofs.Common.{◌≡◌, ℕ, ◌+◌, ◌<◌, Bool, nat_eq, List, [], ◌∷◌, ◌++◌, length, drop, get_or, refl, sym, ap, ◌∙◌}
use Rattle.std.proofs.lemmas.List.{drop_more}
use Rattle.std.specs.Prelude.{Option}
use Rattle.std.specs.Cmp.Lexicographic.{pointwise}
use Rattle.indexmap.specs.IndexMap.{get}
use Rattle.vl_value.specs.Paths.{Text}
use Rattle.vl_design.specs.Constants.{Worth, Known}
use Rattle.vl_frames.specs.Marks.{told, told_genvar, known_over, genvar_over, known_in, genvar_in}
use Rattle.vl_frames.specs.declared.frame.Frame.{Frame}

-- what is told of a name rests on what is told of it around
pub known_at : (k h : Known) (fs : List Frame) (x : Text) → k x ≡ h x → known_in k fs x ≡ known_in h fs x
known_at k h [] x e = e
known_at k h (f ∷ fs) x e = known_at (known_over f k) (known_over f h) fs x (ap (told (get (pointwise nat_eq) f.constants x)) e)

pub genvar_at : (k h : Text → Bool) (fs : List Frame) (x : Text) → k x ≡ h x → genvar_in k fs x ≡ genvar_in h fs x
genvar_at k h [] x e = e
genvar_at k h (f ∷ fs) x e = genvar_at (genvar_over f k) (genvar_over f h) fs x (ap (told_genvar (get (pointwise nat_eq) f.genvars x)) e)

-- one scope further
module _ (fs : List Frame) (i : ℕ) (f : Frame) (below : i < length fs) (is : f ≡ get_or fs i f) (x : Text) where
  one_more : drop i fs ≡ f ∷ drop (i + 1) fs
  one_more = drop_more fs i f below ∙ ap (λ y. y ∷ drop (i + 1) fs) (sym is)

  pub known_on : (o p : Option Worth) (all : Option Worth) → p ≡ told (get (pointwise nat_eq) f.constants x) o
      → known_in (λ y. o) (drop i fs) x ≡ all → known_in (λ y. p) (drop (i + 1) fs) x ≡ all
  known_on o p all h was =
      known_at (λ y. p) (known_over f (λ y. o)) (drop (i + 1) fs) x h
      ∙ ap (λ gs. known_in (λ y. o) gs x) (sym one_more) ∙ was

  pub genvar_on : (o p : Bool) (all : Bool) → p ≡ told_genvar (get (pointwise nat_eq) f.genvars x) o
      → genvar_in (λ y. o) (drop i fs) x ≡ all → genvar_in (λ y. p) (drop (i + 1) fs) x ≡ all
  genvar_on o p all h was =
      genvar_at (λ y. p) (genvar_over f (λ y. o)) (drop (i + 1) fs) x h
      ∙ ap (λ gs. genvar_in (λ y. o) gs x) (sym one_more) ∙ was

-- the innermost of some scopes
pub known_inner : (k : Known) (fs : List Frame) (f : Frame) → known_in k (fs ++ f ∷ []) ≡ known_over f (known_in k fs)
known_inner k [] f = refl
known_inner k (g ∷ fs) f = known_inner (known_over g k) fs f

pub genvar_inner : (k : Text → Bool) (fs : List Frame) (f : Frame) → genvar_in k (fs ++ f ∷ []) ≡ genvar_over f (genvar_in k fs)
genvar_inner k [] f = refl
genvar_inner k (g ∷ fs) f = genvar_inner (genvar_over g k) fs f
