-- What a change of the innermost scope makes of what is around.
use Rattle.std.proofs.Common.{◌≡◌, Bool, true, false, nat_eq, [], ◌∷◌, ◌++◌, refl, ap, ◌∙◌}
use Rattle.std.specs.Prelude.{Option, Some, None, cond, if◌then◌else◌, ◌||◌, ◌&&◌, not, bytes_eq}
use Rattle.std.specs.Cmp.Lexicographic.{pointwise}
use Rattle.indexmap.specs.IndexMap.{get}
use Rattle.vl_value.specs.Paths.{Text}
use Rattle.vl_design.specs.Constants.{Worth, Known, nothing_known}
use Rattle.vl_design.specs.Generate.{Around}
use Rattle.vl_frames.specs.Marks.{told, told_genvar, known_in, genvar_in, around, plain_worth, IsEmptyFrame, IsNew}
use Rattle.vl_frames.specs.Changes.{hidden, genvar_noted, passed, declared, Becomes, Enters}
use Rattle.vl_frames.specs.declared.mark.Mark.{Mark}
use Rattle.vl_frames.specs.declared.mark.Mark.TheVariants as m
use Rattle.vl_frames.specs.declared.mark.Worth as code
use Rattle.vl_frames.specs.declared.frame.Frame.{Frame}
use Rattle.vl_frames.specs.declared.frames.Frames.{Frames}
use Rattle.vl_frames.proofs.Looked.{known_inner, genvar_inner}

-- ---- what is found of a name, by cases on whether it is the one that is marked

hides : (same : Bool) (old : Option Mark) (o : Option Worth)
    → told (cond same (Some m.Object) old) o ≡ (if same then None else told old o)
hides true old o = refl
hides false old o = refl

declares : (same : Bool) (w : code.Worth) (old : Option Mark) (o : Option Worth)
    → told (cond same (Some (m.Constant w)) old) o ≡ (if same then Some (plain_worth w) else told old o)
declares true w old o = refl
declares false w old o = refl

passes : (same : Bool) (old : Option Bool) (b : Bool)
    → told_genvar (cond same (Some false) old) b ≡ (not same && told_genvar old b)
passes true old b = refl
passes false old b = refl

notes : (same : Bool) (old : Option Bool) (b : Bool)
    → told_genvar (cond same (Some true) old) b ≡ (same || told_genvar old b)
notes true old b = refl
notes false old b = refl

-- ---- scopes whose innermost one has changed

abbrev outer_known : Frames → Known
outer_known f = known_in nothing_known f.outer.items

abbrev outer_genvar : Frames → Text → Bool
outer_genvar f = genvar_in (λ x. false) f.outer.items

-- a name in constants, and in genvars
abbrev Marked : Frame → Frame → Text → Mark → Type 0
Marked old new x w = (y : Text) → get (pointwise nat_eq) new.constants y ≡ cond (bytes_eq x y) (Some w) (get (pointwise nat_eq) old.constants y)

abbrev Told : Frame → Frame → Text → Bool → Type 0
Told old new x b = (y : Text) → get (pointwise nat_eq) new.genvars y ≡ cond (bytes_eq x y) (Some b) (get (pointwise nat_eq) old.genvars y)

module _ (old new : Frames) (x : Text) (outer : new.outer.items ≡ old.outer.items) where
  around_outer : Frames → Around
  around_outer f = record { known = outer_known f; is_genvar = outer_genvar f }

  known_by : (w : Mark) → Marked old.inner new.inner x w
      → (y : Text) → (around new).known y ≡ told (cond (bytes_eq x y) (Some w) (get (pointwise nat_eq) old.inner.constants y)) (outer_known old y)
  known_by w h y = λ i. told (h y i) (known_in nothing_known (outer i) y)

  known_stays : new.inner.constants ≡ old.inner.constants → (y : Text) → (around new).known y ≡ (around old).known y
  known_stays h y = λ i. told (get (pointwise nat_eq) (h i) y) (known_in nothing_known (outer i) y)

  genvar_by : (b : Bool) → Told old.inner new.inner x b
      → (y : Text) → (around new).is_genvar y ≡ told_genvar (cond (bytes_eq x y) (Some b) (get (pointwise nat_eq) old.inner.genvars y)) (outer_genvar old y)
  genvar_by b h y = λ i. told_genvar (h y i) (genvar_in (λ z. false) (outer i) y)

  genvar_stays : new.inner.genvars ≡ old.inner.genvars → (y : Text) → (around new).is_genvar y ≡ (around old).is_genvar y
  genvar_stays h y = λ i. told_genvar (get (pointwise nat_eq) (h i) y) (genvar_in (λ z. false) (outer i) y)

  pub becomes_hidden : Marked old.inner new.inner x m.Object → Told old.inner new.inner x false
      → Becomes old new (hidden (bytes_eq x) (around old))
  becomes_hidden h g = record {
    sight = λ i. record {
      known = λ y. (known_by m.Object h y ∙ hides (bytes_eq x y) (get (pointwise nat_eq) old.inner.constants y) (outer_known old y)) i;
      is_genvar = λ y. (genvar_by false g y ∙ passes (bytes_eq x y) (get (pointwise nat_eq) old.inner.genvars y) (outer_genvar old y)) i;
    };
    outer = outer;
  }

  pub becomes_declared : (w : code.Worth) → Marked old.inner new.inner x (m.Constant w) → new.inner.genvars ≡ old.inner.genvars
      → Becomes old new (declared x (plain_worth w) (around old))
  becomes_declared w h g = record {
    sight = λ i. record {
      known = λ y. (known_by (m.Constant w) h y ∙ declares (bytes_eq x y) w (get (pointwise nat_eq) old.inner.constants y) (outer_known old y)) i;
      is_genvar = λ y. genvar_stays g y i;
    };
    outer = outer;
  }

  pub becomes_noted : new.inner.constants ≡ old.inner.constants → Told old.inner new.inner x true
      → Becomes old new (genvar_noted (bytes_eq x) (around old))
  becomes_noted h g = record {
    sight = λ i. record {
      known = λ y. known_stays h y i;
      is_genvar = λ y. (genvar_by true g y ∙ notes (bytes_eq x y) (get (pointwise nat_eq) old.inner.genvars y) (outer_genvar old y)) i;
    };
    outer = outer;
  }

  pub becomes_passed : new.inner.constants ≡ old.inner.constants → Told old.inner new.inner x false
      → Becomes old new (passed (bytes_eq x) (around old))
  becomes_passed h g = record {
    sight = λ i. record {
      known = λ y. known_stays h y i;
      is_genvar = λ y. (genvar_by false g y ∙ passes (bytes_eq x y) (get (pointwise nat_eq) old.inner.genvars y) (outer_genvar old y)) i;
    };
    outer = outer;
  }

-- ---- scopes that are entered

pub becomes_entered : (old new : Frames) → IsEmptyFrame new.inner → new.outer.items ≡ old.outer.items ++ old.inner ∷ [] → Enters old new
becomes_entered old new empty outer = record {
  sight = λ i. record {
    known = λ y. ((λ j. told (empty.constants y j) (known_in nothing_known (outer j) y))
        ∙ ap (λ (k : Known). k y) (known_inner nothing_known old.outer.items old.inner)) i;
    is_genvar = λ y. ((λ j. told_genvar (empty.genvars y j) (genvar_in (λ z. false) (outer j) y))
        ∙ ap (λ (k : Text → Bool). k y) (genvar_inner (λ z. false) old.outer.items old.inner)) i;
  };
  outer = outer;
}

pub is_new : (new : Frames) → IsEmptyFrame new.inner → new.outer.items ≡ [] → IsNew new
is_new new empty outer = record {
  sight = λ i. record {
    known = λ y. told (empty.constants y i) (known_in nothing_known (outer i) y);
    is_genvar = λ y. told_genvar (empty.genvars y i) (genvar_in (λ z. false) (outer i) y);
  };
  outer = outer;
}
