-- What is added of one element after another, and the least fault of these.
use Rattle.std.proofs.Common.{◌≡◌, List, [], ◌∷◌, ◌++◌, append_assoc, refl, sym, ap, ◌∙◌}
use Rattle.std.specs.Prelude.{Option, None, Some}
use Rattle.vl_value.specs.Order.{Found, lesser, least}
use Rattle.vl_value.proofs.OrderLaws.{lesser_joined, least_joined}

-- one was added, and the rest is left
pub one_on : {A : Type 0} (old new : List A) (one : A) (rest all : List A) → new ≡ old ++ one ∷ []
    → old ++ (one ∷ rest) ≡ all → new ++ rest ≡ all
one_on old new one rest all e h = ap (λ l. l ++ rest) e ∙ append_assoc old (one ∷ []) rest ∙ h

-- some were added, and the rest is left
pub some_on : {A : Type 0} (old new some rest all : List A) → new ≡ old ++ some → old ++ (some ++ rest) ≡ all → new ++ rest ≡ all
some_on old new some rest all e h = ap (λ l. l ++ rest) e ∙ append_assoc old some rest ∙ h

-- the least so far, and that of what is left
pub fault_on : (a b n : Option Found) (fs gs : List Found) (all : Option Found) → n ≡ lesser a b → b ≡ least fs
    → lesser a (least (fs ++ gs)) ≡ all → lesser n (least gs) ≡ all
fault_on a b n fs gs all e f h =
    ap (λ x. lesser x (least gs)) e ∙ lesser_joined a b (least gs)
    ∙ ap (lesser a) (ap (λ y. lesser y (least gs)) f ∙ sym (least_joined fs gs)) ∙ h

pub fault_end : (a : Option Found) → lesser a None ≡ a
fault_end None = refl
fault_end (Some f) = refl
