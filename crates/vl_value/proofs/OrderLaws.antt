-- The least of two lists is the lesser of their least.
use Rattle.std.proofs.Common.{◌≡◌, refl, sym, ap, ◌∙◌, ℕ, Bool, true, false, List, [], ◌∷◌, ◌++◌, Some, None, arith, if◌then◌else◌}
use Rattle.std.proofs.lemmas.Bool.Decides.{nat_tests}
use Rattle.std.specs.Prelude.{Option, nat_lt, ◌==◌}
use Rattle.vl_value.specs.Order.{Found, rank, is_before, lesser, least}

-- the order of pairs of numbers
abbrev before : ℕ → ℕ → ℕ → ℕ → Bool
before t r u q = if t == u then nat_lt r q else nat_lt t u

before_on : (t r u q v p : ℕ) → before t r u q ≡ true → before u q v p ≡ true → before t r v p ≡ true
before_on t r u q v p a b = grind (arith, nat_tests, a, b)

not_before_on : (t r u q v p : ℕ) → before u q t r ≡ false → before v p u q ≡ false → before v p t r ≡ false
not_before_on t r u q v p a b = grind (arith, nat_tests, a, b)

abbrev pick : Bool → Found → Found → Option Found
pick b g f = if b then Some g else Some f

joined : (f g h : Found) (b d e : Bool) → is_before g f ≡ b → is_before h g ≡ d → is_before h f ≡ e
    → (b ≡ true → d ≡ true → e ≡ true) → (b ≡ false → d ≡ false → e ≡ false)
    → lesser (pick b g f) (Some h) ≡ lesser (Some f) (pick d h g)
joined f g h true true e p q r s t = ap (λ x. pick x h g) q ∙ sym (ap (λ x. pick x h f) (r ∙ s refl refl))
joined f g h true false e p q r s t = ap (λ x. pick x h g) q ∙ sym (ap (λ x. pick x g f) p)
joined f g h false true e p q r s t = refl
joined f g h false false e p q r s t = ap (λ x. pick x h f) (r ∙ t refl refl) ∙ sym (ap (λ x. pick x g f) p)

none_last : (b : Bool) (f g : Found) → lesser (pick b g f) None ≡ pick b g f
none_last true f g = refl
none_last false f g = refl

pub lesser_joined : (a b c : Option Found) → lesser (lesser a b) c ≡ lesser a (lesser b c)
lesser_joined None b c = refl
lesser_joined (Some f) None c = refl
lesser_joined (Some f) (Some g) None = none_last (is_before g f) f g
lesser_joined (Some f) (Some g) (Some h) =
    joined f g h (is_before g f) (is_before h g) (is_before h f) refl refl refl
    (λ p q. before_on h.place.token (rank h.kind) g.place.token (rank g.kind) f.place.token (rank f.kind) q p)
    (λ p q. not_before_on f.place.token (rank f.kind) g.place.token (rank g.kind) h.place.token (rank h.kind) p q)

pub least_joined : (a b : List Found) → least (a ++ b) ≡ lesser (least a) (least b)
least_joined [] b = refl
least_joined (f ∷ a) b = ap (lesser (Some f)) (least_joined a b) ∙ sym (lesser_joined (Some f) (least a) (least b))

some_pick : (b : Bool) (f g : Found) → pick b g f ≡ None → ⊥
some_pick true f g e = absurd cc
some_pick false f g e = absurd cc

some_first : (f : Found) (o : Option Found) → lesser (Some f) o ≡ None → ⊥
some_first f None e = absurd cc
some_first f (Some g) e = some_pick (is_before g f) f g e

-- there is none exactly where the list is empty
pub least_none : (a : List Found) → least a ≡ None → a ≡ []
least_none [] e = refl
least_none (f ∷ a) e = absurd (some_first f (least a) e)
