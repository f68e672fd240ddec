-- Bytes as they stand, one byte on.
use Rattle.std.proofs.Common.{◌≡◌, ℕ, zero, suc, ◌-◌, ◌<◌, true, false, [], ◌∷◌, refl, ap, sym, ◌∙◌, arith}
use Rattle.vl_pre.specs.Bytes.{Text, Placed, is_allowed}
use Rattle.vl_tree.specs.declared.fault.FaultKind.TheVariants.{BadByte}
use Rattle.vl_pre.specs.Pieces.{Part, gives, fails, go_on, kept}

abbrev one : Placed → Text → Part
one c ts = gives (c ∷ []) ts

pub kept_more : (n : ℕ) (ts us : Text) (c : Placed) → 0 < n → ts ≡ c ∷ us → is_allowed c.byte ≡ true → kept n ts ≡ go_on (gives (c ∷ []) us) (kept (n - 1))
kept_more zero ts us c some e h = absurd (omega (arith, some))
kept_more (suc m) ts us c some e h = let k : suc m - 1 ≡ m = omega arith in ap (kept (suc m)) e ∙ rw (h, k) refl

pub kept_bad : (n : ℕ) (ts us : Text) (c : Placed) → 0 < n → ts ≡ c ∷ us → is_allowed c.byte ≡ false → kept n ts ≡ fails BadByte c.line
kept_bad zero ts us c some e h = absurd (omega (arith, some))
kept_bad (suc m) ts us c some e h = ap (kept (suc m)) e ∙ rw h refl

kept_nil : (n : ℕ) → kept n [] ≡ gives [] []
kept_nil zero = refl
kept_nil (suc n) = refl

pub kept_none : (n : ℕ) (ts us : Text) → ts ≡ [] → us ≡ [] → kept n ts ≡ gives [] us
kept_none n ts us e e' = ap (kept n) e ∙ kept_nil n ∙ ap (gives []) (sym e')

pub kept_all : (n : ℕ) (ts : Text) → n ≡ 0 → kept n ts ≡ gives [] ts
kept_all n ts e = ap (λ x. kept x ts) e
