-- The lengths of strings and escaped names, one byte on.
use Rattle.std.proofs.Common.{◌≡◌, ℕ, suc, ◌==◌, ◌&&◌, ◌||◌, not, Bool, true, false, List, ◌∷◌, refl, ap, sym, ◌∙◌}
use Rattle.vl_pre.specs.Bytes.{is_white}
use Rattle.vl_pre.specs.Pieces.{stops_line, string_length, escaped_length}

pub string_stops : (k escaped : Bool) (b : ℕ) (rest bs : List ℕ) → rest ≡ b ∷ bs → stops_line k rest ≡ true → string_length k escaped rest ≡ 0
string_stops k escaped b rest bs e h = let h' : stops_line k (b ∷ bs) ≡ true = ap (stops_line k) (sym e) ∙ h in ap (string_length k escaped) e ∙ rw h' refl

pub string_closes : (k escaped : Bool) (b : ℕ) (rest bs : List ℕ) → rest ≡ b ∷ bs → stops_line k rest ≡ false → (b == 34 && not escaped) ≡ true → string_length k escaped rest ≡ 1
string_closes k escaped b rest bs e h q = let h' : stops_line k (b ∷ bs) ≡ false = ap (stops_line k) (sym e) ∙ h in ap (string_length k escaped) e ∙ rw (h', q) refl

pub string_more : (k escaped : Bool) (b : ℕ) (rest bs : List ℕ) → rest ≡ b ∷ bs → stops_line k rest ≡ false → (b == 34 && not escaped) ≡ false
    → string_length k escaped rest ≡ suc (string_length k (b == 92 && not escaped) bs)
string_more k escaped b rest bs e h q = let h' : stops_line k (b ∷ bs) ≡ false = ap (stops_line k) (sym e) ∙ h in ap (string_length k escaped) e ∙ rw (h', q) refl

pub escaped_stops : (k : Bool) (b : ℕ) (rest bs : List ℕ) → rest ≡ b ∷ bs → (is_white b || stops_line k rest) ≡ true → escaped_length k rest ≡ 0
escaped_stops k b rest bs e h = let h' : (is_white b || stops_line k (b ∷ bs)) ≡ true = ap (λ x. is_white b || stops_line k x) (sym e) ∙ h in ap (escaped_length k) e ∙ rw h' refl

pub escaped_more : (k : Bool) (b : ℕ) (rest bs : List ℕ) → rest ≡ b ∷ bs → (is_white b || stops_line k rest) ≡ false → escaped_length k rest ≡ suc (escaped_length k bs)
escaped_more k b rest bs e h = let h' : (is_white b || stops_line k (b ∷ bs)) ≡ false = ap (λ x. is_white b || stops_line k x) (sym e) ∙ h in ap (escaped_length k) e ∙ rw h' refl
