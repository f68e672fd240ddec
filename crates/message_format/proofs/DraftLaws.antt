-- Pieces that are gathered, one after another.
use Rattle.std.proofs.Common.{◌≡◌, ◌≢◌, ℕ, Bool, true, false, List, [], ◌∷◌, ◌++◌, refl, sym, ap, ◌∙◌, append_assoc, append-nil, subst}
use Rattle.message_format.specs.declared.element.Element.{Element}
use Rattle.message_format.specs.declared.element.Element.TheVariants as e
use Rattle.message_format.specs.declared.piece.Piece.{Piece}
use Rattle.message_format.specs.declared.piece.Piece.TheVariants as p
use Rattle.message_format.specs.Pieces.{AreWhole, bytes_of, elements_of}
use Rattle.message_format.specs.Draft.{is_text, ends_in_text}

pub elements_join : (ps qs : List Piece) → elements_of (ps ++ qs) ≡ elements_of ps ++ elements_of qs
elements_join [] qs = refl
elements_join (p.Said t ∷ ps) qs = ap (λ xs. bytes_of t ++ xs) (elements_join ps qs)
    ∙ sym (append_assoc (bytes_of t) (elements_of ps) (elements_of qs))
elements_join (p.Path ∷ ps) qs = ap (λ xs. e.Path ∷ xs) (elements_join ps qs)
elements_join (p.Value i ∷ ps) qs = ap (λ xs. e.Value i ∷ xs) (elements_join ps qs)

-- a text after pieces of which the last is none
pub whole_text : (after : Bool) (ps : List Piece) (t : List ℕ) → AreWhole after ps → ends_in_text after ps ≡ false
    → t ≢ [] → AreWhole after (ps ++ p.Said t ∷ [])
whole_text after [] t w ends some = (ends, some, tt)
whole_text after (p.Said u ∷ ps) t w ends some = (w.0, w.1, whole_text true ps t w.2 ends some)
whole_text after (p.Path ∷ ps) t w ends some = whole_text false ps t w ends some
whole_text after (p.Value i ∷ ps) t w ends some = whole_text false ps t w ends some

-- another piece after any
whole_one : (after : Bool) (q : Piece) → is_text q ≡ false → AreWhole after (q ∷ [])
whole_one after (p.Said t) other = absurd cc
whole_one after p.Path other = tt
whole_one after (p.Value i) other = tt

pub whole_other : (after : Bool) (ps : List Piece) (q : Piece) → is_text q ≡ false → AreWhole after ps
    → AreWhole after (ps ++ q ∷ [])
whole_other after [] q other w = whole_one after q other
whole_other after (p.Said u ∷ ps) q other w = (w.0, w.1, whole_other true ps q other w.2)
whole_other after (p.Path ∷ ps) q other w = whole_other false ps q other w
whole_other after (p.Value i ∷ ps) q other w = whole_other false ps q other w

pub ends_with : (after : Bool) (ps : List Piece) (q : Piece) → ends_in_text after (ps ++ q ∷ []) ≡ is_text q
ends_with after [] q = refl
ends_with after (x ∷ xs) q = ends_with (is_text x) xs q

-- ---- a text that ends, and a piece after it

pub ended_said : (ps new : List Piece) (t u : List ℕ) → u ≡ t → new ≡ ps ++ p.Said u ∷ []
    → elements_of new ≡ elements_of ps ++ bytes_of t
ended_said ps new t u same is = ap elements_of is ∙ elements_join ps (p.Said u ∷ [])
    ∙ ap (λ x. elements_of ps ++ x) (append-nil (bytes_of u)) ∙ ap (λ x. elements_of ps ++ bytes_of x) same

pub ended_whole : (ps new : List Piece) (t u : List ℕ) → AreWhole false ps × (ends_in_text false ps ≡ false) → t ≢ []
    → u ≡ t → new ≡ ps ++ p.Said u ∷ [] → AreWhole false new
ended_whole ps new t u kept some same is = subst (AreWhole false) (sym is)
    (whole_text false ps u kept.0 kept.1 (subst (λ x. x ≢ []) (sym same) some))

pub added_said : (ps new : List Piece) (q : Piece) (t : List ℕ) (before : List Element) → elements_of ps ≡ before
    → t ≡ [] → new ≡ ps ++ q ∷ [] → elements_of new ++ bytes_of t ≡ before ++ elements_of (q ∷ [])
added_said ps new q t before same empty is = ap (λ x. elements_of new ++ bytes_of x) empty
    ∙ append-nil (elements_of new) ∙ ap elements_of is ∙ elements_join ps (q ∷ [])
    ∙ ap (λ x. x ++ elements_of (q ∷ [])) same

pub added_whole : (ps new : List Piece) (q : Piece) → AreWhole false ps → is_text q ≡ false → new ≡ ps ++ q ∷ []
    → AreWhole false new × (ends_in_text false new ≡ false)
added_whole ps new q w other is = subst (λ x. AreWhole false x × (ends_in_text false x ≡ false)) (sym is)
    (whole_other false ps q other w, ends_with false ps q ∙ other)
