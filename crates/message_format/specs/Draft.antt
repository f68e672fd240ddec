-- What the gathering of pieces keeps. This project's own.
use Rattle.std.specs.Prelude.{◌≡◌, Bool, true, false, List, [], ◌∷◌, ◌++◌}
use Rattle.message_format.specs.declared.element.Element.{Element}
use Rattle.message_format.specs.declared.piece.Piece.{Piece}
use Rattle.message_format.specs.declared.piece.Piece.TheVariants as p
use Rattle.message_format.specs.Pieces.{AreWhole, bytes_of, elements_of}
use Rattle.message_format.specs.Plain.{PlainDraft}

abbrev pub is_text : Piece → Bool
is_text (p.Said t) = true
is_text p.Path = false
is_text (p.Value i) = false

-- whether the last of these pieces is a text; where there is none, what is said of the one before them
abbrev pub ends_in_text : Bool → List Piece → Bool
ends_in_text after [] = after
ends_in_text after (x ∷ xs) = ends_in_text (is_text x) xs

-- the elements so far
abbrev pub said : PlainDraft → List Element
said d = elements_of d.pieces ++ bytes_of d.text

-- the pieces are whole, and a text may follow them
abbrev pub IsDraft : PlainDraft → Type 0
IsDraft d = AreWhole false d.pieces × (ends_in_text false d.pieces ≡ false)
