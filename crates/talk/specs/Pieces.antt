-- The text of pieces that are written one after another. This project's own.
use Rattle.std.specs.Prelude.{ℕ, List, [], ◌∷◌, ◌++◌, decimal}
use Rattle.talk.specs.declared.piece.Piece.{Piece}
use Rattle.talk.specs.declared.piece.Piece.TheVariants as p

-- a piece is its bytes, or the decimal digits of its number
abbrev pub piece_text : Piece → List ℕ
piece_text (p.Bytes bytes) = bytes.now
piece_text (p.Number number) = decimal number

-- the pieces' texts, one after another
abbrev pub pieces_text : List Piece → List ℕ
pieces_text [] = []
pieces_text (piece ∷ pieces) = piece_text piece ++ pieces_text pieces
