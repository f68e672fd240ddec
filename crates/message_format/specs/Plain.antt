-- Pieces that are being gathered, as contracts see them. This project's own.
use Rattle.std.specs.Prelude.{ℕ, List}
use Rattle.message_format.specs.declared.piece.Piece.{Piece}

-- the pieces so far, and the text after them
pub record PlainDraft : Type 0 where
  pub pieces : List Piece
  pub text : List ℕ
