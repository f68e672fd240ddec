-- What clauses see of a reader of a stimulus. This project's own.
use Rattle.std.specs.Prelude.{ℕ, Bool, List}
use Rattle.stimulus.specs.declared.refusal.Input.{Input}

-- bytes that were taken and not passed over yet, and how many of all that were taken came with the last call that gave bytes or said
-- that none is left
pub record Held : Type 0 where
  pub bytes : List ℕ
  pub fresh : ℕ

-- how rows are read: what line 2 says of the values of a row (their widths, the place of each input's value among them), and room for the
-- row that was read last, in order of the ports
pub record Layout : Type 0 where
  pub widths : List ℕ
  pub places : List ℕ
  pub row : List ℕ

-- the data inputs, how many lines were read, what line 2 says, the bytes that were taken and not passed over yet, and whether the reader
-- may be asked for a row
pub record Reader : Type 0 where
  pub inputs : List Input
  pub number : ℕ
  pub layout : Layout
  pub held : Held
  pub live : Bool
