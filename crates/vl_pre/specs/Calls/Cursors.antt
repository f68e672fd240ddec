-- What a cursor stands for: the text from its place on.
use Rattle.std.specs.Prelude.{ℕ, ◌+◌, ◌^◌, ◌<◌, Bool, true, false, List, length}
use Rattle.vl_pre.specs.Bytes.{Text, placed, all_at}

-- these bytes from this line on; those of a macro's body are all on one line
abbrev pub text_from : Bool → ℕ → List ℕ → Text
text_from true line bs = all_at line bs
text_from false line bs = placed line bs

-- no line is beyond 32 bits
abbrev pub LinesFit : Bool → ℕ → List ℕ → Type 0
LinesFit true line bs = Unit {0}
LinesFit false line bs = line + length bs < 2 ^ 32
