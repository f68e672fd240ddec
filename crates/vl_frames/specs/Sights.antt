-- Constants in sight: no name stands for an object with a number, so which objects the numbers tell says nothing. This project's own.
use Rattle.std.specs.Prelude.{false, [], ◌∷◌}
use Rattle.vl_value.specs.Things.{Shape}
use Rattle.vl_width.specs.Objects.{Numbering}

-- the shape of an input of one bit
abbrev pub one_bit : Shape
one_bit = record { left = 0; right = 0; signed = false }

-- each function, had it a name, would have an input of one bit: so `input` can be called, though no name asks for it
abbrev pub no_objects : Numbering
no_objects =
    record { signals = λ n. []; memories = λ n. []; locals = λ n. []; functions = λ n. []; inputs = λ n. one_bit ∷ [] }
