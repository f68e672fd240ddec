-- Names for the tests: parameters P, 32'sd3, and Q, 4'sd15; a vector a [7:0]. This project's own.
use Rattle.std.specs.Prelude.{ℕ, true, false, List, [], ◌∷◌, if◌then◌else◌, Option, Some, None, bytes_eq, codes}
use Rattle.vl_value.specs.Paths.{Text, Path, named}
use Rattle.vl_value.specs.Things.{Shape, Thing, signal, constant}
use Rattle.vl_value.specs.Constant.{Sight}
use Rattle.vl_width.specs.Objects.{Numbering}

abbrev path : ℕ → Path
path n = []

abbrev byte : Shape
byte = record { left = 7; right = 0; signed = false }

-- each function has one input, a byte
abbrev pub numbering : Numbering
numbering = record { signals = path; memories = path; locals = path; functions = path; inputs = λ n. byte ∷ [] }

abbrev pub sight : Sight
sight x = if bytes_eq x (codes "P") then Some (constant 32 true 3)
    else (if bytes_eq x (codes "Q") then Some (constant 4 true 15)
    else (if bytes_eq x (codes "a") then Some (signal [] byte) else None))
