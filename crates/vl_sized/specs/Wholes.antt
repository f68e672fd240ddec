-- Whole numbers of the program. This project's own.
use Rattle.std.specs.Prelude.{ℕ, ℤ, pos, negsuc, if◌then◌else◌, Option, Some, None}
use Rattle.vl_width.specs.Known.{is_width}
use Rattle.vl_sized.specs.declared.whole.Whole.{Whole}

abbrev pub integer : Whole → ℤ
integer w = if w.negative then negsuc w.size else pos w.size

-- so many bits, where a vector has so many
abbrev pub if_width : ℕ → Option ℕ
if_width w = if is_width w then Some w else None
