-- What the nodes between an index and its place are worth, on numbers of 64 and 70 bits. This project's own.
use Rattle.std.specs.Prelude.{ℕ, ◌-◌, ◌^◌, ◌==◌, Bool, true, false, if◌then◌else◌, nat_le, nat_lt}
use Rattle.bit_ops.specs.Operators as ops
use Rattle.vl_value.specs.Things.{Shape}
use Rattle.vl_places.specs.declared.places.Way.{Way}
use Rattle.vl_places.specs.declared.places.Way.TheVariants as way

-- an index of the width w where 64 bits hold it, else the greatest that they hold
abbrev pub clamped : Bool → ℕ → ℕ → ℕ
clamped s w n = if ops.extend s 64 w (ops.low 64 n) == n then ops.low 64 n else 2 ^ 63 - 1

-- the same at 70 bits
abbrev pub near : Bool → ℕ → ℕ → ℕ
near s w n = if nat_le w 64 then ops.extend s w 70 n else ops.extend s 64 70 (clamped s w n)

-- n less k, or turned k less n
abbrev pub difference : Bool → ℕ → ℕ → ℕ
difference turned k n = if turned then ops.sub 70 k n else ops.sub 70 n k

-- how far the rightmost of n bits lies to the right of the index
abbrev pub behind : Bool → Way → ℕ → ℕ
behind false way.Upward n = 0
behind false way.Downward n = n - 1
behind true way.Upward n = n - 1
behind true way.Downward n = 0

-- the place from the index's number
abbrev pub place : Shape → Way → ℕ → Bool → ℕ → ℕ → ℕ
place sh d count s w n =
    let ascending : Bool = nat_lt sh.left sh.right in
    difference false (behind ascending d count) (difference ascending sh.right (near s w n))
