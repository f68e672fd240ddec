-- What private functions promise each other. This project's own.
use Rattle.std.specs.Prelude.{ℕ, ◌+◌, ◌-◌, ◌*◌, ◌^◌, ◌<◌, List, take, drop, length}
use Rattle.packed_rows.specs.Packed.{number}
use Rattle.packed_rows.specs.declared.held.Held.{Held}

-- the held number has so many bits as are counted, fewer than a word
abbrev pub IsHeld : Held → Type 0
IsHeld h = (h.count < 64) × (h.bits < 2 ^ h.count)

-- ---- writing: bits go to the words before the next one, and some are held

-- how many bits were put, and their number
abbrev pub place : Held → ℕ
place h = 64 * h.next + h.count

abbrev pub written : List ℕ → Held → ℕ
written words h = number (take h.next words) + 2 ^ (64 * h.next) * h.bits

-- ---- reading: bits come from the next word on, and some are held

-- how many bits are left, and their number
abbrev pub room : List ℕ → Held → ℕ
room words h = h.count + 64 * (length words - h.next)

abbrev pub left : List ℕ → Held → ℕ
left words h = h.bits + 2 ^ h.count * number (drop h.next words)
