-- What is left of a number that is counted down. This project's own.
use Rattle.std.specs.Prelude.{ℕ, ◌-◌, nat_le, Option, Some, None, if◌then◌else◌}

-- what is left after n were taken, or none where there were fewer
abbrev pub left_after : ℕ → ℕ → Option ℕ
left_after left n = if nat_le n left then Some (left - n) else None
