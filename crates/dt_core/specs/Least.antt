-- The least number that passes a test. This project's own.
use Rattle.std.specs.Prelude.{ℕ, zero, suc, Bool, Option, Some, None, if◌then◌else◌}

-- the least number below n that passes
abbrev pub least : (ℕ → Bool) → ℕ → Option ℕ
least p zero = None
least p (suc n) = elim (least p n) [ Some c ↦ Some c | None ↦ if p n then Some n else None ]
