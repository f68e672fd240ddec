-- One name more.
use Rattle.std.proofs.Common.{◌≡◌, ℕ, Bool, true, false, ◌||◌, Option, Some, is_some, refl}
use Rattle.std.specs.Prelude.{cond, if◌then◌else◌}

pub noted : (same : Bool) (old : Option ℕ) → is_some (cond same (Some 0) old) ≡ (same || is_some old)
noted true old = refl
noted false old = refl

pub numbered : (same : Bool) (n : ℕ) (old : Option ℕ) → cond same (Some n) old ≡ (if same then Some n else old)
numbered true n old = refl
numbered false n old = refl
