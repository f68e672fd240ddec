-- Families: a value for each number, as for each partition or channel. This project's own.
use Rattle.std.specs.Prelude.{ℕ, zero, suc, ◌+◌, ◌==◌, nat_lt, Bool, true, false, if◌then◌else◌}

-- the family with v at the place k, and the others as they were
abbrev pub put : {A : Type 0} → ℕ → A → (ℕ → A) → ℕ → A
put k v f j = if j == k then v else f j

-- the family with g at the places below n, and the others as they were
abbrev pub put_below : {A : Type 0} → ℕ → (ℕ → A) → (ℕ → A) → ℕ → A
put_below n g f j = if nat_lt j n then g j else f j

-- the sum of f over the numbers below n
abbrev pub total : ℕ → (ℕ → ℕ) → ℕ
total zero f = 0
total (suc n) f = f n + total n f

-- 1 where it is true, and else 0
abbrev pub one_if : Bool → ℕ
one_if true = 1
one_if false = 0
