-- How an object of this crate counts its faults. This project's own.
use Rattle.std.specs.Prelude.{ℕ, ◌≡◌, ◌+◌, ◌-◌, ◌^◌, min, Bool, true, false, Result, Ok, Err, MatchResult}
use Rattle.dt_io.specs.declared.outside.LoadFault.{LoadFault}
use Rattle.dt_io.specs.declared.outside.LoadFault.TheVariants as f

-- a count with one more, which stays at its last value
abbrev pub one_more : ℕ → ℕ
one_more n = min (n + 1) (2 ^ 64 - 1)

-- the count is one more after an error, and else as before
abbrev pub Counts : {T E : Type 0} → ℕ → ℕ → Result T E → Type 0
Counts before now result = MatchResult result (λ _. now ≡ before) (λ _. now ≡ one_more before)

-- the count is one more after Failed, and after TooLong where contents are not known, and else as before
abbrev pub LoadCounts : Bool → ℕ → ℕ → Result (Unit {0}) LoadFault → Type 0
LoadCounts told before now (Ok u) = now ≡ before
LoadCounts told before now (Err f.Failed) = now ≡ one_more before
LoadCounts true before now (Err f.TooLong) = now ≡ before
LoadCounts false before now (Err f.TooLong) = now ≡ one_more before
LoadCounts told before now (Err f.Memory) = now ≡ before
