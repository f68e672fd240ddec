-- What the parts of a design are, without saying how they are found: each bit that a driver drives, or a block may assign, lies in one
-- part, of the first that does; a part has no other bits; parts stand in order of signal, then of place, and two that meet have different
-- owners, so that each is as long as it can be. This project's own.
use Rattle.std.specs.Prelude.{◌≡◌, ℕ, suc, ◌+◌, ◌<◌, ◌≤◌, ◌⊎◌, List, map, slice_get, Some}
use Rattle.vl_design.specs.Design.{Design, Signal}
use Rattle.vl_process.specs.Aims.{Aimed}
use Rattle.vl_process.specs.Processes.{drivers, driver_aims, blocks, block_aims}
use Rattle.vl_process.specs.Settling.{signal_width}
use Rattle.vl_process.specs.Parts.{Part, owner_from, driven_parts, register_parts}

-- a place of a signal lies in a part
abbrev pub HasPlace : Part → ℕ → ℕ → Type 0
HasPlace q x k = (q.signal ≡ x) × (q.low ≤ k) × (k < q.low + q.width)

-- the bit at a place of the signal of a number is there, and of these lists of aims the one of this number is the first that has it
pub record IsOwned (all : List (List Aimed)) (xs : List Signal) (x k n : ℕ) : Type 0 where
  pub signal : Signal
  pub at : slice_get xs x ≡ Some signal
  pub within : k < signal_width signal
  pub owner : owner_from 0 all signal.path k ≡ Some n

-- one part stands before another, and where they meet they have different owners
abbrev pub StandsApart : Part → Part → Type 0
StandsApart q r = (q.signal < r.signal)
    ⊎ ((q.signal ≡ r.signal) × (q.low + q.width ≤ r.low) × (q.low + q.width ≡ r.low → q.owner ≡ r.owner → ⊥))

-- a part of a list that has a place of a signal, and is of an owner
pub record HasHolder (qs : List Part) (x k n : ℕ) : Type 0 where
  pub number : ℕ
  pub part : Part
  pub at : slice_get qs number ≡ Some part
  pub has : HasPlace part x k
  pub owner : part.owner ≡ n

-- these are the parts of signals, by lists of aims
pub record ArePartsOf (all : List (List Aimed)) (xs : List Signal) (qs : List Part) : Type 0 where
  pub owned : (i k : ℕ) (q : Part) → slice_get qs i ≡ Some q → HasPlace q q.signal k → IsOwned all xs q.signal k q.owner
  pub held : (x k n : ℕ) → IsOwned all xs x k n → HasHolder qs x k n
  pub some : (i : ℕ) (q : Part) → slice_get qs i ≡ Some q → 1 ≤ q.width
  pub apart : (i : ℕ) (q r : Part) → slice_get qs i ≡ Some q → slice_get qs (suc i) ≡ Some r → StandsApart q r

-- a law: the driven parts of a design are those of its drivers, and its register parts those of its clocked blocks
pub record PartsLaw : Type 0 where
  pub driven : (d : Design) → ArePartsOf (map driver_aims (drivers d)) d.signals (driven_parts d)
  pub registers : (d : Design) → ArePartsOf (map block_aims (blocks d)) d.signals (register_parts d)
