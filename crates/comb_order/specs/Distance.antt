-- How far driven parts are from one of them, in reads. This project's own.
use Rattle.std.specs.Prelude.{◌≡◌, ◌≢◌, ℕ, ◌+◌, ◌<◌, ◌≤◌, min, List, length, slice_index, Option, Some, None, IsSomeAnd}
use Rattle.netlist.specs.Design.{Flat}
use Rattle.netlist.specs.Graph.{ReadsPart, ReadsIn}
use Rattle.comb_order.specs.declared.distance.TheConstants.{NEVER}

-- the fewest reads in which each part comes to the part `to`; not below NEVER where it doesn't
pub record AreDistances (f : Flat) (to : ℕ) (ranks : List ℕ) : Type 0 where
  pub count : length ranks ≡ length f.driven
  pub back : (p : ℕ) → p < length f.driven → slice_index ranks p < NEVER → ReadsIn f (slice_index ranks p) p to
  pub fewest : (p n : ℕ) → p < length f.driven → ReadsIn f n p to → slice_index ranks p ≤ n
  pub ever : (p n : ℕ) → p < length f.driven → ReadsIn f n p to → slice_index ranks p < NEVER

-- the rank of the part `to` is 0; the rank of each other part, below NEVER, is more than that of some part that it reads
pub record AreSupported (f : Flat) (to : ℕ) (ranks : List ℕ) : Type 0 where
  pub count : length ranks ≡ length f.driven
  pub start : slice_index ranks to ≡ 0
  pub each : (p : ℕ) → p < length f.driven → p ≢ to → slice_index ranks p < NEVER
      → (q : ℕ) × ReadsPart f p q × (slice_index ranks q < slice_index ranks p)

-- the rank of each part but `to` is at most one more than that of each part that it reads
abbrev pub AreSettled : Flat → ℕ → List ℕ → Type 0
AreSettled f to ranks = (p q : ℕ) → p < length f.driven → p ≢ to → ReadsPart f p q
    → slice_index ranks p ≤ slice_index ranks q + 1

-- one more than the rank of a part, and at most NEVER; NEVER where there is no part
abbrev pub one_read_more : List ℕ → Option ℕ → ℕ
one_read_more ranks None = NEVER
one_read_more ranks (Some q) = min (slice_index ranks q + 1) NEVER

-- there is a part that was read first, and its rank, which counts reads to some part, is below NEVER
abbrev pub ComesBack : List ℕ → Option ℕ → Type 0
ComesBack ranks None = ⊥
ComesBack ranks (Some q) = slice_index ranks q < NEVER

-- the rank of a part is 0 at the part `to`, and elsewhere, below NEVER, more than that of the part that it reads first
pub record HasSupport (to : ℕ) (ranks : List ℕ) (first : Option ℕ) (p : ℕ) : Type 0 where
  pub start : p ≡ to → slice_index ranks p ≡ 0
  pub each : p ≢ to → slice_index ranks p < NEVER → IsSomeAnd first (λ q. slice_index ranks q < slice_index ranks p)
