-- Driven parts and register parts (this project's own): a maximal run of a signal's bits that one driver drives, or that one
-- clocked block may assign; in order of signal, then of place. What a driven part reads.
use Rattle.std.specs.Prelude.{ℕ, suc, ◌+◌, ◌==◌, Bool, false, ◌&&◌, if◌then◌else◌, nat_le, nat_lt, List, [], ◌∷◌, ◌++◌, map, slice_get, Option, Some, None, IsSomeAnd, IsTrue}
use Rattle.std.specs.List.{list_any}
use Rattle.vl_tree.specs.Syntax.{Target, Targets, name, targets, no_target, more_target}
use Rattle.vl_value.specs.Paths.{Path, same_path}
use Rattle.vl_value.specs.Constant.{Sight}
use Rattle.vl_value.specs.Reads.{Reading, bit, words, reads, select_reads, up_to}
use Rattle.vl_design.specs.Lists.{each_of}
use Rattle.vl_design.specs.Design.{Design, Signal}
use Rattle.vl_process.specs.Aims.{Aimed, is_aimed}
use Rattle.vl_process.specs.Processes.{Driver, assignment, drivers, driver_aims, blocks, block_aims}
use Rattle.vl_process.specs.Settling.{signal_width}

-- bits of the signal of a number, from a place upward, and the number of the driver or block that writes them
pub record Part : Type 0 where
  pub signal : ℕ
  pub low : ℕ
  pub width : ℕ
  pub owner : ℕ

-- the first of these lists, which are numbered from n on, that has the bit at a place
abbrev pub owner_from : ℕ → List (List Aimed) → Path → ℕ → Option ℕ
owner_from n [] p k = None
owner_from n (as' ∷ more) p k = if is_aimed as' p k then Some n else owner_from (suc n) more p k

-- a bit, before the parts of the places above it
abbrev pub begins_with : ℕ → ℕ → ℕ → List Part → List Part
begins_with x k n [] = record { signal = x; low = k; width = 1; owner = n } ∷ []
begins_with x k n (q ∷ qs) = if (q.low == suc k) && (q.owner == n)
    then record { signal = x; low = k; width = suc q.width; owner = n } ∷ qs
    else record { signal = x; low = k; width = 1; owner = n } ∷ (q ∷ qs)

abbrev pub with_bit : ℕ → ℕ → Option ℕ → List Part → List Part
with_bit x k None qs = qs
with_bit x k (Some n) qs = begins_with x k n qs

-- the parts of signal x whose bits from the place k on have these owners
abbrev pub runs : ℕ → ℕ → List (Option ℕ) → List Part
runs x k [] = []
runs x k (o ∷ os) = with_bit x k o (runs x (suc k) os)

abbrev pub signal_parts : List (List Aimed) → ℕ → Signal → List Part
signal_parts all n x = runs n 0 (map (owner_from 0 all x.path) (up_to (signal_width x)))

-- the parts of these signals, which are numbered from n on
abbrev pub parts_from : List (List Aimed) → ℕ → List Signal → List Part
parts_from all n [] = []
parts_from all n (x ∷ xs) = signal_parts all n x ++ parts_from all (suc n) xs

abbrev pub driven_parts : Design → List Part
driven_parts d = parts_from (map driver_aims (drivers d)) 0 d.signals

abbrev pub register_parts : Design → List Part
register_parts d = parts_from (map block_aims (blocks d)) 0 d.signals

-- ---- what a driven part reads

abbrev mutual
  pub target_reads : Sight → Target → List Reading
  target_reads s (name x ks) = select_reads s ks
  target_reads s (targets p ts) = all_target_reads s ts

  pub all_target_reads : Sight → Targets → List Reading
  all_target_reads s no_target = []
  all_target_reads s (more_target g ts) = target_reads s g ++ all_target_reads s ts

-- what the bit at a place reads of what its driver drives: of an assignment all that the value and the selects of the target read
abbrev pub driver_reads : Driver → Path → ℕ → List Reading
driver_reads (assignment s g u e) p k = reads u e ++ target_reads s g

-- whether it is a bit of a vector, of so many from a place upward
abbrev pub is_read_in : Path → ℕ → ℕ → Reading → Bool
is_read_in p low width (bit q k) = same_path p q && (nat_le low k && nat_lt k (low + width))
is_read_in p low width (words q) = false

-- whether it is a memory
abbrev pub is_read_word : Path → Reading → Bool
is_read_word p (bit q k) = false
is_read_word p (words q) = same_path p q

abbrev pub path_at : Design → ℕ → Path
path_at d n = elim (slice_get d.signals n) [ Some x ↦ x.path | None ↦ [] ]

-- what the bits of a part read
abbrev pub part_readings : Design → Part → List Reading
part_readings d p = elim (slice_get (drivers d) p.owner) [
  | Some r ↦ each_of (λ k. driver_reads r (path_at d p.signal) (p.low + k)) (up_to p.width)
  | None ↦ []
]

-- the driven part of a number reads that of another: some bit of the one reads a bit of the other
abbrev pub part_reads : Design → Part → Part → Bool
part_reads d p q = list_any (is_read_in (path_at d q.signal) q.low q.width) (part_readings d p)

abbrev pub ReadsPart : Design → ℕ → ℕ → Type 0
ReadsPart d i j = IsSomeAnd (slice_get (driven_parts d) i) (λ p. IsSomeAnd (slice_get (driven_parts d) j) (λ q.
    IsTrue (part_reads d p q)))
