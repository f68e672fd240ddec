-- Loops of driven parts (phase 9; this project's own): a part that reads itself, directly or through others, the loop that is told of it,
-- and where the fault stands.
use Rattle.std.specs.Prelude.{◌≡◌, ℕ, zero, suc, ◌+◌, ◌-◌, ◌<◌, ◌≤◌, Bool, ◌&&◌, if◌then◌else◌, nat_le, nat_lt, List, [], ◌∷◌, length, slice_get, slice_index, slice_index_or, Option, Some, None, IsSomeAnd}
use Rattle.std.specs.List.{list_any}
use Rattle.vl_tree.specs.declared.fault.FaultKind.TheVariants.{Loop}
use Rattle.vl_tree.specs.Syntax.{Place}
use Rattle.vl_tree.specs.Fault.{Fault}
use Rattle.vl_value.specs.Paths.{Text, Path, same_path}
use Rattle.vl_value.specs.Order.{at, of_phase}
use Rattle.vl_design.specs.Design.{Design}
use Rattle.vl_process.specs.Texts.{path_text}
use Rattle.vl_process.specs.Aims.{Aimed}
use Rattle.vl_process.specs.Processes.{drivers, driver_aims}
use Rattle.vl_process.specs.Parts.{Part, driven_parts, path_at, ReadsPart}

-- ---- loops

-- part p comes to part q in so many reads, each from a part to one that it reads
abbrev pub ReadsIn : Design → ℕ → ℕ → ℕ → Type 0
ReadsIn d zero p q = p ≡ q
ReadsIn d (suc n) p q = (r : ℕ) × ReadsPart d p r × ReadsIn d n r q

-- of all parts that p reads, q comes back to s in the fewest reads, in n, and has the least number of those that do
pub record IsNearest (d : Design) (p q s n : ℕ) : Type 0 where
  pub reads : ReadsPart d p q
  pub back : ReadsIn d n q s
  pub fewest : (r m : ℕ) → ReadsPart d p r → ReadsIn d m r s → n ≤ m
  pub least : (r : ℕ) → ReadsPart d p r → ReadsIn d n r s → q ≤ r

-- A list of parts that begins with the least one that reads itself, directly or through others. Each next one, and the
-- first after the last, is the nearest to the first of those that the one before it reads.
pub record IsLoop (d : Design) (parts : List ℕ) : Type 0 where
  pub some : 0 < length parts
  pub first : (p n : ℕ) → ReadsIn d (suc n) p p → slice_index parts 0 ≤ p
  pub next : (i : ℕ) → i < length parts
      → IsNearest d (slice_index parts i) (slice_index_or parts (suc i) (slice_index parts 0)) (slice_index parts 0)
      (length parts - suc i)

-- no part reads itself
abbrev pub HasNoLoop : Design → Type 0
HasNoLoop d = (p n : ℕ) → ReadsIn d (suc n) p p → ⊥

-- ---- what is told

-- the first name in a driver's target that has a bit of a part
abbrev pub is_in_part : Part → ℕ → Bool
is_in_part q k = nat_le q.low k && nat_lt k (q.low + q.width)

abbrev pub first_aim : Path → Part → List Aimed → Option Place
first_aim x q [] = None
first_aim x q (a ∷ more) = if same_path a.path x && list_any (is_in_part q) a.places then Some a.place else first_aim x q more

abbrev pub part_place : Design → Part → Option Place
part_place d q = elim (slice_get (drivers d) q.owner) [
  | Some r ↦ first_aim (path_at d q.signal) q (driver_aims r)
  | None ↦ None
]

-- the fault of a loop stands where its first part is driven
abbrev pub IsLoopFault : Design → List ℕ → Fault → Type 0
IsLoopFault d parts f = IsSomeAnd (slice_get (driven_parts d) (slice_index parts 0)) (λ q.
    IsSomeAnd (part_place d q) (λ p. f ≡ of_phase 9 (at p Loop)))

pub record HasLoop (d : Design) (parts : List ℕ) (f : Fault) : Type 0 where
  pub is_loop : IsLoop d parts
  pub fault : IsLoopFault d parts f

-- a line of the report: the signal's path as a text, the lowest place and the width
pub record LoopLine : Type 0 where
  pub path : Text
  pub place : ℕ
  pub width : ℕ

abbrev pub line_of : Design → Part → LoopLine
line_of d q = record { path = path_text d (path_at d q.signal); place = q.low; width = q.width }

abbrev pub lines_of : Design → List ℕ → List LoopLine
lines_of d [] = []
lines_of d (i ∷ is) = elim (slice_get (driven_parts d) i) [ Some q ↦ line_of d q ∷ lines_of d is | None ↦ lines_of d is ]
