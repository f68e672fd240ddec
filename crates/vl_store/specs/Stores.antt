-- Stores, which have words by path, and values, which have numbers by place in a design's lists, say the same of a design's objects; and
-- what a write does to the values. This project's own.
use Rattle.std.specs.Prelude.{◌≡◌, ℕ, ◌<◌, List, [], ◌∷◌, slice_get, slice_index, slice_index_or, slice_set, pos, Some, IsTrue}
use Rattle.bit_ops.specs.Operators.{insert}
use Rattle.netlist.specs.Values.{Values}
use Rattle.vl_value.specs.Paths.{same_path}
use Rattle.vl_design.specs.Design.{Design, Signal, Memory}
use Rattle.vl_process.specs.Statement.{Store, Write, stored, all_stored}
use Rattle.vl_process.specs.Settling.{Fits, word_count, by_path, by_number}

-- no two objects of a design have one path
pub record PathsAreDistinct (d : Design) : Type 0 where
  pub signals : (i j : ℕ) (x y : Signal) → slice_get d.signals i ≡ Some x → slice_get d.signals j ≡ Some y
      → IsTrue (same_path x.path y.path) → i ≡ j
  pub memories : (i j : ℕ) (x y : Memory) → slice_get d.memories i ≡ Some x → slice_get d.memories j ≡ Some y
      → IsTrue (same_path x.path y.path) → i ≡ j
  pub apart : (i j : ℕ) (x : Signal) (y : Memory) → slice_get d.signals i ≡ Some x → slice_get d.memories j ≡ Some y
      → ¬ (IsTrue (same_path x.path y.path)) × ¬ (IsTrue (same_path y.path x.path))

-- the values after a write, and after writes one after another, the last of which to a place wins
abbrev pub written : Design → Write → Values → Values
written d w v = by_number d (stored w (by_path d v))

abbrev pub all_written : Design → List Write → Values → Values
all_written d [] v = v
all_written d (w ∷ ws) v = all_written d ws (written d w v)

-- the object of a number has at its path what the values have at its number
pub record IsLookedUp (d : Design) (v : Values) : Type 0 where
  pub signal : (t : ℕ) (x : Signal) → slice_get d.signals t ≡ Some x → by_path d v x.path 0 ≡ slice_index v.signals t
  pub word : (t k : ℕ) (y : Memory) → slice_get d.memories t ≡ Some y
      → by_path d v y.path k ≡ slice_index (slice_index_or v.memories t []) k
  pub returned : by_number d (by_path d v) ≡ v

-- a write to a signal puts bits into its number, and one to a memory's word into that word; nothing else changes
pub record IsWrittenTo (d : Design) (v : Values) (w : Write) : Type 0 where
  pub signal : (t : ℕ) (x : Signal) → slice_get d.signals t ≡ Some x → w.spot.path ≡ x.path → w.spot.word ≡ pos 0
      → written d w v ≡ record {
        signals = slice_set v.signals t (insert w.spot.whole w.spot.low w.spot.width w.value (slice_index v.signals t));
        memories = v.memories;
      }
  pub word : (t k : ℕ) (y : Memory) → slice_get d.memories t ≡ Some y → w.spot.path ≡ y.path → w.spot.word ≡ pos k
      → k < word_count y → written d w v ≡ record {
        signals = v.signals;
        memories = slice_set v.memories t (slice_set (slice_index_or v.memories t []) k
            (insert w.spot.whole w.spot.low w.spot.width w.value (slice_index (slice_index_or v.memories t []) k)));
      }

-- A law: it is so of each design whose paths are distinct, and of values that fit; and writes in order are writes one after another.
pub record StoreLaw : Type 0 where
  pub looked_up : (d : Design) (v : Values) → PathsAreDistinct d → Fits d v → IsLookedUp d v
  pub written_to : (d : Design) (v : Values) (w : Write) → PathsAreDistinct d → Fits d v → IsWrittenTo d v w
  pub in_order : (d : Design) (ws : List Write) (m : Store) → PathsAreDistinct d
      → by_number d (all_stored ws m) ≡ all_written d ws (by_number d m)
