-- What an expression of a numbered design is worth and what it reads. This project's own: objects are told by numbers.
use Rattle.std.specs.Prelude.{ℕ, [], ◌||◌, Bool, false, if◌then◌else◌, List, min, slice_get, slice_index, slice_index_or, ℤ, pos, ◌-ℤ◌}
use Rattle.std.specs.Option.{option_map, unwrap_or}
use Rattle.bit_ops.specs.Operators as ops
use Rattle.netlist.specs.Graph.{overlap}
use Rattle.netlist.specs.Values.{Values, word_at}
use Rattle.netlist.specs.declared.design.Range.{Range}

-- a number for the values of each cycle; and for each range of a signal's bits whether some of them is read, here or
-- in what is made use of
pub record Sense : Type 0 where
  pub value : Values → ℕ
  pub reads : Range → Bool

-- the width of a memory's words, and the indices of its first and its last word
pub record Shape : Type 0 where
  pub width : ℕ
  pub first : ℕ
  pub last : ℕ

-- what expressions may read: the widths of the signals, and the shapes of the memories
pub record Ground : Type 0 where
  pub signals : List ℕ
  pub memories : List Shape

-- ---- what stands by itself

-- a number, which reads nothing
abbrev pub number : ℕ → Sense
number n = record { value = λ v. n; reads = λ q. false }

-- bits of a signal
abbrev pub bits : Range → Sense
bits r = record {
  value = λ v. ops.select (pos r.low) r.width (slice_index v.signals r.signal);
  reads = λ q. overlap r q;
}

-- the least index of a memory's words
abbrev pub least_of : Shape → ℕ
least_of m = min m.first m.last

abbrev pub least_at : List Shape → ℕ → ℕ
least_at ms k = unwrap_or (option_map least_of (slice_get ms k)) 0

-- the word of memory k at an index; 0 where there is none
abbrev pub word : Ground → ℕ → ℤ → Values → ℕ
word g k i v = word_at (slice_index_or v.memories k []) (i -ℤ pos (least_at g.memories k))

-- ---- what is made of others

abbrev pub on_one : (ℕ → ℕ) → Sense → Sense
on_one f a = record { value = λ v. f (a.value v); reads = a.reads }

abbrev pub on_two : (ℕ → ℕ → ℕ) → Sense → Sense → Sense
on_two f a b = record { value = λ v. f (a.value v) (b.value v); reads = λ q. a.reads q || b.reads q }

abbrev pub on_three : (ℕ → ℕ → ℕ → ℕ) → Sense → Sense → Sense → Sense
on_three f a b c = record {
  value = λ v. f (a.value v) (b.value v) (c.value v);
  reads = λ q. a.reads q || (b.reads q || c.reads q);
}

-- the word of memory k at the index that a sense of this width and sign tells
abbrev pub word_of : Ground → ℕ → Bool → ℕ → Sense → Sense
word_of g k s w i = record { value = λ v. word g k (ops.integer s w (i.value v)) v; reads = i.reads }

-- a, where the condition holds, else b
abbrev pub chosen : ℕ → ℕ → ℕ → ℕ
chosen c a b = if ops.holds c then a else b

-- so many bits of a from the place upward that a number of this width and sign tells
abbrev pub selected : Bool → ℕ → ℕ → ℕ → ℕ → ℕ
selected s u w a place = ops.select (ops.integer s u place) w a

-- a, of so many bits, with the bits of a part from there upward
abbrev pub inserted : ℕ → Bool → ℕ → ℕ → ℕ → ℕ → ℕ → ℕ
inserted whole s u width a place b = ops.insert whole (ops.integer s u place) width b a

-- a, whatever is read beside
abbrev pub kept : ℕ → ℕ → ℕ
kept a b = a
