-- Numbers and bits of vectors at the size of an expression (IEEE 1364-2005, 5.2.1 and 5.5.2). This project's own: signals are told by
-- numbers.
use Rattle.std.specs.Prelude.{◌≡◌, ℕ, ◌+◌, ◌==◌, ◌&&◌, Bool, nat_le, nat_lt, ℤ, List, Result, Some, IfOk, filter, slice_get, slice_index}
use Rattle.std.specs.List.{list_any}
use Rattle.bit_ops.specs.Operators as ops
use Rattle.netlist.specs.declared.design.Range.{Range}
use Rattle.netlist.specs.declared.node.Node.{Node}
use Rattle.vl_value.specs.Meaning as m
use Rattle.vl_value.specs.Reads.{up_to, is_within}
use Rattle.vl_width.specs.declared.size.Size.{Size}
use Rattle.vl_nodes.specs.declared.made.Made.{Made}
use Rattle.vl_nodes.specs.Calls.{MakesAt}
use Rattle.vl_nodes.specs.Sense.{Sense, Ground}

-- n of so many bits at a size: extended by its sign where it is signed and so is the size
abbrev pub at_size : ℕ → Bool → Size → ℕ → ℕ
at_size width s sz n = (m.operand width s n).at sz.width sz.signed

-- the bit of a signal at a place lies in a range
abbrev pub has_place : Range → ℕ → ℕ → Bool
has_place q signal k = (signal == q.signal) && (nat_le q.low k && nat_lt k (q.low + q.width))

-- so many bits of a signal of a width, from a place upward that may lie outside; read are the bits at places of the signal
abbrev pub bits_at : ℕ → ℕ → ℤ → ℕ → Sense
bits_at signal width place count = record {
  value = λ v. ops.select place count (slice_index v.signals signal);
  reads = λ q. list_any (has_place q signal) (filter (is_within place count) (up_to width));
}

-- the node that is answered is worth these bits, where the ground has the signal
abbrev pub IsBitsAt : {E : Type 0} → List Node → List Node → ℕ → ℕ → ℤ → ℕ → Result Made E → Type 0
IsBitsAt from to signal width place count result = (g : Ground) → slice_get g.signals signal ≡ Some width
    → IfOk result (MakesAt g from to count (bits_at signal width place count))
