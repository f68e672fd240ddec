-- Ranges of the program as those of `vl_design`. This project's own.
use Rattle.std.specs.Prelude.{ℕ, if◌then◌else◌, nat_le, Option, Some, None}
use Rattle.dt_core.specs.declared.limits.TheConstants.{MAX_WIDTH}
use Rattle.vl_tree.specs.SyntaxView as view
use Rattle.vl_value.specs.Things.{Shape, width_of}
use Rattle.vl_design.specs.Spans.{Index, missing, outside, index, Bound, Span, one_bit, integer_span, spanned, bounds_of}
use Rattle.vl_span.specs.declared.index.Index as code
use Rattle.vl_span.specs.declared.index.Index.TheVariants as i
use Rattle.vl_span.specs.declared.index.Bound as code_bound
use Rattle.vl_span.specs.declared.span.Span as code_span
use Rattle.vl_span.specs.declared.span.Span.TheVariants as s

abbrev pub plain_index : code.Index → Index
plain_index i.Missing = missing
plain_index i.Outside = outside
plain_index (i.Number n) = index n

abbrev pub plain_bound : code_bound.Bound → Bound
plain_bound b = record { place = view.place b.place; number = plain_index b.number }

abbrev pub plain_span : code_span.Span → Span
plain_span s.OneBit = one_bit
plain_span s.Integer = integer_span
plain_span (s.Bounds a b) = spanned (plain_bound a) (plain_bound b)

-- the bounds of a range of bits
abbrev pub bounds_in : Span → Option (ℕ × ℕ)
bounds_in one_bit = Some (0, 0)
bounds_in integer_span = Some (31, 0)
bounds_in (spanned a b) = bounds_of a.number b.number

-- a range that no vector has is none
abbrev pub fitting : Option Shape → Option Shape
fitting None = None
fitting (Some sh) = if nat_le (width_of sh) MAX_WIDTH then Some sh else None
