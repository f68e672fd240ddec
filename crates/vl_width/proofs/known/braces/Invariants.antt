use Rattle.std.proofs.Common.{◌≡◌, ◌+◌, drop, map}
use Rattle.bit_ops.specs.Operators.{concat}
use Rattle.vl_value.specs.Meaning.{widths, joined}
use Rattle.vl_width.specs.Terms.{meant}
use Rattle.vl_width.proofs.known.braces.Given as goal

abbrev pub invariant-loop-part : goal.invariant-loop-part
invariant-loop-part l = record {
  width : l.joined.width + widths (map meant (drop l.part-index l.rest)) ≡ widths (map meant l.parts);
  value : concat (widths (map meant (drop l.part-index l.rest))) l.joined.value (joined (map meant (drop l.part-index l.rest)))
      ≡ joined (map meant l.parts);
}
