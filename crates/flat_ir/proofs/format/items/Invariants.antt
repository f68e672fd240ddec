use Rattle.std.proofs.Common.{◌≡◌, ℕ, ◌+◌, ◌≤◌, Option, Some, None, drop}
use Rattle.flat_ir.specs.Format.{items, items_from}
use Rattle.flat_ir.specs.FormatView.{progress_of}
use Rattle.flat_ir.proofs.format.items.Given as goal

-- a count so far, with the count of what stands behind
abbrev pub with_more : ℕ → Option ℕ → Option ℕ
with_more n None = None
with_more n (Some m) = Some (n + m)

abbrev pub invariant-loop-byte : goal.invariant-loop-byte
invariant-loop-byte l = record {
  within : l.count ≤ l.byte-index;
  whole : with_more l.count (items_from (progress_of l.progress) (drop l.byte-index l.format)) ≡ items l.format;
}
