use Rattle.std.proofs.Common.{◌≡◌, drop}
use Rattle.vl_frames.specs.Marks.{around}
use Rattle.vl_frames.specs.Changes.{passed}
use Rattle.vl_frames.specs.Named.{value_named}
use Rattle.vl_frames.proofs.notes.pass_values.Given as goal

-- the names before, and those of what is left
abbrev pub invariant-loop-value : goal.invariant-loop-value
invariant-loop-value l = record {
  sight : passed (value_named (drop l.value-index l.values)) (around l.frames) ≡ passed (value_named l.values) (around l.fn.frames);
  outer : l.frames.outer.items ≡ l.fn.frames.outer.items;
}
