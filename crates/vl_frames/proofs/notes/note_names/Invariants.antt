use Rattle.std.proofs.Common.{◌≡◌, drop}
use Rattle.vl_frames.specs.Marks.{around}
use Rattle.vl_frames.specs.Changes.{genvar_noted}
use Rattle.vl_frames.specs.Named.{named}
use Rattle.vl_frames.proofs.notes.note_names.Given as goal

-- the names before, and those of what is left
abbrev pub invariant-loop-name : goal.invariant-loop-name
invariant-loop-name l = record {
  sight : genvar_noted (named (drop l.name-index l.names)) (around l.frames) ≡ genvar_noted (named l.names) (around l.fn.frames);
  outer : l.frames.outer.items ≡ l.fn.frames.outer.items;
}
