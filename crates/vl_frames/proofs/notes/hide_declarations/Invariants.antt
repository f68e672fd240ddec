use Rattle.std.proofs.Common.{◌≡◌, drop}
use Rattle.vl_frames.specs.Marks.{around}
use Rattle.vl_frames.specs.Changes.{hidden}
use Rattle.vl_frames.specs.Named.{local_named}
use Rattle.vl_frames.proofs.notes.hide_declarations.Given as goal

-- the names before, and those of what is left
abbrev pub invariant-loop-declaration : goal.invariant-loop-declaration
invariant-loop-declaration l = record {
  sight : hidden (local_named (drop l.declaration-index l.declarations)) (around l.frames) ≡ hidden (local_named l.declarations) (around l.fn.frames);
  outer : l.frames.outer.items ≡ l.fn.frames.outer.items;
}
