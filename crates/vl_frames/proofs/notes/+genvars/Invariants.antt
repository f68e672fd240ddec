use Rattle.std.proofs.Common.{◌≡◌, drop}
use Rattle.vl_design.specs.Declarations.{have_name, genvar_names}
use Rattle.vl_views.specs.Blocks.{items_of}
use Rattle.vl_frames.specs.Marks.{around}
use Rattle.vl_frames.specs.Changes.{genvar_noted}
use Rattle.vl_frames.proofs.notes.+genvars.Given as goal

-- the names before, and those of what is left
abbrev pub invariant-note_genvars-loop-item : goal.invariant-note_genvars-loop-item
invariant-note_genvars-loop-item l = record {
  sight : genvar_noted (have_name genvar_names (items_of (drop l.item-index l.items))) (around l.frames) ≡ genvar_noted (have_name genvar_names (items_of l.items)) (around l.fn.frames);
  outer : l.frames.outer.items ≡ l.fn.frames.outer.items;
}
