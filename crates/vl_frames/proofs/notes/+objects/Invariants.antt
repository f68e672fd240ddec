use Rattle.std.proofs.Common.{◌≡◌, drop}
use Rattle.vl_design.specs.Declarations.{have_name, object_names}
use Rattle.vl_views.specs.Blocks.{items_of}
use Rattle.vl_frames.specs.Marks.{around}
use Rattle.vl_frames.specs.Changes.{hidden}
use Rattle.vl_frames.proofs.notes.+objects.Given as goal

-- the names before, and those of what is left
abbrev pub invariant-hide_objects-loop-item : goal.invariant-hide_objects-loop-item
invariant-hide_objects-loop-item l = record {
  sight : hidden (have_name object_names (items_of (drop l.item-index l.items))) (around l.frames) ≡ hidden (have_name object_names (items_of l.items)) (around l.fn.frames);
  outer : l.frames.outer.items ≡ l.fn.frames.outer.items;
}
