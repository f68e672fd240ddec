use Rattle.std.proofs.Common.{ap, ◌∙◌}
use Rattle.vl_design.specs.Declarations.{have_name, genvar_names}
use Rattle.vl_views.specs.Blocks.{items_of}
use Rattle.vl_frames.specs.Changes.{genvar_noted}
use Rattle.vl_frames.proofs.notes.enter_items.Goals as goal

pub returns : goal.returns
returns c = record {
  sight = c.in_ok-note_genvars.ensures.sight
      ∙ ap (genvar_noted (have_name genvar_names (items_of c.args.items.now))) c.in_ok-hide_objects.ensures.sight;
  outer = c.in_ok-note_genvars.ensures.outer ∙ c.in_ok-hide_objects.ensures.outer;
}
