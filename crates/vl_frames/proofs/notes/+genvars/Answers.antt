use Rattle.std.proofs.Common.{◌+◌, drop, sym, ap, ◌∙◌, subst}
use Rattle.std.specs.Prelude.{OnOk}
use Rattle.std.proofs.lemmas.List.{drop_all}
use Rattle.vl_tree.specs.SyntaxView as view
use Rattle.vl_design.specs.Declarations.{has_name, have_name, genvar_names}
use Rattle.vl_views.specs.Blocks.{items_of}
use Rattle.vl_views.proofs.ItemViews.{items-drop, region_is}
use Rattle.vl_frames.specs.Marks.{around}
use Rattle.vl_frames.specs.Changes.{genvar_noted, Becomes}
use Rattle.vl_frames.proofs.Noted.{noted_on, noted_end}
use Rattle.vl_frames.proofs.notes.+genvars.Goals as goal

pub note_genvars-loop-item-preserved : goal.note_genvars-loop-item-preserved
note_genvars-loop-item-preserved t c =
    let xs = c.args.items.now in let k = c.loop-item.item-index in let i = c.item-item.result in
    let e = items-drop xs k i c.loop-item-test.true c.item-item.is in
    record {
      sight = noted_on _ _ (has_name genvar_names (view.item i)) (have_name genvar_names (items_of (drop (k + 1) xs))) (have_name genvar_names (items_of (drop k xs))) _
          (ap (have_name genvar_names) e) c.in_ok-note_genvar.ensures c.loop-item.invariant.sight;
      outer = c.in_ok-note_genvar.ensures.outer ∙ c.loop-item.invariant.outer;
    }

pub note_genvars-returns : goal.note_genvars-returns
note_genvars-returns t c =
    let xs = c.args.items.now in let k = c.loop-item.item-index in
    record {
      sight = noted_end c.loop-item.frames (have_name genvar_names (items_of (drop k xs))) _ (ap (λ is. have_name genvar_names (items_of is)) (drop_all k xs c.loop-item-test.false)) c.loop-item.invariant.sight;
      outer = c.loop-item.invariant.outer;
    }

pub note_genvar-returns-in-Region : goal.note_genvar-returns-in-Region
note_genvar-returns-in-Region t c =
    let e = region_is c.args.item.now c.in-Region.field-0 c.in-Region.items c.as_slice.result.now c.in-Region.is c.as_slice.ensures in
    subst (λ i. OnOk c.note_genvars.result (Becomes c.args.frames.now c.note_genvars.new.frames (genvar_noted (has_name genvar_names i) (around c.args.frames.now)))) (sym e) c.note_genvars.ensures
