use Rattle.std.proofs.Common.{◌+◌, drop, sym, ap, ◌∙◌, subst}
use Rattle.std.specs.Prelude.{OnOk}
use Rattle.std.proofs.lemmas.List.{drop_all}
use Rattle.vl_tree.specs.SyntaxView as view
use Rattle.vl_design.specs.Declarations.{has_name, have_name, object_names}
use Rattle.vl_views.specs.Blocks.{items_of}
use Rattle.vl_views.proofs.ItemViews.{items-drop, region_is}
use Rattle.vl_frames.specs.Marks.{around}
use Rattle.vl_frames.specs.Changes.{hidden, Becomes}
use Rattle.vl_frames.proofs.Noted.{hidden_on, hidden_end}
use Rattle.vl_frames.proofs.notes.+objects.Goals as goal

pub hide_objects-loop-item-preserved : goal.hide_objects-loop-item-preserved
hide_objects-loop-item-preserved t c =
    let xs = c.args.items.now in let k = c.loop-item.item-index in let i = c.item-item.result in
    let e = items-drop xs k i c.loop-item-test.true c.item-item.is in
    record {
      sight = hidden_on _ _ (has_name object_names (view.item i)) (have_name object_names (items_of (drop (k + 1) xs))) (have_name object_names (items_of (drop k xs))) _
          (ap (have_name object_names) e) c.in_ok-hide_object.ensures c.loop-item.invariant.sight;
      outer = c.in_ok-hide_object.ensures.outer ∙ c.loop-item.invariant.outer;
    }

pub hide_objects-returns : goal.hide_objects-returns
hide_objects-returns t c =
    let xs = c.args.items.now in let k = c.loop-item.item-index in
    record {
      sight = hidden_end c.loop-item.frames (have_name object_names (items_of (drop k xs))) _ (ap (λ is. have_name object_names (items_of is)) (drop_all k xs c.loop-item-test.false)) c.loop-item.invariant.sight;
      outer = c.loop-item.invariant.outer;
    }

pub hide_object-returns-in-Region : goal.hide_object-returns-in-Region
hide_object-returns-in-Region t c =
    let e = region_is c.args.item.now c.in-Region.field-0 c.in-Region.items c.as_slice.result.now c.in-Region.is c.as_slice.ensures in
    subst (λ i. OnOk c.hide_objects.result (Becomes c.args.frames.now c.hide_objects.new.frames (hidden (has_name object_names i) (around c.args.frames.now)))) (sym e) c.hide_objects.ensures
