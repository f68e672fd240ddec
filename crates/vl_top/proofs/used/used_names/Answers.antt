use Rattle.std.proofs.Common.{ℕ, ◌+◌, Bool, ◌||◌, List, map, drop, is_some, nat_eq, sym, ap, ◌∙◌}
use Rattle.std.specs.Cmp.Lexicographic.{pointwise}
use Rattle.indexmap.specs.IndexMap.{get}
use Rattle.vl_design.specs.Walk.{some_instantiates}
use Rattle.vl_top.specs.Names.{is_used_in, tree_of}
use Rattle.vl_views.specs.Blocks.{items_of}
use Rattle.vl_top.proofs.Gathering.{one_on}
use Rattle.vl_top.proofs.Finding.{borrowed-drop}
use Rattle.vl_views.proofs.ItemViews.{items-map}
use Rattle.vl_top.proofs.used.used_names.Goals as goal

pub loop-one-preserved : goal.loop-one-preserved
loop-one-preserved c =
    let on = borrowed-drop c.args.modules.now c.loop-one.one-index c.one-item.result c.loop-one-test.true c.one-item.is in
    let rest : List ℕ → Bool = λ x. is_used_in (map tree_of (drop (c.loop-one.one-index + 1) c.args.modules.now)) x in
    one_on _ _ (λ x. some_instantiates x (items_of c.as_slice.result.now)) rest (λ x. is_used_in (map tree_of c.args.modules.now) x)
    c.in_ok-gather_items.ensures
    (λ x. ap (λ b. is_some (get (pointwise nat_eq) c.loop-one.used x) || b)
    (sym (ap (λ ms. is_used_in ms x) on ∙ ap (λ is. some_instantiates x is || rest x) (items-map c.one-item.result.now.items ∙ ap items_of (sym c.as_slice.ensures))))
    ∙ c.loop-one.invariant x)
