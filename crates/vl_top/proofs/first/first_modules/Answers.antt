use Rattle.std.proofs.Common.{◌||◌, ◌++◌, ◌∷◌, map, is_some, sym, ap, ◌∙◌}
use Rattle.std.specs.Prelude.{bytes_eq}
use Rattle.vl_tree.specs.SyntaxView as view
use Rattle.vl_design.specs.Walk.{has_module, first_of_name}
use Rattle.vl_top.specs.Names.{tree_of}
use Rattle.vl_views.proofs.ItemViews.{modules-drop}
use Rattle.vl_top.proofs.Finding.{noted, stepped}
use Rattle.vl_top.proofs.first.first_modules.Goals as goal

pub loop-one-preserved : goal.loop-one-preserved
loop-one-preserved c =
    let before = c.loop-one.invariant.0 in
    let m = view.module_tree c.one-item.result in
    let on = modules-drop c.args.modules.now c.loop-one.one-index c.one-item.result c.loop-one-test.true c.one-item.is in
    let all = ap (λ ms. map tree_of c.loop-one.first.items ++ first_of_name before ms) (sym on) ∙ c.loop-one.invariant.2 in (
      m ∷ before,
      (λ x. ap is_some (c.in_ok-note.ensures.0 x) ∙ noted _ _ _ (c.loop-one.invariant.1 x) ∙ ap (λ n. bytes_eq n x || has_module before x) c.in_ok-name.ensures),
      stepped before _ m _ _ _ c.has_name-known.result (c.has_name-known.ensures ∙ c.loop-one.invariant.1 _) c.in_ok-push_unless.ensures all,
    )
