use Rattle.std.proofs.Common.{◌||◌, ◌∷◌, map, is_some, sym, ap, ◌∙◌}
use Rattle.std.proofs.lemmas.List.{drop_all}
use Rattle.std.specs.Prelude.{bytes_eq}
use Rattle.std.specs.Option.{option_map}
use Rattle.vl_tree.specs.SyntaxView as view
use Rattle.vl_value.specs.Order.{lesser, least}
use Rattle.vl_found.specs.View.{found}
use Rattle.vl_design.specs.Walk.{has_module, duplicate_modules}
use Rattle.vl_views.proofs.ItemViews.{modules-drop}
use Rattle.vl_top.proofs.Repeated.{least_on, least_end}
use Rattle.vl_top.proofs.Finding.{noted}
use Rattle.vl_top.proofs.duplicates.duplicate_in.Goals as goal

pub loop-one-preserved : goal.loop-one-preserved
loop-one-preserved c =
    let before = c.loop-one.invariant.0 in let m = view.module_tree c.one-item.result in
    let f = option_map found c.loop-one.fault in
    let on = modules-drop c.args.modules.now c.loop-one.one-index c.one-item.result c.loop-one-test.true c.one-item.is in (
      m ∷ before,
      (λ x. ap is_some (c.in_ok-note.ensures.0 x) ∙ noted _ _ _ (c.loop-one.invariant.1 x) ∙ ap (λ n. bytes_eq n x || has_module before x) c.in_ok-name.ensures),
      least_on before _ m c.has_name-is_known.result f _ _ _ (c.has_name-is_known.ensures ∙ c.loop-one.invariant.1 _) c.duplicate.ensures c.lesser-fault.ensures
          (ap (λ ms. lesser f (least (duplicate_modules before ms))) (sym on) ∙ c.loop-one.invariant.2),
    )

pub returns : goal.returns
returns c =
    let f = option_map found c.loop-one.fault in
    sym (least_end f)
    ∙ ap (λ ms. lesser f (least (duplicate_modules c.loop-one.invariant.0 (map view.module_tree ms)))) (sym (drop_all c.loop-one.one-index c.args.modules.now c.loop-one-test.false))
    ∙ c.loop-one.invariant.2
