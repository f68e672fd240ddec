use Rattle.std.proofs.Common.{◌≡◌, ◌+◌, ◌++◌, [], append-nil, append_assoc, map, drop, sym, ap, ◌∙◌, subst, if◌then◌else◌}
use Rattle.std.specs.Prelude.{OnOk}
use Rattle.std.proofs.lemmas.List.{drop_all}
use Rattle.vl_tree.specs.SyntaxView as view
use Rattle.vl_design.specs.Parameters.{open_in, open_by}
use Rattle.vl_views.specs.Blocks.{items_of}
use Rattle.vl_views.proofs.ItemViews.{items-drop, region_is}
use Rattle.vl_views.proofs.PlainItems.{parameter_is}
use Rattle.vl_parameters.specs.Open.{texts_of, value_names}
use Rattle.vl_parameters.proofs.open.+open.Goals as goal

pub open_in-loop-item-preserved : goal.open_in-loop-item-preserved
open_in-loop-item-preserved t c =
    let xs = c.args.items.now in let k = c.loop-item.item-index in let i = c.item-item.result in
    let old = texts_of c.loop-item.names.items in let rest = open_in (items_of (drop (k + 1) xs)) in
    let e = items-drop xs k i c.loop-item-test.true c.item-item.is in
    ap (λ l. l ++ rest) c.in_ok-open_by.ensures ∙ append_assoc old (open_by (view.item i)) rest
    ∙ ap (λ is. old ++ open_in is) (sym e) ∙ c.loop-item.invariant

pub open_in-returns : goal.open_in-returns
open_in-returns t c =
    let names = texts_of c.loop-item.names.items in
    sym (append-nil names) ∙ ap (λ is. names ++ open_in (items_of is)) (sym (drop_all c.loop-item.item-index c.args.items.now c.loop-item-test.false))
    ∙ c.loop-item.invariant

pub open_by-returns-in-Region : goal.open_by-returns-in-Region
open_by-returns-in-Region t c =
    let e = region_is c.args.item.now c.in-Region.field-0 c.in-Region.items c.as_slice-in-Region.result.now c.in-Region.is c.as_slice-in-Region.ensures in
    subst (λ i. OnOk c.open_in.result (texts_of c.open_in.new.names.items ≡ texts_of c.args.names.now.items ++ open_by i)) (sym e) c.open_in.ensures

pub open_by-returns-then-is_local : goal.open_by-returns-then-is_local
open_by-returns-then-is_local t c =
    let names = texts_of c.args.names.now.items in let vs = c.in-Parameter.values in
    let is = parameter_is c.args.item.now c.in-Parameter.field-0 c.in-Parameter.is_local c.in-Parameter.field-2 c.in-Parameter.field-3 vs c.in-Parameter.is in
    sym (append-nil names)
    ∙ ap (λ xs. names ++ xs) (sym (ap open_by is ∙ ap (λ b. if b then [] else value_names (map view.valued vs)) c.if-is_local.true))

pub open_by-returns-else-is_local : goal.open_by-returns-else-is_local
open_by-returns-else-is_local t c =
    let vs = c.in-Parameter.values in
    let is = parameter_is c.args.item.now c.in-Parameter.field-0 c.in-Parameter.is_local c.in-Parameter.field-2 c.in-Parameter.field-3 vs c.in-Parameter.is in
    subst (λ xs. OnOk c.open_values.result (texts_of c.open_values.new.names.items ≡ texts_of c.args.names.now.items ++ xs))
    (ap (λ ys. value_names (map view.valued ys)) c.as_slice.ensures
    ∙ sym (ap open_by is ∙ ap (λ b. if b then [] else value_names (map view.valued vs)) c.if-is_local.false))
    c.open_values.ensures
