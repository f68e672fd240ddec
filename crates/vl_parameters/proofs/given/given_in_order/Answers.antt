use Rattle.std.proofs.Common.{◌+◌, ◌++◌, append-nil, map, drop, sym, ap, ◌∙◌}
use Rattle.std.proofs.lemmas.List.{drop_all}
use Rattle.std.specs.Option.{option_map}
use Rattle.vl_tree.specs.SyntaxView as view
use Rattle.vl_value.specs.Order.{lesser, least}
use Rattle.vl_found.specs.View.{found}
use Rattle.vl_width.specs.Lists.{exprs_of}
use Rattle.vl_design.specs.Constants.{needs}
use Rattle.vl_design.specs.Parameters.{given_by, given_in_order, value_order_faults}
use Rattle.vl_constants.specs.Needed.{constants_of}
use Rattle.vl_parameters.specs.Open.{texts_of}
use Rattle.vl_parameters.specs.Plain.{plain_given}
use Rattle.vl_parameters.proofs.Adding.{one_on, fault_on, fault_end}
use Rattle.vl_parameters.proofs.Giving.{expr-drop, text-drop, order_none, order_faults_none}
use Rattle.vl_parameters.proofs.given.given_in_order.Goals as goal

pub loop-k-preserved : goal.loop-k-preserved
loop-k-preserved c =
    let g = constants_of c.args.frames.now in let xs = c.args.texts.now in let all = c.args.all.now in let k = c.loop-k.k in
    let x = c.index-texts-k.result in let e = view.expr c.index-all-k-in-loop-k.result in
    let ns = text-drop xs k x c.if-k-texts.false c.index-texts-k.is in
    let es = expr-drop all k c.index-all-k-in-loop-k.result c.loop-k-test.true c.index-all-k-in-loop-k.is in
    let old = map plain_given c.loop-k.given.items in let f = option_map found c.loop-k.fault in
    let names = texts_of (drop (k + 1) xs) in let left = exprs_of (drop (k + 1) all) in
    record {
      given = one_on old _ (given_by g x.now e) (given_in_order g names left) _ c.in_ok-found.ensures.given
          ((λ i. old ++ given_in_order g ((sym ns) i) ((sym es) i)) ∙ c.loop-k.invariant.given);
      fault = fault_on f _ _ (needs g e) (value_order_faults g names left) _ c.lesser-fault.ensures c.in_ok-found.ensures.fault
          ((λ i. lesser f (least (value_order_faults g ((sym ns) i) ((sym es) i)))) ∙ c.loop-k.invariant.fault);
    }

pub returns : goal.returns
returns c =
    let g = constants_of c.args.frames.now in let names = texts_of (drop c.loop-k.k c.args.texts.now) in
    let old = map plain_given c.loop-k.given.items in let f = option_map found c.loop-k.fault in
    let e = drop_all c.loop-k.k c.args.all.now c.loop-k-test.false in
    record {
      given = sym (append-nil old) ∙ ap (λ gs. old ++ gs) (sym (order_none g names))
          ∙ ap (λ es. old ++ given_in_order g names (exprs_of es)) (sym e) ∙ c.loop-k.invariant.given;
      fault = sym (fault_end f) ∙ ap (λ fs. lesser f (least fs)) (sym (order_faults_none g names))
          ∙ ap (λ es. lesser f (least (value_order_faults g names (exprs_of es)))) (sym e) ∙ c.loop-k.invariant.fault;
    }
