use Rattle.std.proofs.Common.{◌≡◌, ◌+◌, true, false, refl, sym, ap, ◌∙◌, drop, length, map, ◌∷◌}
use Rattle.std.specs.Option.{option_map}
use Rattle.std.proofs.lemmas.List.{drop_more, drop_all}
use Rattle.vl_tree.specs.SyntaxView as view
use Rattle.vl_tree.specs.Depth.{one_if, type_depths, directed_depths, name_depth, valued_depths, net_depths, variable_depths, driven_depths, event_depths, instance_depths}
use Rattle.vl_views.specs.Blocks.{items_of, block_of, branches_of}
use Rattle.vl_design.specs.Generate.{items_tokens, turn_tokens}
use Rattle.vl_design.proofs.OwnTokens.{more_tokens}
use Rattle.vl_tokens.specs.Counted.{capped, expr_tokens, in_list}
use Rattle.vl_tokens.specs.Statements.{stmt_tokens, loop_tokens, label_tokens}
use Rattle.vl_tokens.specs.Items.{item_tokens, branches_listed, given_tokens}
use Rattle.vl_tokens.proofs.Counting.{sums, none_counted, one_more, all_counted}
use Rattle.vl_tokens.proofs.ItemParts.{of_parameter, of_directed, of_nets, of_registers, of_integer, of_genvar, of_continuous, of_always, of_initial, of_function, of_instances, of_region, of_loop, of_single, of_several, of_if, of_if_single, of_if_several, more_branches, none_more, all_branches}
use Rattle.vl_tokens.proofs.item.+item.Goals as goal
use Rattle.vl_tokens.proofs.item.+item.Goals.{item-in-Single, item-in-Several}

pub item-returns-in-Parameter : goal.item-returns-in-Parameter
item-returns-in-Parameter t c =
    let w = c.in-Parameter in let n = in_list valued_depths false (map view.valued w.all) in
    let ts = length (type_depths 0 w.signed (option_map view.range w.declared)) in
    sums ts (2 + n) c.plus.ensures c.shape.ensures
    (sums 2 n c.plus-rest.ensures refl (c.values_in_commas.ensures ∙ ap (λ y. capped (in_list valued_depths false (map view.valued y))) c.as_slice.ensures))
    ∙ ap capped (of_parameter c.args.i.now w.field-0 w.field-1 w.signed w.declared w.all w.is)

pub item-returns-in-Directed : goal.item-returns-in-Directed
item-returns-in-Directed t c =
    let w = c.in-Directed in let n = in_list name_depth false (map view.name w.all) in
    let ds = length (directed_depths 0 (view.directed w.declared)) in
    sums ds (1 + n) c.plus-in-Directed.ensures c.directed.ensures
    (sums 1 n c.plus-rest-in-Directed.ensures refl (c.names_in_commas.ensures ∙ ap (λ y. capped (in_list name_depth false (map view.name y))) c.as_slice-in-Directed.ensures))
    ∙ ap capped (of_directed c.args.i.now w.declared w.all w.is)

pub item-returns-in-Nets : goal.item-returns-in-Nets
item-returns-in-Nets t c =
    let w = c.in-Nets in let n = in_list net_depths false (map view.net w.all) in
    let ts = length (type_depths 0 w.signed (option_map view.range w.declared)) in
    sums ts (2 + n) c.plus-in-Nets.ensures c.shape-in-Nets.ensures
    (sums 2 n c.plus-rest-in-Nets.ensures refl (c.nets_in_commas.ensures ∙ ap (λ y. capped (in_list net_depths false (map view.net y))) c.as_slice-in-Nets.ensures))
    ∙ ap capped (of_nets c.args.i.now w.field-0 w.signed w.declared w.all w.is)

pub item-returns-in-Registers : goal.item-returns-in-Registers
item-returns-in-Registers t c =
    let w = c.in-Registers in let n = in_list variable_depths false (map view.variable w.all) in
    let ts = length (type_depths 0 w.signed (option_map view.range w.declared)) in
    sums ts (2 + n) c.plus-in-Registers.ensures c.shape-in-Registers.ensures
    (sums 2 n c.plus-rest-in-Registers.ensures refl (c.variables_in_commas.ensures ∙ ap (λ y. capped (in_list variable_depths false (map view.variable y))) c.as_slice-in-Registers.ensures))
    ∙ ap capped (of_registers c.args.i.now w.field-0 w.signed w.declared w.all w.is)

pub item-returns-in-Integer : goal.item-returns-in-Integer
item-returns-in-Integer t c =
    let w = c.in-Integer in
    sums 2 (in_list variable_depths false (map view.variable w.all)) c.plus-in-Integer.ensures refl
    (c.variables_in_commas-in-Integer.ensures ∙ ap (λ y. capped (in_list variable_depths false (map view.variable y))) c.as_slice-in-Integer.ensures)
    ∙ ap capped (of_integer c.args.i.now w.field-0 w.all w.is)

pub item-returns-in-Genvar : goal.item-returns-in-Genvar
item-returns-in-Genvar t c =
    let w = c.in-Genvar in
    sums 2 (in_list name_depth false (map view.name w.all)) c.plus-in-Genvar.ensures refl
    (c.names_in_commas-in-Genvar.ensures ∙ ap (λ y. capped (in_list name_depth false (map view.name y))) c.as_slice-in-Genvar.ensures)
    ∙ ap capped (of_genvar c.args.i.now w.field-0 w.all w.is)

pub item-returns-in-Continuous : goal.item-returns-in-Continuous
item-returns-in-Continuous t c =
    let w = c.in-Continuous in
    sums 2 (in_list driven_depths false (map view.driven w.all)) c.plus-in-Continuous.ensures refl
    (c.driven_in_commas.ensures ∙ ap (λ y. capped (in_list driven_depths false (map view.driven y))) c.as_slice-in-Continuous.ensures)
    ∙ ap capped (of_continuous c.args.i.now w.field-0 w.all w.is)

pub item-returns-in-Always : goal.item-returns-in-Always
item-returns-in-Always t c =
    let w = c.in-Always in let b = stmt_tokens (view.stmt w.body) in
    sums (length (event_depths 0 (view.event w.awaited))) (1 + b) c.plus-in-Always.ensures c.event.ensures
    (sums 1 b c.plus-rest-in-Always.ensures refl c.stmt.ensures)
    ∙ ap capped (of_always c.args.i.now w.field-0 w.awaited w.body w.is)

pub item-returns-in-Initial : goal.item-returns-in-Initial
item-returns-in-Initial t c =
    let w = c.in-Initial in
    sums 1 (stmt_tokens (view.stmt w.body)) c.plus-in-Initial.ensures refl c.stmt-in-Initial.ensures
    ∙ ap capped (of_initial c.args.i.now w.field-0 w.body w.is)

pub item-returns-in-Function : goal.item-returns-in-Function
item-returns-in-Function t c = c.function.ensures ∙ ap capped (of_function c.args.i.now c.in-Function.f c.in-Function.is)

pub item-returns-in-Instances : goal.item-returns-in-Instances
item-returns-in-Instances t c =
    let w = c.in-Instances in let n = in_list instance_depths false (map view.instance w.all) in
    sums (given_tokens w.values) (2 + n) c.plus-in-Instances.ensures c.given.ensures
    (sums 2 n c.plus-rest-in-Instances.ensures refl
    (c.instances_in_commas.ensures ∙ ap (λ y. capped (in_list instance_depths false (map view.instance y))) c.as_slice-in-Instances.ensures))
    ∙ ap capped (of_instances c.args.i.now w.field-0 w.values w.all w.is)

pub item-returns-in-Region : goal.item-returns-in-Region
item-returns-in-Region t c =
    let w = c.in-Region in
    sums 2 (items_tokens (items_of w.all)) c.plus-in-Region.ensures refl
    (c.items_tokens.ensures ∙ ap (λ y. capped (items_tokens (items_of y))) c.as_slice-in-Region.ensures)
    ∙ ap capped (of_region c.args.i.now w.field-0 w.all w.is)

pub item-returns-in-GenerateLoop : goal.item-returns-in-GenerateLoop
item-returns-in-GenerateLoop t c =
    let w = c.in-GenerateLoop in
    sums 1 (loop_tokens (view.loop w.parts)) c.plus-in-GenerateLoop.ensures refl c.header.ensures
    ∙ ap capped (of_loop c.args.i.now w.field-0 w.parts _ w.is)

pub item-loop-branch-init : goal.item-loop-branch-init
item-loop-branch-init t c = none_counted (branches_listed false (branches_of c.as_slice-all.result.now))

pub item-loop-branch-preserved : goal.item-loop-branch-preserved
item-loop-branch-preserved t c =
    let xs = c.as_slice-all.result.now in let k = c.loop-branch.branch-index in let x = c.branch-item.result in
    let e : drop k xs ≡ x ∷ drop (k + 1) xs = drop_more xs k x c.loop-branch-test.true ∙ ap (λ y. y ∷ drop (k + 1) xs) (sym c.branch-item.is) in
    let n = expr_tokens (view.expr x.condition) in let b = turn_tokens (block_of x.block) in
    let inner : c.match-branch.inner ≡ capped b = elim c.match-branch.branch [
      | item-in-Single w ↦ w.inner-is ∙ w.item-inner.ensures ∙ ap (λ y. capped (item_tokens (view.item y))) w.get.ensures
          ∙ ap capped (of_single x.block w.in-Single.single w.in-Single.is)
      | item-in-Several w ↦
          w.inner-is ∙ sums (label_tokens (option_map view.name w.in-Several.name)) (2 + items_tokens (items_of w.in-Several.held)) w.plus-inner.ensures w.label.ensures
          (sums 2 (items_tokens (items_of w.in-Several.held)) w.plus-rest-in-Several.ensures refl
          (w.items_tokens-in-Several.ensures ∙ ap (λ y. capped (items_tokens (items_of y))) w.as_slice-in-Several.ensures))
          ∙ ap capped (of_several x.block w.in-Several.field-0 w.in-Several.name w.in-Several.held w.in-Several.is)
    ] in
    one_more (length (one_if 0 c.loop-branch.later) + (n + (3 + b))) (branches_listed true (branches_of (drop (k + 1) xs))) c.loop-branch.invariant c.plus-first.ensures
    (sums (length (one_if 0 c.loop-branch.later)) (n + (3 + b)) c.plus-one.ensures c.one_where.ensures
    (sums n (3 + b) c.plus-test.ensures c.expr.ensures
    (sums 3 b c.plus-in-loop-branch.ensures refl inner)))
    (ap (λ ys. branches_listed c.loop-branch.later (branches_of ys)) e
    ∙ more_branches c.loop-branch.later (view.place x.place) (view.expr x.condition) (block_of x.block) (branches_of (drop (k + 1) xs)))

pub item-returns-in-None : goal.item-returns-in-None
item-returns-in-None t c =
    let w = c.in-GenerateIf in
    all_branches c.loop-branch.later c.as_slice-all.result.now c.loop-branch.branch-index w.listed c.loop-branch.invariant c.loop-branch-test.false c.as_slice-all.ensures
    ∙ ap capped (of_if c.args.i.now w.listed w.last w.is c.in-None.is)

pub item-returns-in-Single-body : goal.item-returns-in-Single-body
item-returns-in-Single-body t c =
    let w = c.in-GenerateIf in let bs = branches_listed false (branches_of w.listed) in let a = item_tokens (view.item c.in-Single-body.inner) in
    sums bs (1 + a) c.plus-in-Single-body-2.ensures
    (all_branches c.loop-branch.later c.as_slice-all.result.now c.loop-branch.branch-index w.listed c.loop-branch.invariant c.loop-branch-test.false c.as_slice-all.ensures)
    (sums 1 a c.plus-in-Single-body.ensures refl (c.item.ensures ∙ ap (λ y. capped (item_tokens (view.item y))) c.get-in-Single-body.ensures))
    ∙ ap capped (of_if_single c.args.i.now w.listed w.last c.in-Some.body c.in-Single-body.inner w.is c.in-Some.is c.in-Single-body.is)

pub item-returns-in-Several-body : goal.item-returns-in-Several-body
item-returns-in-Several-body t c =
    let w = c.in-GenerateIf in let v = c.in-Several-body in let bs = branches_listed false (branches_of w.listed) in
    let n = label_tokens (option_map view.name v.name) in let a = items_tokens (items_of v.inner) in
    sums bs (n + (3 + a)) c.plus-in-Several-body-2.ensures
    (all_branches c.loop-branch.later c.as_slice-all.result.now c.loop-branch.branch-index w.listed c.loop-branch.invariant c.loop-branch-test.false c.as_slice-all.ensures)
    (sums n (3 + a) c.plus-in-Several-body.ensures c.label-in-Several-body.ensures
    (sums 3 a c.plus-whole.ensures refl
    (c.items_tokens-in-Several-body.ensures ∙ ap (λ y. capped (items_tokens (items_of y))) c.as_slice-in-Several-body.ensures)))
    ∙ ap capped (of_if_several c.args.i.now w.listed w.last c.in-Some.body v.field-0 v.name v.inner w.is c.in-Some.is v.is)

pub items_tokens-loop-i-init : goal.items_tokens-loop-i-init
items_tokens-loop-i-init t c = none_counted (items_tokens (items_of c.args.all.now))

pub items_tokens-loop-i-preserved : goal.items_tokens-loop-i-preserved
items_tokens-loop-i-preserved t c =
    let xs = c.args.all.now in let k = c.loop-i.i-index in let x = c.i-item.result in
    let e : drop k xs ≡ x ∷ drop (k + 1) xs = drop_more xs k x c.loop-i-test.true ∙ ap (λ y. y ∷ drop (k + 1) xs) (sym c.i-item.is) in
    one_more (item_tokens (view.item x)) (items_tokens (items_of (drop (k + 1) xs))) c.loop-i.invariant c.plus-count.ensures
    c.item-one.ensures
    (ap (λ ys. items_tokens (items_of ys)) e ∙ more_tokens (view.item x) (items_of (drop (k + 1) xs)))

pub items_tokens-returns : goal.items_tokens-returns
items_tokens-returns t c = all_counted c.loop-i.invariant
    (ap (λ ys. items_tokens (items_of ys)) (drop_all c.loop-i.i-index c.args.all.now c.loop-i-test.false) ∙ none_more)
