use Rattle.std.proofs.Common.{◌≡◌, ◌+◌, true, false, refl, sym, ap, ◌∙◌, drop, length, ◌∷◌}
use Rattle.std.specs.Option.{option_map}
use Rattle.std.proofs.lemmas.List.{drop_more, drop_all}
use Rattle.vl_tree.specs.SyntaxView as view
use Rattle.vl_tree.specs.Depth.{one_if}
use Rattle.vl_width.specs.Lists.{exprs_of}
use Rattle.vl_tokens.specs.Counted.{capped, expr_tokens, listed}
use Rattle.vl_tokens.specs.Statements.{target_tokens, loop_tokens, label_tokens, printed_tokens, stopped_tokens, stmt_tokens, stmts_tokens, stmts_of, branches_listed, branches_of, arms_tokens, arms_of}
use Rattle.vl_tokens.proofs.Counting.{sums, none_counted, one_more, all_counted}
use Rattle.vl_tokens.proofs.StatementParts.{more_stmts, no_branches, more_branches, arm_tokens, more_arms, of_empty, of_block, of_if, of_if_else, of_select, of_for, of_assign, of_print, of_file, of_stop, of_fatal}
use Rattle.vl_tokens.proofs.statement.+stmt.Goals as goal
use Rattle.vl_tokens.proofs.statement.+stmt.Goals.{arms-in-Labels, arms-in-Default}

pub stmt-returns-in-Empty : goal.stmt-returns-in-Empty
stmt-returns-in-Empty t c = ap capped (of_empty c.args.s.now c.in-Empty.field-0 c.in-Empty.is)

pub stmt-returns-in-Block : goal.stmt-returns-in-Block
stmt-returns-in-Block t c =
    let n = label_tokens (option_map view.name c.in-Block.name) in let ss = stmts_tokens (stmts_of c.in-Block.all) in
    sums n (2 + ss) c.plus.ensures c.label.ensures
    (sums 2 ss c.plus-inner.ensures refl (c.stmts.ensures ∙ ap (λ y. capped (stmts_tokens (stmts_of y))) c.as_slice.ensures))
    ∙ ap capped (of_block c.args.s.now c.in-Block.field-0 c.in-Block.name c.in-Block.all c.in-Block.is)

pub stmt-returns-in-Some : goal.stmt-returns-in-Some
stmt-returns-in-Some t c =
    let bs = branches_listed false (branches_of c.in-Conditional.all) in let b = stmt_tokens (view.stmt c.in-Some.body) in
    sums bs (1 + b) c.plus-in-Some-2.ensures
    (c.branches-first.ensures ∙ ap (λ y. capped (branches_listed false (branches_of y))) c.as_slice-in-Conditional.ensures)
    (sums 1 b c.plus-in-Some.ensures refl (c.stmt.ensures ∙ ap (λ y. capped (stmt_tokens (view.stmt y))) c.get.ensures))
    ∙ ap capped (of_if_else c.args.s.now c.in-Conditional.all c.in-Conditional.last c.in-Some.body c.in-Conditional.is c.in-Some.is)

pub stmt-returns-in-None : goal.stmt-returns-in-None
stmt-returns-in-None t c =
    c.branches-first.ensures ∙ ap (λ y. capped (branches_listed false (branches_of y))) c.as_slice-in-Conditional.ensures
    ∙ ap capped (of_if c.args.s.now c.in-Conditional.all c.in-Conditional.last c.in-Conditional.is c.in-None.is)

pub stmt-returns-in-Select : goal.stmt-returns-in-Select
stmt-returns-in-Select t c =
    let e = expr_tokens (view.expr c.in-Select.selector) in let rest = arms_tokens (arms_of c.in-Select.all) in
    sums e (4 + rest) c.plus-in-Select.ensures c.expr.ensures
    (sums 4 rest c.plus-inner-in-Select.ensures refl (c.arms.ensures ∙ ap (λ y. capped (arms_tokens (arms_of y))) c.as_slice-in-Select.ensures))
    ∙ ap capped (of_select c.args.s.now c.in-Select.field-0 c.in-Select.field-1 c.in-Select.selector c.in-Select.all c.in-Select.is)

pub stmt-returns-in-Loop : goal.stmt-returns-in-Loop
stmt-returns-in-Loop t c =
    let l = loop_tokens (view.loop c.in-Loop.parts) in let b = stmt_tokens (view.stmt c.in-Loop.body) in
    sums l (1 + b) c.plus-in-Loop.ensures c.header.ensures
    (sums 1 b c.plus-inner-in-Loop.ensures refl (c.stmt-in-Loop.ensures ∙ ap (λ y. capped (stmt_tokens (view.stmt y))) c.get-in-Loop.ensures))
    ∙ ap capped (of_for c.args.s.now c.in-Loop.field-0 c.in-Loop.parts c.in-Loop.body c.in-Loop.is)

pub stmt-returns-in-Assign : goal.stmt-returns-in-Assign
stmt-returns-in-Assign t c =
    let y = target_tokens (view.target c.in-Assign.written) in let e = expr_tokens (view.expr c.in-Assign.e) in
    sums y (2 + e) c.plus-in-Assign.ensures c.target.ensures (sums 2 e c.plus-value.ensures refl c.expr-in-Assign.ensures)
    ∙ ap capped (of_assign c.args.s.now c.in-Assign.written c.in-Assign.field-1 c.in-Assign.field-2 c.in-Assign.e c.in-Assign.is)

pub stmt-returns-in-Print : goal.stmt-returns-in-Print
stmt-returns-in-Print t c =
    sums 2 (printed_tokens (view.printed c.in-Print.shown)) c.plus-in-Print.ensures refl c.printed.ensures
    ∙ ap capped (of_print c.args.s.now c.in-Print.field-0 c.in-Print.field-1 c.in-Print.shown c.in-Print.is)

pub stmt-returns-in-FilePrint : goal.stmt-returns-in-FilePrint
stmt-returns-in-FilePrint t c =
    let e = expr_tokens (view.expr c.in-FilePrint.file) in let es = listed true (exprs_of c.in-FilePrint.all) in
    sums e (6 + es) c.plus-in-FilePrint.ensures c.expr-in-FilePrint.ensures
    (sums 6 es c.plus-values.ensures refl (c.in_commas.ensures ∙ ap (λ y. capped (listed true (exprs_of y))) c.as_slice-in-FilePrint.ensures))
    ∙ ap capped (of_file c.args.s.now c.in-FilePrint.field-0 c.in-FilePrint.file c.in-FilePrint.field-2 c.in-FilePrint.field-3 c.in-FilePrint.all c.in-FilePrint.is)

pub stmt-returns-in-Stop : goal.stmt-returns-in-Stop
stmt-returns-in-Stop t c =
    sums 2 (stopped_tokens (view.stopped c.in-Stop.argument)) c.plus-in-Stop.ensures refl c.stopped.ensures
    ∙ ap capped (of_stop c.args.s.now c.in-Stop.field-0 c.in-Stop.argument c.in-Stop.is)

pub stmt-returns-in-Fatal : goal.stmt-returns-in-Fatal
stmt-returns-in-Fatal t c =
    let n = length (one_if 0 c.in-Fatal.parentheses) in
    sums n (2 + n) c.plus-in-Fatal.ensures c.one_where-in-Fatal.ensures (sums 2 n c.plus-closed.ensures refl c.one_where.ensures)
    ∙ ap capped (of_fatal c.args.s.now c.in-Fatal.field-0 c.in-Fatal.parentheses c.in-Fatal.is)

pub stmts-loop-s-init : goal.stmts-loop-s-init
stmts-loop-s-init t c = none_counted (stmts_tokens (stmts_of c.args.all.now))

pub stmts-loop-s-preserved : goal.stmts-loop-s-preserved
stmts-loop-s-preserved t c =
    let xs = c.args.all.now in let k = c.loop-s.s-index in let x = c.s-item.result in
    let e : drop k xs ≡ x ∷ drop (k + 1) xs = drop_more xs k x c.loop-s-test.true ∙ ap (λ y. y ∷ drop (k + 1) xs) (sym c.s-item.is) in
    one_more (stmt_tokens (view.stmt x)) (stmts_tokens (stmts_of (drop (k + 1) xs))) c.loop-s.invariant c.plus-count.ensures
    c.stmt-one.ensures
    (ap (λ ys. stmts_tokens (stmts_of ys)) e ∙ more_stmts (view.stmt x) (stmts_of (drop (k + 1) xs)))

pub stmts-returns : goal.stmts-returns
stmts-returns t c = all_counted c.loop-s.invariant
    (ap (λ ys. stmts_tokens (stmts_of ys)) (drop_all c.loop-s.s-index c.args.all.now c.loop-s-test.false))

pub branches-loop-branch-init : goal.branches-loop-branch-init
branches-loop-branch-init t c = none_counted (branches_listed false (branches_of c.args.all.now))

pub branches-loop-branch-preserved : goal.branches-loop-branch-preserved
branches-loop-branch-preserved t c =
    let xs = c.args.all.now in let k = c.loop-branch.branch-index in let x = c.branch-item.result in
    let e : drop k xs ≡ x ∷ drop (k + 1) xs = drop_more xs k x c.loop-branch-test.true ∙ ap (λ y. y ∷ drop (k + 1) xs) (sym c.branch-item.is) in
    one_more (length (one_if 0 c.loop-branch.later) + (expr_tokens (view.expr x.condition) + (3 + stmt_tokens (view.stmt x.body)))) (branches_listed true (branches_of (drop (k + 1) xs))) c.loop-branch.invariant c.plus-count.ensures
    (sums (length (one_if 0 c.loop-branch.later)) (expr_tokens (view.expr x.condition) + (3 + stmt_tokens (view.stmt x.body))) c.plus-one.ensures c.one_where.ensures
    (sums (expr_tokens (view.expr x.condition)) (3 + stmt_tokens (view.stmt x.body)) c.plus-whole.ensures c.expr.ensures
    (sums 3 (stmt_tokens (view.stmt x.body)) c.plus-body.ensures refl c.stmt.ensures)))
    (ap (λ ys. branches_listed c.loop-branch.later (branches_of ys)) e ∙ more_branches c.loop-branch.later (view.place x.place) (view.expr x.condition) (view.stmt x.body) (branches_of (drop (k + 1) xs)))

pub branches-returns : goal.branches-returns
branches-returns t c = all_counted c.loop-branch.invariant
    (ap (λ ys. branches_listed c.loop-branch.later (branches_of ys)) (drop_all c.loop-branch.branch-index c.args.all.now c.loop-branch-test.false) ∙ no_branches c.loop-branch.later)

pub arms-loop-arm-init : goal.arms-loop-arm-init
arms-loop-arm-init t c = none_counted (arms_tokens (arms_of c.args.all.now))

pub arms-loop-arm-preserved : goal.arms-loop-arm-preserved
arms-loop-arm-preserved t c =
    let xs = c.args.all.now in let k = c.loop-arm.arm-index in let x = c.arm-item.result in
    let e : drop k xs ≡ x ∷ drop (k + 1) xs = drop_more xs k x c.loop-arm-test.true ∙ ap (λ y. y ∷ drop (k + 1) xs) (sym c.arm-item.is) in
    let one : c.match-arm.one ≡ capped (arm_tokens x) = elim c.match-arm.branch [
      | arms-in-Labels w ↦ w.one-is ∙ sums (listed false (exprs_of w.in-Labels.labels)) (1 + stmt_tokens (view.stmt w.in-Labels.body)) w.plus-one.ensures
          (w.in_commas.ensures ∙ ap (λ y. capped (listed false (exprs_of y))) w.as_slice.ensures)
          (sums 1 (stmt_tokens (view.stmt w.in-Labels.body)) w.plus-inner.ensures refl w.stmt.ensures)
          ∙ ap (λ y. capped (arm_tokens y)) (sym w.in-Labels.is)
      | arms-in-Default w ↦ w.one-is ∙ sums (length (one_if 0 w.in-Default.colon)) (1 + stmt_tokens (view.stmt w.in-Default.body)) w.plus-one-in-Default.ensures
          w.one_where.ensures (sums 1 (stmt_tokens (view.stmt w.in-Default.body)) w.plus-inner-in-Default.ensures refl w.stmt-in-Default.ensures)
          ∙ ap (λ y. capped (arm_tokens y)) (sym w.in-Default.is)
    ] in
    one_more (arm_tokens x) (arms_tokens (arms_of (drop (k + 1) xs))) c.loop-arm.invariant c.plus-count.ensures
    one
    (ap (λ ys. arms_tokens (arms_of ys)) e ∙ more_arms x (arms_of (drop (k + 1) xs)))

pub arms-returns : goal.arms-returns
arms-returns t c = all_counted c.loop-arm.invariant
    (ap (λ ys. arms_tokens (arms_of ys)) (drop_all c.loop-arm.arm-index c.args.all.now c.loop-arm-test.false))
