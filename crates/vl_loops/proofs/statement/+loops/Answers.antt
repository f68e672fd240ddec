use Rattle.std.proofs.Common.{ap, ◌∙◌, ◌∷◌, [], ◌++◌, subst}
use Rattle.std.specs.Prelude.{OnOk}
use Rattle.vl_tree.specs.SyntaxView as view
use Rattle.vl_design.specs.LoopVariables.{loop_names, branch_loop_names}
use Rattle.vl_loops.specs.Statements.{Adds, texts, branches_of}
use Rattle.vl_loops.proofs.Gathered.{on_ok, both_added}
use Rattle.vl_loops.proofs.Parts.{of_block, of_if, of_if_else, of_select, of_for}
use Rattle.vl_loops.proofs.statement.+loops.Goals as goal

pub loop_names-returns-in-Block : goal.loop_names-returns-in-Block
loop_names-returns-in-Block t c =
    let w = c.in-Block in
    subst (λ xs. OnOk c.in_all.result (Adds xs c.args.names.now.items c.in_all.new.names.items))
    (of_block c.args.s.now w.field-0 w.field-1 w.all c.as_slice.result.now w.is c.as_slice.ensures) c.in_all.ensures

pub loop_names-returns-in-Some : goal.loop_names-returns-in-Some
loop_names-returns-in-Some t c =
    let w = c.in-Conditional in let bs = c.as_slice-in-Conditional.result.now in
    on_ok c.loop_names.result
    (λ h. both_added (texts c.args.names.now.items) (texts c.in_branches.new.names.items) (texts c.loop_names.new.names.items)
    (branch_loop_names (branches_of bs)) (loop_names (view.stmt c.get.result.now)) (loop_names (view.stmt c.args.s.now)) c.in_ok-in_branches-in-Conditional.ensures h
    (ap (λ b. branch_loop_names (branches_of bs) ++ loop_names (view.stmt b)) c.get.ensures
    ∙ of_if_else c.args.s.now w.all bs w.last c.in-Some.body w.is c.as_slice-in-Conditional.ensures c.in-Some.is))
    c.loop_names.ensures

pub loop_names-returns-in-None : goal.loop_names-returns-in-None
loop_names-returns-in-None t c =
    let w = c.in-Conditional in
    c.in_ok-in_branches-in-Conditional.ensures
    ∙ ap (λ xs. texts c.args.names.now.items ++ xs)
    (of_if c.args.s.now w.all c.as_slice-in-Conditional.result.now w.last w.is c.as_slice-in-Conditional.ensures c.in-None.is)

pub loop_names-returns-in-Select : goal.loop_names-returns-in-Select
loop_names-returns-in-Select t c =
    let w = c.in-Select in
    subst (λ xs. OnOk c.in_arms.result (Adds xs c.args.names.now.items c.in_arms.new.names.items))
    (of_select c.args.s.now w.field-0 w.field-1 w.field-2 w.all c.as_slice-in-Select.result.now w.is c.as_slice-in-Select.ensures) c.in_arms.ensures

pub loop_names-returns-in_ok-push-in-Loop : goal.loop_names-returns-in_ok-push-in-Loop
loop_names-returns-in_ok-push-in-Loop t c =
    let w = c.in-Loop in let own = (view.name w.header.variable).text ∷ [] in
    on_ok c.loop_names-in-Loop.result
    (λ h. both_added (texts c.args.names.now.items) (texts c.push.new.names.items) (texts c.loop_names-in-Loop.new.names.items)
    own (loop_names (view.stmt c.get-in-Loop.result.now)) (loop_names (view.stmt c.args.s.now)) c.in_ok-push-in-Loop.ensures h
    (ap (λ b. own ++ loop_names (view.stmt b)) c.get-in-Loop.ensures ∙ of_for c.args.s.now w.field-0 w.header w.body w.is))
    c.loop_names-in-Loop.ensures
