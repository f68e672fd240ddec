use Rattle.std.proofs.Common.{rules, ◌≡◌, ◌+◌, ◌<◌, ◌∙◌, List, [], ◌∷◌, length, drop, sym, ap, subst, true, OnOk, arith}
use Rattle.std.specs.Prelude.{Option, Some}
use Rattle.std.proofs.lemmas.List.{at_drop_all, length-append}
use Rattle.flat_ir.specs.declared.design.Node.TheVariants as n
use Rattle.vl_tree.specs.declared.tree.Stmt as stmt_code
use Rattle.vl_tree.specs.declared.tree.Stmt.{the_lemmas}
use Rattle.vl_tree.specs.declared.tree.Branch as branch_code
use Rattle.vl_tree.specs.View.{module_of, expr, stmt, stmts, branches, otherwise}
use Rattle.vl_tree.specs.Tree.{Module, Expr, Stmt, block, conditional, Stmts, Branches, no_else, else_stmt}
use Rattle.vl_meaning.specs.Statement.{execute}
use Rattle.vl_meaning.specs.Faults.{is_stmt, are_branches}
use Rattle.vl_proc.specs.Lowers.{context, Adds}
use Rattle.vl_proc.proofs.Ports.{both_true}
use Rattle.vl_proc.proofs.Views.{stmt_block, stmt_conditional}
use Rattle.vl_proc.proofs.Builds.{branched_one}
use Rattle.vl_proc.proofs.Turns.{Continues, continues_more, continues_end, stmts_from, Chains, chains_more, branches_from, chain_then, chain_ends}
use Rattle.vl_proc.proofs.statement.+statement.Goals as goal

pub block-loop-s-preserved : goal.block-loop-s-preserved
block-loop-s-preserved t c =
    let m : Module = module_of c.args.scope.now.module.now in
    let all : List stmt_code.Stmt = c.args.all.now in
    let e = stmts_from all c.loop-s.s-index c.s-item.result c.loop-s-test.true c.s-item.is in
    continues_more m c.args.to.now.nodes c.loop-s.to.nodes c.statement.new.to.nodes c.args.to.now.actions.items c.loop-s.to.actions.items c.statement.new.to.actions.items c.args.condition
    (stmt c.s-item.result) (stmts (drop (c.loop-s.s-index + 1) all)) (stmts all)
    (subst (λ (r : Stmts). Continues m c.args.to.now.nodes c.loop-s.to.nodes c.args.to.now.actions.items c.loop-s.to.actions.items c.args.condition r (stmts all)) e c.loop-s.invariant) c.in_ok-statement.ensures

pub block-returns : goal.block-returns
block-returns t c =
    let m : Module = module_of c.args.scope.now.module.now in
    let all : List stmt_code.Stmt = c.args.all.now in
    continues_end m c.args.to.now.nodes c.loop-s.to.nodes c.args.to.now.actions.items c.loop-s.to.actions.items c.args.condition (stmts all)
    (subst (λ (r : Stmts). Continues m c.args.to.now.nodes c.loop-s.to.nodes c.args.to.now.actions.items c.loop-s.to.actions.items c.args.condition r (stmts all))
    (at_drop_all stmts all c.loop-s.s-index c.loop-s-test.false) c.loop-s.invariant)

pub branches-statement-requires : goal.branches-statement-requires
branches-statement-requires t c =
    let m : Module = module_of c.args.scope.now.module.now in
    let e = branches_from c.args.all.now c.loop-branch.branch-index c.branch-item.result c.loop-branch-test.true c.branch-item.is in
    let first = both_true _ _ (subst (λ (r : Branches). are_branches m r ≡ true) e c.loop-branch.invariant.sound) in
    let there : c.in_ok-here.here < length c.add.new.self = omega (arith, c.in_ok-here.ensures.number, ap length c.in_ok-here.ensures.added, length-append c.condition.new.nodes (n.And c.loop-branch.rest c.in_ok-test.test ∷ [])) in
    (search (rules, the_lemmas), (c.requires.known, ((both_true _ _ first.0).1, there)))

pub branches-loop-branch-preserved : goal.branches-loop-branch-preserved
branches-loop-branch-preserved t c =
    let m : Module = module_of c.args.scope.now.module.now in
    let all : List (branch_code.Branch stmt_code.Stmt) = c.args.all.now in
    let test : Expr = expr c.branch-item.result.condition in
    let body : Stmt = stmt c.branch-item.result.body in
    let e = branches_from all c.loop-branch.branch-index c.branch-item.result c.loop-branch-test.true c.branch-item.is in
    let one = branched_one m c.loop-branch.to.nodes c.condition.new.nodes c.add.new.self c.statement.new.to.nodes c.add-in-loop-branch.new.self c.add-in-loop-branch-2.new.self c.loop-branch.to.actions.items
    c.statement.new.to.actions.items c.loop-branch.rest c.in_ok-test.test c.in_ok-here.here c.in_ok-failed.failed c.in_ok-rest.rest test body c.loop-branch.invariant.here c.in_ok-test.ensures
    c.in_ok-here.ensures.number c.in_ok-here.ensures.added c.in_ok-statement.ensures c.in_ok-failed.ensures.number c.in_ok-failed.ensures.added c.in_ok-rest.ensures.number c.in_ok-rest.ensures.added in
    chains_more m c.args.to.now.nodes c.loop-branch.to.nodes c.add-in-loop-branch-2.new.self c.args.to.now.actions.items c.loop-branch.to.actions.items c.statement.new.to.actions.items c.args.condition
    c.loop-branch.rest c.in_ok-rest.rest test body (branches (drop (c.loop-branch.branch-index + 1) all)) (branches all)
    (subst (λ (r : Branches). Chains m c.args.to.now.nodes c.loop-branch.to.nodes c.args.to.now.actions.items c.loop-branch.to.actions.items c.args.condition c.loop-branch.rest r (branches all)) e
    c.loop-branch.invariant) one

pub statement-block-requires : goal.statement-block-requires
statement-block-requires t c =
    let m : Module = module_of c.args.scope.now.module.now in
    let e : stmt c.args.s.now ≡ block (stmts c.as_slice.result.now) = ap stmt c.in-Block.is ∙ stmt_block c.in-Block.all ∙ ap (λ (xs : List stmt_code.Stmt). block (stmts xs)) (sym c.as_slice.ensures) in
    (search (rules, the_lemmas), (c.requires.known, (subst (λ (x : Stmt). is_stmt m x ≡ true) e c.requires.sound, c.requires.here)))

pub statement-returns-in-Block : goal.statement-returns-in-Block
statement-returns-in-Block t c =
    let m : Module = module_of c.args.scope.now.module.now in
    let e : stmt c.args.s.now ≡ block (stmts c.as_slice.result.now) = ap stmt c.in-Block.is ∙ stmt_block c.in-Block.all ∙ ap (λ (xs : List stmt_code.Stmt). block (stmts xs)) (sym c.as_slice.ensures) in
    subst (λ (x : Stmt). OnOk c.block.result (Adds m c.args.to.now.nodes c.block.new.to.nodes c.args.to.now.actions.items c.block.new.to.actions.items c.args.condition (λ row state. execute (context m row state) x)))
    (sym e) c.block.ensures

pub statement-branches-requires : goal.statement-branches-requires
statement-branches-requires t c =
    let m : Module = module_of c.args.scope.now.module.now in
    let e : stmt c.args.s.now ≡ conditional (branches c.as_slice-in-Conditional.result.now) (otherwise c.in-Conditional.last) =
    ap stmt c.in-Conditional.is ∙ stmt_conditional c.in-Conditional.all c.in-Conditional.last
    ∙ ap (λ (xs : List (branch_code.Branch stmt_code.Stmt)). conditional (branches xs) (otherwise c.in-Conditional.last)) (sym c.as_slice-in-Conditional.ensures) in
    let sound = both_true _ _ (subst (λ (x : Stmt). is_stmt m x ≡ true) e c.requires.sound) in
    (search (rules, the_lemmas), (c.requires.known, (sound.0, c.requires.here)))

pub statement-returns-in-Some : goal.statement-returns-in-Some
statement-returns-in-Some t c =
    let m : Module = module_of c.args.scope.now.module.now in
    let e : stmt c.args.s.now ≡ conditional (branches c.as_slice-in-Conditional.result.now) (else_stmt (stmt c.get.result.now)) =
    ap stmt c.in-Conditional.is ∙ stmt_conditional c.in-Conditional.all c.in-Conditional.last
    ∙ ap (λ (xs : List (branch_code.Branch stmt_code.Stmt)). conditional (branches xs) (otherwise c.in-Conditional.last)) (sym c.as_slice-in-Conditional.ensures)
    ∙ ap (λ (o : Option stmt_code.Stmt). conditional (branches c.as_slice-in-Conditional.result.now) (otherwise o)) (c.in-Some.is ∙ ap Some (sym c.get.ensures)) in
    subst (λ (x : Stmt). OnOk c.statement.result (Adds m c.args.to.now.nodes c.statement.new.to.nodes c.args.to.now.actions.items c.statement.new.to.actions.items c.args.condition (λ row state. execute (context m row state) x)))
    (sym e) (chain_then m c.args.to.now.nodes c.branches.new.to.nodes c.statement.new.to.nodes c.args.to.now.actions.items c.branches.new.to.actions.items c.statement.new.to.actions.items c.args.condition
    c.in_ok-rest-in-Conditional.rest (branches c.as_slice-in-Conditional.result.now) (stmt c.get.result.now) c.statement.result c.in_ok-rest-in-Conditional.ensures c.statement.ensures)

pub statement-returns-in-None : goal.statement-returns-in-None
statement-returns-in-None t c =
    let m : Module = module_of c.args.scope.now.module.now in
    let e : stmt c.args.s.now ≡ conditional (branches c.as_slice-in-Conditional.result.now) no_else =
    ap stmt c.in-Conditional.is ∙ stmt_conditional c.in-Conditional.all c.in-Conditional.last
    ∙ ap (λ (xs : List (branch_code.Branch stmt_code.Stmt)). conditional (branches xs) (otherwise c.in-Conditional.last)) (sym c.as_slice-in-Conditional.ensures)
    ∙ ap (λ (o : Option stmt_code.Stmt). conditional (branches c.as_slice-in-Conditional.result.now) (otherwise o)) c.in-None.is in
    subst (λ (x : Stmt). Adds m c.args.to.now.nodes c.branches.new.to.nodes c.args.to.now.actions.items c.branches.new.to.actions.items c.args.condition (λ row state. execute (context m row state) x))
    (sym e) (chain_ends m c.args.to.now.nodes c.branches.new.to.nodes c.args.to.now.actions.items c.branches.new.to.actions.items c.args.condition c.in_ok-rest-in-Conditional.rest
    (branches c.as_slice-in-Conditional.result.now) c.in_ok-rest-in-Conditional.ensures)
