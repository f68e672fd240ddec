use Rattle.std.proofs.Common.{◌≡◌, ◌+◌, ◌∷◌, [], ◌++◌, arith}
use Rattle.vl_tree.specs.declared.token.Key.TheVariants as w
use Rattle.vl_tree.specs.Tree.{no_stmt, more_stmt, no_branch, more_branch, no_else, else_stmt}
use Rattle.vl_tree.specs.View.{stmt, stmts, expr}
use Rattle.vl_tree.specs.Grammar.{word, stmt_at, condition_at}
use Rattle.vl_module.specs.Reading.{Any, one}
use Rattle.vl_module.specs.Rules.{assign_at, display_at, stop_at, stmts_end, block_at, branch_at, arms_at, conditional_at, branch_of, conditional_of}
use Rattle.vl_module.proofs.Pieces.{fails, took_lead, no_lead_1, no_lead_2, took_pair, no_pair_1, no_pair_2}
use Rattle.vl_module.proofs.Views as view
use Rattle.vl_module.proofs.StmtRules as rule
use Rattle.vl_module.proofs.stmt.+stmt.Goals as goal

-- ---- a statement

pub read_stmt-returns-in_err-body-in-Block-clause-reads : goal.read_stmt-returns-in_err-body-in-Block-clause-reads
read_stmt-returns-in_err-body-in-Block-clause-reads t c =
    fails (block_at c.args.depth) Any _ stmt (stmt_at c.args.depth) Any _ (rule.block_none c.args.depth _ c.in-Block.ensures) c.in_err-body-in-Block.field-0.0 c.in_err-body-in-Block.ensures.reads
    c.from_residual.result c.from_residual.ensures.1

pub read_stmt-returns-in_ok-body-in-Block-clause-reads : goal.read_stmt-returns-in_ok-body-in-Block-clause-reads
read_stmt-returns-in_ok-body-in-Block-clause-reads t c =
    rw (view.stmt-block c.in_ok-body-in-Block.body) (rule.block_took c.args.depth _ c.in-Block.ensures (stmts c.in_ok-body-in-Block.body) _ c.in_ok-body-in-Block.ensures.reads)

pub read_stmt-returns-in_err-branches-in-Conditional-clause-reads : goal.read_stmt-returns-in_err-branches-in-Conditional-clause-reads
read_stmt-returns-in_err-branches-in-Conditional-clause-reads t c =
    fails (conditional_at c.args.depth) Any _ stmt (stmt_at c.args.depth) Any _ (rule.conditional_none c.args.depth _ c.in-Conditional.ensures) c.in_err-branches-in-Conditional.field-0.0
    c.in_err-branches-in-Conditional.ensures.reads c.from_residual-in_err-branches-in-Conditional.result c.from_residual-in_err-branches-in-Conditional.ensures.1

pub read_stmt-returns-in_ok-branches-in-Conditional-clause-reads : goal.read_stmt-returns-in_ok-branches-in-Conditional-clause-reads
read_stmt-returns-in_ok-branches-in-Conditional-clause-reads t c =
    rw (view.stmt-conditional c.in_ok-branches-in-Conditional.branches c.in_ok-branches-in-Conditional.last)
    (rule.conditional_took c.args.depth _ c.in-Conditional.ensures (conditional_of (c.in_ok-branches-in-Conditional.branches, c.in_ok-branches-in-Conditional.last)) _ c.in_ok-branches-in-Conditional.ensures.reads)

pub read_stmt-returns-in_err-name-in-Assign-clause-reads : goal.read_stmt-returns-in_err-name-in-Assign-clause-reads
read_stmt-returns-in_err-name-in-Assign-clause-reads t c =
    fails (assign_at c.args.depth) Any _ stmt (stmt_at c.args.depth) Any _ (rule.assign_none c.args.depth _ c.in-Assign.ensures) c.in_err-name-in-Assign.field-0.0 c.in_err-name-in-Assign.ensures.reads
    c.from_residual-in_err-name-in-Assign.result c.from_residual-in_err-name-in-Assign.ensures.1

pub read_stmt-returns-in_ok-name-in-Assign-clause-reads : goal.read_stmt-returns-in_ok-name-in-Assign-clause-reads
read_stmt-returns-in_ok-name-in-Assign-clause-reads t c =
    rw (view.stmt-assign c.in_ok-name-in-Assign.name c.in_ok-name-in-Assign.value)
    (rule.assign_took c.args.depth _ c.in-Assign.ensures (c.in_ok-name-in-Assign.name, expr c.in_ok-name-in-Assign.value) _ c.in_ok-name-in-Assign.ensures.reads)

pub read_stmt-returns-in_err-format-in-Display-clause-reads : goal.read_stmt-returns-in_err-format-in-Display-clause-reads
read_stmt-returns-in_err-format-in-Display-clause-reads t c =
    fails (display_at c.args.depth) Any _ stmt (stmt_at c.args.depth) Any _ (rule.display_none c.args.depth _ c.in-Display.ensures) c.in_err-format-in-Display.field-0.0 c.in_err-format-in-Display.ensures.reads
    c.from_residual-in_err-format-in-Display.result c.from_residual-in_err-format-in-Display.ensures.1

pub read_stmt-returns-in_ok-format-in-Display-clause-reads : goal.read_stmt-returns-in_ok-format-in-Display-clause-reads
read_stmt-returns-in_ok-format-in-Display-clause-reads t c =
    rw (view.stmt-display c.in_ok-format-in-Display.format c.in_ok-format-in-Display.name)
    (rule.display_took c.args.depth _ c.in-Display.ensures (c.in_ok-format-in-Display.format, c.in_ok-format-in-Display.name) _ c.in_ok-format-in-Display.ensures.reads)

pub read_stmt-returns-in_err-line-in-Stop-clause-reads : goal.read_stmt-returns-in_err-line-in-Stop-clause-reads
read_stmt-returns-in_err-line-in-Stop-clause-reads t c =
    fails (stop_at c.args.depth) Any _ stmt (stmt_at c.args.depth) Any _ (rule.stop_none c.args.depth _ c.in-Stop.ensures) c.in_err-line-in-Stop.field-0.0 c.in_err-line-in-Stop.ensures.reads
    c.from_residual-in_err-line-in-Stop.result c.from_residual-in_err-line-in-Stop.ensures.1

pub read_stmt-returns-in_ok-line-in-Stop-clause-reads : goal.read_stmt-returns-in_ok-line-in-Stop-clause-reads
read_stmt-returns-in_ok-line-in-Stop-clause-reads t c =
    rw (view.stmt-stop c.in_ok-line-in-Stop.line) (rule.stop_took c.args.depth _ c.in-Stop.ensures c.in_ok-line-in-Stop.line _ c.in_ok-line-in-Stop.ensures.reads)

-- ---- a block

pub read_block-returns-in_err-rest-clause-reads : goal.read_block-returns-in_err-rest-clause-reads
read_block-returns-in_err-rest-clause-reads t c =
    fails (one (word c.args.depth w.Begin)) Any _ stmts (block_at c.args.depth) Any _ (no_lead_1 (word c.args.depth w.Begin) (stmts_end c.args.depth) _) c.in_err-rest.field-0.0 c.in_err-rest.ensures.reads
    c.from_residual.result c.from_residual.ensures.1

pub read_block-loop-after-init : goal.read_block-loop-after-init
read_block-loop-after-init t c = record {
  took = λ ss z p. rw c.new-body.ensures (took_lead (word c.args.depth w.Begin) (stmts_end c.args.depth) _ _ c.in_ok-rest.ensures.reads ss z p);
  none = no_lead_2 (word c.args.depth w.Begin) (stmts_end c.args.depth) _ _ c.in_ok-rest.ensures.reads;
  shorter = c.in_ok-rest.ensures.shorter;
  shallow = c.in_ok-rest.ensures.shallow;
}

pub read_block-returns-in-Some-clause-reads : goal.read_block-returns-in-Some-clause-reads
read_block-returns-in-Some-clause-reads t c =
    rw (← view.stmts_on-none c.loop-after.body) (c.loop-after.invariant.took no_stmt _ (rule.ended_took c.args.depth _ _ c.in-Some.ensures.reads))

pub read_block-returns-in_err-one-in-None-clause-reads : goal.read_block-returns-in_err-one-in-None-clause-reads
read_block-returns-in_err-one-in-None-clause-reads t c =
    fails (stmt_at (c.args.depth + 1)) Any _ stmts (block_at c.args.depth) Any _ (λ n. c.loop-after.invariant.none (rule.more_none_1 c.args.depth _ c.in-None.ensures.reads n)) c.in_err-one-in-None.field-0.0
    c.in_err-one-in-None.ensures.reads c.from_residual-in_err-one-in-None.result c.from_residual-in_err-one-in-None.ensures.1

pub read_block-loop-after-preserved : goal.read_block-loop-after-preserved
read_block-loop-after-preserved t c = record {
  took = λ ss z p.
      let e : c.push.new.self ≡ c.loop-after.body ++ c.in_ok-one-in-None.one ∷ [] = c.in_ok-push-in-None.ensures.ok in
      rw (e, view.stmts_on-one)
      (c.loop-after.invariant.took (more_stmt (stmt c.in_ok-one-in-None.one) ss) z (rule.more_took c.args.depth _ c.in-None.ensures.reads _ _ c.in_ok-one-in-None.ensures.reads ss z p));
  none = λ n. c.loop-after.invariant.none (rule.more_none_2 c.args.depth _ c.in-None.ensures.reads _ _ c.in_ok-one-in-None.ensures.reads n);
  shorter = omega (arith, c.in_ok-one-in-None.ensures.shorter, c.loop-after.invariant.shorter);
  shallow = c.loop-after.invariant.shallow;
}

-- ---- a branch

pub read_branch-returns-in_err-condition-clause-reads : goal.read_branch-returns-in_err-condition-clause-reads
read_branch-returns-in_err-condition-clause-reads t c =
    fails (condition_at c.args.depth) Any _ branch_of (branch_at c.args.depth) Any _ (no_pair_1 (condition_at c.args.depth) (stmt_at (c.args.depth + 1)) _) c.in_err-condition.field-0.0 c.in_err-condition.ensures.reads
    c.from_residual.result c.from_residual.ensures.1

pub read_branch-returns-in_err-body-clause-reads : goal.read_branch-returns-in_err-body-clause-reads
read_branch-returns-in_err-body-clause-reads t c =
    fails (stmt_at (c.args.depth + 1)) Any _ branch_of (branch_at c.args.depth) Any _ (no_pair_2 (condition_at c.args.depth) (stmt_at (c.args.depth + 1)) _ _ _ c.in_ok-condition.ensures.reads) c.in_err-body.field-0.0
    c.in_err-body.ensures.reads c.from_residual-in_err-body.result c.from_residual-in_err-body.ensures.1

pub read_branch-returns-clause-reads : goal.read_branch-returns-clause-reads
read_branch-returns-clause-reads t c =
    took_pair (condition_at c.args.depth) (stmt_at (c.args.depth + 1)) _ _ _ c.in_ok-condition.ensures.reads _ _ c.in_ok-body.ensures.reads

-- ---- branches

pub read_conditional-returns-in_err-rest-clause-reads : goal.read_conditional-returns-in_err-rest-clause-reads
read_conditional-returns-in_err-rest-clause-reads t c =
    fails (one (word c.args.depth w.If)) Any _ conditional_of (conditional_at c.args.depth) Any _ (no_lead_1 (word c.args.depth w.If) (arms_at c.args.depth) _) c.in_err-rest.field-0.0 c.in_err-rest.ensures.reads
    c.from_residual.result c.from_residual.ensures.1

pub read_conditional-returns-in_err-branch-clause-reads : goal.read_conditional-returns-in_err-branch-clause-reads
read_conditional-returns-in_err-branch-clause-reads t c =
    fails (branch_at c.args.depth) Any _ conditional_of (conditional_at c.args.depth) Any _ (λ n. c.loop-branches.invariant.none (rule.arm_none_1 c.args.depth _ n)) c.in_err-branch.field-0.0
    c.in_err-branch.ensures.reads c.from_residual-in_err-branch.result c.from_residual-in_err-branch.ensures.1

pub read_conditional-returns-in_default-clause-reads : goal.read_conditional-returns-in_default-clause-reads
read_conditional-returns-in_default-clause-reads t c =
    let e : c.push.new.self ≡ c.loop-branches.branches ++ c.in_ok-branch.branch ∷ [] = c.in_ok-push.ensures.ok in
    let b = branch_of c.in_ok-branch.branch in
    rw (← view.branches_on-none c.push.new.self, e, view.branches_on-one)
    (c.loop-branches.invariant.took (more_branch b.0 b.1 no_branch, no_else) _
    (rule.arm_took c.args.depth _ b _ c.in_ok-branch.ensures.reads (no_branch, no_else) _ (rule.last_took c.args.depth _ c.in_ok-branch.ensures.shallow c.in_default.ensures.reads)))

pub read_conditional-returns-in_err-last-clause-reads : goal.read_conditional-returns-in_err-last-clause-reads
read_conditional-returns-in_err-last-clause-reads t c =
    fails (stmt_at (c.args.depth + 1)) Any _ conditional_of (conditional_at c.args.depth) Any _
    (λ n. c.loop-branches.invariant.none (rule.arm_none_2 c.args.depth _ _ _ c.in_ok-branch.ensures.reads
    (rule.else_none c.args.depth _ _ c.in-Some.ensures.reads c.in_ok-branch.ensures.shallow c.in_default-behind_key.ensures.reads n))) c.in_err-last.field-0.0 c.in_err-last.ensures.reads
    c.from_residual-in_err-last.result c.from_residual-in_err-last.ensures.1

pub read_conditional-returns-in_default-behind_key-clause-reads : goal.read_conditional-returns-in_default-behind_key-clause-reads
read_conditional-returns-in_default-behind_key-clause-reads t c =
    let e : c.push.new.self ≡ c.loop-branches.branches ++ c.in_ok-branch.branch ∷ [] = c.in_ok-push.ensures.ok in
    let s : c.in_ok-last-2.last ≡ c.in_ok-last.last = c.in_ok-last-2.ensures in
    let b = branch_of c.in_ok-branch.branch in
    rw (← view.branches_on-none c.push.new.self, e, view.branches_on-one, s)
    (c.loop-branches.invariant.took (more_branch b.0 b.1 no_branch, else_stmt (stmt c.in_ok-last.last)) _
    (rule.arm_took c.args.depth _ b _ c.in_ok-branch.ensures.reads (no_branch, else_stmt (stmt c.in_ok-last.last)) _
    (rule.else_took c.args.depth _ _ c.in-Some.ensures.reads c.in_ok-branch.ensures.shallow c.in_default-behind_key.ensures.reads (stmt c.in_ok-last.last) _ c.in_ok-last.ensures.reads)))

pub read_conditional-loop-branches-preserved : goal.read_conditional-loop-branches-preserved
read_conditional-loop-branches-preserved t c =
    let b = branch_of c.in_ok-branch.branch in
    record {
      took = λ x z p.
          let e : c.push.new.self ≡ c.loop-branches.branches ++ c.in_ok-branch.branch ∷ [] = c.in_ok-push.ensures.ok in
          rw (e, view.branches_on-one)
          (c.loop-branches.invariant.took (more_branch b.0 b.1 x.0, x.1) z
          (rule.arm_took c.args.depth _ b _ c.in_ok-branch.ensures.reads x z (rule.next_took c.args.depth _ _ c.in-Some.ensures.reads _ c.in-Some-behind_key.ensures.reads x z p)));
      none = λ n. c.loop-branches.invariant.none (rule.arm_none_2 c.args.depth _ _ _ c.in_ok-branch.ensures.reads
          (rule.next_none c.args.depth _ _ c.in-Some.ensures.reads _ c.in-Some-behind_key.ensures.reads n));
      shorter = omega (arith, c.in_ok-branch.ensures.shorter, c.in-Some.ensures.shorter, c.in-Some-behind_key.ensures.shorter, c.loop-branches.invariant.shorter);
      shallow = c.loop-branches.invariant.shallow;
    }
