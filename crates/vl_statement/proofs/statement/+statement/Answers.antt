use Rattle.std.proofs.Common.{◌≡◌, ◌≤◌, ◌∷◌, [], ◌++◌, arith, subst, ap, refl, ◌∙◌}
use Rattle.std.proofs.lemmas.Result.{err_from_is_err_and}
use Rattle.std.specs.Prelude.{Some, None}
use Rattle.vl_tree.specs.declared.token.Key.TheVariants as w
use Rattle.vl_tree.specs.declared.token.Mark.TheVariants as m
use Rattle.vl_tree.specs.declared.token.System.TheVariants as s
use Rattle.vl_tree.specs.Token as k
use Rattle.vl_tree.specs.Token.{coded_kind}
use Rattle.vl_tree.specs.Syntax.{no_stmt, more_stmt, no_branch, more_branch, no_else, else_stmt, no_arm}
use Rattle.vl_tree.specs.SyntaxView as plain
use Rattle.vl_tree.specs.Statements.{case_word, print_name}
use Rattle.vl_read.proofs.Leads.{leads_on, leads_reads}
use Rattle.vl_read.proofs.TokenRules.{took_kind}
use Rattle.vl_simple.specs.Starts.{IsStart}
use Rattle.vl_statement.specs.Parts.{arm_of, with_arm}
use Rattle.vl_simple.proofs.Steps.{fails_at, after_part}
use Rattle.vl_simple.proofs.PartRules as part
use Rattle.vl_simple.proofs.Heads as head
use Rattle.vl_statement.proofs.StartRules as rule
use Rattle.vl_statement.proofs.BlockRules as rule_block
use Rattle.vl_statement.proofs.BranchRules as rule_branch
use Rattle.vl_statement.proofs.ArmRules as rule_arm
use Rattle.vl_statement.proofs.Views as view
use Rattle.vl_statement.proofs.statement.+statement.Goals as goal

-- ---- arms

pub read_arm-returns-then-depth-gt-MAX_DEPTH-clause-reads : goal.read_arm-returns-then-depth-gt-MAX_DEPTH-clause-reads
read_arm-returns-then-depth-gt-MAX_DEPTH-clause-reads t c =
    let i : c.args.depth ≡ 201 = omega (arith, c.requires.low, c.if-depth-gt-MAX_DEPTH.true) in
    rw c.left.ensures (rule_arm.default_sunk c.args.depth _ c.args.at _ c.in-Some.ensures.reads i)

pub read_arm-returns-in_err-body-in-Some-clause-reads : goal.read_arm-returns-in_err-body-in-Some-clause-reads
read_arm-returns-in_err-body-in-Some-clause-reads t c =
    let l0 = rule_arm.default_part c.args.depth (omega (arith, c.requires.low, c.if-depth-gt-MAX_DEPTH.false)) (plain.place c.in-Some.place) c.args.at _
    c.in-Some.ensures.reads in
    let l1 = after_part (rule_arm.optional_next c.args.depth) l0 _ _
    (part.took_colon c.args.depth (omega (arith, c.requires.low, c.if-depth-gt-MAX_DEPTH.false)) _ _ _ c.pass_colon-colon.ensures.reads) in
    let p = err_from_is_err_and c.from_residual.result c.from_residual.ensures.1 in
    rw (p.1, p.2) (l1.fails c.in_err-body-in-Some.field-0.0 c.in_err-body-in-Some.ensures.reads)

pub read_arm-returns-in_ok-body-in-Some-clause-reads : goal.read_arm-returns-in_ok-body-in-Some-clause-reads
read_arm-returns-in_ok-body-in-Some-clause-reads t c =
    let l0 = rule_arm.default_part c.args.depth (omega (arith, c.requires.low, c.if-depth-gt-MAX_DEPTH.false)) (plain.place c.in-Some.place) c.args.at _
    c.in-Some.ensures.reads in
    let l1 = after_part (rule_arm.optional_next c.args.depth) l0 _ _
    (part.took_colon c.args.depth (omega (arith, c.requires.low, c.if-depth-gt-MAX_DEPTH.false)) _ _ _ c.pass_colon-colon.ensures.reads) in
    l1.took _ _ c.in_ok-body-in-Some.ensures.reads

pub read_arm-returns-in_err-labels-in-None-clause-reads : goal.read_arm-returns-in_err-labels-in-None-clause-reads
read_arm-returns-in_err-labels-in-None-clause-reads t c =
    let l0 = rule_arm.labels_part c.args.depth c.args.at c.in-None.ensures.reads in
    let p = err_from_is_err_and c.from_residual-in_err-labels-in-None.result c.from_residual-in_err-labels-in-None.ensures.1 in
    rw (p.1, p.2) (fails_at (rule_arm.labels_next c.args.depth) l0 c.in_err-labels-in-None.field-0.0 c.in_err-labels-in-None.ensures.reads)

pub read_arm-returns-in_err-rest-in-None-clause-reads : goal.read_arm-returns-in_err-rest-in-None-clause-reads
read_arm-returns-in_err-rest-in-None-clause-reads t c =
    let l0 = rule_arm.labels_part c.args.depth c.args.at c.in-None.ensures.reads in
    let l1 = after_part (rule_arm.labels_next c.args.depth) l0 _ _ c.in_ok-labels-in-None.ensures.reads in
    let p = err_from_is_err_and c.from_residual-in_err-rest-in-None.result c.from_residual-in_err-rest-in-None.ensures.1 in
    rw (p.1, p.2) (fails_at (rule_arm.colon_next c.args.depth) l1 c.in_err-rest-in-None.field-0.0 (c.in_err-rest-in-None.ensures.reads c.args.depth))

pub read_arm-returns-in_err-body-in-None-clause-reads : goal.read_arm-returns-in_err-body-in-None-clause-reads
read_arm-returns-in_err-body-in-None-clause-reads t c =
    let l0 = rule_arm.labels_part c.args.depth c.args.at c.in-None.ensures.reads in
    let l1 = after_part (rule_arm.labels_next c.args.depth) l0 _ _ c.in_ok-labels-in-None.ensures.reads in
    let l2 = after_part (rule_arm.colon_next c.args.depth) l1 _ _
    (took_kind (k.mark m.Colon) c.args.depth c.in_ok-labels-in-None.ensures.shallow _ _ _ c.in_ok-rest-in-None.ensures.reads.1) in
    let p = err_from_is_err_and c.from_residual-in_err-body-in-None.result c.from_residual-in_err-body-in-None.ensures.1 in
    rw (p.1, p.2) (l2.fails c.in_err-body-in-None.field-0.0 c.in_err-body-in-None.ensures.reads)

pub read_arm-returns-in_ok-body-in-None-clause-reads : goal.read_arm-returns-in_ok-body-in-None-clause-reads
read_arm-returns-in_ok-body-in-None-clause-reads t c =
    let l0 = rule_arm.labels_part c.args.depth c.args.at c.in-None.ensures.reads in
    let l1 = after_part (rule_arm.labels_next c.args.depth) l0 _ _ c.in_ok-labels-in-None.ensures.reads in
    let l2 = after_part (rule_arm.colon_next c.args.depth) l1 _ _
    (took_kind (k.mark m.Colon) c.args.depth c.in_ok-labels-in-None.ensures.shallow _ _ _ c.in_ok-rest-in-None.ensures.reads.1) in
    l2.took _ _ c.in_ok-body-in-None.ensures.reads

-- ---- branches

pub read_branch-returns-in_err-condition-clause-reads : goal.read_branch-returns-in_err-condition-clause-reads
read_branch-returns-in_err-condition-clause-reads t c =
    let l0 = rule_branch.branch_parts c.args.depth (plain.place c.args.place) c.args.at in
    let p = err_from_is_err_and c.from_residual.result c.from_residual.ensures.1 in
    rw (p.1, p.2) (fails_at (rule_branch.condition_next c.args.depth) l0 c.in_err-condition.field-0.0 c.in_err-condition.ensures.reads)

pub read_branch-returns-in_err-body-clause-reads : goal.read_branch-returns-in_err-body-clause-reads
read_branch-returns-in_err-body-clause-reads t c =
    let l0 = rule_branch.branch_parts c.args.depth (plain.place c.args.place) c.args.at in
    let l1 = after_part (rule_branch.condition_next c.args.depth) l0 _ _ c.in_ok-condition.ensures.reads in
    let p = err_from_is_err_and c.from_residual-in_err-body.result c.from_residual-in_err-body.ensures.1 in
    rw (p.1, p.2) (l1.fails c.in_err-body.field-0.0 c.in_err-body.ensures.reads)

pub read_branch-returns-clause-reads : goal.read_branch-returns-clause-reads
read_branch-returns-clause-reads t c =
    let l0 = rule_branch.branch_parts c.args.depth (plain.place c.args.place) c.args.at in
    let l1 = after_part (rule_branch.condition_next c.args.depth) l0 _ _ c.in_ok-condition.ensures.reads in
    l1.took _ _ c.in_ok-body.ensures.reads

-- ---- loops

pub read_for-returns-in_err-header-clause-reads : goal.read_for-returns-in_err-header-clause-reads
read_for-returns-in_err-header-clause-reads t c =
    let l0 = rule_block.for_parts c.args.depth (plain.place c.args.place) c.args.at in
    let p = err_from_is_err_and c.from_residual.result c.from_residual.ensures.1 in
    rw (p.1, p.2) (fails_at (rule_block.header_next c.args.depth (plain.place c.args.place)) l0 c.in_err-header.field-0.0 c.in_err-header.ensures.reads)

pub read_for-returns-in_err-body-clause-reads : goal.read_for-returns-in_err-body-clause-reads
read_for-returns-in_err-body-clause-reads t c =
    let l0 = rule_block.for_parts c.args.depth (plain.place c.args.place) c.args.at in
    let l1 = after_part (rule_block.header_next c.args.depth (plain.place c.args.place)) l0 _ _ c.in_ok-header.ensures.reads in
    let p = err_from_is_err_and c.from_residual-in_err-body.result c.from_residual-in_err-body.ensures.1 in
    rw (p.1, p.2) (l1.fails c.in_err-body.field-0.0 c.in_err-body.ensures.reads)

pub read_for-returns-clause-reads : goal.read_for-returns-clause-reads
read_for-returns-clause-reads t c =
    let l0 = rule_block.for_parts c.args.depth (plain.place c.args.place) c.args.at in
    let l1 = after_part (rule_block.header_next c.args.depth (plain.place c.args.place)) l0 _ _ c.in_ok-header.ensures.reads in
    let s : c.in_ok-body-2.body ≡ c.in_ok-body.body = c.in_ok-body-2.ensures in
    rw (view.stmt-loop c.args.place c.in_ok-header.header c.in_ok-body-2.body, s) (l1.took _ _ c.in_ok-body.ensures.reads)

-- ---- blocks

pub read_block-returns-in_err-label-clause-reads : goal.read_block-returns-in_err-label-clause-reads
read_block-returns-in_err-label-clause-reads t c =
    let l0 = rule_block.block_parts c.args.depth (plain.place c.args.place) c.args.at in
    let p = err_from_is_err_and c.from_residual.result c.from_residual.ensures.1 in
    rw (p.1, p.2) (fails_at (rule_block.label_next c.args.depth (plain.place c.args.place)) l0 c.in_err-label.field-0.0 c.in_err-label.ensures.reads)

pub read_block-loop-after-init : goal.read_block-loop-after-init
read_block-loop-after-init t c =
    let l0 = rule_block.block_parts c.args.depth (plain.place c.args.place) c.args.at in
    let l1 = after_part (rule_block.label_next c.args.depth (plain.place c.args.place)) l0 _ _ c.in_ok-label.ensures.reads in
    record {
      took = λ ss rest p. rw c.new-body.ensures (l1.took ss rest p);
      fails = l1.fails;
      shorter = c.in_ok-label.ensures.shorter;
    }

pub read_block-returns-in-Some-clause-reads : goal.read_block-returns-in-Some-clause-reads
read_block-returns-in-Some-clause-reads t c =
    rw view.stmt-block
    (c.loop-after.invariant.took no_stmt _ (rule_block.end_took c.args.depth c.requires.low _ c.loop-after.rest _ c.in-Some.ensures.reads))

pub read_block-returns-in_err-statement-in-None-clause-reads : goal.read_block-returns-in_err-statement-in-None-clause-reads
read_block-returns-in_err-statement-in-None-clause-reads t c =
    let l0 = rule_block.more_part c.args.depth c.loop-after.rest c.in-None.ensures.reads in
    let p = err_from_is_err_and c.from_residual-in_err-statement-in-None.result c.from_residual-in_err-statement-in-None.ensures.1 in
    rw (p.1, p.2) (c.loop-after.invariant.fails c.in_err-statement-in-None.field-0.0
    (fails_at (rule_block.stmt_ended c.args.depth) l0 c.in_err-statement-in-None.field-0.0 c.in_err-statement-in-None.ensures.reads))

pub read_block-loop-after-preserved : goal.read_block-loop-after-preserved
read_block-loop-after-preserved t c =
    let l0 = rule_block.more_part c.args.depth c.loop-after.rest c.in-None.ensures.reads in
    let l1 = after_part (rule_block.stmt_ended c.args.depth) l0 _ _ c.in_ok-statement-in-None.ensures.reads in
    let e : c.push.new.self ≡ c.loop-after.body ++ c.in_ok-statement-in-None.statement ∷ [] = c.in_ok-push-in-None.ensures.ok in
    record {
      took = λ ss rest p. rw (e, view.stmts_on-one)
          (c.loop-after.invariant.took (more_stmt (plain.stmt c.in_ok-statement-in-None.statement) ss) rest (l1.took ss rest p));
      fails = λ e r. c.loop-after.invariant.fails e (l1.fails e r);
      shorter = omega (arith, c.in_ok-statement-in-None.ensures.shorter, c.loop-after.invariant.shorter);
    }

-- ---- conditionals

pub read_conditional-returns-in_err-first-clause-reads : goal.read_conditional-returns-in_err-first-clause-reads
read_conditional-returns-in_err-first-clause-reads t c =
    let l0 = rule_branch.conditional_parts c.args.depth (plain.place c.args.place) c.args.at in
    let p = err_from_is_err_and c.from_residual.result c.from_residual.ensures.1 in
    rw (p.1, p.2) (fails_at (rule_branch.branch_next c.args.depth (plain.place c.args.place)) l0 c.in_err-first.field-0.0 c.in_err-first.ensures.reads)

pub read_conditional-loop-after-init : goal.read_conditional-loop-after-init
read_conditional-loop-after-init t c =
    let l0 = rule_branch.conditional_parts c.args.depth (plain.place c.args.place) c.args.at in
    let l1 = after_part (rule_branch.branch_next c.args.depth (plain.place c.args.place)) l0 _ _ c.in_ok-first.ensures.reads in
    let e : c.in_ok-branches.branches ≡ c.in_ok-first.first ∷ [] = c.in_ok-branches.ensures in
    record {
      took = λ bs o rest p. rw e (l1.took (bs, o) rest p);
      fails = l1.fails;
      shorter = c.in_ok-first.ensures.shorter;
    }

pub read_conditional-returns-in_default-clause-reads : goal.read_conditional-returns-in_default-clause-reads
read_conditional-returns-in_default-clause-reads t c =
    rw (view.stmt-conditional c.loop-after.branches None)
    (c.loop-after.invariant.took no_branch no_else _
    (rule_branch.others_none c.args.depth c.loop-after.rest (rule_branch.not_else c.loop-after.rest c.in_default.ensures.reads)))

pub read_conditional-returns-in_err-branch-in-Some-find_key-clause-reads : goal.read_conditional-returns-in_err-branch-in-Some-find_key-clause-reads
read_conditional-returns-in_err-branch-in-Some-find_key-clause-reads t c =
    let l0 = rule_branch.else_part c.args.depth c.requires.low _ c.loop-after.rest _ c.in-Some.ensures.reads in
    let l1 = leads_on (rule_branch.next_part c.args.depth c.requires.low _ (plain.place c.in-Some-find_key.place) _ _
    c.in-Some-find_key.ensures.reads) l0 in
    let p = err_from_is_err_and c.from_residual-in_err-branch-in-Some-find_key.result c.from_residual-in_err-branch-in-Some-find_key.ensures.1 in
    rw (p.1, p.2) (c.loop-after.invariant.fails c.in_err-branch-in-Some-find_key.field-0.0
    (fails_at (rule_branch.branch_next c.args.depth (plain.place c.in-Some-find_key.place)) l1
    c.in_err-branch-in-Some-find_key.field-0.0 c.in_err-branch-in-Some-find_key.ensures.reads))

pub read_conditional-loop-after-preserved : goal.read_conditional-loop-after-preserved
read_conditional-loop-after-preserved t c =
    let l0 = rule_branch.else_part c.args.depth c.requires.low _ c.loop-after.rest _ c.in-Some.ensures.reads in
    let l1 = leads_on (rule_branch.next_part c.args.depth c.requires.low _ (plain.place c.in-Some-find_key.place) _ _
    c.in-Some-find_key.ensures.reads) l0 in
    let l2 = after_part (rule_branch.branch_next c.args.depth (plain.place c.in-Some-find_key.place)) l1 _ _ c.in_ok-branch-in-Some-find_key.ensures.reads in
    let b = c.in_ok-branch-in-Some-find_key.branch in
    let e : c.push.new.self ≡ c.loop-after.branches ++ b ∷ [] = c.in_ok-push-in-Some-find_key.ensures.ok in
    record {
      took = λ bs o rest p. rw (e, view.branches_on-one)
          (c.loop-after.invariant.took (more_branch (plain.place b.place) (plain.expr b.condition) (plain.stmt b.body) bs) o rest
          (l2.took (bs, o) rest p));
      fails = λ e r. c.loop-after.invariant.fails e (l2.fails e r);
      shorter = omega (
        arith,
        c.in-Some.ensures.shorter,
        c.in-Some-find_key.ensures.shorter,
        c.in_ok-branch-in-Some-find_key.ensures.shorter,
        c.loop-after.invariant.shorter,
      );
    }

pub read_conditional-returns-in_err-other-in-None-clause-reads : goal.read_conditional-returns-in_err-other-in-None-clause-reads
read_conditional-returns-in_err-other-in-None-clause-reads t c =
    let l0 = rule_branch.else_part c.args.depth c.requires.low _ c.loop-after.rest _ c.in-Some.ensures.reads in
    let l1 = leads_on (rule_branch.last_part c.args.depth _ _ c.in-None.ensures.reads) l0 in
    let p = err_from_is_err_and c.from_residual-in_err-other-in-None.result c.from_residual-in_err-other-in-None.ensures.1 in
    rw (p.1, p.2) (c.loop-after.invariant.fails c.in_err-other-in-None.field-0.0
    (l1.fails c.in_err-other-in-None.field-0.0 c.in_err-other-in-None.ensures.reads))

pub read_conditional-returns-in-None-clause-reads : goal.read_conditional-returns-in-None-clause-reads
read_conditional-returns-in-None-clause-reads t c =
    let l0 = rule_branch.else_part c.args.depth c.requires.low _ c.loop-after.rest _ c.in-Some.ensures.reads in
    let l1 = leads_on (rule_branch.last_part c.args.depth _ _ c.in-None.ensures.reads) l0 in
    let s : c.in_ok-other-in-None-2.other ≡ c.in_ok-other-in-None.other = c.in_ok-other-in-None-2.ensures in
    rw (view.stmt-conditional c.loop-after.branches (Some c.in_ok-other-in-None-2.other), s)
    (c.loop-after.invariant.took no_branch (else_stmt (plain.stmt c.in_ok-other-in-None.other)) _
    (l1.took _ _ c.in_ok-other-in-None.ensures.reads))

-- ---- `case`

pub read_select-returns-in_err-selector-clause-reads : goal.read_select-returns-in_err-selector-clause-reads
read_select-returns-in_err-selector-clause-reads t c =
    let l0 = rule_arm.select_parts c.args.depth (plain.place c.args.place) c.args.wild c.args.at in
    let p = err_from_is_err_and c.from_residual.result c.from_residual.ensures.1 in
    rw (p.1, p.2) (fails_at (rule_arm.selector_next c.args.depth (plain.place c.args.place) c.args.wild) l0
    c.in_err-selector.field-0.0 c.in_err-selector.ensures.reads)

pub read_select-returns-in_err-first-clause-reads : goal.read_select-returns-in_err-first-clause-reads
read_select-returns-in_err-first-clause-reads t c =
    let l0 = rule_arm.select_parts c.args.depth (plain.place c.args.place) c.args.wild c.args.at in
    let l1 = after_part (rule_arm.selector_next c.args.depth (plain.place c.args.place) c.args.wild) l0 _ _ c.in_ok-selector.ensures.reads in
    let p = err_from_is_err_and c.from_residual-in_err-first.result c.from_residual-in_err-first.ensures.1 in
    rw (p.1, p.2) (fails_at (rule_arm.arm_closed c.args.depth) l1 c.in_err-first.field-0.0 c.in_err-first.ensures.reads)

pub read_select-loop-after-init : goal.read_select-loop-after-init
read_select-loop-after-init t c =
    let l0 = rule_arm.select_parts c.args.depth (plain.place c.args.place) c.args.wild c.args.at in
    let l1 = after_part (rule_arm.selector_next c.args.depth (plain.place c.args.place) c.args.wild) l0 _ _ c.in_ok-selector.ensures.reads in
    let l2 = after_part (rule_arm.arm_closed c.args.depth) l1 _ _ c.in_ok-first.ensures.reads in
    let e : c.in_ok-arms.arms ≡ c.in_ok-first.first ∷ [] = c.in_ok-arms.ensures in
    record {
      took = λ arms rest p. rw e (l2.took arms rest p);
      fails = l2.fails;
      shorter = omega (arith, c.in_ok-selector.ensures.shorter, c.in_ok-first.ensures.shorter);
    }

pub read_select-returns-in-Some-clause-reads : goal.read_select-returns-in-Some-clause-reads
read_select-returns-in-Some-clause-reads t c =
    rw view.stmt-select
    (c.loop-after.invariant.took no_arm _ (rule_arm.endcase_took c.args.depth c.requires.low _ c.loop-after.rest _ c.in-Some.ensures.reads))

pub read_select-returns-in_err-arm-in-None-clause-reads : goal.read_select-returns-in_err-arm-in-None-clause-reads
read_select-returns-in_err-arm-in-None-clause-reads t c =
    let l0 = rule_arm.arm_part c.args.depth c.loop-after.rest c.in-None.ensures.reads in
    let p = err_from_is_err_and c.from_residual-in_err-arm-in-None.result c.from_residual-in_err-arm-in-None.ensures.1 in
    rw (p.1, p.2) (c.loop-after.invariant.fails c.in_err-arm-in-None.field-0.0
    (fails_at (rule_arm.arm_closed c.args.depth) l0 c.in_err-arm-in-None.field-0.0 c.in_err-arm-in-None.ensures.reads))

pub read_select-loop-after-preserved : goal.read_select-loop-after-preserved
read_select-loop-after-preserved t c =
    let l0 = rule_arm.arm_part c.args.depth c.loop-after.rest c.in-None.ensures.reads in
    let l1 = after_part (rule_arm.arm_closed c.args.depth) l0 _ _ c.in_ok-arm-in-None.ensures.reads in
    let e : c.push.new.self ≡ c.loop-after.arms ++ c.in_ok-arm-in-None.arm ∷ [] = c.in_ok-push-in-None.ensures.ok in
    record {
      took = λ arms rest p. rw (e, view.arms_on-one)
          (c.loop-after.invariant.took (with_arm (arm_of c.in_ok-arm-in-None.arm) arms) rest (l1.took arms rest p));
      fails = λ e r. c.loop-after.invariant.fails e (l1.fails e r);
      shorter = omega (arith, c.in_ok-arm-in-None.ensures.shorter, c.loop-after.invariant.shorter);
    }

-- ---- statements

pub read_statement-returns-in_default-clause-reads : goal.read_statement-returns-in_default-clause-reads
read_statement-returns-in_default-clause-reads t c =
    rw c.left.ensures (head.statement_end c.args.depth c.args.at c.in_default.ensures)

pub read_statement-returns-in_default-start_of-clause-reads : goal.read_statement-returns-in_default-start_of-clause-reads
read_statement-returns-in_default-start_of-clause-reads t c =
    rw c.left-in_default-start_of.ensures
    (head.statement_stuck c.args.depth (coded_kind c.in-Some.token.now.kind) (plain.place c.in-Some.place) c.args.at _ c.in-Some.ensures c.in_default-start_of.ensures)

pub read_statement-returns-then-depth-gt-MAX_DEPTH-clause-reads : goal.read_statement-returns-then-depth-gt-MAX_DEPTH-clause-reads
read_statement-returns-then-depth-gt-MAX_DEPTH-clause-reads t c =
    let i : c.args.depth ≡ 201 = omega (arith, c.requires.low, c.if-depth-gt-MAX_DEPTH.true) in
    rw c.left-then-depth-gt-MAX_DEPTH.ensures
    (rule.start_sunk c.args.depth (coded_kind c.in-Some.token.now.kind) (plain.place c.in-Some.place) c.in-Some-start_of.start c.args.at _
    c.in-Some.ensures c.in-Some-start_of.ensures i)

pub read_statement-returns-in-Empty-clause-reads : goal.read_statement-returns-in-Empty-clause-reads
read_statement-returns-in-Empty-clause-reads t c =
    let a = coded_kind c.in-Some.token.now.kind in
    let i = subst (IsStart a) c.in-Empty.is c.in-Some-start_of.ensures in
    let low : c.args.depth ≤ 200 = omega (arith, c.requires.low, c.if-depth-gt-MAX_DEPTH.false) in
    rw (view.stmt-empty c.in-Some.place) (rule.empty_took c.args.depth low a (plain.place c.in-Some.place) c.args.at _ c.in-Some.ensures i)

pub read_statement-returns-in-Block-clause-reads : goal.read_statement-returns-in-Block-clause-reads
read_statement-returns-in-Block-clause-reads t c =
    let a = coded_kind c.in-Some.token.now.kind in
    let i = subst (IsStart a) c.in-Block.is c.in-Some-start_of.ensures in
    let low : c.args.depth ≤ 200 = omega (arith, c.requires.low, c.if-depth-gt-MAX_DEPTH.false) in
    leads_reads (rule.rest_part c.args.depth low a (plain.place c.in-Some.place) c.args.at _ c.in-Some.ensures (k.key w.Begin) i)
    plain.stmt plain.stmt (λ x. refl) c.read_block.result c.read_block.ensures.reads

pub read_statement-returns-in-Conditional-clause-reads : goal.read_statement-returns-in-Conditional-clause-reads
read_statement-returns-in-Conditional-clause-reads t c =
    let a = coded_kind c.in-Some.token.now.kind in
    let i = subst (IsStart a) c.in-Conditional.is c.in-Some-start_of.ensures in
    let low : c.args.depth ≤ 200 = omega (arith, c.requires.low, c.if-depth-gt-MAX_DEPTH.false) in
    leads_reads (rule.rest_part c.args.depth low a (plain.place c.in-Some.place) c.args.at _ c.in-Some.ensures (k.key w.If) i)
    plain.stmt plain.stmt (λ x. refl) c.read_conditional.result c.read_conditional.ensures.reads

pub read_statement-returns-in-Select-clause-reads : goal.read_statement-returns-in-Select-clause-reads
read_statement-returns-in-Select-clause-reads t c =
    let a = coded_kind c.in-Some.token.now.kind in
    let i = subst (IsStart a) c.in-Select.is c.in-Some-start_of.ensures in
    let low : c.args.depth ≤ 200 = omega (arith, c.requires.low, c.if-depth-gt-MAX_DEPTH.false) in
    leads_reads (rule.rest_part c.args.depth low a (plain.place c.in-Some.place) c.args.at _ c.in-Some.ensures (k.key (case_word c.in-Select.wild)) i)
    plain.stmt plain.stmt (λ x. refl) c.read_select.result c.read_select.ensures.reads

pub read_statement-returns-in-Loop-clause-reads : goal.read_statement-returns-in-Loop-clause-reads
read_statement-returns-in-Loop-clause-reads t c =
    let a = coded_kind c.in-Some.token.now.kind in
    let i = subst (IsStart a) c.in-Loop.is c.in-Some-start_of.ensures in
    let low : c.args.depth ≤ 200 = omega (arith, c.requires.low, c.if-depth-gt-MAX_DEPTH.false) in
    leads_reads (rule.rest_part c.args.depth low a (plain.place c.in-Some.place) c.args.at _ c.in-Some.ensures (k.key w.For) i)
    plain.stmt plain.stmt (λ x. refl) c.read_for.result c.read_for.ensures.reads

pub read_statement-returns-in-Print-clause-reads : goal.read_statement-returns-in-Print-clause-reads
read_statement-returns-in-Print-clause-reads t c =
    let a = coded_kind c.in-Some.token.now.kind in
    let i = subst (IsStart a) c.in-Print.is c.in-Some-start_of.ensures in
    let low : c.args.depth ≤ 200 = omega (arith, c.requires.low, c.if-depth-gt-MAX_DEPTH.false) in
    leads_reads (rule.rest_part c.args.depth low a (plain.place c.in-Some.place) c.args.at _ c.in-Some.ensures (k.system (print_name (plain.print c.in-Print.print))) i)
    plain.stmt plain.stmt (λ x. refl) c.read_print.result c.read_print.ensures.reads

pub read_statement-returns-in-FilePrint-clause-reads : goal.read_statement-returns-in-FilePrint-clause-reads
read_statement-returns-in-FilePrint-clause-reads t c =
    let a = coded_kind c.in-Some.token.now.kind in
    let i = subst (IsStart a) c.in-FilePrint.is c.in-Some-start_of.ensures in
    let low : c.args.depth ≤ 200 = omega (arith, c.requires.low, c.if-depth-gt-MAX_DEPTH.false) in
    leads_reads (rule.rest_part c.args.depth low a (plain.place c.in-Some.place) c.args.at _ c.in-Some.ensures (k.system s.Fwrite) i)
    plain.stmt plain.stmt (λ x. refl) c.read_file_print.result c.read_file_print.ensures.reads

pub read_statement-returns-in-Stop-clause-reads : goal.read_statement-returns-in-Stop-clause-reads
read_statement-returns-in-Stop-clause-reads t c =
    let a = coded_kind c.in-Some.token.now.kind in
    let i = subst (IsStart a) c.in-Stop.is c.in-Some-start_of.ensures in
    let low : c.args.depth ≤ 200 = omega (arith, c.requires.low, c.if-depth-gt-MAX_DEPTH.false) in
    leads_reads (rule.rest_part c.args.depth low a (plain.place c.in-Some.place) c.args.at _ c.in-Some.ensures (k.system s.Stop) i)
    plain.stmt plain.stmt (λ x. refl) c.read_stop.result c.read_stop.ensures.reads

pub read_statement-returns-in-Fatal-clause-reads : goal.read_statement-returns-in-Fatal-clause-reads
read_statement-returns-in-Fatal-clause-reads t c =
    let a = coded_kind c.in-Some.token.now.kind in
    let i = subst (IsStart a) c.in-Fatal.is c.in-Some-start_of.ensures in
    let low : c.args.depth ≤ 200 = omega (arith, c.requires.low, c.if-depth-gt-MAX_DEPTH.false) in
    leads_reads (rule.rest_part c.args.depth low a (plain.place c.in-Some.place) c.args.at _ c.in-Some.ensures (k.system s.Fatal) i)
    plain.stmt plain.stmt (λ x. refl) c.read_fatal.result c.read_fatal.ensures.reads

pub read_statement-returns-in-Assign-clause-reads : goal.read_statement-returns-in-Assign-clause-reads
read_statement-returns-in-Assign-clause-reads t c =
    let a = coded_kind c.in-Some.token.now.kind in
    let i = subst (IsStart a) c.in-Assign.is c.in-Some-start_of.ensures in
    let low : c.args.depth ≤ 200 = omega (arith, c.requires.low, c.if-depth-gt-MAX_DEPTH.false) in
    leads_reads (rule.assign_part c.args.depth low a (plain.place c.in-Some.place) c.args.at _ c.in-Some.ensures i)
    plain.stmt plain.stmt (λ x. refl) c.read_assign.result c.read_assign.ensures.reads
