use Rattle.std.proofs.Common.{◌≤◌, ◌<◌, ◌+◌, ◌*◌, length}
use Rattle.vl_tree.specs.Token.{Tokens, all_coded}
use Rattle.vl_tree.specs.Tree.{Stmts, Branches, Otherwise}
use Rattle.vl_module.specs.Reading.{Any, Took, NoTree}
use Rattle.vl_module.specs.Rules.{stmts_end, block_at, arms_at, conditional_at}
use Rattle.vl_module.proofs.Views.{stmts_on, branches_on}
use Rattle.vl_module.proofs.stmt.+stmt.Given as goal

abbrev pub decreases-read_branch : goal.decreases-read_branch
decreases-read_branch l = 2 * length l.tokens.now

abbrev pub decreases-read_block : goal.decreases-read_block
decreases-read_block l = 2 * length l.tokens.now

abbrev pub decreases-read_conditional : goal.decreases-read_conditional
decreases-read_conditional l = 2 * length l.tokens.now

abbrev pub decreases-read_stmt : goal.decreases-read_stmt
decreases-read_stmt l = 2 * length l.tokens.now + 1

abbrev pub invariant-read_block-loop-after : goal.invariant-read_block-loop-after
invariant-read_block-loop-after l = record {
  took : (ss : Stmts) (z : Tokens) → Took (stmts_end l.depth) Any ss (all_coded l.rest) z → Took (block_at l.depth) Any (stmts_on l.body ss) (all_coded l.fn.tokens) z;
  none : NoTree (stmts_end l.depth) Any (all_coded l.rest) → NoTree (block_at l.depth) Any (all_coded l.fn.tokens);
  shorter : length l.rest < length l.fn.tokens;
  shallow : l.depth ≤ 200;
}

abbrev pub decreases-read_block-loop-after : goal.decreases-read_block-loop-after
decreases-read_block-loop-after l = length l.rest

abbrev pub invariant-read_conditional-loop-branches : goal.invariant-read_conditional-loop-branches
invariant-read_conditional-loop-branches l = record {
  took : (x : Branches × Otherwise) (z : Tokens) → Took (arms_at l.depth) Any x (all_coded l.rest) z → Took (conditional_at l.depth) Any (branches_on l.branches x.0, x.1) (all_coded l.fn.tokens) z;
  none : NoTree (arms_at l.depth) Any (all_coded l.rest) → NoTree (conditional_at l.depth) Any (all_coded l.fn.tokens);
  shorter : length l.rest < length l.fn.tokens;
  shallow : l.depth ≤ 200;
}

abbrev pub decreases-read_conditional-loop-branches : goal.decreases-read_conditional-loop-branches
decreases-read_conditional-loop-branches l = length l.rest
