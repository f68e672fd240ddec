use Rattle.std.proofs.Common.{◌≤◌, ◌<◌, ◌+◌, ◌*◌, List, length}
use Rattle.vl_tree.specs.declared.token.Key.TheVariants as w
use Rattle.vl_tree.specs.Token as k
use Rattle.vl_tree.specs.Placed.{Placed}
use Rattle.vl_tree.specs.Syntax.{block, conditional, select, Stmts, Branches, Otherwise, Arms}
use Rattle.vl_tree.specs.SyntaxView as view
use Rattle.vl_tree.specs.Statements.{case_word, NoElse}
use Rattle.std.specs.Option.{option_map}
use Rattle.vl_read.specs.declared.fault.Fault.{Fault}
use Rattle.vl_read.specs.Reading.{Took, Refuses, Any}
use Rattle.vl_simple.specs.Simple.{after, after_depths}
use Rattle.vl_statement.specs.Parts.{ended_at, ended_depths, stmts_on, others_at, others_depths, branches_on, closed_at, closed_depths, arms_on}
use Rattle.vl_statement.proofs.statement.+statement.Given as goal

abbrev pub decreases-read_statement : goal.decreases-read_statement
decreases-read_statement l = 4 * length l.at

abbrev pub decreases-read_arm : goal.decreases-read_arm
decreases-read_arm l = 4 * length l.at + 1

abbrev pub decreases-read_branch : goal.decreases-read_branch
decreases-read_branch l = 4 * length l.at + 1

abbrev pub decreases-read_for : goal.decreases-read_for
decreases-read_for l = 4 * length l.at + 1

abbrev pub decreases-read_block : goal.decreases-read_block
decreases-read_block l = 4 * length l.at + 1

abbrev pub decreases-read_conditional : goal.decreases-read_conditional
decreases-read_conditional l = 4 * length l.at + 2

abbrev pub decreases-read_select : goal.decreases-read_select
decreases-read_select l = 4 * length l.at + 2

-- ---- blocks

abbrev pub invariant-read_block-loop-after : goal.invariant-read_block-loop-after
invariant-read_block-loop-after l = record {
  took : (ss : Stmts) (rest : List Placed) → Took ended_at (ended_depths l.depth) Any Any ss l.rest rest
      → Took (after (k.key w.Begin) (view.place l.place)) (after_depths l.depth) NoElse Any
      (block (view.place l.place) (option_map view.name l.label) (stmts_on l.body ss)) l.fn.at rest;
  fails : (e : Fault) → Refuses ended_at (ended_depths l.depth) Any Any l.rest e
      → Refuses (after (k.key w.Begin) (view.place l.place)) (after_depths l.depth) NoElse Any l.fn.at e;
  shorter : length l.rest ≤ length l.fn.at;
}

abbrev pub decreases-read_block-loop-after : goal.decreases-read_block-loop-after
decreases-read_block-loop-after l = length l.rest

-- ---- conditionals

abbrev pub invariant-read_conditional-loop-after : goal.invariant-read_conditional-loop-after
invariant-read_conditional-loop-after l = record {
  took : (bs : Branches) (o : Otherwise) (rest : List Placed) → Took others_at (others_depths l.depth) NoElse Any (bs, o) l.rest rest
      → Took (after (k.key w.If) (view.place l.fn.place)) (after_depths l.depth) NoElse Any
      (conditional (branches_on l.branches bs) o) l.fn.at rest;
  fails : (e : Fault) → Refuses others_at (others_depths l.depth) NoElse Any l.rest e
      → Refuses (after (k.key w.If) (view.place l.fn.place)) (after_depths l.depth) NoElse Any l.fn.at e;
  shorter : length l.rest < length l.fn.at;
}

abbrev pub decreases-read_conditional-loop-after : goal.decreases-read_conditional-loop-after
decreases-read_conditional-loop-after l = length l.rest

-- ---- arms

abbrev pub invariant-read_select-loop-after : goal.invariant-read_select-loop-after
invariant-read_select-loop-after l = record {
  took : (arms : Arms) (rest : List Placed) → Took closed_at (closed_depths l.depth) Any Any arms l.rest rest
      → Took (after (k.key (case_word l.wild)) (view.place l.place)) (after_depths l.depth) NoElse Any
      (select (view.place l.place) l.wild (view.expr l.selector) (arms_on l.arms arms)) l.fn.at rest;
  fails : (e : Fault) → Refuses closed_at (closed_depths l.depth) Any Any l.rest e
      → Refuses (after (k.key (case_word l.wild)) (view.place l.place)) (after_depths l.depth) NoElse Any l.fn.at e;
  shorter : length l.rest < length l.fn.at;
}

abbrev pub decreases-read_select-loop-after : goal.decreases-read_select-loop-after
decreases-read_select-loop-after l = length l.rest
