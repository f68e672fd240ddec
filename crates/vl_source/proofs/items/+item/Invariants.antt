use Rattle.std.proofs.Common.{◌≤◌, ◌<◌, ◌+◌, ◌*◌, List, length}
use Rattle.vl_tree.specs.declared.token.Key.TheVariants as w
use Rattle.vl_tree.specs.Token as k
use Rattle.vl_tree.specs.Placed.{Placed}
use Rattle.vl_tree.specs.Syntax.{Items, generate_if, GenerateBranches, GenerateElse}
use Rattle.vl_tree.specs.SyntaxView as view
use Rattle.vl_tree.specs.Statements.{NoElse}
use Rattle.vl_read.specs.declared.fault.Fault.{Fault}
use Rattle.vl_read.specs.Reading.{Took, Refuses, Any}
use Rattle.vl_source.specs.Readers.{after, after_depths, closed_items_at, closed_items_depths, items_on, others_at, others_depths}
use Rattle.vl_source.proofs.Views.{branches_on}
use Rattle.vl_source.proofs.items.+item.Given as goal

abbrev pub decreases-read_item : goal.decreases-read_item
decreases-read_item l = 4 * length l.at

abbrev pub decreases-read_items : goal.decreases-read_items
decreases-read_items l = 4 * length l.at + 1

abbrev pub decreases-read_region : goal.decreases-read_region
decreases-read_region l = 4 * length l.at + 2

abbrev pub decreases-read_generate_loop : goal.decreases-read_generate_loop
decreases-read_generate_loop l = 4 * length l.at + 2

abbrev pub decreases-read_generate_if : goal.decreases-read_generate_if
decreases-read_generate_if l = 4 * length l.at + 2

abbrev pub decreases-read_generate_branch : goal.decreases-read_generate_branch
decreases-read_generate_branch l = 4 * length l.at + 1

abbrev pub decreases-read_generate_block : goal.decreases-read_generate_block
decreases-read_generate_block l = 4 * length l.at + 1

-- ---- items

abbrev pub invariant-read_items-loop-after : goal.invariant-read_items-loop-after
invariant-read_items-loop-after l = record {
  took : (is : Items) (rest : List Placed) → Took (closed_items_at l.last) (closed_items_depths l.depth) Any Any is l.rest rest
      → Took (closed_items_at l.last) (closed_items_depths l.depth) Any Any (items_on l.items is) l.fn.at rest;
  fails : (e : Fault) → Refuses (closed_items_at l.last) (closed_items_depths l.depth) Any Any l.rest e
      → Refuses (closed_items_at l.last) (closed_items_depths l.depth) Any Any l.fn.at e;
  shorter : length l.rest ≤ length l.fn.at;
}

abbrev pub decreases-read_items-loop-after : goal.decreases-read_items-loop-after
decreases-read_items-loop-after l = length l.rest

-- ---- branches

abbrev pub invariant-read_generate_if-loop-after : goal.invariant-read_generate_if-loop-after
invariant-read_generate_if-loop-after l = record {
  took : (bs : GenerateBranches) (o : GenerateElse) (rest : List Placed)
      → Took others_at (others_depths l.depth) NoElse Any (bs, o) l.rest rest
      → Took (after (k.key w.If) (view.place l.fn.place)) (after_depths l.depth) NoElse Any
      (generate_if (branches_on l.branches bs) o) l.fn.at rest;
  fails : (e : Fault) → Refuses others_at (others_depths l.depth) NoElse Any l.rest e
      → Refuses (after (k.key w.If) (view.place l.fn.place)) (after_depths l.depth) NoElse Any l.fn.at e;
  shorter : length l.rest < length l.fn.at;
}

abbrev pub decreases-read_generate_if-loop-after : goal.decreases-read_generate_if-loop-after
decreases-read_generate_if-loop-after l = length l.rest
