use Rattle.std.proofs.Common.{◌≡◌, drop, map}
use Rattle.vl_tree.specs.SyntaxView as view
use Rattle.vl_views.specs.Blocks.{items_of, branches_of, else_of}
use Rattle.vl_frames.specs.Marks.{around}
use Rattle.vl_parameters.specs.Plain.{plain_given}
use Rattle.vl_members.proofs.Adding.{Since}
use Rattle.vl_members.proofs.Choosing.{Chooses}
use Rattle.vl_members.proofs.members.+declare.Given as goal

-- what was declared, and what is left
abbrev pub invariant-declare_items-loop-item : goal.invariant-declare_items-loop-item
invariant-declare_items-loop-item l =
    Since (map plain_given l.given) l.fn.frames l.frames l.fn.declared.items l.declared.items (items_of l.items) (items_of (drop l.item-index l.items))

-- nothing was declared, and the branches that are left, with the last one
abbrev pub invariant-declare_by-loop-branch : goal.invariant-declare_by-loop-branch
invariant-declare_by-loop-branch l = record {
  chooses : Chooses (map plain_given l.given) (around l.fn.frames) (view.item l.fn.item) (branches_of (drop l.branch-index l.all)) (else_of l.last);
  frames : l.frames ≡ l.fn.frames;
  declared : l.declared ≡ l.fn.declared;
}
