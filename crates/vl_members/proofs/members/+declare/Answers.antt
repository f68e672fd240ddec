use Rattle.std.proofs.Common.{◌≡◌, rules, refl, ◌+◌, drop, map, sym, ap, ◌∙◌}
use Rattle.std.specs.Prelude.{Some, true}
use Rattle.std.proofs.lemmas.List.{drop_all}
use Rattle.vl_tree.specs.Syntax as t
use Rattle.vl_tree.specs.SyntaxView as view
use Rattle.vl_design.specs.Limits.{limits}
use Rattle.vl_design.specs.Constants.{value_of}
use Rattle.vl_design.specs.Generate.{is_if}
use Rattle.vl_design.specs.Scopes.{block_declared}
use Rattle.vl_turns.specs.Turns.{truth_in}
use Rattle.vl_constants.specs.Needed.{constants_of}
use Rattle.vl_views.specs.Blocks.{items_of, block_of, branches_of, else_of}
use Rattle.vl_views.proofs.ItemViews.{branches-drop, region_is, loop_is, if_is}
use Rattle.vl_frames.specs.Marks.{around}
use Rattle.vl_parameters.specs.Plain.{plain_given}
use Rattle.vl_members.proofs.Adding.{on_ok, declares_same, region_declares, loop_adds}
use Rattle.vl_members.proofs.Choosing.{chooses_all, here_is, last_is, inner_taken, inner_left}
use Rattle.vl_members.proofs.members.+declare.Goals as goal

pub declare_by-loop-branch-init : goal.declare_by-loop-branch-init
declare_by-loop-branch-init u c = record {
  chooses = chooses_all (map plain_given c.args.given.now) (around c.args.frames.now) (view.item c.args.item.now)
      (branches_of c.as_slice-all.result.now) (else_of c.in-GenerateIf.last)
      (if_is c.args.item.now c.in-GenerateIf.branches c.as_slice-all.result.now c.in-GenerateIf.last c.in-GenerateIf.is c.as_slice-all.ensures);
  frames = refl;
  declared = refl;
}

pub declare_by-returns-then-is_generate_if : goal.declare_by-returns-then-is_generate_if
declare_by-returns-then-is_generate_if u c =
    let gs = map plain_given c.args.given.now in let a = around c.args.frames.now in let i = view.item c.args.item.now in
    let all = c.as_slice-all.result.now in let k = c.loop-branch.branch-index in let b = c.branch-item.result in
    let inner = c.get-then-is_generate_if.result.now in let at = c.loop-branch.invariant in
    let block = ap block_of c.in-Single.is ∙ ap (λ x. t.single (view.item x)) (sym c.get-then-is_generate_if.ensures) in
    let same = c.get.ensures ∙ sym c.get-then-is_generate_if.ensures in
    let holds : Some true ≡ c.in_ok-truth-in-GenerateIf.truth.holds = search (rules, c.in-Some-true.is, c.in-Some-true.field-0-is, c.in-Some-true.field-0-test) in
    let taken = ap (block_declared limits gs a) (sym block)
    ∙ here_is gs a i (branches_of (drop k all)) (branches_of (drop (k + 1) all)) (else_of c.in-GenerateIf.last) (view.place b.place) (view.expr b.condition)
    (block_of b.block) (branches-drop all k b c.loop-branch-test.true c.branch-item.is) at.chooses
    (holds ∙ c.in_ok-truth-in-GenerateIf.ensures.holds
    ∙ ap (λ f. truth_in (value_of (constants_of f) (view.expr b.condition))) at.frames) in
    on_ok c.declare_by.result
    (inner_taken gs i (view.item inner) c.args.frames.now c.loop-branch.frames c.args.declared.now.items c.loop-branch.declared.items
    at.frames (ap (λ v. v.items) at.declared) taken at.chooses.sight c.declare_by.new.frames c.declare_by.new.declared.items
    (ap (λ x. is_if (view.item x)) (sym same) ∙ sym c.is_generate_if.ensures ∙ c.if-is_generate_if.true))
    c.declare_by.ensures

pub declare_by-returns-in-Single : goal.declare_by-returns-in-Single
declare_by-returns-in-Single u c =
    let gs = map plain_given c.args.given.now in let a = around c.args.frames.now in let i = view.item c.args.item.now in
    let all = c.as_slice-all.result.now in let k = c.loop-branch.branch-index in let b = c.branch-item.result in
    let inner = c.get.result.now in let at = c.loop-branch.invariant in
    let block = ap block_of c.in-Single.is ∙ ap (λ x. t.single (view.item x)) (sym c.get.ensures) in
    let holds : Some true ≡ c.in_ok-truth-in-GenerateIf.truth.holds = search (rules, c.in-Some-true.is, c.in-Some-true.field-0-is, c.in-Some-true.field-0-test) in
    let taken = ap (block_declared limits gs a) (sym block)
    ∙ here_is gs a i (branches_of (drop k all)) (branches_of (drop (k + 1) all)) (else_of c.in-GenerateIf.last) (view.place b.place) (view.expr b.condition)
    (block_of b.block) (branches-drop all k b c.loop-branch-test.true c.branch-item.is) at.chooses
    (holds ∙ c.in_ok-truth-in-GenerateIf.ensures.holds
    ∙ ap (λ f. truth_in (value_of (constants_of f) (view.expr b.condition))) at.frames) in
    inner_left gs i (view.item inner) c.args.frames.now c.loop-branch.frames c.args.declared.now.items c.loop-branch.declared.items
    at.frames (ap (λ v. v.items) at.declared) taken at.chooses.sight (sym c.is_generate_if.ensures ∙ c.if-is_generate_if.false)

pub declare_by-returns-then-is_generate_if-2 : goal.declare_by-returns-then-is_generate_if-2
declare_by-returns-then-is_generate_if-2 u c =
    let gs = map plain_given c.args.given.now in let a = around c.args.frames.now in let i = view.item c.args.item.now in
    let all = c.as_slice-all.result.now in let k = c.loop-branch.branch-index in
    let inner = c.get-then-is_generate_if-2.result.now in let at = c.loop-branch.invariant in
    let block = ap block_of c.in-Single-block.is ∙ ap (λ x. t.single (view.item x)) (sym c.get-then-is_generate_if-2.ensures) in
    let same = c.get-in-Single-block.ensures ∙ sym c.get-then-is_generate_if-2.ensures in
    let taken = last_is gs a i (branches_of (drop k all)) (else_of c.in-GenerateIf.last) (t.single (view.item inner))
    (ap branches_of (drop_all k all c.loop-branch-test.false)) (ap else_of c.in-Some.is ∙ ap t.generate_else block) at.chooses in
    on_ok c.declare_by-then-is_generate_if-2.result
    (inner_taken gs i (view.item inner) c.args.frames.now c.loop-branch.frames c.args.declared.now.items c.loop-branch.declared.items
    at.frames (ap (λ v. v.items) at.declared) taken at.chooses.sight
    c.declare_by-then-is_generate_if-2.new.frames c.declare_by-then-is_generate_if-2.new.declared.items
    (ap (λ x. is_if (view.item x)) (sym same) ∙ sym c.is_generate_if-in-Single-block.ensures ∙ c.if-is_generate_if-2.true))
    c.declare_by-then-is_generate_if-2.ensures

pub declare_by-returns-in-Region : goal.declare_by-returns-in-Region
declare_by-returns-in-Region u c =
    let gs = map plain_given c.args.given.now in let all = items_of c.as_slice.result.now in let p = view.place c.in-Region.field-0 in
    let was = c.args.frames.now in let old = c.args.declared.now.items in
    on_ok c.declare_items.result
    (λ h. declares_same (view.item c.args.item.now) (t.region p all) gs was c.declare_items.new.frames old c.declare_items.new.declared.items
    (region_is c.args.item.now c.in-Region.field-0 c.in-Region.items c.as_slice.result.now c.in-Region.is c.as_slice.ensures)
    (region_declares gs p all was c.declare_items.new.frames old c.declare_items.new.declared.items h))
    c.declare_items.ensures

pub declare_by-returns-in-GenerateLoop : goal.declare_by-returns-in-GenerateLoop
declare_by-returns-in-GenerateLoop u c =
    let gs = map plain_given c.args.given.now in let p = view.place c.in-GenerateLoop.field-0 in let l = view.loop c.in-GenerateLoop.header in
    let b = block_of c.in-GenerateLoop.block in let was = c.args.frames.now in let old = c.args.declared.now.items in
    on_ok c.declare_loop.result
    (λ h. declares_same (view.item c.args.item.now) (t.generate_loop p l b) gs was c.declare_loop.new.frames old c.declare_loop.new.declared.items
    (loop_is c.args.item.now c.in-GenerateLoop.field-0 c.in-GenerateLoop.header c.in-GenerateLoop.block c.in-GenerateLoop.is)
    (loop_adds gs p l b was c.declare_loop.new.frames old c.declare_loop.new.declared.items h))
    c.declare_loop.ensures
