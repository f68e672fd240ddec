use Rattle.std.proofs.Common.{ℕ, ◌+◌, ◌||◌, List, drop, nat_eq, is_some, sym, ap, ◌∙◌, subst}
use Rattle.std.specs.Prelude.{OnOk}
use Rattle.std.specs.Cmp.Lexicographic.{pointwise}
use Rattle.indexmap.specs.IndexMap.{get}
use Rattle.vl_design.specs.Walk.{instantiates, block_instantiates, branches_instantiate, else_instantiates}
use Rattle.vl_views.specs.Blocks.{block_of, branches_of, else_of}
use Rattle.vl_views.proofs.ItemViews.{branches-drop, region_is, loop_is, if_is}
use Rattle.vl_top.specs.Names.{Gathers}
use Rattle.vl_top.proofs.Gathering.{or_none, branch_on, ended, of_single, of_several, on_ok}
use Rattle.vl_top.proofs.used.+gather.Goals as goal
use Rattle.vl_top.proofs.used.+gather.Goals.{gather-in-Single-block+in_ok-gather-in-Single-block, gather-in-Several-block+in_ok-gather_items-in-Several-block}

pub gather-loop-branch-init : goal.gather-loop-branch-init
gather-loop-branch-init t c =
    let is = if_is c.args.item.now c.in-GenerateIf.branches c.as_slice-all.result.now c.in-GenerateIf.last c.in-GenerateIf.is c.as_slice-all.ensures in
    λ x. ap (λ i. is_some (get (pointwise nat_eq) c.args.used.now x) || instantiates x i) (sym is)

pub gather-loop-branch-preserved : goal.gather-loop-branch-preserved
gather-loop-branch-preserved t c =
    let all = c.as_slice-all.result.now in let k = c.loop-branch.branch-index in let b = c.branch-item.result in
    let old : List ℕ → _ = get (pointwise nat_eq) c.loop-branch.used in
    let new : List ℕ → _ = get (pointwise nat_eq) c.match-branch-2.used in
    let e = branches-drop all k b c.loop-branch-test.true c.branch-item.is in
    let rest : List ℕ → _ = λ x. branches_instantiate x (branches_of (drop (k + 1) all)) in
    let last : List ℕ → _ = λ x. else_instantiates x (else_of c.in-GenerateIf.last) in
    let gathered : Gathers old new (λ x. block_instantiates x (block_of b.block)) = elim c.match-branch-2.branch [
      | gather-in-Single-block+in_ok-gather-in-Single-block w ↦
          subst (λ m. Gathers old (get (pointwise nat_eq) m) (λ x. block_instantiates x (block_of b.block))) (sym w.used-is)
          (subst (λ f. Gathers old (get (pointwise nat_eq) w.gather-in-Single-block.new.used) f)
          (of_single b.block w.in-Single-block.inner w.get-in-Single-block.result.now w.in-Single-block.is w.get-in-Single-block.ensures)
          w.in_ok-gather-in-Single-block.ensures)
      | gather-in-Several-block+in_ok-gather_items-in-Several-block w ↦
          subst (λ m. Gathers old (get (pointwise nat_eq) m) (λ x. block_instantiates x (block_of b.block))) (sym w.used-is)
          (subst (λ f. Gathers old (get (pointwise nat_eq) w.gather_items-in-Several-block.new.used) f)
          (of_several b.block w.in-Several-block.items w.as_slice-in-Several-block.result.now
          (λ x. ap (λ y. block_instantiates x (block_of y)) (sym w.in-Several-block.is)) w.as_slice-in-Several-block.ensures)
          w.in_ok-gather_items-in-Several-block.ensures)
    ] in
    branch_on old new (λ x. block_instantiates x (block_of b.block)) rest last _ gathered
    (λ x. ap (λ bs. is_some (old x) || (branches_instantiate x bs || last x)) (sym e) ∙ c.loop-branch.invariant x)

pub gather-returns-in-Region : goal.gather-returns-in-Region
gather-returns-in-Region t c =
    let is = region_is c.args.item.now c.in-Region.field-0 c.in-Region.items c.as_slice.result.now c.in-Region.is c.as_slice.ensures in
    subst (λ i. OnOk c.gather_items.result (Gathers (get (pointwise nat_eq) c.args.used.now) (get (pointwise nat_eq) c.gather_items.new.used) (λ x. instantiates x i)))
    (sym is) c.gather_items.ensures

pub gather-returns-in-Single : goal.gather-returns-in-Single
gather-returns-in-Single t c =
    let is = loop_is c.args.item.now c.in-GenerateLoop.field-0 c.in-GenerateLoop.field-1 c.in-GenerateLoop.block c.in-GenerateLoop.is in
    subst (λ f. OnOk c.gather.result (Gathers (get (pointwise nat_eq) c.args.used.now) (get (pointwise nat_eq) c.gather.new.used) f))
    (of_single c.in-GenerateLoop.block c.in-Single.inner c.get.result.now c.in-Single.is c.get.ensures ∙ (λ i x. instantiates x (sym is i)))
    c.gather.ensures

pub gather-returns-in-Several : goal.gather-returns-in-Several
gather-returns-in-Several t c =
    let is = loop_is c.args.item.now c.in-GenerateLoop.field-0 c.in-GenerateLoop.field-1 c.in-GenerateLoop.block c.in-GenerateLoop.is in
    subst (λ f. OnOk c.gather_items-in-Several.result (Gathers (get (pointwise nat_eq) c.args.used.now) (get (pointwise nat_eq) c.gather_items-in-Several.new.used) f))
    (of_several c.in-GenerateLoop.block c.in-Several.items c.as_slice-in-Several.result.now
    (λ x. ap (λ y. block_instantiates x (block_of y)) (sym c.in-Several.is)) c.as_slice-in-Several.ensures ∙ (λ i x. instantiates x (sym is i)))
    c.gather_items-in-Several.ensures

pub gather-returns-in-None : goal.gather-returns-in-None
gather-returns-in-None t c =
    let used : List ℕ → _ = get (pointwise nat_eq) c.loop-branch.used in
    λ x. or_none (is_some (used x))
    ∙ ap (λ o. is_some (used x) || else_instantiates x (else_of o)) (sym c.in-None.is)
    ∙ ended used c.as_slice-all.result.now c.loop-branch.branch-index c.in-GenerateIf.last _ c.loop-branch-test.false c.loop-branch.invariant x

pub gather-returns-in-Single-block-2 : goal.gather-returns-in-Single-block-2
gather-returns-in-Single-block-2 t c =
    let used : List ℕ → _ = get (pointwise nat_eq) c.loop-branch.used in
    let p = of_single c.in-Some.block c.in-Single-block-2.inner c.get-in-Single-block-2.result.now c.in-Single-block-2.is c.get-in-Single-block-2.ensures in
    on_ok c.gather-in-Single-block-2.result
    (λ g x. g x ∙ ap (λ f. is_some (used x) || f x) p
    ∙ ap (λ o. is_some (used x) || else_instantiates x (else_of o)) (sym c.in-Some.is)
    ∙ ended used c.as_slice-all.result.now c.loop-branch.branch-index c.in-GenerateIf.last _ c.loop-branch-test.false c.loop-branch.invariant x)
    c.gather-in-Single-block-2.ensures

pub gather-returns-in-Several-block-2 : goal.gather-returns-in-Several-block-2
gather-returns-in-Several-block-2 t c =
    let used : List ℕ → _ = get (pointwise nat_eq) c.loop-branch.used in
    let p = of_several c.in-Some.block c.in-Several-block-2.items c.as_slice-in-Several-block-2.result.now
    (λ x. ap (λ y. block_instantiates x (block_of y)) (sym c.in-Several-block-2.is)) c.as_slice-in-Several-block-2.ensures in
    on_ok c.gather_items-in-Several-block-2.result
    (λ g x. g x ∙ ap (λ f. is_some (used x) || f x) p
    ∙ ap (λ o. is_some (used x) || else_instantiates x (else_of o)) (sym c.in-Some.is)
    ∙ ended used c.as_slice-all.result.now c.loop-branch.branch-index c.in-GenerateIf.last _ c.loop-branch-test.false c.loop-branch.invariant x)
    c.gather_items-in-Several-block-2.ensures
