use Rattle.std.proofs.Common.{◌≡◌, ◌∷◌, [], ◌++◌, arith, ap, refl, ◌∙◌}
use Rattle.std.proofs.lemmas.Result.{err_from_is_err_and}
use Rattle.std.specs.Prelude.{Some, None}
use Rattle.vl_tree.specs.Syntax.{no_item, more_item, no_generate_branch, more_generate_branch, no_generate_else, generate_else}
use Rattle.vl_tree.specs.SyntaxView as plain
use Rattle.vl_read.proofs.Leads.{leads_on, leads_reads}
use Rattle.vl_simple.proofs.Steps.{fails_at, after_part}
use Rattle.vl_source.specs.declared.items.Structure.TheVariants as structure
use Rattle.vl_source.specs.Readers.{block_of}
use Rattle.vl_source.proofs.StartRules as rule
use Rattle.vl_source.proofs.ItemRules as rule_item
use Rattle.vl_source.proofs.BranchRules as rule_branch
use Rattle.vl_source.proofs.Views as view
use Rattle.vl_source.proofs.items.+item.Goals as goal

-- ---- an item

pub read_item-returns-in_default-clause-reads : goal.read_item-returns-in_default-clause-reads
read_item-returns-in_default-clause-reads t c =
    leads_reads (rule.plain_part c.args.depth c.args.at c.in_default.ensures.reads) plain.item plain.item (λ x. refl)
    c.read_plain_item.result c.read_plain_item.ensures.reads

pub read_item-returns-then-depth-gt-MAX_DEPTH-clause-reads : goal.read_item-returns-then-depth-gt-MAX_DEPTH-clause-reads
read_item-returns-then-depth-gt-MAX_DEPTH-clause-reads t c =
    let i : c.args.depth ≡ 201 = omega (arith, c.requires.low, c.if-depth-gt-MAX_DEPTH.true) in
    rw c.left.ensures (rule.start_sunk c.args.depth c.in-Some.structure (plain.place c.in-Some.place) c.args.at _ c.in-Some.ensures.reads i)

pub read_item-returns-in-Region-clause-reads : goal.read_item-returns-in-Region-clause-reads
read_item-returns-in-Region-clause-reads t c =
    leads_reads (rule.rest_part c.args.depth c.in-Some.structure (plain.place c.in-Some.place) c.args.at _ c.in-Some.ensures.reads
    (omega (arith, c.requires.low, c.if-depth-gt-MAX_DEPTH.false)) structure.Region c.in-Region.is) plain.item plain.item (λ x. refl)
    c.read_region.result c.read_region.ensures.reads

pub read_item-returns-in-Loop-clause-reads : goal.read_item-returns-in-Loop-clause-reads
read_item-returns-in-Loop-clause-reads t c =
    leads_reads (rule.rest_part c.args.depth c.in-Some.structure (plain.place c.in-Some.place) c.args.at _ c.in-Some.ensures.reads
    (omega (arith, c.requires.low, c.if-depth-gt-MAX_DEPTH.false)) structure.Loop c.in-Loop.is) plain.item plain.item (λ x. refl)
    c.read_generate_loop.result c.read_generate_loop.ensures.reads

pub read_item-returns-in-Choice-clause-reads : goal.read_item-returns-in-Choice-clause-reads
read_item-returns-in-Choice-clause-reads t c =
    leads_reads (rule.rest_part c.args.depth c.in-Some.structure (plain.place c.in-Some.place) c.args.at _ c.in-Some.ensures.reads
    (omega (arith, c.requires.low, c.if-depth-gt-MAX_DEPTH.false)) structure.Choice c.in-Choice.is) plain.item plain.item (λ x. refl)
    c.read_generate_if.result c.read_generate_if.ensures.reads

-- ---- items

pub read_items-loop-after-init : goal.read_items-loop-after-init
read_items-loop-after-init t c = record {
  took = λ is rest p. rw c.new-items.ensures p;
  fails = λ e r. r;
  shorter = omega arith;
}

pub read_items-returns-in-Some-clause-reads : goal.read_items-returns-in-Some-clause-reads
read_items-returns-in-Some-clause-reads t c =
    c.loop-after.invariant.took no_item _ (rule_item.last_took c.args.last c.requires.closing c.args.depth c.requires.low _
    c.loop-after.rest _ c.in-Some.ensures.reads)

pub read_items-returns-in_err-item-in-None-clause-reads : goal.read_items-returns-in_err-item-in-None-clause-reads
read_items-returns-in_err-item-in-None-clause-reads t c =
    let p = err_from_is_err_and c.from_residual.result c.from_residual.ensures.1 in
    rw (p.1, p.2) (c.loop-after.invariant.fails c.in_err-item-in-None.field-0.0
    (fails_at (rule_item.item_next c.args.last c.requires.closing c.args.depth)
    (rule_item.more_part c.args.last c.requires.closing c.args.depth c.loop-after.rest c.in-None.ensures.reads)
    c.in_err-item-in-None.field-0.0 c.in_err-item-in-None.ensures.reads))

pub read_items-loop-after-preserved : goal.read_items-loop-after-preserved
read_items-loop-after-preserved t c =
    let k =
    (after_part (rule_item.item_next c.args.last c.requires.closing c.args.depth)
    (rule_item.more_part c.args.last c.requires.closing c.args.depth c.loop-after.rest c.in-None.ensures.reads) _ _
    c.in_ok-item-in-None.ensures.reads) in
    let e : c.push.new.self ≡ c.loop-after.items ++ c.in_ok-item-in-None.item ∷ [] = c.in_ok-push-in-None.ensures.ok in
    record {
      took = λ is rest p. rw (e, view.items_on-one) (c.loop-after.invariant.took
          (more_item (plain.item c.in_ok-item-in-None.item) is) rest (k.took is rest p));
      fails = λ e r. c.loop-after.invariant.fails e (k.fails e r);
      shorter = omega (arith, c.in_ok-item-in-None.ensures.shorter, c.loop-after.invariant.shorter);
    }

-- ---- regions

pub read_region-returns-in_err-items-clause-reads : goal.read_region-returns-in_err-items-clause-reads
read_region-returns-in_err-items-clause-reads t c =
    let p = err_from_is_err_and c.from_residual.result c.from_residual.ensures.1 in
    rw (p.1, p.2) ((rule_item.region_part c.args.depth (plain.place c.args.place) c.args.at).fails c.in_err-items.field-0.0
    c.in_err-items.ensures.reads)

pub read_region-returns-clause-reads : goal.read_region-returns-clause-reads
read_region-returns-clause-reads t c =
    rw (view.item-region c.args.place c.in_ok-items.items)
    ((rule_item.region_part c.args.depth (plain.place c.args.place) c.args.at).took _ _ c.in_ok-items.ensures.reads)

-- ---- loops

pub read_generate_loop-returns-in_err-header-clause-reads : goal.read_generate_loop-returns-in_err-header-clause-reads
read_generate_loop-returns-in_err-header-clause-reads t c =
    let p = err_from_is_err_and c.from_residual.result c.from_residual.ensures.1 in
    rw (p.1, p.2) (fails_at (rule_item.header_next c.args.depth (plain.place c.args.place))
    (rule_item.loop_parts c.args.depth (plain.place c.args.place) c.args.at) c.in_err-header.field-0.0 c.in_err-header.ensures.reads)

pub read_generate_loop-returns-in_err-block-clause-reads : goal.read_generate_loop-returns-in_err-block-clause-reads
read_generate_loop-returns-in_err-block-clause-reads t c =
    let p = err_from_is_err_and c.from_residual-in_err-block.result c.from_residual-in_err-block.ensures.1 in
    rw (p.1, p.2) ((after_part (rule_item.header_next c.args.depth (plain.place c.args.place))
    (rule_item.loop_parts c.args.depth (plain.place c.args.place) c.args.at) _ _ c.in_ok-header.ensures.reads).fails
    c.in_err-block.field-0.0 c.in_err-block.ensures.reads)

pub read_generate_loop-returns-clause-reads : goal.read_generate_loop-returns-clause-reads
read_generate_loop-returns-clause-reads t c =
    rw (view.item-loop c.args.place c.in_ok-header.header c.in_ok-block.block)
    ((after_part (rule_item.header_next c.args.depth (plain.place c.args.place))
    (rule_item.loop_parts c.args.depth (plain.place c.args.place) c.args.at) _ _ c.in_ok-header.ensures.reads).took _ _
    c.in_ok-block.ensures.reads)

-- ---- choices

pub read_generate_if-returns-in_err-first-clause-reads : goal.read_generate_if-returns-in_err-first-clause-reads
read_generate_if-returns-in_err-first-clause-reads t c =
    let p = err_from_is_err_and c.from_residual.result c.from_residual.ensures.1 in
    rw (p.1, p.2) (fails_at (rule_branch.branch_next c.args.depth (plain.place c.args.place))
    (rule_branch.choice_parts c.args.depth (plain.place c.args.place) c.args.at) c.in_err-first.field-0.0 c.in_err-first.ensures.reads)

pub read_generate_if-loop-after-init : goal.read_generate_if-loop-after-init
read_generate_if-loop-after-init t c =
    let k =
    (after_part (rule_branch.branch_next c.args.depth (plain.place c.args.place))
    (rule_branch.choice_parts c.args.depth (plain.place c.args.place) c.args.at) _ _ c.in_ok-first.ensures.reads) in
    let e : c.push.new.self ≡ c.in_ok-first.first ∷ [] = c.in_ok-push.ensures.ok ∙ ap (λ w. w ++ c.in_ok-first.first ∷ [])
    c.new-branches.ensures in
    record {
      took = λ bs o rest p. rw e (k.took (bs, o) rest p);
      fails = k.fails;
      shorter = c.in_ok-first.ensures.shorter;
    }

pub read_generate_if-returns-in_default-clause-reads : goal.read_generate_if-returns-in_default-clause-reads
read_generate_if-returns-in_default-clause-reads t c =
    rw (view.item-if c.loop-after.branches None)
    (c.loop-after.invariant.took no_generate_branch no_generate_else _
    (rule_branch.others_none c.args.depth c.loop-after.rest (rule_branch.not_else c.loop-after.rest c.in_default.ensures.reads)))

pub read_generate_if-returns-in_err-branch-in-Some-find_key-clause-reads :
    goal.read_generate_if-returns-in_err-branch-in-Some-find_key-clause-reads
read_generate_if-returns-in_err-branch-in-Some-find_key-clause-reads t c =
    let p =
    err_from_is_err_and c.from_residual-in_err-branch-in-Some-find_key.result
    c.from_residual-in_err-branch-in-Some-find_key.ensures.1 in
    rw (p.1, p.2) (c.loop-after.invariant.fails c.in_err-branch-in-Some-find_key.field-0.0
    (fails_at (rule_branch.branch_next c.args.depth (plain.place c.in-Some-find_key.place))
    (leads_on (rule_branch.next_part c.args.depth c.requires.low _ (plain.place c.in-Some-find_key.place) _ _
    c.in-Some-find_key.ensures.reads) (rule_branch.else_part c.args.depth c.requires.low _ c.loop-after.rest _
    c.in-Some.ensures.reads)) c.in_err-branch-in-Some-find_key.field-0.0 c.in_err-branch-in-Some-find_key.ensures.reads))

pub read_generate_if-loop-after-preserved : goal.read_generate_if-loop-after-preserved
read_generate_if-loop-after-preserved t c =
    let k =
    (after_part (rule_branch.branch_next c.args.depth (plain.place c.in-Some-find_key.place))
    (leads_on (rule_branch.next_part c.args.depth c.requires.low _ (plain.place c.in-Some-find_key.place) _ _
    c.in-Some-find_key.ensures.reads) (rule_branch.else_part c.args.depth c.requires.low _ c.loop-after.rest _
    c.in-Some.ensures.reads)) _ _ c.in_ok-branch-in-Some-find_key.ensures.reads) in
    let e : c.push-in-Some-find_key.new.self ≡ c.loop-after.branches ++ c.in_ok-branch-in-Some-find_key.branch ∷ [] =
    c.in_ok-push-in-Some-find_key.ensures.ok in
    record {
      took = λ bs o rest p. rw (e, view.branches_on-one)
          (c.loop-after.invariant.took (more_generate_branch (plain.place c.in_ok-branch-in-Some-find_key.branch.place)
          (plain.expr c.in_ok-branch-in-Some-find_key.branch.condition) (block_of c.in_ok-branch-in-Some-find_key.branch.block) bs) o rest
          (k.took (bs, o) rest p));
      fails = λ e r. c.loop-after.invariant.fails e (k.fails e r);
      shorter = omega (
        arith,
        c.in-Some.ensures.shorter,
        c.in-Some-find_key.ensures.shorter,
        c.in_ok-branch-in-Some-find_key.ensures.shorter,
        c.loop-after.invariant.shorter,
      );
    }

pub read_generate_if-returns-in_err-block-in-None-clause-reads : goal.read_generate_if-returns-in_err-block-in-None-clause-reads
read_generate_if-returns-in_err-block-in-None-clause-reads t c =
    let p = err_from_is_err_and c.from_residual-in_err-block-in-None.result c.from_residual-in_err-block-in-None.ensures.1 in
    rw (p.1, p.2) (c.loop-after.invariant.fails c.in_err-block-in-None.field-0.0
    ((leads_on (rule_branch.last_part c.args.depth _ _ c.in-None.ensures.reads)
    (rule_branch.else_part c.args.depth c.requires.low _ c.loop-after.rest _ c.in-Some.ensures.reads)).fails
    c.in_err-block-in-None.field-0.0 c.in_err-block-in-None.ensures.reads))

pub read_generate_if-returns-in-None-clause-reads : goal.read_generate_if-returns-in-None-clause-reads
read_generate_if-returns-in-None-clause-reads t c =
    rw (view.item-if c.loop-after.branches (Some c.in_ok-block-in-None.block))
    (c.loop-after.invariant.took no_generate_branch (generate_else (block_of c.in_ok-block-in-None.block)) _
    ((leads_on (rule_branch.last_part c.args.depth _ _ c.in-None.ensures.reads)
    (rule_branch.else_part c.args.depth c.requires.low _ c.loop-after.rest _ c.in-Some.ensures.reads)).took _ _
    c.in_ok-block-in-None.ensures.reads))

-- ---- branches

pub read_generate_branch-returns-in_err-condition-clause-reads : goal.read_generate_branch-returns-in_err-condition-clause-reads
read_generate_branch-returns-in_err-condition-clause-reads t c =
    let p = err_from_is_err_and c.from_residual.result c.from_residual.ensures.1 in
    rw (p.1, p.2) (fails_at (rule_branch.condition_next c.args.depth)
    (rule_branch.branch_parts c.args.depth (plain.place c.args.place) c.args.at) c.in_err-condition.field-0.0
    c.in_err-condition.ensures.reads)

pub read_generate_branch-returns-in_err-block-clause-reads : goal.read_generate_branch-returns-in_err-block-clause-reads
read_generate_branch-returns-in_err-block-clause-reads t c =
    let p = err_from_is_err_and c.from_residual-in_err-block.result c.from_residual-in_err-block.ensures.1 in
    rw (p.1, p.2) ((after_part (rule_branch.condition_next c.args.depth)
    (rule_branch.branch_parts c.args.depth (plain.place c.args.place) c.args.at) _ _ c.in_ok-condition.ensures.reads).fails
    c.in_err-block.field-0.0 c.in_err-block.ensures.reads)

pub read_generate_branch-returns-clause-reads : goal.read_generate_branch-returns-clause-reads
read_generate_branch-returns-clause-reads t c =
    (after_part (rule_branch.condition_next c.args.depth)
    (rule_branch.branch_parts c.args.depth (plain.place c.args.place) c.args.at) _ _ c.in_ok-condition.ensures.reads).took _ _
    c.in_ok-block.ensures.reads

-- ---- blocks

pub read_generate_block-returns-in_err-item-in-None-clause-reads : goal.read_generate_block-returns-in_err-item-in-None-clause-reads
read_generate_block-returns-in_err-item-in-None-clause-reads t c =
    let p = err_from_is_err_and c.from_residual.result c.from_residual.ensures.1 in
    rw (p.1, p.2) ((rule_item.single_part c.args.depth c.args.at c.in-None.ensures.reads).fails c.in_err-item-in-None.field-0.0
    c.in_err-item-in-None.ensures.reads)

pub read_generate_block-returns-in_ok-item-in-None-2-clause-reads : goal.read_generate_block-returns-in_ok-item-in-None-2-clause-reads
read_generate_block-returns-in_ok-item-in-None-2-clause-reads t c =
    let s : c.in_ok-item-in-None-2.item ≡ c.in_ok-item-in-None.item = c.in_ok-item-in-None-2.ensures in
    rw s ((rule_item.single_part c.args.depth c.args.at c.in-None.ensures.reads).took _ _ c.in_ok-item-in-None.ensures.reads)

pub read_generate_block-returns-then-depth-gt-MAX_DEPTH-clause-reads : goal.read_generate_block-returns-then-depth-gt-MAX_DEPTH-clause-reads
read_generate_block-returns-then-depth-gt-MAX_DEPTH-clause-reads t c =
    let i : c.args.depth ≡ 201 = omega (arith, c.requires.low, c.if-depth-gt-MAX_DEPTH.true) in
    rw c.left.ensures (rule_item.begin_sunk c.args.depth (plain.place c.in-Some.place) c.args.at _ c.in-Some.ensures.reads i)

pub read_generate_block-returns-in_err-label-in-Some-clause-reads : goal.read_generate_block-returns-in_err-label-in-Some-clause-reads
read_generate_block-returns-in_err-label-in-Some-clause-reads t c =
    let p = err_from_is_err_and c.from_residual-in_err-label-in-Some.result c.from_residual-in_err-label-in-Some.ensures.1 in
    rw (p.1, p.2) (fails_at (rule_item.label_next c.args.depth)
    (rule_item.several_part c.args.depth (plain.place c.in-Some.place) c.args.at _ c.in-Some.ensures.reads
    (omega (arith, c.requires.low, c.if-depth-gt-MAX_DEPTH.false))) c.in_err-label-in-Some.field-0.0 c.in_err-label-in-Some.ensures.reads)

pub read_generate_block-returns-in_err-items-in-Some-clause-reads : goal.read_generate_block-returns-in_err-items-in-Some-clause-reads
read_generate_block-returns-in_err-items-in-Some-clause-reads t c =
    let p = err_from_is_err_and c.from_residual-in_err-items-in-Some.result c.from_residual-in_err-items-in-Some.ensures.1 in
    rw (p.1, p.2) ((after_part (rule_item.label_next c.args.depth)
    (rule_item.several_part c.args.depth (plain.place c.in-Some.place) c.args.at _ c.in-Some.ensures.reads
    (omega (arith, c.requires.low, c.if-depth-gt-MAX_DEPTH.false))) _ _ c.in_ok-label-in-Some.ensures.reads).fails
    c.in_err-items-in-Some.field-0.0 c.in_err-items-in-Some.ensures.reads)

pub read_generate_block-returns-in_ok-items-in-Some-clause-reads : goal.read_generate_block-returns-in_ok-items-in-Some-clause-reads
read_generate_block-returns-in_ok-items-in-Some-clause-reads t c =
    (after_part (rule_item.label_next c.args.depth)
    (rule_item.several_part c.args.depth (plain.place c.in-Some.place) c.args.at _ c.in-Some.ensures.reads
    (omega (arith, c.requires.low, c.if-depth-gt-MAX_DEPTH.false))) _ _ c.in_ok-label-in-Some.ensures.reads).took _ _
    c.in_ok-items-in-Some.ensures.reads
