use Rattle.std.proofs.Common.{◌≡◌, ◌+◌, true, false, refl, sym, ap, ◌∙◌, drop, length, ◌∷◌}
use Rattle.std.proofs.lemmas.List.{drop_more, drop_all}
use Rattle.vl_tree.specs.SyntaxView as view
use Rattle.vl_tree.specs.Depth.{one_if}
use Rattle.vl_tokens.specs.Counted.{capped, selects_tokens}
use Rattle.vl_tokens.specs.Statements.{target_tokens, targets_listed, targets_of}
use Rattle.vl_tokens.proofs.Counting.{sums, none_counted, one_more, all_counted}
use Rattle.vl_tokens.proofs.StatementParts.{no_targets, more_targets, of_name, of_targets}
use Rattle.vl_tokens.proofs.statement.+target.Goals as goal

pub target-returns-in-Name : goal.target-returns-in-Name
target-returns-in-Name t c =
    sums 1 (selects_tokens (view.read_selects c.in-Name.all)) c.plus.ensures refl
    (c.selects.ensures ∙ ap (λ ss. capped (selects_tokens (view.read_selects ss))) c.as_slice.ensures)
    ∙ ap capped (of_name c.args.written.now c.in-Name.field-0 c.in-Name.all c.in-Name.is)

pub target-returns-in-Targets : goal.target-returns-in-Targets
target-returns-in-Targets t c =
    sums 2 (targets_listed false (targets_of c.in-Targets.all)) c.plus-in-Targets.ensures refl
    (c.targets.ensures ∙ ap (λ xs. capped (targets_listed false (targets_of xs))) c.as_slice-in-Targets.ensures)
    ∙ ap capped (of_targets c.args.written.now c.in-Targets.field-0 c.in-Targets.all c.in-Targets.is)

pub targets-loop-written-init : goal.targets-loop-written-init
targets-loop-written-init t c = none_counted (targets_listed false (targets_of c.args.all.now))

pub targets-loop-written-preserved : goal.targets-loop-written-preserved
targets-loop-written-preserved t c =
    let xs = c.args.all.now in let k = c.loop-written.written-index in let x = c.written-item.result in
    let e : drop k xs ≡ x ∷ drop (k + 1) xs = drop_more xs k x c.loop-written-test.true ∙ ap (λ y. y ∷ drop (k + 1) xs) (sym c.written-item.is) in
    one_more (length (one_if 0 c.loop-written.comma) + target_tokens (view.target x)) (targets_listed true (targets_of (drop (k + 1) xs))) c.loop-written.invariant c.plus-count.ensures
    (sums (length (one_if 0 c.loop-written.comma)) (target_tokens (view.target x)) c.plus-one.ensures c.one_where.ensures c.target.ensures)
    (ap (λ ys. targets_listed c.loop-written.comma (targets_of ys)) e ∙ more_targets c.loop-written.comma (view.target x) (targets_of (drop (k + 1) xs)))

pub targets-returns : goal.targets-returns
targets-returns t c = all_counted c.loop-written.invariant
    (ap (λ ys. targets_listed c.loop-written.comma (targets_of ys)) (drop_all c.loop-written.written-index c.args.all.now c.loop-written-test.false) ∙ no_targets c.loop-written.comma)
