use Rattle.std.proofs.Common.{◌≡◌, ◌+◌, true, false, refl, sym, ap, ◌∙◌, drop, length, ◌∷◌}
use Rattle.std.proofs.lemmas.List.{drop_more, drop_all}
use Rattle.vl_tree.specs.SyntaxView as view
use Rattle.vl_tree.specs.Depth.{one_if}
use Rattle.vl_width.specs.Lists.{exprs_of, links_of, choices_of}
use Rattle.vl_tokens.specs.Counted.{capped, expr_tokens, listed, links_tokens, choices_tokens, selects_tokens, select_tokens}
use Rattle.vl_tokens.proofs.Counting.{sums, none_counted, one_more, all_counted}
use Rattle.vl_tokens.proofs.Parts.{none_listed, more_listed, more_linked, more_chosen, more_selected, pair_tokens, of_number, of_read, of_call, of_system, of_group, of_concat, of_repeat, of_unary, of_chain, of_choose}
use Rattle.vl_tokens.proofs.expression.+expr.Goals as goal
use Rattle.vl_tokens.proofs.expression.+expr.Goals.{selects-in-Index, selects-in-Part, selects-in-Upward, selects-in-Downward}

pub expr-returns-in-Number : goal.expr-returns-in-Number
expr-returns-in-Number t c = ap capped (of_number c.args.e.now c.in-Number.field-0 c.in-Number.field-1 c.in-Number.is)

pub expr-returns-in-Read : goal.expr-returns-in-Read
expr-returns-in-Read t c =
    sums 1 (selects_tokens (view.read_selects c.in-Read.all)) c.plus.ensures refl
    (c.selects.ensures ∙ ap (λ ss. capped (selects_tokens (view.read_selects ss))) c.as_slice.ensures)
    ∙ ap capped (of_read c.args.e.now c.in-Read.field-0 c.in-Read.all c.in-Read.is)

pub expr-returns-in-Call : goal.expr-returns-in-Call
expr-returns-in-Call t c =
    sums 3 (listed false (exprs_of c.in-Call.all)) c.plus-in-Call.ensures refl
    (c.in_commas.ensures ∙ ap (λ es. capped (listed false (exprs_of es))) c.as_slice-in-Call.ensures)
    ∙ ap capped (of_call c.args.e.now c.in-Call.field-0 c.in-Call.all c.in-Call.is)

pub expr-returns-in-System : goal.expr-returns-in-System
expr-returns-in-System t c =
    sums 3 (expr_tokens (view.expr c.in-System.operand)) c.plus-in-System.ensures refl
    (c.expr.ensures ∙ ap (λ e. capped (expr_tokens (view.expr e))) c.get.ensures)
    ∙ ap capped (of_system c.args.e.now c.in-System.field-0 c.in-System.field-1 c.in-System.operand c.in-System.is)

pub expr-returns-in-Group : goal.expr-returns-in-Group
expr-returns-in-Group t c =
    sums 2 (expr_tokens (view.expr c.in-Group.inner)) c.plus-in-Group.ensures refl
    (c.expr-in-Group.ensures ∙ ap (λ e. capped (expr_tokens (view.expr e))) c.get-in-Group.ensures)
    ∙ ap capped (of_group c.args.e.now c.in-Group.field-0 c.in-Group.inner c.in-Group.is)

pub expr-returns-in-Concat : goal.expr-returns-in-Concat
expr-returns-in-Concat t c =
    sums 2 (listed false (exprs_of c.in-Concat.all)) c.plus-in-Concat.ensures refl
    (c.in_commas-in-Concat.ensures ∙ ap (λ es. capped (listed false (exprs_of es))) c.as_slice-in-Concat.ensures)
    ∙ ap capped (of_concat c.args.e.now c.in-Concat.field-0 c.in-Concat.all c.in-Concat.is)

pub expr-returns-in-Repeat : goal.expr-returns-in-Repeat
expr-returns-in-Repeat t c =
    let n = expr_tokens (view.expr c.in-Repeat.count) in let es = listed false (exprs_of c.in-Repeat.all) in
    sums 4 (n + es) c.plus-in-Repeat-2.ensures refl
    (sums n es c.plus-in-Repeat.ensures (c.expr-in-Repeat.ensures ∙ ap (λ e. capped (expr_tokens (view.expr e))) c.get-in-Repeat.ensures)
    (c.in_commas-inner.ensures ∙ ap (λ xs. capped (listed false (exprs_of xs))) c.as_slice-in-Repeat.ensures))
    ∙ ap capped (of_repeat c.args.e.now c.in-Repeat.field-0 c.in-Repeat.count c.in-Repeat.all c.in-Repeat.is)

pub expr-returns-in-Unary : goal.expr-returns-in-Unary
expr-returns-in-Unary t c =
    sums 1 (expr_tokens (view.expr c.in-Unary.operand)) c.plus-in-Unary.ensures refl
    (c.expr-in-Unary.ensures ∙ ap (λ e. capped (expr_tokens (view.expr e))) c.get-in-Unary.ensures)
    ∙ ap capped (of_unary c.args.e.now c.in-Unary.field-0 c.in-Unary.field-1 c.in-Unary.operand c.in-Unary.is)

pub expr-returns-in-Chain : goal.expr-returns-in-Chain
expr-returns-in-Chain t c =
    sums (expr_tokens (view.expr c.in-Chain.first)) (links_tokens (links_of c.in-Chain.all)) c.plus-in-Chain.ensures
    (c.expr-in-Chain.ensures ∙ ap (λ e. capped (expr_tokens (view.expr e))) c.get-in-Chain.ensures)
    (c.links.ensures ∙ ap (λ ls. capped (links_tokens (links_of ls))) c.as_slice-in-Chain.ensures)
    ∙ ap capped (of_chain c.args.e.now c.in-Chain.first c.in-Chain.all c.in-Chain.is)

pub expr-returns-in-Choose : goal.expr-returns-in-Choose
expr-returns-in-Choose t c =
    sums (choices_tokens (choices_of c.in-Choose.all)) (expr_tokens (view.expr c.in-Choose.last)) c.plus-in-Choose.ensures
    (c.choices.ensures ∙ ap (λ cs. capped (choices_tokens (choices_of cs))) c.as_slice-in-Choose.ensures)
    (c.expr-in-Choose.ensures ∙ ap (λ e. capped (expr_tokens (view.expr e))) c.get-in-Choose.ensures)
    ∙ ap capped (of_choose c.args.e.now c.in-Choose.all c.in-Choose.last c.in-Choose.is)

pub in_commas-loop-e-init : goal.in_commas-loop-e-init
in_commas-loop-e-init t c = none_counted (listed c.args.first (exprs_of c.args.all.now))

pub in_commas-loop-e-preserved : goal.in_commas-loop-e-preserved
in_commas-loop-e-preserved t c =
    let xs = c.args.all.now in let k = c.loop-e.e-index in let x = c.e-item.result in
    let e : drop k xs ≡ x ∷ drop (k + 1) xs = drop_more xs k x c.loop-e-test.true ∙ ap (λ y. y ∷ drop (k + 1) xs) (sym c.e-item.is) in
    one_more (length (one_if 0 c.loop-e.comma) + expr_tokens (view.expr x)) (listed true (exprs_of (drop (k + 1) xs))) c.loop-e.invariant c.plus-count.ensures
    (sums (length (one_if 0 c.loop-e.comma)) (expr_tokens (view.expr x)) c.plus-one.ensures c.one_where.ensures c.expr.ensures)
    (ap (λ ys. listed c.loop-e.comma (exprs_of ys)) e ∙ more_listed c.loop-e.comma (view.expr x) (exprs_of (drop (k + 1) xs)))

pub in_commas-returns : goal.in_commas-returns
in_commas-returns t c = all_counted c.loop-e.invariant
    (ap (λ ys. listed c.loop-e.comma (exprs_of ys)) (drop_all c.loop-e.e-index c.args.all.now c.loop-e-test.false) ∙ none_listed c.loop-e.comma)

pub links-loop-link-init : goal.links-loop-link-init
links-loop-link-init t c = none_counted (links_tokens (links_of c.args.all.now))

pub links-loop-link-preserved : goal.links-loop-link-preserved
links-loop-link-preserved t c =
    let xs = c.args.all.now in let k = c.loop-link.link-index in let x = c.link-item.result in
    let e : drop k xs ≡ x ∷ drop (k + 1) xs = drop_more xs k x c.loop-link-test.true ∙ ap (λ y. y ∷ drop (k + 1) xs) (sym c.link-item.is) in
    one_more (1 + expr_tokens (view.expr x.operand)) (links_tokens (links_of (drop (k + 1) xs))) c.loop-link.invariant c.plus-count.ensures
    (sums 1 (expr_tokens (view.expr x.operand)) c.plus-one.ensures refl c.expr.ensures)
    (ap (λ ys. links_tokens (links_of ys)) e ∙ more_linked x.operator (view.place x.place) (view.expr x.operand) (links_of (drop (k + 1) xs)))

pub links-returns : goal.links-returns
links-returns t c = all_counted c.loop-link.invariant
    (ap (λ ys. links_tokens (links_of ys)) (drop_all c.loop-link.link-index c.args.all.now c.loop-link-test.false))

pub choices-loop-choice-init : goal.choices-loop-choice-init
choices-loop-choice-init t c = none_counted (choices_tokens (choices_of c.args.all.now))

pub choices-loop-choice-preserved : goal.choices-loop-choice-preserved
choices-loop-choice-preserved t c =
    let xs = c.args.all.now in let k = c.loop-choice.choice-index in let x = c.choice-item.result in
    let e : drop k xs ≡ x ∷ drop (k + 1) xs = drop_more xs k x c.loop-choice-test.true ∙ ap (λ y. y ∷ drop (k + 1) xs) (sym c.choice-item.is) in
    one_more (expr_tokens (view.expr x.condition) + (2 + expr_tokens (view.expr x.value))) (choices_tokens (choices_of (drop (k + 1) xs))) c.loop-choice.invariant c.plus-count.ensures
    (sums (expr_tokens (view.expr x.condition)) (2 + expr_tokens (view.expr x.value)) c.plus-one.ensures c.expr-in-loop-choice.ensures
    (sums 2 (expr_tokens (view.expr x.value)) c.plus-value.ensures refl c.expr.ensures))
    (ap (λ ys. choices_tokens (choices_of ys)) e ∙ more_chosen (view.expr x.condition) (view.place x.place) (view.expr x.value) (choices_of (drop (k + 1) xs)))

pub choices-returns : goal.choices-returns
choices-returns t c = all_counted c.loop-choice.invariant
    (ap (λ ys. choices_tokens (choices_of ys)) (drop_all c.loop-choice.choice-index c.args.all.now c.loop-choice-test.false))

pub selects-loop-selected-init : goal.selects-loop-selected-init
selects-loop-selected-init t c = none_counted (selects_tokens (view.read_selects c.args.all.now))

pub selects-loop-selected-preserved : goal.selects-loop-selected-preserved
selects-loop-selected-preserved t c =
    let xs = c.args.all.now in let k = c.loop-selected.selected-index in let x = c.selected-item.result in
    let e : drop k xs ≡ x ∷ drop (k + 1) xs = drop_more xs k x c.loop-selected-test.true ∙ ap (λ y. y ∷ drop (k + 1) xs) (sym c.selected-item.is) in
    let inner : c.match-selected.inner ≡ capped (select_tokens (view.read_select x.select)) = elim c.match-selected.branch [
      | selects-in-Index w ↦ w.inner-is ∙ w.expr-inner.ensures ∙ ap capped (sym (ap (λ y. select_tokens (view.read_select y)) w.in-Index.is))
      | selects-in-Part w ↦
          w.inner-is ∙ sums (expr_tokens (view.expr w.in-Part.a)) (1 + expr_tokens (view.expr w.in-Part.b)) w.plus-inner.ensures w.expr.ensures
          (sums 1 (expr_tokens (view.expr w.in-Part.b)) w.plus.ensures refl w.expr-in-Part.ensures)
          ∙ ap capped (sym (ap (λ y. select_tokens (view.read_select y)) w.in-Part.is ∙ pair_tokens (view.expr w.in-Part.a) (view.expr w.in-Part.b)))
      | selects-in-Upward w ↦
          w.inner-is ∙ sums (expr_tokens (view.expr w.in-Upward.a)) (1 + expr_tokens (view.expr w.in-Upward.b)) w.plus-inner-in-Upward.ensures w.expr-in-Upward.ensures
          (sums 1 (expr_tokens (view.expr w.in-Upward.b)) w.plus-in-Upward.ensures refl w.expr-in-Upward-2.ensures)
          ∙ ap capped (sym (ap (λ y. select_tokens (view.read_select y)) w.in-Upward.is ∙ pair_tokens (view.expr w.in-Upward.a) (view.expr w.in-Upward.b)))
      | selects-in-Downward w ↦
          w.inner-is ∙ sums (expr_tokens (view.expr w.in-Downward.a)) (1 + expr_tokens (view.expr w.in-Downward.b)) w.plus-inner-in-Downward.ensures w.expr-in-Downward.ensures
          (sums 1 (expr_tokens (view.expr w.in-Downward.b)) w.plus-in-Downward.ensures refl w.expr-in-Downward-2.ensures)
          ∙ ap capped (sym (ap (λ y. select_tokens (view.read_select y)) w.in-Downward.is ∙ pair_tokens (view.expr w.in-Downward.a) (view.expr w.in-Downward.b)))
    ] in
    one_more (2 + select_tokens (view.read_select x.select)) (selects_tokens (view.read_selects (drop (k + 1) xs))) c.loop-selected.invariant c.plus-count.ensures
    (sums 2 (select_tokens (view.read_select x.select)) c.plus-one.ensures refl inner)
    (ap (λ ys. selects_tokens (view.read_selects ys)) e ∙ more_selected (view.place x.place) (view.read_select x.select) (view.read_selects (drop (k + 1) xs)))

pub selects-returns : goal.selects-returns
selects-returns t c = all_counted c.loop-selected.invariant
    (ap (λ ys. selects_tokens (view.read_selects ys)) (drop_all c.loop-selected.selected-index c.args.all.now c.loop-selected-test.false))
