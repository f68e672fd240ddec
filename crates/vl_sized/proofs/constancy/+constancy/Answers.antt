use Rattle.std.proofs.Common.{◌∙◌, sym, ap}
use Rattle.vl_tree.specs.SyntaxView as view
use Rattle.vl_value.specs.Constant as constant
use Rattle.vl_width.specs.Lists.{exprs_of, links_of, choices_of}
use Rattle.vl_width.proofs.Views.{expr-read, expr-concat, expr-repeat, expr-chain, expr-choose}
use Rattle.vl_sized.proofs.Constants.{both_hold, first_fails}
use Rattle.vl_sized.proofs.constancy.+constancy.Goals as goal

pub is_constant-returns-then-stands_for_constant : goal.is_constant-returns-then-stands_for_constant
is_constant-returns-then-stands_for_constant g t c =
    let s = g.N.Names.sight c.args.names.now in
    both_hold c.stands_for_constant.result c.are_selects.result _ _ c.if-stands_for_constant.true c.stands_for_constant.ensures
    (c.are_selects.ensures ∙ ap (λ ks. constant.selects_constant s (view.read_selects ks)) c.as_slice.ensures)
    ∙ sym (ap (λ e. constant.is_constant s (view.expr e)) c.in-Read.is ∙ ap (constant.is_constant s) (expr-read c.in-Read.name c.in-Read.selects))

pub is_constant-returns-in-Concat : goal.is_constant-returns-in-Concat
is_constant-returns-in-Concat g t c =
    let s = g.N.Names.sight c.args.names.now in
    c.are_constant.ensures ∙ ap (λ es. constant.all_constant s (exprs_of es)) c.as_slice-in-Concat.ensures
    ∙ sym (ap (λ e. constant.is_constant s (view.expr e)) c.in-Concat.is ∙ ap (constant.is_constant s) (expr-concat c.in-Concat.field-0 c.in-Concat.parts))

pub is_constant-returns-then-is_constant : goal.is_constant-returns-then-is_constant
is_constant-returns-then-is_constant g t c =
    let s = g.N.Names.sight c.args.names.now in
    both_hold c.is_constant-in-Repeat.result c.are_constant-then-is_constant.result _ _ c.if-is_constant.true
    (c.is_constant-in-Repeat.ensures ∙ ap (λ e. constant.is_constant s (view.expr e)) c.get-in-Repeat.ensures)
    (c.are_constant-then-is_constant.ensures ∙ ap (λ es. constant.all_constant s (exprs_of es)) c.as_slice-then-is_constant.ensures)
    ∙ sym (ap (λ e. constant.is_constant s (view.expr e)) c.in-Repeat.is ∙ ap (constant.is_constant s) (expr-repeat c.in-Repeat.field-0 c.in-Repeat.count c.in-Repeat.parts))

pub is_constant-returns-then-is_constant-2 : goal.is_constant-returns-then-is_constant-2
is_constant-returns-then-is_constant-2 g t c =
    let s = g.N.Names.sight c.args.names.now in
    both_hold c.is_constant-in-Chain.result c.are_links.result _ _ c.if-is_constant-2.true
    (c.is_constant-in-Chain.ensures ∙ ap (λ e. constant.is_constant s (view.expr e)) c.get-in-Chain.ensures)
    (c.are_links.ensures ∙ ap (λ ls. constant.links_constant s (links_of ls)) c.as_slice-then-is_constant-2.ensures)
    ∙ sym (ap (λ e. constant.is_constant s (view.expr e)) c.in-Chain.is ∙ ap (constant.is_constant s) (expr-chain c.in-Chain.first c.in-Chain.links))

pub is_constant-returns-then-are_choices : goal.is_constant-returns-then-are_choices
is_constant-returns-then-are_choices g t c =
    let s = g.N.Names.sight c.args.names.now in
    both_hold c.are_choices.result c.is_constant-then-are_choices.result _ _ c.if-are_choices.true
    (c.are_choices.ensures ∙ ap (λ cs. constant.choices_constant s (choices_of cs)) c.as_slice-in-Choose.ensures)
    (c.is_constant-then-are_choices.ensures ∙ ap (λ e. constant.is_constant s (view.expr e)) c.get-then-are_choices.ensures)
    ∙ sym (ap (λ e. constant.is_constant s (view.expr e)) c.in-Choose.is ∙ ap (constant.is_constant s) (expr-choose c.in-Choose.choices c.in-Choose.last))

pub is_constant-returns-else-are_choices : goal.is_constant-returns-else-are_choices
is_constant-returns-else-are_choices g t c =
    let s = g.N.Names.sight c.args.names.now in
    c.if-are_choices.false ∙ first_fails c.are_choices.result _ (constant.is_constant s (view.expr c.in-Choose.last)) c.if-are_choices.false
    (c.are_choices.ensures ∙ ap (λ cs. constant.choices_constant s (choices_of cs)) c.as_slice-in-Choose.ensures)
    ∙ sym (ap (λ e. constant.is_constant s (view.expr e)) c.in-Choose.is ∙ ap (constant.is_constant s) (expr-choose c.in-Choose.choices c.in-Choose.last))
