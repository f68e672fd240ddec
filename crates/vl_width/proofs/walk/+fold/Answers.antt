use Rattle.std.proofs.Common.{◌≡◌, ◌∙◌, ◌∷◌, ◌+◌, ap, sym, subst, drop, Some}
use Rattle.std.proofs.lemmas.List.{drop_more}
use Rattle.std.specs.Prelude.{IfOk}
use Rattle.std.specs.Option.{option_map}
use Rattle.vl_tree.specs.SyntaxView as view
use Rattle.vl_width.specs.Terms.{meant}
use Rattle.vl_width.specs.Known as known
use Rattle.vl_width.specs.Lists.{exprs_of, links_of, choices_of}
use Rattle.vl_width.proofs.Views.{expr-read, expr-concat, expr-repeat, expr-chain, expr-choose}
use Rattle.vl_width.proofs.Walks.{linked_unknown, link_none}
use Rattle.vl_width.proofs.walk.+fold.Goals as goal

pub fold-returns-in-Read : goal.fold-returns-in-Read
fold-returns-in-Read g t c =
    let s = g.N.Names.sight c.args.names.now in
    c.read.ensures ∙ ap (λ ks. known.read_known (s c.in-Read.name.text) (view.read_selects ks)) c.as_slice.ensures
    ∙ sym (ap (λ e. known.known s (view.expr e)) c.in-Read.is ∙ ap (known.known s) (expr-read c.in-Read.name c.in-Read.selects))

pub fold-returns-in-Concat : goal.fold-returns-in-Concat
fold-returns-in-Concat g t c =
    let s = g.N.Names.sight c.args.names.now in
    subst (λ x. IfOk c.fold_parts.result (λ k. option_map meant k ≡ x))
    (ap (λ es. known.braced (known.all_known s (exprs_of es))) c.as_slice-in-Concat.ensures
    ∙ sym (ap (λ e. known.known s (view.expr e)) c.in-Concat.is ∙ ap (known.known s) (expr-concat c.in-Concat.field-0 c.in-Concat.parts)))
    c.fold_parts.ensures

pub fold-returns-in_ok-part-in-Repeat : goal.fold-returns-in_ok-part-in-Repeat
fold-returns-in_ok-part-in-Repeat g t c =
    let s = g.N.Names.sight c.args.names.now in
    let n = c.in_ok-count-in-Repeat.ensures ∙ ap (λ e. known.known s (view.expr e)) c.get-in-Repeat.ensures in
    let p = c.in_ok-part-in-Repeat.ensures ∙ ap (λ es. known.braced (known.all_known s (exprs_of es))) c.as_slice-in-Repeat.ensures in
    c.copied.ensures ∙ (λ i. known.copied (n i) (p i))
    ∙ sym (ap (λ e. known.known s (view.expr e)) c.in-Repeat.is ∙ ap (known.known s) (expr-repeat c.in-Repeat.field-0 c.in-Repeat.count c.in-Repeat.parts))

pub fold-returns-in_ok-first-in-Chain : goal.fold-returns-in_ok-first-in-Chain
fold-returns-in_ok-first-in-Chain g t c =
    let s = g.N.Names.sight c.args.names.now in
    let h = c.in_ok-first-in-Chain.ensures ∙ ap (λ e. known.known s (view.expr e)) c.get-in-Chain.ensures in
    subst (λ x. IfOk c.fold_links.result (λ k. option_map meant k ≡ x))
    ((λ i. known.linked s (links_of (c.as_slice-in-Chain.ensures i)) (h i))
    ∙ sym (ap (λ e. known.known s (view.expr e)) c.in-Chain.is ∙ ap (known.known s) (expr-chain c.in-Chain.first c.in-Chain.links)))
    c.fold_links.ensures

pub fold-returns-in_ok-last-in-Choose : goal.fold-returns-in_ok-last-in-Choose
fold-returns-in_ok-last-in-Choose g t c =
    let s = g.N.Names.sight c.args.names.now in
    let b = c.in_ok-branches-in-Choose.ensures ∙ ap (λ cs. known.all_choices s (choices_of cs)) c.as_slice-in-Choose.ensures in
    let h = c.in_ok-last-in-Choose.ensures ∙ ap (λ e. known.known s (view.expr e)) c.get-in-Choose.ensures in
    c.chosen.ensures ∙ (λ i. known.chosen (b i) (h i))
    ∙ sym (ap (λ e. known.known s (view.expr e)) c.in-Choose.is ∙ ap (known.known s) (expr-choose c.in-Choose.choices c.in-Choose.last))

pub fold_links-returns-in_default : goal.fold_links-returns-in_default
fold_links-returns-in_default g t c = linked_unknown (g.N.Names.sight c.args.names.now) (links_of c.args.links.now) c.args.first c.in_default.not-Some

pub fold_links-returns-in-None : goal.fold_links-returns-in-None
fold_links-returns-in-None g t c =
    let s = g.N.Names.sight c.args.names.now in let links = c.args.links.now in
    let k = c.loop-link.link-index in let l = c.link-item.result in let a = meant c.loop-link.left in
    let e : drop k links ≡ l ∷ drop (k + 1) links = drop_more links k l c.loop-link-test.true ∙ ap (λ y. y ∷ drop (k + 1) links) (sym c.link-item.is) in
    link_none s l (drop (k + 1) links) a (ap (option_map meant) (sym c.in-None.is) ∙ c.in_ok-right.ensures)
    ∙ ap (λ ls. known.linked s (links_of ls) (Some a)) (sym e) ∙ c.loop-link.invariant
