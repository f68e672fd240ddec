use Rattle.std.proofs.Common.{◌+◌, true, refl, sym, ap, ◌∙◌, map}
use Rattle.vl_tree.specs.SyntaxView as view
use Rattle.vl_width.specs.Lists.{exprs_of}
use Rattle.vl_tokens.specs.Counted.{capped, listed}
use Rattle.vl_tokens.specs.Statements.{printed_tokens}
use Rattle.vl_tokens.proofs.Counting.{sums}
use Rattle.vl_tokens.proofs.StatementParts.{format_tokens, exprs-map}
use Rattle.vl_tokens.proofs.statement.printed.Goals as goal

pub returns-in-Format : goal.returns-in-Format
returns-in-Format c =
    sums 3 (listed true (exprs_of c.in-Format.all)) c.plus.ensures refl (c.in_commas.ensures ∙ ap (λ y. capped (listed true (exprs_of y))) c.as_slice.ensures)
    ∙ ap capped (ap (λ z. 3 + listed true z) (sym (exprs-map c.in-Format.all))
    ∙ sym (ap (λ y. printed_tokens (view.printed y)) c.in-Format.is ∙ format_tokens (view.place c.in-Format.field-0) c.in-Format.field-1 (view.exprs (map view.expr c.in-Format.all))))
