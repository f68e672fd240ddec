use Rattle.std.proofs.Common.{false, sym, ap, ◌∙◌, length}
use Rattle.vl_tree.specs.SyntaxView as view
use Rattle.vl_tree.specs.Depth.{binds_depths}
use Rattle.vl_width.specs.Lists.{exprs_of}
use Rattle.vl_tokens.specs.Counted.{capped, listed}
use Rattle.vl_tokens.proofs.StatementParts.{exprs-map}
use Rattle.vl_tokens.proofs.declaration.given_binds.Goals as goal

pub returns-in-Ordered : goal.returns-in-Ordered
returns-in-Ordered c =
    c.in_commas.ensures ∙ ap (λ y. capped (listed false (exprs_of y))) c.as_slice.ensures
    ∙ ap (λ y. capped (listed false y)) (sym (exprs-map c.in-Ordered.values))
    ∙ ap capped (sym (ap (λ y. length (binds_depths 0 (view.binds y))) c.in-Ordered.is))
