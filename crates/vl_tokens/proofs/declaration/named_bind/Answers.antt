use Rattle.std.proofs.Common.{refl, sym, ap, ◌∙◌, length}
use Rattle.vl_tree.specs.SyntaxView as view
use Rattle.vl_tree.specs.Depth.{depths_of, expr_depths}
use Rattle.vl_tokens.specs.Counted.{capped}
use Rattle.vl_tokens.proofs.Counting.{sums}
use Rattle.vl_tokens.proofs.DeclarationParts.{bind_tokens}
use Rattle.vl_tokens.proofs.declaration.named_bind.Goals as goal

pub returns : goal.returns
returns c =
    let b = view.named_bind c.args.one.now in
    sums 4 (length (depths_of expr_depths 0 b.value)) c.plus.ensures refl c.bound.ensures ∙ ap capped (sym (bind_tokens b))
