use Rattle.std.proofs.Common.{refl, sym, ap, ◌∙◌, length}
use Rattle.vl_tree.specs.SyntaxView as view
use Rattle.vl_tree.specs.Depth.{depths_of, binds_depths}
use Rattle.vl_tokens.specs.Counted.{capped}
use Rattle.vl_tokens.proofs.Counting.{sums}
use Rattle.vl_tokens.proofs.DeclarationParts.{instance_tokens}
use Rattle.vl_tokens.proofs.declaration.instance.Goals as goal

pub returns : goal.returns
returns c =
    let i = view.instance c.args.one.now in
    sums 3 (length (depths_of binds_depths 0 i.binds)) c.plus.ensures refl c.binds.ensures ∙ ap capped (sym (instance_tokens i))
