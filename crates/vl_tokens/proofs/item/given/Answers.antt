use Rattle.std.proofs.Common.{refl, sym, ap, ◌∙◌, length}
use Rattle.std.specs.Option.{option_map}
use Rattle.vl_tree.specs.SyntaxView as view
use Rattle.vl_tree.specs.Depth.{depths_of, binds_depths, parameter_binds_depths}
use Rattle.vl_tokens.specs.Counted.{capped}
use Rattle.vl_tokens.proofs.Counting.{sums}
use Rattle.vl_tokens.proofs.DeclarationParts.{given_tokens}
use Rattle.vl_tokens.proofs.item.given.Goals as goal

pub returns-in-Some : goal.returns-in-Some
returns-in-Some c =
    sums 3 (length (depths_of binds_depths 0 (option_map view.binds c.in-Some.all))) c.plus.ensures refl c.binds.ensures
    ∙ ap capped (sym (ap (λ y. length (depths_of parameter_binds_depths 0 (option_map (option_map view.binds) y))) c.in-Some.is
    ∙ given_tokens (option_map view.binds c.in-Some.all)))
