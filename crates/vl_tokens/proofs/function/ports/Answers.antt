use Rattle.std.proofs.Common.{false, refl, sym, ap, ◌∙◌, map}
use Rattle.vl_tree.specs.SyntaxView as view
use Rattle.vl_tree.specs.Depth.{function_port_depths}
use Rattle.vl_tokens.specs.Counted.{capped, in_list}
use Rattle.vl_tokens.proofs.Counting.{sums}
use Rattle.vl_tokens.proofs.DeclarationParts.{some_ports}
use Rattle.vl_tokens.proofs.function.ports.Goals as goal

pub returns-else-is_empty : goal.returns-else-is_empty
returns-else-is_empty c =
    sums 2 (in_list function_port_depths false (map view.function_port c.args.all.now)) c.plus.ensures refl c.ports_in_commas.ensures
    ∙ ap capped (sym (some_ports c.args.all.now (sym c.is_empty.ensures ∙ c.if-is_empty.false)))
