use Rattle.std.proofs.Common.{length, sym, ap, ◌∙◌}
use Rattle.std.specs.Prelude.{◌==◌}
use Rattle.vl_clocks.proofs.Clocked.{of_selected}
use Rattle.vl_clocks.proofs.name.plain_name.Goals as goal

pub returns-else-is_empty : goal.returns-else-is_empty
returns-else-is_empty c =
    of_selected c.args.e.now c.in-Read.name c.in-Read.selects c.in-Read.is
    (ap (λ xs. length xs == 0) (sym c.as_slice.ensures) ∙ sym c.is_empty.ensures ∙ c.if-is_empty.false)
