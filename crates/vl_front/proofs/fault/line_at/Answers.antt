use Rattle.std.proofs.Common.{sym, ap, ◌∙◌}
use Rattle.std.specs.Prelude.{min}
use Rattle.std.proofs.lemmas.Bool.{ltb-true}
use Rattle.vl_front.proofs.Steps.{line_some, line_none}
use Rattle.vl_front.proofs.fault.line_at.Goals as goal

pub returns-in-Some : goal.returns-in-Some
returns-in-Some c =
    let e = c.in-Some.ensures.lookup in
    line_some c.args.tokens.now c.args.number c.min.result c.in-Some.token.now (ltb-true _ _ (sym e.0)) e.1
    (c.min.ensures ∙ ap (min c.args.number) c.saturating_sub.ensures)

pub returns-in-None : goal.returns-in-None
returns-in-None c =
    line_none c.args.tokens.now c.args.number c.min.result c.in-None.ensures.lookup.3
    (c.min.ensures ∙ ap (min c.args.number) c.saturating_sub.ensures)
