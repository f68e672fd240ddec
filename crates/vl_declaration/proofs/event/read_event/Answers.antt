use Rattle.std.proofs.Common.{refl}
use Rattle.std.proofs.lemmas.Result.{err_from_is_err_and}
use Rattle.vl_tree.specs.declared.token.Mark.TheVariants as m
use Rattle.vl_tree.specs.Token as k
use Rattle.vl_tree.specs.SyntaxView as view
use Rattle.vl_declaration.proofs.Parts.{first, next, passed, passes}
use Rattle.vl_declaration.proofs.EventRules as rule
use Rattle.vl_read.proofs.Leads.{leads_on, leads_reads}
use Rattle.vl_read.proofs.Pieces.{took_nothing}
use Rattle.vl_read.specs.Reading.{Any}
use Rattle.vl_declaration.proofs.event.read_event.Goals as goal

pub returns-in_err-awaited-clause-reads : goal.returns-in_err-awaited-clause-reads
returns-in_err-awaited-clause-reads c =
    let p = err_from_is_err_and c.from_residual.result c.from_residual.ensures.1 in
    rw (p.1, p.2) (first (passed c.args.depth (k.mark m.At)) (rule.event_1 c.args.depth) (rule.event_j0 c.args.depth) (rule.event_whole c.args.depth _) c.in_err-awaited.field-0.0 (c.in_err-awaited.ensures.reads c.args.depth))

pub returns-in-Some-clause-reads : goal.returns-in-Some-clause-reads
returns-in-Some-clause-reads c =
    (leads_on (rule.read_part c.args.depth c.requires.low _ _ _ c.in-Some.ensures.reads) (next (passed c.args.depth (k.mark m.At)) (rule.event_1 c.args.depth) (rule.event_j0 c.args.depth) (rule.event_whole c.args.depth _) _ _ (passes c.args.depth (k.mark m.At) c.requires.low _ _ c.in_ok-awaited.ensures.reads))).took tt _ (took_nothing Any Any _)

pub returns-in_err-inner-in-None-clause-reads : goal.returns-in_err-inner-in-None-clause-reads
returns-in_err-inner-in-None-clause-reads c =
    let p = err_from_is_err_and c.from_residual-in_err-inner-in-None.result c.from_residual-in_err-inner-in-None.ensures.1 in
    rw (p.1, p.2) (first (passed c.args.depth (k.mark m.OpenParen)) (rule.opened_1 c.args.depth) (rule.opened_j0 c.args.depth) (leads_on (rule.opened_part c.args.depth _ c.in-None.ensures.reads) (next (passed c.args.depth (k.mark m.At)) (rule.event_1 c.args.depth) (rule.event_j0 c.args.depth) (rule.event_whole c.args.depth _) _ _ (passes c.args.depth (k.mark m.At) c.requires.low _ _ c.in_ok-awaited.ensures.reads))) c.in_err-inner-in-None.field-0.0 (c.in_err-inner-in-None.ensures.reads c.args.depth))

pub returns-in_ok-inner-in-None-clause-reads : goal.returns-in_ok-inner-in-None-clause-reads
returns-in_ok-inner-in-None-clause-reads c =
    leads_reads (next (passed c.args.depth (k.mark m.OpenParen)) (rule.opened_1 c.args.depth) (rule.opened_j0 c.args.depth) (leads_on (rule.opened_part c.args.depth _ c.in-None.ensures.reads) (next (passed c.args.depth (k.mark m.At)) (rule.event_1 c.args.depth) (rule.event_j0 c.args.depth) (rule.event_whole c.args.depth _) _ _ (passes c.args.depth (k.mark m.At) c.requires.low _ _ c.in_ok-awaited.ensures.reads))) _ _ (passes c.args.depth (k.mark m.OpenParen) c.requires.low _ _ c.in_ok-inner-in-None.ensures.reads)) view.event view.event (λ x. refl)
    c.read_enclosed_event.result c.read_enclosed_event.ensures.reads
