use Rattle.std.proofs.Common.{arith, ◌≡◌}
use Rattle.std.proofs.lemmas.Result.{err_from_is_err_and}
use Rattle.vl_tree.specs.declared.token.Mark.TheVariants as m
use Rattle.vl_tree.specs.Token as k
use Rattle.vl_declaration.proofs.Parts.{first, next, passes}
use Rattle.vl_declaration.proofs.EventRules as rule
use Rattle.vl_declaration.proofs.event.read_enclosed_event.Goals as goal

pub returns-then-depth-eq-MAX_DEPTH-clause-reads : goal.returns-then-depth-eq-MAX_DEPTH-clause-reads
returns-then-depth-eq-MAX_DEPTH-clause-reads c =
    let i : c.args.depth ≡ 200 = omega (arith, c.if-depth-eq-MAX_DEPTH.true) in
    rw c.left.ensures (rule.star_sunk c.args.depth _ _ _ c.in-Some.ensures.reads i)

pub returns-in_err-rest-in-Some-clause-reads : goal.returns-in_err-rest-in-Some-clause-reads
returns-in_err-rest-in-Some-clause-reads c =
    let p = err_from_is_err_and c.from_residual.result c.from_residual.ensures.1 in
    rw (p.1, p.2) ((rule.star_part c.args.depth (omega (arith, c.requires.low, c.if-depth-eq-MAX_DEPTH.false)) _ _ _ c.in-Some.ensures.reads).fails c.in_err-rest-in-Some.field-0.0 (c.in_err-rest-in-Some.ensures.reads (c.args.depth)))

pub returns-in_ok-rest-in-Some-clause-reads : goal.returns-in_ok-rest-in-Some-clause-reads
returns-in_ok-rest-in-Some-clause-reads c =
    ((rule.star_part c.args.depth (omega (arith, c.requires.low, c.if-depth-eq-MAX_DEPTH.false)) _ _ _ c.in-Some.ensures.reads).took _ _ (passes (c.args.depth) (k.mark m.CloseParen) (c.requires.low) _ _ c.in_ok-rest-in-Some.ensures.reads))

pub returns-in_err-sensed-in-None-clause-reads : goal.returns-in_err-sensed-in-None-clause-reads
returns-in_err-sensed-in-None-clause-reads c =
    let p = err_from_is_err_and c.from_residual-in_err-sensed-in-None.result c.from_residual-in_err-sensed-in-None.ensures.1 in
    rw (p.1, p.2) (first (rule.sensed_list c.args.depth) (rule.enclosed_1 c.args.depth) (rule.enclosed_j0 c.args.depth) (rule.enclosed_part c.args.depth _ c.in-None.ensures.reads) c.in_err-sensed-in-None.field-0.0 c.in_err-sensed-in-None.ensures.reads)

pub returns-in_err-rest-in-None-clause-reads : goal.returns-in_err-rest-in-None-clause-reads
returns-in_err-rest-in-None-clause-reads c =
    let p = err_from_is_err_and c.from_residual-in_err-rest-in-None.result c.from_residual-in_err-rest-in-None.ensures.1 in
    rw (p.1, p.2) ((next (rule.sensed_list c.args.depth) (rule.enclosed_1 c.args.depth) (rule.enclosed_j0 c.args.depth) (rule.enclosed_part c.args.depth _ c.in-None.ensures.reads) _ _ c.in_ok-sensed-in-None.ensures.reads).fails c.in_err-rest-in-None.field-0.0 (c.in_err-rest-in-None.ensures.reads (c.args.depth)))

pub returns-in_ok-rest-in-None-clause-reads : goal.returns-in_ok-rest-in-None-clause-reads
returns-in_ok-rest-in-None-clause-reads c =
    ((next (rule.sensed_list c.args.depth) (rule.enclosed_1 c.args.depth) (rule.enclosed_j0 c.args.depth) (rule.enclosed_part c.args.depth _ c.in-None.ensures.reads) _ _ c.in_ok-sensed-in-None.ensures.reads).took _ _ (passes (c.args.depth) (k.mark m.CloseParen) (c.requires.low) _ _ c.in_ok-rest-in-None.ensures.reads))
