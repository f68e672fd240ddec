use Rattle.std.proofs.Common.{arith, ◌≡◌}
use Rattle.std.proofs.lemmas.Result.{err_from_is_err_and}
use Rattle.vl_declaration.proofs.Parts.{next}
use Rattle.vl_header.proofs.HeaderRules as rule
use Rattle.vl_read.proofs.Fails.{fails_less}
use Rattle.vl_read.proofs.Pieces.{took_less}
use Rattle.vl_declaration.specs.Readers.{NoShape, shape_at, shape_depths}
use Rattle.vl_header.specs.Readers.{NoDirected}
use Rattle.vl_header.proofs.header.read_directed.Goals as goal

pub returns-in_default-clause-reads : goal.returns-in_default-clause-reads
returns-in_default-clause-reads c =
    rw c.left.ensures (rule.directed_stuck c.args.depth _ c.in_default.ensures.reads)

pub returns-then-depth-gt-MAX_DEPTH-clause-reads : goal.returns-then-depth-gt-MAX_DEPTH-clause-reads
returns-then-depth-gt-MAX_DEPTH-clause-reads c =
    let i : c.args.depth ≡ 201 = omega (arith, c.requires.low, c.if-depth-gt-MAX_DEPTH.true) in
    rw c.left-then-depth-gt-MAX_DEPTH.ensures (rule.directed_sunk c.args.depth _ _ _ _ c.in-Some.ensures.reads i)

pub returns-in_err-shape-clause-reads : goal.returns-in_err-shape-clause-reads
returns-in_err-shape-clause-reads c =
    let p = err_from_is_err_and c.from_residual.result c.from_residual.ensures.1 in
    rw (p.1, p.2) ((next (rule.kept_part c.args.depth) (rule.shaped c.args.depth NoDirected) (rule.directed_j0 c.args.depth) (rule.directed_part c.args.depth (omega (arith, c.requires.low, c.if-depth-gt-MAX_DEPTH.false)) _ _ _ _ c.in-Some.ensures.reads) _ _ (rule.kept_took c.args.depth (omega (arith, c.requires.low, c.if-depth-gt-MAX_DEPTH.false)) _ _ _ c.skip_kept-kept.ensures.reads)).fails c.in_err-shape.field-0.0 (fails_less shape_at (shape_depths c.args.depth) NoShape NoShape NoDirected NoDirected (λ z f. f.1) (λ z g. g.1) _ _ c.in_err-shape.ensures.reads))

pub returns-clause-reads : goal.returns-clause-reads
returns-clause-reads c =
    ((next (rule.kept_part c.args.depth) (rule.shaped c.args.depth NoDirected) (rule.directed_j0 c.args.depth) (rule.directed_part c.args.depth (omega (arith, c.requires.low, c.if-depth-gt-MAX_DEPTH.false)) _ _ _ _ c.in-Some.ensures.reads) _ _ (rule.kept_took c.args.depth (omega (arith, c.requires.low, c.if-depth-gt-MAX_DEPTH.false)) _ _ _ c.skip_kept-kept.ensures.reads)).took _ _ (took_less shape_at (shape_depths c.args.depth) NoShape NoShape NoDirected NoDirected (λ z f. f.1) (λ z g. g.1) _ _ _ c.in_ok-shape.ensures.reads))
