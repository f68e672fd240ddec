use Rattle.std.proofs.Common.{arith, ◌≡◌}
use Rattle.std.proofs.lemmas.Result.{err_from_is_err_and}
use Rattle.vl_tree.specs.Token as k
use Rattle.vl_read.proofs.TokenRules.{took_kind_at}
use Rattle.vl_declaration.proofs.Parts.{found_sunk}
use Rattle.vl_declaration.proofs.token.read_mark.Goals as goal

pub returns-in_err-place-clause-reads : goal.returns-in_err-place-clause-reads
returns-in_err-place-clause-reads c =
    let p = err_from_is_err_and c.from_residual.result c.from_residual.ensures.1 in
    rw (p.1, p.2) (c.in_err-place.ensures.reads c.args.depth)

pub returns-then-depth-gt-MAX_DEPTH-clause-reads : goal.returns-then-depth-gt-MAX_DEPTH-clause-reads
returns-then-depth-gt-MAX_DEPTH-clause-reads c =
    let i : c.args.depth ≡ 201 = omega (arith, c.requires.low, c.if-depth-gt-MAX_DEPTH.true) in
    rw c.left.ensures (found_sunk c.args.depth (k.mark c.args.wanted) _ _ _ c.in_ok-place.ensures.reads i)

pub returns-clause-reads : goal.returns-clause-reads
returns-clause-reads c =
    took_kind_at (k.mark c.args.wanted) c.args.depth (omega (arith, c.requires.low, c.if-depth-gt-MAX_DEPTH.false)) _ _ _ c.in_ok-place.ensures.reads
