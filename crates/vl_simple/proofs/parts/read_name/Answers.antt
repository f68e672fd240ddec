use Rattle.std.proofs.Common.{◌≡◌, arith}
use Rattle.std.proofs.lemmas.Result.{err_from_is_err_and}
use Rattle.vl_tree.specs.SyntaxView as plain
use Rattle.vl_read.proofs.TokenRules.{took_name}
use Rattle.vl_simple.proofs.PartRules as rule
use Rattle.vl_simple.proofs.parts.read_name.Goals as goal

pub returns-in_err-name-clause-reads : goal.returns-in_err-name-clause-reads
returns-in_err-name-clause-reads c =
    let p = err_from_is_err_and c.from_residual.result c.from_residual.ensures.1 in
    rw (p.1, p.2) (c.in_err-name.ensures.reads c.args.depth)

pub returns-then-depth-gt-MAX_DEPTH-clause-reads : goal.returns-then-depth-gt-MAX_DEPTH-clause-reads
returns-then-depth-gt-MAX_DEPTH-clause-reads c =
    let i : c.args.depth ≡ 201 = omega (arith, c.requires.low, c.if-depth-gt-MAX_DEPTH.true) in
    rw c.left.ensures (rule.name_sunk c.args.depth (plain.name c.in_ok-name.name) c.args.at _ c.in_ok-name.ensures.reads i)

pub returns-clause-reads : goal.returns-clause-reads
returns-clause-reads c =
    took_name c.args.depth (omega (arith, c.requires.low, c.if-depth-gt-MAX_DEPTH.false)) (plain.name c.in_ok-name.name) c.args.at _
    c.in_ok-name.ensures.reads
