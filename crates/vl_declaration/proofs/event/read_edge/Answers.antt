use Rattle.std.proofs.Common.{arith, ◌≡◌}
use Rattle.vl_declaration.proofs.EventRules as rule
use Rattle.vl_declaration.proofs.event.read_edge.Goals as goal

pub returns-then-depth-gt-MAX_DEPTH-clause-reads : goal.returns-then-depth-gt-MAX_DEPTH-clause-reads
returns-then-depth-gt-MAX_DEPTH-clause-reads c =
    let i : c.args.depth ≡ 201 = omega (arith, c.requires.low, c.if-depth-gt-MAX_DEPTH.true) in
    rw c.left.ensures (rule.positive_sunk c.args.depth _ _ _ c.in-Some.ensures.reads i)

pub returns-in-Some-clause-reads : goal.returns-in-Some-clause-reads
returns-in-Some-clause-reads c =
    rule.edge_positive c.args.depth (omega (arith, c.requires.low, c.if-depth-gt-MAX_DEPTH.false)) _ _ _ c.in-Some.ensures.reads

pub returns-then-depth-gt-MAX_DEPTH-2-clause-reads : goal.returns-then-depth-gt-MAX_DEPTH-2-clause-reads
returns-then-depth-gt-MAX_DEPTH-2-clause-reads c =
    let i : c.args.depth ≡ 201 = omega (arith, c.requires.low, c.if-depth-gt-MAX_DEPTH-2.true) in
    rw c.left-then-depth-gt-MAX_DEPTH-2.ensures (rule.negative_sunk c.args.depth _ _ _ c.in-Some-find_key.ensures.reads i)

pub returns-in-Some-find_key-clause-reads : goal.returns-in-Some-find_key-clause-reads
returns-in-Some-find_key-clause-reads c =
    rule.edge_negative c.args.depth (omega (arith, c.requires.low, c.if-depth-gt-MAX_DEPTH-2.false)) _ _ _ c.in-Some-find_key.ensures.reads

pub returns-clause-reads : goal.returns-clause-reads
returns-clause-reads c =
    rule.edge_none c.args.depth _ c.in_default.ensures.reads c.in_default-find_key.ensures.reads
