use Rattle.std.proofs.Common.{List, ℕ, subst, arith}
use Rattle.stimulus.specs.Calls.Single.{ReadsSingle}
use Rattle.stimulus.proofs.SingleLaws.{took_single}
use Rattle.stimulus.proofs.take.take_single.Goals as goal

pub returns-in-Some-clause-taken : goal.returns-in-Some-clause-taken
returns-in-Some-clause-taken c yes' inputs taken given s =
    let n = c.in-Some.len in
    took_single inputs c.args.number c.args.columns.now c.read_single.new.self c.args.buffer.now c.skip.new.self taken given n
    (omega (arith, c.if-number-lt2.false)) (omega (arith, c.if-number.false)) (omega (arith, c.if-len-le-MAX_LINE.true))
    (subst (λ (bytes : List ℕ). ReadsSingle c.args.columns.now c.read_single.new.self bytes n) c.held.ensures.value c.in-Some.ensures.reads)
    c.in-Some.ensures.same c.skip.ensures.bytes c.skip.ensures.fresh s
