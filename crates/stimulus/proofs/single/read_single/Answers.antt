use Rattle.std.proofs.Common.{◌∙◌, refl, sym, arith}
use Rattle.std.proofs.lemmas.List.{length-set}
use Rattle.stimulus.proofs.SingleLaws.{single_all, single_more}
use Rattle.stimulus.proofs.single.read_single.Goals as goal

pub loop-k-preserved : goal.loop-k-preserved
loop-k-preserved c =
    let l = c.loop-k in
    record {
      read = single_more c.args.limits.now c.args.bytes.now l.values l.k c.from.result c.loop-k-test.true l.invariant.size
          (c.if-not-has_end.ensures refl) (c.from.ensures ∙ c.digit_of-digit.ensures)
          (omega (arith, c.from.ensures, c.if-digit-limit.false)) (sym c.if-not-is_apart.ensures) l.invariant.read;
      size = length-set l.values l.k c.from.result ∙ l.invariant.size;
    }

pub returns-clause-reads : goal.returns-clause-reads
returns-clause-reads c yes' =
    let l = c.loop-k in
    single_all c.args.limits.now c.args.bytes.now l.values l.k (omega (arith, c.loop-k-test.false)) l.invariant.size l.invariant.read
