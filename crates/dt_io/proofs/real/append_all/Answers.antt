use Rattle.std.proofs.Common.{◌++◌, length, take, ◌∙◌, arith, length-append, length-take}
use Rattle.std.proofs.KnownBytes.{Consumes-trans}
use Rattle.dt_io.proofs.real.append_all.Goals as goal

pub returns-in_default-checked_sub-clause-reads : goal.returns-in_default-checked_sub-clause-reads
returns-in_default-checked_sub-clause-reads g c =
    let t = c.loop-count.invariant.taken in
    let last = take c.in-Ok.count c.read.new.buf in (
      (t.0 ++ last, Consumes-trans _ _ _ t.0 last t.3 c.in-Ok.ensures.bytes.0, omega (arith, c.in_default-checked_sub.ensures, c.in-Ok.ensures.bound, length-append t.0 last, length-take c.in-Ok.count c.read.new.buf, t.2)),
      c.in-Ok.ensures.cause.kept ∙ c.loop-count.invariant.same,
    )

pub returns-then-is_err-clause-reads : goal.returns-then-is_err-clause-reads
returns-then-is_err-clause-reads g c =
    let t = c.loop-count.invariant.taken in
    let last = take c.in-Ok.count c.read.new.buf in (
      (t.0 ++ last, Consumes-trans _ _ _ t.0 last t.3 c.in-Ok.ensures.bytes.0, omega (arith, c.in-Some.ensures, c.in-Ok.ensures.bound, length-append t.0 last, length-take c.in-Ok.count c.read.new.buf, t.2)),
      c.in-Ok.ensures.cause.kept ∙ c.loop-count.invariant.same,
    )
