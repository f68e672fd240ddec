use Rattle.std.proofs.Common.{arith, sym}
use Rattle.net_compile.proofs.InOrder.{free_next, free_other}
use Rattle.net_compile.proofs.ranges.nearest.Goals as goal

pub returns-then-range-signal : goal.returns-then-range-signal
returns-then-range-signal c =
    let read = c.in-Some.ensures.lookup in (
      omega (arith, c.requires.place),
      λ k i d l from to. free_other c.args.ranges.now c.requires.order c.args.signal c.args.place
          c.first_not_before-number.result c.in-Some.range.now c.first_not_before-number.ensures read.3.0
          (λ e. sym (read.3.1 e)) c.if-range-signal.true k i d l from,
    )

pub returns-else-range-place : goal.returns-else-range-place
returns-else-range-place c =
    let read = c.in-Some.ensures.lookup in (
      c.if-range-place.false,
      λ k i d l from to. free_next c.args.ranges.now c.requires.order c.args.signal c.args.place
          c.first_not_before-number.result c.in-Some.range.now c.first_not_before-number.ensures read.3.0
          (λ e. sym (read.3.1 e)) c.if-range-signal.false k i d l from to,
    )
