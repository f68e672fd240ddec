use Rattle.std.proofs.Common.{◌∙◌, length, sym, ap, subst, length-append, arith, inr}
use Rattle.stimulus.specs.Lines.{IsPlain}
use Rattle.stimulus.specs.Calls.Turns.{IsOpenLine}
use Rattle.stimulus.proofs.TurnLaws.{found, not_found, part_is, plain_front, given, none_given, more_taken}
use Rattle.stimulus.proofs.lines.next_line.Goals as goal
use Rattle.stimulus.proofs.lines.next_line.Goals.{After-held-searched, After-fill}

-- where no LF was found there is none
no_end : (g : _) (c : After-held-searched g) → IsPlain c.turns.buffer.bytes
no_end g c = not_found c.turns.buffer.bytes _ c.turns.searched c.turns.invariant.within (part_is c.held.result.now c.turns.buffer.bytes c.turns.searched c.held.ensures.value) c.turns.invariant.plain c.in-None.ensures

was_open : (g : _) (c : After-fill g) → IsOpenLine c.turns.buffer.bytes
was_open g c = (
  not_found c.turns.buffer.bytes _ c.turns.searched c.turns.invariant.within (part_is c.held.result.now c.turns.buffer.bytes c.turns.searched c.held.ensures.value) c.turns.invariant.plain c.in-None.ensures,
  omega (arith, ap length c.held-searched.ensures.value, c.if-searched-gt-MAX_LINE.false),
)

pub returns-in-Some-clause-finds : goal.returns-in-Some-clause-finds
returns-in-Some-clause-finds g c = found c.turns.buffer.bytes _ c.turns.searched c.in-Some.place c.turns.invariant.within (part_is c.held.result.now c.turns.buffer.bytes c.turns.searched c.held.ensures.value) c.turns.invariant.plain c.in-Some.ensures

pub returns-then-searched-gt-MAX_LINE-clause-finds :
    goal.returns-then-searched-gt-MAX_LINE-clause-finds
returns-then-searched-gt-MAX_LINE-clause-finds g c = (
  no_end g (goal.at.returns-then-searched-gt-MAX_LINE-clause-finds g c).After-held-searched,
  omega (arith, ap length c.held-searched.ensures.value, c.if-searched-gt-MAX_LINE.true),
)

pub turns-preserved : goal.turns-preserved
turns-preserved g c =
    let was = was_open g (goal.at.turns-preserved g c).After-fill in
    let fills = rw c.in-Ok-true.field-0-test at c.in-Ok-true.ensures.fills in
    let old = c.turns.buffer in
    let new = c.fill.new.self in
    let size = ap length c.held-searched.ensures.value in
    record {
      taken = more_taken c.args.buffer.now.bytes old.bytes new.bytes (g.S.Source.left c.args.source.now) (g.S.Source.left c.turns.source) (g.S.Source.left c.fill.new.source) c.turns.invariant.taken fills.0 fills.1 fills.2.0;
      time = inr (given old new fills.0 was fills.2.0 fills.2.1);
      plain = plain_front old.bytes new.bytes fills.0 (length c.held-searched.result.now) size fills.2.0 was.0;
      within = omega (arith, size, ap length fills.2.0, length-append old.bytes fills.0);
      short = omega (arith, c.if-searched-gt-MAX_LINE.false);
      kept = c.in-Ok-true.ensures.cause.kept ∙ c.turns.invariant.kept;
    }

pub returns-in-Ok-false-clause-finds : goal.returns-in-Ok-false-clause-finds
returns-in-Ok-false-clause-finds g c =
    let was = was_open g (goal.at.returns-in-Ok-false-clause-finds g c).After-fill in
    let fills = rw c.in-Ok-false.field-0-test at c.in-Ok-false.ensures.fills in
    (subst IsOpenLine (sym fills.2.0) was, fills.2.3)

pub returns-in-Ok-false-clause-time : goal.returns-in-Ok-false-clause-time
returns-in-Ok-false-clause-time g c =
    let was = was_open g (goal.at.returns-in-Ok-false-clause-time g c).After-fill in
    let fills = rw c.in-Ok-false.field-0-test at c.in-Ok-false.ensures.fills in
    inr (none_given c.turns.buffer c.fill.new.self was fills.2.0 fills.2.1)

pub returns-in-Err-clause-finds : goal.returns-in-Err-clause-finds
returns-in-Err-clause-finds g c =
    let was = was_open g (goal.at.returns-in-Err-clause-finds g c).After-fill in
    let fills = c.in-Err.ensures.fills in
    subst IsOpenLine (sym fills.2.0) was
