use Rattle.std.proofs.Common.{[], ◌++◌, refl, arith, Err, inl, inr}
use Rattle.std.proofs.KnownBytes.{Consumes-nil, Consumes-trans}
use Rattle.stimulus.proofs.StandLaws.{from_none, no_line, head_line, two_lines, then_line}
use Rattle.stimulus.proofs.take.take_head.Goals as goal

pub returns-then-number-gt0-clause-head : goal.returns-then-number-gt0-clause-head
returns-then-number-gt0-clause-head g c taken given s = (
  [],
  Consumes-nil (g.S.Source.left c.args.source.now),
  (no_line c.args.inputs.now c.args.number given taken c.args.columns.now c.args.buffer.now s, elim c.requires.head [ inl none ↦ absurd (omega (arith, none, c.if-number-gt0.true)) | inr some ↦ some ], refl),
)

pub returns-in-Ok-take_line-clause-head : goal.returns-in-Ok-take_line-clause-head
returns-in-Ok-take_line-clause-head g c taken given s =
    let inputs = c.args.inputs.now in
    let one = c.in-Ok.ensures.line taken given (from_none c.args.inputs.now c.args.number c.args.columns.now c.args.buffer.now taken given c.if-number-gt0.false s) in
    let mid = head_line inputs 0 given (taken ++ one.0) c.take_line.new.columns c.take_line.new.buffer (g.S.Source.left c.take_line.new.source) (g.S.Source.faults c.args.source.now) (g.S.Source.faults c.take_line.new.source) c.in-Ok.field-0 (omega arith) one.2 in
    let two = c.in-Ok-take_line.ensures.line (taken ++ one.0) given mid.0 in
    let both = two_lines inputs 0 given taken one.0 two.0 c.take_line.new.columns c.take_line-in-Ok.new.columns c.take_line.new.buffer c.take_line-in-Ok.new.buffer (g.S.Source.left c.take_line.new.source) (g.S.Source.left c.take_line-in-Ok.new.source)
    (g.S.Source.faults c.args.source.now) (g.S.Source.faults c.take_line.new.source) (g.S.Source.faults c.take_line-in-Ok.new.source) c.in-Ok.field-0 c.in-Ok-take_line.field-0 one.2 two.2 in (
      one.0 ++ two.0,
      Consumes-trans (g.S.Source.left c.args.source.now) (g.S.Source.left c.take_line.new.source) (g.S.Source.left c.take_line-in-Ok.new.source) one.0 two.0 one.1 two.1,
      (both.0, omega arith, both.1),
    )

pub returns-in-Err-take_line-clause-head : goal.returns-in-Err-take_line-clause-head
returns-in-Err-take_line-clause-head g c taken given s =
    let inputs = c.args.inputs.now in
    let one = c.in-Ok.ensures.line taken given (from_none c.args.inputs.now c.args.number c.args.columns.now c.args.buffer.now taken given c.if-number-gt0.false s) in
    let mid = head_line inputs 0 given (taken ++ one.0) c.take_line.new.columns c.take_line.new.buffer (g.S.Source.left c.take_line.new.source) (g.S.Source.faults c.args.source.now) (g.S.Source.faults c.take_line.new.source) c.in-Ok.field-0 (omega arith) one.2 in
    let two = c.in-Err-take_line.ensures.line (taken ++ one.0) given mid.0 in (
      one.0 ++ two.0,
      Consumes-trans (g.S.Source.left c.args.source.now) (g.S.Source.left c.take_line.new.source) (g.S.Source.left c.take_line-in-Ok.new.source) one.0 two.0 one.1 two.1,
      then_line inputs 1 given taken one.0 two.0 c.take_line-in-Ok.new.columns c.take_line-in-Ok.new.buffer (g.S.Source.left c.take_line-in-Ok.new.source) (g.S.Source.faults c.args.source.now) (g.S.Source.faults c.take_line.new.source)
          (g.S.Source.faults c.take_line-in-Ok.new.source) (Err c.in-Err-take_line.fault) mid.1 two.2,
    )

pub returns-in-Err-clause-head : goal.returns-in-Err-clause-head
returns-in-Err-clause-head g c taken given s = c.in-Err.ensures.line taken given (from_none c.args.inputs.now c.args.number c.args.columns.now c.args.buffer.now taken given c.if-number-gt0.false s)
