use Rattle.std.proofs.Common.{◌+◌, ◌++◌, true, false, sym, subst, arith, Ok, Err}
use Rattle.std.proofs.KnownBytes.{Consumes-trans}
use Rattle.stimulus.specs.Reader.{Reader}
use Rattle.stimulus.specs.Reads.{Reads, Stands}
use Rattle.stimulus.specs.Calls.Taking.{TakesHead, TakesLine}
use Rattle.stimulus.proofs.StandLaws.{then_line, later_line}
use Rattle.stimulus.proofs.reader.StimReader.take_row.Goals as goal

pub returns-in-Err-clause-answer : goal.returns-in-Err-clause-answer
returns-in-Err-clause-answer g c taken given h =
    let i = c.self.inside in
    let s = subst (λ (r : Reader). Reads r taken given) (sym c.self.view_is) h in
    subst (λ xs. TakesHead xs i.number i.columns i.buffer c.take_head.new.columns c.take_head.new.buffer (g.S.Source.left c.args.source.now) (g.S.Source.left c.take_head.new.source) (g.S.Source.faults c.args.source.now)
    (g.S.Source.faults c.take_head.new.source) (Err c.in-Err.fault)) c.deref.ensures.value c.in-Err.ensures.head taken given s

pub returns-in-Ok-true-clause-answer : goal.returns-in-Ok-true-clause-answer
returns-in-Ok-true-clause-answer g c taken given h =
    let i = c.self.inside in
    let s = subst (λ (r : Reader). Reads r taken given) (sym c.self.view_is) h in
    let n = c.in-Ok.number in
    let left0 = g.S.Source.left c.args.source.now in
    let left1 = g.S.Source.left c.take_head.new.source in
    let left2 = g.S.Source.left c.take_line.new.source in
    let before = g.S.Source.faults c.args.source.now in
    let mid = g.S.Source.faults c.take_head.new.source in
    let now = g.S.Source.faults c.take_line.new.source in
    let head = subst (λ xs. TakesHead xs i.number i.columns i.buffer c.take_head.new.columns c.take_head.new.buffer left0 left1 before mid (Ok n)) c.deref.ensures.value c.in-Ok.ensures.head taken given s in
    let line = subst (λ xs. TakesLine xs n c.take_head.new.columns c.take_head.new.buffer c.take_line.new.columns c.take_line.new.buffer left1 left2 mid now (Ok true)) c.deref-in-Ok.ensures.value
    (rw c.in-Ok-true.field-0-test at c.in-Ok-true.ensures.line) (taken ++ head.0) given head.2.0 in
    let both = then_line i.inputs.items n given taken head.0 line.0 c.take_line.new.columns c.take_line.new.buffer left2 before mid now (Ok true) head.2.2 line.2 in (
      head.0 ++ line.0,
      Consumes-trans left0 left1 left2 head.0 line.0 head.1 line.1,
      (subst (Stands i.inputs.items (n + 1) c.take_line.new.columns c.take_line.new.buffer (taken ++ (head.0 ++ line.0))) (later_line n given c.take_line.new.columns.row head.2.1) both.0, omega (arith, head.2.1), both.1),
    )

pub returns-in-Ok-false-clause-answer : goal.returns-in-Ok-false-clause-answer
returns-in-Ok-false-clause-answer g c taken given h =
    let i = c.self.inside in
    let s = subst (λ (r : Reader). Reads r taken given) (sym c.self.view_is) h in
    let n = c.in-Ok.number in
    let left0 = g.S.Source.left c.args.source.now in
    let left1 = g.S.Source.left c.take_head.new.source in
    let left2 = g.S.Source.left c.take_line.new.source in
    let before = g.S.Source.faults c.args.source.now in
    let mid = g.S.Source.faults c.take_head.new.source in
    let now = g.S.Source.faults c.take_line.new.source in
    let head = subst (λ xs. TakesHead xs i.number i.columns i.buffer c.take_head.new.columns c.take_head.new.buffer left0 left1 before mid (Ok n)) c.deref.ensures.value c.in-Ok.ensures.head taken given s in
    let line = subst (λ xs. TakesLine xs n c.take_head.new.columns c.take_head.new.buffer c.take_line.new.columns c.take_line.new.buffer left1 left2 mid now (Ok false)) c.deref-in-Ok.ensures.value
    (rw c.in-Ok-false.field-0-test at c.in-Ok-false.ensures.line) (taken ++ head.0) given head.2.0 in
    let both = then_line i.inputs.items n given taken head.0 line.0 c.take_line.new.columns c.take_line.new.buffer left2 before mid now (Ok false) head.2.2 line.2 in
    (head.0 ++ line.0, Consumes-trans left0 left1 left2 head.0 line.0 head.1 line.1, (both.0, both.1, both.3))

pub returns-in-Err-take_line-clause-answer : goal.returns-in-Err-take_line-clause-answer
returns-in-Err-take_line-clause-answer g c taken given h =
    let i = c.self.inside in
    let s = subst (λ (r : Reader). Reads r taken given) (sym c.self.view_is) h in
    let n = c.in-Ok.number in
    let left0 = g.S.Source.left c.args.source.now in
    let left1 = g.S.Source.left c.take_head.new.source in
    let left2 = g.S.Source.left c.take_line.new.source in
    let before = g.S.Source.faults c.args.source.now in
    let mid = g.S.Source.faults c.take_head.new.source in
    let now = g.S.Source.faults c.take_line.new.source in
    let head = subst (λ xs. TakesHead xs i.number i.columns i.buffer c.take_head.new.columns c.take_head.new.buffer left0 left1 before mid (Ok n)) c.deref.ensures.value c.in-Ok.ensures.head taken given s in
    let line = subst (λ xs. TakesLine xs n c.take_head.new.columns c.take_head.new.buffer c.take_line.new.columns c.take_line.new.buffer left1 left2 mid now (Err c.in-Err-take_line.fault)) c.deref-in-Ok.ensures.value
    c.in-Err-take_line.ensures.line (taken ++ head.0) given head.2.0 in
    let both = then_line i.inputs.items n given taken head.0 line.0 c.take_line.new.columns c.take_line.new.buffer left2 before mid now (Err c.in-Err-take_line.fault) head.2.2 line.2 in
    (head.0 ++ line.0, Consumes-trans left0 left1 left2 head.0 line.0 head.1 line.1, both)
