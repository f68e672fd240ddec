use Rattle.std.proofs.Common.{◌≡◌, ◌≤◌, ◌++◌, ◌∙◌, Err, ℕ, List, None, length, take, sym, ap, subst, arith, refl}
use Rattle.std.specs.Prelude.{nat_lt, ◌==◌, ◌&&◌}
use Rattle.std.proofs.lemmas.List.{length-take-le}
use Rattle.std.specs.Str.Lines.{strip_carriage_return}
use Rattle.stimulus.specs.declared.refusal.TheConstants.{MAX_LINE}
use Rattle.stimulus.specs.declared.refusal.RefusalKind.TheVariants as k
use Rattle.stimulus.specs.Stimulus.{content_fault, names_of, second}
use Rattle.stimulus.specs.Reads.{FaultIs}
use Rattle.stimulus.specs.Calls.Names.{Judges}
use Rattle.stimulus.specs.Calls.Judging.{Took}
use Rattle.stimulus.specs.Calls.Taking.{LineIs, end_of}
use Rattle.stimulus.proofs.StandLaws.{in_time, refused_line, refused_tail, stands_on, goes_on}
use Rattle.stimulus.proofs.FaultLaws.{refused_fault, long_fault, long_tail, long_only, judged_fault, last_line}
use Rattle.stimulus.proofs.take.take_line.Goals as goal

pub returns-then-len-gt-MAX_LINE-clause-line : goal.returns-then-len-gt-MAX_LINE-clause-line
returns-then-len-gt-MAX_LINE-clause-line g c taken given s =
    let t = c.in-Ok-Ended.ensures.taken in
    let found = c.next_line.new.buffer in
    let has = rw c.in-Ok-Ended.field-0-is at c.in-Ok-Ended.ensures.finds in
    let n = c.in-Ok-Ended.len in
    let long = long_fault c.args.inputs.now (names_of (second s.lines)) c.args.number (take n found.bytes) (omega (arith, c.if-len-gt-MAX_LINE.true, length-take-le n found.bytes (omega (arith, has.within)))) in (
      t.0,
      t.1,
      refused_fault c.args.inputs.now _ _ _ _ _ c.args.number k.LineTooLong c.refuse.result c.refuse.ensures
          (refused_line c.args.inputs.now c.args.number c.args.columns.now c.args.buffer.now found taken given t.0 n k.LineTooLong s t.2 has long)
          (in_time c.args.inputs.now c.args.number c.args.columns.now c.args.buffer.now found taken given t.0 s t.2 c.in-Ok-Ended.ensures.time)
          (long_only _) c.in-Ok-Ended.ensures.cause.kept,
    )

pub returns-in-Ok-clause-line : goal.returns-in-Ok-clause-line
returns-in-Ok-clause-line g c taken given s =
    let t = c.in-Ok-Ended.ensures.taken in
    let found = c.next_line.new.buffer in
    let n = c.in-Ok-Ended.len in
    let inputs = c.args.inputs.now in
    let names = names_of (second s.lines) in
    let judged = subst (λ (l : List ℕ). (content_fault inputs names c.args.number (strip_carriage_return l) ≡ None) × Took inputs names c.args.number l c.judge.new.columns)
    (ap (take n) c.held.ensures.value) (c.in-Ok.ensures.judges names s.layout_is) in (
      t.0,
      t.1,
      (
        stands_on inputs c.args.number c.args.columns.now c.judge.new.columns c.args.buffer.now found c.skip.new.self taken given t.0 n s t.2 c.in-Ok-Ended.ensures.time
            (rw c.in-Ok-Ended.field-0-is at c.in-Ok-Ended.ensures.finds) (omega (arith, c.if-len-gt-MAX_LINE.false)) judged.0 judged.1 c.skip.ensures.bytes c.skip.ensures.fresh,
        c.in-Ok-Ended.ensures.cause.kept,
      ),
    )

pub returns-in-Err-judge-clause-line : goal.returns-in-Err-judge-clause-line
returns-in-Err-judge-clause-line g c taken given s =
    let t = c.in-Ok-Ended.ensures.taken in
    let found = c.next_line.new.buffer in
    let has = rw c.in-Ok-Ended.field-0-is at c.in-Ok-Ended.ensures.finds in
    let n = c.in-Ok-Ended.len in
    let inputs = c.args.inputs.now in
    let names = names_of (second s.lines) in
    let few : length (take n found.bytes) ≤ MAX_LINE = omega (arith, c.if-len-gt-MAX_LINE.false, length-take-le n found.bytes (omega (arith, has.within))) in
    let fault = judged_fault inputs c.args.number c.args.columns.now c.args.buffer.now found taken given t.0 n (g.S.Source.left c.next_line.new.source) (g.S.Source.faults c.args.source.now)
    (g.S.Source.faults c.next_line.new.source) (λ (x : Unit {0}). Took inputs names c.args.number (take n found.bytes) c.judge.new.columns) c.in-Err-judge.fault s t.2 c.in-Ok-Ended.ensures.time has few
    (subst (λ (l : List ℕ). Judges (content_fault inputs names c.args.number (strip_carriage_return l)) (λ (x : Unit {0}). Took inputs names c.args.number l c.judge.new.columns) (Err c.in-Err-judge.fault)) (ap (take n) c.held.ensures.value) (c.in-Err-judge.ensures.judges names s.layout_is))
    c.in-Ok-Ended.ensures.cause.kept in
    (t.0, t.1, subst (FaultIs inputs (taken ++ t.0) found.fresh (g.S.Source.left c.next_line.new.source) (g.S.Source.faults c.args.source.now) (g.S.Source.faults c.next_line.new.source)) (sym c.of_line.ensures) fault)

pub returns-in-Ok-Long-clause-line : goal.returns-in-Ok-Long-clause-line
returns-in-Ok-Long-clause-line g c taken given s =
    let t = c.in-Ok-Long.ensures.taken in
    let found = c.next_line.new.buffer in
    let finds = rw c.in-Ok-Long.field-0-is at c.in-Ok-Long.ensures.finds in (
      t.0,
      t.1,
      refused_fault c.args.inputs.now _ _ _ _ _ c.args.number k.LineTooLong c.refuse-in-Ok-Long.result c.refuse-in-Ok-Long.ensures
          (refused_tail c.args.inputs.now c.args.number c.args.columns.now c.args.buffer.now found taken given t.0 k.LineTooLong s t.2 finds.0 (long_tail c.args.number found.bytes finds.1))
          (in_time c.args.inputs.now c.args.number c.args.columns.now c.args.buffer.now found taken given t.0 s t.2 c.in-Ok-Long.ensures.time)
          (long_only _) c.in-Ok-Long.ensures.cause.kept,
    )

pub returns-in-Ok-Last-clause-line : goal.returns-in-Ok-Last-clause-line
returns-in-Ok-Last-clause-line g c taken given s =
    let t = c.in-Ok-Last.ensures.taken in
    let found = c.next_line.new.buffer in
    let finds = rw c.in-Ok-Last.field-0-is at c.in-Ok-Last.ensures.finds in
    let line = last_line c.args.inputs.now c.args.number c.args.columns.now c.args.buffer.now found taken given t.0 (g.S.Source.left c.next_line.new.source) (g.S.Source.faults c.args.source.now)
    (g.S.Source.faults c.next_line.new.source) (nat_lt 1 c.args.number && (length found.bytes == 0)) s t.2 c.in-Ok-Last.ensures.time finds.0 finds.1 c.in-Ok-Last.ensures.cause.kept refl in
    (t.0, t.1, subst (LineIs c.args.inputs.now c.args.number given (taken ++ t.0) c.args.columns.now found (g.S.Source.left c.next_line.new.source) (g.S.Source.faults c.args.source.now) (g.S.Source.faults c.next_line.new.source)) (sym (c.end_after.ensures ∙ ap (end_of c.args.number) c.held-in-Ok-Last.ensures.value)) line)

pub returns-in-Err-clause-line : goal.returns-in-Err-clause-line
returns-in-Err-clause-line g c taken given s =
    let t = c.in-Err.ensures.taken in
    (t.0, t.1, (c.in-Err.ensures.cause.failed, goes_on c.args.inputs.now c.args.number c.args.columns.now c.args.buffer.now c.next_line.new.buffer taken given t.0 s t.2 c.in-Err.ensures.finds))
