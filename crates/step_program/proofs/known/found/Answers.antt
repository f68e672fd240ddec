use Rattle.std.proofs.Common.{◌∙◌, sym}
use Rattle.step_program.specs.declared.entry.Entry.{Entry}
use Rattle.step_program.proofs.known.found.Goals as goal

pub returns-then-is_same : goal.returns-then-is_same
returns-then-is_same c =
    let x : Entry = record { step = c.args.step.now; slot = c.in_ok-entry.entry.now.slot } in
    let same = c.is_same.ensures c.if-is_same.true in (
      c.in_ok-index.field-0.now,
      c.in_ok-entry.ensures.lookup.3.0,
      sym (c.in_ok-entry.ensures.lookup.3.1 x) ∙ (λ i. record { step = same i; slot = c.in_ok-entry.entry.now.slot }),
    )
