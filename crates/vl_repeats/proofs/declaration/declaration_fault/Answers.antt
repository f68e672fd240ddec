use Rattle.std.proofs.Common.{sym, ap, ◌∙◌}
use Rattle.vl_value.specs.Order.{lesser, least}
use Rattle.vl_value.proofs.OrderLaws.{least_joined}
use Rattle.vl_design.specs.Spans.{words_faults}
use Rattle.vl_design.specs.Declarations.{Declared}
use Rattle.vl_design.specs.ObjectFaults.{declaration_faults, local_faults}
use Rattle.vl_span.specs.Plain.{plain_span}
use Rattle.vl_declares.specs.Plain.{plain, plain_local}
use Rattle.vl_repeats.proofs.declaration.declaration_fault.Goals as goal

pub returns-in-Memory : goal.returns-in-Memory
returns-in-Memory c =
    let l = plain_local c.in-Memory.local in let ws = plain_span c.in-Memory.words in
    c.lesser-in-Memory.ensures ∙ (λ i. lesser (c.local_fault-in-Memory.ensures i) (c.words_fault.ensures i))
    ∙ sym (least_joined (local_faults l) (words_faults ws))
    ∙ ap (λ (d : Declared). least (declaration_faults d)) (sym (ap plain c.in-Memory.is))
