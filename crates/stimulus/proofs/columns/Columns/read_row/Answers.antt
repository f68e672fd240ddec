use Rattle.std.proofs.Common.{◌∙◌, sym, ap, arith}
use Rattle.std.proofs.lemmas.List.{with_items_is}
use Rattle.stimulus.specs.Stimulus.{numbers_at, row_fault, values_of}
use Rattle.stimulus.specs.Reader.{Layout}
use Rattle.stimulus.proofs.SingleLaws.{row_read}
use Rattle.stimulus.proofs.columns.Columns.read_row.Goals as goal

pub returns-in-Ok-clause-reads : goal.returns-in-Ok-clause-reads
returns-in-Ok-clause-reads c =
    let i = c.self.inside in
    let values = values_of c.args.line.now in
    let read = c.in-Ok.ensures.reads in
    let here = with_items_is i.values c.read_values.new.values (omega arith) in
    let there = with_items_is i.row c.gather.new.row (omega arith) in (
      ap (λ ws. row_fault ws values) (sym (c.deref.ensures.value ∙ ap (λ (l : Layout). l.widths) c.self.view_is)) ∙ read.0,
      row_read i.in_order _ c.deref-in-Ok.result.now _ c.gather.new.row c.deref-in-Ok-2.result.now values
          (sym c.deref-in-Ok.ensures.value) there (c.deref-in-Ok.ensures.value ∙ here ∙ read.1) c.gather.ensures.row
          ∙ ap (numbers_at values) (c.deref-in-Ok-2.ensures.value ∙ ap (λ (l : Layout). l.places) c.self.view_is),
    )
