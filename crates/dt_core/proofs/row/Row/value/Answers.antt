use Rattle.std.proofs.Common.{◌/◌, ◌%◌, ◌^◌, take, ap, ◌∙◌, arith}
use Rattle.std.specs.List.{sum}
use Rattle.std.proofs.lemmas.List.{get_or_read}
use Rattle.dt_core.specs.Packing.{number}
use Rattle.dt_core.proofs.RowLaws.{value_read, no_value}
use Rattle.dt_core.proofs.row.Row.value.Goals as goal

pub returns-then-k-len : goal.returns-then-k-len
returns-then-k-len c =
    let r = c.self.inside in
    no_value r.widths.items (number r.bytes.items) c.args.k c.args.self.now c.self.view_is (omega arith)

pub returns : goal.returns
returns c =
    let r = c.self.inside in
    let k = c.args.k in
    let width = c.from-width.ensures ∙ get_or_read r.widths.items k c.index.result.now (omega arith) c.index.ensures 0 in
    let from = c.bits_of-from.ensures ∙ ap (λ ws. sum (take k ws)) c.deref.ensures.value in
    let value = c.read.ensures ∙ ap (λ bs. number bs / 2 ^ c.bits_of-from.result % 2 ^ c.from-width.result) c.as_slice.ensures.value in
    value_read r.widths.items r.bytes.items c.args.self.now k c.from-width.result c.bits_of-from.result c.read.result c.new.result
    c.self.view_is c.self.invariant (omega arith) width from value c.new.ensures.some c.new.ensures.value
