use Rattle.std.proofs.Common.{◌∙◌, ap, arith}
use Rattle.std.proofs.lemmas.List.{length-set}
use Rattle.stimulus.specs.Calls.Digits.{words_in}
use Rattle.stimulus.proofs.ValueLaws.{led_on}
use Rattle.stimulus.proofs.digits.read_each.Goals as goal

pub loop-place-preserved : goal.loop-place-preserved
loop-place-preserved c =
    let l = c.loop-place in
    let read = c.in-Ok.ensures in
    record {
      led = led_on c.args.widths.now c.args.line.now l.place l.values l.rest c.in-Ok.after read.0 c.in-Ok.number (omega arith) l.invariant.size l.invariant.led (ap words_in c.in-Some.is ∙ read.1) read.2 read.3;
      size = length-set l.values l.place c.in-Ok.number ∙ l.invariant.size;
    }
