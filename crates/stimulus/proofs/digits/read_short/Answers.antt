use Rattle.std.proofs.Common.{◌∙◌, ap, arith}
use Rattle.std.proofs.lemmas.List.{length-set}
use Rattle.stimulus.specs.Calls.Digits.{words_in}
use Rattle.stimulus.proofs.ValueLaws.{led_on, passed_on}
use Rattle.stimulus.proofs.digits.read_short.Goals as goal

pub loop-place-preserved : goal.loop-place-preserved
loop-place-preserved c =
    let l = c.loop-place in
    let read = c.in-Some-read_few.ensures in
    record {
      led = λ count. led_on c.args.widths.now c.args.line.now l.place l.values l.rest c.in-Some-read_few.after read.0 c.from.result (omega arith) l.invariant.size (l.invariant.led count) (ap words_in c.in-Some.is ∙ read.1) read.2 (c.from.ensures ∙ read.3);
      passed = passed_on c.args.line.now l.place l.rest c.in-Some-read_few.after read.0 l.invariant.passed (ap words_in c.in-Some.is ∙ read.1);
      size = length-set l.values l.place c.from.result ∙ l.invariant.size;
    }
