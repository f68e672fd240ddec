use Rattle.std.proofs.Common.{◌+◌, ◌*◌, ◌/◌, ◌^◌, ℕ, ap, ◌∙◌, arith}
use Rattle.packed_rows.specs.Words.{place, written}
use Rattle.packed_rows.proofs.PackLaws.{high_part, one_word, put_parts}
use Rattle.packed_rows.proofs.pack.put.Goals as goal

pub overflow_cast-value : goal.overflow_cast-value
overflow_cast-value c = omega (arith, one_word c.args.value c.args.width c.if-width-le64.true c.requires.fits)

pub put_few-requires-2-clause-fits : goal.put_few-requires-2-clause-fits
put_few-requires-2-clause-fits c = high_part c.args.value c.args.width (omega arith) c.requires.fits

pub returns-clause-written : goal.returns-clause-written
returns-clause-written c =
    let first = c.put_few-held in
    put_parts (written c.args.words.now c.args.held) (place c.args.held) c.args.value (written first.new.words first.result)
    (written c.put_few-2.new.words c.put_few-2.result)
    (first.ensures.written ∙ ap (λ (x : ℕ). written c.args.words.now c.args.held + 2 ^ place c.args.held * x) c.low_word.ensures)
    (c.put_few-2.ensures.written
    ∙ ap (λ (p : ℕ). written first.new.words first.result + 2 ^ p * (c.args.value / 2 ^ 64)) first.ensures.place)
