use Rattle.std.proofs.Common.{◌≡◌, ◌<◌, ◌^◌, sym, ap, ◌∙◌, take, length, false, arith}
use Rattle.std.proofs.lemmas.List.{length-take-le}
use Rattle.std.specs.Prelude.{nat_le}
use Rattle.stimulus.specs.Stimulus.{number_of}
use Rattle.stimulus.proofs.DigitLaws.{a_number, is_digits}
use Rattle.stimulus.proofs.digits.read_few.Goals as goal

pub returns-in-Ok : goal.returns-in-Ok
returns-in-Ok c =
    let bytes = c.args.bytes.now in
    let few = c.few_digits-few in
    let run = few.ensures (omega (arith, c.if-few-eq0.false)) in
    let value = take few.result.count bytes in
    let some : 0 < length value = omega (arith, c.if-few-eq0.false, length-take-le few.result.count bytes run.digits.within) in
    let small : false ≡ nat_le (2 ^ c.args.width) (number_of value) =
    sym c.if-has_more_bits.false ∙ c.has_more_bits.ensures ∙ ap (λ n. nat_le (2 ^ c.args.width) n) (sym run.number) in (
      value,
      c.in-Ok.ensures,
      a_number c.args.width value false (is_digits value some run.digits.digits) small,
      sym run.number,
    )
