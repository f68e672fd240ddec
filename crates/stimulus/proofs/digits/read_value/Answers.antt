use Rattle.std.proofs.Common.{◌≡◌, ◌<◌, sym, subst, take, get_or, length, false, arith}
use Rattle.std.specs.Char.{is_ascii_hexdigit}
use Rattle.std.proofs.lemmas.List.{length-take-le}
use Rattle.std.proofs.lemmas.Bool.Decides.{nat_tests}
use Rattle.stimulus.specs.Stimulus.{number_of}
use Rattle.stimulus.proofs.DigitLaws.{no_digits, not_number, a_number, is_digits, known_small}
use Rattle.stimulus.proofs.digits.read_value.Goals as goal

pub returns-then-not-is_value : goal.returns-then-not-is_value
returns-then-not-is_value c =
    let bytes = c.args.bytes.now in
    let run = c.read_digits-run.ensures.digits in
    let zero : c.read_digits-run.result.count ≡ 0 = grind (arith, nat_tests, c.is_value.ensures, c.if-not-is_value.true) in
    let none = no_digits bytes (λ some. subst (λ n. is_ascii_hexdigit (get_or bytes n 0) ≡ false) zero (run.ends (omega arith))) in
    (none.0, none.1, none.2, not_number c.args.width none.0 none.3)

pub returns-else-is_too_large : goal.returns-else-is_too_large
returns-else-is_too_large c =
    let bytes = c.args.bytes.now in
    let run = c.read_digits-run in
    let value = take run.result.count bytes in
    let one : 0 < run.result.count = grind (arith, nat_tests, c.is_value.ensures, c.if-not-is_value.false) in
    let some : 0 < length value = omega (arith, one, length-take-le run.result.count bytes run.ensures.digits.within) in
    let small = c.if-is_too_large.ensures (number_of value) run.ensures.number in (
      value,
      c.in-Ok.ensures,
      a_number c.args.width value false (is_digits value some run.ensures.digits.digits) small,
      known_small run.result.number.over run.result.number.value (number_of value) c.args.width run.ensures.number c.requires (sym small),
    )
