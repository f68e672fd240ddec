use Rattle.std.proofs.Common.{◌∷◌, refl, get_or, ◌+◌, ◌-◌, ◌<◌, ◌∙◌, ap, sym, take, drop, length, arith}
use Rattle.std.proofs.lemmas.List.{take_all, length-drop, get_or_default}
use Rattle.std.proofs.lemmas.Bool.{ltb-true, ne_eqb}
use Rattle.stimulus.specs.Stimulus.{words}
use Rattle.stimulus.proofs.DigitLaws.{all_digits, digits_space, digits_other, not_digits}
use Rattle.stimulus.proofs.digits.after_digits.Goals as goal

pub returns-in-None : goal.returns-in-None
returns-in-None c = all_digits c.args.bytes.now c.args.count (omega (arith, c.in-None.ensures.lookup)) c.requires.digits.digits

pub returns-in-Some-eq32 : goal.returns-in-Some-eq32
returns-in-Some-eq32 c =
    let bytes = c.args.bytes.now in
    let n = c.args.count in
    let rest = drop (n + 1) bytes in
    let all = take_all (length bytes - (n + 1)) rest (omega (arith, length-drop (n + 1) bytes)) in
    digits_space bytes n (ltb-true n (length bytes) (sym c.in-Some-eq32.ensures.lookup.0)) (get_or_default bytes n 0 c.in-Some-eq32.field-0.now (ltb-true n (length bytes) (sym c.in-Some-eq32.ensures.lookup.0)) ∙ sym c.in-Some-eq32.ensures.lookup.1 ∙ c.in-Some-eq32.field-0-test) c.requires.digits.digits ∙ ap (λ t. take n bytes ∷ words t) (sym all)

pub returns-in-Some : goal.returns-in-Some
returns-in-Some c =
    let bytes = c.args.bytes.now in
    let n = c.args.count in
    let less : n < length bytes = ltb-true n (length bytes) (sym c.in-Some.ensures.lookup.0) in
    let bad = digits_other bytes n less (c.requires.digits.ends less) (ne_eqb (get_or bytes n 0) 32 (λ is. c.in-Some.field-0-test.1 (c.in-Some.ensures.lookup.1 ∙ get_or_default bytes n c.in-Some.field-0.now 0 less ∙ is))) c.requires.digits.digits in
    (refl, bad.0, bad.1, bad.2, not_digits bad.0 bad.3)
