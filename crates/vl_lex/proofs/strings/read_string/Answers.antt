use Rattle.std.proofs.Common.{rules, ◌≡◌, ◌++◌, ◌∷◌, [], arith, length-drop}
use Rattle.std.proofs.lemmas.Result.{err_from_is_err_and}
use Rattle.vl_lex.proofs.StringLaws.{string_start, string_more, string_end, string_stuck}
use Rattle.vl_lex.proofs.strings.read_string.Goals as goal

pub loop-text-init : goal.loop-text-init
loop-text-init c = record {
  so_far = string_start c.args.bytes.now c.in-Ok.text c.in-Ok.ensures;
  within = omega arith;
}

pub loop-text-preserved : goal.loop-text-preserved
loop-text-preserved c =
    let e = rw c.in-Some.is at c.in_ok-character.ensures.character in
    let u = rw c.in-Some.is at c.in_ok-character.ensures.used in
    let t : c.push.new.self ≡ c.loop-text.text ++ c.in-Some.character.byte ∷ [] = search rules in
    let b = c.after-rest.ensures in
    let d = length-drop c.in-Some.character.used c.loop-text.rest.now in
    record {
      so_far = rw (t, b) (string_more c.args.bytes.now c.loop-text.text c.loop-text.rest.now c.in-Some.character.byte c.in-Some.character.used c.loop-text.invariant.within
          c.loop-text.invariant.so_far e u.0 u.1);
      within = rw (b, d) (omega (arith, c.loop-text.invariant.within));
    }

pub returns-clause-quotes : goal.returns-clause-quotes
returns-clause-quotes c =
    let e = rw c.in_default-2.is at c.in_ok-character.ensures.character in
    string_end c.args.bytes.now c.loop-text.text c.loop-text.rest.now c.loop-text.invariant.so_far e

pub returns-in_err-character-clause-quotes : goal.returns-in_err-character-clause-quotes
returns-in_err-character-clause-quotes c =
    let p = err_from_is_err_and c.from_residual.result c.from_residual.ensures.1 in
    rw (p.1, p.2) (string_stuck c.args.bytes.now c.loop-text.text c.loop-text.rest.now c.loop-text.invariant.so_far c.in_err-character.field-0.0 c.in_err-character.ensures.character)
