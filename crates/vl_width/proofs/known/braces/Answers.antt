use Rattle.std.proofs.Common.{◌≡◌, ◌+◌, ◌∷◌, ◌∙◌, ap, sym, subst, drop, map, arith, List}
use Rattle.std.proofs.lemmas.List.{drop_more}
use Rattle.bit_ops.specs.Operators.{concat}
use Rattle.vl_value.specs.Meaning.{Meaning, own, widths, joined}
use Rattle.vl_width.specs.Terms.{meant}
use Rattle.vl_width.proofs.Numbers.{one_more}
use Rattle.vl_width.proofs.known.braces.Goals as goal

pub loop-part-preserved : goal.loop-part-preserved
loop-part-preserved c =
    let i = c.loop-part.part-index in let rest = c.in_ok-first.rest.now in let k = c.part-item.result in
    let left = map meant (drop (i + 1) rest) in
    let all = map meant c.args.parts.now in
    let a = c.loop-part.joined in
    let e : map meant (drop i rest) ≡ meant k ∷ left =
    ap (map meant) (drop_more rest i k c.loop-part-test.true) ∙ ap (λ y. meant y ∷ left) (sym c.part-item.is) in
    let w : a.width + ((meant k).width + widths left) ≡ widths all =
    subst (λ (ms : List Meaning). a.width + widths ms ≡ widths all) e c.loop-part.invariant.width in
    let v : concat ((meant k).width + widths left) a.value (concat (widths left) (own (meant k)) (joined left)) ≡ joined all =
    subst (λ (ms : List Meaning). concat (widths ms) a.value (joined ms) ≡ joined all) e c.loop-part.invariant.value in
    record {
      width = omega (arith, c.concat-joined.ensures.width, c.own-next.ensures.width, w);
      value = (λ j. concat (widths left) ((c.concat-joined.ensures.value ∙ (λ h. concat (c.own-next.ensures.width h) a.value (c.own-next.ensures.value h))) j) (joined left))
          ∙ one_more a.value (meant k).width (own (meant k)) (widths left) (joined left) ∙ v;
    }
