use Rattle.std.proofs.Common.{◌≡◌, ◌+◌, ◌∷◌, map, drop, sym, ap, ◌∙◌}
use Rattle.std.proofs.lemmas.List.{drop_more}
use Rattle.vl_parameters.specs.Plain.{plain_given, given_in}
use Rattle.vl_parameters.proofs.Weighing.{given_first}
use Rattle.vl_parameters.proofs.worth.given_to.Goals as goal

pub returns-then-eq : goal.returns-then-eq
returns-then-eq c =
    let xs = c.args.given.now in let k = c.loop-one.one-index in let one = c.one-item.result in
    let e : drop k xs ≡ one ∷ drop (k + 1) xs = drop_more xs k one c.loop-one-test.true ∙ ap (λ y. y ∷ drop (k + 1) xs) (sym c.one-item.is) in
    given_first c.args.name.now (plain_given one) (map plain_given (drop (k + 1) xs)) _ (sym c.eq.ensures ∙ c.if-eq.true)
    (ap (λ ys. given_in (map plain_given ys) c.args.name.now) (sym e) ∙ c.loop-one.invariant)
