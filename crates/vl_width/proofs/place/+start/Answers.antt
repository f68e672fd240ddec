use Rattle.std.proofs.Common.{◌≡◌, sym, ap, ◌∙◌}
use Rattle.vl_tree.specs.SyntaxView as view
use Rattle.vl_value.specs.Faults as faults
use Rattle.vl_width.specs.Lists.{choices_of}
use Rattle.vl_width.proofs.Views.{expr-choose}
use Rattle.vl_width.proofs.place.+start.Goals as goal

pub start-returns-in-Some : goal.start-returns-in-Some
start-returns-in-Some t c =
    let last = faults.start (view.expr c.in-Choose.last) in
    let e : faults.start (view.expr c.args.e.now) ≡ faults.choices_start (choices_of c.in-Choose.choices) last =
    ap (λ x. faults.start (view.expr x)) c.in-Choose.is ∙ ap faults.start (expr-choose c.in-Choose.choices c.in-Choose.last) in
    sym (e ∙ ap (λ x. faults.choices_start (choices_of x) last) (sym c.as_slice.ensures) ∙ c.in-Some.ensures last)

pub start-returns-in-None : goal.start-returns-in-None
start-returns-in-None t c =
    let last = faults.start (view.expr c.in-Choose.last) in
    let e : faults.start (view.expr c.args.e.now) ≡ faults.choices_start (choices_of c.in-Choose.choices) last =
    ap (λ x. faults.start (view.expr x)) c.in-Choose.is ∙ ap faults.start (expr-choose c.in-Choose.choices c.in-Choose.last) in
    c.start-in-None.ensures ∙ ap (λ x. faults.start (view.expr x)) c.get-in-None.ensures
    ∙ sym (e ∙ ap (λ x. faults.choices_start (choices_of x) last) (sym c.as_slice.ensures) ∙ c.in-None.ensures last)
