use Rattle.std.proofs.Common.{◌≡◌, ◌∙◌, ap, sym}
use Rattle.vl_width.specs.Terms.{at_of, run_terms}
use Rattle.vl_width.proofs.TermViews.{at-chain}
use Rattle.vl_width.proofs.term.+value.Goals as goal

pub Term::value-returns-in-Chain-clause-value : goal.Term::value-returns-in-Chain-clause-value
Term::value-returns-in-Chain-clause-value t c =
    let w = c.args.size.width in let s = c.args.size.signed in
    let first : c.value-in-Chain.result.value ≡ at_of c.in-Chain.first w s =
    c.value-in-Chain.ensures.value ∙ ap (λ x. at_of x w s) c.get-in-Chain.ensures in
    c.after.ensures.value ∙ (λ i. run_terms w s (first i) (c.as_slice.ensures i))
    ∙ sym (ap (λ x. at_of x w s) c.in-Chain.is ∙ (λ i. at-chain c.in-Chain.first c.in-Chain.steps i w s))
