use Rattle.std.proofs.Common.{◌≡◌, ◌∙◌, ap, sym, subst}
use Rattle.std.specs.Prelude.{IfOk}
use Rattle.vl_width.specs.Terms.{At, at_of, stepped, step_at}
use Rattle.vl_width.proofs.TermViews.{at-chain}
use Rattle.vl_width.proofs.term.Term.then.Goals as goal

pub returns-in-Chain : goal.returns-in-Chain
returns-in-Chain c =
    subst (λ (a : At). IfOk c.pushed.result (λ t. at_of t ≡ (λ w s. stepped w s (a w s) (step_at c.args.step))))
    (sym (ap at_of c.in-Chain.is ∙ at-chain c.in-Chain.first c.in-Chain.steps)) c.pushed.ensures
