use Rattle.std.proofs.Common.{◌∙◌, ap}
use Rattle.vl_width.specs.declared.term.Term.TheVariants as term
use Rattle.vl_width.specs.Terms.{at_of}
use Rattle.vl_width.proofs.TermViews.{at-one-more}
use Rattle.vl_width.proofs.term.pushed.Goals as goal

pub returns : goal.returns
returns c =
    ap (λ ks. at_of (term.Chain c.args.first ks)) c.in_ok-push.ensures.ok ∙ at-one-more c.args.first c.args.steps c.args.step
