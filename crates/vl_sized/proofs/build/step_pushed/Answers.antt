use Rattle.std.proofs.Common.{◌∙◌, ap}
use Rattle.vl_sized.specs.declared.node.Node.TheVariants as n
use Rattle.vl_sized.specs.Nodes.{at_of, reads_of}
use Rattle.vl_sized.proofs.NodeViews.{at-one-more, reads-one-more}
use Rattle.vl_sized.proofs.build.step_pushed.Goals as goal

pub returns-clause-value : goal.returns-clause-value
returns-clause-value c = λ ns t.
    ap (λ ks. at_of ns t (n.Chain c.args.first ks)) c.in_ok-push.ensures.ok ∙ at-one-more ns t c.args.first c.args.steps c.args.step

pub returns-clause-reads : goal.returns-clause-reads
returns-clause-reads c = λ ns.
    ap (λ ks. reads_of ns (n.Chain c.args.first ks)) c.in_ok-push.ensures.ok ∙ reads-one-more ns c.args.first c.args.steps c.args.step
