use Rattle.std.proofs.Common.{◌∙◌, ap}
use Rattle.vl_sized.specs.declared.node.Node.TheVariants as n
use Rattle.vl_sized.specs.Nodes.{at_of, reads_of}
use Rattle.vl_sized.proofs.NodeViews.{at-test-more, reads-test-more}
use Rattle.vl_sized.proofs.build.test_pushed.Goals as goal

pub returns-clause-value : goal.returns-clause-value
returns-clause-value c = λ ns t.
    ap (λ ks. at_of ns t (n.Tests c.args.first ks)) c.in_ok-push.ensures.ok ∙ at-test-more ns t c.args.first c.args.tests c.args.test

pub returns-clause-reads : goal.returns-clause-reads
returns-clause-reads c = λ ns.
    ap (λ ks. reads_of ns (n.Tests c.args.first ks)) c.in_ok-push.ensures.ok ∙ reads-test-more ns c.args.first c.args.tests c.args.test
