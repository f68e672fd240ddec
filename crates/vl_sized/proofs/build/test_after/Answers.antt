use Rattle.std.proofs.Common.{rules, ◌∙◌, ◌≡◌, ◌++◌, sym, ap, subst, List, [], append-nil}
use Rattle.vl_value.specs.Reads.{Reading}
use Rattle.vl_width.specs.Objects.{Numbering}
use Rattle.vl_width.specs.Terms.{At}
use Rattle.vl_sized.specs.Moments.{Moment}
use Rattle.vl_sized.specs.Nodes.{at_of, reads_of}
use Rattle.vl_sized.specs.Plain.{IsWorth, Reads, after_test, run_tests, tests_read_by}
use Rattle.vl_sized.proofs.NodeViews.{at-tests, reads-tests}
use Rattle.vl_sized.proofs.build.test_after.Goals as goal

pub returns-in-Tests-clause-value : goal.returns-in-Tests-clause-value
returns-in-Tests-clause-value c =
    subst (λ (f : Numbering → Moment → At). IsWorth c.test_pushed.result (λ ns t. after_test ns t (f ns t) c.args.test))
    (λ i ns t. sym (ap (at_of ns t) c.in-Tests.is ∙ at-tests ns t c.in-Tests.first c.in-Tests.tests) i) c.test_pushed.ensures.value

pub returns-in-Tests-clause-reads : goal.returns-in-Tests-clause-reads
returns-in-Tests-clause-reads c =
    subst (λ (f : Numbering → List Reading). Reads c.test_pushed.result (λ ns. f ns ++ reads_of ns c.args.test.right.node))
    (λ i ns. sym (ap (reads_of ns) c.in-Tests.is ∙ reads-tests ns c.in-Tests.first c.in-Tests.tests) i) c.test_pushed.ensures.reads

pub returns-in_ok-first-in_default : goal.returns-in_ok-first-in_default
returns-in_ok-first-in_default c =
    let q : c.in_ok-first-in_default.first ≡ c.args.node = search rules in
    let e : c.new-in_default.result ≡ [] = c.new-in_default.ensures in
    record {
      value = subst (λ (f : Numbering → Moment → At). IsWorth c.test_pushed-in_default.result (λ ns t. after_test ns t (f ns t) c.args.test))
          (λ i ns t. run_tests ns t (at_of ns t (q i)) (e i)) c.test_pushed-in_default.ensures.value;
      reads = subst (λ (f : Numbering → List Reading). Reads c.test_pushed-in_default.result (λ ns. f ns ++ reads_of ns c.args.test.right.node))
          (λ i ns. ((λ j. reads_of ns (q j) ++ tests_read_by ns (e j)) ∙ append-nil (reads_of ns c.args.node)) i) c.test_pushed-in_default.ensures.reads;
    }
