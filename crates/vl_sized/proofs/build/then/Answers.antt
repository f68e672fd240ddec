use Rattle.std.proofs.Common.{rules, ◌∙◌, ◌≡◌, ◌++◌, sym, ap, subst, List, [], append-nil}
use Rattle.vl_value.specs.Reads.{Reading}
use Rattle.vl_width.specs.Objects.{Numbering}
use Rattle.vl_width.specs.Terms.{At}
use Rattle.vl_sized.specs.Moments.{Moment}
use Rattle.vl_sized.specs.Nodes.{at_of, reads_of}
use Rattle.vl_sized.specs.Plain.{IsWorth, Reads, after_step, chain_at, step_reading, steps_reading}
use Rattle.vl_sized.proofs.NodeViews.{at-chain, reads-chain}
use Rattle.vl_sized.proofs.build.then.Goals as goal

pub returns-in-Chain-clause-value : goal.returns-in-Chain-clause-value
returns-in-Chain-clause-value c =
    subst (λ (f : Numbering → Moment → At). IsWorth c.step_pushed.result (λ ns t. after_step ns t (f ns t) c.args.step))
    (λ i ns t. sym (ap (at_of ns t) c.in-Chain.is ∙ at-chain ns t c.in-Chain.first c.in-Chain.steps) i) c.step_pushed.ensures.value

pub returns-in-Chain-clause-reads : goal.returns-in-Chain-clause-reads
returns-in-Chain-clause-reads c =
    subst (λ (f : Numbering → List Reading). Reads c.step_pushed.result (λ ns. f ns ++ step_reading ns c.args.step))
    (λ i ns. sym (ap (reads_of ns) c.in-Chain.is ∙ reads-chain ns c.in-Chain.first c.in-Chain.steps) i) c.step_pushed.ensures.reads

pub returns-in_ok-first-in_default : goal.returns-in_ok-first-in_default
returns-in_ok-first-in_default c =
    let q : c.in_ok-first-in_default.first ≡ c.args.node = search rules in
    let e : c.new-in_default.result ≡ [] = c.new-in_default.ensures in
    record {
      value = subst (λ (f : Numbering → Moment → At). IsWorth c.step_pushed-in_default.result (λ ns t. after_step ns t (f ns t) c.args.step))
          (λ i ns t. chain_at ns t (q i) (e i)) c.step_pushed-in_default.ensures.value;
      reads = subst (λ (f : Numbering → List Reading). Reads c.step_pushed-in_default.result (λ ns. f ns ++ step_reading ns c.args.step))
          (λ i ns. ((λ j. reads_of ns (q j) ++ steps_reading ns (e j)) ∙ append-nil (reads_of ns c.args.node)) i) c.step_pushed-in_default.ensures.reads;
    }
