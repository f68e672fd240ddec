use Rattle.std.proofs.Common.{◌∙◌, ◌+◌, ap, sym, subst, length}
use Rattle.std.proofs.lemmas.List.{length_push}
use Rattle.one_block.specs.Calls.Nodes.{node_of, Makes, Led}
use Rattle.one_block.proofs.OldNodes.{made_more, node_here}
use Rattle.one_block.proofs.operations.made_nodes.Goals as goal

pub loop-node-preserved : goal.loop-node-preserved
loop-node-preserved c =
    let now = c.loop-node.made.items in
    let m = c.in_ok-more.more in
    let n1 = c.loop-node.nodes in
    let n2 = c.made_node.new.nodes in
    let table = c.args.table.now in
    record {
      count = ap length c.in_ok-append.ensures ∙ length_push now m ∙ ap (λ k. k + 1) c.loop-node.invariant.count;
      made = λ p are led.
          made_more p table.signals.items table.inputs.items table.registers.items c.args.nodes.now n1 n2 now c.append.new.list.items m led
          (c.loop-node.invariant.made p are led)
          (λ h. subst (λ ms. Makes p n1 n2 m (node_of p (length ms))) c.deref.ensures.value
          (c.in_ok-more.ensures p
          (node_here p c.args.plain.now c.loop-node.node-index (length c.deref.result.now) _ are
          (ap length c.deref.ensures.value ∙ c.loop-node.invariant.count) c.loop-node-test.true)
          (subst (Led p table.signals.items table.inputs.items table.registers.items n1) (sym c.deref.ensures.value) h)))
          c.in_ok-append.ensures;
    }
