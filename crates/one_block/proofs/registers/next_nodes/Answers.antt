use Rattle.std.proofs.Common.{◌∙◌, ap, sym, subst, take, length}
use Rattle.std.proofs.lemmas.List.{length-map}
use Rattle.one_block.specs.Calls.Registers.{Takes}
use Rattle.one_block.proofs.OfRegisters.{take_more, begun, takes_more, action_at}
use Rattle.one_block.proofs.registers.next_nodes.Goals as goal

pub loop-action-init : goal.loop-action-init
loop-action-init c = record {
  count = ap length c.in_ok-next.ensures ∙ length-map c.args.registers.now _;
  taken = λ p block are stands.
      begun p c.args.nodes.now c.args.made.now c.args.registers.now c.in_ok-next.next.items block are stands c.in_ok-next.ensures;
}

pub write-requires-clause-fits : goal.write-requires-clause-fits
write-requires-clause-fits c =
    action_at _ _ c.args.actions.now c.loop-action.action-index c.action-item.result c.requires c.loop-action-test.true c.action-item.is

pub loop-action-preserved : goal.loop-action-preserved
loop-action-preserved c = record {
  count = c.in_ok-write.ensures.count;
  taken = λ p block are stands.
      let i = c.loop-action.action-index in
      let old = c.loop-action.invariant.taken p block are stands in
      subst (Takes p c.args.nodes.now c.write.new.nodes c.args.registers.now c.write.new.next.items)
      (sym (take_more c.args.actions.now i c.action-item.result c.loop-action-test.true c.action-item.is))
      (takes_more p c.args.made.now c.args.nodes.now c.loop-action.nodes c.write.new.nodes c.args.registers.now c.loop-action.next.items
      c.write.new.next.items (take i c.args.actions.now) c.action-item.result block are stands old
      (c.in_ok-write.ensures.next p (take i c.args.actions.now)));
}
