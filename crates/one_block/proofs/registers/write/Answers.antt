use Rattle.std.proofs.Common.{sym, subst, ◌∙◌, arith}
use Rattle.std.proofs.lemmas.Grind.{get_or_default_zero}
use Rattle.one_block.specs.Calls.Nodes.{HasValue, node_of, range_at}
use Rattle.one_block.specs.Calls.Registers.{after_of}
use Rattle.one_block.proofs.OfRegisters.{written, write_fits, not_written, still}
use Rattle.one_block.proofs.registers.write.Goals as goal

pub returns-in_ok-taken-clause-next : goal.returns-in_ok-taken-clause-next
returns-in_ok-taken-clause-next c = λ p done stands count next.
    let f = write_fits _ _ c.args.action.now _ _ c.in-Write.is c.requires.fits in
    let r = c.in-Write.register in
    let w = (range_at c.args.registers.now r).width in
    let node = get_or_default_zero c.args.next.now.items r c.index.result.now (omega (arith, f.1, next.count)) in
    let old = subst (λ k. HasValue p c.args.nodes.now (record { node = k; width = w }) (after_of p done w r))
    (sym (c.index.ensures ∙ node)) (next.each r f.1) in
    written p c.args.nodes.now c.choice.new.nodes c.args.registers.now c.args.next.now.items done c.args.action.now r c.in-Write.value
    c.in_ok-taken.taken c.in-Write.is f.1 count next
    (c.in_ok-taken.ensures p (node_of p c.args.action.now.condition) (node_of p c.in-Write.value)
    (after_of p done (range_at c.args.registers.now r).width r) (stands.each _ f.0) (stands.each _ f.2) old)

pub returns-in_default : goal.returns-in_default
returns-in_default c = record {
  count = c.requires.count;
  next = λ p done stands count next.
      not_written p c.args.nodes.now c.args.registers.now c.args.next.now.items done c.args.action.now
      (λ vs state. still c.args.action.now.deed c.in_default.not-Write vs state) next;
}
