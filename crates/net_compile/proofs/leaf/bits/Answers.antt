use Rattle.std.proofs.Common.{arith, ◌+◌, ◌≤◌}
use Rattle.net_compile.specs.Pieces.{front_of}
use Rattle.step_program.specs.Draft.{Draft}
use Rattle.net_compile.specs.Cycle.{Front}
use Rattle.net_compile.specs.Stands.{Begins, Grows, OperandStands, signal_number}
use Rattle.net_compile.proofs.Standing.{begins_on, grows_on, nodes_stay, some_is}
use Rattle.net_compile.proofs.Nodes.{range_small, joined_bits}
use Rattle.net_compile.proofs.leaf.bits.Goals as goal

pub overflow_add-end : goal.overflow_add-end
overflow_add-end c = omega (arith, range_small c.args.flat.now c.requires.layout.fits c.args.range c.requires.range.0)

pub overflow_add-place : goal.overflow_add-place
overflow_add-place c =
    omega (arith, c.loop-all.invariant.within, range_small c.args.flat.now c.requires.layout.fits c.args.range c.requires.range.0)

pub piece_slot-requires-in-loop-all-clause-nodes : goal.piece_slot-requires-in-loop-all-clause-nodes
piece_slot-requires-in-loop-all-clause-nodes c =
    nodes_stay c.args.flat.now (front_of c.args.layout.now.given) c.args.builder.now c.loop-all.builder c.args.slots.now
    c.requires.begins c.loop-all.invariant.grows c.requires.nodes

pub loop-all-preserved : goal.loop-all-preserved
loop-all-preserved c =
    let front : Front = front_of c.args.layout.now.given in
    let old : Draft = c.loop-all.builder in
    let mid : Draft = c.piece_slot-in-loop-all.new.builder in
    let begins : Begins front old = begins_on front c.args.builder.now old c.requires.begins c.loop-all.invariant.grows in
    let grows : Grows old mid = c.in_ok-next.ensures.grows in
    let within : c.args.range.low + c.loop-all.all.width + c.in-Some-2.next.width ≤ c.args.range.low + c.args.range.width =
    some_is c.in_ok-next.field-0 c.in-Some-2.next
    (λ p. c.args.range.low + c.loop-all.all.width + p.width ≤ c.args.range.low + c.args.range.width) c.in-Some-2.is
    c.in_ok-next.ensures.within in
    let next : OperandStands c.args.flat.now front mid c.in-Some-2.next (signal_number c.args.flat.now front
    c.args.range.signal (c.args.range.low + c.loop-all.all.width) c.in-Some-2.next.width) =
    some_is c.in_ok-next.field-0 c.in-Some-2.next
    (λ p. OperandStands c.args.flat.now front mid p (signal_number c.args.flat.now front c.args.range.signal
    (c.args.range.low + c.loop-all.all.width) p.width)) c.in-Some-2.is c.in_ok-next.ensures.slot in
    record {
      grows = grows_on c.args.builder.now mid c.joined.new.builder
          (grows_on c.args.builder.now old mid c.loop-all.invariant.grows grows) c.in_ok-slot-in-Some-2.ensures.grows;
      within = omega (arith, within);
      stands = joined_bits c.args.flat.now front old mid c.joined.new.builder c.args.range.signal c.args.range.low
          c.in-Some-2.next c.loop-all.all c.in_ok-slot-in-Some-2.slot begins grows (begins_on front old mid begins grows)
          c.loop-all.invariant.stands next c.in_ok-slot-in-Some-2.ensures.joined
          (omega (arith, next.wide.0), omega (arith, within, c.requires.range.1.1));
    }
