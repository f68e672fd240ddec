use Rattle.std.proofs.Common.{◌≡◌, ◌<◌, length, take, sym, ap, ◌∙◌, subst, arith}
use Rattle.std.specs.List.{All}
use Rattle.std.specs.Prelude.{map, None}
use Rattle.step_program.specs.Values.{contents}
use Rattle.step_program.specs.Plan.{IsReady, held}
use Rattle.held_state.specs.Slots.{with_numbers, AllTake}
use Rattle.held_state.specs.Moves.{IsCommit, next_slots}
use Rattle.held_state.specs.Kept.{state_words}
use Rattle.held_state.specs.States.{RegistersFit}
use Rattle.held_state.proofs.GivenLaws.{slot_count, register_count}
use Rattle.held_state.proofs.Machines.{PutState, put_state}
use Rattle.flat_sim.specs.Stops.{stop_slots}
use Rattle.flat_sim.proofs.Fires.{conditions_there}
use Rattle.held_state.proofs.Taken.{next_there}
use Rattle.held_state.proofs.Takes.{state_takes}
use Rattle.flat_sim.proofs.sim.Sim.with.Goals as goal

pub first_slots-given-requires : goal.first_slots-given-requires
first_slots-given-requires c =
    let f = c.args.flat.now in
    omega (
      arith,
      slot_count f c.in_ok-compiled.compiled c.in_ok-compiled.ensures,
      ap length c.registers-parts.ensures.registers,
      ap length c.given.ensures,
    )

pub put_all-requires : goal.put_all-requires
put_all-requires c =
    let f = c.args.flat.now in
    let m = c.in_ok-compiled.compiled in
    let x = held c.in_ok-slots.slots in
    let e : c.first_slots-given.result.now ≡ take (length f.registers) m.front.slots =
    c.first_slots-given.ensures ∙ ap (λ rs. take (length rs) c.given.result.now) c.registers-parts.ensures.registers
    ∙ ap (λ ss. take (length f.registers) ss) c.given.ensures in
    subst (λ ss. AllTake (length x.narrow) (length x.wide) ss c.args.registers.now) (sym e)
    (state_takes f m x c.args.registers.now c.registers-parts.ensures.fits c.in_ok-compiled.ensures
    (subst (λ p. IsReady p x) c.program.ensures c.in_ok-slots.ensures) c.requires.registers)

put : (c : goal.In_ok-commit)
    → PutState (length c.args.flat.now.registers) c.in_ok-compiled.compiled (held c.put_all.new.values) c.args.registers.now
put c =
    let f = c.args.flat.now in
    let m = c.in_ok-compiled.compiled in
    let x = held c.in_ok-slots.slots in
    let e : c.first_slots-given.result.now ≡ take (length f.registers) m.front.slots =
    c.first_slots-given.ensures ∙ ap (λ rs. take (length rs) c.given.result.now) c.registers-parts.ensures.registers
    ∙ ap (λ ss. take (length f.registers) ss) c.given.ensures in
    subst (λ y. PutState (length f.registers) m y c.args.registers.now)
    (sym (c.put_all.ensures ∙ ap (λ ss. with_numbers x ss c.args.registers.now) e))
    (put_state f m x c.args.registers.now c.in_ok-compiled.ensures
    (subst (λ p. IsReady p x) c.program.ensures c.in_ok-slots.ensures)
    (register_count f.registers c.args.registers.now c.requires.registers))

to_slots : (c : goal.In_ok-commit)
    → c.first_slots-given.result.now ≡ take (length c.args.flat.now.registers) c.in_ok-compiled.compiled.front.slots
to_slots c =
    c.first_slots-given.ensures ∙ ap (λ rs. take (length rs) c.given.result.now) c.registers-parts.ensures.registers
    ∙ ap (λ ss. take (length c.args.flat.now.registers) ss) c.given.ensures

pub stop_slots-requires : goal.stop_slots-requires
stop_slots-requires c =
    let f = c.args.flat.now in
    subst (λ bs. All (λ b. All (λ x. x.condition < length c.nodes.result.now) b.events) bs) (sym c.blocks-2.ensures.blocks)
    (subst (λ n. All (λ b. All (λ x. x.condition < n) b.events) f.blocks)
    (sym (ap length c.nodes.ensures ∙ c.in_ok-compiled.ensures.count)) (conditions_there f c.blocks-2.ensures.fits))

pub of-requires-clause-next : goal.of-requires-clause-next
of-requires-clause-next c =
    let f = c.args.flat.now in
    let m = c.in_ok-compiled.compiled in
    subst (λ ps. All (λ p. p.next < length c.nodes-2.result.now) ps) (sym c.registers-parts.ensures.registers)
    (subst (λ n. All (λ p. p.next < n) f.registers)
    (sym (ap length c.nodes-2.ensures ∙ c.in_ok-compiled.ensures.count)) (next_there f c.registers-parts.ensures.fits))

pub invariant_of-result : goal.invariant_of-result
invariant_of-result c =
    let f = c.args.flat.now in
    record {
      fits = c.registers-parts.ensures.fits;
      order = (c.args.order.now, c.requires.order);
      compiles = c.in_ok-compiled.ensures;
      ready = (put c).ready;
      registers = subst (λ ns. RegistersFit f.registers ns) (sym (put c).registers) c.requires.registers;
      words = c.requires.words;
      commit = subst (λ ss. IsCommit ss (next_slots f.registers c.in_ok-compiled.compiled.nodes) c.in_ok-commit.commit) (to_slots c)
          (subst (λ ns. IsCommit c.first_slots-given.result.now (next_slots f.registers ns) c.in_ok-commit.commit) c.nodes-2.ensures
          (subst (λ ps. IsCommit c.first_slots-given.result.now (next_slots ps c.nodes-2.result.now) c.in_ok-commit.commit)
          c.registers-parts.ensures.registers c.in_ok-commit.ensures));
      stops = c.in_ok-stops.ensures ∙ ap (λ ns. stop_slots ns c.blocks-2.result.now) c.nodes.ensures
          ∙ ap (λ bs. stop_slots c.in_ok-compiled.compiled.nodes bs) c.blocks-2.ensures.blocks;
      settled = λ e. absurd cc;
    }

pub returns : goal.returns
returns c =
    ap (λ ns. record {
      flat = c.args.flat.now;
      cycle = c.args.cycle;
      state = record { registers = ns; memories = state_words c.args.flat.now.memories (map contents c.args.words.items) };
      values = None;
    }) (put c).registers
