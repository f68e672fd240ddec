use Rattle.std.proofs.Common.{◌≡◌, true, sym, ap, ◌∙◌, subst, arith, rules}
use Rattle.std.specs.Prelude.{map, if◌then◌else◌, Some, None, IsSome, IsSomeAnd}
use Rattle.std.specs.Vec.{with_items}
use Rattle.std.proofs.lemmas.List.{with_items_is}
use Rattle.netlist.specs.Run.{flat_next, after_writes}
use Rattle.step_program.specs.Values.{contents}
use Rattle.step_program.specs.Plan.{held}
use Rattle.held_state.specs.Back.{LeadsBack}
use Rattle.held_state.specs.Slots.{numbers}
use Rattle.held_state.specs.Kept.{AllKept}
use Rattle.held_state.specs.Moves.{register_numbers, next_numbers}
use Rattle.held_state.specs.Noting.{AddsWords, AddsRegisters}
use Rattle.flat_sim.specs.Inside.{HasSettled, values_of, state_of}
use Rattle.held_state.proofs.Words.{kept_count}
use Rattle.flat_sim.proofs.Ran.{state_in}
use Rattle.flat_sim.proofs.Advances.{Advanced, advanced, was_settled}
use Rattle.held_state.proofs.NotingLaws.{cycle_noted}
use Rattle.flat_sim.proofs.sim.Sim.note_and_advance.Goals as goal

pub invariant_of-self : goal.invariant_of-self
invariant_of-self c =
    let a = c.self.inside in
    let f = a.flat.now in
    let x = held a.slots in
    let out = c.note_writes.new.words in
    let s : a.settled ≡ true =
    was_settled a.settled (values_of a) (subst (λ v. IsSome v.values) (sym c.self.view_is) c.requires.settled) in
    let settled : HasSettled a = c.self.invariant.settled s in
    let words = subst (λ ns. map contents out ≡ after_writes f (numbers x ns) f.writes (map contents a.words.items)) c.nodes.ensures
    (subst (λ ws. map contents out ≡ after_writes f (numbers x c.nodes.result.now) f.writes (map contents ws))
    c.deref_mut.ensures.value c.note_writes.ensures.value) in
    let done : Advanced f a.compiled a.words.items out x (held c.take_next.new.slots) (values_of a) =
    advanced f a.compiled a.words.items out x (held c.take_next.new.slots) (values_of a) c.self.invariant.fits
    c.self.invariant.compiles c.self.invariant.words settled.nodes settled.fit c.take_next.ensures.registers words in
    let items = with_items_is a.words out (omega (
      arith,
      kept_count f.memories out c.note_writes.ensures.kept,
      kept_count f.memories a.words.items c.self.invariant.words,
      a.words.ok.0,
    )) in
    record {
      fits = c.self.invariant.fits;
      order = c.self.invariant.order;
      compiles = c.self.invariant.compiles;
      ready = c.take_next.ensures.ready;
      registers = done.fits;
      words = subst (λ ws. AllKept f.memories ws) (sym items) c.note_writes.ensures.kept;
      commit = c.take_next.ensures.commit;
      stops = c.self.invariant.stops;
      settled = λ e. absurd cc;
    }

pub returns-clause-state : goal.returns-clause-state
returns-clause-state c =
    let a = c.self.inside in
    let f = a.flat.now in
    let x = held a.slots in
    let out = c.note_writes.new.words in
    let s : a.settled ≡ true =
    was_settled a.settled (values_of a) (subst (λ v. IsSome v.values) (sym c.self.view_is) c.requires.settled) in
    let settled : HasSettled a = c.self.invariant.settled s in
    let words = subst (λ ns. map contents out ≡ after_writes f (numbers x ns) f.writes (map contents a.words.items)) c.nodes.ensures
    (subst (λ ws. map contents out ≡ after_writes f (numbers x c.nodes.result.now) f.writes (map contents ws))
    c.deref_mut.ensures.value c.note_writes.ensures.value) in
    let done : Advanced f a.compiled a.words.items out x (held c.take_next.new.slots) (values_of a) =
    advanced f a.compiled a.words.items out x (held c.take_next.new.slots) (values_of a) c.self.invariant.fits
    c.self.invariant.compiles c.self.invariant.words settled.nodes settled.fit c.take_next.ensures.registers words in
    let items = with_items_is a.words out (omega (
      arith,
      kept_count f.memories out c.note_writes.ensures.kept,
      kept_count f.memories a.words.items c.self.invariant.words,
      a.words.ok.0,
    )) in
    let next = state_in f a.compiled (with_items a.words out).items (held c.take_next.new.slots) in
    let is : next ≡ flat_next f (state_of a) (values_of a) =
    ap (λ ws. state_in f a.compiled ws (held c.take_next.new.slots)) items ∙ done.state in
    subst (λ u. IsSomeAnd u.values (λ v. next ≡ flat_next u.flat u.state v)) c.self.view_is
    (subst (λ b. IsSomeAnd (if b then Some (values_of a) else None) (λ v. next ≡ flat_next f (state_of a) v)) (sym s) is)

pub returns-clause-noted : goal.returns-clause-noted
returns-clause-noted c =
    let a = c.self.inside in
    let f = a.flat.now in
    let x = held a.slots in
    let out = c.note_writes.new.words in
    let notes = c.note_next.new.journal.fresh in
    let words : AddsWords f c.reserve.new.self.fresh c.note_writes.new.journal.fresh a.words.items out =
    subst (λ ws. AddsWords f c.reserve.new.self.fresh c.note_writes.new.journal.fresh ws out) c.deref_mut.ensures.value
    c.note_writes.ensures.noted in
    let registers : AddsRegisters f c.note_writes.new.journal.fresh notes (register_numbers f a.compiled x)
    (next_numbers f (numbers x a.compiled.nodes)) =
    c.note_next.ensures.noted in
    let items = with_items_is a.words out (omega (
      arith,
      kept_count f.memories out c.note_writes.ensures.kept,
      kept_count f.memories a.words.items c.self.invariant.words,
      a.words.ok.0,
    )) in
    let next = state_in f a.compiled (with_items a.words out).items (held c.take_next.new.slots) in
    let leads : LeadsBack f notes next (state_of a) =
    subst (λ ws. LeadsBack f notes (state_in f a.compiled ws (held c.take_next.new.slots)) (state_of a)) (sym items)
    (cycle_noted f c.reserve.new.self.fresh c.note_writes.new.journal.fresh notes a.words.items out (register_numbers f a.compiled x)
    (next_numbers f (numbers x a.compiled.nodes)) (register_numbers f a.compiled (held c.take_next.new.slots))
    (c.in_ok-reserve.ensures.same.fresh ∙ c.requires.fresh) words registers c.take_next.ensures.registers) in
    record {
      notes = notes;
      leads = subst (λ u. LeadsBack u.flat notes next u.state) c.self.view_is leads;
      kept = search rules;
    }
