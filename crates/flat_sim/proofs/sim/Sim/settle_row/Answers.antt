use Rattle.std.proofs.Common.{◌≡◌, length, drop, sym, ap, ◌∙◌, subst}
use Rattle.std.specs.Prelude.{map}
use Rattle.netlist.specs.Run.{FlatSettles}
use Rattle.step_program.specs.Values.{contents}
use Rattle.step_program.specs.Plan.{IsReady, held, given_in, ran}
use Rattle.net_compile.specs.Cycle.{RowFits}
use Rattle.held_state.specs.Slots.{numbers, with_numbers, AllTake}
use Rattle.held_state.specs.States.{RegistersFit}
use Rattle.netlist.specs.Values.{Values}
use Rattle.flat_sim.proofs.Settles.{Settled, valued}
use Rattle.held_state.proofs.Machines.{put_row}
use Rattle.held_state.proofs.Takes.{row_takes}
use Rattle.flat_sim.proofs.Ran.{RanOver, ran_over, state_in}
use Rattle.flat_sim.proofs.sim.Sim.settle_row.Goals as goal

pub put_all-requires : goal.put_all-requires
put_all-requires c =
    let a = c.self.inside in
    let f = a.flat.now in
    let e : c.later_slots-inputs.result.now ≡ drop (length f.registers) a.compiled.front.slots =
    c.later_slots-inputs.ensures ∙ ap (λ rs. drop (length rs) c.given.result.now) c.registers.ensures.registers
    ∙ ap (λ ss. drop (length f.registers) ss) c.given.ensures in
    subst (λ ss. AllTake (length a.slots.narrow.items) (length a.slots.wide.items) ss c.args.row.now) (sym e)
    (row_takes f a.compiled (held a.slots) c.args.row.now c.self.invariant.fits c.self.invariant.compiles
    c.self.invariant.ready (c.requires.count ∙ ap (λ v. length v.flat.inputs) (sym c.self.view_is))
    (subst (λ v. RowFits v.flat c.args.row.now) (sym c.self.view_is) c.requires.fits))

pub run-requires : goal.run-requires
run-requires c =
    let a = c.self.inside in
    let f = a.flat.now in
    let e : c.later_slots-inputs.result.now ≡ drop (length f.registers) a.compiled.front.slots =
    c.later_slots-inputs.ensures ∙ ap (λ rs. drop (length rs) c.given.result.now) c.registers.ensures.registers
    ∙ ap (λ ss. drop (length f.registers) ss) c.given.ensures in
    let put = c.put_all.ensures ∙ ap (λ ss. with_numbers (held a.slots) ss c.args.row.now) e in
    subst (λ p. IsReady p (held c.put_all.new.values)) (sym c.program.ensures)
    (subst (λ x. IsReady a.compiled.plan x) (sym put)
    (put_row f a.compiled (held a.slots) c.args.row.now c.self.invariant.compiles c.self.invariant.ready
    (c.requires.count ∙ ap (λ v. length v.flat.inputs) (sym c.self.view_is))).ready)

over : (c : goal.After-self-1)
    → RanOver c.self.inside.flat.now c.self.inside.compiled c.self.inside.words.items (held c.self.inside.slots)
    (held c.run.new.slots) c.args.row.now
over c =
    let a = c.self.inside in
    let f = a.flat.now in
    let row = c.args.row.now in
    let x = held a.slots in
    let y = held c.run.new.slots in
    let plan = a.compiled.plan in
    let e : c.later_slots-inputs.result.now ≡ drop (length f.registers) a.compiled.front.slots =
    c.later_slots-inputs.ensures ∙ ap (λ rs. drop (length rs) c.given.result.now) c.registers.ensures.registers
    ∙ ap (λ ss. drop (length f.registers) ss) c.given.ensures in
    let z = with_numbers x (drop (length f.registers) a.compiled.front.slots) row in
    let put : held c.put_all.new.values ≡ z = c.put_all.ensures ∙ ap (λ ss. with_numbers x ss row) e in
    let value : y ≡ ran plan (map contents a.words.items) (given_in plan z) =
    subst (λ p. y ≡ ran p (map contents a.words.items) (given_in p z)) c.program.ensures
    (subst (λ ws. y ≡ ran c.program.result.now (map contents ws) (given_in c.program.result.now z)) c.deref.ensures.value
    (subst (λ u. y ≡ ran c.program.result.now (map contents c.deref.result.now) (given_in c.program.result.now u)) put
    c.run.ensures.value)) in
    let same : given_in plan y ≡ given_in plan z =
    subst (λ p. given_in p y ≡ given_in p z) c.program.ensures
    (subst (λ u. given_in c.program.result.now y ≡ given_in c.program.result.now u) put c.run.ensures.given) in
    ran_over f c.self.invariant.order.0 a.compiled a.words.items x y row c.settles_law.ensures
    (record { are = c.values_law.ensures.are; alone = c.values_law.ensures.alone }) c.self.invariant.fits
    c.self.invariant.order.1 c.self.invariant.compiles c.self.invariant.ready c.self.invariant.words
    c.self.invariant.registers (c.requires.count ∙ ap (λ v. length v.flat.inputs) (sym c.self.view_is))
    (subst (λ v. RowFits v.flat row) (sym c.self.view_is) c.requires.fits) value
    (subst (λ p. IsReady p y) c.program.ensures c.run.ensures.ready) same

now_settled : (c : goal.After-self-1)
    → Settled c.self.inside.flat.now
    (state_in c.self.inside.flat.now c.self.inside.compiled c.self.inside.words.items (held c.run.new.slots))
    (numbers (held c.run.new.slots) (drop (length c.self.inside.flat.now.registers) c.self.inside.compiled.front.slots))
    (numbers (held c.run.new.slots) c.self.inside.compiled.nodes)
now_settled c =
    subst (λ r. Settled c.self.inside.flat.now
    (state_in c.self.inside.flat.now c.self.inside.compiled c.self.inside.words.items (held c.run.new.slots)) r
    (numbers (held c.run.new.slots) c.self.inside.compiled.nodes)) (sym (over c).inputs) (over c).settled

pub invariant_of-self : goal.invariant_of-self
invariant_of-self c =
    let a = c.self.inside in
    record {
      fits = c.self.invariant.fits;
      order = c.self.invariant.order;
      compiles = c.self.invariant.compiles;
      ready = subst (λ p. IsReady p (held c.run.new.slots)) c.program.ensures c.run.ensures.ready;
      registers = subst (λ ns. RegistersFit a.flat.now.registers ns) (sym (over c).state) c.self.invariant.registers;
      words = c.self.invariant.words;
      commit = c.self.invariant.commit;
      stops = c.self.invariant.stops;
      settled = λ e. record {
        nodes = (now_settled c).nodes;
        fit = (now_settled c).fit;
        row = subst (λ r. RowFits a.flat.now r) (sym (over c).inputs)
            (subst (λ v. RowFits v.flat c.args.row.now) (sym c.self.view_is) c.requires.fits);
        settles = (now_settled c).settles;
      };
    }

same_state : (c : goal.After-self-1)
    → state_in c.self.inside.flat.now c.self.inside.compiled c.self.inside.words.items (held c.run.new.slots)
    ≡ state_in c.self.inside.flat.now c.self.inside.compiled c.self.inside.words.items (held c.self.inside.slots)
same_state c =
    ap (λ ns. record {
      registers = ns;
      memories = (state_in c.self.inside.flat.now c.self.inside.compiled c.self.inside.words.items
          (held c.self.inside.slots)).memories;
    }) (over c).state

pub returns-clause-state : goal.returns-clause-state
returns-clause-state c = same_state c ∙ ap (λ v. v.state) c.self.view_is

abbrev settled_values : (c : goal.After-self-1) → Values
settled_values c =
    valued c.self.inside.flat.now
    (state_in c.self.inside.flat.now c.self.inside.compiled c.self.inside.words.items (held c.run.new.slots))
    (numbers (held c.run.new.slots) (drop (length c.self.inside.flat.now.registers) c.self.inside.compiled.front.slots))
    (numbers (held c.run.new.slots) c.self.inside.compiled.nodes)

pub returns-clause-values : goal.returns-clause-values
returns-clause-values c =
    let f = c.self.inside.flat.now in
    let row = c.args.row.now in
    subst (λ v. FlatSettles v.flat v.state row (settled_values c)) c.self.view_is
    (subst (λ s. FlatSettles f s row (settled_values c)) (same_state c)
    (subst (λ r. FlatSettles f
    (state_in f c.self.inside.compiled c.self.inside.words.items (held c.run.new.slots)) r (settled_values c)) (over c).inputs
    (now_settled c).settles))
