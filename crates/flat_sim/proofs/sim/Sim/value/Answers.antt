use Rattle.std.proofs.Common.{◌≡◌, true, ◌<◌, ◌^◌, length, take, drop, get_or, sym, ap, ◌∙◌, subst}
use Rattle.std.specs.Prelude.{if◌then◌else◌, slice_get, slice_index, Some, None, IsSome, IsSomeAnd}
use Rattle.netlist.specs.Run.{role_value}
use Rattle.netlist.specs.Values.{node_values}
use Rattle.net_compile.specs.Cycle.{signal_width}
use Rattle.step_program.specs.Plan.{held}
use Rattle.held_state.specs.Slots.{numbers}
use Rattle.flat_sim.specs.Signals.{with_registers, with_driven}
use Rattle.flat_sim.specs.Inside.{HasSettled, values_of, state_of, row_of, nodes_of}
use Rattle.flat_sim.proofs.Advances.{was_settled}
use Rattle.flat_sim.proofs.Parts.{signal_at, signal_fits, width_is, role_fits, value_of}
use Rattle.flat_sim.proofs.sim.Sim.value.Goals as goal

pub own_value-own-requires-clause-fits : goal.own_value-own-requires-clause-fits
own_value-own-requires-clause-fits c =
    let a = c.self.inside in
    let f = a.flat.now in
    let signal = c.args.signal in
    let x = c.index-signals-signal.result in
    let s : a.settled ≡ true =
    was_settled a.settled (values_of a) (subst (λ v. IsSome v.values) (sym c.self.view_is) c.requires.settled) in
    let settled : HasSettled a = c.self.invariant.settled s in
    let l : signal < length f.signals = subst (λ v. signal < length v.flat.signals) (sym c.self.view_is) c.requires.signal in
    let is : x ≡ get_or f.signals signal x =
    subst (λ ss. x ≡ get_or ss signal x) c.signals.ensures.signals c.index-signals-signal.is in
    let fits = signal_fits f signal x c.self.invariant.fits l is in
    let e : c.later_slots-inputs.result.now ≡ drop (length f.registers) a.compiled.front.slots =
    c.later_slots-inputs.ensures ∙ ap (λ rs. drop (length rs) c.given-2.result.now) c.registers-parts.ensures.registers
    ∙ ap (λ ss. drop (length f.registers) ss) c.given-2.ensures in
    subst (λ ss. role_value (numbers (held a.slots) ss) x.kept x.role < 2 ^ x.width) (sym e)
    (role_fits f (row_of a) signal x.width x.kept x.role settled.row (width_is f signal x l is) fits.2 fits.3)

pub returns-clause-width : goal.returns-clause-width
returns-clause-width c =
    let f = c.self.inside.flat.now in
    let signal = c.args.signal in
    let x = c.index-signals-signal.result in
    let l : signal < length f.signals = subst (λ v. signal < length v.flat.signals) (sym c.self.view_is) c.requires.signal in
    let is : x ≡ get_or f.signals signal x =
    subst (λ ss. x ≡ get_or ss signal x) c.signals.ensures.signals c.index-signals-signal.is in
    let width : c.with_driven.result.width ≡ x.width =
    c.with_driven.ensures.width ∙ c.with_registers-value.ensures.width ∙ c.own_value-own.ensures.width in
    subst (λ v. IsSomeAnd (slice_get v.flat.signals signal) (λ y. c.with_driven.result.width ≡ y.width)) c.self.view_is
    (subst (λ o. IsSomeAnd o (λ y. c.with_driven.result.width ≡ y.width)) (sym (signal_at f signal x l is)) width)

pub returns-clause-value : goal.returns-clause-value
returns-clause-value c =
    let a = c.self.inside in
    let f = a.flat.now in
    let signal = c.args.signal in
    let x = c.index-signals-signal.result in
    let s : a.settled ≡ true =
    was_settled a.settled (values_of a) (subst (λ v. IsSome v.values) (sym c.self.view_is) c.requires.settled) in
    let settled : HasSettled a = c.self.invariant.settled s in
    let l : signal < length f.signals = subst (λ v. signal < length v.flat.signals) (sym c.self.view_is) c.requires.signal in
    let is : x ≡ get_or f.signals signal x =
    subst (λ ss. x ≡ get_or ss signal x) c.signals.ensures.signals c.index-signals-signal.is in
    let w = signal_width f.signals signal in
    let later : c.later_slots-inputs.result.now ≡ drop (length f.registers) a.compiled.front.slots =
    c.later_slots-inputs.ensures ∙ ap (λ rs. drop (length rs) c.given-2.result.now) c.registers-parts.ensures.registers
    ∙ ap (λ ss. drop (length f.registers) ss) c.given-2.ensures in
    let first : c.first_slots-given.result.now ≡ take (length f.registers) a.compiled.front.slots =
    c.first_slots-given.ensures ∙ ap (λ rs. take (length rs) c.given.result.now) c.registers-parts.ensures.registers
    ∙ ap (λ ss. take (length f.registers) ss) c.given.ensures in
    let own : c.own_value-own.result.value ≡ role_value (row_of a) x.kept x.role =
    c.own_value-own.ensures.value ∙ ap (λ ss. role_value (numbers (held a.slots) ss) x.kept x.role) later in
    let own_width : c.own_value-own.result.width ≡ w = c.own_value-own.ensures.width ∙ sym (width_is f signal x l is) in
    let registers : c.with_registers-value.result.value
    ≡ with_registers signal w f.registers (state_of a).registers (role_value (row_of a) x.kept x.role) =
    c.with_registers-value.ensures.value
    ∙ ap (λ u. with_registers signal u c.registers-parts.result.now (numbers (held a.slots) c.first_slots-given.result.now)
    c.own_value-own.result.value) own_width
    ∙ ap (λ ps. with_registers signal w ps (numbers (held a.slots) c.first_slots-given.result.now) c.own_value-own.result.value)
    c.registers-parts.ensures.registers
    ∙ ap (λ ss. with_registers signal w f.registers (numbers (held a.slots) ss) c.own_value-own.result.value) first
    ∙ ap (λ v. with_registers signal w f.registers (state_of a).registers v) own in
    let nodes : c.nodes.result.numbers ≡ node_values f (values_of a) =
    subst (λ b. IsSomeAnd (if b then Some (values_of a) else None) (λ v. c.nodes.result.numbers ≡ node_values f v)) s
    (subst (λ u. IsSomeAnd u.values (λ v. c.nodes.result.numbers ≡ node_values u.flat v)) (sym c.self.view_is)
    c.nodes.ensures.numbers) in
    let driven : c.with_driven.result.value
    ≡ with_driven signal w f.driven (nodes_of a)
    (with_registers signal w f.registers (state_of a).registers (role_value (row_of a) x.kept x.role)) =
    c.with_driven.ensures.value
    ∙ ap (λ u. with_driven signal u c.driven.result.now c.nodes.result.numbers c.with_registers-value.result.value)
    (c.with_registers-value.ensures.width ∙ own_width)
    ∙ ap (λ ps. with_driven signal w ps c.nodes.result.numbers c.with_registers-value.result.value) c.driven.ensures.driven
    ∙ ap (λ xs. with_driven signal w f.driven xs c.with_registers-value.result.value) (nodes ∙ sym settled.nodes)
    ∙ ap (λ v. with_driven signal w f.driven (nodes_of a) v) registers in
    let value : c.with_driven.result.value ≡ slice_index (values_of a).signals signal =
    driven ∙ sym (value_of f (state_of a) (row_of a) (nodes_of a) signal x l is) in
    subst (λ u. IsSomeAnd u.values (λ v. c.with_driven.result.value ≡ slice_index v.signals signal)) c.self.view_is
    (subst (λ b. IsSomeAnd (if b then Some (values_of a) else None)
    (λ v. c.with_driven.result.value ≡ slice_index v.signals signal)) (sym s) value)
