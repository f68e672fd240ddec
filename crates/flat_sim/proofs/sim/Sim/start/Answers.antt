use Rattle.std.proofs.Common.{◌≡◌, sym, ap, ◌∙◌, subst}
use Rattle.std.specs.Prelude.{map, IfOk, None}
use Rattle.netlist.specs.declared.design.RegisterPart.{RegisterPart}
use Rattle.netlist.specs.Plain.{PlainMemory}
use Rattle.step_program.specs.Values.{contents}
use Rattle.held_state.specs.Kept.{state_words}
use Rattle.held_state.specs.States.{RegistersFit}
use Rattle.held_state.proofs.Words.{first_same}
use Rattle.flat_sim.proofs.Starts.{initial_fits, state}
use Rattle.flat_sim.proofs.sim.Sim.start.Goals as goal

pub with-requires-clause-registers : goal.with-requires-clause-registers
with-requires-clause-registers c =
    let f = c.args.flat.now in
    let initials = λ (p : RegisterPart). p.initial in
    subst (λ ns. RegistersFit f.registers ns)
    (sym (c.deref.ensures.value ∙ c.in_ok-registers.ensures ∙ ap (map initials) c.registers.ensures.registers))
    (initial_fits f c.registers.ensures.fits)

pub returns : goal.returns
returns c =
    let f = c.args.flat.now in
    let initials = λ (p : RegisterPart). p.initial in
    let ns = c.deref.ensures.value ∙ c.in_ok-registers.ensures ∙ ap (map initials) c.registers.ensures.registers in
    let ws = ap (state_words f.memories)
    (c.in_ok-words.ensures.same ∙ ap (map (λ (m : PlainMemory). m.words)) c.memories.ensures.memories)
    ∙ first_same f.memories in
    subst (λ st. IfOk c.with.result (λ s. s ≡ record { flat = f; cycle = 0; state = st; values = None }))
    (ap (λ n. state n (state_words f.memories (map contents c.in_ok-words.words.items))) ns
    ∙ ap (λ w. state (map initials f.registers) w) ws) c.with.ensures
