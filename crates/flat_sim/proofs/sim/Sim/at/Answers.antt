use Rattle.std.proofs.Common.{◌≡◌, ℕ, ap, ◌∙◌, subst, Vec, Global}
use Rattle.std.specs.Prelude.{map, IfOk, None}
use Rattle.netlist.specs.Run.{all_words}
use Rattle.step_program.specs.Values.{contents}
use Rattle.held_state.specs.Kept.{state_words}
use Rattle.held_state.proofs.Words.{state_same}
use Rattle.flat_sim.proofs.Starts.{state}
use Rattle.flat_sim.proofs.sim.Sim.at.Goals as goal

pub returns : goal.returns
returns c =
    let f = c.args.flat.now in
    let items = λ (v : Vec ℕ Global). v.items in
    let ns = c.deref-2.ensures.value ∙ ap (λ s. s.registers) c.state.view_is in
    let ws = ap (state_words f.memories)
    (c.in_ok-words.ensures.same ∙ ap (λ ms. all_words ms (map items c.deref.result.now)) c.memories.ensures.memories
    ∙ ap (λ vs. all_words f.memories (map items vs)) c.deref.ensures.value
    ∙ ap (λ s. all_words f.memories s.memories) c.state.view_is)
    ∙ state_same f.memories c.args.state.now.memories c.requires.state.1 in
    subst (λ st. IfOk c.with.result (λ s. s ≡ record { flat = f; cycle = c.args.cycle; state = st; values = None }))
    (ap (λ n. state n (state_words f.memories (map contents c.in_ok-words.words.items))) ns
    ∙ ap (λ w. state c.args.state.now.registers w) ws) c.with.ensures
