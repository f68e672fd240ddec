use Rattle.std.proofs.Common.{◌≡◌, ◌≤◌, ◌+◌, ℕ, List, drop, length, sym, ap, subst, ◌∙◌, arith}
use Rattle.netlist.specs.Plain.{PlainBlock}
use Rattle.netlist.specs.Run.{stop_count}
use Rattle.netlist.specs.declared.design.Event.{Event}
use Rattle.message_text.specs.Told.{TellsBlock}
use Rattle.message_text.specs.declared.telling.Given.{Given}
use Rattle.message_text.proofs.BlocksLaws.{Passed, block_within, passed_more}
use Rattle.message_text.proofs.telling.Telling.tell_blocks.Goals as goal

pub given_after-rest-requires : goal.given_after-rest-requires
given_after-rest-requires c =
    let b : PlainBlock = c.block-item.result in
    let size = ap (λ (x : PlainBlock). length x.events) c.block.view_is in
    let within : length b.events ≤ length c.loop-block.rest.now =
    block_within c.args.blocks.now c.loop-block.rest.now c.loop-block.block-index b c.loop-block-test.true c.block-item.is
    c.loop-block.invariant.fits in
    omega (arith, within, size, c.len.ensures)

pub loop-block-preserved : goal.loop-block-preserved
loop-block-preserved c =
    let b : PlainBlock = c.block-item.result in
    let k : ℕ = c.loop-block.block-index in
    let was = c.loop-block.self in
    let new = c.tell_block.new.self in
    let rest : List Given = c.loop-block.rest.now in
    let told = c.in_ok-tell_block.ensures in
    let here : c.deref.result.now ≡ b.events = c.deref.ensures.value ∙ ap (λ (x : PlainBlock). x.events) c.block.view_is in
    let long = ap (λ (x : PlainBlock). length x.events) c.block.view_is in
    let size : c.len.result ≡ length b.events = omega (arith, c.len.ensures, long) in
    let after = c.given_after-rest.ensures ∙ ap (λ (n : ℕ). drop n rest) size in
    let stop = told.stop ∙ ap (λ (es : List Event). was.stop + stop_count es) here in
    let tells = subst (λ (es : List Event). TellsBlock was new es rest) here told.tells in
    subst (λ (r : List Given). Passed c.args.self.now new c.args.blocks.now c.args.given.now r (k + 1)) (sym after)
    (passed_more c.args.self.now was new c.args.blocks.now c.args.given.now rest k b c.loop-block-test.true c.block-item.is
    tells stop told.empty c.loop-block.invariant)
