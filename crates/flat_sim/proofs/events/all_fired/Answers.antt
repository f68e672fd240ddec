use Rattle.std.proofs.Common.{◌≡◌, ◌<◌, length, get_or, ap, ◌∙◌, subst}
use Rattle.message_text.specs.Told.{AreGiven, TellsBlock}
use Rattle.flat_sim.proofs.Told.{told_more}
use Rattle.flat_sim.proofs.events.all_fired.Goals as goal

pub loop-block-preserved : goal.loop-block-preserved
loop-block-preserved c =
    let xs = c.args.nodes.now.numbers in
    let nodes = c.args.nodes.now.flat.nodes in
    let bs = c.args.nodes.now.flat.blocks in
    let same : c.blocks-block-items.result.now ≡ bs =
    c.blocks-block-items.ensures.blocks ∙ ap (λ v. v.flat.blocks) c.nodes.view_is in
    let b = c.block-item.result in
    let k = c.loop-block.block-index in
    let gs = c.in_ok-given.given.items in
    let t = c.loop-block.telling in
    let u = c.tell_block.new.self in
    let events = ap (λ v. v.events) c.block.view_is in
    told_more nodes xs bs t u k b gs (subst (λ ys. k < length ys) same c.loop-block-test.true)
    (subst (λ ys. b ≡ get_or ys k b) same c.block-item.is) c.loop-block.invariant
    (subst (λ es. AreGiven nodes xs es gs) (c.deref.ensures.value ∙ events) c.in_ok-given.ensures.given)
    (subst (λ es. TellsBlock t u es gs) (c.deref-in-loop-block.ensures.value ∙ events)
    (subst (λ hs. TellsBlock t u c.deref-in-loop-block.result.now hs) c.deref-in-loop-block-2.ensures.value
    c.in_ok-tell_block.ensures.tells))
