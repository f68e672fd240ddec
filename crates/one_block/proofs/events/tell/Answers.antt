use Rattle.std.proofs.Common.{◌∙◌, ap, subst, ◌∷◌, [], ◌++◌}
use Rattle.std.specs.Prelude.{OnOk, slice_index}
use Rattle.std.proofs.lemmas.Result.{on_ok_weaker}
use Rattle.flat_ir.specs.Format.{format_text}
use Rattle.flat_ir.specs.FlatRun.{deed_events}
use Rattle.flat_ir.specs.declared.design.Deed.TheVariants as d
use Rattle.one_block.specs.Calls.Nodes.{made_at}
use Rattle.one_block.specs.Calls.Events.{AddsText}
use Rattle.one_block.proofs.OfRegisters.{say_fits}
use Rattle.one_block.proofs.Telling.{says_shown}
use Rattle.one_block.proofs.events.tell.Goals as goal

pub returns-in-Some : goal.returns-in-Some
returns-in-Some c =
    let k = c.in-Some.shown in
    let condition = c.args.action.now.condition in
    let made = c.args.made.now in
    let is = c.in-Say.is ∙ ap (d.Say c.in-Say.format) c.in-Some.is in
    let f = say_fits _ _ c.args.action.now c.in-Say.format k is c.requires.1 in
    on_ok_weaker c.show.result
    (says_shown made c.args.events.now.items c.show.new.events.items c.args.action.now c.in-Say.format k f.0 f.1
    (λ vs. ap (deed_events vs) is))
    (subst
    (λ t. OnOk c.show.result (AddsText (made_at made condition).node (made_at made k).node (λ xs. format_text t (slice_index xs (made_at made k).node ∷ []) ++ 10 ∷ []) c.args.events.now.items c.show.new.events.items))
    c.bytes.ensures c.show.ensures)
