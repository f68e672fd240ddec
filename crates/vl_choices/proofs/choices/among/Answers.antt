use Rattle.std.proofs.Common.{◌<◌, ◌-◌, length, arith, sym, ◌∙◌}
use Rattle.std.proofs.lemmas.Option.{slice_get-get_or}
use Rattle.vl_choices.proofs.Among.{from_last, from_more, from_first}
use Rattle.vl_choices.proofs.choices.among.Goals as goal

pub loop-k-init : goal.loop-k-init
loop-k-init c = from_last c.args.nodes.now c.args.list.now c.args.last

pub bounds-list-k : goal.bounds-list-k
bounds-list-k c = omega (arith, c.loop-k-test.true, c.loop-k.invariant.most)

pub choose-requires : goal.choose-requires
choose-requires c =
    let there : c.loop-k.k - 1 < length c.args.list.now = omega (arith, c.loop-k-test.true, c.loop-k.invariant.most) in
    c.requires (c.loop-k.k - 1) _ there ∙ sym c.loop-k.invariant.width

pub loop-k-preserved : goal.loop-k-preserved
loop-k-preserved c =
    let j = c.loop-k.k - 1 in
    let there : j < length c.args.list.now = omega (arith, c.loop-k-test.true, c.loop-k.invariant.most) in
    from_more c.args.nodes.now c.loop-k.nodes c.choose.new.self c.args.list.now c.args.last c.loop-k.all c.in_ok-all.all _ c.loop-k.k j
    c.choose.result c.in_ok-all.was (omega (arith, c.loop-k-test.true)) (slice_get-get_or c.args.list.now j _ there)
    (c.requires j _ there) c.in_ok-all.ensures.width c.loop-k.invariant c.choose.ensures.made

pub returns-clause-width : goal.returns-clause-width
returns-clause-width c = c.loop-k.invariant.width

pub returns-clause-made : goal.returns-clause-made
returns-clause-made c =
    from_first c.args.nodes.now c.loop-k.nodes c.args.list.now c.args.last c.loop-k.all c.loop-k.k
    (omega (arith, c.loop-k-test.false)) c.loop-k.invariant
