use Rattle.std.proofs.Common.{◌≡◌, ◌<◌, length, get_or, refl, sym, ◌∙◌, arith}
use Rattle.std.proofs.lemmas.List.Elements.{All-get_or}
use Rattle.netlist.specs.Fits.{DrivenFits}
use Rattle.held_state.proofs.Taken.{node_there}
use Rattle.flat_sim.proofs.Parts.{blank_driven, driven_before, driven_after}
use Rattle.flat_sim.proofs.signals.with_driven.Goals as goal

pub loop-k-init : goal.loop-k-init
loop-k-init c = record {
  width = refl;
  all = driven_before c.args.signal c.args.value.width c.args.parts.now c.args.nodes.now.numbers c.args.value.value
      c.driven_span-span.result c.driven_span-span.ensures;
}

pub bits-requires : goal.bits-requires
bits-requires c =
    let f = c.args.nodes.now.flat in
    let k = c.loop-k.k in
    let p = get_or c.args.parts.now k blank_driven in
    let l : k < length c.args.parts.now =
    omega (arith, c.loop-k-test.true, c.driven_span-span.ensures.within.1) in
    node_there f.nodes p.node (λ w. w ≡ p.range.width)
    (All-get_or (DrivenFits f.signals f.nodes) c.args.parts.now k blank_driven l c.requires.parts).1

pub returns-clause-value : goal.returns-clause-value
returns-clause-value c =
    sym (driven_after c.args.signal c.args.value.width c.args.parts.now c.args.nodes.now.numbers c.loop-k.value.value
    c.loop-k.k c.driven_span-span.result c.driven_span-span.ensures c.loop-k-test.false)
    ∙ c.loop-k.invariant.all
