use Rattle.std.proofs.Common.{◌≡◌, ◌<◌, ◌+◌, ◌^◌, length, get_or, drop, refl, sym, ap, ◌∙◌, subst, arith}
use Rattle.std.specs.Prelude.{slice_index}
use Rattle.std.proofs.lemmas.List.{length-map}
use Rattle.std.proofs.lemmas.List.Elements.{All-get_or}
use Rattle.netlist.specs.Fits.{IsWidth}
use Rattle.step_program.specs.Values.{slot_value}
use Rattle.step_program.specs.Plan.{held}
use Rattle.net_compile.proofs.GivenSlots.{blank}
use Rattle.held_state.specs.Slots.{numbers}
use Rattle.flat_sim.specs.Signals.{with_bits, with_registers}
use Rattle.held_state.proofs.GivenLaws.{register_fits, number_at}
use Rattle.flat_sim.proofs.Loops.{one_more}
use Rattle.flat_sim.proofs.Parts.{registers_before, registers_after, registers_more}
use Rattle.flat_sim.proofs.signals.with_registers.Goals as goal

pub with_bits-value-requires : goal.with_bits-value-requires
with_bits-value-requires c =
    let slots = held c.args.values.now in
    let l : c.loop-k.k < length c.args.parts.now =
    omega (arith, c.loop-k-test.true, c.register_span-span.ensures.within.1) in
    let fits = register_fits c.args.parts.now _ c.loop-k.k blank c.requires.fit l in (
      All-get_or (λ p. IsWidth p.range.width) c.args.parts.now c.loop-k.k blank l c.requires.wide,
      subst (λ n. n < 2 ^ (get_or c.args.parts.now c.loop-k.k blank).range.width)
          (number_at slots c.args.given.now c.loop-k.k (omega (arith, l, c.requires.slots)) ∙ sym c.value.ensures) fits,
    )

pub loop-k-init : goal.loop-k-init
loop-k-init c = record {
  width = refl;
  all = registers_before c.args.signal c.args.value.width c.args.parts.now (numbers (held c.args.values.now) c.args.given.now)
      c.args.value.value c.register_span-span.result c.register_span-span.ensures;
}

pub loop-k-preserved : goal.loop-k-preserved
loop-k-preserved c =
    let ns = numbers (held c.args.values.now) c.args.given.now in
    let k = c.loop-k.k in
    let w = c.args.value.width in
    let ps = c.args.parts.now in
    let l : k < length ps = omega (arith, c.loop-k-test.true, c.register_span-span.ensures.within.1) in
    let m : k < length c.args.given.now = omega (arith, l, c.requires.slots) in
    let range = (get_or ps k blank).range in
    let number : c.value.result ≡ slice_index ns k =
    c.value.ensures ∙ sym (number_at (held c.args.values.now) c.args.given.now k m) in
    let new : c.with_bits-value.result.value ≡ with_bits c.args.signal w range (slice_index ns k) c.loop-k.value.value =
    c.with_bits-value.ensures.value
    ∙ ap (λ u. with_bits c.args.signal u range c.value.result c.loop-k.value.value) c.loop-k.invariant.width
    ∙ ap (λ n. with_bits c.args.signal w range n c.loop-k.value.value) number in
    record {
      width = c.with_bits-value.ensures.width ∙ c.loop-k.invariant.width;
      all = ap (λ v. with_registers c.args.signal w (drop (k + 1) ps) (drop (k + 1) ns) v) new
          ∙ subst (λ j. with_registers c.args.signal w (drop j ps) (drop j ns)
          (with_bits c.args.signal w range (slice_index ns k) c.loop-k.value.value)
          ≡ with_registers c.args.signal w (drop k ps) (drop k ns) c.loop-k.value.value) (one_more k)
          (registers_more c.args.signal w ps ns c.loop-k.value.value k l
          (omega (arith, m, length-map c.args.given.now (λ s. slot_value (held c.args.values.now) s))))
          ∙ c.loop-k.invariant.all;
    }

pub returns-clause-value : goal.returns-clause-value
returns-clause-value c =
    sym (registers_after c.args.signal c.args.value.width c.args.parts.now (numbers (held c.args.values.now) c.args.given.now)
    c.loop-k.value.value c.loop-k.k c.register_span-span.result c.register_span-span.ensures c.loop-k-test.false)
    ∙ c.loop-k.invariant.all
