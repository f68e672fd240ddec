use Rattle.std.proofs.Common.{false, ap, sym, subst, ◌∙◌, ◌^◌, ◌<◌}
use Rattle.std.specs.Prelude.{IfOk}
use Rattle.bit_ops.specs.Applied as applied
use Rattle.bit_ops.specs.declared.operator.Binary.TheVariants as two
use Rattle.vl_nodes.specs.Sense.{Sense, number, chosen, on_two, on_three}
use Rattle.vl_nodes.specs.Nodes.{Is}
use Rattle.vl_nodes.specs.Calls.{MakesAt}
use Rattle.vl_nodes.proofs.Making.{is_kept, grows_on}
use Rattle.vl_vectors.proofs.Joining.{then}
use Rattle.vl_logarithm.specs.Logarithm.{least_or}
use Rattle.vl_logarithm.proofs.Steps.{chosen_least, some_read, power_small, power_below}
use Rattle.vl_logarithm.proofs.logarithm.step.Goals as goal

pub number-requires-clause-below : goal.number-requires-clause-below
number-requires-clause-below c =
    subst (λ n. n < 2 ^ c.args.of.width) (sym (power_small c.args.k c.args.of.width c.requires.within c.requires.wide.1))
    (power_below c.args.k c.args.of.width c.requires.within)

pub returns-clause-made : goal.returns-clause-made
returns-clause-made c = λ g x y i j.
    let n0 = c.args.nodes.now in let n1 = c.number.new.self in let n2 = c.binary.new.self in let n3 = c.number-2.new.self in
    let n4 = c.choose.new.self in let w = c.args.of.width in let k = c.args.k in
    let small = power_small k w c.requires.within c.requires.wide.1 in
    let p = c.in_ok-power.ensures.made g in
    let power : Sense = number (2 ^ k) in
    let p_is = subst (λ n. Is g n1 c.in_ok-power.power (number n)) small p.1.is in
    let test : Sense = on_two (applied.binary two.Le false w) x power in
    let t = c.in_ok-reaches.ensures.made g x power (is_kept g n0 n1 c.args.of x p.1.grown i) p_is in
    let k_is = c.in_ok-number.ensures.made g in
    let here = grows_on g n0 n1 n3 p.1.grown (grows_on g n1 n2 n3 t.1.grown k_is.1.grown) in
    let made = c.choose.ensures.made g test (number c.from.result) y (is_kept g n2 n3 c.in_ok-reaches.reaches test k_is.1.grown t.1.is) k_is.1.is
    (is_kept g n0 n3 c.args.above y here j) in
    let all : Sense = on_three chosen test (number c.from.result) y in
    then g n0 n3 n4 32 all (on_two (least_or k) x y) c.choose.result here
    (subst (λ u. IfOk c.choose.result (MakesAt g n3 n4 u all)) k_is.0 made)
    (λ v fit. ap (λ n. chosen (test.value v) n (y.value v)) c.from.ensures ∙ chosen_least w (x.value v) k (y.value v))
    (λ q some. some_read (x.reads q) (y.reads q))
