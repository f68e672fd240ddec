use Rattle.std.proofs.Common.{ap, sym, ◌∙◌, refl, subst}
use Rattle.std.specs.Prelude.{IfOk}
use Rattle.bit_ops.specs.Operators as ops
use Rattle.vl_nodes.specs.Sense.{number, on_one, on_two}
use Rattle.vl_nodes.specs.Calls.{MakesAt}
use Rattle.vl_nodes.proofs.Making.{is_kept, or_none}
use Rattle.vl_vectors.proofs.Joining.{then}
use Rattle.vl_places.specs.Steps as steps
use Rattle.vl_places.proofs.places.difference.Goals as goal

pub returns-then-turned-clause-made : goal.returns-then-turned-clause-made
returns-then-turned-clause-made c = λ g x i.
    let n0 = c.args.nodes.now in let n1 = c.number.new.self in let n2 = c.binary.new.self in let k = c.from.result in
    let a = c.in_ok-number.ensures.made g in
    let made = c.binary.ensures.made g (number k) x a.1.is (is_kept g n0 n1 c.args.of x a.1.grown i) in
    then g n0 n1 n2 70 (on_two (ops.sub 70) (number k) x) (on_one (steps.difference c.args.turned c.args.number) x) c.binary.result a.1.grown
    (subst (λ w. IfOk c.binary.result (MakesAt g n1 n2 w (on_two (ops.sub w) (number k) x))) a.0 made)
    (λ v fit. ap (λ j. ops.sub 70 j (x.value v)) c.from.ensures
    ∙ sym (ap (λ b. steps.difference b c.args.number (x.value v)) c.if-turned.true)) (λ q some. refl)

pub returns-else-turned-clause-made : goal.returns-else-turned-clause-made
returns-else-turned-clause-made c = λ g x i.
    let n0 = c.args.nodes.now in let n1 = c.number.new.self in let n2 = c.binary-else-turned.new.self in let k = c.from.result in
    let a = c.in_ok-number.ensures.made g in
    let r = c.binary-else-turned.result in
    let made = c.binary-else-turned.ensures.made g x (number k) (is_kept g n0 n1 c.args.of x a.1.grown i) a.1.is in
    then g n0 n1 n2 70 (on_two (ops.sub 70) x (number k)) (on_one (steps.difference c.args.turned c.args.number) x) r a.1.grown
    (subst (λ w. IfOk r (MakesAt g n1 n2 w (on_two (ops.sub w) x (number k)))) c.requires made)
    (λ v fit. ap (λ j. ops.sub 70 (x.value v) j) c.from.ensures
    ∙ sym (ap (λ b. steps.difference b c.args.number (x.value v)) c.if-turned.false)) (λ q some. or_none (x.reads q))
