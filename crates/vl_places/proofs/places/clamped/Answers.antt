use Rattle.std.proofs.Common.{ap, ◌∙◌, ◌^◌, ◌-◌, subst}
use Rattle.std.specs.Prelude.{IfOk, ◌==◌}
use Rattle.bit_ops.specs.Operators as ops
use Rattle.vl_nodes.specs.Sense.{Sense, number, chosen, on_one, on_two, on_three}
use Rattle.vl_nodes.specs.Calls.{MakesAt}
use Rattle.vl_nodes.proofs.Making.{is_kept, grows_on}
use Rattle.vl_vectors.proofs.Joining.{then}
use Rattle.vl_places.specs.Steps as steps
use Rattle.vl_places.proofs.Indices.{chosen_bit, read_again}
use Rattle.vl_places.proofs.places.clamped.Goals as goal

pub returns-clause-made : goal.returns-clause-made
returns-clause-made c = λ g x i.
    let n0 = c.args.nodes.now in let n1 = c.cut.new.self in let n2 = c.extend.new.self in let n3 = c.binary.new.self in
    let n4 = c.number.new.self in let n5 = c.choose.new.self in let s = c.args.signed in let w = c.args.index.width in
    let low = c.in_ok-low.low in let a = c.in_ok-low.ensures.made g x i in
    let b = c.in_ok-again.ensures.made g (on_one (ops.low 64) x) a.1.is in
    let again : Sense = on_one (ops.extend s low.width w) (on_one (ops.low 64) x) in
    let held = c.in_ok-is_held.ensures.made g again x b.1.is (is_kept g n0 n2 c.args.index x (grows_on g n0 n1 n2 a.1.grown b.1.grown) i) in
    let test : Sense = on_two (λ m n. ops.bit (m == n)) again x in
    let far = c.in_ok-far.ensures.made g in
    let later = grows_on g n1 n2 n4 b.1.grown (grows_on g n2 n3 n4 held.1.grown far.1.grown) in
    let made = c.choose.ensures.made g test (on_one (ops.low 64) x) (number (2 ^ 63 - 1))
    (is_kept g n3 n4 c.in_ok-is_held.is_held test far.1.grown held.1.is) (is_kept g n1 n4 low (on_one (ops.low 64) x) later a.1.is) far.1.is in
    then g n0 n4 n5 64 (on_three chosen test (on_one (ops.low 64) x) (number (2 ^ 63 - 1))) (on_one (steps.clamped s w) x) c.choose.result
    (grows_on g n0 n1 n4 a.1.grown later)
    (subst (λ k. IfOk c.choose.result (MakesAt g n4 n5 k (on_three chosen test (on_one (ops.low 64) x) (number (2 ^ 63 - 1))))) a.0 made)
    (λ v fit. ap (λ k. chosen (ops.bit (ops.extend s k w (ops.low 64 (x.value v)) == x.value v)) (ops.low 64 (x.value v)) (2 ^ 63 - 1)) a.0
    ∙ chosen_bit (ops.extend s 64 w (ops.low 64 (x.value v)) == x.value v) (ops.low 64 (x.value v)) (2 ^ 63 - 1))
    (λ q some. read_again (x.reads q))
