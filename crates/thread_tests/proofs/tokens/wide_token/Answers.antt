use Rattle.std.proofs.Common.{◌≡◌, List, map, replicate, sym, ap, ◌∙◌}
use Rattle.dt_core.specs.BitVectors.{BitVector, vector, plain}
use Rattle.dt_core.specs.declared.bits.Bits.{Bits}
use Rattle.thread_tests.proofs.Wide.{wide_is}
use Rattle.thread_tests.proofs.tokens.wide_token.Goals as goal

pub returns : goal.returns
returns c =
    let one : plain c.of.result ≡ vector 32 0 = λ i. vector (c.of.ensures.width i) (c.of.ensures.value i) in
    let values : c.new.result ≡ replicate 16 (vector 32 0) = c.new.ensures
    ∙ ap (λ (l : List Bits). map plain l) c.in_ok-bits.ensures ∙ ap (λ (v : BitVector). replicate 16 v) one in
    (λ i. record { channel = 0; cycle = c.args.cycle; values = values i }) ∙ sym (wide_is c.args.cycle)
