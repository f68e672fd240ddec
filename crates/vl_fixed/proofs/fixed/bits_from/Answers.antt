use Rattle.std.proofs.Common.{◌≤◌, ◌<◌, ◌^◌, arith}
use Rattle.std.specs.Prelude.{slice_index}
use Rattle.std.proofs.Math.Pow.{pow_mono}
use Rattle.dt_core.specs.declared.limits.TheConstants.{MAX_BOUND}
use Rattle.vl_value.specs.Things.{width_of}
use Rattle.vl_width.specs.Objects.{plain_shape}
use Rattle.vl_sized.specs.Nodes.{whole_of}
use Rattle.vl_nodes.specs.Sense.{number}
use Rattle.vl_nodes.proofs.Making.{grows_none}
use Rattle.vl_vectors.proofs.Joining.{then}
use Rattle.vl_places.specs.Places.{least_index}
use Rattle.vl_fixed.specs.Fixed.{fixed_bits}
use Rattle.vl_fixed.proofs.Far.{far_value, far_reads}
use Rattle.vl_fixed.proofs.fixed.bits_from.Goals as goal

pub returns-in-None-clause-made : goal.returns-in-None-clause-made
returns-in-None-clause-made c = λ g at.
    let n0 = c.args.nodes.now in let n1 = c.number.new.self in let t = c.args.signal in let n = c.args.count in
    let sh = plain_shape c.args.shape in let w = width_of sh in let z = least_index c.args.way (whole_of c.args.index) n in
    let most : w ≤ 128 = omega (arith, c.args.shape.wide) in
    let bound : sh.right ≤ MAX_BOUND = c.args.shape.bounded.1 in
    let few : n < 2 ^ 32 = omega (arith, c.requires.1) in
    then g n0 n0 n1 n (number 0) (fixed_bits t sh c.args.way (whole_of c.args.index) n) c.number.result (grows_none g n0)
    (c.number.ensures.made g)
    (λ v fit.
    let small = fit.signals t w at in
    let power : 2 ^ w ≤ 2 ^ 128 = pow_mono {j = 128} most in
    far_value sh z n (slice_index v.signals t) bound few c.in-None.ensures.stands (omega (arith, small, power)))
    (λ q some. far_reads q t w n sh z most bound few c.in-None.ensures.stands)
