use Rattle.std.proofs.Common.{◌<◌, ◌^◌, refl, sym, subst}
use Rattle.bit_ops.specs.Operators as ops
use Rattle.vl_nodes.specs.Sense.{on_one}
use Rattle.vl_nodes.proofs.Making.{grows_none, is_as}
use Rattle.vl_operated.proofs.Sizes.{low_same}
use Rattle.vl_operated.proofs.operated.resized.Goals as goal

pub returns-then-of-size-clause-made : goal.returns-then-of-size-clause-made
returns-then-of-size-clause-made c = λ g x i.
    let n0 = c.args.nodes.now in let w = c.args.size.width in (
      c.if-of-size.true,
      record {
        grown = grows_none g n0;
        is = is_as g n0 c.args.of x (on_one (ops.low w) x) i
            (λ v fit. sym (low_same w (x.value v) (subst (λ k. x.value v < 2 ^ k) c.if-of-size.true (i.fits v fit)))) (λ q some. refl);
      },
    )
