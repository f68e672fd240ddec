use Rattle.std.proofs.Common.{◌*◌, ◌/◌, ◌^◌, ◌<◌, arith, eqb-true, eq-eqb}
use Rattle.std.proofs.Math.Nat.{div-lt_iff_lt-mul}
use Rattle.std.proofs.lemmas.Nat.{pow_pos}
use Rattle.dt_core.proofs.bits.fits.Goals as goal

pub returns-else-width-eq-MAX_WIDTH : goal.returns-else-width-eq-MAX_WIDTH
returns-else-width-eq-MAX_WIDTH c =
    let w = c.args.width in
    let v = c.args.value in
    let f = div-lt_iff_lt-mul {k = 2 ^ w} {x = v} {y = 1} (pow_pos w) in (
      λ t. let e = eqb-true (v / 2 ^ w) 0 t in let l : v / 2 ^ w < 1 = omega arith in omega (arith, f.0 l),
      λ l. let m : v < 1 * 2 ^ w = omega arith in eq-eqb (v / 2 ^ w) 0 (omega (arith, f.1 m)),
    )
