use Rattle.std.proofs.Common.{◌<◌, arith}
use Rattle.dt_core.specs.Packing.{put}
use Rattle.dt_core.proofs.ByteLaws.{put_is_byte, put_by_shifts}
use Rattle.dt_core.proofs.packing.with_field.Goals as goal

pub overflow_cast-result : goal.overflow_cast-result
overflow_cast-result c =
    let a = c.args in
    rw (c.from-byte.ensures, c.from.ensures, put_by_shifts a.byte a.low a.count a.part (omega arith) c.requires.within c.requires.fits)
    (let small : put a.byte a.low a.count a.part < 256 = put_is_byte a.byte a.low a.count a.part (omega arith) c.requires.within c.requires.fits in
    omega arith)

pub returns : goal.returns
returns c =
    let a = c.args in
    rw (c.from-byte.ensures, c.from.ensures) (put_by_shifts a.byte a.low a.count a.part (omega arith) c.requires.within c.requires.fits)
