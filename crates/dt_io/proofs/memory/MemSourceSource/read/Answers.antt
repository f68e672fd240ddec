use Rattle.std.proofs.Common.{ℕ, ap, arith, length-drop, length-take}
use Rattle.dt_io.specs.Memory.{Given}
use Rattle.dt_io.proofs.Parts.{taken, ended}
use Rattle.dt_io.proofs.memory.MemSourceSource.read.Goals as goal

pub returns-clause-bytes : goal.returns-clause-bytes
returns-clause-bytes c = (
  taken c.self.inside.at c.copy_front-count.result c.args.self.now.left c.self.inside.bytes.items c.deref.result.now c.copy_front-count.new.buf
      (ap (λ (x : Given). x.left) c.self.view_is) c.deref.ensures.value c.copy_front-count.ensures.bytes,
  λ z some. ended c.self.inside.at c.copy_front-count.result c.self.inside.bytes.items z
      (omega (arith, c.copy_front-count.ensures.size, c.copy_front-count.auto.buf, c.self.invariant, length-take {A = ℕ}, length-drop {A = ℕ}, c.deref.ensures.len, z, some)),
)
