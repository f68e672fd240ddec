use Rattle.std.proofs.Common.{ap, refl, inl}
use Rattle.dt_io.specs.Memory.{Stored}
use Rattle.dt_io.proofs.Parts.{same_named}
use Rattle.dt_io.proofs.memory.MemFilesFiles.load.Goals as goal

pub returns-in-Err-clause-named : goal.returns-in-Err-clause-named
returns-in-Err-clause-named c = (
  λ _. inl (same_named c.self.inside.calls.fails.items c.args.self.now.fails c.self.inside.calls.made c.args.self.now.calls (c.in-Err.ensures.named.0 refl)
      (ap (λ (x : Stored). x.fails) c.self.view_is) (ap (λ (x : Stored). x.calls) c.self.view_is)),
  λ _. refl,
)
