use Rattle.std.proofs.Common.{◌≡◌, ◌+◌, ◌++◌, ℕ, List, length}
use Rattle.std.specs.Io.KnownBytes.{Consumes}
use Rattle.dt_io.proofs.real.append_all.Given as goal

abbrev pub invariant-loop-count : goal.invariant-loop-count
invariant-loop-count g l = record {
  taken : (bytes : List ℕ) × (l.into.items ≡ l.fn.into.items ++ bytes) × (length bytes + l.room ≡ l.most)
      × Consumes (g.S.Source.left l.fn.source) (g.S.Source.left l.source) bytes;
  same : g.S.Source.faults l.source ≡ g.S.Source.faults l.fn.source;
}

abbrev pub decreases-loop-count : goal.decreases-loop-count
decreases-loop-count g l = l.room
