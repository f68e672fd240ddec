use Rattle.std.proofs.Common.{◌≡◌, ℕ, [], map}
use Rattle.vl_design.specs.Lists.{each_of}
use Rattle.vl_design.specs.Scopes.{Scope}
use Rattle.vl_design.specs.Objects.{counted_behind}
use Rattle.vl_design.specs.Design.{memory_in}
use Rattle.vl_memories.specs.Numbered.{memory_by}
use Rattle.vl_memories.proofs.Adding.{first, declared_at}
use Rattle.vl_memories.proofs.memories.memories.Given as goal

-- those of the scopes so far
abbrev pub invariant-loop-k : goal.invariant-loop-k
invariant-loop-k l = (f : ℕ → Scope) → map (memory_by f) l.memories.items
    ≡ first l.k (λ j. each_of (memory_in (f j).level.path) (counted_behind [] (declared_at l.scopes j)))
