use Rattle.std.proofs.Common.{◌≡◌, ℕ, [], map}
use Rattle.vl_design.specs.Lists.{each_of}
use Rattle.vl_design.specs.Scopes.{Scope}
use Rattle.vl_design.specs.Objects.{counted_behind}
use Rattle.vl_design.specs.Design.{callable_in}
use Rattle.vl_memories.specs.Numbered.{callable_by}
use Rattle.vl_memories.proofs.Adding.{first, declared_at}
use Rattle.vl_memories.proofs.callables.callables.Given as goal

-- those of the scopes so far
abbrev pub invariant-loop-k : goal.invariant-loop-k
invariant-loop-k l = (f : ℕ → Scope) → map (callable_by f) l.callables.items
    ≡ first l.k (λ j. each_of (callable_in (f j)) (counted_behind [] (declared_at l.scopes j)))
