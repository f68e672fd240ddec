use Rattle.std.proofs.Common.{◌≡◌, ℕ, ◌++◌, drop, map}
use Rattle.vl_design.specs.Lists.{each_of}
use Rattle.vl_design.specs.Scopes.{Scope}
use Rattle.vl_design.specs.Design.{memory_in}
use Rattle.vl_declares.specs.Plain.{all_plain}
use Rattle.vl_repeats.specs.Flags.{picked}
use Rattle.vl_memories.specs.Numbered.{memory_by}
use Rattle.vl_memories.proofs.memories.push_counted.Given as goal

-- what was appended so far, and what is left
abbrev pub invariant-loop-k : goal.invariant-loop-k
invariant-loop-k l = (f : ℕ → Scope) → map (memory_by f) l.memories.items
    ++ each_of (memory_in (f l.scope).level.path) (picked (drop l.k l.counted) (all_plain (drop l.k l.declared)))
    ≡ map (memory_by f) l.fn.memories.items ++ each_of (memory_in (f l.scope).level.path) (picked l.counted (all_plain l.declared))
