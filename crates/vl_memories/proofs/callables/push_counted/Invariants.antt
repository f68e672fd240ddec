use Rattle.std.proofs.Common.{◌≡◌, ℕ, ◌++◌, drop, map}
use Rattle.vl_design.specs.Lists.{each_of}
use Rattle.vl_design.specs.Scopes.{Scope}
use Rattle.vl_design.specs.Design.{callable_in}
use Rattle.vl_declares.specs.Plain.{all_plain}
use Rattle.vl_repeats.specs.Flags.{picked}
use Rattle.vl_memories.specs.Numbered.{callable_by}
use Rattle.vl_memories.proofs.callables.push_counted.Given as goal

-- what was appended so far, and what is left
abbrev pub invariant-loop-k : goal.invariant-loop-k
invariant-loop-k l = (f : ℕ → Scope) → map (callable_by f) l.callables.items
    ++ each_of (callable_in (f l.scope)) (picked (drop l.k l.counted) (all_plain (drop l.k l.declared)))
    ≡ map (callable_by f) l.fn.callables.items ++ each_of (callable_in (f l.scope)) (picked l.counted (all_plain l.declared))
