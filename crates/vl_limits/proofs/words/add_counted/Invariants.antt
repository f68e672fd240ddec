use Rattle.std.proofs.Common.{◌≡◌, ℕ, List, ◌++◌, drop}
use Rattle.vl_tree.specs.Syntax.{Place}
use Rattle.vl_design.specs.Lists.{each_of}
use Rattle.vl_design.specs.ObjectFaults.{memory_words}
use Rattle.vl_declares.specs.Plain.{all_plain}
use Rattle.vl_repeats.specs.Flags.{picked}
use Rattle.vl_limits.specs.Counting.{further}
use Rattle.vl_limits.proofs.words.add_counted.Given as goal

-- what was added so far, and what is left
abbrev pub invariant-loop-k : goal.invariant-loop-k
invariant-loop-k l = (cs : List (Place × ℕ))
    → further l.limit (each_of memory_words (picked (drop l.k l.counted) (all_plain (drop l.k l.declared))) ++ cs)
    ≡ further l.fn.limit (each_of memory_words (picked l.counted (all_plain l.declared)) ++ cs)
