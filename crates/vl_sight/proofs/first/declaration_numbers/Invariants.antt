use Rattle.std.proofs.Common.{drop}
use Rattle.vl_declares.specs.Plain.{all_plain}
use Rattle.vl_repeats.specs.Flags.{picked}
use Rattle.vl_sight.specs.Firsts.{Finds, passes_named}
use Rattle.vl_sight.proofs.first.declaration_numbers.Given as goal

-- the first of each name from here on
abbrev pub invariant-loop-k : goal.invariant-loop-k
invariant-loop-k l =
    Finds (passes_named l.wanted) (all_plain l.declared) (picked (drop l.k l.counted) (all_plain (drop l.k l.declared))) l.numbers
