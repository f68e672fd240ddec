use Rattle.std.proofs.Common.{◌≡◌, ◌++◌, drop, map}
use Rattle.dessert.specs.Calls.Told.{told_of}
use Rattle.dessert.proofs.answers.stop_lines.Given as goal

-- the lines so far, and those that are left
abbrev pub invariant-loop-one : goal.invariant-loop-one
invariant-loop-one l =
    l.lines.items ++ map (told_of l.flat l.origins) (drop l.one-index l.fired) ≡ map (told_of l.flat l.origins) l.fired
