use Rattle.std.proofs.Common.{◌≡◌, ◌++◌, drop, map}
use Rattle.waveform.specs.Cycle.{form_variable}
use Rattle.waveform.specs.Vcd.{lines_text, edges}
use Rattle.waveform.proofs.cycle.push_edges.Given as goal

-- what was pushed, and the lines of what is left
abbrev pub invariant-loop-number : goal.invariant-loop-number
invariant-loop-number l =
    l.text.items ++ lines_text (edges l.number (map form_variable (drop l.number l.forms))) ≡ l.fn.text.items ++ lines_text (edges 0 (map form_variable l.forms))
