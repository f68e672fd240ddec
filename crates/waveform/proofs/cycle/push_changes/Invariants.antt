use Rattle.std.proofs.Common.{◌≡◌, ◌++◌, drop, map}
use Rattle.waveform.specs.Cycle.{form_variable}
use Rattle.waveform.specs.Vcd.{lines_text, changes, risen}
use Rattle.waveform.proofs.cycle.push_changes.Given as goal

-- what was pushed, and the lines of what is left
abbrev pub invariant-loop-number : goal.invariant-loop-number
invariant-loop-number l =
    l.text.items ++ lines_text (changes l.number (map form_variable (drop l.number l.forms)) (risen (map form_variable (drop l.number l.forms)) (drop l.number l.last)) (drop l.number l.values))
    ≡ l.fn.text.items ++ lines_text (changes 0 (map form_variable l.forms) (risen (map form_variable l.forms) l.last) l.values)
