use Rattle.std.proofs.Common.{◌≡◌, ◌++◌, drop}
use Rattle.design_names.specs.Outline.{entry_signals}
use Rattle.design_names.proofs.names.signals_of.Given as goal

-- what was pushed, and the signals of what is left
abbrev pub invariant-loop-entry : goal.invariant-loop-entry
invariant-loop-entry l = l.signals.items ++ entry_signals (drop l.entry-index l.outline) ≡ entry_signals l.outline
