use Rattle.std.proofs.Common.{◌≡◌, take}
use Rattle.net_compile.specs.Cycle.{input_widths}
use Rattle.window_run.proofs.run.widths_of.Given as goal

-- the widths of the first inputs
abbrev pub invariant-loop-number : goal.invariant-loop-number
invariant-loop-number l = l.widths.items ≡ input_widths l.flat.signals (take l.number-index l.flat.inputs)
