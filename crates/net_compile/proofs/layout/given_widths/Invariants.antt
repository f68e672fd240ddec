use Rattle.std.proofs.Common.{◌≡◌, ◌++◌, take}
use Rattle.net_compile.specs.Cycle.{register_widths, input_widths}
use Rattle.net_compile.proofs.layout.given_widths.Given as goal

-- the widths of the register parts, and those of the data inputs so far
abbrev pub invariant-loop-input : goal.invariant-loop-input
invariant-loop-input l = l.widths.items ≡ register_widths l.flat.registers
    ++ input_widths l.flat.signals (take l.input-index l.flat.inputs)
