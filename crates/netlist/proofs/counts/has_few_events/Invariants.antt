use Rattle.std.proofs.Common.{◌≡◌, ◌+◌, ◌-◌, ◌^◌, take, length}
use Rattle.std.specs.List.{sum_by}
use Rattle.netlist.proofs.counts.has_few_events.Given as goal

-- the events so far, and those that are left, are the limit
abbrev pub invariant-loop-block : goal.invariant-loop-block
invariant-loop-block l = l.left + sum_by (λ b. length b.events) (take l.block-index l.blocks) ≡ 2 ^ 32 - 1
