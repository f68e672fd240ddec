-- The widths of the names so far.
use Rattle.std.proofs.Common.{◌≡◌, ◌≤◌, take}
use Rattle.std.specs.List.{All}
use Rattle.dt_core.specs.declared.limits.TheConstants.{MAX_WIDTH}
use Rattle.stimulus.specs.Stimulus.{widths_of}
use Rattle.stimulus.specs.Calls.Names.{shown}
use Rattle.stimulus.proofs.names.widths_for.Given as goal

abbrev pub invariant-loop-name : goal.invariant-loop-name
invariant-loop-name l = record {
  widths : l.widths.items ≡ widths_of l.inputs (shown (take l.name-index l.names));
  few : All (λ w. w ≤ MAX_WIDTH) l.widths.items;
}
