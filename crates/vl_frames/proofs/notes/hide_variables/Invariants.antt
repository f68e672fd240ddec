use Rattle.std.proofs.Common.{◌≡◌, drop}
use Rattle.vl_frames.specs.Marks.{around}
use Rattle.vl_frames.specs.Changes.{hidden}
use Rattle.vl_frames.specs.Named.{variable_named}
use Rattle.vl_frames.proofs.notes.hide_variables.Given as goal

-- the names before, and those of what is left
abbrev pub invariant-loop-variable : goal.invariant-loop-variable
invariant-loop-variable l = record {
  sight : hidden (variable_named (drop l.variable-index l.variables)) (around l.frames) ≡ hidden (variable_named l.variables) (around l.fn.frames);
  outer : l.frames.outer.items ≡ l.fn.frames.outer.items;
}
