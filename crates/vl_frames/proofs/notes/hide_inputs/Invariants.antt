use Rattle.std.proofs.Common.{◌≡◌, drop}
use Rattle.vl_frames.specs.Marks.{around}
use Rattle.vl_frames.specs.Changes.{hidden}
use Rattle.vl_frames.specs.Named.{input_named}
use Rattle.vl_frames.proofs.notes.hide_inputs.Given as goal

-- the names before, and those of what is left
abbrev pub invariant-loop-port : goal.invariant-loop-port
invariant-loop-port l = record {
  sight : hidden (input_named (drop l.port-index l.ports)) (around l.frames) ≡ hidden (input_named l.ports) (around l.fn.frames);
  outer : l.frames.outer.items ≡ l.fn.frames.outer.items;
}
