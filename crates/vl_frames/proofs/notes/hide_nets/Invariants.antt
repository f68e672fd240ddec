use Rattle.std.proofs.Common.{◌≡◌, drop}
use Rattle.vl_frames.specs.Marks.{around}
use Rattle.vl_frames.specs.Changes.{hidden}
use Rattle.vl_frames.specs.Named.{net_named}
use Rattle.vl_frames.proofs.notes.hide_nets.Given as goal

-- the names before, and those of what is left
abbrev pub invariant-loop-net : goal.invariant-loop-net
invariant-loop-net l = record {
  sight : hidden (net_named (drop l.net-index l.nets)) (around l.frames) ≡ hidden (net_named l.nets) (around l.fn.frames);
  outer : l.frames.outer.items ≡ l.fn.frames.outer.items;
}
