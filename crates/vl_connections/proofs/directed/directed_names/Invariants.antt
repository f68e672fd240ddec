use Rattle.std.proofs.Common.{◌≡◌, ◌||◌, drop}
use Rattle.vl_value.specs.Paths.{Text}
use Rattle.vl_names.specs.Names.{has}
use Rattle.vl_design.specs.ObjectFaults.{has_direction}
use Rattle.vl_declares.specs.Plain.{all_plain}
use Rattle.vl_connections.proofs.directed.directed_names.Given as goal

-- the names so far, and those of what is left
abbrev pub invariant-loop-one : goal.invariant-loop-one
invariant-loop-one l = (x : Text) → (has l.names x || has_direction (all_plain (drop l.one-index l.declared)) x) ≡ has_direction (all_plain l.declared) x
