-- The faults of tokens: those of phase 2. This project's own.
use Rattle.std.specs.Prelude.{ℕ, Bool, true, false, Result, Err}
use Rattle.vl_tree.specs.declared.fault.FaultKind.{FaultKind}
use Rattle.vl_tree.specs.Fault as static
pub use Rattle.vl_tree.specs.Fault.{Fault}

-- a fault of this kind on this line
abbrev pub fault : FaultKind → ℕ → Fault
fault kind line = static.fault 2 line kind

-- this fault where the test holds, and else that answer
abbrev pub unless : {X : Type 0} → Bool → FaultKind → Result X FaultKind → Result X FaultKind
unless true k r = Err k
unless false k r = r
