-- The faults of clean text: those of phase 1. This project's own.
use Rattle.std.specs.Prelude.{ℕ}
use Rattle.vl_tree.specs.declared.fault.FaultKind.{FaultKind}
use Rattle.vl_tree.specs.Fault as static
pub use Rattle.vl_tree.specs.Fault.{Fault, HasFault, fault_of}

-- a fault of this kind on this line
abbrev pub fault : FaultKind → ℕ → Fault
fault kind line = static.fault 1 line kind
