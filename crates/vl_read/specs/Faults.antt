-- A reader's fault, told of the whole list. This project's own.
use Rattle.std.specs.Prelude.{ℕ, ◌-◌}
use Rattle.vl_read.specs.declared.fault.Fault.{Fault}
use Rattle.vl_read.specs.declared.fault.Fault.TheVariants as f
use Rattle.vl_read.specs.declared.fault.SynFault.{SynFault}
use Rattle.vl_read.specs.declared.fault.SynFault.TheVariants as s

-- a fault with so many tokens left, of a list of this many: the number of the token
abbrev pub told : ℕ → Fault → SynFault
told count f.Memory = s.Memory
told count (f.At left) = s.At (count - left)
told count (f.Deep left) = s.Deep (count - left)
