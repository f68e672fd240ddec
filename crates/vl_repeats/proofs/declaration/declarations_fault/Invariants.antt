use Rattle.std.proofs.Common.{◌≡◌, drop}
use Rattle.std.specs.Option.{option_map}
use Rattle.vl_value.specs.Order.{lesser, least}
use Rattle.vl_found.specs.View.{found}
use Rattle.vl_design.specs.Lists.{each_of}
use Rattle.vl_design.specs.ObjectFaults.{declaration_faults}
use Rattle.vl_declares.specs.Plain.{all_plain}
use Rattle.vl_repeats.proofs.declaration.declarations_fault.Given as goal

-- the least fault so far, and that of what is left
abbrev pub invariant-loop-one : goal.invariant-loop-one
invariant-loop-one l = lesser (option_map found l.fault) (least (each_of declaration_faults (all_plain (drop l.one-index l.declared))))
    ≡ least (each_of declaration_faults (all_plain l.declared))
