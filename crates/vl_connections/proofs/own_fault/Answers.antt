use Rattle.std.proofs.Common.{[]}
use Rattle.vl_design.specs.Lists.{each_of}
use Rattle.vl_design.specs.ObjectFaults.{same_names, declaration_faults}
use Rattle.vl_declares.specs.Plain.{all_plain}
use Rattle.vl_connections.proofs.Connecting.{least_two}
use Rattle.vl_connections.proofs.own_fault.Goals as goal

pub returns : goal.returns
returns c =
    let ds = all_plain c.args.declared.now in
    least_two (same_names [] ds) (each_of declaration_faults ds) _ _ _ c.lesser.ensures c.in_ok-repeated.ensures.fault c.in_ok-alone.ensures
