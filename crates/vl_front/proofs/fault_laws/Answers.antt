use Rattle.vl_front.proofs.Exclusive.{one_fault, sources_have_none}
use Rattle.vl_front.proofs.fault_laws.Goals as goal

pub returns-clause-one : goal.returns-clause-one
returns-clause-one c = one_fault

pub returns-clause-none : goal.returns-clause-none
returns-clause-none c = sources_have_none
