use Rattle.vl_tree.specs.View.{module_of}
use Rattle.vl_tree.specs.Tree.{Module}
use Rattle.vl_proc.proofs.Ports.{found_width}
use Rattle.vl_proc.proofs.Sees.{found_range, narrow_of}
use Rattle.vl_proc.proofs.expression.primary_width.Goals as goal

pub returns-in-Name-clause-value : goal.returns-in-Name-clause-value
returns-in-Name-clause-value c =
    let m : Module = module_of c.args.scope.now.module.now in
    rw c.in-Name.is (found_width m.clock 0 0 m.ports c.in-Name.name c.signal.result.now c.signal.ensures)

pub returns-in-Name-clause-range : goal.returns-in-Name-clause-range
returns-in-Name-clause-range c =
    let m : Module = module_of c.args.scope.now.module.now in
    found_range m.clock 0 0 m.ports c.in-Name.name c.signal.result.now (narrow_of m c.requires.known.declared) c.signal.ensures
