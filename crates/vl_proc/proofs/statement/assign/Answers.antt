use Rattle.vl_tree.specs.View.{module_of, expr}
use Rattle.vl_tree.specs.Tree.{Module}
use Rattle.vl_proc.proofs.Sees.{found_range, narrow_of, target_register}
use Rattle.vl_proc.proofs.Turns.{write_adds}
use Rattle.vl_proc.proofs.statement.assign.Goals as goal

pub assigned-requires-clause-range : goal.assigned-requires-clause-range
assigned-requires-clause-range c =
    let m : Module = module_of c.args.scope.now.module.now in
    found_range m.clock 0 0 m.ports c.args.target.now c.signal-signal.result.now (narrow_of m c.requires.known.declared) c.signal-signal.ensures

pub unreachable-requires : goal.unreachable-requires
unreachable-requires c =
    let m : Module = module_of c.args.scope.now.module.now in
    let r = target_register m.clock 0 0 m.ports c.args.target.now c.signal-signal.result.now c.requires.target c.signal-signal.ensures in
    c.in_default.not-Register r.0 r.1

pub returns : goal.returns
returns c =
    let m : Module = module_of c.args.scope.now.module.now in
    write_adds m c.args.target.now (expr c.args.value.now) c.signal-signal.result.now c.args.to.now.nodes c.assigned.new.nodes c.act.new.self.nodes c.args.to.now.actions.items c.act.new.self.actions.items
    c.args.condition c.in-Register.register c.in_ok-node-in-Register.node c.act.result c.requires.here c.signal-signal.ensures c.in-Register.is c.in_ok-node-in-Register.ensures c.act.ensures.nodes c.act.ensures.actions
