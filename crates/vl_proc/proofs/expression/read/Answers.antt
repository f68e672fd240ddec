use Rattle.std.proofs.Common.{length, []}
use Rattle.flat_ir.specs.FlatRun.{values_from}
use Rattle.flat_ir.specs.declared.design.Node.TheVariants as n
use Rattle.vl_tree.specs.View.{module_of}
use Rattle.vl_tree.specs.Tree.{Module}
use Rattle.vl_proc.proofs.Values.{grown_none}
use Rattle.vl_proc.proofs.Sees.{read_clock, reads_input, reads_register}
use Rattle.vl_proc.proofs.Made.{added_ok}
use Rattle.vl_proc.proofs.expression.read.Goals as goal

pub unreachable-requires : goal.unreachable-requires
unreachable-requires c = read_clock (module_of c.args.scope.now.module.now) c.args.name.now c.signal.result.now c.requires.sound c.signal.ensures c.in-Clock.is

pub returns-in-Input : goal.returns-in-Input
returns-in-Input c =
    let m : Module = module_of c.args.scope.now.module.now in
    let q = reads_input m c.args.name.now c.signal.result.now c.in-Input.input c.requires.sound c.signal.ensures c.in-Input.is in
    added_ok m c.args.nodes.now c.args.nodes.now c.add.new.self (n.Input c.in-Input.input) _ c.add.result (grown_none m c.args.nodes.now) c.add.ensures.number c.add.ensures.added (q.fits (length c.args.nodes.now))
    (λ row state f g. q.same row state f g (values_from row state [] c.args.nodes.now))

pub returns-in-Register : goal.returns-in-Register
returns-in-Register c =
    let m : Module = module_of c.args.scope.now.module.now in
    let q = reads_register m c.args.name.now c.signal.result.now c.in-Register.register c.requires.known.declared c.requires.sound c.signal.ensures c.in-Register.is in
    added_ok m c.args.nodes.now c.args.nodes.now c.add-in-Register.new.self (n.Register c.in-Register.register) _ c.add-in-Register.result (grown_none m c.args.nodes.now)
    c.add-in-Register.ensures.number c.add-in-Register.ensures.added (q.fits (length c.args.nodes.now)) (λ row state f g. q.same row state f g (values_from row state [] c.args.nodes.now))
