use Rattle.vl_tree.specs.View as view
use Rattle.vl_tree.specs.Grammar.{name_at, port_at}
use Rattle.vl_module.specs.Reading.{Any}
use Rattle.vl_module.specs.Rules.{output_at}
use Rattle.vl_module.proofs.Pieces.{fails}
use Rattle.vl_module.proofs.ModuleRules.{input_none, input_took, output_none}
use Rattle.vl_module.proofs.module.read_port.Goals as goal

pub returns-in_err-name-in-Some-clause-reads : goal.returns-in_err-name-in-Some-clause-reads
returns-in_err-name-in-Some-clause-reads c =
    fails (name_at c.args.depth) Any _ view.port (port_at c.args.depth) Any _ (input_none c.args.depth _ _ c.in-Some.ensures.reads) c.in_err-name-in-Some.field-0.0 c.in_err-name-in-Some.ensures.reads
    c.from_residual.result c.from_residual.ensures.1

pub returns-in_ok-name-in-Some-clause-reads : goal.returns-in_ok-name-in-Some-clause-reads
returns-in_ok-name-in-Some-clause-reads c = input_took c.args.depth _ _ c.in-Some.ensures.reads c.in_ok-name-in-Some.name _ c.in_ok-name-in-Some.ensures.reads

pub returns-in_err-left-in-None-clause-reads : goal.returns-in_err-left-in-None-clause-reads
returns-in_err-left-in-None-clause-reads c =
    fails (output_at c.args.depth) Any _ view.port (port_at c.args.depth) Any _ (output_none c.args.depth _ c.in-None.ensures.reads) c.in_err-left-in-None.field-0.0 c.in_err-left-in-None.ensures.reads
    c.from_residual-in_err-left-in-None.result c.from_residual-in_err-left-in-None.ensures.1
