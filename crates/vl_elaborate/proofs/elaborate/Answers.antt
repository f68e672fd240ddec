use Rattle.std.proofs.Common.{refl, ap}
use Rattle.std.specs.Prelude.{Some}
use Rattle.std.specs.Option.{option_map}
use Rattle.vl_tree.specs.SyntaxView as view
use Rattle.vl_top.specs.Names.{asked, tree_of}
use Rattle.vl_elaborate.proofs.Building.{fault_built, fault_none}
use Rattle.vl_elaborate.proofs.elaborate.Goals as goal

pub returns-in_ok-built-in-Some-clause-fault : goal.returns-in_ok-built-in-Some-clause-fault
returns-in_ok-built-in-Some-clause-fault c =
    fault_built (view.source c.args.source.now) (asked c.args.top) (option_map tree_of c.in_ok-parent.field-0) c.in_ok-parent.ensures
    c.in_ok-duplicate.duplicate c.in_ok-built-in-Some.built.progress.fault c.lesser.result c.in_ok-duplicate.ensures c.lesser.ensures
    (view.module_tree c.in-Some.parent.now) (ap (option_map tree_of) c.in-Some.is) c.in_ok-built-in-Some.ensures.fault

pub returns-in-None-clause-fault : goal.returns-in-None-clause-fault
returns-in-None-clause-fault c =
    fault_none (view.source c.args.source.now) (asked c.args.top) (option_map tree_of c.in_ok-parent.field-0) c.in_ok-parent.ensures
    c.in_ok-duplicate.duplicate (Some c.no_top.result) c.lesser-in-None.result c.in_ok-duplicate.ensures c.lesser-in-None.ensures
    c.no_top.result (ap (option_map tree_of) c.in-None.is) refl c.no_top.ensures
