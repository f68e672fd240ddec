use Rattle.vl_tree.specs.declared.token.Key.TheVariants as w
use Rattle.vl_tree.specs.View as view
use Rattle.vl_tree.specs.Grammar.{word, module_at}
use Rattle.vl_module.specs.Reading.{Any, one}
use Rattle.vl_module.specs.Rules.{header_at, clocked_at}
use Rattle.vl_module.proofs.Pieces.{fails}
use Rattle.vl_module.proofs.ModuleRules.{module_none_1, module_none_2, module_none_3, module_took}
use Rattle.vl_module.proofs.module.read_module.Goals as goal

pub returns-in_err-name : goal.returns-in_err-name
returns-in_err-name c =
    record { reads = fails header_at Any _ view.module_of module_at Any _ (module_none_1 _) c.in_err-name.field-0.0 c.in_err-name.ensures.reads c.from_residual.result c.from_residual.ensures.1 }

pub returns-in_err-clock : goal.returns-in_err-clock
returns-in_err-clock c =
    record {
      reads = fails (clocked_at 1) Any _ view.module_of module_at Any _ (module_none_2 _ _ _ c.in_ok-name.ensures.reads) c.in_err-clock.field-0.0 c.in_err-clock.ensures.reads
          c.from_residual-in_err-clock.result c.from_residual-in_err-clock.ensures.1;
    }

pub returns-in_err-rest : goal.returns-in_err-rest
returns-in_err-rest c =
    record {
      reads = fails (one (word 0 w.Endmodule)) Any _ view.module_of module_at Any _ (module_none_3 _ _ _ c.in_ok-name.ensures.reads _ _ c.in_ok-clock.ensures.reads) c.in_err-rest.field-0.0 c.in_err-rest.ensures.reads
          c.from_residual-in_err-rest.result c.from_residual-in_err-rest.ensures.1;
    }

pub returns : goal.returns
returns c =
    record { reads = module_took _ _ _ c.in_ok-name.ensures.reads _ _ c.in_ok-clock.ensures.reads _ c.in_ok-rest.ensures.reads }
