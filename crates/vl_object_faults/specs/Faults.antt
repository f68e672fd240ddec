-- Faults that are told by paths. This project's own.
use Rattle.std.specs.Prelude.{List, Option}
use Rattle.dt_core.specs.declared.limits.TheConstants.{MAX_SIGNALS}
use Rattle.vl_tree.specs.declared.fault.FaultKind.TheVariants.{TooManySignals}
use Rattle.vl_value.specs.Order.{Found, lesser, least}
use Rattle.vl_design.specs.Lists.{each_of}
use Rattle.vl_design.specs.Scopes.{Scope}
use Rattle.vl_design.specs.LoopVariables.{loop_variables, signals_of}
use Rattle.vl_design.specs.ObjectFaults.{beyond, data_inputs, places_of, told}
use Rattle.vl_top_clocks.specs.Data.{input_faults}

-- too many signals
abbrev pub signal_faults : List Scope → List Found
signal_faults ss = told (beyond MAX_SIGNALS 0 (places_of (λ o. 1) (each_of (signals_of (loop_variables ss)) ss))) TooManySignals

-- the least of them and of those of data inputs, with another one
abbrev pub least_with : List Scope → Option Found → Option Found
least_with ss words = lesser (least (signal_faults ss)) (lesser words (least (input_faults (data_inputs ss))))
