use Rattle.std.proofs.Common.{◌≡◌, ◌++◌, map, drop}
use Rattle.std.specs.Option.{option_map}
use Rattle.vl_value.specs.Order.{lesser, least}
use Rattle.vl_found.specs.View.{found}
use Rattle.vl_width.specs.Lists.{exprs_of}
use Rattle.vl_design.specs.Parameters.{given_in_order, value_order_faults}
use Rattle.vl_constants.specs.Needed.{constants_of}
use Rattle.vl_parameters.specs.Open.{texts_of}
use Rattle.vl_parameters.specs.Plain.{plain_given}
use Rattle.vl_parameters.proofs.given.given_in_order.Given as goal

-- what was given and the least fault so far, and those of what is left
abbrev pub invariant-loop-k : goal.invariant-loop-k
invariant-loop-k l = record {
  given : map plain_given l.given.items
      ++ given_in_order (constants_of l.frames) (texts_of (drop l.k l.texts)) (exprs_of (drop l.k l.all))
      ≡ given_in_order (constants_of l.frames) (texts_of l.texts) (exprs_of l.all);
  fault : lesser (option_map found l.fault)
      (least (value_order_faults (constants_of l.frames) (texts_of (drop l.k l.texts)) (exprs_of (drop l.k l.all))))
      ≡ least (value_order_faults (constants_of l.frames) (texts_of l.texts) (exprs_of l.all));
}
