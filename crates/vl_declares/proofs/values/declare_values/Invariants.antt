use Rattle.std.proofs.Common.{◌≡◌, ◌++◌, map, drop}
use Rattle.std.specs.Option.{option_map}
use Rattle.vl_tree.specs.SyntaxView as view
use Rattle.vl_value.specs.Order.{lesser, least}
use Rattle.vl_found.specs.View.{found}
use Rattle.vl_design.specs.Parameters.{values_worth, value_needs, after_values}
use Rattle.vl_design.specs.Declarations.{parameter_by}
use Rattle.vl_frames.specs.Marks.{around}
use Rattle.vl_constants.specs.Needed.{constants_of}
use Rattle.vl_parameters.specs.Plain.{plain_given, plain_type}
use Rattle.vl_declares.specs.Plain.{all_plain}
use Rattle.vl_declares.proofs.values.declare_values.Given as goal

-- what was declared, the least fault and the constants in sight so far, and those of what is left
abbrev pub invariant-loop-value : goal.invariant-loop-value
invariant-loop-value l = record {
  added : all_plain l.declared.items
      ++ map parameter_by (values_worth (map plain_given l.given) (plain_type l.kind) (constants_of l.frames) (map view.valued (drop l.value-index l.values)))
      ≡ all_plain l.fn.declared.items
      ++ map parameter_by (values_worth (map plain_given l.given) (plain_type l.kind) (constants_of l.fn.frames) (map view.valued l.values));
  fault : lesser (option_map found l.fault)
      (least (value_needs (map plain_given l.given) (plain_type l.kind) (constants_of l.frames) (map view.valued (drop l.value-index l.values))))
      ≡ least (value_needs (map plain_given l.given) (plain_type l.kind) (constants_of l.fn.frames) (map view.valued l.values));
  known : after_values (map plain_given l.given) (plain_type l.kind) (constants_of l.frames) (map view.valued (drop l.value-index l.values))
      ≡ after_values (map plain_given l.given) (plain_type l.kind) (constants_of l.fn.frames) (map view.valued l.values);
  genvars : (around l.frames).is_genvar ≡ (around l.fn.frames).is_genvar;
  outer : l.frames.outer.items ≡ l.fn.frames.outer.items;
}
