use Rattle.std.proofs.Common.{◌≡◌, ◌++◌, map, drop}
use Rattle.std.specs.Option.{option_map}
use Rattle.vl_tree.specs.SyntaxView as view
use Rattle.vl_value.specs.Order.{lesser, least}
use Rattle.vl_found.specs.View.{found}
use Rattle.vl_design.specs.Parameters.{no_type, header_worth, header_needs, after_header}
use Rattle.vl_design.specs.Declarations.{parameter_by}
use Rattle.vl_frames.specs.Marks.{around}
use Rattle.vl_constants.specs.Needed.{constants_of}
use Rattle.vl_parameters.specs.Plain.{plain_given, plain_type}
use Rattle.vl_declares.specs.Plain.{all_plain}
use Rattle.vl_declares.proofs.header.declare_header.Given as goal

-- what was declared, the least fault and the constants in sight so far, and those of what is left
abbrev pub invariant-loop-one : goal.invariant-loop-one
invariant-loop-one l = record {
  added : all_plain l.declared.items
      ++ map parameter_by (header_worth (map plain_given l.given) (plain_type l.kind) (constants_of l.frames) (map view.header_parameter (drop l.one-index l.parameters)))
      ≡ all_plain l.fn.declared.items
      ++ map parameter_by (header_worth (map plain_given l.given) no_type (constants_of l.fn.frames) (map view.header_parameter l.parameters));
  fault : lesser (option_map found l.fault)
      (least (header_needs (map plain_given l.given) (plain_type l.kind) (constants_of l.frames) (map view.header_parameter (drop l.one-index l.parameters))))
      ≡ least (header_needs (map plain_given l.given) no_type (constants_of l.fn.frames) (map view.header_parameter l.parameters));
  known : after_header (map plain_given l.given) (plain_type l.kind) (constants_of l.frames) (map view.header_parameter (drop l.one-index l.parameters))
      ≡ after_header (map plain_given l.given) no_type (constants_of l.fn.frames) (map view.header_parameter l.parameters);
  genvars : (around l.frames).is_genvar ≡ (around l.fn.frames).is_genvar;
  outer : l.frames.outer.items ≡ l.fn.frames.outer.items;
}
