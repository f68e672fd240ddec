-- What is declared of parameters. This project's own.
use Rattle.std.specs.Prelude.{◌≡◌, List, [], ◌∷◌, ◌++◌, Option, map}
use Rattle.std.specs.Option.{option_map}
use Rattle.vl_tree.specs.Syntax as t
use Rattle.vl_value.specs.Order.{least}
use Rattle.vl_found.specs.declared.Found.{Found}
use Rattle.vl_found.specs.View.{found}
use Rattle.vl_design.specs.Spans.{range_needs}
use Rattle.vl_design.specs.Declarations as d
use Rattle.vl_design.specs.Parameters.{ParameterType, Given, parameter_worth, parameter_needs, values_worth, value_needs, after_values, header_type, header_range, header_values, header_worth, header_needs, after_header}
use Rattle.vl_frames.specs.declared.frames.Frames.{Frames}
use Rattle.vl_frames.specs.Marks.{around}
use Rattle.vl_frames.specs.Changes.{declared}
use Rattle.vl_constants.specs.Needed.{constants_of}
use Rattle.vl_declares.specs.declared.declared.Declared.{Declared}
use Rattle.vl_declares.specs.Plain.{all_plain}

-- a parameter: its declaration, its fault, and that it is in sight behind it
pub record DeclaresOne (gs : List Given) (y : ParameterType) (x : t.Name) (e : t.Expr) (was now : Frames) (old new : List Declared) (f : Option Found) : Type 0 where
  pub added : all_plain new ≡ all_plain old ++ d.parameter x (parameter_worth gs (constants_of was) y x e) ∷ []
  pub fault : option_map found f ≡ least (parameter_needs gs (constants_of was) y x e)
  pub sight : around now ≡ declared x.text (parameter_worth gs (constants_of was) y x e) (around was)
  pub outer : now.outer.items ≡ was.outer.items

-- parameters of one type
pub record DeclaresValues (gs : List Given) (y : ParameterType) (vs : List t.Valued) (was now : Frames) (old new : List Declared) (f : Option Found) : Type 0 where
  pub added : all_plain new ≡ all_plain old ++ map d.parameter_by (values_worth gs y (constants_of was) vs)
  pub fault : option_map found f ≡ least (value_needs gs y (constants_of was) vs)
  pub known : constants_of now ≡ after_values gs y (constants_of was) vs
  pub genvars : (around now).is_genvar ≡ (around was).is_genvar
  pub outer : now.outer.items ≡ was.outer.items

-- one of a header, which has this type
pub record DeclaresHeaderOne (gs : List Given) (y : ParameterType) (h : t.HeaderParameter) (u : ParameterType) (was now : Frames) (old new : List Declared) (f : Option Found) : Type 0 where
  pub kind : u ≡ header_type (constants_of was) y h
  pub added : all_plain new ≡ all_plain old ++ map d.parameter_by (values_worth gs u (constants_of was) (header_values h))
  pub fault : option_map found f ≡ least (range_needs (constants_of was) (header_range h) ++ value_needs gs u (constants_of was) (header_values h))
  pub known : constants_of now ≡ after_values gs u (constants_of was) (header_values h)
  pub genvars : (around now).is_genvar ≡ (around was).is_genvar
  pub outer : now.outer.items ≡ was.outer.items

-- those of a header
pub record DeclaresHeader (gs : List Given) (y : ParameterType) (hs : List t.HeaderParameter) (was now : Frames) (old new : List Declared) (f : Option Found) : Type 0 where
  pub added : all_plain new ≡ all_plain old ++ map d.parameter_by (header_worth gs y (constants_of was) hs)
  pub fault : option_map found f ≡ least (header_needs gs y (constants_of was) hs)
  pub known : constants_of now ≡ after_header gs y (constants_of was) hs
  pub genvars : (around now).is_genvar ≡ (around was).is_genvar
  pub outer : now.outer.items ≡ was.outer.items
