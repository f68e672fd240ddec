-- What is declared of an item that holds no others. This project's own.
use Rattle.std.specs.Prelude.{◌≡◌, Bool, true, false, ◌&&◌, not, List, ◌++◌, Option, map}
use Rattle.std.specs.Option.{option_map}
use Rattle.vl_tree.specs.Syntax as t
use Rattle.vl_value.specs.Paths.{Text}
use Rattle.vl_value.specs.Order as order
use Rattle.vl_value.specs.Order.{least}
use Rattle.vl_found.specs.declared.Found.{Found}
use Rattle.vl_found.specs.View.{found}
use Rattle.vl_design.specs.Lists.{each_of}
use Rattle.vl_design.specs.Constants.{Known}
use Rattle.vl_design.specs.Generate.{behind}
use Rattle.vl_design.specs.Spans.{optional_span, range_needs}
use Rattle.vl_design.specs.Declarations as d
use Rattle.vl_design.specs.Parameters.{Given, parameter_type, values_worth, value_needs, after_values}
use Rattle.vl_frames.specs.declared.frames.Frames.{Frames}
use Rattle.vl_frames.specs.Marks.{around}
use Rattle.vl_constants.specs.Needed.{constants_of}
use Rattle.vl_declares.specs.declared.declared.Declared.{Declared}
use Rattle.vl_declares.specs.Plain.{all_plain}

-- whether an item holds no others: it is no region, no loop and no `if`
abbrev pub holds_none : t.Item → Bool
holds_none (t.region p is) = false
holds_none (t.generate_loop p l b) = false
holds_none (t.generate_if bs e) = false
holds_none _ = true

-- an item: its declarations, the least fault of the constants that it needs, and what is around behind it
pub record DeclaresItem (gs : List Given) (i : t.Item) (was now : Frames) (old new : List Declared) (f : Option Found) : Type 0 where
  pub added : all_plain new ≡ all_plain old ++ d.plain_declared gs (constants_of was) i
  pub fault : option_map found f ≡ least (d.item_needs gs (constants_of was) i)
  pub sight : holds_none i ≡ true → around now ≡ behind gs (around was) i
  pub outer : now.outer.items ≡ was.outer.items

-- whether parameters have a name
abbrev pub value_has : List t.Valued → Text → Bool
value_has vs = λ x. d.is_any_name x (map (λ (v : t.Valued). v.name) vs)

-- parameters of a declared type
pub record DeclaresParameters (gs : List Given) (s : Bool) (r : Option t.Range) (vs : List t.Valued) (was now : Frames) (old new : List Declared) (f : Option Found) : Type 0 where
  pub added : all_plain new
      ≡ all_plain old ++ map d.parameter_by (values_worth gs (parameter_type (constants_of was) s r) (constants_of was) vs)
  pub fault : option_map found f
      ≡ least (range_needs (constants_of was) r ++ value_needs gs (parameter_type (constants_of was) s r) (constants_of was) vs)
  pub known : constants_of now ≡ after_values gs (parameter_type (constants_of was) s r) (constants_of was) vs
  pub genvars : (around now).is_genvar ≡ (λ x. not (value_has vs x) && (around was).is_genvar x)
  pub outer : now.outer.items ≡ was.outer.items

-- registers and memories of a declared range
abbrev pub registers_by : Known → Bool → Option t.Range → List t.Variable → List d.Declared
registers_by k s r = map (d.variable_by k d.register s (optional_span k r))

abbrev pub registers_needs : Known → Option t.Range → List t.Variable → List order.Found
registers_needs k r vs = range_needs k r ++ each_of (d.words_needs k) vs
