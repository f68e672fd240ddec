-- What is declared of a variable. This project's own.
use Rattle.std.specs.Prelude.{◌≡◌, Bool, Option}
use Rattle.std.specs.Option.{option_map}
use Rattle.vl_tree.specs.Syntax as t
use Rattle.vl_value.specs.Order.{least}
use Rattle.vl_found.specs.declared.Found.{Found}
use Rattle.vl_found.specs.View.{found}
use Rattle.vl_design.specs.Constants.{Known}
use Rattle.vl_design.specs.Declarations as d
use Rattle.vl_design.specs.Spans.{Span}
use Rattle.vl_declares.specs.declared.declared.Declared.{Declared}
use Rattle.vl_declares.specs.Plain.{plain}

pub record HasVariable (k : Known) (j : d.Kind) (s : Bool) (sp : Span) (v : t.Variable) (one : Declared) (f : Option Found) : Type 0 where
  pub declared : plain one ≡ d.variable_by k j s sp v
  pub fault : option_map found f ≡ least (d.words_needs k v)
