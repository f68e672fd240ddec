-- Inputs and variables of functions. This project's own.
use Rattle.std.specs.Prelude.{◌≡◌, Bool, List, ◌++◌, Option, map}
use Rattle.std.specs.Option.{option_map}
use Rattle.vl_tree.specs.Syntax as t
use Rattle.vl_value.specs.Order as order
use Rattle.vl_value.specs.Order.{least}
use Rattle.vl_found.specs.declared.Found.{Found}
use Rattle.vl_found.specs.View.{found}
use Rattle.vl_design.specs.Constants.{Known}
use Rattle.vl_design.specs.Spans.{Span, optional_span}
use Rattle.vl_design.specs.Declarations as d
use Rattle.vl_declares.specs.declared.declared.Local.{Local}
use Rattle.vl_declares.specs.Plain.{plain_local}

abbrev pub all_locals : List Local → List d.Local
all_locals = map plain_local

abbrev pub locals_named : Bool → Span → List t.Name → List d.Local
locals_named s sp = map (d.local s sp)

-- what was added behind what was there, and the least fault
pub record AddsLocals (old : List Local) (ls : List d.Local) (fs : List order.Found) (new : List Local) (f : Option Found) : Type 0 where
  pub added : all_locals new ≡ all_locals old ++ ls
  pub fault : option_map found f ≡ least fs

-- an input behind one of this sign and range
abbrev pub input_here : Known → Bool → Span → t.FunctionPort → d.Local
input_here k s sp (t.declared_input p g r x) = d.local g (optional_span k r) x
input_here k s sp (t.named_input x) = d.local s sp x

pub record HasInput (k : Known) (s : Bool) (sp : Span) (p : t.FunctionPort) (l : Local) (f : Option Found) : Type 0 where
  pub local : plain_local l ≡ input_here k s sp p
  pub fault : option_map found f ≡ least (d.input_needs k p)
