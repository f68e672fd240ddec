-- Ranges without their borrows; ports and inputs of a header one after another.
use Rattle.std.proofs.Common.{◌≡◌, List, ◌∷◌, ◌++◌, refl}
use Rattle.std.specs.Prelude.{Bool, Option, None, Some}
use Rattle.std.specs.Borrow.{Bor}
use Rattle.std.specs.Option.{option_map, option_copied}
use Rattle.vl_tree.specs.SyntaxView as view
use Rattle.vl_tree.specs.declared.expression.Range.{Range}
use Rattle.vl_tree.specs.Syntax as t
use Rattle.vl_design.specs.Constants.{Known}
use Rattle.vl_design.specs.Declarations.{header_ports, header_inputs}
use Rattle.vl_design.specs.Spans.{Span}
use Rattle.vl_constants.specs.Needed.{range_tree}
use Rattle.vl_declares.specs.Locals.{input_here}
use Rattle.vl_declares.specs.HeaderPorts.{port_here, words_behind}

pub range_copied : (o : Option (Bor Range)) → range_tree o ≡ option_map view.range (option_copied o)
range_copied None = refl
range_copied (Some r) = refl

-- one port of a header, and those behind it
pub ports_on : (k : Known) (w : Option t.Directed) (p : t.Port) (ps : List t.Port)
    → header_ports k w (p ∷ ps) ≡ port_here k w p ++ header_ports k (words_behind w p) ps
ports_on k w (t.declared_port e x) ps = refl
ports_on k None (t.named_port x) ps = refl
ports_on k (Some e) (t.named_port x) ps = refl

-- one input of a function's header, and those behind it
pub inputs_on : (k : Known) (s : Bool) (sp : Span) (p : t.FunctionPort) (ps : List t.FunctionPort)
    → header_inputs k s sp (p ∷ ps) ≡ input_here k s sp p ∷ header_inputs k (input_here k s sp p).signed (input_here k s sp p).span ps
inputs_on k s sp (t.declared_input p g r x) ps = refl
inputs_on k s sp (t.named_input x) ps = refl
