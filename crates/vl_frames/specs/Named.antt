-- Which names parts of the program's trees have. This project's own.
use Rattle.std.specs.Prelude.{Bool, List, map}
use Rattle.vl_tree.specs.Syntax as t
use Rattle.vl_tree.specs.SyntaxView as view
use Rattle.vl_tree.specs.declared.expression.Name.{Name}
use Rattle.vl_tree.specs.declared.item.Net.{Net}
use Rattle.vl_tree.specs.declared.item.Valued.{Valued}
use Rattle.vl_tree.specs.declared.item.Variable.{Variable}
use Rattle.vl_tree.specs.declared.item.FunctionPort.{FunctionPort}
use Rattle.vl_tree.specs.declared.item.FunctionDeclaration.{FunctionDeclaration}
use Rattle.vl_value.specs.Paths.{Text}
use Rattle.vl_design.specs.Lists.{each_of}
use Rattle.vl_design.specs.Declarations.{is_any_name, variable_name, input_name, local_names, names_in}

abbrev pub named : List Name → Text → Bool
named ns = λ x. is_any_name x (map view.name ns)

abbrev pub net_named : List Net → Text → Bool
net_named ns = λ x. is_any_name x (map (λ (n : t.Net). n.name) (map view.net ns))

abbrev pub variable_named : List Variable → Text → Bool
variable_named vs = λ x. is_any_name x (map variable_name (map view.variable vs))

abbrev pub value_named : List Valued → Text → Bool
value_named vs = λ x. is_any_name x (map (λ (v : t.Valued). v.name) (map view.valued vs))

abbrev pub input_named : List FunctionPort → Text → Bool
input_named ps = λ x. is_any_name x (map input_name (map view.function_port ps))

abbrev pub local_named : List FunctionDeclaration → Text → Bool
local_named ds = λ x. is_any_name x (each_of local_names (map view.function_declaration ds))

-- its own name, and those of its inputs and variables
abbrev pub function_named : t.Function → Text → Bool
function_named f = λ x. is_any_name x (names_in f)
