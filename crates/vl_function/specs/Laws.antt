-- What the rules of lists with commas owe. This project's own.
use Rattle.std.specs.Prelude.{◌≡◌, ◌≤◌, List, [], ◌∷◌, Option, Some, None, refl}
use Rattle.std.proofs.Common.{subst, sym}
use Rattle.vl_tree.specs.declared.token.Mark.TheVariants as m
use Rattle.vl_tree.specs.Token.{Kind}
use Rattle.vl_tree.specs.Token as k
use Rattle.vl_tree.specs.Syntax.{Place, Name, variable, name, no_select, named_port, next_parameter, named_input}
use Rattle.vl_tree.specs.Placed.{Placed, at}
use Rattle.vl_tree.specs.Piece.{name_at}
use Rattle.vl_tree.specs.Modules.{valued_at, net_at, variable_at, driven_at, named_bind_at, instance_at, port_at, named_port_at, header_parameter_at, function_port_at}
use Rattle.vl_read.specs.Reading.{Any}
use Rattle.vl_read.specs.Commas.{IsListed}
use Rattle.vl_read.proofs.TokenRules.{somewhere}
use Rattle.vl_expr.specs.Ends.{EndsExpr}
use Rattle.vl_expr.proofs.Common.{some_expr, comma_ends}
use Rattle.vl_declaration.specs.Laws.{some_name}

pub function_port_laws : IsListed function_port_at Any
function_port_laws = record { comma = λ p z. tt; some = λ z f. (named_input some_name, at (k.name []) somewhere ∷ z, refl) }
