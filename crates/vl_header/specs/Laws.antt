-- What the rules of lists with commas owe. This project's own.
use Rattle.std.specs.Prelude.{List, [], ◌∷◌, None, refl}
use Rattle.vl_tree.specs.declared.token.Mark.TheVariants as m
use Rattle.vl_tree.specs.Token.{Kind}
use Rattle.vl_tree.specs.Token as k
use Rattle.vl_tree.specs.Syntax.{named_port, next_parameter}
use Rattle.vl_tree.specs.Placed.{Placed, at}
use Rattle.vl_tree.specs.Modules.{named_bind_at, instance_at, port_at, named_port_at, header_parameter_at}
use Rattle.vl_read.specs.Reading.{Any}
use Rattle.vl_read.specs.Commas.{IsListed}
use Rattle.vl_read.proofs.TokenRules.{somewhere}
use Rattle.vl_expr.specs.Ends.{EndsExpr}
use Rattle.vl_expr.proofs.Common.{comma_ends}
use Rattle.vl_declaration.specs.Laws.{some_name, valued_laws}

pub named_bind_laws : IsListed named_bind_at Any
named_bind_laws = record {
  comma = λ p z. tt;
  some = λ z f.
      let close : List Placed = at (k.mark m.CloseParen) somewhere ∷ z in
      let opened : List Placed = at (k.mark m.OpenParen) somewhere ∷ close in
      let named : List Placed = at (k.name []) somewhere ∷ opened in (
        record { place = somewhere; name = some_name; value = None },
        at (k.mark m.Dot) somewhere ∷ named,
        (named, refl, (opened, refl, (close, (somewhere, refl), (close, refl, (somewhere, refl))))),
      );
}

pub instance_laws : IsListed instance_at Any
instance_laws = record {
  comma = λ p z. tt;
  some = λ z f.
      let close : List Placed = at (k.mark m.CloseParen) somewhere ∷ z in
      let opened : List Placed = at (k.mark m.OpenParen) somewhere ∷ close in (
        record { name = some_name; binds = None },
        at (k.name []) somewhere ∷ opened,
        (opened, refl, (close, (somewhere, refl), (close, refl, (somewhere, refl)))),
      );
}

pub port_laws : IsListed port_at Any
port_laws = record { comma = λ p z. tt; some = λ z f. (named_port some_name, at (k.name []) somewhere ∷ z, refl) }

pub named_port_laws : IsListed named_port_at Any
named_port_laws = record { comma = λ p z. tt; some = λ z f. (named_port some_name, at (k.name []) somewhere ∷ z, refl) }

pub header_laws : IsListed header_parameter_at EndsExpr
header_laws = record {
  comma = comma_ends;
  some = λ z f. let o = valued_laws.some z f in (next_parameter o.0.name o.0.value, o.1, o.2);
}
