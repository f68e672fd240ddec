-- What the rules of lists with commas owe. This project's own.
use Rattle.std.specs.Prelude.{List, [], ◌∷◌, None, refl}
use Rattle.std.proofs.Common.{subst, sym}
use Rattle.vl_tree.specs.declared.token.Mark.TheVariants as m
use Rattle.vl_tree.specs.Token.{Kind}
use Rattle.vl_tree.specs.Token as k
use Rattle.vl_tree.specs.Syntax.{Place, Name, variable, name, no_select}
use Rattle.vl_tree.specs.Placed.{Placed, at}
use Rattle.vl_tree.specs.Piece.{name_at}
use Rattle.vl_tree.specs.Modules.{valued_at, net_at, variable_at, driven_at}
use Rattle.vl_read.specs.Reading.{Any}
use Rattle.vl_read.specs.Commas.{IsListed}
use Rattle.vl_read.proofs.TokenRules.{somewhere}
use Rattle.vl_expr.specs.Ends.{EndsExpr}
use Rattle.vl_expr.proofs.Common.{some_expr, comma_ends}
use Rattle.vl_declaration.specs.Readers.{NoValue}

-- a name that stands for any other
abbrev pub some_name : Name
some_name = record { text = []; place = somewhere }

-- nothing where the token is a comma
abbrev pub NoComma : Kind → Type 0
NoComma (k.mark m.Comma) = ⊥
NoComma a = Unit {0}

pub comma_value : (p : Place) (z : List Placed) → NoValue (at (k.mark m.Comma) p ∷ z)
comma_value p z = (λ h. subst NoComma (sym h) tt, comma_ends p z)

pub name_laws : IsListed name_at Any
name_laws = record { comma = λ p z. tt; some = λ z f. (some_name, at (k.name []) somewhere ∷ z, refl) }

pub net_laws : IsListed net_at NoValue
net_laws = record {
  comma = comma_value;
  some = λ z f. (record { name = some_name; value = None }, at (k.name []) somewhere ∷ z, (z, refl, refl));
}

pub variable_laws : IsListed variable_at NoValue
variable_laws = record { comma = comma_value; some = λ z f. (variable some_name, at (k.name []) somewhere ∷ z, refl) }

pub valued_laws : IsListed valued_at EndsExpr
valued_laws = record {
  comma = comma_ends;
  some = λ z f.
      let o = some_expr EndsExpr z f in (
        record { name = some_name; value = o.0 },
        at (k.name []) somewhere ∷ at (k.mark m.Equals) somewhere ∷ o.1,
        (at (k.mark m.Equals) somewhere ∷ o.1, refl, (o.1, (somewhere, refl), o.2)),
      );
}

pub driven_laws : IsListed driven_at EndsExpr
driven_laws = record {
  comma = comma_ends;
  some = λ z f.
      let o = some_expr EndsExpr z f in
      let e : List Placed = at (k.mark m.Equals) somewhere ∷ o.1 in (
        record { target = name some_name no_select; place = somewhere; value = o.0 },
        at (k.name []) somewhere ∷ e,
        (e, (e, refl, refl), (o.1, refl, o.2)),
      );
}
