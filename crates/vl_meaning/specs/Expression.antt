-- The value of an expression (IEEE 1364-2005, clauses 5.1, 5.4 and 5.5).
-- An expression means three things: a width and a sign of its own (5.4.1, table 5-22; 5.5.1), and a value at the width and the sign of
-- the context in which it stands (5.5.2). Operands that the standard calls context-determined are evaluated at the context's width and
-- sign.
use Rattle.std.specs.Prelude.{ℕ, ◌==◌, Bool, false, ◌&&◌, max, if◌then◌else◌, List, [], ◌∷◌, bytes_eq}
use Rattle.bit_ops.specs.Operators as ops
use Rattle.vl_tree.specs.declared.expr.Unary.{Unary}
use Rattle.vl_tree.specs.declared.expr.Unary.TheVariants as one
use Rattle.vl_tree.specs.declared.expr.Binary.{Binary}
use Rattle.vl_tree.specs.declared.expr.Binary.TheVariants as two
use Rattle.vl_tree.specs.Tree.{Text, Primary, name, number, Expr, primary, unary, binary, Port}
use Rattle.vl_meaning.specs.Objects.{width_of}

-- ---- values: a finite map from names to numbers

pub record Cell : Type 0 where
  pub name : Text
  pub value : ℕ

abbrev pub Values : Type 0
Values = List Cell

-- the value of a name
abbrev pub value_at : Values → Text → ℕ
value_at [] x = 0
value_at (c ∷ cs) x = if bytes_eq c.name x then c.value else value_at cs x

-- where an expression or a statement stands: what the names stand for, and their numbers at a moment
pub record Context : Type 0 where
  pub ports : List Port
  pub values : Values

-- ---- meanings

pub record Meaning : Type 0 where
  pub width : ℕ
  pub signed : Bool
  pub at : ℕ → Bool → ℕ

-- the value at its own width and sign: of a self-determined operand
abbrev pub own : Meaning → ℕ
own m = m.at m.width m.signed

-- the value where a target of the width w takes it: at the larger width, and cut (5.4.1, 5.5.3); the target's sign doesn't matter
abbrev pub assigned : ℕ → Meaning → ℕ
assigned w m = ops.low w (m.at (max m.width w) m.signed)

-- n of the width v: extended by sign only where it is signed and so is the context
abbrev pub of_number : ℕ → Bool → ℕ → Meaning
of_number v s n = record { width = v; signed = s; at = λ w t. ops.extend (s && t) v w n }

-- one bit: 1 where the test holds
abbrev pub test : Bool → Meaning
test b = of_number 1 false (ops.bit b)

-- a name is unsigned here, since no declaration has a sign
abbrev pub primary_meaning : Context → Primary → Meaning
primary_meaning c (name x) = of_number (width_of c.ports x) false (value_at c.values x)
primary_meaning c (number l) = of_number l.width l.signed l.value

-- ---- operators: a row of table 5-22 each

-- the operand at its own width and sign (5.1.9)
abbrev pub logically_negated : Meaning → Meaning
logically_negated a = test (own a == 0)

-- both operands at the context's width and sign (5.1.5)
abbrev pub summed : Meaning → Meaning → Meaning
summed a b = record { width = max a.width b.width; signed = a.signed && b.signed; at = λ w s. ops.add w (a.at w s) (b.at w s) }

-- both operands at the larger of their widths, signed where both are (5.1.8)
abbrev pub compared : Meaning → Meaning → Meaning
compared a b =
    let w : ℕ = max a.width b.width in
    let s : Bool = a.signed && b.signed in
    test (a.at w s == b.at w s)

abbrev pub unary_meaning : Unary → Meaning → Meaning
unary_meaning one.LogicNot a = logically_negated a

abbrev pub binary_meaning : Binary → Meaning → Meaning → Meaning
binary_meaning two.Add a b = summed a b
binary_meaning two.Equal a b = compared a b

-- ---- expressions

abbrev pub meaning : Context → Expr → Meaning
meaning c (primary a) = primary_meaning c a
meaning c (unary op a) = unary_meaning op (primary_meaning c a)
meaning c (binary a op b) = binary_meaning op (primary_meaning c a) (primary_meaning c b)
