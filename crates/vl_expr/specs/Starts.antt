-- What an expression begins with (IEEE 1364-2005, A.8.4, cut down).
use Rattle.std.specs.Prelude.{◌≡◌, Bool, true, false, Option, Some, None}
use Rattle.vl_tree.specs.declared.token.Mark.{Mark}
use Rattle.vl_tree.specs.declared.token.Mark.TheVariants as m
use Rattle.vl_tree.specs.declared.token.System.{System}
use Rattle.vl_tree.specs.declared.token.System.TheVariants as s
use Rattle.vl_tree.specs.Token.{Kind, literal_of}
use Rattle.vl_tree.specs.Token as k
use Rattle.vl_tree.specs.SyntaxView.{system_function}
use Rattle.vl_tree.specs.Expressions.{unary_of, system_name}
use Rattle.vl_expr.specs.declared.operators.Start.{Start}
use Rattle.vl_expr.specs.declared.operators.Start.TheVariants as start

-- a token of this kind begins this sort of expression
abbrev pub IsStart : Kind → Start → Type 0
IsStart a (start.Number l) = a ≡ k.number (literal_of l)
IsStart a (start.Name n) = a ≡ k.name n.now
IsStart a (start.System f) = a ≡ k.system (system_name (system_function f))
IsStart a start.Paren = a ≡ k.mark m.OpenParen
IsStart a start.Brace = a ≡ k.mark m.OpenBrace
IsStart a (start.Unary op) = (b : Mark) × (a ≡ k.mark b) × (unary_of b ≡ Some op)

-- an expression begins with this mark
abbrev pub mark_starts : Mark → Bool
mark_starts m.OpenParen = true
mark_starts m.OpenBrace = true
mark_starts m.Plus = true
mark_starts m.Minus = true
mark_starts m.Not = true
mark_starts m.Tilde = true
mark_starts m.And = true
mark_starts m.Nand = true
mark_starts m.Or = true
mark_starts m.Nor = true
mark_starts m.Xor = true
mark_starts m.Xnor = true
mark_starts a = false

-- an expression begins with this system name
abbrev pub system_starts : System → Bool
system_starts s.Signed = true
system_starts s.Unsigned = true
system_starts s.Clog2 = true
system_starts a = false

-- an expression begins with a token of this kind
abbrev pub starts : Kind → Bool
starts (k.number l) = true
starts (k.name n) = true
starts (k.system s) = system_starts s
starts (k.mark a) = mark_starts a
starts (k.str s) = false
starts (k.key w) = false

-- what a token of this kind begins, or that no expression begins with it
abbrev pub BeginsWith : Kind → Option Start → Type 0
BeginsWith a (Some s) = IsStart a s
BeginsWith a None = starts a ≡ false
