-- What an expression is worth (IEEE 1364-2005, clauses 5.1, 5.2, 5.4 and 5.5). An expression has a width and a sign of
-- its own (table 5-22, 5.5.1), and a value at the width and the sign of the context in which it stands (5.5.2). Operands
-- that the standard calls context-determined are evaluated at the context's width and sign, all others at their own.
-- This project's own: values have two states, a zero divisor gives 0, places outside read 0, and unsized numbers may stand
-- in braces.
use Rattle.std.specs.Prelude.{◌≡◌, ℕ, zero, suc, ◌+◌, ◌*◌, ◌^◌, ◌<◌, ◌==◌, Bool, true, false, ◌&&◌, if◌then◌else◌, max, nat_le, List, [], ◌∷◌, ℤ, pos, negsuc, ◌-ℤ◌, ◌+ℤ◌, unsigned_abs, int_le, Option, Some, bit_and, bit_xor}
use Rattle.std.specs.Option.{unwrap_or}
use Rattle.dt_core.specs.Least.{least}
use Rattle.bit_ops.specs.Operators as ops
use Rattle.bit_ops.specs.Applied as applied
use Rattle.bit_ops.specs.declared.operator.Unary.{Unary}
use Rattle.bit_ops.specs.declared.operator.Unary.TheVariants as one
use Rattle.bit_ops.specs.declared.operator.Binary.{Binary}
use Rattle.bit_ops.specs.declared.operator.Binary.TheVariants as two
use Rattle.vl_tree.specs.Token.{Literal}
use Rattle.vl_tree.specs.Syntax.{SystemFunction, to_signed, to_unsigned, clog2}
use Rattle.vl_tree.specs.Syntax.{Expr, number, read, call, system, group, concat, repeat, unary, chain, choose}
use Rattle.vl_tree.specs.Syntax.{Exprs, no_expr, more_expr, Links, no_link, more_link, Choices, no_choice, more_choice}
use Rattle.vl_tree.specs.Syntax.{Selects, no_select, more_select, Select, index, part, upward, downward}
use Rattle.vl_value.specs.Paths.{Text, Path}
use Rattle.vl_value.specs.Things.{Shape, width_of, distance, place_of, word_place, Thing, signal, memory, constant, routine}

-- Where an expression stands: what the names in sight stand for, the number that a moment gives word k of the object at
-- a path (a net or a variable is word 0, a memory's words count from the least index), and what a function gives.
pub record Context : Type 0 where
  pub find : Text → Option Thing
  pub word : Path → ℕ → ℕ
  pub calls : Path → List ℕ → ℕ

-- the numbers of what is in sight fit their widths
pub record Fits (c : Context) : Type 0 where
  pub signals : (x : Text) (p : Path) (sh : Shape) → c.find x ≡ Some (signal p sh) → c.word p 0 < 2 ^ width_of sh
  pub memories : (x : Text) (p : Path) (sh : Shape) (first last k : ℕ) → c.find x ≡ Some (memory p sh first last)
      → c.word p k < 2 ^ width_of sh
  pub constants : (x : Text) (w : ℕ) (s : Bool) (n : ℕ) → c.find x ≡ Some (constant w s n) → n < 2 ^ w
  pub routines : (x : Text) (inside : Bool) (p : Path) (sh : Shape) (shs : List Shape)
      → c.find x ≡ Some (routine inside p sh shs) → c.word p 0 < 2 ^ width_of sh
  pub calls : (x : Text) (inside : Bool) (p : Path) (sh : Shape) (shs : List Shape) (ns : List ℕ)
      → c.find x ≡ Some (routine inside p sh shs) → c.calls p ns < 2 ^ width_of sh

-- where a constant expression stands, which reads no moment's numbers and calls no function
abbrev pub at_rest : (Text → Option Thing) → Context
at_rest find = record { find = find; word = λ p k. 0; calls = λ p ns. 0 }

-- a width in bits, a sign, and the value at a width and a sign
pub record Meaning : Type 0 where
  pub width : ℕ
  pub signed : Bool
  pub at : ℕ → Bool → ℕ

-- the value at its own width and sign: that of a self-determined operand
abbrev pub own : Meaning → ℕ
own m = m.at m.width m.signed

-- the whole number that it stands for, as an index or a constant
abbrev pub whole : Meaning → ℤ
whole m = ops.integer m.signed m.width (own m)

-- whether it holds as a condition
abbrev pub true_of : Meaning → Bool
true_of m = ops.holds (own m)

-- the value where a target of the width w takes it: at the larger of both widths, and cut (5.4.1, 5.5.3); the target's
-- sign doesn't matter
abbrev pub assigned : ℕ → Meaning → ℕ
assigned w m = ops.low w (m.at (max m.width w) m.signed)

-- ---- operands

-- n of the width v: extended by its sign only where it is signed and so is the context
abbrev pub operand : ℕ → Bool → ℕ → Meaning
operand v s n = record { width = v; signed = s; at = λ w t. ops.extend (s && t) v w n }

abbrev pub unsigned : ℕ → ℕ → Meaning
unsigned v n = operand v false n

abbrev pub literal : Literal → Meaning
literal l = operand l.width l.signed l.value

-- ---- operators

-- whether a unary operator's operand has the context's width and sign; else it has its own, and one bit results
abbrev pub keeps_context : Unary → Bool
keeps_context one.Plus = true
keeps_context one.Minus = true
keeps_context one.Not = true
keeps_context one.LogicNot = false
keeps_context one.And = false
keeps_context one.Nand = false
keeps_context one.Or = false
keeps_context one.Nor = false
keeps_context one.Xor = false
keeps_context one.Xnor = false

abbrev pub unary_of : Unary → Meaning → Meaning
unary_of f a = if keeps_context f then record a { at = λ w s. applied.unary f w (a.at w s) }
    else unsigned 1 (applied.unary f a.width (own a))

-- how a binary operator takes its operands (table 5-22)
pub data Operands : Type 0 where
  -- both at the context's width and sign
  alike : Operands
  -- both at the larger of their widths, signed where both are, for one bit
  compared : Operands
  -- the left one at the context's width and sign, the right one by itself
  shifted : Operands
  -- each by itself, for one bit
  judged : Operands

abbrev pub operands_of : Binary → Operands
operands_of two.Mul = alike
operands_of two.Div = alike
operands_of two.Rem = alike
operands_of two.Add = alike
operands_of two.Sub = alike
operands_of two.Shl = shifted
operands_of two.Shr = shifted
operands_of two.Sar = shifted
operands_of two.Lt = compared
operands_of two.Le = compared
operands_of two.Gt = compared
operands_of two.Ge = compared
operands_of two.Eq = compared
operands_of two.Ne = compared
operands_of two.And = alike
operands_of two.Xor = alike
operands_of two.Xnor = alike
operands_of two.Or = alike
operands_of two.LogicAnd = judged
operands_of two.LogicOr = judged

-- a result is signed only where both operands are (5.5.1)
abbrev pub both_signed : Meaning → Meaning → Bool
both_signed a b = a.signed && b.signed

abbrev pub operated : Operands → Binary → Meaning → Meaning → Meaning
operated alike f a b = record {
  width = max a.width b.width;
  signed = both_signed a b;
  at = λ w s. applied.binary f s w (a.at w s) (b.at w s);
}
operated compared f a b =
    let w : ℕ = max a.width b.width in
    let s : Bool = both_signed a b in
    unsigned 1 (applied.binary f s w (a.at w s) (b.at w s))
operated shifted f a b = record { width = a.width; signed = a.signed; at = λ w s. applied.binary f s w (a.at w s) (own b) }
operated judged f a b = unsigned 1 (applied.binary f false a.width (own a) (own b))

abbrev pub binary_of : Binary → Meaning → Meaning → Meaning
binary_of f = operated (operands_of f) f

-- a, where the condition holds, else b (5.1.13)
abbrev pub choice : Meaning → Meaning → Meaning → Meaning
choice c a b = record {
  width = max a.width b.width;
  signed = both_signed a b;
  at = λ w s. if true_of c then a.at w s else b.at w s;
}

-- side by side, the first leftmost (5.1.14)
abbrev pub widths : List Meaning → ℕ
widths [] = 0
widths (m ∷ ms) = m.width + widths ms

abbrev pub joined : List Meaning → ℕ
joined [] = 0
joined (m ∷ ms) = ops.concat (widths ms) (own m) (joined ms)

abbrev pub braces : List Meaning → Meaning
braces ms = unsigned (widths ms) (joined ms)

-- so many copies, side by side
abbrev pub repeated : ℕ → ℕ → ℕ → ℕ
repeated zero w a = 0
repeated (suc n) w a = ops.concat w (repeated n w a) a

abbrev pub copies : ℕ → Meaning → Meaning
copies n m = unsigned (n * m.width) (repeated n m.width (own m))

-- the least k with 2^k at least n, which is below 2^w; 0 for 0 (17.11.1)
abbrev pub logarithm : ℕ → ℕ → ℕ
logarithm w n = unwrap_or (least (λ k. nat_le n (2 ^ k)) (suc w)) 0

-- `$signed` and `$unsigned` change only the sign (5.5); `$clog2` gives a signed number of 32 bits
abbrev pub system_of : SystemFunction → Meaning → Meaning
system_of to_signed a = operand a.width true (own a)
system_of to_unsigned a = operand a.width false (own a)
system_of clog2 a = operand 32 true (logarithm a.width (own a))

-- ---- names and selects

-- the indices that a select covers: so many from one upward
pub record Picked : Type 0 where
  pub from : ℤ
  pub count : ℕ

abbrev pub lesser : ℤ → ℤ → ℤ
lesser a b = if int_le a b then a else b

-- a vector's value n by one select of bits at most: the whole has the declared sign, a select none (5.2.1, 5.5.1)
abbrev pub selected : Shape → ℕ → List Picked → Meaning
selected sh n [] = operand (width_of sh) sh.signed n
selected sh n (k ∷ more) = unsigned k.count (ops.select (place_of sh k.from k.count) k.count n)

-- the word at a place of a memory whose last place is this; 0 outside (5.2.2)
abbrev pub word_at : Context → Path → ℕ → ℤ → ℕ
word_at c p most (pos k) = if nat_le k most then c.word p k else 0
word_at c p most (negsuc k) = 0

-- A name with its selects: of a memory the first is the word's index, and a whole word has the declared sign. What the
-- static rules refuse has some meaning too, so that each expression has one.
abbrev pub named : Context → Option Thing → List Picked → Meaning
named c (Some (signal p sh)) ks = selected sh (c.word p 0) ks
named c (Some (memory p sh first last)) (k ∷ ks) =
    selected sh (word_at c p (distance first last) (word_place first last k.from)) ks
named c (Some (constant w s n)) ks = operand w s n
named c (Some (routine true p sh shs)) ks = selected sh (c.word p 0) ks
named c _ ks = unsigned 1 0

-- a function's inputs take its arguments as targets do (10.4.3)
abbrev pub arguments : List Shape → List Meaning → List ℕ
arguments (sh ∷ shs) (m ∷ ms) = assigned (width_of sh) m ∷ arguments shs ms
arguments _ _ = []

abbrev pub called : Context → Option Thing → List Meaning → Meaning
called c (Some (routine inside p sh shs)) ms = operand (width_of sh) sh.signed (c.calls p (arguments shs ms))
called c _ ms = unsigned 1 0

-- ---- expressions

abbrev mutual
  pub meaning : Context → Expr → Meaning
  meaning c (number p l) = literal l
  meaning c (read x ks) = named c (c.find x.text) (picked c ks)
  meaning c (call f es) = called c (c.find f.text) (meanings c es)
  meaning c (system p f e) = system_of f (meaning c e)
  meaning c (group p e) = meaning c e
  meaning c (concat p es) = braces (meanings c es)
  meaning c (repeat p n es) = copies (unsigned_abs (whole (meaning c n))) (braces (meanings c es))
  meaning c (unary p f e) = unary_of f (meaning c e)
  meaning c (chain e ls) = chained c ls (meaning c e)
  meaning c (choose hs e) = chosen c hs (meaning c e)

  pub meanings : Context → Exprs → List Meaning
  meanings c no_expr = []
  meanings c (more_expr e es) = meaning c e ∷ meanings c es

  -- operators of one level, from left to right (5.1.2)
  pub chained : Context → Links → Meaning → Meaning
  chained c no_link a = a
  chained c (more_link f p e ls) a = chained c ls (binary_of f a (meaning c e))

  pub chosen : Context → Choices → Meaning → Meaning
  chosen c no_choice b = b
  chosen c (more_choice e p a hs) b = choice (meaning c e) (meaning c a) (chosen c hs b)

  pub picked : Context → Selects → List Picked
  picked c no_select = []
  picked c (more_select p k ks) = picked_by c k ∷ picked c ks

  -- v[i], v[a:b], v[b +: w], v[b -: w] (5.2.1)
  pub picked_by : Context → Select → Picked
  picked_by c (index e) = record { from = whole (meaning c e); count = 1 }
  picked_by c (part a b) =
      let x : ℤ = whole (meaning c a) in
      let y : ℤ = whole (meaning c b) in
      record { from = lesser x y; count = unsigned_abs (x -ℤ y) + 1 }
  picked_by c (upward b w) = record { from = whole (meaning c b); count = unsigned_abs (whole (meaning c w)) }
  picked_by c (downward b w) =
      let n : ℤ = whole (meaning c w) in
      record { from = (whole (meaning c b) -ℤ n) +ℤ pos 1; count = unsigned_abs n }

-- ---- items of a case statement

-- the bits that a literal leaves open, in parentheses or not (9.5.1)
abbrev pub open_bits : Expr → ℕ
open_bits (number p l) = l.wild
open_bits (group p e) = open_bits e
open_bits _ = 0

-- whether two values of the width w are equal but for open bits
abbrev pub matches : ℕ → ℕ → ℕ → ℕ → Bool
matches w open' a b = bit_and (bit_xor a b) (ops.invert w open') == 0
