-- Tokens as plain data (IEEE 1364-2005, 3.1). Keywords, marks and system names are those of the program; that a literal says which bits
-- it leaves open is this project's own.
use Rattle.std.specs.Prelude.{ℕ, Bool, List, map}
use Rattle.vl_tree.specs.declared.token.Key.{Key}
use Rattle.vl_tree.specs.declared.token.Mark.{Mark}
use Rattle.vl_tree.specs.declared.token.System.{System}
use Rattle.vl_tree.specs.declared.token.Literal as declared_literal
use Rattle.vl_tree.specs.declared.token.TokenKind.{TokenKind}
use Rattle.vl_tree.specs.declared.token.TokenKind.TheVariants as code
use Rattle.vl_tree.specs.declared.token.Token as declared

-- a number: its width, whether the width was written, its sign, its value, and the bits that its `z` digits leave open
pub record Literal : Type 0 where
  pub width : ℕ
  pub sized : Bool
  pub signed : Bool
  pub value : ℕ
  pub wild : ℕ

-- what a token is; a name stands without its backslash, a string as the bytes that it stands for
pub data Kind : Type 0 where
  name : List ℕ → Kind
  system : System → Kind
  number : Literal → Kind
  str : List ℕ → Kind
  key : Key → Kind
  mark : Mark → Kind

-- a token on its line
pub data Token : Type 0 where
  token : ℕ → Kind → Token

abbrev pub kind_of : Token → Kind
kind_of (token line a) = a

abbrev pub Tokens : Type 0
Tokens = List Token

-- ---- the tokens of the program

abbrev pub literal_of : declared_literal.Literal → Literal
literal_of l = record { width = l.width; sized = l.sized; signed = l.signed; value = l.value; wild = l.wild }

abbrev pub coded_kind : TokenKind → Kind
coded_kind (code.Name s) = name s
coded_kind (code.System s) = system s
coded_kind (code.Number l) = number (literal_of l)
coded_kind (code.Str s) = str s
coded_kind (code.Key w) = key w
coded_kind (code.Mark m) = mark m

abbrev pub coded : declared.Token → Token
coded t = token t.line (coded_kind t.kind)

abbrev pub all_coded : List declared.Token → Tokens
all_coded = map coded
