-- Tokens: what clean text is spelled of (IEEE 1364-2005, 3.1 to 3.8; limits are this project's own).
use Rattle.std.specs.Prelude.{ℕ, zero, suc, ◌+◌, ◌==◌, nat_lt, nat_eq, Bool, if◌then◌else◌, ◌||◌, List, [], ◌∷◌, ◌++◌, take, drop, length, Option, Some, None, Result, Ok, Err}
use Rattle.std.specs.List.{starts_with, prefix_len}
use Rattle.vl_pre.specs.Tables.{entry}
use Rattle.vl_tree.specs.declared.token.Key.{Key}
use Rattle.vl_tree.specs.declared.token.Mark.{Mark}
use Rattle.vl_tree.specs.declared.token.System.{System}
use Rattle.vl_tree.specs.declared.token.System.TheVariants as s
use Rattle.vl_tree.specs.Token.{Kind, name, system, number, str, key, mark, token, Tokens}
use Rattle.vl_pre.specs.Bytes.{Text, bytes, is_white, is_digit, begins_name, between, name_length}
use Rattle.vl_tree.specs.declared.fault.FaultKind.{FaultKind}
use Rattle.vl_tree.specs.declared.fault.FaultKind.TheVariants.{BadToken, TooManyTokens}
use Rattle.vl_lex.specs.Faults.{Fault, fault, unless}
use Rattle.vl_lex.specs.Words.{keys, marks, systems}
use Rattle.vl_lex.specs.Numbers.{Counted, number_at}
use Rattle.vl_lex.specs.Strings.{string_at}
use Rattle.vl_lex.specs.Attributes.{opens_attribute, close_from}
use Rattle.dt_core.specs.declared.limits.TheConstants.{MAX_NAME, MAX_TOKENS}

-- ---- one token

-- a kind of token, and how many bytes its spelling has
abbrev pub Spelled : Type 0
Spelled = Result (Kind × ℕ) FaultKind

-- the most bytes of a name
abbrev pub most_name : ℕ
most_name = MAX_NAME

-- a word of n bytes, 255 at most, whose spelling has so many
abbrev pub short : ℕ → Kind → ℕ → Spelled
short n kind used = unless (nat_lt most_name n) BadToken (Ok (kind, used))

-- a keyword is no name (3.7.2)
abbrev pub key_or_name : Option Key → List ℕ → Kind
key_or_name (Some k) word = key k
key_or_name None word = name word

-- the kind of a word
abbrev pub word_kind : List ℕ → Kind
word_kind word = key_or_name (entry keys word) word

-- a name or keyword
abbrev pub name_token : List ℕ → Spelled
name_token bs = let n = name_length bs in short n (word_kind (take n bs)) n

-- a byte of an escaped name: printable, and no blank
abbrev pub is_in_escaped : ℕ → Bool
is_in_escaped = between 33 126

-- an escaped name, after its backslash: one byte of 33 to 126 at least, and never a keyword (3.7.1)
abbrev pub escaped_token : List ℕ → Spelled
escaped_token bs = let n = prefix_len is_in_escaped bs in unless (n == 0) BadToken (short n (name (take n bs)) (n + 1))

-- a system name that no rule uses is `Other`
abbrev pub or_other : Option System → System
or_other (Some a) = a
or_other None = s.Other

-- a system name, after its `$` (3.7.3)
abbrev pub system_token : List ℕ → Spelled
system_token bs = let n = name_length bs in unless (n == 0) BadToken (short n (system (or_other (entry systems (take n bs)))) (n + 1))

-- a number
abbrev pub number_token : Counted → Spelled
number_token (Ok l) = Ok (number l.0, l.1)
number_token (Err k) = Err k

-- a string, by what stands after its first quote
abbrev pub string_token : Result (List ℕ × ℕ) FaultKind → Spelled
string_token (Ok a) = Ok (str a.0, a.1 + 1)
string_token (Err k) = Err k

-- the first of these marks with which the bytes begin
abbrev pub mark_token : List (List ℕ × Mark) → List ℕ → Spelled
mark_token [] bs = Err BadToken
mark_token (m ∷ ms) bs = if starts_with nat_eq bs m.0 then Ok (mark m.1, length m.0) else mark_token ms bs

-- what the first byte of a token tells
pub data Class : Type 0 where
  of_name : Class
  of_number : Class
  of_system : Class
  of_escaped : Class
  of_string : Class
  of_mark : Class

-- the class by the first byte
abbrev pub class_of : ℕ → Class
class_of b =
    if begins_name b then of_name else
    if is_digit b || b == 39 then of_number else
    if b == 36 then of_system else
    if b == 92 then of_escaped else
    if b == 34 then of_string else of_mark

-- the token by its class
abbrev pub token_of : Class → List ℕ → Spelled
token_of of_name bs = name_token bs
token_of of_number bs = number_token (number_at bs)
token_of of_system bs = system_token (drop 1 bs)
token_of of_escaped bs = escaped_token (drop 1 bs)
token_of of_string bs = string_token (string_at (drop 1 bs))
token_of of_mark bs = mark_token marks bs

-- the token at the head of these bytes, or why none stands there
abbrev pub token_at : List ℕ → Spelled
token_at [] = Err BadToken
token_at (b ∷ bs) = token_of (class_of b) (b ∷ bs)

-- ---- pieces of a text

-- a piece of a text with how many bytes it has: white space or an attribute, or a token
pub data Piece : Type 0 where
  gap : ℕ → Piece
  spelt : Kind → ℕ → Piece

-- what a piece begins with
pub data Lead : Type 0 where
  white : Lead
  attribute : Lead
  spelling : Lead

-- which of them stands here
abbrev pub lead_of : List ℕ → Lead
lead_of [] = spelling
lead_of (b ∷ bs) = if is_white b then white else if opens_attribute (b ∷ bs) then attribute else spelling

-- an attribute, by how many bytes lead from after its `(*` to its end
abbrev pub attribute_piece : Option ℕ → Result Piece FaultKind
attribute_piece None = Err BadToken
attribute_piece (Some n) = Ok (gap (n + 2))

-- a token as a piece
abbrev pub token_piece : Spelled → Result Piece FaultKind
token_piece (Ok a) = Ok (spelt a.0 a.1)
token_piece (Err k) = Err k

-- the piece by what it begins with
abbrev pub piece_by : Lead → List ℕ → Result Piece FaultKind
piece_by white bs = Ok (gap 1)
piece_by attribute bs = attribute_piece (close_from (drop 2 bs))
piece_by spelling bs = token_piece (token_at bs)

-- the piece at the head of these bytes, or why none stands there
abbrev pub piece_at : List ℕ → Result Piece FaultKind
piece_at bs = piece_by (lead_of bs) bs

-- ---- all tokens

-- the tokens before the first fault, and that fault
pub record Lexed : Type 0 where
  pub tokens : Tokens
  pub fault : Option Fault

-- these tokens come first
abbrev pub ahead : Tokens → Lexed → Lexed
ahead ts l = record l { tokens = ts ++ l.tokens }

-- no token, but this fault
abbrev pub stuck : FaultKind → ℕ → Lexed
stuck kind line = record { tokens = []; fault = Some (fault kind line) }

-- a piece that begins on this line, or why none stands here, and what `more` reads after it
abbrev pub from_piece : Result Piece FaultKind → ℕ → Text → (Text → Lexed) → Lexed
from_piece (Ok (gap n)) line ts more = more (drop n ts)
from_piece (Ok (spelt k n)) line ts more = ahead (token line k ∷ []) (more (drop n ts))
from_piece (Err k) line ts more = stuck k line

-- the tokens from here on, in at most n pieces; a token and its fault are on the line of its first byte
abbrev pub lexed_from : ℕ → Text → Lexed
lexed_from n [] = record { tokens = []; fault = None }
lexed_from zero (c ∷ ts) = record { tokens = []; fault = None }
lexed_from (suc n) (c ∷ ts) = from_piece (piece_at (bytes (c ∷ ts))) c.line (c ∷ ts) (lexed_from n)

-- each piece has a byte, so the length bounds them
abbrev pub lexed : Text → Lexed
lexed ts = lexed_from (length ts) ts

-- the most tokens
abbrev pub most_tokens : ℕ
most_tokens = MAX_TOKENS

-- what is found by this many tokens at most: those after them, the fault after those found, and the tokens
abbrev pub answer : Tokens → Option Fault → Tokens → Result Tokens Fault
answer (token line kind ∷ more) f found = Err (fault TooManyTokens line)
answer [] (Some f) found = Err f
answer [] None found = Ok found

-- what was read, within so many tokens
abbrev pub at_most : ℕ → Lexed → Result Tokens Fault
at_most most l = answer (drop most l.tokens) l.fault l.tokens

-- the tokens of a clean text, or its first fault
abbrev pub tokens_of : Text → Result Tokens Fault
tokens_of ts = at_most most_tokens (lexed ts)
