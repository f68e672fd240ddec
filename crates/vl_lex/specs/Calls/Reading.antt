-- What the readers answer, beside what the definition says. This project's own.
use Rattle.std.specs.Prelude.{ℕ, ◌^◌, ◌<◌, ◌≤◌, ◌≡◌, ◌==◌, Bool, true, false, ◌||◌, if◌then◌else◌, List, [], ◌∷◌, ◌++◌, ◌⊎◌, length, Option, Some, None, Result, Ok, Err, codes}
use Rattle.vl_tree.specs.declared.token.Mark.{Mark}
use Rattle.vl_tree.specs.declared.token.Literal as literal
use Rattle.vl_tree.specs.declared.token.Token as code
use Rattle.vl_tree.specs.declared.token.TokenKind.{TokenKind}
use Rattle.vl_tree.specs.Token.{mark, Literal, literal_of, coded_kind}
use Rattle.vl_tree.specs.declared.fault.FaultKind.{FaultKind}
use Rattle.vl_tree.specs.declared.fault.FaultKind.TheVariants.{BadToken, BadNumber, TooWide, TooManyTokens}
use Rattle.vl_pre.specs.Bytes.{begins}
use Rattle.vl_pre.specs.Pieces.{string_length}
use Rattle.vl_lex.specs.Numbers as n
use Rattle.vl_lex.specs.Tokens as t
use Rattle.vl_lex.specs.declared.attributes.Within.{Within}
use Rattle.vl_lex.specs.declared.attributes.Within.TheVariants as within
use Rattle.vl_tree.specs.declared.fault.StaticFault.{StaticFault}
use Rattle.vl_tree.specs.declared.fault.StaticFault.TheVariants as f
use Rattle.vl_tree.specs.Fault.{on_line}
use Rattle.vl_lex.specs.declared.faults.Wrong.{Wrong}
use Rattle.vl_lex.specs.declared.faults.Wrong.TheVariants as wrong
use Rattle.vl_lex.specs.declared.numbers.Format.{Format}
use Rattle.vl_lex.specs.declared.numbers.Number.{Number}
use Rattle.vl_lex.specs.declared.strings.Character.{Character}
use Rattle.vl_lex.specs.declared.strings.Quoted.{Quoted}
use Rattle.vl_lex.specs.declared.tokens.Found.{Found}
use Rattle.vl_lex.specs.declared.pieces.Piece as code_piece
use Rattle.dt_core.specs.declared.limits.TheConstants.{MAX_WIDTH}

-- ---- faults

-- the fault of a text that a reader's fault on this line is
abbrev pub fault_on : Wrong → ℕ → StaticFault
fault_on (wrong.Bad kind) line = on_line 2 line kind
fault_on wrong.Memory line = f.Memory

-- the definition has this fault too; where memory ran out nothing is said
abbrev pub IsWrong : {X : Type 0} → Result X FaultKind → Wrong → Type 0
IsWrong r (wrong.Bad kind) = r ≡ Err kind
IsWrong r wrong.Memory = Unit {0}

-- ---- words

-- the first of these marks with which the bytes begin, none longer than the bytes
abbrev pub FindsMark : List (List ℕ × Mark) → List ℕ → Option (Mark × ℕ) → Type 0
FindsMark ms bs None = t.mark_token ms bs ≡ Err BadToken
FindsMark ms bs (Some e) = (t.mark_token ms bs ≡ Ok (mark e.0, e.1)) × (e.1 ≤ length bs)

-- ---- numbers

-- the number where it is below 2^128, and none where it isn't
abbrev pub IsValue : ℕ → Option ℕ → Type 0
IsValue v None = 2 ^ 128 ≤ v
IsValue v (Some x) = x ≡ v

-- the number where it is a width, 1 to 128, and else whether it is too small or too great
abbrev pub IsWidth : ℕ → Result ℕ FaultKind → Type 0
IsWidth v (Ok w) = (w ≡ v) × (1 ≤ w) × (w ≤ MAX_WIDTH)
IsWidth v (Err BadNumber) = v ≡ 0
IsWidth v (Err TooWide) = MAX_WIDTH < v
IsWidth v (Err _) = ⊥

-- a format of the code as that of the definition
abbrev pub format_of : Format → n.Format
format_of x = record { signed = x.signed; base = x.base; used = x.used }

-- the format, or none where the definition has none
abbrev pub IsFormat : Option n.Format → Option Format → Type 0
IsFormat r (Some x) = r ≡ Some (format_of x)
IsFormat r None = r ≡ None

-- the literal, or the definition's fault
abbrev pub IsLiteral : Result Literal FaultKind → Result literal.Literal FaultKind → Type 0
IsLiteral r (Ok l) = r ≡ Ok (literal_of l)
IsLiteral r (Err kind) = r ≡ Err kind

-- the number with how many bytes it has, or the definition's fault
abbrev pub Tells : n.Counted → Result Number FaultKind → Type 0
Tells r (Ok x) = r ≡ Ok (literal_of x.literal, x.used)
Tells r (Err kind) = r ≡ Err kind

-- ---- strings

-- the byte of an escape with how many bytes it has, or none where the definition has none
abbrev pub IsCharacter : Option (ℕ × ℕ) → Option Character → Type 0
IsCharacter r (Some p) = r ≡ Some (p.byte, p.used)
IsCharacter r None = r ≡ None

-- the character of a string, or its end, or the definition's fault
abbrev pub IsCharacterOrEnd : Result (Option (ℕ × ℕ)) FaultKind → Result (Option Character) FaultKind → Type 0
IsCharacterOrEnd r (Ok (Some p)) = r ≡ Ok (Some (p.byte, p.used))
IsCharacterOrEnd r (Ok None) = r ≡ Ok None
IsCharacterOrEnd r (Err kind) = r ≡ Err kind

-- the bytes of a string with how many bytes spell them, or its fault
abbrev pub Quotes : Result (List ℕ × ℕ) FaultKind → Result Quoted Wrong → Type 0
Quotes r (Ok x) = r ≡ Ok (x.text, x.used)
Quotes r (Err w) = IsWrong r w

-- ---- attributes

-- how many of these bytes are the rest of the string in which they begin
abbrev pub inside : Within → List ℕ → ℕ
inside within.Outside bs = 0
inside within.Quoted bs = string_length false false bs
inside within.Escaping bs = string_length false true bs

-- where the byte after this one stands
abbrev pub after_byte : Within → ℕ → Within
after_byte within.Outside b = if b == 34 then within.Quoted else within.Outside
after_byte within.Quoted b = if b == 34 || b == 10 then within.Outside else if b == 92 then within.Escaping else within.Quoted
after_byte within.Escaping b = if b == 10 then within.Outside else within.Quoted

-- the attribute ends here
abbrev pub ends_attribute : Within → List ℕ → Bool
ends_attribute within.Outside bs = begins (codes "*)") bs
ends_attribute within.Quoted bs = false
ends_attribute within.Escaping bs = false

-- ---- tokens

-- the kind of token with how many bytes spell it, or its fault
abbrev pub SpellsAlone : t.Spelled → Result Found FaultKind → Type 0
SpellsAlone r (Ok x) = r ≡ Ok (coded_kind x.kind, x.used)
SpellsAlone r (Err kind) = r ≡ Err kind

-- the same, where the names and strings of a token need memory
abbrev pub Spells : t.Spelled → Result Found Wrong → Type 0
Spells r (Ok x) = r ≡ Ok (coded_kind x.kind, x.used)
Spells r (Err w) = IsWrong r w

-- a piece of the code as that of the definition
abbrev pub piece_of : Option TokenKind → ℕ → t.Piece
piece_of None n = t.gap n
piece_of (Some k) n = t.spelt (coded_kind k) n

-- the piece, or its fault
abbrev pub StandsAlone : Result t.Piece FaultKind → Result code_piece.Piece FaultKind → Type 0
StandsAlone r (Ok p) = r ≡ Ok (piece_of p.token p.used)
StandsAlone r (Err kind) = r ≡ Err kind

-- the same, where the names and strings of a token need memory
abbrev pub Stands : Result t.Piece FaultKind → Result code_piece.Piece Wrong → Type 0
Stands r (Ok p) = r ≡ Ok (piece_of p.token p.used)
Stands r (Err w) = IsWrong r w

-- why no token of this line was appended: there were as many as there may be, or memory ran out
abbrev pub PushFails : List code.Token → ℕ → StaticFault → Type 0
PushFails old line (f.At phase place kind) = (t.most_tokens ≤ length old) × (f.At phase place kind ≡ on_line 2 line TooManyTokens)
PushFails old line f.Memory = Unit {0}

-- the token was appended, or it wasn't, and why
abbrev pub Pushes : List code.Token → code.Token → List code.Token → Result (Unit {0}) StaticFault → Type 0
Pushes old a new (Ok _) = (new ≡ old ++ a ∷ []) × (length old < t.most_tokens)
Pushes old a new (Err e) = PushFails old a.line e

-- the token of a piece on this line was appended, if it has one, or it wasn't, and why
abbrev pub Takes : List code.Token → ℕ → Option TokenKind → ℕ → List code.Token → Result ℕ StaticFault → Type 0
Takes old line None used new (Ok n) = (n ≡ used) × (new ≡ old)
Takes old line None used new (Err e) = ⊥
Takes old line (Some k) used new (Ok n) = (n ≡ used) × (new ≡ old ++ record { line = line; kind = k } ∷ []) × (length old < t.most_tokens)
Takes old line (Some k) used new (Err e) = PushFails old line e

-- none stands there, and why, or memory ran out
abbrev pub IsFault : Result t.Piece FaultKind → ℕ → StaticFault → Type 0
IsFault r line e = (w : Wrong) × (e ≡ fault_on w line) × IsWrong r w

-- the same of an answer
abbrev pub NoneStands : Result t.Piece FaultKind → ℕ → Result ℕ StaticFault → Type 0
NoneStands r line (Ok n) = ⊥
NoneStands r line (Err e) = IsFault r line e

-- the piece at the head was taken, or it wasn't, and why
abbrev pub Steps : List code.Token → ℕ → Result t.Piece FaultKind → List code.Token → Result ℕ StaticFault → Type 0
Steps old line r new x = ((k : Option TokenKind) × (n : ℕ) × (r ≡ Ok (piece_of k n)) × Takes old line k n new x) ⊎ NoneStands r line x
