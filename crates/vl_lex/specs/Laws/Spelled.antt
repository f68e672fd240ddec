-- Which tokens a clean text is spelled of, as a relation: `specs/Tokens` computes them (IEEE 1364-2005, 3.1).
use Rattle.std.specs.Prelude.{ℕ, ◌≡◌, ◌<◌, ◌≤◌, List, [], ◌∷◌, ◌⊎◌, drop, take, length, Ok, Err}
use Rattle.vl_tree.specs.Token.{Kind, token, Tokens}
use Rattle.vl_pre.specs.Bytes.{Placed, Text, bytes}
use Rattle.vl_tree.specs.declared.fault.FaultKind.{FaultKind}
use Rattle.vl_tree.specs.declared.fault.FaultKind.TheVariants.{TooManyTokens}
use Rattle.vl_lex.specs.Faults.{Fault, fault}
use Rattle.vl_lex.specs.Tokens.{Piece, gap, spelt, piece_at, token_at, tokens_of, most_tokens}

-- how many bytes a piece has
abbrev pub size_of : Piece → ℕ
size_of (gap n) = n
size_of (spelt k n) = n

-- from here these pieces lead there: each stands where it begins, and the next begins after it
abbrev pub Leads : List Piece → Text → Text → Type 0
Leads [] ts there = ts ≡ there
Leads (p ∷ ps) ts there = (piece_at (bytes ts) ≡ Ok p) × Leads ps (drop (size_of p) ts) there

-- the tokens among the pieces of a text, each on the line of its first byte
abbrev pub tokens_in : List Piece → Text → Tokens
tokens_in [] ts = []
tokens_in (p ∷ ps) [] = []
tokens_in (gap n ∷ ps) (c ∷ ts) = tokens_in ps (drop n (c ∷ ts))
tokens_in (spelt k n ∷ ps) (c ∷ ts) = token c.line k ∷ tokens_in ps (drop n (c ∷ ts))

-- The text is white space, attributes and the spellings of these tokens, and nothing else.
abbrev pub AreTokens : Text → Tokens → Type 0
AreTokens text ts = (ps : List Piece) × Leads ps text [] × (ts ≡ tokens_in ps text)

-- Pieces lead to this place, where no piece stands.
pub record FailsAt (text : Text) (f : Fault) : Type 0 where
  pub pieces : List Piece
  pub here : Placed
  pub after : Text
  pub leads : Leads pieces text (here ∷ after)
  pub kind : FaultKind
  pub fails : piece_at (bytes (here ∷ after)) ≡ Err kind
  pub is : f ≡ fault kind here.line
  pub few : length (tokens_in pieces text) ≤ most_tokens

-- Pieces with the most tokens lead to this place, where one more token stands.
pub record PassesAt (text : Text) (f : Fault) : Type 0 where
  pub pieces : List Piece
  pub here : Placed
  pub after : Text
  pub kind : Kind
  pub size : ℕ
  pub leads : Leads pieces text (here ∷ after)
  pub stands : piece_at (bytes (here ∷ after)) ≡ Ok (spelt kind size)
  pub full : length (tokens_in pieces text) ≡ most_tokens
  pub is : f ≡ fault TooManyTokens here.line

-- A law: these are the tokens, and the first fault, that are computed, and no others.
pub record ComputesTokens : Type 0 where
  pub found : (text : Text) (ts : Tokens) → tokens_of text ≡ Ok ts → AreTokens text ts × (length ts ≤ most_tokens)
  pub all : (text : Text) (ts : Tokens) → AreTokens text ts → length ts ≤ most_tokens → tokens_of text ≡ Ok ts
  pub fault : (text : Text) (f : Fault) → tokens_of text ≡ Err f → FailsAt text f ⊎ PassesAt text f
  pub fails : (text : Text) (f : Fault) → FailsAt text f → tokens_of text ≡ Err f
  pub passes : (text : Text) (f : Fault) → PassesAt text f → tokens_of text ≡ Err f

-- A law: a text has one list of tokens at most.
abbrev pub HaveOneList : Type 0
HaveOneList = (text : Text) (ts us : Tokens) → AreTokens text ts → AreTokens text us → ts ≡ us

-- A law: the token at the head of bytes has the longest spelling that begins there. Its bytes alone are a spelling, and no more of them
-- are. The converse is false: `12` is the longest spelling at the head of `12ab`, and no token stands there.
abbrev pub IsLongest : List ℕ → Kind → ℕ → Type 0
IsLongest bs kind n = (token_at (take n bs) ≡ Ok (kind, n)) × ((m : ℕ) (other : Kind) → n < m → token_at (take m bs) ≡ Ok (other, m) → ⊥)

-- the same of each token
abbrev pub TakesLongest : Type 0
TakesLongest = (bs : List ℕ) (kind : Kind) (n : ℕ) → token_at bs ≡ Ok (kind, n) → IsLongest bs kind n
