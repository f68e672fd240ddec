-- Each piece of a text has a byte.
use Rattle.std.proofs.Common.{◌≡◌, ◌+◌, ◌<◌, ◌==◌, ◌&&◌, ◌||◌, ◌^◌, not, ℕ, zero, suc, Bool, true, false, List, [], ◌∷◌, refl, ap, arith, length, take, drop, if◌then◌else◌}
use Rattle.std.specs.Prelude.{Option, Some, None, Result, Ok, Err, nat_eq, nat_lt, nat_le}
use Rattle.std.specs.List.{starts_with, prefix_len}
use Rattle.vl_pre.specs.Tables.{entry}
use Rattle.vl_tree.specs.declared.token.Mark.{Mark}
use Rattle.vl_tree.specs.Token.{Kind, Literal, name, system}
use Rattle.vl_pre.specs.Bytes.{begins_name, is_digit, is_in_name, name_length}
use Rattle.vl_tree.specs.declared.fault.FaultKind.{FaultKind}
use Rattle.vl_tree.specs.declared.fault.FaultKind.TheVariants.{BadToken, BadNumber}
use Rattle.vl_lex.specs.Faults.{unless}
use Rattle.vl_lex.specs.Words.{marks, systems}
use Rattle.vl_lex.specs.Digits.{value_of}
use Rattle.vl_lex.specs.Numbers.{Counted, Format, is_in_decimal, format_at, counted, digits_length, goes_on, literal_of_size, number_by, number_at, plain_literal}
use Rattle.vl_lex.specs.Strings.{string_at}
use Rattle.vl_lex.specs.Attributes.{close_from}
use Rattle.vl_lex.specs.Tokens.{Spelled, or_other, is_in_escaped, most_name, short, word_kind, name_token, number_token, string_token, mark_token, Class, of_name, of_number, of_system, of_escaped, of_string, of_mark, class_of, token_of, token_at, Piece, gap, spelt, Lead, white, attribute, spelling, lead_of, attribute_piece, token_piece, piece_by, piece_at}
use Rattle.vl_lex.specs.Laws.Spelled.{size_of}

-- an answer has one length
pub one_length : {X : Type 0} → (x y : X) (m n : ℕ) (r : Result (X × ℕ) FaultKind) → r ≡ Ok (x, m) → r ≡ Ok (y, n) → m ≡ n
one_length {X} x y m n r e f = let g : (let p : X × ℕ = (x, m) in p) ≡ (y, n) = cc in ap (λ p. p.1) g

-- ---- marks

-- each mark of the table has a byte
abbrev have_bytes : List (List ℕ × Mark) → Bool
have_bytes [] = true
have_bytes (e ∷ es) = not (length e.0 == 0) && have_bytes es

both : (x y : Bool) → x && y ≡ true → (x ≡ true) × (y ≡ true)
both true true h = (refl, refl)
both true false h = absurd cc
both false y h = absurd cc

some_bytes : (m : ℕ) → not (m == 0) ≡ true → 0 < m
some_bytes zero h = absurd cc
some_bytes (suc m) h = omega arith

mark_by : (x : Bool) (c : ℕ) (a : Kind) (r : Spelled) (k : Kind) (m : ℕ) → 0 < c → (r ≡ Ok (k, m) → 0 < m) → (if x then Ok (a, c) else r) ≡ Ok (k, m) → 0 < m
mark_by true c a r k m f g h = let e : c ≡ m = one_length a k c m _ refl h in omega (arith, e, f)
mark_by false c a r k m f g h = g h

some_of : (ms : List (List ℕ × Mark)) (bs : List ℕ) (k : Kind) (m : ℕ) → have_bytes ms ≡ true → mark_token ms bs ≡ Ok (k, m) → 0 < m
some_of [] bs k m e h = absurd cc
some_of (w ∷ ms) bs k m e h =
    let b = both (not (length w.0 == 0)) (have_bytes ms) e in
    mark_by (starts_with nat_eq bs w.0) (length w.0) _ (mark_token ms bs) k m (some_bytes (length w.0) b.0) (some_of ms bs k m b.1) h

pub mark_some : (bs : List ℕ) (k : Kind) (m : ℕ) → mark_token marks bs ≡ Ok (k, m) → 0 < m
mark_some bs k m h = some_of marks bs k m refl h

-- ---- words

pub unless_ok : {X : Type 0} → (e : Bool) (k : FaultKind) (r : Result X FaultKind) (x : X) → unless e k r ≡ Ok x → (e ≡ false) × (r ≡ Ok x)
unless_ok true k r x h = absurd cc
unless_ok false k r x h = (refl, h)

pub short_ok : (n : ℕ) (a : Kind) (used : ℕ) (k : Kind) (m : ℕ) → short n a used ≡ Ok (k, m) → used ≡ m
short_ok n a used k m h = one_length a k used m (Ok (a, used)) refl (unless_ok (nat_lt most_name n) BadToken (Ok (a, used)) (k, m) h).1

name_some : (b : ℕ) (bs : List ℕ) (k : Kind) (m : ℕ) → begins_name b ≡ true → name_token (b ∷ bs) ≡ Ok (k, m) → 0 < m
name_some b bs k m x h =
    let n : ℕ = name_length (b ∷ bs) in
    let e : n ≡ m = short_ok n (word_kind (take n (b ∷ bs))) n k m h in
    let i : n ≡ prefix_len is_in_name bs + 1 = rw x refl in
    omega (arith, e, i)

pub some_word_ok : (x : Bool) (n : ℕ) (a : Kind) (used : ℕ) (k : Kind) (m : ℕ) → unless x BadToken (short n a (used + 1)) ≡ Ok (k, m) → used + 1 ≡ m
some_word_ok x n a used k m h = short_ok n a (used + 1) k m (unless_ok x BadToken (short n a (used + 1)) (k, m) h).1

some_word : (x : Bool) (n : ℕ) (a : Kind) (used : ℕ) (k : Kind) (m : ℕ) → unless x BadToken (short n a (used + 1)) ≡ Ok (k, m) → 0 < m
some_word x n a used k m h = let e = some_word_ok x n a used k m h in omega (arith, e)

-- ---- numbers

pub counted_ok : (c m : ℕ) (r : Result Literal FaultKind) (l : Literal) → counted c r ≡ Ok (l, m) → m ≡ c
counted_ok c m (Ok a) l h = one_length l a m c _ h refl
counted_ok c m (Err k) l h = absurd cc

not_zero : (n : ℕ) (y : Bool) → (n == 0 || y) ≡ false → 0 < n
not_zero zero y h = absurd cc
not_zero (suc n) y h = omega arith

by_some : (size : List ℕ) (o : Option Format) (rest : List ℕ) (l : Literal) (m : ℕ) → number_by size o rest ≡ Ok (l, m) → 0 < m
by_some size (Some f) rest l m h =
    let bs : List ℕ = drop f.used rest in
    let n : ℕ = digits_length f.base bs in
    let r : Counted = counted (length size + f.used + n) (literal_of_size size f.signed f.base (take n bs)) in
    let u = unless_ok (n == 0 || goes_on (drop n bs)) BadNumber r (l, m) h in
    let e : m ≡ length size + f.used + n = counted_ok _ m _ l u.1 in
    let p = not_zero n (goes_on (drop n bs)) u.0 in
    omega (arith, e, p)
by_some [] None rest l m h = absurd cc
by_some (b ∷ bs) None rest l m h =
    let v : ℕ = value_of 10 (b ∷ bs) in
    let r : Counted = Ok (plain_literal v, length (b ∷ bs)) in
    let e : suc (length bs) ≡ m = one_length (plain_literal v) l (suc (length bs)) m r refl (unless_ok (goes_on rest || nat_le (2 ^ 32) v) BadNumber r (l, m) h).1 in
    omega (arith, e)

number_some : (r : Counted) (k : Kind) (m : ℕ) → ((l : Literal) → r ≡ Ok (l, m) → 0 < m) → number_token r ≡ Ok (k, m) → 0 < m
number_some (Ok a) k m f h = let e : a.1 ≡ m = one_length _ k _ m _ refl h in f a.0 (ap (λ x. Ok (a.0, x)) e)
number_some (Err e) k m f h = absurd cc

string_some : (r : Result (List ℕ × ℕ) FaultKind) (k : Kind) (m : ℕ) → string_token r ≡ Ok (k, m) → 0 < m
string_some (Ok a) k m h = let e : a.1 + 1 ≡ m = one_length _ k _ m _ refl h in omega (arith, e)
string_some (Err e) k m h = absurd cc

-- ---- any token

class_some : (c : Class) (b : ℕ) (bs : List ℕ) (k : Kind) (m : ℕ) → (c ≡ of_name → begins_name b ≡ true) → token_of c (b ∷ bs) ≡ Ok (k, m) → 0 < m
class_some of_name b bs k m f h = name_some b bs k m (f refl) h
class_some of_number b bs k m f h =
    let n : ℕ = prefix_len is_in_decimal (b ∷ bs) in
    number_some (number_at (b ∷ bs)) k m (λ l e. by_some (take n (b ∷ bs)) (format_at (drop n (b ∷ bs))) (drop n (b ∷ bs)) l m e) h
class_some of_system b bs k m f h = let n : ℕ = name_length bs in some_word (n == 0) n (system (or_other (entry systems (take n bs)))) n k m h
class_some of_escaped b bs k m f h = let n : ℕ = prefix_len is_in_escaped bs in some_word (n == 0) n (name (take n bs)) n k m h
class_some of_string b bs k m f h = string_some (string_at bs) k m h
class_some of_mark b bs k m f h = mark_some (b ∷ bs) k m h

class_is : (x y z v w : Bool) → (if x then of_name else if y then of_number else if z then of_system else if v then of_escaped else if w then of_string else of_mark) ≡ of_name → x ≡ true
class_is true y z v w h = refl
class_is false true z v w h = absurd cc
class_is false false true v w h = absurd cc
class_is false false false true w h = absurd cc
class_is false false false false true h = absurd cc
class_is false false false false false h = absurd cc

pub token_some : (bs : List ℕ) (k : Kind) (m : ℕ) → token_at bs ≡ Ok (k, m) → 0 < m
token_some [] k m h = absurd cc
token_some (b ∷ bs) k m h = class_some (class_of b) b bs k m (class_is (begins_name b) (is_digit b || b == 39) (b == 36) (b == 92) (b == 34)) h

-- ---- any piece

ok_piece : (p q : Piece) → (let r : Result Piece FaultKind = Ok p in r) ≡ Ok q → p ≡ q
ok_piece p q e = cc

attribute_some : (o : Option ℕ) (p : Piece) → attribute_piece o ≡ Ok p → 0 < size_of p
attribute_some None p h = absurd cc
attribute_some (Some n) p h = let e : n + 2 ≡ size_of p = ap size_of (ok_piece (gap (n + 2)) p h) in omega (arith, e)

token_piece_some : (r : Spelled) (p : Piece) → ((k : Kind) (m : ℕ) → r ≡ Ok (k, m) → 0 < m) → token_piece r ≡ Ok p → 0 < size_of p
token_piece_some (Ok a) p f h = let e : a.1 ≡ size_of p = ap size_of (ok_piece (spelt a.0 a.1) p h) in let g = f a.0 a.1 refl in omega (arith, e, g)
token_piece_some (Err e) p f h = absurd cc

lead_some : (l : Lead) (bs : List ℕ) (p : Piece) → piece_by l bs ≡ Ok p → 0 < size_of p
lead_some white bs p h = let e : 1 ≡ size_of p = ap size_of (ok_piece (gap 1) p h) in omega (arith, e)
lead_some attribute bs p h = attribute_some (close_from (drop 2 bs)) p h
lead_some spelling bs p h = token_piece_some (token_at bs) p (token_some bs) h

pub piece_some : (bs : List ℕ) (p : Piece) → piece_at bs ≡ Ok p → 0 < size_of p
piece_some bs p h = lead_some (lead_of bs) bs p h
