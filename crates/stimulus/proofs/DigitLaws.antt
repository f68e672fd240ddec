-- The table of digits, and values at the head of bytes.
use Rattle.std.proofs.Common.{◌≡◌, ℕ, zero, suc, ◌+◌, ◌/◌, ◌^◌, inl, inr, ◌<◌, ◌≤◌, Bool, true, false, if◌then◌else◌, List, [], ◌∷◌, ◌++◌, length, take, drop, get_or, Some, None, refl, sym, ap, ◌∙◌, subst, arith, lit<}
use Rattle.std.specs.Prelude.{nat_le, nat_lt, ◌==◌, ◌&&◌, not}
use Rattle.std.specs.List.{list_all, onto_first}
use Rattle.std.specs.Char.{is_ascii_hexdigit, digit_value}
use Rattle.std.proofs.lemmas.Bool.Decides.{nat_tests}
use Rattle.std.proofs.lemmas.List.{take_all, take-append-drop, drop_more}
use Rattle.std.proofs.lemmas.List.Splits.{slice_split_at, slice_split_none, length-slice_split}
use Rattle.std.proofs.lemmas.List.Splits.{slice_split-cons_yes, slice_split-cons_no}
use Rattle.std.proofs.lemmas.List.Elements.{All-cons}
use Rattle.std.specs.Prelude.{All}
use Rattle.stimulus.specs.declared.refusal.RefusalKind.TheVariants as k
use Rattle.stimulus.specs.Stimulus.{words, is_number, number_of, value_fault}
use Rattle.std.specs.Prelude.{nat_eq}
use Rattle.std.proofs.lemmas.Bool.{cases_lt, le-leb, lt-leb}
use Rattle.std.proofs.Math.Nat.{pow-le-pow_right}
use Rattle.std.proofs.lemmas.Nat.{pow_below, pow_pos, div_below, le-div}
use Rattle.stimulus.specs.Calls.Digits.{digit_code, Known}

-- the codes of n bytes from a on
abbrev pub codes_from : ℕ → ℕ → List ℕ
codes_from a zero = []
codes_from a (suc n) = digit_code a ∷ codes_from (a + 1) n

pub code_at : (a n i d : ℕ) → i < n → get_or (codes_from a n) i d ≡ digit_code (a + i)
code_at a zero i d less = absurd (omega arith)
code_at a (suc n) zero d less = let e : a ≡ a + 0 = omega arith in ap digit_code e
code_at a (suc n) (suc i) d less = let e : a + 1 + i ≡ a + suc i = omega arith in code_at (a + 1) n i d (omega arith) ∙ ap digit_code e

-- a space is no digit
pub no_space : (b : ℕ) → is_ascii_hexdigit b ≡ true → (b == 32) ≡ false
no_space b h = grind (arith, nat_tests)

-- a byte has a code below 16 where it is a digit, and only there
pub small_code : (b : ℕ) → digit_code b < 16 → (is_ascii_hexdigit b ≡ true) × (digit_code b ≡ digit_value b)
small_code b h = grind (arith, nat_tests)

pub large_code : (b : ℕ) → 15 < digit_code b → is_ascii_hexdigit b ≡ false
large_code b h = grind (arith, nat_tests)

-- ---- the piece at the head of bytes

pub split_and : (a b : Bool) → (a && b) ≡ true → (a ≡ true) × (b ≡ true)
split_and true b h = (refl, h)
split_and false b h = absurd cc

-- digits have no space among them
digits_plain : (bytes : List ℕ) → list_all is_ascii_hexdigit bytes ≡ true → All (λ b. (b == 32) ≡ false) bytes
digits_plain [] h = λ i d less. absurd (omega arith)
digits_plain (b ∷ bytes) h =
    let both = split_and (is_ascii_hexdigit b) (list_all is_ascii_hexdigit bytes) h in
    All-cons (λ b. (b == 32) ≡ false) b bytes (no_space b both.0) (digits_plain bytes both.1)

-- digits up to the end are one piece
pub all_digits : (bytes : List ℕ) (n : ℕ) → length bytes ≤ n → list_all is_ascii_hexdigit (take n bytes) ≡ true → words bytes ≡ take n bytes ∷ []
all_digits bytes n all h =
    let e = take_all n bytes all in
    slice_split_none (λ b. b == 32) bytes (digits_plain bytes (subst (λ t. list_all is_ascii_hexdigit t ≡ true) e h)) ∙ ap (λ t. t ∷ []) (sym e)

-- digits before a space are a piece
pub digits_space : (bytes : List ℕ) (n : ℕ) → n < length bytes → get_or bytes n 0 ≡ 32 → list_all is_ascii_hexdigit (take n bytes) ≡ true
    → words bytes ≡ take n bytes ∷ words (drop (n + 1) bytes)
digits_space bytes n less space h =
    let e : bytes ≡ take n bytes ++ 32 ∷ drop (n + 1) bytes =
    sym (take-append-drop n bytes) ∙ ap (λ t. take n bytes ++ t) (drop_more bytes n 0 less ∙ ap (λ b. b ∷ drop (n + 1) bytes) space) in
    ap words e ∙ slice_split_at (λ b. b == 32) (take n bytes) 32 (drop (n + 1) bytes) (digits_plain (take n bytes) h) refl

onto : (b : ℕ) (ps : List (List ℕ)) {qs rs : List (List ℕ)} → 0 < length ps → qs ≡ ps → rs ≡ onto_first b qs → (value : List ℕ) × (more : List (List ℕ)) × (qs ≡ value ∷ more) × (rs ≡ (b ∷ value) ∷ more)
onto b [] some e f = absurd (omega arith)
onto b (p ∷ ps) some e f = (p, ps, e, f ∙ ap (onto_first b) e)

-- the first piece of bytes with a first byte that is no space
first_longer : (b : ℕ) (bytes : List ℕ) → (b == 32) ≡ false → (value : List ℕ) × (more : List (List ℕ)) × (words bytes ≡ value ∷ more) × (words (b ∷ bytes) ≡ (b ∷ value) ∷ more)
first_longer b bytes h = onto b (words bytes) (omega (arith, length-slice_split (λ b. b == 32) bytes)) refl (slice_split-cons_no (λ b. b == 32) b bytes h)

first_of : (v w : List ℕ) (vs ws : List (List ℕ)) → (v ∷ vs) ≡ (w ∷ ws) → v ≡ w
first_of v w vs ws e = cc

-- where a byte that is neither digit nor space follows digits, the first piece is no number
pub digits_other : (bytes : List ℕ) (n : ℕ) → n < length bytes → is_ascii_hexdigit (get_or bytes n 0) ≡ false → (get_or bytes n 0 == 32) ≡ false
    → list_all is_ascii_hexdigit (take n bytes) ≡ true
    → (value : List ℕ) × (more : List (List ℕ)) × (words bytes ≡ value ∷ more) × (list_all is_ascii_hexdigit value ≡ false)
digits_other [] n less bad other h = absurd (omega arith)
digits_other (b ∷ bytes) zero less bad other h =
    let f = first_longer b bytes other in (b ∷ f.0, f.1, f.3, ap (λ t. t && list_all is_ascii_hexdigit f.0) bad)
digits_other (b ∷ bytes) (suc n) less bad other h =
    let both = split_and (is_ascii_hexdigit b) (list_all is_ascii_hexdigit (take n bytes)) h in
    let rest = digits_other bytes n (omega arith) bad other both.1 in
    let f = first_longer b bytes (no_space b both.0) in
    let same = first_of f.0 rest.0 f.1 rest.1 (sym f.2 ∙ rest.2) in (
      b ∷ f.0,
      f.1,
      f.3,
      ap (λ t. t && list_all is_ascii_hexdigit f.0) both.0 ∙ ap (list_all is_ascii_hexdigit) same ∙ rest.3,
    )

suc_some : (n : ℕ) → (suc n == 0) ≡ false
suc_some n = grind (arith, nat_tests)

some_value : (b : ℕ) (value : List ℕ) → is_number (b ∷ value) ≡ list_all is_ascii_hexdigit (b ∷ value)
some_value b value = ap (λ t. not t && list_all is_ascii_hexdigit (b ∷ value)) (suc_some (length value))

no_first : (b : ℕ) (bytes : List ℕ) (is : Bool) → (b == 32) ≡ is → is_ascii_hexdigit b ≡ false
    → (value : List ℕ) × (more : List (List ℕ)) × (words (b ∷ bytes) ≡ value ∷ more) × (is_number value ≡ false)
no_first b bytes true e h = ([], words bytes, slice_split-cons_yes (λ b. b == 32) b bytes e, refl)
no_first b bytes false e h = let f = first_longer b bytes e in (b ∷ f.0, f.1, f.3, some_value b f.0 ∙ ap (λ t. t && list_all is_ascii_hexdigit f.0) h)

-- where no digit stands at the head, the first piece is no number
pub no_digits : (bytes : List ℕ) → (0 < length bytes → is_ascii_hexdigit (get_or bytes 0 0) ≡ false)
    → (value : List ℕ) × (more : List (List ℕ)) × (words bytes ≡ value ∷ more) × (is_number value ≡ false)
no_digits [] h = ([], [], refl, refl)
no_digits (b ∷ bytes) h = no_first b bytes (b == 32) refl (h (omega arith))

-- a value that isn't a number, and one that is
pub not_number : (width : ℕ) (value : List ℕ) → is_number value ≡ false → value_fault width value ≡ Some k.BadValue
not_number width value e =
    ap (λ b. if not b then Some k.BadValue else (if nat_le (2 ^ width) (number_of value) then Some k.TooLarge else None)) e

pub a_number : (width : ℕ) (value : List ℕ) (large : Bool) → is_number value ≡ true → large ≡ nat_le (2 ^ width) (number_of value)
    → value_fault width value ≡ (if large then Some k.TooLarge else None)
a_number width value large e f =
    ap (λ b. if not b then Some k.BadValue else (if nat_le (2 ^ width) (number_of value) then Some k.TooLarge else None)) e
    ∙ ap (λ b. if b then Some k.TooLarge else None) (sym f)

pub is_digits : (value : List ℕ) → 0 < length value → list_all is_ascii_hexdigit value ≡ true → is_number value ≡ true
is_digits [] some h = absurd (omega arith)
is_digits (b ∷ value) some h = some_value b value ∙ h

pub not_digits : (value : List ℕ) → list_all is_ascii_hexdigit value ≡ false → is_number value ≡ false
not_digits [] h = absurd cc
not_digits (b ∷ value) h = some_value b value ∙ h

-- ---- numbers below 2 ^ width

pow_most : (w : ℕ) → w ≤ 128 → 2 ^ w ≤ 2 ^ 128
pow_most w few = elim (cases_lt w 128) [ inl less ↦ omega (arith, pow_below w 128 less) | inr more ↦ let e : w ≡ 128 = omega arith in omega (arith, ap (λ n. 2 ^ n) e) ]

pub over_large : (over : Bool) (value n w : ℕ) → over ≡ true → Known over value n → w ≤ 128 → over ≡ nat_le (2 ^ w) n
over_large true value n w e h few = sym (le-leb (2 ^ w) n (omega (arith, h.1, pow_most w few)))
over_large false value n w e h few = absurd cc

shifted_large : (v d q : ℕ) → 0 < d → q ≡ v / d → not (nat_eq q 0) ≡ nat_le d v
shifted_large v d q some is = elim (cases_lt v d) [
  | inl less ↦ let z = div_below v d 1 some (omega arith) in grind (arith, nat_tests)
  | inr more ↦ let z = le-div 1 v d some (omega arith) in grind (arith, nat_tests)
]

pub shift_large : (over : Bool) (value n w : ℕ) → over ≡ false → Known over value n → not (nat_eq (value / 2 ^ w) 0) ≡ nat_le (2 ^ w) n
shift_large true value n w e h = absurd cc
shift_large false value n w e h = shifted_large value (2 ^ w) (value / 2 ^ w) (pow_pos w) refl ∙ ap (nat_le (2 ^ w)) (sym h)

-- a number that isn't too large is known
pub known_small : (over : Bool) (value n w : ℕ) → Known over value n → w ≤ 128 → nat_le (2 ^ w) n ≡ false → value ≡ n
known_small true value n w h few e = absurd (let t = le-leb (2 ^ w) n (omega (arith, h.1, pow_most w few)) in cc)
known_small false value n w h few e = sym h

-- the same of numbers of 64 bits at most
pub few_large : (value w : ℕ) → not (nat_eq (value / 2 ^ w) 0) ≡ nat_le (2 ^ w) value
few_large value w = shifted_large value (2 ^ w) (value / 2 ^ w) (pow_pos w) refl

not_less : (w : ℕ) → 64 ≤ w → nat_lt w 64 ≡ false
not_less w m = grind (arith, nat_tests)

pub few_small : (value w : ℕ) → value < 2 ^ 64 → 64 ≤ w → nat_lt w 64 ≡ nat_le (2 ^ w) value
few_small value w l m =
    let wide : 2 ^ 64 ≤ 2 ^ w = pow-le-pow_right (lit< tt) m in
    not_less w m ∙ sym (lt-leb (2 ^ w) value (omega (arith, l, wide)))
