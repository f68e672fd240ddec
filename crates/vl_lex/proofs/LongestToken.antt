-- A token stays the same with less text after it, and so has the longest spelling that begins there.
use Rattle.std.proofs.Common.{◌≡◌, ◌≤◌, ◌<◌, ◌+◌, ◌-◌, ◌==◌, ◌||◌, ℕ, zero, suc, Bool, true, false, List, [], ◌∷◌, refl, sym, ap, subst, ◌∙◌, arith, take, drop, length, length-drop, if◌then◌else◌}
use Rattle.std.specs.Prelude.{Option, Some, None, Result, Ok, Err, nat_eq, nat_le, ◌^◌}
use Rattle.std.specs.List.{prefix_len, starts_with}
use Rattle.std.proofs.lemmas.List.Folds.{length-prefix_len}
use Rattle.vl_pre.specs.Tables.{entry}
use Rattle.vl_tree.specs.declared.token.Mark.{Mark}
use Rattle.vl_tree.specs.Token.{Kind, Literal, name, system, number, str, mark}
use Rattle.vl_pre.specs.Bytes.{ends_line}
use Rattle.vl_pre.specs.Bytes.{begins, name_length}
use Rattle.vl_tree.specs.declared.fault.FaultKind.{FaultKind}
use Rattle.vl_tree.specs.declared.fault.FaultKind.TheVariants.{BadToken, BadNumber, OpenString}
use Rattle.vl_lex.specs.Faults.{unless}
use Rattle.vl_lex.specs.Words.{marks, systems}
use Rattle.vl_lex.specs.Digits.{value_of}
use Rattle.vl_lex.specs.Numbers.{Counted, Format, is_in_decimal, digits_length, goes_on, plain_literal, plain_number, literal_of_size, counted, based_number, number_by, number_at, format_at}
use Rattle.vl_lex.specs.Strings as s
use Rattle.vl_lex.specs.Tokens.{Spelled, short, word_kind, name_token, is_in_escaped, escaped_token, or_other, system_token, number_token, string_token, mark_token, Class, of_name, of_number, of_system, of_escaped, of_string, of_mark, class_of, token_of, token_at}
use Rattle.vl_lex.specs.Laws.Spelled.{TakesLongest}
use Rattle.vl_lex.proofs.PieceLaws.{one_length, unless_ok, short_ok, some_word_ok, counted_ok, token_some}
use Rattle.vl_lex.proofs.LongestLaws.{take-take-le, drop-take-le, prefix_len-take, name_length-take, digits_length-take, goes_on-take, format_none, format_less, begins_less, begins_not}

-- ---- words

name_stable : (m n : ℕ) (bs : List ℕ) (k : Kind) → name_token bs ≡ Ok (k, n) → n ≤ m → name_token (take m bs) ≡ Ok (k, n)
name_stable m n bs k e h =
    let c : ℕ = name_length bs in
    let l : c ≡ n = short_ok c (word_kind (take c bs)) c k n e in
    let a : name_length (take m bs) ≡ c = name_length-take m bs (omega (arith, l, h)) in
    let t : take c (take m bs) ≡ take c bs = take-take-le c m bs (omega (arith, l, h)) in
    ap (λ x. short x (word_kind (take x (take m bs))) x) a ∙ ap (λ w. short c (word_kind w) c) t ∙ e

system_stable : (m n : ℕ) (bs : List ℕ) (k : Kind) → system_token bs ≡ Ok (k, n) → n ≤ suc m → system_token (take m bs) ≡ Ok (k, n)
system_stable m n bs k e h =
    let c : ℕ = name_length bs in
    let F : ℕ → List ℕ → Spelled = λ x w. unless (x == 0) BadToken (short x (system (or_other (entry systems w))) (x + 1)) in
    let l : c + 1 ≡ n = some_word_ok (c == 0) c (system (or_other (entry systems (take c bs)))) c k n e in
    let a : name_length (take m bs) ≡ c = name_length-take m bs (omega (arith, l, h)) in
    let t : take c (take m bs) ≡ take c bs = take-take-le c m bs (omega (arith, l, h)) in
    ap (λ x. F x (take x (take m bs))) a ∙ ap (F c) t ∙ e

escaped_stable : (m n : ℕ) (bs : List ℕ) (k : Kind) → escaped_token bs ≡ Ok (k, n) → n ≤ suc m → escaped_token (take m bs) ≡ Ok (k, n)
escaped_stable m n bs k e h =
    let c : ℕ = prefix_len is_in_escaped bs in
    let F : ℕ → List ℕ → Spelled = λ x w. unless (x == 0) BadToken (short x (name w) (x + 1)) in
    let l : c + 1 ≡ n = some_word_ok (c == 0) c (name (take c bs)) c k n e in
    let a : prefix_len is_in_escaped (take m bs) ≡ c = prefix_len-take is_in_escaped m bs (omega (arith, l, h)) in
    let t : take c (take m bs) ≡ take c bs = take-take-le c m bs (omega (arith, l, h)) in
    ap (λ x. F x (take x (take m bs))) a ∙ ap (F c) t ∙ e

-- ---- numbers

based_length : (size : List ℕ) (f : Format) (bs : List ℕ) (l : Literal) (n : ℕ) → based_number size f bs ≡ Ok (l, n) → n ≡ length size + f.used + digits_length f.base bs
based_length size f bs l n e =
    let c : ℕ = digits_length f.base bs in
    counted_ok _ n _ l (unless_ok (c == 0 || goes_on (drop c bs)) BadNumber (counted (length size + f.used + c) (literal_of_size size f.signed f.base (take c bs))) (l, n) e).1

or_second : (x y : Bool) → (x || y) ≡ false → y ≡ false
or_second true y e = absurd cc
or_second false y e = e

or_first : (x y : Bool) → (x || y) ≡ false → x ≡ false
or_first true y e = absurd cc
or_first false y e = refl

based_stable : (size : List ℕ) (f : Format) (bs : List ℕ) (i : ℕ) (l : Literal) (n : ℕ) → based_number size f bs ≡ Ok (l, n) → n ≤ length size + f.used + i → based_number size f (take i bs) ≡ Ok (l, n)
based_stable size f bs i l n e h =
    let c : ℕ = digits_length f.base bs in
    let F : ℕ → Bool → List ℕ → Counted = λ x g w. unless (x == 0 || g) BadNumber (counted (length size + f.used + x) (literal_of_size size f.signed f.base w)) in
    let q = based_length size f bs l n e in
    let u = unless_ok (c == 0 || goes_on (drop c bs)) BadNumber (counted (length size + f.used + c) (literal_of_size size f.signed f.base (take c bs))) (l, n) e in
    let g : goes_on (drop c bs) ≡ false = or_second (c == 0) (goes_on (drop c bs)) u.0 in
    let w : c ≤ i = omega (arith, q, h) in
    let a : digits_length f.base (take i bs) ≡ c = digits_length-take f.base i bs w in
    let t : take c (take i bs) ≡ take c bs = take-take-le c i bs w in
    let d : goes_on (drop c (take i bs)) ≡ goes_on (drop c bs) = ap goes_on (drop-take-le c i bs w) ∙ goes_on-take (i - c) (drop c bs) g ∙ sym g in
    ap (λ x. F x (goes_on (drop x (take i bs))) (take x (take i bs))) a ∙ ap (λ x. F c x (take c (take i bs))) d ∙ ap (F c (goes_on (drop c bs))) t ∙ e

plain_ok : (digits rest : List ℕ) (l : Literal) (n : ℕ) → plain_number digits rest ≡ Ok (l, n) → (goes_on rest ≡ false) × (length digits ≡ n)
plain_ok digits rest l n e =
    let v : ℕ = value_of 10 digits in
    let r : Counted = Ok (plain_literal v, length digits) in
    let u = unless_ok (goes_on rest || nat_le (2 ^ 32) v) BadNumber r (l, n) e in
    (or_first (goes_on rest) (nat_le (2 ^ 32) v) u.0, one_length (plain_literal v) l (length digits) n r refl u.1)

plain_stable : (digits rest : List ℕ) (j : ℕ) (l : Literal) (n : ℕ) → plain_number digits rest ≡ Ok (l, n) → plain_number digits (take j rest) ≡ Ok (l, n)
plain_stable digits rest j l n e =
    let v : ℕ = value_of 10 digits in
    let F : Bool → Counted = λ g. unless (g || nat_le (2 ^ 32) v) BadNumber (Ok (plain_literal v, length digits)) in
    let g = (plain_ok digits rest l n e).0 in
    ap F (goes_on-take j rest g ∙ sym g) ∙ e

by_stable : (size rest : List ℕ) (o : Option Format) (j : ℕ) (l : Literal) (n : ℕ) → format_at rest ≡ o → number_by size o rest ≡ Ok (l, n) → n ≤ length size + j
    → number_by size (format_at (take j rest)) (take j rest) ≡ Ok (l, n)
by_stable size rest (Some f) j l n o e h =
    let q = based_length size f (drop f.used rest) l n e in
    let w : f.used ≤ j = omega (arith, q, h) in
    let a : format_at (take j rest) ≡ Some f = format_less j rest f w o in
    let d : drop f.used (take j rest) ≡ take (j - f.used) (drop f.used rest) = drop-take-le f.used j rest w in
    ap (λ x. number_by size x (take j rest)) a ∙ ap (based_number size f) d ∙ based_stable size f (drop f.used rest) (j - f.used) l n e (omega (arith, w, h))
by_stable [] rest None j l n o e h = absurd cc
by_stable (b ∷ bs) rest None j l n o e h =
    ap (λ x. number_by (b ∷ bs) x (take j rest)) (format_none j rest o) ∙ plain_stable (b ∷ bs) rest j l n e

by_length : (size rest : List ℕ) (o : Option Format) (l : Literal) (n : ℕ) → number_by size o rest ≡ Ok (l, n) → length size ≤ n
by_length size rest (Some f) l n e = let q = based_length size f (drop f.used rest) l n e in omega (arith, q)
by_length [] rest None l n e = absurd cc
by_length (b ∷ bs) rest None l n e = let q = (plain_ok (b ∷ bs) rest l n e).1 in omega (arith, q)

number_stable : (bs : List ℕ) (m n : ℕ) (l : Literal) → number_at bs ≡ Ok (l, n) → n ≤ m → number_at (take m bs) ≡ Ok (l, n)
number_stable bs m n l e h =
    let c : ℕ = prefix_len is_in_decimal bs in
    let size : List ℕ = take c bs in
    let rest : List ℕ = drop c bs in
    let z : length size ≡ c = length-prefix_len is_in_decimal bs in
    let q = by_length size rest (format_at rest) l n e in
    let w : c ≤ m = omega (arith, z, q, h) in
    let a : prefix_len is_in_decimal (take m bs) ≡ c = prefix_len-take is_in_decimal m bs w in
    let t : take c (take m bs) ≡ size = take-take-le c m bs w in
    let d : drop c (take m bs) ≡ take (m - c) rest = drop-take-le c m bs w in
    ap (λ x. number_by (take x (take m bs)) (format_at (drop x (take m bs))) (drop x (take m bs))) a
    ∙ ap (λ x. number_by x (format_at (drop c (take m bs))) (drop c (take m bs))) t
    ∙ ap (λ x. number_by size (format_at x) x) d ∙ by_stable size rest (format_at rest) (m - c) l n refl e (omega (arith, z, w, h))

number_token_stable : (r t : Counted) (k : Kind) (n : ℕ) → ((l : Literal) → r ≡ Ok (l, n) → t ≡ Ok (l, n)) → number_token r ≡ Ok (k, n) → number_token t ≡ Ok (k, n)
number_token_stable (Ok a) t k n f e =
    let x : a.1 ≡ n = one_length (number a.0) k a.1 n _ refl e in
    ap number_token (f a.0 (ap (λ y. Ok (a.0, y)) x) ∙ ap (λ y. Ok (a.0, y)) (sym x)) ∙ e
number_token_stable (Err x) t k n f e = absurd cc

-- ---- strings

-- how many bytes spell a character
abbrev character_size : Option (ℕ × ℕ) → ℕ
character_size None = 1
character_size (Some p) = p.1

line_less : (m b : ℕ) (bs : List ℕ) → ends_line (b ∷ bs) ≡ false → ends_line (b ∷ take m bs) ≡ false
line_less m b bs e =
    let x = begins_not (suc m) (b ∷ bs) (10 ∷ []) (or_first (begins (10 ∷ []) (b ∷ bs)) (begins (13 ∷ 10 ∷ []) (b ∷ bs)) e) in
    let y = begins_not (suc m) (b ∷ bs) (13 ∷ 10 ∷ []) (or_second (begins (10 ∷ []) (b ∷ bs)) (begins (13 ∷ 10 ∷ []) (b ∷ bs)) e) in
    ap (λ z. z || begins (13 ∷ 10 ∷ []) (b ∷ take m bs)) x ∙ y

octal_ok : (c : ℕ) (bs : List ℕ) (p : ℕ × ℕ) → s.octal_digits c bs ≡ Some p → p.1 ≡ c
octal_ok c bs p e = go (c == 0 || nat_le 256 (value_of 8 (take c bs))) e
  where
    go : (x : Bool) → (if x then None else Some (value_of 8 (take c bs), c)) ≡ Some p → p.1 ≡ c
    go true e = absurd cc
    go false e = let f : (let q : ℕ × ℕ = (value_of 8 (take c bs), c) in q) ≡ p = cc in sym (ap (λ q. q.1) f)

take-swap : (n m : ℕ) (bs : List ℕ) → take n (take m bs) ≡ take m (take n bs)
take-swap zero zero bs = refl
take-swap zero (suc m) bs = refl
take-swap (suc n) zero bs = refl
take-swap (suc n) (suc m) [] = refl
take-swap (suc n) (suc m) (b ∷ bs) = ap (λ x. b ∷ x) (take-swap n m bs)

octal_stable : (m : ℕ) (bs : List ℕ) (p : ℕ × ℕ) → s.octal_escape bs ≡ Some p → p.1 ≤ m → s.octal_escape (take m bs) ≡ Some p
octal_stable m bs p e h =
    let c : ℕ = prefix_len s.is_octal (take 3 bs) in
    let q : p.1 ≡ c = octal_ok c bs p e in
    let a : prefix_len s.is_octal (take 3 (take m bs)) ≡ c = ap (prefix_len s.is_octal) (take-swap 3 m bs) ∙ prefix_len-take s.is_octal m (take 3 bs) (omega (arith, q, h)) in
    let t : take c (take m bs) ≡ take c bs = take-take-le c m bs (omega (arith, q, h)) in
    let F : List ℕ → Option (ℕ × ℕ) = λ w. if c == 0 || nat_le 256 (value_of 8 w) then None else Some (value_of 8 w, c) in
    ap (λ x. s.octal_digits x (take m bs)) a ∙ ap F t ∙ e

escape_by : (x y z : Bool) (b m : ℕ) (bs : List ℕ) (p : ℕ × ℕ) → (if x then Some (10, 1) else if y then Some (9, 1) else if z then Some (b, 1) else s.octal_escape (b ∷ bs)) ≡ Some p
    → p.1 ≤ suc m → (if x then Some (10, 1) else if y then Some (9, 1) else if z then Some (b, 1) else s.octal_escape (b ∷ take m bs)) ≡ Some p
escape_by true y z b m bs p e h = e
escape_by false true z b m bs p e h = e
escape_by false false true b m bs p e h = e
escape_by false false false b m bs p e h = octal_stable (suc m) (b ∷ bs) p e h

simple_ok : (a : ℕ) (p : ℕ × ℕ) → Some (a, 1) ≡ Some p → 1 ≤ p.1
simple_ok a p e = let f : (let q : ℕ × ℕ = (a, 1) in q) ≡ p = cc in let g : 1 ≡ p.1 = ap (λ q. q.1) f in omega (arith, g)

octal_some : (c : ℕ) (bs : List ℕ) (p : ℕ × ℕ) → s.octal_digits c bs ≡ Some p → 1 ≤ p.1
octal_some zero bs p e = absurd cc
octal_some (suc c) bs p e = let q = octal_ok (suc c) bs p e in omega (arith, q)

escape_some : (x y z : Bool) (b : ℕ) (bs : List ℕ) (p : ℕ × ℕ) → (if x then Some (10, 1) else if y then Some (9, 1) else if z then Some (b, 1) else s.octal_escape (b ∷ bs)) ≡ Some p → 1 ≤ p.1
escape_some true y z b bs p e = simple_ok 10 p e
escape_some false true z b bs p e = simple_ok 9 p e
escape_some false false true b bs p e = simple_ok b p e
escape_some false false false b bs p e = octal_some (prefix_len s.is_octal (take 3 (b ∷ bs))) (b ∷ bs) p e

escape_stable : (m : ℕ) (bs : List ℕ) (p : ℕ × ℕ) → s.escape bs ≡ Some p → p.1 ≤ m → s.escape (take m bs) ≡ Some p
escape_stable m [] p e h = absurd cc
escape_stable zero (b ∷ bs) p e h = let g = escape_some (b == 110) (b == 116) (b == 92 || b == 34) b bs p e in absurd (omega (arith, g, h))
escape_stable (suc m) (b ∷ bs) p e h = escape_by (b == 110) (b == 116) (b == 92 || b == 34) b m bs p e h

escaped_keep : (x y : FaultKind) (o t : Option (ℕ × ℕ)) (r : Option (ℕ × ℕ)) (m : ℕ) → ((p : ℕ × ℕ) → o ≡ Some p → p.1 ≤ m → t ≡ Some p) → s.escaped x o ≡ Ok r → character_size r ≤ suc m
    → s.escaped y t ≡ Ok r
escaped_keep x y None t r m f e h = absurd cc
escaped_keep x y (Some p) t r m f e h =
    let i : Some (p.0, p.1 + 1) ≡ r = cc in
    let j : p.1 + 1 ≡ character_size r = ap character_size i in
    ap (s.escaped y) (f p refl (omega (arith, j, h))) ∙ e

character_by : (x y z : Bool) (b m : ℕ) (bs : List ℕ) (r : Option (ℕ × ℕ)) → (if x then Err OpenString else if y then Ok None else if z then s.escaped (s.no_escape bs) (s.escape bs) else Ok (Some (b, 1))) ≡ Ok r
    → character_size r ≤ suc m → (if y then Ok None else if z then s.escaped (s.no_escape (take m bs)) (s.escape (take m bs)) else Ok (Some (b, 1))) ≡ Ok r
character_by true y z b m bs r e h = absurd cc
character_by false true z b m bs r e h = e
character_by false false true b m bs r e h = escaped_keep (s.no_escape bs) (s.no_escape (take m bs)) (s.escape bs) (s.escape (take m bs)) r m (escape_stable m bs) e h
character_by false false false b m bs r e h = e

no_end : (x y z : Bool) (b : ℕ) (bs : List ℕ) (r : Option (ℕ × ℕ)) → (if x then Err OpenString else if y then Ok None else if z then s.escaped (s.no_escape bs) (s.escape bs) else Ok (Some (b, 1))) ≡ Ok r → x ≡ false
no_end true y z b bs r e = absurd cc
no_end false y z b bs r e = refl

character_stable : (m b : ℕ) (bs : List ℕ) (r : Option (ℕ × ℕ)) → s.character_at (b ∷ bs) ≡ Ok r → character_size r ≤ suc m → s.character_at (b ∷ take m bs) ≡ Ok r
character_stable m b bs r e h =
    let x : ends_line (b ∷ bs) ≡ false = no_end (ends_line (b ∷ bs)) (b == 34) (b == 92) b bs r e in
    let x' : ends_line (b ∷ take m bs) ≡ false = line_less m b bs x in
    ap (λ y. if y then Err OpenString else if b == 34 then Ok None else if b == 92 then s.escaped (s.no_escape (take m bs)) (s.escape (take m bs)) else Ok (Some (b, 1))) x'
    ∙ character_by (ends_line (b ∷ bs)) (b == 34) (b == 92) b m bs r e h

-- a character has a byte
escaped_some : (x : FaultKind) (o : Option (ℕ × ℕ)) (r : Option (ℕ × ℕ)) → s.escaped x o ≡ Ok r → 1 ≤ character_size r
escaped_some y None r e = absurd cc
escaped_some y (Some p) r e = let x : Some (p.0, p.1 + 1) ≡ r = cc in let j : p.1 + 1 ≡ character_size r = ap character_size x in omega (arith, j)

ok_size : (o r : Option (ℕ × ℕ)) → (let x : Result (Option (ℕ × ℕ)) FaultKind = Ok o in x) ≡ Ok r → 1 ≤ character_size o → 1 ≤ character_size r
ok_size o r e h = let x : o ≡ r = cc in subst (λ y. 1 ≤ character_size y) x h

character_some_by : (x y z : Bool) (b : ℕ) (bs : List ℕ) (r : Option (ℕ × ℕ)) → (if x then Err OpenString else if y then Ok None else if z then s.escaped (s.no_escape bs) (s.escape bs) else Ok (Some (b, 1))) ≡ Ok r → 1 ≤ character_size r
character_some_by true y z b bs r e = absurd cc
character_some_by false true z b bs r e = ok_size None r e (omega arith)
character_some_by false false true b bs r e = escaped_some (s.no_escape bs) (s.escape bs) r e
character_some_by false false false b bs r e = ok_size (Some (b, 1)) r e (omega arith)

character_some : (bs : List ℕ) (r : Option (ℕ × ℕ)) → s.character_at bs ≡ Ok r → 1 ≤ character_size r
character_some [] r e = absurd cc
character_some (b ∷ bs) r e = character_some_by (ends_line (b ∷ bs)) (b == 34) (b == 92) b bs r e

longer_ok : (b c : ℕ) (r : Result (List ℕ × ℕ) FaultKind) (a : List ℕ) (m : ℕ) → s.longer b c r ≡ Ok (a, m) → (a' : List ℕ) × (k : ℕ) × (r ≡ Ok (a', k)) × (c + k ≡ m)
longer_ok b c (Ok x) a m h = (x.0, x.1, refl, one_length _ a _ m _ refl h)
longer_ok b c (Err k) a m h = absurd cc

-- what a string from here on keeps with fewer bytes and steps, where those are enough
abbrev Keeps : ℕ → List ℕ → Type 0
Keeps k bs = (v : List ℕ) (u m j : ℕ) → s.string_from k bs ≡ Ok (v, u) → u ≤ m → u ≤ j → (s.string_from j (take m bs) ≡ Ok (v, u)) × (1 ≤ u) × (u ≤ length bs)

keeps_end : (k m j b : ℕ) (bs v : List ℕ) (u : ℕ) → s.character_at (b ∷ bs) ≡ Ok None → s.string_from (suc k) (b ∷ bs) ≡ Ok (v, u) → u ≤ suc m → u ≤ suc j
    → (s.string_from (suc j) (b ∷ take m bs) ≡ Ok (v, u)) × (1 ≤ u) × (u ≤ length (b ∷ bs))
keeps_end k m j b bs v u p e w x =
    let e' : (let r : Result (List ℕ × ℕ) FaultKind = Ok ([], 1) in r) ≡ Ok (v, u) = rw p at e in
    let q : 1 ≡ u = one_length [] v 1 u (Ok ([], 1)) refl e' in
    let p' : s.character_at (b ∷ take m bs) ≡ Ok None = character_stable m b bs None p (omega arith) in
    (rw p' e', omega (arith, q), omega (arith, q))

keeps_more : (k m j b : ℕ) (bs v : List ℕ) (u : ℕ) (p : ℕ × ℕ) → s.character_at (b ∷ bs) ≡ Ok (Some p) → Keeps k (drop p.1 (b ∷ bs)) → s.string_from (suc k) (b ∷ bs) ≡ Ok (v, u) → u ≤ suc m → u ≤ suc j
    → (s.string_from (suc j) (b ∷ take m bs) ≡ Ok (v, u)) × (1 ≤ u) × (u ≤ length (b ∷ bs))
keeps_more k m j b bs v u p h more e w x =
    let rest : List ℕ = drop p.1 (b ∷ bs) in
    let e' : s.longer p.0 p.1 (s.string_from k rest) ≡ Ok (v, u) = rw h at e in
    let l = longer_ok p.0 p.1 (s.string_from k rest) v u e' in
    let some : 1 ≤ p.1 = character_some (b ∷ bs) (Some p) h in
    let q = l.3 in
    let d = length-drop p.1 (b ∷ bs) in
    let r = more l.0 l.1 (suc m - p.1) j l.2 (omega (arith, q, w)) (omega (arith, q, x, some)) in
    let one = r.1 in
    let fits = r.2 in
    let h' : s.character_at (b ∷ take m bs) ≡ Ok (Some p) = character_stable m b bs (Some p) h (omega (arith, q, w)) in
    let t : drop p.1 (b ∷ take m bs) ≡ take (suc m - p.1) rest = drop-take-le p.1 (suc m) (b ∷ bs) (omega (arith, q, w)) in
    let g : s.string_from (suc j) (b ∷ take m bs) ≡ s.longer p.0 p.1 (s.string_from j (drop p.1 (b ∷ take m bs))) = rw h' refl in
    (g ∙ ap (λ y. s.longer p.0 p.1 (s.string_from j y)) t ∙ ap (s.longer p.0 p.1) (r.0 ∙ sym l.2) ∙ e', omega (arith, q, some), omega (arith, q, d, one, fits))

keeps_by : (k m j b : ℕ) (bs v : List ℕ) (u : ℕ) (r : Result (Option (ℕ × ℕ)) FaultKind) → s.character_at (b ∷ bs) ≡ r → ((us : List ℕ) → Keeps k us) → s.string_from (suc k) (b ∷ bs) ≡ Ok (v, u)
    → u ≤ suc m → u ≤ suc j → (s.string_from (suc j) (b ∷ take m bs) ≡ Ok (v, u)) × (1 ≤ u) × (u ≤ length (b ∷ bs))
keeps_by k m j b bs v u (Err x) h more e w y = let e' : (let r : Result (List ℕ × ℕ) FaultKind = Err x in r) ≡ Ok (v, u) = rw h at e in absurd cc
keeps_by k m j b bs v u (Ok None) h more e w y = keeps_end k m j b bs v u h e w y
keeps_by k m j b bs v u (Ok (Some p)) h more e w y = keeps_more k m j b bs v u p h (more (drop p.1 (b ∷ bs))) e w y

-- a string has a byte at least
from_some : (r : Result (Option (ℕ × ℕ)) FaultKind) (bs : List ℕ) (k : ℕ) (v : List ℕ) (u : ℕ) → ((o : Option (ℕ × ℕ)) → r ≡ Ok o → 1 ≤ character_size o) → s.from_character r bs (s.string_from k) ≡ Ok (v, u) → 1 ≤ u
from_some (Err x) bs k v u f e = absurd cc
from_some (Ok None) bs k v u f e = let q : 1 ≡ u = one_length [] v 1 u _ refl e in omega (arith, q)
from_some (Ok (Some p)) bs k v u f e =
    let l = longer_ok p.0 p.1 (s.string_from k (drop p.1 bs)) v u e in
    let q = l.3 in
    let some : 1 ≤ p.1 = f (Some p) refl in
    omega (arith, q, some)

keeps : (k : ℕ) (bs : List ℕ) → Keeps k bs
keeps zero bs v u m j e w x = absurd cc
keeps (suc k) [] v u m j e w x = absurd cc
keeps (suc k) (b ∷ bs) v u zero j e w x = let q = from_some (s.character_at (b ∷ bs)) (b ∷ bs) k v u (character_some (b ∷ bs)) e in absurd (omega (arith, q, w))
keeps (suc k) (b ∷ bs) v u (suc m) zero e w x = let q = from_some (s.character_at (b ∷ bs)) (b ∷ bs) k v u (character_some (b ∷ bs)) e in absurd (omega (arith, q, x))
keeps (suc k) (b ∷ bs) v u (suc m) (suc j) e w x = keeps_by k m j b bs v u (s.character_at (b ∷ bs)) refl (keeps k) e w x

least_of : (m u : ℕ) (bs : List ℕ) → u ≤ m → u ≤ length bs → u ≤ length (take m bs)
least_of zero u bs w x = omega (arith, w)
least_of (suc m) u [] w x = x
least_of (suc m) zero (b ∷ bs) w x = omega arith
least_of (suc m) (suc u) (b ∷ bs) w x = let h = least_of m u bs (omega (arith, w)) (omega (arith, x)) in omega (arith, h)

string_stable : (m u : ℕ) (bs v : List ℕ) → s.string_at bs ≡ Ok (v, u) → u ≤ m → s.string_at (take m bs) ≡ Ok (v, u)
string_stable m u bs v e h =
    let f = (keeps (length bs + 1) bs v u m u e h (omega arith)).2 in
    let l = least_of m u bs h f in
    (keeps (length bs + 1) bs v u m (length (take m bs) + 1) e h (omega (arith, l))).0

string_token_stable : (r t : Result (List ℕ × ℕ) FaultKind) (k : Kind) (n m : ℕ) → ((v : List ℕ) (u : ℕ) → r ≡ Ok (v, u) → u ≤ m → t ≡ Ok (v, u)) → string_token r ≡ Ok (k, n) → n ≤ suc m → string_token t ≡ Ok (k, n)
string_token_stable (Ok a) t k n m f e h =
    let x : a.1 + 1 ≡ n = one_length (str a.0) k (a.1 + 1) n _ refl e in
    ap string_token (f a.0 a.1 refl (omega (arith, x, h))) ∙ e
string_token_stable (Err x) t k n m f e h = absurd cc

-- ---- marks

mark_by : (x : Bool) (w : List ℕ × Mark) (ms : List (List ℕ × Mark)) (bs : List ℕ) (m n : ℕ) (k : Kind) → (mark_token ms bs ≡ Ok (k, n) → mark_token ms (take m bs) ≡ Ok (k, n))
    → starts_with nat_eq bs w.0 ≡ x → (if x then Ok (mark w.1, length w.0) else mark_token ms bs) ≡ Ok (k, n) → n ≤ m → mark_token (w ∷ ms) (take m bs) ≡ Ok (k, n)
mark_by true w ms bs m n k more x e h =
    let l : length w.0 ≡ n = one_length (mark w.1) k (length w.0) n _ refl e in
    let F : Bool → Spelled = λ y. if y then Ok (mark w.1, length w.0) else mark_token ms (take m bs) in
    ap F (begins_less m bs w.0 (omega (arith, l, h)) x) ∙ e
mark_by false w ms bs m n k more x e h =
    let F : Bool → Spelled = λ y. if y then Ok (mark w.1, length w.0) else mark_token ms (take m bs) in
    ap F (begins_not m bs w.0 x) ∙ more e

mark_stable : (ms : List (List ℕ × Mark)) (bs : List ℕ) (m n : ℕ) (k : Kind) → mark_token ms bs ≡ Ok (k, n) → n ≤ m → mark_token ms (take m bs) ≡ Ok (k, n)
mark_stable [] bs m n k e h = absurd cc
mark_stable (w ∷ ms) bs m n k e h = mark_by (starts_with nat_eq bs w.0) w ms bs m n k (λ f. mark_stable ms bs m n k f h) refl e h

-- ---- any token

class_stable : (c : Class) (m b n : ℕ) (bs : List ℕ) (k : Kind) → token_of c (b ∷ bs) ≡ Ok (k, n) → n ≤ suc m → token_of c (b ∷ take m bs) ≡ Ok (k, n)
class_stable of_name m b n bs k e h = name_stable (suc m) n (b ∷ bs) k e h
class_stable of_number m b n bs k e h = number_token_stable (number_at (b ∷ bs)) (number_at (b ∷ take m bs)) k n (λ l f. number_stable (b ∷ bs) (suc m) n l f h) e
class_stable of_system m b n bs k e h = system_stable m n bs k e h
class_stable of_escaped m b n bs k e h = escaped_stable m n bs k e h
class_stable of_string m b n bs k e h = string_token_stable (s.string_at bs) (s.string_at (take m bs)) k n m (λ v u f w. string_stable m u bs v f w) e h
class_stable of_mark m b n bs k e h = mark_stable marks (b ∷ bs) (suc m) n k e h

pub takes_longest : TakesLongest
takes_longest [] k n e = absurd cc
takes_longest (b ∷ bs) k zero e = let h = token_some (b ∷ bs) k 0 e in absurd (omega (arith, h))
takes_longest (b ∷ bs) k (suc n) e = (class_stable (class_of b) n b (suc n) bs k e (omega arith), λ m other h f. longer_none m other h f)
  where
    longer_none : (m : ℕ) (other : Kind) → suc n < m → token_at (take m (b ∷ bs)) ≡ Ok (other, m) → ⊥
    longer_none zero other h f = omega (arith, h)
    longer_none (suc m) other h f =
        let t : token_at (b ∷ take m bs) ≡ Ok (k, suc n) = class_stable (class_of b) m b (suc n) bs k e (omega (arith, h)) in
        let q : suc n ≡ suc m = one_length k other (suc n) (suc m) _ t f in
        omega (arith, h, q)
