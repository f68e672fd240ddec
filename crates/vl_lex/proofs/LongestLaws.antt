-- A token stays the same with less text after it, and so has the longest spelling that begins there: its parts.
use Rattle.std.proofs.Common.{◌≡◌, ◌≤◌, ◌+◌, ◌-◌, ◌==◌, ◌||◌, ℕ, zero, suc, Bool, true, false, List, [], ◌∷◌, ◌++◌, refl, sym, ap, ◌∙◌, arith, take, drop, length, if◌then◌else◌, append_assoc}
use Rattle.std.specs.Prelude.{Option, Some, None, nat_eq}
use Rattle.std.specs.List.{prefix_len, starts_with}
use Rattle.std.proofs.lemmas.List.{drop-take}
use Rattle.std.proofs.lemmas.Bool.Decides.{Decides-eqb}
use Rattle.std.proofs.lemmas.Slice.Eq.{starts_is}
use Rattle.vl_pre.specs.Bytes.{begins_name, is_in_name, name_length}
use Rattle.vl_lex.specs.declared.digits.Base.{Base}
use Rattle.vl_lex.specs.Digits.{is_digit_of, is_x, is_z, base_of}
use Rattle.vl_lex.specs.Numbers.{Format, is_in_digits, digits_length, goes_on, format_by, format_base, format_sign, format_at}

pub take-take-le : {X : Type 0} → (n m : ℕ) (xs : List X) → n ≤ m → take n (take m xs) ≡ take n xs
take-take-le zero m xs h = refl
take-take-le (suc n) zero xs h = absurd (omega (arith, h))
take-take-le (suc n) (suc m) [] h = refl
take-take-le (suc n) (suc m) (x ∷ xs) h = ap (λ y. x ∷ y) (take-take-le n m xs (omega (arith, h)))

-- what is left after the first n of m
pub drop-take-le : (n m : ℕ) (xs : List ℕ) → n ≤ m → drop n (take m xs) ≡ take (m - n) (drop n xs)
drop-take-le n m xs h =
    let q : m ≡ n + (m - n) = omega (arith, h) in
    ap (λ x. drop n (take x xs)) q ∙ drop-take n (m - n) xs

-- as many pass, where those are left
prefix_step : (p : ℕ → Bool) (x : ℕ) (xs : List ℕ) (b : Bool) (m : ℕ) → ((k : ℕ) → prefix_len p xs ≤ k → prefix_len p (take k xs) ≡ prefix_len p xs)
    → p x ≡ b → prefix_len p (x ∷ xs) ≤ m → prefix_len p (take m (x ∷ xs)) ≡ prefix_len p (x ∷ xs)
prefix_step p x xs false zero more e h = rw e refl
prefix_step p x xs true zero more e h = let h' : 1 + prefix_len p xs ≤ 0 = rw e at h in absurd (omega (arith, h'))
prefix_step p x xs false (suc m) more e h = rw e refl
prefix_step p x xs true (suc m) more e h = let h' : 1 + prefix_len p xs ≤ suc m = rw e at h in rw e (ap (λ n. 1 + n) (more m (omega (arith, h'))))

pub prefix_len-take : (p : ℕ → Bool) (m : ℕ) (xs : List ℕ) → prefix_len p xs ≤ m → prefix_len p (take m xs) ≡ prefix_len p xs
prefix_len-take p zero [] h = refl
prefix_len-take p (suc m) [] h = refl
prefix_len-take p m (x ∷ xs) h = prefix_step p x xs (p x) m (λ k. prefix_len-take p k xs) refl h

-- ---- names

one_more : (x : Bool) (a b m : ℕ) → (a ≤ m → b ≡ a) → (if x then a + 1 else 0) ≤ suc m → (if x then b + 1 else 0) ≡ (if x then a + 1 else 0)
one_more true a b m f h = ap (λ n. n + 1) (f (omega (arith, h)))
one_more false a b m f h = refl

pub name_length-take : (m : ℕ) (bs : List ℕ) → name_length bs ≤ m → name_length (take m bs) ≡ name_length bs
name_length-take zero [] h = refl
name_length-take (suc m) [] h = refl
name_length-take zero (b ∷ bs) h = omega (arith, h)
name_length-take (suc m) (b ∷ bs) h = one_more (begins_name b) (prefix_len is_in_name bs) (prefix_len is_in_name (take m bs)) m (prefix_len-take is_in_name m bs) h

-- ---- digits

digits_by : (x y : Bool) (a b c d m : ℕ) → (a ≤ m → b ≡ a) → (c ≤ m → d ≡ c) → (if x then a + 1 else if y then c + 1 else 0) ≤ suc m
    → (if x then b + 1 else if y then d + 1 else 0) ≡ (if x then a + 1 else if y then c + 1 else 0)
digits_by true y a b c d m f g h = ap (λ n. n + 1) (f (omega (arith, h)))
digits_by false true a b c d m f g h = ap (λ n. n + 1) (g (omega (arith, h)))
digits_by false false a b c d m f g h = refl

pub digits_length-take : (base : Base) (m : ℕ) (bs : List ℕ) → digits_length base bs ≤ m → digits_length base (take m bs) ≡ digits_length base bs
digits_length-take base zero [] h = refl
digits_length-take base (suc m) [] h = refl
digits_length-take base zero (b ∷ bs) h = omega (arith, h)
digits_length-take base (suc m) (b ∷ bs) h =
    digits_by (is_digit_of base b) (is_x b || is_z b) (prefix_len (is_in_digits base) bs) (prefix_len (is_in_digits base) (take m bs)) (prefix_len (λ c. c == 95) bs) (prefix_len (λ c. c == 95) (take m bs)) m
    (prefix_len-take (is_in_digits base) m bs) (prefix_len-take (λ c. c == 95) m bs) h

pub goes_on-take : (m : ℕ) (xs : List ℕ) → goes_on xs ≡ false → goes_on (take m xs) ≡ false
goes_on-take zero xs e = refl
goes_on-take (suc m) [] e = refl
goes_on-take (suc m) (x ∷ xs) e = e

-- ---- what stands before digits

-- with more after it, a format is the same
base_more : (g : Bool) (n j : ℕ) (bs : List ℕ) (f : Format) → format_base g n (take j bs) ≡ Some f → format_base g n bs ≡ Some f
base_more g n zero bs f e = absurd cc
base_more g n (suc j) [] f e = absurd cc
base_more g n (suc j) (b ∷ bs) f e = e

sign_by : (x : Bool) (j b : ℕ) (bs : List ℕ) (f : Format) → (if x then format_base true 3 (take j bs) else format_base false 2 (b ∷ take j bs)) ≡ Some f
    → (if x then format_base true 3 bs else format_base false 2 (b ∷ bs)) ≡ Some f
sign_by true j b bs f e = base_more true 3 j bs f e
sign_by false j b bs f e = e

sign_more : (j : ℕ) (bs : List ℕ) (f : Format) → format_sign (take j bs) ≡ Some f → format_sign bs ≡ Some f
sign_more zero bs f e = absurd cc
sign_more (suc j) [] f e = absurd cc
sign_more (suc j) (b ∷ bs) f e = sign_by (b == 115 || b == 83) j b bs f e

format_more_by : (x : Bool) (j : ℕ) (bs : List ℕ) (f : Format) → (if x then format_sign (take j bs) else None) ≡ Some f → (if x then format_sign bs else None) ≡ Some f
format_more_by true j bs f e = sign_more j bs f e
format_more_by false j bs f e = absurd cc

format_more : (j : ℕ) (bs : List ℕ) (f : Format) → format_at (take j bs) ≡ Some f → format_at bs ≡ Some f
format_more zero bs f e = absurd cc
format_more (suc j) [] f e = absurd cc
format_more (suc j) (b ∷ bs) f e = format_more_by (b == 39) j bs f e

-- where none stands, none stands with less after it
none_by : (j : ℕ) (bs : List ℕ) (o : Option Format) → format_at (take j bs) ≡ o → format_at bs ≡ None → format_at (take j bs) ≡ None
none_by j bs None e h = e
none_by j bs (Some f) e h = let g = format_more j bs f e in absurd cc

pub format_none : (j : ℕ) (bs : List ℕ) → format_at bs ≡ None → format_at (take j bs) ≡ None
format_none j bs h = none_by j bs (format_at (take j bs)) refl h

-- a format is the same with less after it
used_by : (g : Bool) (n : ℕ) (o : Option Base) (f : Format) → format_by g n o ≡ Some f → f.used ≡ n
used_by g n None f e = absurd cc
used_by g n (Some base) f e = let h : (let x : Format = record { signed = g; base = base; used = n } in x) ≡ f = cc in sym (ap (λ x. x.used) h)

base_used : (g : Bool) (n : ℕ) (bs : List ℕ) (f : Format) → format_base g n bs ≡ Some f → f.used ≡ n
base_used g n [] f e = absurd cc
base_used g n (b ∷ bs) f e = used_by g n (base_of b) f e

base_less : (g : Bool) (n j : ℕ) (bs : List ℕ) (f : Format) → 1 ≤ j → format_base g n bs ≡ Some f → format_base g n (take j bs) ≡ Some f
base_less g n j [] f w e = absurd cc
base_less g n zero (b ∷ bs) f w e = absurd (omega (arith, w))
base_less g n (suc j) (b ∷ bs) f w e = e

sign_less_by : (x : Bool) (j b : ℕ) (bs : List ℕ) (f : Format) → f.used ≤ suc (suc j) → (if x then format_base true 3 bs else format_base false 2 (b ∷ bs)) ≡ Some f
    → (if x then format_base true 3 (take j bs) else format_base false 2 (b ∷ take j bs)) ≡ Some f
sign_less_by true j b bs f w e = let u = base_used true 3 bs f e in base_less true 3 j bs f (omega (arith, u, w)) e
sign_less_by false j b bs f w e = e

sign_used_by : (x : Bool) (b : ℕ) (bs : List ℕ) (f : Format) → (if x then format_base true 3 bs else format_base false 2 (b ∷ bs)) ≡ Some f → 2 ≤ f.used
sign_used_by true b bs f e = let u = base_used true 3 bs f e in omega (arith, u)
sign_used_by false b bs f e = let u = base_used false 2 (b ∷ bs) f e in omega (arith, u)

sign_used : (bs : List ℕ) (f : Format) → format_sign bs ≡ Some f → 2 ≤ f.used
sign_used [] f e = absurd cc
sign_used (b ∷ bs) f e = sign_used_by (b == 115 || b == 83) b bs f e

sign_less : (j : ℕ) (bs : List ℕ) (f : Format) → f.used ≤ suc j → format_sign bs ≡ Some f → format_sign (take j bs) ≡ Some f
sign_less j [] f w e = absurd cc
sign_less zero (b ∷ bs) f w e = let u = sign_used (b ∷ bs) f e in absurd (omega (arith, u, w))
sign_less (suc j) (b ∷ bs) f w e = sign_less_by (b == 115 || b == 83) j b bs f w e

format_less_by : (x : Bool) (j : ℕ) (bs : List ℕ) (f : Format) → f.used ≤ suc j → (if x then format_sign bs else None) ≡ Some f → (if x then format_sign (take j bs) else None) ≡ Some f
format_less_by true j bs f w e = sign_less j bs f w e
format_less_by false j bs f w e = absurd cc

format_used_by : (x : Bool) (bs : List ℕ) (f : Format) → (if x then format_sign bs else None) ≡ Some f → 2 ≤ f.used
format_used_by true bs f e = sign_used bs f e
format_used_by false bs f e = absurd cc

pub format_less : (j : ℕ) (bs : List ℕ) (f : Format) → f.used ≤ j → format_at bs ≡ Some f → format_at (take j bs) ≡ Some f
format_less j [] f w e = absurd cc
format_less zero (b ∷ bs) f w e = let u = format_used_by (b == 39) bs f e in absurd (omega (arith, u, w))
format_less (suc j) (b ∷ bs) f w e = format_less_by (b == 39) j bs f w e

-- ---- marks

take_front : (word rest : List ℕ) (m : ℕ) → length word ≤ m → take m (word ++ rest) ≡ word ++ take (m - length word) rest
take_front [] rest m h = let e : m ≡ m - 0 = omega arith in ap (λ x. take x rest) e
take_front (b ∷ word) rest zero h = absurd (omega (arith, h))
take_front (b ∷ word) rest (suc m) h =
    let e : m - length word ≡ suc m - length (b ∷ word) = omega arith in
    ap (λ x. b ∷ x) (take_front word rest m (omega (arith, h)) ∙ ap (λ x. word ++ take x rest) e)

whole : (m : ℕ) (bs : List ℕ) → bs ≡ take m bs ++ drop m bs
whole zero bs = refl
whole (suc m) [] = refl
whole (suc m) (b ∷ bs) = ap (λ x. b ∷ x) (whole m bs)

-- these bytes begin with the word, also where only some are left
pub begins_less : (m : ℕ) (bs word : List ℕ) → length word ≤ m → starts_with nat_eq bs word ≡ true → starts_with nat_eq (take m bs) word ≡ true
begins_less m bs word w e =
    let rest : List ℕ = drop (length word) bs in
    let i : bs ≡ word ++ rest = (starts_is Decides-eqb bs word (starts_with nat_eq bs word) refl).0 e in
    (starts_is Decides-eqb (take m bs) word (starts_with nat_eq (take m bs) word) refl).1 (take (m - length word) rest) (ap (take m) i ∙ take_front word rest m w)

begins_more : (m : ℕ) (bs word : List ℕ) → starts_with nat_eq (take m bs) word ≡ true → starts_with nat_eq bs word ≡ true
begins_more m bs word e =
    let rest : List ℕ = drop (length word) (take m bs) in
    let i : take m bs ≡ word ++ rest = (starts_is Decides-eqb (take m bs) word (starts_with nat_eq (take m bs) word) refl).0 e in
    (starts_is Decides-eqb bs word (starts_with nat_eq bs word) refl).1 (rest ++ drop m bs) (whole m bs ∙ ap (λ x. x ++ drop m bs) i ∙ append_assoc word rest (drop m bs))

not_by : (x : Bool) (m : ℕ) (bs word : List ℕ) → starts_with nat_eq (take m bs) word ≡ x → starts_with nat_eq bs word ≡ false → starts_with nat_eq (take m bs) word ≡ false
not_by false m bs word f e = f
not_by true m bs word f e = let g : true ≡ false = sym (begins_more m bs word f) ∙ e in absurd cc

pub begins_not : (m : ℕ) (bs word : List ℕ) → starts_with nat_eq bs word ≡ false → starts_with nat_eq (take m bs) word ≡ false
begins_not m bs word e = not_by (starts_with nat_eq (take m bs) word) m bs word refl e
