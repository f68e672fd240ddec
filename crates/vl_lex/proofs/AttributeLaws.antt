-- The end of an attribute, as it is looked for.
use Rattle.std.proofs.Common.{◌≡◌, ◌+◌, ◌-◌, ◌≤◌, ◌==◌, ◌&&◌, not, ℕ, suc, Bool, true, false, List, [], ◌∷◌, ◌++◌, refl, sym, subst, ap, ◌∙◌, arith, drop, length, Option, Some, None, if◌then◌else◌}
use Rattle.std.specs.Prelude.{codes}
use Rattle.std.proofs.lemmas.Bool.{eqb-true, eqb-false}
use Rattle.std.proofs.lemmas.Bool.Decides.{Decides-eqb}
use Rattle.std.proofs.lemmas.List.{length-append}
use Rattle.std.proofs.lemmas.Slice.Eq.{starts_is}
use Rattle.vl_pre.specs.Bytes.{begins, at_line_end}
use Rattle.vl_pre.specs.Pieces.{string_length}
use Rattle.vl_lex.specs.Attributes.{after_white, opens_attribute, string_after, more, close_after, close_from}
use Rattle.vl_lex.specs.Calls.Reading.{inside, ends_attribute, after_byte}
use Rattle.vl_lex.specs.declared.attributes.Within.{Within}
use Rattle.vl_lex.specs.declared.attributes.Within.TheVariants as within

-- so many more
abbrev pub later : ℕ → Option ℕ → Option ℕ
later k None = None
later k (Some n) = Some (k + n)

later_none : (o : Option ℕ) → o ≡ later 0 o
later_none None = refl
later_none (Some n) = ap Some (omega arith)

later_more : (k : ℕ) (o : Option ℕ) → later k (more o) ≡ later (k + 1) o
later_more k None = refl
later_more k (Some n) = ap Some (omega arith)

-- ---- a byte further

-- the search goes on after this byte in the mode that is left
abbrev Goes : Within → ℕ → List ℕ → Type 0
Goes at b bs = close_after (inside at (b ∷ bs)) (b ∷ bs) ≡ more (close_after (inside (after_byte at b) bs) bs)

outside : (b : ℕ) (bs : List ℕ) → begins (codes "*)") (b ∷ bs) ≡ false → Goes within.Outside b bs
outside b bs h =
    let F : Bool → Type 0 = λ q. more (close_after (if q then string_length false false bs else 0) bs) ≡ more (close_after (inside (if q then within.Quoted else within.Outside) bs) bs) in
    let e : close_after 0 (b ∷ bs) ≡ more (close_after (string_after b bs) bs) = rw h refl in
    e ∙ elim (b == 34) as F [ true ↦ refl | false ↦ refl ]

-- a CR before a LF ends the line
return_by : (e x : Bool) (c : ℕ) (bs : List ℕ) → begins (10 ∷ []) (c ∷ bs) ≡ x → close_after (string_length false e (13 ∷ c ∷ bs)) (13 ∷ c ∷ bs) ≡ more (close_after (string_length false false (c ∷ bs)) (c ∷ bs))
return_by e true c bs h = rw h refl
return_by true false c bs h = rw h refl
return_by false false c bs h = rw h refl

return : (e : Bool) (bs : List ℕ) → close_after (string_length false e (13 ∷ bs)) (13 ∷ bs) ≡ more (close_after (string_length false false bs) bs)
return true [] = refl
return false [] = refl
return e (c ∷ bs) = return_by e (begins (10 ∷ []) (c ∷ bs)) c bs refl

-- another byte ends no line
other_by : (a b : ℕ) (x : Bool) → (a == b) ≡ x → (b == a) ≡ false → (a == b) ≡ false
other_by a b false h i = h
other_by a b true h i = absurd (eqb-false b a i (sym (eqb-true a b h)))

no_end : (b : ℕ) (bs : List ℕ) → (b == 10) ≡ false → (b == 13) ≡ false → at_line_end (b ∷ bs) ≡ false
no_end b bs h i = let h' = other_by 10 b (10 == b) refl h in let i' = other_by 13 b (13 == b) refl i in rw (h', i') refl

in_string : (e : Bool) (b : ℕ) (bs : List ℕ) → (b == 10) ≡ false → (b == 13) ≡ false → string_length false e (b ∷ bs) ≡ (if b == 34 && not e then 1 else suc (string_length false (b == 92 && not e) bs))
in_string e b bs h i = let n = no_end b bs h i in rw n refl

plain : (e : Bool) (b : ℕ) (bs : List ℕ) → (b == 10) ≡ false → (b == 13) ≡ false → (b == 34) ≡ false → (b == 92) ≡ false → string_length false e (b ∷ bs) ≡ suc (string_length false false bs)
plain e b bs h i j k = in_string e b bs h i ∙ rw (j, k) refl

quoted_by : (x y z w : Bool) (b : ℕ) (bs : List ℕ) → (b == 10) ≡ x → (b == 13) ≡ y → (b == 34) ≡ z → (b == 92) ≡ w → Goes within.Quoted b bs
quoted_by true y z w b bs h i j k = subst (λ c. Goes within.Quoted c bs) (sym (eqb-true b 10 h)) refl
quoted_by false true z w b bs h i j k = subst (λ c. Goes within.Quoted c bs) (sym (eqb-true b 13 i)) (return false bs)
quoted_by false false true w b bs h i j k = subst (λ c. Goes within.Quoted c bs) (sym (eqb-true b 34 j)) refl
quoted_by false false false true b bs h i j k = subst (λ c. Goes within.Quoted c bs) (sym (eqb-true b 92 k)) refl
quoted_by false false false false b bs h i j k = let p = plain false b bs h i j k in ap (λ n. close_after n (b ∷ bs)) p ∙ rw (h, j, k) refl

escaping_by : (x y z w : Bool) (b : ℕ) (bs : List ℕ) → (b == 10) ≡ x → (b == 13) ≡ y → (b == 34) ≡ z → (b == 92) ≡ w → Goes within.Escaping b bs
escaping_by true y z w b bs h i j k = subst (λ c. Goes within.Escaping c bs) (sym (eqb-true b 10 h)) refl
escaping_by false true z w b bs h i j k = subst (λ c. Goes within.Escaping c bs) (sym (eqb-true b 13 i)) (return true bs)
escaping_by false false true w b bs h i j k = subst (λ c. Goes within.Escaping c bs) (sym (eqb-true b 34 j)) refl
escaping_by false false false true b bs h i j k = subst (λ c. Goes within.Escaping c bs) (sym (eqb-true b 92 k)) refl
escaping_by false false false false b bs h i j k = let p = plain true b bs h i j k in ap (λ n. close_after n (b ∷ bs)) p ∙ rw h refl

goes : (at : Within) (b : ℕ) (bs : List ℕ) → ends_attribute at (b ∷ bs) ≡ false → Goes at b bs
goes within.Outside b bs h = outside b bs h
goes within.Quoted b bs h = quoted_by (b == 10) (b == 13) (b == 34) (b == 92) b bs refl refl refl refl
goes within.Escaping b bs h = escaping_by (b == 10) (b == 13) (b == 34) (b == 92) b bs refl refl refl refl

-- ---- the search

pub close_start : (bs : List ℕ) → close_from bs ≡ later (length bs - length bs) (close_after 0 bs)
close_start bs = let e : length bs - length bs ≡ 0 = omega arith in rw e (later_none (close_from bs))

-- this byte ends nothing
pub close_next : (all rest after : List ℕ) (at : Within) (b : ℕ) → rest ≡ b ∷ after → length rest ≤ length all → ends_attribute at rest ≡ false
    → close_from all ≡ later (length all - length rest) (close_after (inside at rest) rest)
    → close_from all ≡ later (length all - length after) (close_after (inside (after_byte at b) after) after)
close_next all rest after at b e w h s =
    let h' : ends_attribute at (b ∷ after) ≡ false = ap (ends_attribute at) (sym e) ∙ h in
    let c : close_after (inside at (b ∷ after)) (b ∷ after) ≡ more (close_after (inside (after_byte at b) after) after) = goes at b after h' in
    let l : length rest ≡ suc (length after) = ap length e in
    let n : length all - length rest + 1 ≡ length all - length after = omega (arith, l, w) in
    s ∙ ap (λ x. later (length all - length rest) (close_after (inside at x) x)) e ∙ ap (later (length all - length rest)) c
    ∙ later_more (length all - length rest) (close_after (inside (after_byte at b) after) after) ∙ ap (λ x. later x (close_after (inside (after_byte at b) after) after)) n

-- here it ends
pub close_end : (all rest after : List ℕ) (at : Within) (b : ℕ) → rest ≡ b ∷ after → ends_attribute at rest ≡ true
    → close_from all ≡ later (length all - length rest) (close_after (inside at rest) rest)
    → close_from all ≡ Some (length all - length rest + 2)
close_end all rest after within.Outside b e h s =
    let h' : begins (codes "*)") (b ∷ after) ≡ true = ap (begins (codes "*)")) (sym e) ∙ h in
    let c : close_after 0 (b ∷ after) ≡ Some 2 = rw h' refl in
    s ∙ ap (λ x. later (length all - length rest) (close_after 0 x)) e ∙ ap (later (length all - length rest)) c
close_end all rest after within.Quoted b e h s = absurd cc
close_end all rest after within.Escaping b e h s = absurd cc

-- ---- what has two bytes

begins_fits : (word bs : List ℕ) → begins word bs ≡ true → length word ≤ length bs
begins_fits word bs h =
    let rest : List ℕ = drop (length word) bs in
    let e : bs ≡ word ++ rest = (starts_is Decides-eqb bs word (begins word bs) refl).0 h in
    let l : length bs ≡ length word + length rest = ap length e ∙ length-append word rest in
    omega (arith, l)

pub end_fits : (at : Within) (bs : List ℕ) → ends_attribute at bs ≡ true → 2 ≤ length bs
end_fits within.Outside bs h = begins_fits (codes "*)") bs h
end_fits within.Quoted bs h = absurd cc
end_fits within.Escaping bs h = absurd cc

pub mark_fits : (bs : List ℕ) → begins (codes "(*") bs ≡ true → 2 ≤ length bs
mark_fits bs h = begins_fits (codes "(*") bs h

first_of_both : (x y : Bool) → x && y ≡ true → x ≡ true
first_of_both true y h = refl
first_of_both false y h = absurd cc

pub opening_fits : (bs : List ℕ) → opens_attribute bs ≡ true → 2 ≤ length bs
opening_fits bs h = mark_fits bs (first_of_both (begins (codes "(*") bs) (not (begins (codes ")") (after_white (drop 2 bs)))) h)
