-- The elements that are computed against those that a format is spelled of.
use Rattle.std.proofs.Common.{◌≡◌, ◌≢◌, inl, inr, ℕ, zero, suc, Bool, true, false, if◌then◌else◌, List, [], ◌∷◌, ◌++◌, refl, sym, ap, ◌∙◌, subst, arith, Option, Some, None}
use Rattle.std.specs.Prelude.{◌==◌, ◌||◌, Contains, option_map, codes}
use Rattle.std.proofs.lemmas.Bool.Decides.{nat_tests}
use Rattle.netlist.specs.declared.design.Base.{Base}
use Rattle.netlist.specs.declared.design.Base.TheVariants as b
use Rattle.message_format.specs.declared.element.Element.{Element}
use Rattle.message_format.specs.declared.element.Element.TheVariants as e
use Rattle.message_format.specs.declared.element.Progress.{Progress}
use Rattle.message_format.specs.declared.element.Progress.TheVariants as p
use Rattle.message_format.specs.declared.element.Step.TheVariants as s
use Rattle.message_format.specs.Format.{letters, byte_spelling, IsItem, IsSpelled, Spells}
use Rattle.message_format.specs.Formatted.{base_of, item_step, with_more, elements_from, elements}
use Rattle.message_format.specs.Laws.{ElementsLaw}

-- an element before others, if there are others
abbrev more : Element → Option (List Element) → Option (List Element)
more x found = option_map (λ xs. x ∷ xs) found

abbrev item : Bool → Base → Element
item fewest base = e.Value (record { base = base; fewest = fewest })

-- ---- from the spelling to what is computed

-- an item of either kind with this letter is read as one of this base
abbrev Reads : Bool → Base → ℕ → Type 0
Reads false base c = (rest : List ℕ) → elements (37 ∷ c ∷ rest) ≡ more (item false base) (elements rest)
Reads true base c = (rest : List ℕ) → elements (37 ∷ 48 ∷ c ∷ rest) ≡ more (item true base) (elements rest)

-- the letter at a place is read
at : (fewest : Bool) (base : Base) (l c : ℕ) → l ≡ c → Reads fewest base l → Reads fewest base c
at fewest base l c same r = subst (Reads fewest base) same r

reads_plain : (base : Base) (c : ℕ) → Contains (letters base) c → Reads false base c
reads_plain b.Binary c (zero, less, same) = at false b.Binary 98 c same (λ rest. refl)
reads_plain b.Binary c (suc zero, less, same) = at false b.Binary 66 c same (λ rest. refl)
reads_plain b.Binary c (suc (suc k), less, same) = absurd (omega (arith, less))
reads_plain b.Octal c (zero, less, same) = at false b.Octal 111 c same (λ rest. refl)
reads_plain b.Octal c (suc zero, less, same) = at false b.Octal 79 c same (λ rest. refl)
reads_plain b.Octal c (suc (suc k), less, same) = absurd (omega (arith, less))
reads_plain b.Decimal c (zero, less, same) = at false b.Decimal 100 c same (λ rest. refl)
reads_plain b.Decimal c (suc zero, less, same) = at false b.Decimal 68 c same (λ rest. refl)
reads_plain b.Decimal c (suc (suc k), less, same) = absurd (omega (arith, less))
reads_plain b.Hexadecimal c (zero, less, same) = at false b.Hexadecimal 104 c same (λ rest. refl)
reads_plain b.Hexadecimal c (suc zero, less, same) = at false b.Hexadecimal 72 c same (λ rest. refl)
reads_plain b.Hexadecimal c (suc (suc zero), less, same) = at false b.Hexadecimal 120 c same (λ rest. refl)
reads_plain b.Hexadecimal c (suc (suc (suc zero)), less, same) = at false b.Hexadecimal 88 c same (λ rest. refl)
reads_plain b.Hexadecimal c (suc (suc (suc (suc k))), less, same) = absurd (omega (arith, less))
reads_plain b.Character c (zero, less, same) = at false b.Character 99 c same (λ rest. refl)
reads_plain b.Character c (suc zero, less, same) = at false b.Character 67 c same (λ rest. refl)
reads_plain b.Character c (suc (suc k), less, same) = absurd (omega (arith, less))

-- the letters have their base
base_at : (base : Base) (l c : ℕ) → l ≡ c → base_of l ≡ Some base → base_of c ≡ Some base
base_at base l c same is = subst (λ x. base_of x ≡ Some base) same is

pub base_of_letter : (base : Base) (c : ℕ) → Contains (letters base) c → base_of c ≡ Some base
base_of_letter b.Binary c (zero, less, same) = base_at b.Binary 98 c same refl
base_of_letter b.Binary c (suc zero, less, same) = base_at b.Binary 66 c same refl
base_of_letter b.Binary c (suc (suc k), less, same) = absurd (omega (arith, less))
base_of_letter b.Octal c (zero, less, same) = base_at b.Octal 111 c same refl
base_of_letter b.Octal c (suc zero, less, same) = base_at b.Octal 79 c same refl
base_of_letter b.Octal c (suc (suc k), less, same) = absurd (omega (arith, less))
base_of_letter b.Decimal c (zero, less, same) = base_at b.Decimal 100 c same refl
base_of_letter b.Decimal c (suc zero, less, same) = base_at b.Decimal 68 c same refl
base_of_letter b.Decimal c (suc (suc k), less, same) = absurd (omega (arith, less))
base_of_letter b.Hexadecimal c (zero, less, same) = base_at b.Hexadecimal 104 c same refl
base_of_letter b.Hexadecimal c (suc zero, less, same) = base_at b.Hexadecimal 72 c same refl
base_of_letter b.Hexadecimal c (suc (suc zero), less, same) = base_at b.Hexadecimal 120 c same refl
base_of_letter b.Hexadecimal c (suc (suc (suc zero)), less, same) = base_at b.Hexadecimal 88 c same refl
base_of_letter b.Hexadecimal c (suc (suc (suc (suc k))), less, same) = absurd (omega (arith, less))
base_of_letter b.Character c (zero, less, same) = base_at b.Character 99 c same refl
base_of_letter b.Character c (suc zero, less, same) = base_at b.Character 67 c same refl
base_of_letter b.Character c (suc (suc k), less, same) = absurd (omega (arith, less))

-- with the fewest digits: a number alone
fewest_step : (base : Base) → base ≢ b.Character → item_step true (Some base) ≡ s.Ends (item true base)
fewest_step b.Binary number = refl
fewest_step b.Octal number = refl
fewest_step b.Decimal number = refl
fewest_step b.Hexadecimal number = refl
fewest_step b.Character number = absurd (number refl)

item_read : (fewest : Bool) (base : Base) (c : ℕ) (front rest : List ℕ) → Contains (letters base) c
    → IsItem fewest base c front → elements (front ++ rest) ≡ more (item fewest base) (elements rest)
item_read false base c front rest letter is =
    ap (λ x. elements (x ++ rest)) is ∙ reads_plain base c letter rest
item_read true base c front rest letter is = ap (λ x. elements (x ++ rest)) is.1
    ∙ ap (λ x. with_more (item_step true x) (λ q. elements_from q rest)) (base_of_letter base c letter)
    ∙ ap (λ x. with_more x (λ q. elements_from q rest)) (fewest_step base is.0)

byte_read : (is : Bool) (c : ℕ) (rest : List ℕ) → (c == 37) ≡ is
    → elements ((if is then codes "%%" else c ∷ []) ++ rest) ≡ more (e.Byte c) (elements rest)
byte_read true c rest t = let same : c ≡ 37 = grind (arith, nat_tests) in
    subst (λ x. elements (37 ∷ 37 ∷ rest) ≡ more (e.Byte x) (elements rest)) (sym same) refl
byte_read false c rest t = ap (λ x. with_more (if x then s.Into p.Percent else s.Ends (e.Byte c))
    (λ q. elements_from q rest)) t

spelling_read : (x : Element) (front rest : List ℕ) → IsSpelled x front
    → elements (front ++ rest) ≡ more x (elements rest)
spelling_read (e.Byte c) front rest is = ap (λ y. elements (y ++ rest)) is ∙ byte_read (c == 37) c rest refl
spelling_read e.Path front rest (inl is) = ap (λ y. elements (y ++ rest)) is
spelling_read e.Path front rest (inr is) = ap (λ y. elements (y ++ rest)) is
spelling_read (e.Value i) front rest is = item_read i.fewest i.base is.0 front rest is.1 is.2

pub spelled_read : (xs : List Element) (format : List ℕ) → Spells xs format → elements format ≡ Some xs
spelled_read [] format h = ap elements h
spelled_read (x ∷ xs) format h = ap elements h.4 ∙ spelling_read x h.0 h.1 h.2 ∙ ap (more x) (spelled_read xs h.1 h.3)

-- ---- from what is computed to the spelling

two : (first second : Bool) (u v c : ℕ) → (c == u) ≡ first → (c == v) ≡ second → (first || second) ≡ true
    → Contains (u ∷ v ∷ []) c
two true second u v c f s t = let same : u ≡ c = grind (arith, nat_tests) in (0, omega arith, same)
two false true u v c f s t = let same : v ≡ c = grind (arith, nat_tests) in (1, omega arith, same)
two false false u v c f s t = absurd cc

-- two letters more, from the third place on
later : (u v x y c : ℕ) → Contains (x ∷ y ∷ []) c → Contains (u ∷ v ∷ x ∷ y ∷ []) c
later u v x y c h = (suc (suc h.0), omega (arith, h.1), h.2)

earlier : (u v x y c : ℕ) → Contains (u ∷ v ∷ []) c → Contains (u ∷ v ∷ x ∷ y ∷ []) c
earlier u v x y c (zero, less, same) = (0, omega arith, same)
earlier u v x y c (suc zero, less, same) = (1, omega arith, same)
earlier u v x y c (suc (suc k), less, same) = absurd (omega (arith, less))

four : (first second : Bool) (u v x y c : ℕ) → (c == u || c == v) ≡ first → (c == x || c == y) ≡ second
    → (first || second) ≡ true → Contains (u ∷ v ∷ x ∷ y ∷ []) c
four true second u v x y c f s t = earlier u v x y c (two (c == u) (c == v) u v c refl refl f)
four false true u v x y c f s t = later u v x y c (two (c == x) (c == y) x y c refl refl s)
four false false u v x y c f s t = absurd cc

-- the base of a letter, from what it is
abbrev base_by : Bool → Bool → Bool → Bool → Bool → Option Base
base_by is_b is_o is_d is_h is_c =
    if is_b then Some b.Binary else if is_o then Some b.Octal else if is_d then Some b.Decimal else
    if is_h then Some b.Hexadecimal else if is_c then Some b.Character else None

letter_by : (is_b is_o is_d is_h is_c : Bool) (base : Base) (c : ℕ) → (c == 98 || c == 66) ≡ is_b
    → (c == 111 || c == 79) ≡ is_o → (c == 100 || c == 68) ≡ is_d
    → (c == 104 || c == 72 || (c == 120 || c == 88)) ≡ is_h → (c == 99 || c == 67) ≡ is_c
    → base_by is_b is_o is_d is_h is_c ≡ Some base → Contains (letters base) c
letter_by true o d h x base c tb to td th tx e = let same : b.Binary ≡ base = cc in
    subst (λ y. Contains (letters y) c) same (two (c == 98) (c == 66) 98 66 c refl refl tb)
letter_by false true d h x base c tb to td th tx e = let same : b.Octal ≡ base = cc in
    subst (λ y. Contains (letters y) c) same (two (c == 111) (c == 79) 111 79 c refl refl to)
letter_by false false true h x base c tb to td th tx e = let same : b.Decimal ≡ base = cc in
    subst (λ y. Contains (letters y) c) same (two (c == 100) (c == 68) 100 68 c refl refl td)
letter_by false false false true x base c tb to td th tx e = let same : b.Hexadecimal ≡ base = cc in
    subst (λ y. Contains (letters y) c) same
    (four (c == 104 || c == 72) (c == 120 || c == 88) 104 72 120 88 c refl refl th)
letter_by false false false false true base c tb to td th tx e = let same : b.Character ≡ base = cc in
    subst (λ y. Contains (letters y) c) same (two (c == 99) (c == 67) 99 67 c refl refl tx)
letter_by false false false false false base c tb to td th tx e = absurd cc

letter_of : (base : Base) (c : ℕ) → base_of c ≡ Some base → Contains (letters base) c
letter_of base c e = letter_by (c == 98 || c == 66) (c == 111 || c == 79) (c == 100 || c == 68)
    (c == 104 || c == 72 || (c == 120 || c == 88)) (c == 99 || c == 67) base c refl refl refl refl refl e

-- what was read of an item
abbrev front_of : Progress → List ℕ
front_of p.Outside = []
front_of p.Percent = 37 ∷ []
front_of p.Zero = 37 ∷ 48 ∷ []

-- the elements after an element are those of the rest
element_more : (x : Element) (front rest : List ℕ) (found : Option (List Element)) (xs : List Element)
    → IsSpelled x front → more x found ≡ Some xs → ((ys : List Element) → found ≡ Some ys → Spells ys rest)
    → Spells xs (front ++ rest)
element_more x front rest None xs is e h = absurd cc
element_more x front rest (Some ys) xs is e h = let same : x ∷ ys ≡ xs = cc in
    subst (λ zs. Spells zs (front ++ rest)) same (front, rest, is, h ys refl, refl)

-- what is known of the bytes after this one
abbrev Goes : List ℕ → Type 0
Goes cs = (r : Progress) (xs : List Element) → elements_from r cs ≡ Some xs → Spells xs (front_of r ++ cs)

byte_spelt : (c : ℕ) → (c == 37) ≡ false → c ∷ [] ≡ byte_spelling c
byte_spelt c t = ap (λ x. if x then codes "%%" else c ∷ []) (sym t)

percent_spelt : (c : ℕ) → c ≡ 37 → 37 ∷ c ∷ [] ≡ byte_spelling c
percent_spelt c same = subst (λ x. 37 ∷ x ∷ [] ≡ byte_spelling x) (sym same) refl

outside_case : (is : Bool) (c : ℕ) (cs : List ℕ) (xs : List Element) → (c == 37) ≡ is
    → with_more (if is then s.Into p.Percent else s.Ends (e.Byte c)) (λ q. elements_from q cs) ≡ Some xs → Goes cs
    → Spells xs (c ∷ cs)
outside_case true c cs xs t f h = let same : 37 ≡ c = grind (arith, nat_tests) in
    subst (λ x. Spells xs (x ∷ cs)) same (h p.Percent xs f)
outside_case false c cs xs t f h =
    element_more (e.Byte c) (c ∷ []) cs (elements cs) xs (byte_spelt c t) f (λ ys. h p.Outside ys)

-- a letter after a percent sign
plain_case : (found : Option Base) (c : ℕ) (cs : List ℕ) (xs : List Element) → base_of c ≡ found
    → with_more (item_step false found) (λ q. elements_from q cs) ≡ Some xs → Goes cs → Spells xs (37 ∷ c ∷ cs)
plain_case None c cs xs t f h = absurd cc
plain_case (Some base) c cs xs t f h = element_more (item false base) (37 ∷ c ∷ []) cs (elements cs) xs
    (c, letter_of base c t, refl) f (λ ys. h p.Outside ys)

-- a letter after a percent sign and a 0
zero_spelt : (base : Base) (c : ℕ) (cs : List ℕ) (xs : List Element) → base ≢ b.Character → base_of c ≡ Some base
    → more (item true base) (elements cs) ≡ Some xs → Goes cs → Spells xs (37 ∷ 48 ∷ c ∷ cs)
zero_spelt base c cs xs number t f h = element_more (item true base) (37 ∷ 48 ∷ c ∷ []) cs (elements cs) xs
    (c, letter_of base c t, (number, refl)) f (λ ys. h p.Outside ys)

binary_number : b.Binary ≢ b.Character
binary_number e = absurd cc

octal_number : b.Octal ≢ b.Character
octal_number e = absurd cc

decimal_number : b.Decimal ≢ b.Character
decimal_number e = absurd cc

hexadecimal_number : b.Hexadecimal ≢ b.Character
hexadecimal_number e = absurd cc

zero_case : (found : Option Base) (c : ℕ) (cs : List ℕ) (xs : List Element) → base_of c ≡ found
    → with_more (item_step true found) (λ q. elements_from q cs) ≡ Some xs → Goes cs
    → Spells xs (37 ∷ 48 ∷ c ∷ cs)
zero_case None c cs xs t f h = absurd cc
zero_case (Some b.Binary) c cs xs t f h = zero_spelt b.Binary c cs xs binary_number t f h
zero_case (Some b.Octal) c cs xs t f h = zero_spelt b.Octal c cs xs octal_number t f h
zero_case (Some b.Decimal) c cs xs t f h = zero_spelt b.Decimal c cs xs decimal_number t f h
zero_case (Some b.Hexadecimal) c cs xs t f h = zero_spelt b.Hexadecimal c cs xs hexadecimal_number t f h
zero_case (Some b.Character) c cs xs t f h = absurd cc

path_spelt : (small great : Bool) (c : ℕ) → (c == 109) ≡ small → (c == 77) ≡ great → (small || great) ≡ true
    → IsSpelled e.Path (37 ∷ c ∷ [])
path_spelt true great c s g t = let same : c ≡ 109 = grind (arith, nat_tests) in inl (ap (λ x. 37 ∷ x ∷ []) same)
path_spelt false true c s g t = let same : c ≡ 77 = grind (arith, nat_tests) in inr (ap (λ x. 37 ∷ x ∷ []) same)
path_spelt false false c s g t = absurd cc

percent_case : (is zeroth path : Bool) (c : ℕ) (cs : List ℕ) (xs : List Element) → (c == 37) ≡ is
    → (c == 48) ≡ zeroth → (c == 109 || c == 77) ≡ path
    → with_more (if is then s.Ends (e.Byte c) else if zeroth then s.Into p.Zero else if path then s.Ends e.Path else
    item_step false (base_of c)) (λ q. elements_from q cs) ≡ Some xs → Goes cs → Spells xs (37 ∷ c ∷ cs)
percent_case true zeroth path c cs xs t tz tp f h = let same : c ≡ 37 = grind (arith, nat_tests) in
    element_more (e.Byte c) (37 ∷ c ∷ []) cs (elements cs) xs (percent_spelt c same) f (λ ys. h p.Outside ys)
percent_case false true path c cs xs t tz tp f h = let same : 48 ≡ c = grind (arith, nat_tests) in
    subst (λ x. Spells xs (37 ∷ x ∷ cs)) same (h p.Zero xs f)
percent_case false false true c cs xs t tz tp f h = element_more e.Path (37 ∷ c ∷ []) cs (elements cs) xs
    (path_spelt (c == 109) (c == 77) c refl refl tp) f (λ ys. h p.Outside ys)
percent_case false false false c cs xs t tz tp f h = plain_case (base_of c) c cs xs refl f h

none_spelt : (xs : List Element) → Some [] ≡ Some xs → Spells xs []
none_spelt [] e = refl
none_spelt (x ∷ xs) e = absurd cc

pub read_spelled : (bs : List ℕ) → Goes bs
read_spelled [] p.Outside xs f = none_spelt xs f
read_spelled [] p.Percent xs f = absurd cc
read_spelled [] p.Zero xs f = absurd cc
read_spelled (c ∷ cs) p.Outside xs f = outside_case (c == 37) c cs xs refl f (read_spelled cs)
read_spelled (c ∷ cs) p.Percent xs f =
    percent_case (c == 37) (c == 48) (c == 109 || c == 77) c cs xs refl refl refl f (read_spelled cs)
read_spelled (c ∷ cs) p.Zero xs f = zero_case (base_of c) c cs xs refl f (read_spelled cs)

pub elements_law : ElementsLaw
elements_law format xs = (λ f. read_spelled format p.Outside xs f, λ h. spelled_read xs format h)
