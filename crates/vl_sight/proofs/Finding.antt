-- Numbers of the first of each name, one element further to the front.
use Rattle.std.proofs.Common.{◌≡◌, ℕ, ◌+◌, ◌<◌, Bool, true, false, ◌&&◌, List, [], ◌∷◌, ◌++◌, map, length, drop, get_or, refl, sym, ap, ◌∙◌}
use Rattle.std.proofs.lemmas.List.{drop_more}
use Rattle.std.proofs.lemmas.Option.{slice_get-map, slice_get_read}
use Rattle.std.specs.Option.{option_map}
use Rattle.std.specs.Prelude.{Option, Some, if◌then◌else◌, option_and_then, slice_get}
use Rattle.vl_value.specs.Paths.{Text}
use Rattle.vl_names.specs.declared.NameNumbers.{NameNumbers}
use Rattle.vl_names.specs.Names.{HasNoNumber, number_of}
use Rattle.vl_design.specs.Declarations.{Declared, name_of, is_named}
use Rattle.vl_objects.proofs.Finding.{one_if}
use Rattle.vl_sight.specs.Firsts.{Finds, NotesIf, first_of, passes, passes_named}
use Rattle.vl_sight.specs.declared.first.Wanted.{Wanted}

pub finds_none : {A : Type 0} (f : Text → A → Bool) (all none : List A) (n : NameNumbers) → none ≡ [] → HasNoNumber n → Finds f all none n
finds_none f all none n e h x = ap (option_and_then (slice_get all)) (h x) ∙ ap (first_of (f x)) (sym e)

by_test : {A : Type 0} (all : List A) (t : Bool) (k : ℕ) (a : A) (o : Option ℕ) (r : Option A) → slice_get all k ≡ Some a
    → option_and_then (slice_get all) o ≡ r → option_and_then (slice_get all) (if t then Some k else o) ≡ (if t then Some a else r)
by_test all true k a o r e h = e
by_test all false k a o r e h = h

-- an element in front, which is noted under the names that a test tells
pub finds_more : {A : Type 0} (f : Text → A → Bool) (all rest whole : List A) (a : A) (k : ℕ) (t : Text → Bool) (old new : NameNumbers)
    → slice_get all k ≡ Some a
    → ((x : Text) → number_of new x ≡ (if t x then Some k else number_of old x))
    → ((x : Text) → first_of (f x) whole ≡ (if t x then Some a else first_of (f x) rest))
    → Finds f all rest old → Finds f all whole new
finds_more f all rest whole a k t old new at notes first was x =
    ap (option_and_then (slice_get all)) (notes x)
    ∙ by_test all (t x) k a (number_of old x) (first_of (f x) rest) at (was x)
    ∙ sym (first x)

-- the element of a place, as another list has it
pub read_mapped : {A B : Type 0} (v : A → B) (all : List A) (k : ℕ) (a : A) → k < length all → a ≡ get_or all k a
    → slice_get (map v all) k ≡ Some (v a)
read_mapped v all k a below is = slice_get-map v all k ∙ ap (option_map v) (slice_get_read all (length all) k a refl below is)

-- one element more of a list in which each counts
pub finds_next : {A B : Type 0} (v : A → B) (f : Text → B → Bool) (all : List A) (j k : ℕ) (a : A) (old new : NameNumbers)
    → j + 1 ≡ k → j < length all → a ≡ get_or all j a
    → ((x : Text) → number_of new x ≡ (if f x (v (get_or all j a)) then Some j else number_of old x))
    → Finds f (map v all) (map v (drop k all)) old → Finds f (map v all) (map v (drop j all)) new
finds_next v f all j k a old new up below is notes was =
    finds_more f (map v all) (map v (drop k all)) (map v (drop j all)) (v a) j (λ x. f x (v a)) old new
    (read_mapped v all j a below is)
    (λ x. notes x ∙ ap (λ b. if f x (v b) then Some j else number_of old x) (sym is))
    (λ x. ap (λ l. first_of (f x) (map v l))
    (drop_more all j a below ∙ ap (λ b. b ∷ drop (j + 1) all) (sym is) ∙ ap (λ i. a ∷ drop i all) up))
    was

-- ---- declarations, of which some count

swapped : {A : Type 0} (b c : Bool) (p q : A) → (if b && c then p else q) ≡ (if c && b then p else q)
swapped true true p q = refl
swapped true false p q = refl
swapped false true p q = refl
swapped false false p q = refl

first_on : (w : Wanted) (b : Bool) (d : Declared) (rest : List Declared) (x : Text)
    → first_of (passes_named w x) (one_if b d ++ rest)
    ≡ (if (b && passes w d) && is_named x d then Some d else first_of (passes_named w x) rest)
first_on w false d rest x = refl
first_on w true d rest x = swapped (is_named x d) (passes w d) (Some d) (first_of (passes_named w x) rest)

pub declared_more : (w : Wanted) (all rest whole : List Declared) (d : Declared) (k : ℕ) (b : Bool) (old new : NameNumbers)
    → slice_get all k ≡ Some d → whole ≡ one_if b d ++ rest → NotesIf (b && passes w d) (name_of d).text k old new
    → Finds (passes_named w) all rest old → Finds (passes_named w) all whole new
declared_more w all rest whole d k b old new at e notes was =
    finds_more (passes_named w) all rest whole d k (λ x. (b && passes w d) && is_named x d) old new at notes
    (λ x. ap (first_of (passes_named w x)) e ∙ first_on w b d rest x) was
