-- Which places of a signal are read.
use Rattle.std.proofs.Common.{◌≡◌, ℕ, zero, suc, ◌+◌, ◌-◌, ◌<◌, ◌≤◌, ◌||◌, Bool, true, false, List, [], ◌∷◌, ◌++◌, refl, sym, ap, ◌∙◌, arith, inl, inr, if◌then◌else◌}
use Rattle.std.specs.Prelude.{◌&&◌, ◌==◌, nat_le, nat_lt, filter, ℤ, pos, negsuc, min, max}
use Rattle.std.specs.List.{list_any}
use Rattle.std.proofs.lemmas.Bool.{cases_lt}
use Rattle.std.proofs.lemmas.Bool.Decides.{nat_tests}
use Rattle.netlist.specs.Graph.{overlap}
use Rattle.netlist.specs.declared.design.Range.{Range}
use Rattle.vl_value.specs.Reads.{up_to, is_within}
use Rattle.vl_vectors.specs.Vectors.{has_place}

-- ---- some place below n

abbrev some_below : (ℕ → Bool) → ℕ → Bool
some_below r zero = false
some_below r (suc n) = some_below r n || r n

or_none : (b : Bool) → b || false ≡ b
or_none true = refl
or_none false = refl

or_yes : (b : Bool) → b || true ≡ true
or_yes true = refl
or_yes false = refl

any_last : (p : ℕ → Bool) (P : ℕ → Bool) (xs : List ℕ) (n : ℕ) → list_any p (filter P (xs ++ n ∷ [])) ≡ list_any p (filter P xs) || (P n && p n)
any_last p P [] n = last (P n) n
  where
    last : (b : Bool) (k : ℕ) → list_any p (if b then k ∷ [] else []) ≡ b && p k
    last true k = or_none (p k)
    last false k = refl
any_last p P (x ∷ xs) n = first (P x) x (any_last p P xs n)
  where
    or_assoc : (a b c : Bool) → (a || b) || c ≡ a || (b || c)
    or_assoc true b c = refl
    or_assoc false b c = refl

    first : (b : Bool) (k : ℕ) → list_any p (filter P (xs ++ n ∷ [])) ≡ list_any p (filter P xs) || (P n && p n)
        → list_any p (if b then k ∷ filter P (xs ++ n ∷ []) else filter P (xs ++ n ∷ []))
        ≡ list_any p (if b then k ∷ filter P xs else filter P xs) || (P n && p n)
    first true k e = ap (λ b. p k || b) e ∙ sym (or_assoc (p k) (list_any p (filter P xs)) (P n && p n))
    first false k e = e

pub any_is : (p P : ℕ → Bool) (n : ℕ) → list_any p (filter P (up_to n)) ≡ some_below (λ k. P k && p k) n
any_is p P zero = refl
any_is p P (suc n) = any_last p P (up_to n) n ∙ ap (λ b. b || (P n && p n)) (any_is p P n)

pub none_below : (r : ℕ → Bool) (n : ℕ) → ((k : ℕ) → k < n → r k ≡ false) → some_below r n ≡ false
none_below r zero h = refl
none_below r (suc n) h = ap (λ b. b || r n) (none_below r n (λ k l. h k (omega (arith, l)))) ∙ h n (omega arith)

pub one_below : (r : ℕ → Bool) (n k : ℕ) → k < n → r k ≡ true → some_below r n ≡ true
one_below r zero k l h = absurd (omega arith)
one_below r (suc n) k l h = elim (cases_lt k n) [
  | inl low ↦ ap (λ b. b || r n) (one_below r n k low h)
  | inr high ↦ let e : k ≡ n = omega (arith, l, high) in ap (λ b. some_below r n || b) (ap r (sym e) ∙ h) ∙ or_yes (some_below r n)
]

-- ---- a range and places

-- what the overlap of two ranges says of the places of the one
abbrev Overlaps : Range → ℕ → ℕ → ℕ → Bool
Overlaps q signal low n = (signal == q.signal) && (nat_lt low (q.low + q.width) && nat_lt q.low (low + n))

in_width : (q : Range) (signal width low count n : ℕ) → low < width → n ≡ min count (width - low) → 1 ≤ count → 1 ≤ q.width
    → Overlaps q signal low n ≡ true → max low q.low < width
in_width q signal width low count n inside few some one h = grind (arith, nat_tests)

is_there : (q : Range) (signal width low count n : ℕ) → low < width → n ≡ min count (width - low) → 1 ≤ count → 1 ≤ q.width
    → Overlaps q signal low n ≡ true
    → (nat_le low (max low q.low) && nat_lt (max low q.low) (low + count)) && ((signal == q.signal)
    && (nat_le q.low (max low q.low) && nat_lt (max low q.low) (q.low + q.width))) ≡ true
is_there q signal width low count n inside few some one h = grind (arith, nat_tests)

isnt_there : (q : Range) (signal width low count n k : ℕ) → low < width → n ≡ min count (width - low) → 1 ≤ count → 1 ≤ q.width
    → k < width → Overlaps q signal low n ≡ false
    → (nat_le low k && nat_lt k (low + count)) && ((signal == q.signal) && (nat_le q.low k && nat_lt k (q.low + q.width))) ≡ false
isnt_there q signal width low count n k inside few some one l h = grind (arith, nat_tests)

-- bits of a range from low on, and the places from there on that lie in the signal
pub reads_above : (q : Range) (signal width low count n : ℕ) → low < width → n ≡ min count (width - low) → 1 ≤ count → 1 ≤ q.width
    → overlap (record { signal = signal; low = low; width = n }) q
    ≡ list_any (has_place q signal) (filter (is_within (pos low) count) (up_to width))
reads_above q signal width low count n inside few some one = by_test (overlap (record { signal = signal; low = low; width = n }) q) refl
  where
    by_test : (b : Bool) → overlap (record { signal = signal; low = low; width = n }) q ≡ b
        → b ≡ list_any (has_place q signal) (filter (is_within (pos low) count) (up_to width))
    by_test true h = sym (any_is (has_place q signal) (is_within (pos low) count) width
        ∙ one_below (λ k. is_within (pos low) count k && has_place q signal k) width (max low q.low)
        (in_width q signal width low count n inside few some one h) (is_there q signal width low count n inside few some one h))
    by_test false h = sym (any_is (has_place q signal) (is_within (pos low) count) width
        ∙ none_below (λ k. is_within (pos low) count k && has_place q signal k) width
        (λ k l. isnt_there q signal width low count n k inside few some one l h))

-- ---- no place, and places from below the signal on

abbrev any_of : Range → ℕ → ℕ → ℤ → ℕ → Bool
any_of q signal width z count = list_any (has_place q signal) (filter (is_within z count) (up_to width))

out_above : (low count k width : ℕ) → width ≤ low → k < width → nat_le low k && nat_lt k (low + count) ≡ false
out_above low count k width h l = grind (arith, nat_tests)

and_none : (b : Bool) → false && b ≡ false
and_none b = refl

pub none_above : (q : Range) (signal width low count : ℕ) → width ≤ low → any_of q signal width (pos low) count ≡ false
none_above q signal width low count h =
    any_is (has_place q signal) (is_within (pos low) count) width
    ∙ none_below (λ k. is_within (pos low) count k && has_place q signal k) width
    (λ k l. ap (λ b. b && has_place q signal k) (out_above low count k width h l))

-- the places from so many below 0 on are those from 0 on, so many fewer
pub within_below : (under count k : ℕ) → 1 ≤ under → under < count → is_within (negsuc (under - 1)) count k ≡ is_within (pos 0) (count - under) k
within_below under count k some less = grind (arith, nat_tests)

pub within_none : (under count k : ℕ) → 1 ≤ under → count ≤ under → is_within (negsuc (under - 1)) count k ≡ false
within_none under count k some less = grind (arith, nat_tests)

some_same : (r t : ℕ → Bool) (n : ℕ) → ((k : ℕ) → r k ≡ t k) → some_below r n ≡ some_below t n
some_same r t zero h = refl
some_same r t (suc n) h = ap (λ b. b || r n) (some_same r t n h) ∙ ap (λ b. some_below t n || b) (h n)

pub reads_below : (q : Range) (signal width under count : ℕ) → 1 ≤ under → under < count
    → any_of q signal width (pos 0) (count - under) ≡ any_of q signal width (negsuc (under - 1)) count
reads_below q signal width under count some less =
    any_is (has_place q signal) (is_within (pos 0) (count - under)) width
    ∙ some_same (λ k. is_within (pos 0) (count - under) k && has_place q signal k)
    (λ k. is_within (negsuc (under - 1)) count k && has_place q signal k) width
    (λ k. ap (λ b. b && has_place q signal k) (sym (within_below under count k some less)))
    ∙ sym (any_is (has_place q signal) (is_within (negsuc (under - 1)) count) width)

pub none_under : (q : Range) (signal width under count : ℕ) → 1 ≤ under → count ≤ under
    → any_of q signal width (negsuc (under - 1)) count ≡ false
none_under q signal width under count some less =
    any_is (has_place q signal) (is_within (negsuc (under - 1)) count) width
    ∙ none_below (λ k. is_within (negsuc (under - 1)) count k && has_place q signal k) width
    (λ k l. ap (λ b. b && has_place q signal k) (within_none under count k some less))
