-- Rows that are given fit the data inputs.
use Rattle.std.proofs.Common.{◌≡◌, ℕ, zero, suc, ◌+◌, ◌^◌, ◌<◌, ◌≤◌, Bool, true, false, if◌then◌else◌, List, [], ◌∷◌, length, drop, map, get_or, Option, Some, None, refl, ap, ◌∙◌, subst, arith}
use Rattle.std.specs.Prelude.{nat_le, ◌==◌, ◌||◌, not, bytes_eq, All}
use Rattle.std.specs.List.{list_all}
use Rattle.std.specs.Str.Lines.{strip_carriage_return}
use Rattle.std.proofs.lemmas.Bool.Decides.{nat_tests}
use Rattle.std.proofs.lemmas.List.{get_or-map, length-map}
use Rattle.std.proofs.lemmas.List.Elements.{All-cons, All-head, All-tail}
use Rattle.std.proofs.lemmas.Slice.Eq.{bytes_eq-Decides}
use Rattle.dt_core.specs.declared.limits.TheConstants.{MAX_ROWS}
use Rattle.stimulus.specs.declared.refusal.Input.{Input}
use Rattle.stimulus.specs.declared.refusal.RefusalKind.{RefusalKind}
use Rattle.stimulus.specs.declared.refusal.RefusalKind.TheVariants as k
use Rattle.stimulus.specs.Stimulus.{words, has_name, or_else, are_names, bad_name, lack_fault, names_fault, number_of, is_number, value_fault, bad_value, row_fault, width_of, widths_of, place_of, values_of, numbers_at, row_of, is_long, line_fault, content_fault, second, names_of}
use Rattle.stimulus.specs.Lines.{HavePassed}
use Rattle.stimulus.specs.Fits.{AreNamed, Fit, AreRows}
use Rattle.stimulus.proofs.DigitLaws.{split_and}

-- ---- what no fault says

first_none : (o p : Option RefusalKind) → or_else o p ≡ None → (o ≡ None) × (p ≡ None)
first_none (Some kind) p e = absurd cc
first_none None p e = (refl, e)

-- a test that gives a fault where it is true was false
was_false : (b : Bool) (kind : RefusalKind) (o : Option RefusalKind) → (if b then Some kind else o) ≡ None → (b ≡ false) × (o ≡ None)
was_false true kind o e = absurd cc
was_false false kind o e = (refl, e)

was_true : (b : Bool) (kind : RefusalKind) (o : Option RefusalKind) → (if b then o else Some kind) ≡ None → (b ≡ true) × (o ≡ None)
was_true true kind o e = (refl, e)
was_true false kind o e = absurd cc

below : (n m : ℕ) → nat_le n m ≡ false → m < n
below n m e = grind (arith, nat_tests)

-- a value without a fault is below 2 ^ its width
small_value : (width : ℕ) (value : List ℕ) → value_fault width value ≡ None → number_of value < 2 ^ width
small_value width value e =
    let first = was_false (not (is_number value)) k.BadValue (if nat_le (2 ^ width) (number_of value) then Some k.TooLarge else None) e in
    below (2 ^ width) (number_of value) (was_false (nat_le (2 ^ width) (number_of value)) k.TooLarge None first.1).0

small_at : (widths : List ℕ) (values : List (List ℕ)) (p : ℕ) → bad_value widths values ≡ None → length values ≡ length widths → p < length widths
    → number_of (get_or values p []) < 2 ^ get_or widths p 0
small_at [] values p e same less = absurd (omega arith)
small_at (w ∷ ws) [] p e same less = absurd (omega arith)
small_at (w ∷ ws) (v ∷ vs) zero e same less = small_value w v (first_none (value_fault w v) (bad_value ws vs) e).0
small_at (w ∷ ws) (v ∷ vs) (suc p) e same less = small_at ws vs p (first_none (value_fault w v) (bad_value ws vs) e).1 (omega arith) (omega arith)

-- where a name stands
same_bytes : (xs ys : List ℕ) → bytes_eq xs ys ≡ true → xs ≡ ys
same_bytes xs ys e = (bytes_eq-Decides xs ys).0 e

named_first : (n : List ℕ) (names : List (List ℕ)) (name : List ℕ) (b : Bool) → bytes_eq n name ≡ b → (b || has_name names name) ≡ true
    → (has_name names name ≡ true → (place_of names name < length names) × (get_or names (place_of names name) [] ≡ name))
    → ((if b then 0 else suc (place_of names name)) < suc (length names)) × (get_or (n ∷ names) (if b then 0 else suc (place_of names name)) [] ≡ name)
named_first n names name true is e rest = (omega arith, same_bytes n name is)
named_first n names name false is e rest = let r = rest e in (omega (arith, r.0), r.1)

named_at : (names : List (List ℕ)) (name : List ℕ) → has_name names name ≡ true → (place_of names name < length names) × (get_or names (place_of names name) [] ≡ name)
named_at [] name e = absurd cc
named_at (n ∷ names) name e = named_first n names name (bytes_eq n name) refl e (named_at names name)

-- ---- a row that fits

-- the value of one input
value_fits : (inputs : List Input) (names values : List (List ℕ)) (i : Input) → bad_value (widths_of inputs names) values ≡ None → length values ≡ length (widths_of inputs names)
    → has_name names i.name ≡ true → width_of inputs i.name ≡ i.width → number_of (get_or values (place_of names i.name) []) < 2 ^ i.width
value_fits inputs names values i e same has named =
    let at = named_at names i.name has in
    let p = place_of names i.name in
    let size : length (widths_of inputs names) ≡ length names = length-map names (λ name. width_of inputs name) in
    let width : get_or (widths_of inputs names) p 0 ≡ i.width = get_or-map (λ name. width_of inputs name) names p [] 0 at.0 ∙ ap (width_of inputs) at.1 ∙ named in
    subst (λ w. number_of (get_or values p []) < 2 ^ w) width (small_at (widths_of inputs names) values p e same (omega (arith, at.0, size)))

row_fits : (inputs some : List Input) (names values : List (List ℕ)) → bad_value (widths_of inputs names) values ≡ None → length values ≡ length (widths_of inputs names)
    → list_all (λ i. has_name names i.name) some ≡ true → All (λ i. width_of inputs i.name ≡ i.width) some
    → Fit some (numbers_at values (map (λ i. place_of names i.name) some))
row_fits inputs [] names values e same has named = tt
row_fits inputs (i ∷ some) names values e same has named =
    let both = split_and (has_name names i.name) (list_all (λ j. has_name names j.name) some) has in (
      value_fits inputs names values i e same both.0 (All-head (λ j. width_of inputs j.name ≡ j.width) i some named),
      row_fits inputs some names values e same both.1 (All-tail (λ j. width_of inputs j.name ≡ j.width) i some named),
    )

equal : (n m : ℕ) → (n == m) ≡ true → n ≡ m
equal n m e = grind (arith, nat_tests)

-- a row's line without a fault
line_fits : (inputs : List Input) (names : List (List ℕ)) (row : ℕ) (line : List ℕ) → AreNamed inputs → list_all (λ i. has_name names i.name) inputs ≡ true
    → line_fault inputs names (suc (suc row)) line ≡ None → (row < MAX_ROWS) × Fit inputs (row_of inputs names line)
line_fits inputs names row line named has e =
    let values = values_of (strip_carriage_return line) in
    let ws = widths_of inputs names in
    let short = was_false (is_long line) k.LineTooLong (content_fault inputs names (suc (suc row)) (strip_carriage_return line)) e in
    let few = was_false (nat_le MAX_ROWS row) k.TooManyRows (row_fault ws values) short.1 in
    let count = was_true (length values == length ws) k.WrongCount (bad_value ws values) few.1 in
    (below MAX_ROWS row few.0, row_fits inputs inputs names values count.1 (equal (length values) (length ws) count.0) has named)

-- line 2 without a fault has each input
line_has : (inputs : List Input) (names : List (List ℕ)) (line : List ℕ) → line_fault inputs names 1 line ≡ None → list_all (λ i. has_name (names_of line) i.name) inputs ≡ true
line_has inputs names line e =
    let ws = words (strip_carriage_return line) in
    let short = was_false (is_long line) k.LineTooLong (names_fault inputs ws) e in
    let form = was_false (not (are_names ws)) k.BadHeader (or_else (bad_name inputs [] (drop 1 ws)) (lack_fault inputs (drop 1 ws))) short.1 in
    let lack = first_none (bad_name inputs [] (drop 1 ws)) (lack_fault inputs (drop 1 ws)) form.1 in
    (was_true (list_all (λ i. has_name (drop 1 ws) i.name) inputs) k.MissingInput None lack.1).0

rows_fit : (inputs : List Input) (names : List (List ℕ)) (n : ℕ) (lines : List (List ℕ)) → AreNamed inputs → list_all (λ i. has_name names i.name) inputs ≡ true
    → n ≤ MAX_ROWS → HavePassed (line_fault inputs names) (suc (suc n)) lines → (n + length lines ≤ MAX_ROWS) × All (λ r. Fit inputs r) (map (row_of inputs names) lines)
rows_fit inputs names n [] named has few passed = (omega arith, λ j d less. absurd (omega arith))
rows_fit inputs names n (line ∷ lines) named has few passed =
    let one = line_fits inputs names n line named has passed.0 in
    let rest = rows_fit inputs names (suc n) lines named has (omega (arith, one.0)) passed.1 in
    (omega (arith, rest.0), All-cons (λ r. Fit inputs r) (row_of inputs names line) (map (row_of inputs names) lines) one.1 rest.1)

-- the rows of lines without a fault
pub lines_fit : (inputs : List Input) (lines : List (List ℕ)) → AreNamed inputs → HavePassed (line_fault inputs (names_of (second lines))) 0 lines
    → AreRows inputs (map (row_of inputs (names_of (second lines))) (drop 2 lines))
lines_fit inputs [] named passed = (omega arith, λ j d less. absurd (omega arith))
lines_fit inputs (l ∷ []) named passed = (omega arith, λ j d less. absurd (omega arith))
lines_fit inputs (l ∷ m ∷ ls) named passed =
    let names = names_of m in
    let fit = rows_fit inputs names 0 ls named (line_has inputs names m passed.1.0) (omega arith) passed.1.1 in
    (omega (arith, fit.0, length-map ls (row_of inputs names)), fit.1)
