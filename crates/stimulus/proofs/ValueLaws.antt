-- Reading the values of a row, one after another.
use Rattle.std.proofs.Common.{◌≡◌, ℕ, ◌+◌, ◌<◌, ◌≤◌, true, false, List, [], ◌∷◌, ◌++◌, length, take, drop, set, get_or, map, Option, Some, None, refl, sym, ap, ◌∙◌, arith, append_assoc, append-nil, length-append}
use Rattle.std.specs.Prelude.{◌==◌, if◌then◌else◌}
use Rattle.std.specs.Borrow.{Bor}
use Rattle.std.specs.List.{count_by}
use Rattle.std.proofs.lemmas.Bool.Decides.{nat_tests}
use Rattle.std.proofs.lemmas.List.{take_more_set, drop_more, drop_all, take_all, map_push, length_push}
use Rattle.std.proofs.lemmas.List.Splits.{length-slice_split}
use Rattle.stimulus.specs.declared.refusal.RefusalKind.{RefusalKind}
use Rattle.stimulus.specs.declared.refusal.RefusalKind.TheVariants as k
use Rattle.stimulus.specs.Stimulus.{values_of, number_of, value_fault, bad_value, row_fault, or_else}
use Rattle.stimulus.specs.Calls.Digits.{is_space, words_in}

pub count_law : (line : List ℕ) → 0 < length line → count_by is_space line + 1 ≡ length (values_of line)
count_law [] some = absurd (omega arith)
count_law (b ∷ line) some = sym (length-slice_split is_space (b ∷ line))

-- after so many values, which have no fault, this is left of the line
pub record Led (widths line : List ℕ) (place : ℕ) (values : List ℕ) (rest : Option (Bor (List ℕ))) : Type 0 where
  pub count : length (values_of line) ≡ length widths
  pub done : List (List ℕ)
  pub split : values_of line ≡ done ++ words_in rest
  pub size : length done ≡ place
  pub read : take place values ≡ map number_of done
  pub faults : bad_value widths (values_of line) ≡ bad_value (drop place widths) (words_in rest)

pub led_none : (widths line values : List ℕ) (rest : Option (Bor (List ℕ))) → length (values_of line) ≡ length widths → words_in rest ≡ values_of line
    → Led widths line 0 values rest
led_none widths line values rest count e = record {
  count = count;
  done = [];
  split = sym e;
  size = refl;
  read = refl;
  faults = ap (bad_value widths) (sym e);
}

pub led_on : (widths line : List ℕ) (place : ℕ) (values : List ℕ) (rest after : Option (Bor (List ℕ))) (value : List ℕ) (number : ℕ)
    → place < length widths → length values ≡ length widths → Led widths line place values rest → words_in rest ≡ value ∷ words_in after
    → value_fault (get_or widths place 0) value ≡ None → number ≡ number_of value → Led widths line (place + 1) (set values place number) after
led_on widths line place values rest after value number less same led next good is = record {
  count = led.count;
  done = led.done ++ value ∷ [];
  split = led.split ∙ ap (λ ws. led.done ++ ws) next ∙ sym (append_assoc led.done (value ∷ []) (words_in after));
  size = length_push led.done value ∙ ap (λ n. n + 1) led.size;
  read = take_more_set values place number (omega arith) ∙ ap (λ ns. ns ++ number ∷ []) led.read ∙ ap (λ n. map number_of led.done ++ n ∷ []) is
      ∙ sym (map_push number_of led.done value);
  faults = led.faults ∙ ap (λ ws. bad_value ws (words_in rest)) (drop_more widths place 0 less)
      ∙ ap (bad_value (get_or widths place 0 ∷ drop (place + 1) widths)) next ∙ ap (λ o. or_else o (bad_value (drop (place + 1) widths) (words_in after))) good;
}

counted : (widths line : List ℕ) → length (values_of line) ≡ length widths → row_fault widths (values_of line) ≡ bad_value widths (values_of line)
counted widths line e =
    let same : (length (values_of line) == length widths) ≡ true = grind (arith, nat_tests) in
    ap (λ b. if b then bad_value widths (values_of line) else Some k.WrongCount) same

pub led_fault : (widths line : List ℕ) (place : ℕ) (values : List ℕ) (rest : Option (Bor (List ℕ))) (value : List ℕ) (more : List (List ℕ)) (kind : RefusalKind)
    → place < length widths → Led widths line place values rest → words_in rest ≡ value ∷ more → value_fault (get_or widths place 0) value ≡ Some kind
    → row_fault widths (values_of line) ≡ Some kind
led_fault widths line place values rest value more kind less led next bad =
    counted widths line led.count ∙ led.faults ∙ ap (λ ws. bad_value ws (words_in rest)) (drop_more widths place 0 less)
    ∙ ap (bad_value (get_or widths place 0 ∷ drop (place + 1) widths)) next ∙ ap (λ o. or_else o (bad_value (drop (place + 1) widths) more)) bad

-- a width that is left has a value that is left
pub led_some : (widths line : List ℕ) (place : ℕ) (values : List ℕ) → place < length widths → Led widths line place values None → ⊥
led_some widths line place values less led = omega (arith, led.count, led.size, ap length led.split, length-append led.done [])

no_words : (ps : List (List ℕ)) → length ps ≡ 0 → ps ≡ []
no_words [] e = refl
no_words (p ∷ ps) e = absurd (omega arith)

pub led_all : (widths line : List ℕ) (place : ℕ) (values : List ℕ) (rest : Option (Bor (List ℕ))) → length widths ≤ place → length values ≡ length widths
    → Led widths line place values rest → (row_fault widths (values_of line) ≡ None) × (values ≡ map number_of (values_of line))
led_all widths line place values rest all same led =
    let left : words_in rest ≡ [] = no_words (words_in rest) (omega (arith, led.count, led.size, ap length led.split, length-append led.done (words_in rest))) in
    let done : values_of line ≡ led.done = led.split ∙ ap (λ ws. led.done ++ ws) left ∙ append-nil led.done in (
      counted widths line led.count ∙ led.faults ∙ ap (λ ws. bad_value ws (words_in rest)) (drop_all place widths all),
      sym (take_all place values (omega arith)) ∙ led.read ∙ ap (map number_of) (sym done),
    )

pub wrong_count : (widths line : List ℕ) (n : ℕ) → n ≡ length (values_of line) → (n == length widths) ≡ false → row_fault widths (values_of line) ≡ Some k.WrongCount
wrong_count widths line n e h = ap (λ m. if m == length widths then bad_value widths (values_of line) else Some k.WrongCount) (sym e) ∙ ap (λ b. if b then bad_value widths (values_of line) else Some k.WrongCount) h

-- ---- rows of which the count of values isn't known at first

-- so many values were passed, and this is left of the line
pub record Passed (line : List ℕ) (place : ℕ) (rest : Option (Bor (List ℕ))) : Type 0 where
  pub done : List (List ℕ)
  pub split : values_of line ≡ done ++ words_in rest
  pub size : length done ≡ place

pub passed_none : (line : List ℕ) (rest : Option (Bor (List ℕ))) → words_in rest ≡ values_of line → Passed line 0 rest
passed_none line rest e = record { done = []; split = sym e; size = refl }

pub passed_on : (line : List ℕ) (place : ℕ) (rest after : Option (Bor (List ℕ))) (value : List ℕ) → Passed line place rest
    → words_in rest ≡ value ∷ words_in after → Passed line (place + 1) after
passed_on line place rest after value p next = record {
  done = p.done ++ value ∷ [];
  split = p.split ∙ ap (λ ws. p.done ++ ws) next ∙ sym (append_assoc p.done (value ∷ []) (words_in after));
  size = length_push p.done value ∙ ap (λ n. n + 1) p.size;
}

pub all_passed : (widths line : List ℕ) (place : ℕ) (values : List ℕ) (rest : Option (Bor (List ℕ))) → place ≡ length widths
    → words_in rest ≡ [] → length values ≡ length widths → Passed line place rest
    → (length (values_of line) ≡ length widths → Led widths line place values rest)
    → (row_fault widths (values_of line) ≡ None) × (values ≡ map number_of (values_of line))
all_passed widths line place values rest all none same p led =
    let left : length (words_in rest) ≡ 0 = ap length none in
    led_all widths line place values rest (omega (arith, all)) same
    (led (omega (arith, all, left, p.size, ap length p.split, length-append p.done (words_in rest))))
