-- Copies, and the first of several selects.
use Rattle.std.proofs.Common.{◌≡◌, refl, sym, ap, ◌∙◌, ℕ, zero, suc, ◌*◌, ◌≤◌, Bool, true, false, List, [], ◌∷◌, map, length, Some, None, arith, if◌then◌else◌}
use Rattle.std.specs.Prelude.{Option, Ok, Err, ℤ, pos, int_lt, unsigned_abs, slice_get}
use Rattle.vl_tree.specs.declared.expression.Expr as code
use Rattle.vl_tree.specs.Syntax.{Place}
use Rattle.vl_tree.specs.declared.fault.FaultKind.TheVariants.{TooWide}
use Rattle.vl_value.specs.Order.{at, lesser}
use Rattle.vl_value.specs.Order as order
use Rattle.vl_value.specs.Paths.{Path}
use Rattle.vl_value.specs.Things.{Shape}
use Rattle.vl_value.specs.Meaning as m
use Rattle.vl_value.specs.Constant.{Sight}
use Rattle.vl_width.specs.Known.{is_width}
use Rattle.vl_width.specs.Lists.{exprs_of}
use Rattle.std.specs.Option.{option_map}
use Rattle.vl_width.specs.declared.names.Object.{Object}
use Rattle.vl_width.specs.Objects.{Numbering, thing}
use Rattle.vl_width.proofs.Numbers.{no_product}
use Rattle.vl_sized.specs.declared.picks.Pick.{Pick}
use Rattle.vl_found.specs.declared.Found.{Found}
use Rattle.vl_found.specs.View.{found, earlier}
use Rattle.vl_sized.specs.Told.{told}
use Rattle.vl_sized.proofs.Least.{lesser_some}
use Rattle.vl_sized.proofs.Joints.{found_earlier}
use Rattle.vl_sized.specs.Moments.{Sense, still, constant_sense, on_all, all_mean}
use Rattle.vl_sized.specs.Plain.{plain_pick}
use Rattle.vl_sized.specs.Wholes.{if_width}
use Rattle.vl_sized.specs.Sensed as sensed
use Rattle.vl_sized.specs.Sensed.{bits_told, copied_sense, named_word}
use Rattle.vl_sized.proofs.Widths.{told_width, no_bits}

-- ---- copies

abbrev copies_by : Bool → Bool → ℤ → List Sense → Sense
copies_by x y z xs = if x then constant_sense (m.unsigned 1 0)
    else (if y then on_all (λ ms. m.copies (unsigned_abs z) (m.braces ms)) xs else constant_sense (m.unsigned 1 0))

pub copied_low : (z : ℤ) (xs : List Sense) → int_lt z (pos 1) ≡ true → constant_sense (m.unsigned 1 0) ≡ copied_sense (Some z) xs
copied_low z xs h = ap (λ x. copies_by x (is_width (unsigned_abs z * m.widths (all_mean xs still))) z xs) (sym h)

wide_by : (x y : Bool) (z : ℤ) (xs : List Sense) → y ≡ false → constant_sense (m.unsigned 1 0) ≡ copies_by x y z xs
wide_by true y z xs h = refl
wide_by false true z xs h = absurd cc
wide_by false false z xs h = refl

pub copied_wide : (z : ℤ) (xs : List Sense) (w : ℕ) → w ≡ m.widths (all_mean xs still) → None ≡ if_width (unsigned_abs z * w)
    → constant_sense (m.unsigned 1 0) ≡ copied_sense (Some z) xs
copied_wide z xs w e h =
    wide_by (int_lt z (pos 1)) (is_width (unsigned_abs z * m.widths (all_mean xs still))) z xs
    (ap (λ k. is_width (unsigned_abs z * k)) (sym e) ∙ no_bits (unsigned_abs z * w) h)

is_some : (w n : ℕ) → Some n ≡ if_width w → is_width w ≡ true
is_some w n h = some_by (is_width w) w n h
  where
    some_by : (x : Bool) (w n : ℕ) → Some n ≡ (if x then Some w else None) → x ≡ true
    some_by true w n h = refl
    some_by false w n h = absurd cc

told_size : (x y : Bool) (k n : ℕ) → x ≡ false → Some n ≡ (if x then None else (if y then Some k else None)) → n ≡ k
told_size true y k n e h = absurd cc
told_size false true k n e h = cc
told_size false false k n e h = absurd cc

-- how many copies a whole number tells
pub told_count : (z : ℤ) (n : ℕ) → int_lt z (pos 1) ≡ false → Some n ≡ bits_told z → n ≡ unsigned_abs z
told_count z n e h = told_size (int_lt z (pos 1)) (is_width (unsigned_abs z)) (unsigned_abs z) n e h

pub copied_some : (z : ℤ) (xs : List Sense) (w n v : ℕ) → w ≡ m.widths (all_mean xs still) → int_lt z (pos 1) ≡ false
    → Some n ≡ bits_told z → Some v ≡ if_width (unsigned_abs z * w)
    → on_all (λ ms. m.copies n (m.braces ms)) xs ≡ copied_sense (Some z) xs
copied_some z xs w n v e low told h =
    let fits : is_width (unsigned_abs z * m.widths (all_mean xs still)) ≡ true =
    ap (λ k. is_width (unsigned_abs z * k)) (sym e) ∙ is_some (unsigned_abs z * w) v h in
    ap (λ k. on_all (λ ms. m.copies k (m.braces ms)) xs) (told_count z n low told) ∙ (λ i. copies_by (sym low i) (sym fits i) z xs)

untold_width : (x y : Bool) (k : ℕ) → x ≡ false → None ≡ (if x then None else (if y then Some k else None)) → y ≡ false
untold_width true y k e h = absurd cc
untold_width false true k e h = absurd cc
untold_width false false k e h = refl

-- where copies have a width, there are few of them
pub few_copies : (z : ℤ) (w v : ℕ) → int_lt z (pos 1) ≡ false → None ≡ bits_told z → Some v ≡ if_width (unsigned_abs z * w) → ⊥
few_copies z w v e h k =
    let t = told_width (unsigned_abs z * w) v k in
    let some : 1 ≤ w = positive w (unsigned_abs z) (omega (arith, t.same, t.some)) in
    let none : is_width (unsigned_abs z) ≡ false = untold_width (int_lt z (pos 1)) (is_width (unsigned_abs z)) (unsigned_abs z) e h in
    let out : is_width (w * unsigned_abs z) ≡ false = no_product w (unsigned_abs z) some none in
    let yes : is_width (unsigned_abs z * w) ≡ true = is_some (unsigned_abs z * w) v k in
    absurd (clash (is_width (unsigned_abs z * w)) yes (ap is_width (turned (unsigned_abs z) w) ∙ out))
  where
    positive : (w n : ℕ) → 1 ≤ n * w → 1 ≤ w
    positive zero n h = absurd (omega (arith, h))
    positive (suc w) n h = omega arith

    turned : (a b : ℕ) → a * b ≡ b * a
    turned a b = omega arith

    clash : (x : Bool) → x ≡ true → x ≡ false → ⊥
    clash x a b = absurd cc

-- ---- the first of several selects

pub by_first : (ns : Numbering) (q : Path) (sh : Shape) (first last : ℕ) (ks : List Pick) (k : Pick) → slice_get ks 0 ≡ Some k
    → ((rest : List sensed.Pick) → named_word q sh first last (plain_pick ns k ∷ rest) ≡ constant_sense (m.unsigned 1 0))
    → constant_sense (m.unsigned 1 0) ≡ named_word q sh first last (map (plain_pick ns) ks)
by_first ns q sh first last [] k e h = absurd cc
by_first ns q sh first last (j ∷ ks) k e h =
    let same : j ≡ k = cc in
    sym (h (map (plain_pick ns) ks)) ∙ ap (λ x. named_word q sh first last (plain_pick ns x ∷ map (plain_pick ns) ks)) (sym same)

-- ---- arguments

pub counted : (s : Sight) (es : List code.Expr) → length (m.meanings (m.at_rest s) (exprs_of es)) ≡ length es
counted s [] = refl
counted s (e ∷ es) = ap suc (counted s es)

-- ---- braces

pub braces_some : (p : Place) (xs : List Sense) (w n : ℕ) → w ≡ m.widths (all_mean xs still) → Some n ≡ if_width w
    → Ok (on_all m.braces xs) ≡ sensed.braces_sensed p (Ok xs)
braces_some p xs w n e h =
    let fits : is_width (m.widths (all_mean xs still)) ≡ true = ap is_width (sym e) ∙ is_some w n h in
    ap (λ x. told (if x then None else Some (at p TooWide)) (on_all m.braces xs)) (sym fits)

pub braces_none : (p : Place) (xs : List Sense) (w : ℕ) → w ≡ m.widths (all_mean xs still) → None ≡ if_width w
    → Err (at p TooWide) ≡ sensed.braces_sensed p (Ok xs)
braces_none p xs w e h =
    let fits : is_width (m.widths (all_mean xs still)) ≡ false = ap is_width (sym e) ∙ no_bits w h in
    ap (λ x. told (if x then None else Some (at p TooWide)) (on_all m.braces xs)) (sym fits)

-- ---- calls

pub call_both : (inner own : Found) (q : Option order.Found) (x : Sense) → Some (found own) ≡ q
    → Err (found (earlier inner own)) ≡ told (lesser (Some (found inner)) q) x
call_both inner own q x h =
    ap Err (found_earlier inner own) ∙ ap (λ o. told o x) (sym (lesser_some (found inner) (found own)))
    ∙ ap (λ o. told (lesser (Some (found inner)) o) x) h

pub call_inner : (inner : Found) (q : Option order.Found) (x : Sense) → None ≡ q → Err (found inner) ≡ told (lesser (Some (found inner)) q) x
call_inner inner q x h = ap (λ o. told (lesser (Some (found inner)) o) x) h

-- ---- names that nothing in sight declares

pub none_called : (ns : Numbering) (o : Option Object) (xs : List Sense) → ((k : Object) → o ≡ Some k → ⊥)
    → constant_sense (m.unsigned 1 0) ≡ sensed.called (option_map (thing ns) o) xs
none_called ns None xs h = refl
none_called ns (Some k) xs h = absurd (h k refl)

pub none_named : (ns : Numbering) (o : Option Object) (ks : List sensed.Pick) → ((k : Object) → o ≡ Some k → ⊥)
    → constant_sense (m.unsigned 1 0) ≡ sensed.named (option_map (thing ns) o) ks
none_named ns None ks h = refl
none_named ns (Some k) ks h = absurd (h k refl)
