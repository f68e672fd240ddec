-- What a name with selects means and reads, where nothing is at fault.
use Rattle.std.proofs.Common.{◌≡◌, refl, sym, ap, subst, ◌∙◌, ℕ, ◌+◌, ◌*◌, Bool, true, false, List, [], ◌∷◌, ◌++◌, Some, None, map, append-nil, arith, unsigned_abs, if◌then◌else◌}
use Rattle.std.specs.Prelude.{Option, Ok, ◌&&◌, ℤ, pos, negsuc, ◌-ℤ◌, ◌+ℤ◌, int_lt}
use Rattle.vl_tree.specs.Syntax.{Place, Expr, Selects, no_select, more_select, Select, index, part, upward, downward}
use Rattle.vl_tree.specs.declared.fault.FaultKind.TheVariants.{BadSelect, TooWide, ZeroReplication}
use Rattle.vl_value.specs.Paths.{Path}
use Rattle.vl_value.specs.Things.{distance, word_place, Shape, Thing, signal, memory, constant, routine}
use Rattle.vl_value.specs.Meaning as m
use Rattle.vl_value.specs.Meaning.{Meaning, Picked}
use Rattle.vl_value.specs.Constant as c
use Rattle.vl_value.specs.Constant.{Sight, is_constant}
use Rattle.vl_value.specs.Order.{Found, at, least}
use Rattle.vl_value.specs.Faults as f
use Rattle.vl_value.specs.Faults.{faults, settled, constant_meaning, is_along}
use Rattle.vl_value.specs.Reads as r
use Rattle.vl_value.specs.Reads.{Reading, bit, words}
use Rattle.vl_width.specs.Known.{is_width}
use Rattle.vl_sized.specs.Moments.{Moment, in_sight, Sense, sense}
use Rattle.vl_sized.specs.Told.{told}
use Rattle.vl_sized.specs.Sensed as s
use Rattle.vl_sized.specs.Sensed.{Basis, fixed, varying, Pick, one, span, up, down, Cover, Vector, sensed, whole_settled, basis_of}
use Rattle.vl_sized.proofs.Constants.{same, reads_none, none_left, none_right}

-- that an expression is gone through as it is defined
abbrev pub IsGone : Sight → Expr → Type 0
IsGone g e = sensed g e ≡ told (least (faults g e)) (sense g e)

abbrev pub SelectGone : Sight → Select → Type 0
SelectGone g (index e) = IsGone g e
SelectGone g (part a b) = Unit {0}
SelectGone g (upward b w) = IsGone g b
SelectGone g (downward b w) = IsGone g b

abbrev pub SelectsGone : Sight → Selects → Type 0
SelectsGone g no_select = Unit {0}
SelectsGone g (more_select p k ks) = SelectGone g k × SelectsGone g ks

-- ---- indices

-- an index of an expression without a fault
record IsBasis (g : Sight) (e : Expr) (b : Basis) : Type 0 where
  is : basis_of (whole_settled g e) (sensed g e) ≡ Some b
  value : (t : Moment) → s.with_value b t ≡ m.whole (m.meaning (in_sight g t) e)
  same : s.is_fixed b ≡ is_constant g e
  still : is_constant g e ≡ true → s.when_still b ≡ m.whole (constant_meaning g e)
  reads : s.basis_reads b ≡ r.reads g e

settled_some : (g : Sight) (e : Expr) → is_constant g e ≡ true → faults g e ≡ [] → whole_settled g e ≡ Some (m.whole (constant_meaning g e))
settled_some g e h k = λ i. settled (h i) (k i) (m.whole (constant_meaning g e))

settled_none : (g : Sight) (e : Expr) → is_constant g e ≡ false → whole_settled g e ≡ None
settled_none g e h = λ i. settled (h i) (faults g e) (m.whole (constant_meaning g e))

gone_sense : (g : Sight) (e : Expr) → IsGone g e → faults g e ≡ [] → sensed g e ≡ Ok (sense g e)
gone_sense g e l k = l ∙ ap (λ fs. told (least fs) (sense g e)) k

basis_by : (g : Sight) (e : Expr) (x : Bool) → is_constant g e ≡ x → IsGone g e → faults g e ≡ [] → (b : Basis) × IsBasis g e b
basis_by g e true h l k = (
  fixed (m.whole (constant_meaning g e)),
  record {
    is = ap (λ o. basis_of o (sensed g e)) (settled_some g e h k);
    value = λ t. sym (ap m.whole (same g t e h));
    same = sym h;
    still = λ j. refl;
    reads = sym (reads_none g e h k);
  },
)
basis_by g e false h l k = (
  varying (sense g e),
  record {
    is = λ i. basis_of (settled_none g e h i) (gone_sense g e l k i);
    value = λ t. refl;
    same = sym h;
    still = λ j. absurd cc;
    reads = refl;
  },
)

basis_for : (g : Sight) (e : Expr) → IsGone g e → faults g e ≡ [] → (b : Basis) × IsBasis g e b
basis_for g e l k = basis_by g e (is_constant g e) refl l k

-- ---- what is needed

needed_constant : (x : Bool) (p : Place) (fs : List Found) → f.needed x p fs ≡ [] → x ≡ true
needed_constant true p fs h = refl
needed_constant false p [] h = absurd cc
needed_constant false p (g ∷ fs) h = absurd cc

needed_sound : (x : Bool) (p : Place) (fs : List Found) → f.needed x p fs ≡ [] → fs ≡ []
needed_sound x p fs h = none_left fs _ h

pub needed_settled : (g : Sight) (e : Expr) → f.needed (is_constant g e) (f.start e) (faults g e) ≡ []
    → whole_settled g e ≡ Some (m.whole (constant_meaning g e))
needed_settled g e h =
    settled_some g e (needed_constant (is_constant g e) (f.start e) (faults g e) h) (needed_sound (is_constant g e) (f.start e) (faults g e) h)

pub needed_same : (g : Sight) (t : Moment) (e : Expr) → f.needed (is_constant g e) (f.start e) (faults g e) ≡ []
    → m.meaning (in_sight g t) e ≡ constant_meaning g e
needed_same g t e h = same g t e (needed_constant (is_constant g e) (f.start e) (faults g e) h)

-- ---- how many bits

if_found : (x : Bool) (g : Found) → (if x then [] else g ∷ []) ≡ [] → x ≡ true
if_found true g h = refl
if_found false g h = absurd cc

if_no_copy : (x : Bool) (g : Found) (gs : List Found) → (if x then g ∷ [] else gs) ≡ [] → x ≡ false
if_no_copy true g gs h = absurd cc
if_no_copy false g gs h = refl

some_copies : (x : Bool) (g : Found) (gs : List Found) → (if x then g ∷ [] else gs) ≡ [] → gs ≡ []
some_copies true g gs h = absurd cc
some_copies false g gs h = h

if_along : (x : Bool) (g : Found) (gs : List Found) → (if x then gs else g ∷ []) ≡ [] → gs ≡ []
if_along true g gs h = h
if_along false g gs h = absurd cc

-- a number of bits that is no fault
record IsCount (z : ℤ) : Type 0 where
  told : s.bits_told z ≡ Some (unsigned_abs z)
  natural : z ≡ pos (unsigned_abs z)

natural : (z : ℤ) → int_lt z (pos 1) ≡ false → z ≡ pos (unsigned_abs z)
natural (pos n) h = refl
natural (negsuc n) h = absurd cc

count_of : (p : Place) (z : ℤ) → f.copied p [] (Some z) 1 ≡ [] → IsCount z
count_of p z h =
    let low : int_lt z (pos 1) ≡ false = if_no_copy (int_lt z (pos 1)) (at p ZeroReplication) (f.wide p [] (unsigned_abs z * 1)) h in
    let one_each : is_width (unsigned_abs z * 1) ≡ true =
    if_found (is_width (unsigned_abs z * 1)) (at p TooWide) (some_copies (int_lt z (pos 1)) (at p ZeroReplication) (f.wide p [] (unsigned_abs z * 1)) h) in
    let times : unsigned_abs z * 1 ≡ unsigned_abs z = omega arith in
    let width : is_width (unsigned_abs z) ≡ true = ap is_width (sym times) ∙ one_each in
    record {
      told = ap (λ x. if x then None else (if is_width (unsigned_abs z) then Some (unsigned_abs z) else None)) low
          ∙ ap (λ x. if x then Some (unsigned_abs z) else None) width;
      natural = natural z low;
    }

-- ---- selects

-- what selects cover, as they are defined
record Covers (g : Sight) (ks : Selects) (k : Cover) : Type 0 where
  picks : (t : Moment) → k.picks t ≡ m.picked (in_sight g t) ks
  places : (sh : Shape) → r.places sh k.same k.always ≡ r.places sh (c.is_fixed g ks) (m.picked (m.at_rest g) ks)
  reads : k.read ≡ r.select_reads g ks

abbrev pick_at : ℤ → ℕ → List Picked
pick_at z n = record { from = z; count = n } ∷ []

-- places by an index: the same in each moment, or all of the vector
same_places : (sh : Shape) (x y : Bool) (ks js : List Picked) → x ≡ y → (y ≡ true → ks ≡ js) → r.places sh x ks ≡ r.places sh (y && true) js
same_places sh true true ks js h k = ap (r.places sh true) (k refl)
same_places sh true false ks js h k = absurd cc
same_places sh false true ks js h k = absurd cc
same_places sh false false ks js h k = refl

based_covers : (g : Sight) (p : Place) (k : Select) (e : Expr) (b : Basis) (from : ℤ → ℤ) (n : ℕ) → IsBasis g e b
    → ((t : Moment) → m.picked_by (in_sight g t) k ≡ record { from = from (m.whole (m.meaning (in_sight g t) e)); count = n })
    → m.picked_by (m.at_rest g) k ≡ record { from = from (m.whole (constant_meaning g e)); count = n }
    → c.is_fixed_select g k ≡ is_constant g e → r.index_reads g k ≡ r.reads g e
    → Covers g (more_select p k no_select) (s.based b from n)
based_covers g p k e b from n is moves rests fixes reads = record {
  picks = λ t. ap (λ z. pick_at (from z) n) (is.value t) ∙ ap (λ x. x ∷ []) (sym (moves t));
  places = λ sh. same_places sh (s.is_fixed b) (c.is_fixed_select g k) (pick_at (from (s.when_still b)) n) (m.picked_by (m.at_rest g) k ∷ [])
      (is.same ∙ sym fixes) (λ j. ap (λ z. pick_at (from z) n) (is.still (sym fixes ∙ j)) ∙ ap (λ x. x ∷ []) (sym rests));
  reads = is.reads ∙ sym reads ∙ sym (append-nil (r.index_reads g k));
}

select_covers : (g : Sight) (sh : Shape) (p q : Place) (k : Select) → SelectGone g k → f.index_faults g k ≡ []
    → f.covered sh p [] (f.chosen_by g k) ≡ [] → Covers g (more_select q k no_select) (s.cover_by (s.picked g k))
select_covers g sh p q (index e) l h v =
    let found = basis_for g e l h in let b = found.0 in let is = found.1 in
    subst (Covers g (more_select q (index e) no_select)) (sym (ap (λ o. s.cover_by (one o)) is.is))
    (based_covers g q (index e) e b (λ z. z) 1 is (λ t. refl) refl refl refl)
select_covers g sh p q (part a b) l h v =
    let x = m.whole (constant_meaning g a) in let y = m.whole (constant_meaning g b) in
    let needs_a : f.needed (is_constant g a) (f.start a) (faults g a) ≡ [] = none_left (f.needed (is_constant g a) (f.start a) (faults g a)) _ h in
    let needs_b : f.needed (is_constant g b) (f.start b) (faults g b) ≡ [] = none_right (f.needed (is_constant g a) (f.start a) (faults g a)) _ h in
    let ends : (whole_settled g a ≡ Some x) × (whole_settled g b ≡ Some y) = (needed_settled g a needs_a, needed_settled g b needs_b) in
    let n : ℕ = unsigned_abs (x -ℤ y) + 1 in
    let sound : f.covered sh p [] (f.span (Some x) (Some y)) ≡ [] = ap (f.covered sh p []) (λ i. f.span (sym ends.0 i) (sym ends.1 i)) ∙ v in
    let width : is_width n ≡ true = if_found (is_width n) (at p TooWide) (if_along (is_along sh x y) (at p BadSelect) (f.wide p [] n) sound) in
    let bits : s.bits_between x y ≡ Some n = ap (λ w. if w then Some n else None) width in
    subst (Covers g (more_select q (part a b) no_select))
    (sym ((λ i. s.cover_by (span (ends.0 i) (ends.1 i))) ∙ ap (λ o. s.if_bits o (s.spanned x y)) bits))
    (record {
      picks = λ t. λ i. record {
        from = m.lesser (m.whole (sym (needed_same g t a needs_a) i)) (m.whole (sym (needed_same g t b needs_b) i));
        count = unsigned_abs (m.whole (sym (needed_same g t a needs_a) i) -ℤ m.whole (sym (needed_same g t b needs_b) i)) + 1;
      } ∷ [];
      places = λ z. refl;
      reads = refl;
    })
select_covers g sh p q (upward b w) l h v =
    let n = m.whole (constant_meaning g w) in
    let needs : f.needed (is_constant g w) (f.start w) (faults g w) ≡ [] = none_right (faults g b) _ h in
    let settled : whole_settled g w ≡ Some n = needed_settled g w needs in
    let count = count_of p n (ap (λ o. f.copied p [] o 1) (sym settled) ∙ v) in
    let found = basis_for g b l (none_left (faults g b) _ h) in let is = found.1 in
    subst (Covers g (more_select q (upward b w) no_select))
    (sym ((λ i. s.cover_by (up (is.is i) (settled i))) ∙ ap (λ o. s.if_bits o (s.based found.0 (λ z. z))) count.told))
    (based_covers g q (upward b w) b found.0 (λ z. z) (unsigned_abs n) is
    (λ t. λ i. record { from = m.whole (m.meaning (in_sight g t) b); count = unsigned_abs (m.whole (needed_same g t w needs i)) }) refl refl refl)
select_covers g sh p q (downward b w) l h v =
    let n = m.whole (constant_meaning g w) in
    let needs : f.needed (is_constant g w) (f.start w) (faults g w) ≡ [] = none_right (faults g b) _ h in
    let settled : whole_settled g w ≡ Some n = needed_settled g w needs in
    let count = count_of p n (ap (λ o. f.copied p [] o 1) (sym settled) ∙ v) in
    let found = basis_for g b l (none_left (faults g b) _ h) in let is = found.1 in
    let from : ℤ → ℤ = λ z. (z -ℤ pos (unsigned_abs n)) +ℤ pos 1 in
    let down_from : ℤ → ℤ → Picked = λ z k. record { from = (z -ℤ k) +ℤ pos 1; count = unsigned_abs k } in
    subst (Covers g (more_select q (downward b w) no_select))
    (sym ((λ i. s.cover_by (down (is.is i) (settled i))) ∙ ap (λ o. s.if_bits o (λ k. s.based found.0 (λ z. (z -ℤ pos k) +ℤ pos 1) k)) count.told))
    (based_covers g q (downward b w) b found.0 from (unsigned_abs n) is
    (λ t. ap (λ a. down_from (m.whole (m.meaning (in_sight g t) b)) (m.whole a)) (needed_same g t w needs)
    ∙ ap (λ k. record { from = (m.whole (m.meaning (in_sight g t) b) -ℤ k) +ℤ pos 1; count = unsigned_abs n }) count.natural)
    (ap (λ k. record { from = (m.whole (constant_meaning g b) -ℤ k) +ℤ pos 1; count = unsigned_abs n }) count.natural) refl refl)

all_cover : (g : Sight) (sh : Shape) (p : Place) (fs : List Found) (ks : Selects) → SelectsGone g ks → f.select_faults g ks ≡ [] → fs ≡ []
    → f.of_vector sh p fs (f.chosen g ks) ≡ [] → Covers g ks (s.cover (s.all_picked g ks).list)
all_cover g sh p fs no_select l h e v = record { picks = λ t. refl; places = λ z. refl; reads = refl }
all_cover g sh p fs (more_select q k no_select) l h e v =
    select_covers g sh p q k l.0 (none_left (f.index_faults g k) _ h) (ap (λ gs. f.covered sh p gs (f.chosen_by g k)) (sym e) ∙ v)
all_cover g sh p fs (more_select q k (more_select u j ks)) l h e v = absurd cc

-- ---- names

none_found : (a : List Found) (x : Found) → a ++ x ∷ [] ≡ [] → ⊥
none_found [] x h = absurd cc
none_found (y ∷ a) x h = absurd cc

-- a name's sense, as it is defined
abbrev pub name_sense : Sight → Option Thing → Selects → Sense
name_sense g o ks = record {
  means = λ t. m.named (in_sight g t) o (m.picked (in_sight g t) ks);
  read = r.named_reads o (c.is_fixed g ks) (m.picked (m.at_rest g) ks) ++ r.select_reads g ks;
}

object_sense : (g : Sight) (q : Path) (sh : Shape) (ks : Selects) (k : Cover) → Covers g ks k
    → s.covered (s.object q sh) k ≡ record {
      means = λ t. m.selected sh (t.word q 0) (m.picked (in_sight g t) ks);
      read = map (bit q) (r.places sh (c.is_fixed g ks) (m.picked (m.at_rest g) ks)) ++ r.select_reads g ks;
    }
object_sense g q sh ks k is = λ i. record {
  means = λ t. m.selected sh (t.word q 0) (is.picks t i);
  read = map (bit q) (is.places sh i) ++ is.reads i;
}

word_sense : (g : Sight) (q : Path) (sh : Shape) (first last : ℕ) (p : Place) (fs : List Found) (ks : Selects) → SelectsGone g ks
    → f.select_faults g ks ≡ [] → fs ≡ [] → f.of_name (Some (memory q sh first last)) p fs (f.chosen g ks) ≡ []
    → s.named_word q sh first last (s.all_picked g ks).list ≡ name_sense g (Some (memory q sh first last)) ks
word_sense g q sh first last p fs no_select l h e v = absurd cc
word_sense g q sh first last p fs (more_select u (index x) ks) l h e v =
    let found = basis_for g x l.0 (none_left (faults g x) _ h) in let b = found.0 in let is = found.1 in
    let k = s.cover (s.all_picked g ks).list in
    let covers = all_cover g sh p fs ks l.1 (none_right (faults g x) _ h) e v in
    ap (λ o. s.named_word q sh first last (one o ∷ (s.all_picked g ks).list)) is.is
    ∙ (λ i. record {
      means = λ t. m.selected sh (m.word_at (in_sight (λ y. None) t) q (distance first last) (word_place first last (is.value t i))) (covers.picks t i);
      read = words q ∷ (is.reads i ++ covers.reads i);
    })
word_sense g q sh first last p fs (more_select u (part a b) ks) l h e v = absurd cc
word_sense g q sh first last p fs (more_select u (upward a b) ks) l h e v = absurd cc
word_sense g q sh first last p fs (more_select u (downward a b) ks) l h e v = absurd cc

pub name_gone : (g : Sight) (o : Option Thing) (p : Place) (ks : Selects) → SelectsGone g ks
    → f.select_faults g ks ++ f.of_name o p (f.select_faults g ks) (f.chosen g ks) ≡ []
    → s.named o (s.all_picked g ks).list ≡ name_sense g o ks
name_gone g None p ks l h = absurd (none_found (f.select_faults g ks) _ h)
name_gone g (Some (signal q sh)) p ks l h =
    let e : f.select_faults g ks ≡ [] = none_left (f.select_faults g ks) _ h in
    let v = none_right (f.select_faults g ks) _ h in
    object_sense g q sh ks (s.cover (s.all_picked g ks).list) (all_cover g sh p (f.select_faults g ks) ks l e e v)
name_gone g (Some (memory q sh first last)) p ks l h =
    let e : f.select_faults g ks ≡ [] = none_left (f.select_faults g ks) _ h in
    word_sense g q sh first last p (f.select_faults g ks) ks l e e (none_right (f.select_faults g ks) _ h)
name_gone g (Some (constant w x n)) p no_select l h = refl
name_gone g (Some (constant w x n)) p (more_select q k ks) l h = absurd (none_found (f.select_faults g (more_select q k ks)) _ h)
name_gone g (Some (routine true q sh shs)) p ks l h =
    let e : f.select_faults g ks ≡ [] = none_left (f.select_faults g ks) _ h in
    let v = none_right (f.select_faults g ks) _ h in
    object_sense g q sh ks (s.cover (s.all_picked g ks).list) (all_cover g sh p (f.select_faults g ks) ks l e e v)
name_gone g (Some (routine false q sh shs)) p ks l h = absurd (none_found (f.select_faults g ks) _ h)
