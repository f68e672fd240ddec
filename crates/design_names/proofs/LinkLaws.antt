-- Things are linked one after another, from the last to the first.
use Rattle.std.proofs.Common.{◌≡◌, ◌≢◌, ℕ, suc, zero, ◌+◌, ◌-◌, ◌<◌, ◌≤◌, Bool, true, false, List, [], ◌∷◌, length, drop, set, get_or, refl, sym, ap, subst, ◌∙◌, arith, inl, inr, length-set, get_or-set_same, get_or-set_other}
use Rattle.std.specs.Prelude.{Option, Some, None, if◌then◌else◌, ◌==◌, Result, IfOk}
use Rattle.std.specs.List.{All}
use Rattle.std.proofs.lemmas.Bool.{cases_eq, eq-eqb, ne_eqb, eqb-true}
use Rattle.std.proofs.lemmas.List.{drop_more, get_or-drop, drop_all, get_or_default}
use Rattle.std.proofs.lemmas.List.{get_or-replicate, length-replicate}
use Rattle.std.specs.Prelude.{replicate}
use Rattle.netlist.specs.Fits.{IsNoneOrBelow}
use Rattle.design_names.specs.Tree.{is_in}
use Rattle.design_names.specs.Links.{first_in, first_from, first_beside, AreLinked, IsLinked, first_after, next_after}
use Rattle.design_names.specs.declared.links.Links.{Links}

-- ---- one thing more

first_now : (owners : List (Option ℕ)) (k n : ℕ) (o : Option ℕ) → n < length owners → ((d : Option ℕ) → get_or owners n d ≡ o)
    → first_from owners k n ≡ (if is_in k o then Some n else first_from owners k (n + 1))
first_now owners k n o less is =
    ap (first_in k n) (drop_more owners n o less ∙ ap (λ (x : Option ℕ). x ∷ drop (n + 1) owners) (is o))

chosen : (b : Bool) (x y : Option ℕ) → b ≡ true → (if b then x else y) ≡ x
chosen b x y e = ap (λ (c : Bool). if c then x else y) e

passed : (b : Bool) (x y : Option ℕ) → b ≡ false → (if b then x else y) ≡ y
passed b x y e = ap (λ (c : Bool). if c then x else y) e

beside_at : (owners : List (Option ℕ)) (n : ℕ) (a o : Option ℕ) → a ≡ o → first_beside owners (n + 1) o ≡ first_beside owners (n + 1) a
beside_at owners n a o e = ap (first_beside owners (n + 1)) (sym e)

pub linked_more : (owners : List (Option ℕ)) (count n : ℕ) (first next : List (Option ℕ)) (o : Option ℕ) → n < length owners
    → ((d : Option ℕ) → get_or owners n d ≡ o) → IsNoneOrBelow count o → AreLinked owners count (n + 1) first next
    → AreLinked owners count n (first_after first o n) (next_after first next o n)
linked_more owners count n first next None less is below l = record {
  firsts = l.firsts;
  nexts = l.nexts;
  begins = λ k d h. l.begins k d h ∙ sym (first_now owners k n None less is);
  goes_on = λ i d h g. elim (cases_eq i n) [
    | inl e ↦
        let yet : n < n + 1 = omega arith in
        subst (λ (j : ℕ). get_or next j d ≡ first_beside owners (j + 1) (get_or owners j d)) (sym e)
        (l.none_yet n d yet less ∙ beside_at owners n (get_or owners n d) None (is d))
    | inr ne ↦ let later : n + 1 ≤ i = omega (arith, ne) in l.goes_on i d later g
  ];
  none_yet = λ i d h g. let lower : i < n + 1 = omega arith in l.none_yet i d lower g;
}
linked_more owners count n first next (Some p) less is below l = let low : p < count = below p refl in record {
  firsts = length-set first p (Some n) ∙ l.firsts;
  nexts = length-set next n (get_or first p None) ∙ l.nexts;
  begins = λ k d h. elim (cases_eq k p) [
    | inl e ↦
        let there : p < length first = omega (arith, l.firsts, low) in
        let same : (p == k) ≡ true = eq-eqb p k (sym e) in
        subst (λ (j : ℕ). get_or (set first p (Some n)) j d ≡ Some n) (sym e) (get_or-set_same first p (Some n) d there)
        ∙ sym (first_now owners k n (Some p) less is ∙ chosen (p == k) (Some n) (first_from owners k (n + 1)) same)
    | inr ne ↦
        let other : (p == k) ≡ false = ne_eqb p k (λ e. ne (sym e)) in
        get_or-set_other first p k (Some n) d ne ∙ l.begins k d h
        ∙ sym (first_now owners k n (Some p) less is ∙ passed (p == k) (Some n) (first_from owners k (n + 1)) other)
  ];
  goes_on = λ i d h g. elim (cases_eq i n) [
    | inl e ↦
        let there : n < length next = omega (arith, l.nexts, less) in
        subst (λ (j : ℕ). get_or (set next n (get_or first p None)) j d ≡ first_beside owners (j + 1) (get_or owners j d)) (sym e)
        (get_or-set_same next n (get_or first p None) d there ∙ l.begins p None low
        ∙ beside_at owners n (get_or owners n d) (Some p) (is d))
    | inr ne ↦
        let later : n + 1 ≤ i = omega (arith, ne) in
        get_or-set_other next n i (get_or first p None) d ne ∙ l.goes_on i d later g
  ];
  none_yet = λ i d h g.
      let lower : i < n + 1 = omega arith in
      let ne : i ≢ n = omega arith in
      get_or-set_other next n i (get_or first p None) d ne ∙ l.none_yet i d lower g;
}

-- ---- none yet

pub none_linked : (owners : List (Option ℕ)) (count n : ℕ) → n ≡ length owners
    → AreLinked owners count n (replicate count None) (replicate n None)
none_linked owners count n e = record {
  firsts = length-replicate count None;
  nexts = length-replicate n None ∙ e;
  begins = λ k d h.
      let all : length owners ≤ n = omega (arith, e) in
      get_or-replicate count k None d h ∙ sym (ap (first_in k n) (drop_all n owners all));
  goes_on = λ i d h g. absurd (omega (arith, e, h, g));
  none_yet = λ i d h g. get_or-replicate n i None d h;
}

-- ---- what the first is

owner_is : (k : ℕ) (o : Option ℕ) → is_in k o ≡ true → o ≡ Some k
owner_is k None e = absurd cc
owner_is k (Some p) e = ap (λ (x : ℕ). Some x) (eqb-true p k e)

-- the first that is found stands in the owner
pub record IsFound (owners : List (Option ℕ)) (k n i : ℕ) : Type 0 where
  pub place : ℕ
  pub number : i ≡ n + place
  pub there : place < length owners
  pub owner : (z : Option ℕ) → get_or owners place z ≡ Some k

found_by : (b : Bool) (k n i : ℕ) (o : Option ℕ) (os : List (Option ℕ)) → is_in k o ≡ b
    → (if b then Some n else first_in k (n + 1) os) ≡ Some i → (first_in k (n + 1) os ≡ Some i → IsFound os k (n + 1) i)
    → IsFound (o ∷ os) k n i
found_by true k n i o os test e more =
    let same : n ≡ i = cc in
    record { place = 0; number = omega (arith, same); there = omega arith; owner = λ z. owner_is k o test }
found_by false k n i o os test e more =
    let f = more e in
    record { place = suc f.place; number = omega (arith, f.number); there = omega (arith, f.there); owner = f.owner }

pub found : (k n i : ℕ) (owners : List (Option ℕ)) → first_in k n owners ≡ Some i → IsFound owners k n i
found k n i [] e = absurd cc
found k n i (o ∷ os) e = found_by (is_in k o) k n i o os refl e (λ h. found k (n + 1) i os h)

-- the first from j on is a thing that is there, from j on, and stands in the owner
pub record IsFirst (owners : List (Option ℕ)) (k j i : ℕ) : Type 0 where
  pub late : j ≤ i
  pub there : i < length owners
  pub owner : (z : Option ℕ) → get_or owners i z ≡ Some k

drop_short : (j d : ℕ) (owners : List (Option ℕ)) → d < length (drop j owners) → j + d < length owners
drop_short zero d owners h = omega arith
drop_short (suc j) d [] h = absurd (omega arith)
drop_short (suc j) d (o ∷ os) h = let k : j + d < length os = drop_short j d os h in omega arith

pub is_first : (owners : List (Option ℕ)) (k j i : ℕ) → first_from owners k j ≡ Some i → IsFirst owners k j i
is_first owners k j i e =
    let f = found k j i (drop j owners) e in
    record {
      late = omega (arith, f.number);
      there = let h : j + f.place < length owners = drop_short j f.place owners f.there in omega (arith, h, f.number);
      owner = λ z. ap (λ (n : ℕ). get_or owners n z) f.number ∙ sym (get_or-drop j owners f.place z) ∙ f.owner z;
    }

-- ---- things that don't stand in the owner are passed over

skip_by : (b : Bool) (k n m : ℕ) (os : List (Option ℕ)) (x : Option ℕ) → b ≡ false → x ≡ first_in k (n + suc m) (drop m os)
    → (if b then Some n else x) ≡ first_in k (n + suc m) (drop m os)
skip_by true k n m os x test e = absurd cc
skip_by false k n m os x test e = e

not_in : (k : ℕ) (o : Option ℕ) → (o ≡ Some k → ⊥) → is_in k o ≡ false
not_in k None ne = refl
not_in k (Some p) ne = ne_eqb p k (λ e. ne (ap (λ (x : ℕ). Some x) e))

pub first_after_none : (m k n : ℕ) (owners : List (Option ℕ))
    → ((i : ℕ) → i < m → i < length owners → get_or owners i None ≡ Some k → ⊥)
    → first_in k n owners ≡ first_in k (n + m) (drop m owners)
first_after_none zero k n owners none = let e : n ≡ n + 0 = omega arith in ap (λ (x : ℕ). first_in k x owners) e
first_after_none (suc m) k n [] none = refl
first_after_none (suc m) k n (o ∷ os) none =
    let z : 0 < suc m = omega arith in
    let y : 0 < length (o ∷ os) = omega arith in
    let step : n + 1 + m ≡ n + suc m = omega arith in
    skip_by (is_in k o) k n m os (first_in k (n + 1) os) (not_in k o (none 0 z y))
    (first_after_none m k (n + 1) os (λ i h g. none (suc i) (omega arith) (omega arith))
    ∙ ap (λ (x : ℕ). first_in k x (drop m os)) step)

-- lists that are the same
pub linked_as : {E : Type 0} (result : Result Links E) (os ps : List (Option ℕ)) (n m : ℕ) → os ≡ ps → n ≡ m
    → IfOk result (IsLinked os n) → IfOk result (IsLinked ps m)
linked_as {E} result os ps n m p q h =
    subst (λ (xs : List (Option ℕ)). IfOk result (IsLinked xs m)) p
    (subst (λ (k : ℕ). IfOk result (IsLinked os k)) q h)

-- the loop from the last thing to the first
pub record Linking (owners : List (Option ℕ)) (count left : ℕ) (first next : List (Option ℕ)) : Type 0 where
  pub within : left ≤ length owners
  pub linked : AreLinked owners count left first next

pub linked_step : (owners : List (Option ℕ)) (count left : ℕ) (first next now after : List (Option ℕ)) → 0 < left
    → left ≤ length owners → All (IsNoneOrBelow count) owners
    → now ≡ first_after first (get_or owners (left - 1) None) (left - 1)
    → after ≡ next_after first next (get_or owners (left - 1) None) (left - 1)
    → AreLinked owners count left first next → Linking owners count (left - 1) now after
linked_step owners count left first next now after some within below a b l =
    let n : ℕ = left - 1 in
    let o : Option ℕ = get_or owners n None in
    let less : n < length owners = omega arith in
    let one : left ≡ n + 1 = omega arith in
    let before : AreLinked owners count (n + 1) first next =
    subst (λ (k : ℕ). AreLinked owners count k first next) one l in
    let done : AreLinked owners count n (first_after first o n) (next_after first next o n) =
    linked_more owners count n first next o less (λ d. get_or_default owners n d None less) (below n None less) before in
    record {
      within = omega arith;
      linked = subst (λ (xs : List (Option ℕ)). AreLinked owners count n xs after) (sym a)
          (subst (λ (xs : List (Option ℕ)). AreLinked owners count n (first_after first o n) xs) (sym b) done);
    }
