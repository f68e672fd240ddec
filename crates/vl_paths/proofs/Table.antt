-- Tables of paths: none but the top's, and one more.
use Rattle.std.proofs.Common.{◌≡◌, ℕ, zero, suc, ◌+◌, ◌<◌, ◌≤◌, Bool, true, false, List, [], ◌∷◌, ◌++◌, append-nil, length, get_or, Some, arith, refl, sym, ap, subst, ◌∙◌, inl, inr}
use Rattle.std.specs.Prelude.{slice_get, cond}
use Rattle.std.specs.List.{list_any}
use Rattle.std.proofs.lemmas.Bool.{cases_lt, cases_Bool, or_right, or_left}
use Rattle.std.proofs.lemmas.List.{get_or_append_left, get_or_push, length_push, same_from_push}
use Rattle.std.proofs.lemmas.Option.{get_or_from_slice_get}
use Rattle.indexmap.specs.IndexSet.{insert_key}
use Rattle.vl_value.specs.Paths.{Path}
use Rattle.vl_paths.specs.declared.key.LastStep.{LastStep}
use Rattle.vl_paths.specs.declared.key.LastStep.TheVariants as l
use Rattle.vl_paths.specs.declared.key.Key.{Key}
use Rattle.vl_paths.specs.declared.key.Key.TheVariants.{Top, Below}
use Rattle.vl_paths.specs.Keys.{plain_last, path_by, GoesOnFromLower, Describes, AreKeysOf, IsNumberOf, Keeps, GoesOn}
use Rattle.vl_paths.proofs.Deciding.{same_key, same_key-decides}

-- ---- the top's alone

top_described : (m : ℕ) → m < 1 → Describes ([] ∷ []) m (get_or (Top ∷ []) m Top) (get_or ([] ∷ []) m [])
top_described zero b = (tt, refl)
top_described (suc m) b = absurd (omega arith)

pub top_alone : AreKeysOf (Top ∷ []) ([] ∷ [])
top_alone = record {
  count = refl;
  top = (omega arith, refl);
  each = top_described;
  apart = λ m n a b e. omega arith;
}

-- ---- one more

-- an element that passes is there
pub any_at : {A : Type 0} (p : A → Bool) (xs : List A) (m : ℕ) (d : A) → m < length xs → p (get_or xs m d) ≡ true → list_any p xs ≡ true
any_at p [] m d b h = absurd (omega arith)
any_at p (x ∷ xs) zero d b h = or_left (p x) (list_any p xs) h
any_at p (x ∷ xs) (suc m) d b h = or_right (p x) (list_any p xs) (any_at p xs m d (omega arith) h)

one_step : (a b : LastStep) → plain_last a ≡ plain_last b → a ≡ b
one_step (l.Named x) (l.Named y) e = cc
one_step (l.Named x) (l.Turn y b) e = cc
one_step (l.Named x) (l.Unnamed m b) e = cc
one_step (l.Turn x a) (l.Named y) e = cc
one_step (l.Turn x a) (l.Turn y b) e = cc
one_step (l.Turn x a) (l.Unnamed m b) e = cc
one_step (l.Unnamed n a) (l.Named y) e = cc
one_step (l.Unnamed n a) (l.Turn y b) e = cc
one_step (l.Unnamed n a) (l.Unnamed m b) e = cc

-- a path tells its key
pub one_key : (ks : List Key) (ps : List Path) (k : Key) (m b : ℕ) (st : LastStep) → AreKeysOf ks ps → m < length ps → b < length ps
    → GoesOnFromLower m k → path_by ps k ≡ get_or ps b [] ++ plain_last st ∷ [] → k ≡ Below b st
one_key ks ps Top m b st t below within low e =
    let n : 0 ≡ length (get_or ps b []) + 1 = ap length e ∙ length_push (get_or ps b []) (plain_last st) in absurd (omega arith)
one_key ks ps (Below c s) m b st t below within low e =
    let h = same_from_push (get_or ps c []) (get_or ps b []) (plain_last s) (plain_last st) e in
    let one : c ≡ b = t.apart c b (omega arith) within h.0 in
    let last : s ≡ st = one_step s st h.1 in
    λ i. Below (one i) (last i)

-- the key of a path that goes on from that of a number
pub key_at : (ks : List Key) (ps : List Path) (m b : ℕ) (st : LastStep) → AreKeysOf ks ps → m < length ps → b < length ps
    → get_or ps m [] ≡ get_or ps b [] ++ plain_last st ∷ [] → get_or ks m Top ≡ Below b st
key_at ks ps m b st t below within e =
    let h = t.each m (omega (arith, t.count)) in
    one_key ks ps (get_or ks m Top) m b st t below within h.0 (sym h.1 ∙ e)

-- which then is among the keys
pub key_found : (ks : List Key) (ps : List Path) (m b : ℕ) (st : LastStep) → AreKeysOf ks ps → m < length ps → b < length ps
    → get_or ps m [] ≡ get_or ps b [] ++ plain_last st ∷ [] → list_any (same_key (Below b st)) ks ≡ true
key_found ks ps m b st t below within e =
    any_at (same_key (Below b st)) ks m Top (omega (arith, t.count))
    ((same_key-decides (Below b st) (get_or ks m Top)).1 (sym (key_at ks ps m b st t below within e)))

-- the path of a key
pub path_at_key : (ks : List Key) (ps : List Path) (m b : ℕ) (st : LastStep) → AreKeysOf ks ps → m < length ks
    → same_key (Below b st) (get_or ks m Top) ≡ true → IsNumberOf ps (get_or ps b [] ++ plain_last st ∷ []) m
path_at_key ks ps m b st t below e =
    (omega (arith, t.count), (t.each m below).1 ∙ ap (path_by ps) (sym ((same_key-decides (Below b st) (get_or ks m Top)).0 e)))

described_at : (ps : List Path) (m : ℕ) (k j : Key) (p q : Path) → k ≡ j → p ≡ q → Describes ps m j q → Describes ps m k p
described_at ps m k j p q e f h = subst (λ y. Describes ps m k y) (sym f) (subst (λ x. Describes ps m x q) (sym e) h)

-- by more paths
described_more : (ps qs : List Path) (m : ℕ) (k : Key) (p : Path) → m ≤ length ps → Describes ps m k p → Describes (ps ++ qs) m k p
described_more ps qs m Top p within h = h
described_more ps qs m (Below b st) p within h =
    let low : b < m = h.0 in
    (h.0, h.1 ∙ ap (λ y. y ++ plain_last st ∷ []) (sym (get_or_append_left ps qs [] b (omega arith))))

module _ (ks : List Key) (ps : List Path) (b : ℕ) (st : LastStep) (t : AreKeysOf ks ps) (within : b < length ps) where
  abbrev path : Path
  path = get_or ps b [] ++ plain_last st ∷ []

  each_more : (m : ℕ) → m < length (ks ++ Below b st ∷ [])
      → Describes (ps ++ path ∷ []) m (get_or (ks ++ Below b st ∷ []) m Top) (get_or (ps ++ path ∷ []) m [])
  each_more m below = elim (cases_lt m (length ks)) [
    | inl less ↦ described_at (ps ++ path ∷ []) m _ (get_or ks m Top) _ (get_or ps m [])
        (get_or_append_left ks (Below b st ∷ []) Top m less)
        (get_or_append_left ps (path ∷ []) [] m (omega (arith, t.count)))
        (described_more ps (path ∷ []) m (get_or ks m Top) (get_or ps m []) (omega (arith, t.count)) (t.each m less))
    | inr more ↦
        let at : length ks ≡ m = omega (arith, length_push ks (Below b st)) in
        described_at (ps ++ path ∷ []) m _ (Below b st) _ path
        (get_or_push ks (Below b st) Top m at)
        (get_or_push ps path [] m (t.count ∙ at))
        (omega (arith, t.count), ap (λ y. y ++ plain_last st ∷ []) (sym (get_or_append_left ps (path ∷ []) [] b within)))
  ]

  kept : Keeps ps (ps ++ path ∷ [])
  kept m p h = (omega (arith, h.0, length_push ps path), get_or_append_left ps (path ∷ []) [] m h.0 ∙ h.1)

  module _ (new : list_any (same_key (Below b st)) ks ≡ false) where
    fresh : (m : ℕ) → m < length ps → get_or ps m [] ≡ path → ⊥
    fresh m below e = let yes : true ≡ false = sym (key_found ks ps m b st t below within e) ∙ new in cc

    apart_more : (m n : ℕ) → m < length (ps ++ path ∷ []) → n < length (ps ++ path ∷ [])
        → get_or (ps ++ path ∷ []) m [] ≡ get_or (ps ++ path ∷ []) n [] → m ≡ n
    apart_more m n x y e =
        let most : length (ps ++ path ∷ []) ≡ length ps + 1 = length_push ps path in
        elim (cases_lt m (length ps)) [
          | inl k ↦ elim (cases_lt n (length ps)) [
            | inl j ↦ t.apart m n k j (sym (get_or_append_left ps (path ∷ []) [] m k) ∙ e ∙ get_or_append_left ps (path ∷ []) [] n j)
            | inr j ↦ absurd (fresh m k (sym (get_or_append_left ps (path ∷ []) [] m k) ∙ e ∙ get_or_push ps path [] n (omega arith)))
          ]
          | inr k ↦ elim (cases_lt n (length ps)) [
            | inl j ↦ absurd (fresh n j (sym (get_or_append_left ps (path ∷ []) [] n j) ∙ sym e ∙ get_or_push ps path [] m (omega arith)))
            | inr j ↦ omega arith
          ]
        ]

    one_more : AreKeysOf (ks ++ Below b st ∷ []) (ps ++ path ∷ [])
    one_more = record {
      count = length_push ps path ∙ ap (λ n. n + 1) t.count ∙ sym (length_push ks (Below b st));
      top = kept 0 [] t.top;
      each = each_more;
      apart = apart_more;
    }

-- a key that is inserted, and the number that it has then
pub inserted : (old new : List Key) (ps : List Path) (b : ℕ) (st : LastStep) (r : ℕ) (k : Key)
    → AreKeysOf old ps → b < length ps → new ≡ insert_key same_key old (Below b st)
    → r < length new → slice_get new r ≡ Some k → same_key (Below b st) k ≡ true
    → (qs : List Path) × AreKeysOf new qs × Keeps ps qs × IsNumberOf qs (get_or ps b [] ++ plain_last st ∷ []) r
inserted old new ps b st r k t within e below at same =
    let found : same_key (Below b st) (get_or new r Top) ≡ true = ap (same_key (Below b st)) (get_or_from_slice_get new r k Top at) ∙ same in
    elim (cases_Bool (list_any (same_key (Below b st)) old)) [
      | inl there ↦
          let stays : new ≡ old = e ∙ ap (λ c. cond c old (old ++ Below b st ∷ [])) there in
          let t2 : AreKeysOf new ps = subst (λ ks. AreKeysOf ks ps) (sym stays) t in
          (ps, t2, (λ m p h. h), path_at_key new ps r b st t2 below found)
      | inr fresh ↦
          let more : new ≡ old ++ Below b st ∷ [] = e ∙ ap (λ c. cond c old (old ++ Below b st ∷ [])) fresh in
          let qs : List Path = ps ++ (get_or ps b [] ++ plain_last st ∷ []) ∷ [] in
          let t2 : AreKeysOf new qs = subst (λ ks. AreKeysOf ks qs) (sym more) (one_more old ps b st t within fresh) in
          let own = path_at_key new qs r b st t2 below found in
          (qs, t2, kept old ps b st t within, (own.0, own.1 ∙ ap (λ y. y ++ plain_last st ∷ []) (get_or_append_left ps _ [] b within)))
    ]

-- no step more
pub stays : (ks : List Key) (b : ℕ) → GoesOn b [] b ks ks
stays ks b ps t within = (ps, t, (λ m p h. h), (within, sym (append-nil (get_or ps b []))))
