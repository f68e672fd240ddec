-- How the answers of two readers make the answer of both, one after the other.
use Rattle.std.proofs.Common.{◌≡◌, ◌≤◌, ℕ, List, [], ◌∷◌, ◌++◌, length, refl, sym, ◌∙◌, ap, subst, append_assoc, append-nil, length-append, arith}
use Rattle.vl_tree.specs.Derives.{Within, Sinks}
use Rattle.vl_read.specs.Reading.{Covers, Took, Stuck, Sunk, Any, Both, BothDepths}

-- ---- depths

module _ {T : Type 0} where
  pub covers_append : (us vs : List T) (ds es : List ℕ) → Covers us ds → Covers vs es → Covers (us ++ vs) (ds ++ es)
  covers_append [] vs [] es p q = q
  covers_append [] vs (d ∷ ds) es p q = absurd p
  covers_append (a ∷ us) vs [] es p q = absurd p
  covers_append (a ∷ us) vs (d ∷ ds) es p q = (p.0, covers_append us vs ds es p.1 q)

-- what is said of the tokens of a beginning and of depths
pub record Front {T : Type 0} (P : List T → List ℕ → Type 0) : Type 0 where
  pub grow : (us : List T) (ds es : List ℕ) → P us ds → P us (ds ++ es)
  pub after : (us vs : List T) (ds es : List ℕ) → Covers us ds → P vs es → P (us ++ vs) (ds ++ es)

module _ {T : Type 0} where
  within_grow : (us : List T) (ds es : List ℕ) → Within us ds → Within us (ds ++ es)
  within_grow [] ds es p = tt
  within_grow (a ∷ us) [] es p = absurd p
  within_grow (a ∷ us) (d ∷ ds) es p = (p.0, within_grow us ds es p.1)

  within_after : (us vs : List T) (ds es : List ℕ) → Covers us ds → Within vs es → Within (us ++ vs) (ds ++ es)
  within_after [] vs [] es p q = q
  within_after [] vs (d ∷ ds) es p q = absurd p
  within_after (a ∷ us) vs [] es p q = absurd p
  within_after (a ∷ us) vs (d ∷ ds) es p q = (p.0, within_after us vs ds es p.1 q)

  pub within_front : Front {T = T} Within
  within_front = record { grow = within_grow; after = within_after }

  sinks_grow : (us : List T) (ds es : List ℕ) → Sinks us ds → Sinks us (ds ++ es)
  sinks_grow [] ds es p = absurd p
  sinks_grow (a ∷ us) [] es p = absurd p
  sinks_grow (a ∷ []) (d ∷ ds) es p = p
  sinks_grow (a ∷ b ∷ us) (d ∷ ds) es p = (p.0, sinks_grow (b ∷ us) ds es p.1)

  sinks_cons : (a : T) (vs : List T) (d : ℕ) (es : List ℕ) → d ≤ 200 → Sinks vs es → Sinks (a ∷ vs) (d ∷ es)
  sinks_cons a [] d es p q = absurd q
  sinks_cons a (b ∷ vs) d es p q = (p, q)

  sinks_after : (us vs : List T) (ds es : List ℕ) → Covers us ds → Sinks vs es → Sinks (us ++ vs) (ds ++ es)
  sinks_after [] vs [] es p q = q
  sinks_after [] vs (d ∷ ds) es p q = absurd p
  sinks_after (a ∷ us) vs [] es p q = absurd p
  sinks_after (a ∷ us) vs (d ∷ ds) es p q = sinks_cons a (us ++ vs) d (ds ++ es) p.0 (sinks_after us vs ds es p.1 q)

  pub sinks_front : Front {T = T} Sinks
  sinks_front = record { grow = sinks_grow; after = sinks_after }

-- what the second may be, so that the first ends before it
pub record Links {T K : Type 0} (E : K → List T → List T → Type 0) (F G F1 G1 : List T → Type 0) : Type 0 where
  pub some : (z : List T) → F z → (u : K) × (a : List T) × E u a z × F1 a
  pub empty : (u : K) (z : List T) → E u z z → F z → F1 z
  pub starts : (u : K) (a z : List T) → E u a z → G z → G1 a

-- ---- one reader

module _ {T N : Type 0} (D : N → List T → List T → Type 0) (M : N → List ℕ) (F G : List T → Type 0) where
  pub kept_on : (t : N) (ts m : List T) (p : Took D M F G t ts m) (used : List T) (a : T) (after y : List T) → m ≡ used ++ a ∷ after
      → D t (p.used ++ (used ++ a ∷ y)) (used ++ a ∷ y)
  kept_on t ts m p [] a after y e = p.kept a after e y
  kept_on t ts m p (b ∷ bs) a after y e = p.kept b (bs ++ a ∷ after) e (bs ++ a ∷ y)

  pub any_on : (t : N) (ts m : List T) (p : Took D M F G t ts m) (used rest z : List T) → m ≡ used ++ rest → (used ≡ [] → F z)
      → D t (p.used ++ (used ++ z)) (used ++ z)
  any_on t ts m p [] rest z e f = p.any z (f refl)
  any_on t ts m p (b ∷ bs) rest z e f = p.kept b (bs ++ rest) e (bs ++ z)

  -- the same, where the tokens after the place aren't none
  pub forced_some : (t : N) (ts m : List T) (p : Took D M F G t ts m) (used rest y : List T) → m ≡ used ++ rest → 1 ≤ length used
      → (t' : N) (z : List T) → D t' (p.used ++ (used ++ y)) z → G z → (t' ≡ t) × (z ≡ used ++ y)
  forced_some t ts m p [] rest y e s t' z d g = absurd (omega (arith, s))
  forced_some t ts m p (b ∷ bs) rest y e s t' z d g = p.forced b (bs ++ rest) e t' (bs ++ y) z d g

  pub forced_on : (t : N) (ts m : List T) (p : Took D M F G t ts m) (used : List T) (a : T) (after y : List T) → m ≡ used ++ a ∷ after
      → (t' : N) (z : List T) → D t' (p.used ++ (used ++ a ∷ y)) z → G z → (t' ≡ t) × (z ≡ used ++ a ∷ y)
  forced_on t ts m p [] a after y e t' z d g = p.forced a after e t' y z d g
  forced_on t ts m p (b ∷ bs) a after y e t' z d g = p.forced b (bs ++ a ∷ after) e t' (bs ++ a ∷ y) z d g

  pub ended_on : (t : N) (ts m : List T) (p : Took D M F G t ts m) (used rest : List T) → m ≡ used ++ rest → (t' : N) (z : List T)
      → D t' (p.used ++ used) z → G z → (t' ≡ t) × (z ≡ used)
  ended_on t ts m p [] rest e t' z d g = p.ended t' z (subst (λ x. D t' x z) (append-nil p.used) d) g
  ended_on t ts m p (b ∷ bs) rest e t' z d g = p.forced b (bs ++ rest) e t' bs z d g

-- ---- from conditions to stronger ones

module _ {T N : Type 0} (D : N → List T → List T → Type 0) (M : N → List ℕ) (F G F1 G1 : List T → Type 0) (f1 : (z : List T) → F1 z → F z) (g1 : (z : List T) → G1 z → G z) where
  pub took_less : (t : N) (ts rest : List T) → Took D M F G t ts rest → Took D M F1 G1 t ts rest
  took_less t ts rest p = record {
    used = p.used;
    whole = p.whole;
    here = p.here;
    any = λ z f. p.any z (f1 z f);
    kept = p.kept;
    forced = λ a after e u y z d g. p.forced a after e u y z d (g1 z g);
    ended = λ u z d g. p.ended u z d (g1 z g);
    deep = p.deep;
  }

  pub stuck_less : (ts : List T) (left : ℕ) → Stuck D M F G ts left → Stuck D M F1 G1 ts left
  stuck_less ts left s = record {
    used = s.used;
    rest = s.rest;
    whole = s.whole;
    place = s.place;
    viable = λ z f. s.viable z (f1 z f);
    bad = λ a after e u y z d g. s.bad a after e u y z d (g1 z g);
    short = λ u z d g. s.short u z d (g1 z g);
  }

  pub sunk_less : (ts : List T) (left : ℕ) → Sunk D M F G ts left → Sunk D M F1 G1 ts left
  sunk_less ts left s = record {
    used = s.used;
    rest = s.rest;
    whole = s.whole;
    place = s.place;
    some = s.some;
    viable = λ z f. s.viable z (f1 z f);
    each = λ t y z d g. s.each t y z d (g1 z g);
  }

-- ---- the same trees by other names

module _ {T N K : Type 0} (D : N → List T → List T → Type 0) (M : N → List ℕ) (E : K → List T → List T → Type 0) (L : K → List ℕ) (F G : List T → Type 0) (make : N → K)
    (depths : (x : N) → L (make x) ≡ M x)
    (into : (x : N) (us z : List T) → D x us z → E (make x) us z) (out : (u : K) (us z : List T) → E u us z → G z → (x : N) × D x us z × (u ≡ make x)) where
  pub took_as : (t : N) (ts rest : List T) → Took D M F G t ts rest → Took E L F G (make t) ts rest
  took_as t ts rest p = record {
    used = p.used;
    whole = p.whole;
    here = into t ts rest p.here;
    any = λ z f. into t (p.used ++ z) z (p.any z f);
    kept = λ a after e y. into t (p.used ++ a ∷ y) (a ∷ y) (p.kept a after e y);
    forced = λ a after e u y z d g. let o = out u (p.used ++ a ∷ y) z d g in let h = p.forced a after e o.0 y z o.1 g in (o.2 ∙ ap make h.0, h.1);
    ended = λ u z d g. let o = out u p.used z d g in let h = p.ended o.0 z o.1 g in (o.2 ∙ ap make h.0, h.1);
    deep = subst (Covers p.used) (sym (depths t)) p.deep;
  }

  pub stuck_as : (ts : List T) (left : ℕ) → Stuck D M F G ts left → Stuck E L F G ts left
  stuck_as ts left s = record {
    used = s.used;
    rest = s.rest;
    whole = s.whole;
    place = s.place;
    viable = λ z f. let v = s.viable z f in (make v.0, v.1, into v.0 (s.used ++ v.1) z v.2, subst (Within s.used) (sym (depths v.0)) v.3);
    bad = λ a after e u y z d g. let o = out u (s.used ++ a ∷ y) z d g in s.bad a after e o.0 y z o.1 g;
    short = λ u z d g. let o = out u s.used z d g in s.short o.0 z o.1 g;
  }

  pub sunk_as : (ts : List T) (left : ℕ) → Sunk D M F G ts left → Sunk E L F G ts left
  sunk_as ts left s = record {
    used = s.used;
    rest = s.rest;
    whole = s.whole;
    place = s.place;
    some = s.some;
    viable = λ z f. let v = s.viable z f in (make v.0, v.1, into v.0 (s.used ++ v.1) z v.2, subst (Sinks s.used) (sym (depths v.0)) v.3);
    each = λ u y z d g. let o = out u (s.used ++ y) z d g in subst (Sinks s.used) (sym (ap L o.2 ∙ depths o.0)) (s.each o.0 y z o.1 g);
  }

-- ---- after a token that is known, at this depth

module _ {T N K : Type 0} (D : N → List T → List T → Type 0) (M : N → List ℕ) (E : K → List T → List T → Type 0) (L : K → List ℕ) (F G : List T → Type 0) (make : N → K)
    (a : T) (d : ℕ) (low : d ≤ 200) (depths : (x : N) → L (make x) ≡ d ∷ M x)
    (into : (x : N) (us z : List T) → D x us z → E (make x) (a ∷ us) z) (out : (u : K) (us z : List T) → E u (a ∷ us) z → G z → (x : N) × D x us z × (u ≡ make x)) where
  pub took_after : (t : N) (ts after rest : List T) → ts ≡ a ∷ after → Took D M F G t after rest → Took E L F G (make t) ts rest
  took_after t ts after rest h p = record {
    used = a ∷ p.used;
    whole = h ∙ ap (λ x. a ∷ x) p.whole;
    here = subst (λ x. E (make t) x rest) (sym h) (into t after rest p.here);
    any = λ z f. into t (p.used ++ z) z (p.any z f);
    kept = λ b more e y. into t (p.used ++ b ∷ y) (b ∷ y) (p.kept b more e y);
    forced = λ b more e u y z c g. let o = out u (p.used ++ b ∷ y) z c g in let w = p.forced b more e o.0 y z o.1 g in (o.2 ∙ ap make w.0, w.1);
    ended = λ u z c g. let o = out u p.used z c g in let w = p.ended o.0 z o.1 g in (o.2 ∙ ap make w.0, w.1);
    deep = subst (Covers (a ∷ p.used)) (sym (depths t)) (low, p.deep);
  }

  pub stuck_after : (ts after : List T) → ts ≡ a ∷ after → (left : ℕ) → Stuck D M F G after left → Stuck E L F G ts left
  stuck_after ts after h left s = record {
    used = a ∷ s.used;
    rest = s.rest;
    whole = h ∙ ap (λ x. a ∷ x) s.whole;
    place = s.place;
    viable = λ z f. let v = s.viable z f in (make v.0, v.1, into v.0 (s.used ++ v.1) z v.2, subst (Within (a ∷ s.used)) (sym (depths v.0)) (low, v.3));
    bad = λ b more e u y z c g. let o = out u (s.used ++ b ∷ y) z c g in s.bad b more e o.0 y z o.1 g;
    short = λ u z c g. let o = out u s.used z c g in s.short o.0 z o.1 g;
  }

  pub sunk_after : (ts after : List T) → ts ≡ a ∷ after → (left : ℕ) → Sunk D M F G after left → Sunk E L F G ts left
  sunk_after ts after h left s = record {
    used = a ∷ s.used;
    rest = s.rest;
    whole = h ∙ ap (λ x. a ∷ x) s.whole;
    place = s.place;
    some = omega arith;
    viable = λ z f. let v = s.viable z f in (make v.0, v.1, into v.0 (s.used ++ v.1) z v.2, subst (Sinks (a ∷ s.used)) (sym (depths v.0)) (sinks_cons a s.used d (M v.0) low v.3));
    each = λ u y z c g.
        let o = out u (s.used ++ y) z c g in
        subst (Sinks (a ∷ s.used)) (sym (ap L o.2 ∙ depths o.0)) (sinks_cons a s.used d (M o.0) low (s.each o.0 y z o.1 g));
  }

-- ---- two readers in a row

module _ {T N K : Type 0} (D : N → List T → List T → Type 0) (M : N → List ℕ) (E : K → List T → List T → Type 0) (L : K → List ℕ) (F G F1 G1 : List T → Type 0) (l : Links E F G F1 G1) where
  pub took_both : (t : N) (u : K) (ts m rest : List T) → Took D M F1 G1 t ts m → Took E L F G u m rest → Took (Both D E) (BothDepths M L) F G (t, u) ts rest
  took_both t u ts m rest p q = record {
    used = p.used ++ q.used;
    whole = p.whole ∙ ap (λ x. p.used ++ x) q.whole ∙ sym (append_assoc p.used q.used rest);
    here = (m, p.here, q.here);
    any = λ z f. (q.used ++ z, rw append_assoc (any_on D M F1 G1 t ts m p q.used rest z q.whole (λ e. l.empty u z (subst (λ x. E u (x ++ z) z) e (q.any z f)) f)), q.any z f);
    kept = λ a after e y. (q.used ++ a ∷ y, rw append_assoc (kept_on D M F1 G1 t ts m p q.used a after y (q.whole ∙ ap (λ x. q.used ++ x) e)), q.kept a after e y);
    forced = λ a after e x y z d h.
        let c : D x.0 (p.used ++ (q.used ++ a ∷ y)) d.0 = rw append_assoc at d.1 in
        let g = forced_on D M F1 G1 t ts m p q.used a after y (q.whole ∙ ap (λ x. q.used ++ x) e) x.0 d.0 c (l.starts x.1 d.0 z d.2 h) in
        let r = q.forced a after e x.1 y z (subst (λ k. E x.1 k z) g.1 d.2) h in
        ((λ i. (g.0 i, r.0 i)), r.1);
    ended = λ x z d h.
        let g = ended_on D M F1 G1 t ts m p q.used rest q.whole x.0 d.0 d.1 (l.starts x.1 d.0 z d.2 h) in
        let r = q.ended x.1 z (subst (λ k. E x.1 k z) g.1 d.2) h in
        ((λ i. (g.0 i, r.0 i)), r.1);
    deep = covers_append p.used q.used (M t) (L u) p.deep q.deep;
  }

  -- what the first's beginning, or the first with the second's, goes on with
  module _ (P : List T → List ℕ → Type 0) (front : Front P) where
    pub viable_first : (used : List T) → ((z : List T) → F1 z → (t : N) × (y : List T) × D t (used ++ y) z × P used (M t))
        → (z : List T) → F z → (x : N × K) × (y : List T) × Both D E x (used ++ y) z × P used (BothDepths M L x)
    viable_first used v z f = let o = l.some z f in let w = v o.1 o.3 in ((w.0, o.0), w.1, (o.1, w.2, o.2), front.grow used (M w.0) (L o.0) w.3)

    -- the second's beginning is not empty, or it goes on as any second does
    goes_on : (t : N) (ts m : List T) (p : Took D M F1 G1 t ts m) (used rest : List T) → m ≡ used ++ rest
        → ((z : List T) → F z → (u : K) × (y : List T) × E u (used ++ y) z × P used (L u)) → ((z : List T) → F z → (u : K) × (a : List T) × E u a z × F1 a × P [] (L u)) → (z : List T) → F z
        → (u : K) × (y : List T) × E u (used ++ y) z × P used (L u) × D t (p.used ++ (used ++ y)) (used ++ y)
    goes_on t ts m p [] rest e v w z f = let o = w z f in (o.0, o.1, o.2, o.4, p.any o.1 o.3)
    goes_on t ts m p (b ∷ bs) rest e v w z f = let o = v z f in (o.0, o.1, o.2, o.3, p.kept b (bs ++ rest) e (bs ++ o.1))

    pub viable_second : (t : N) (ts m : List T) (p : Took D M F1 G1 t ts m) (used rest : List T) → m ≡ used ++ rest
        → ((z : List T) → F z → (u : K) × (y : List T) × E u (used ++ y) z × P used (L u)) → ((z : List T) → F z → (u : K) × (a : List T) × E u a z × F1 a × P [] (L u)) → (z : List T) → F z
        → (x : N × K) × (y : List T) × Both D E x ((p.used ++ used) ++ y) z × P (p.used ++ used) (BothDepths M L x)
    viable_second t ts m p used rest e v w z f =
        let o = goes_on t ts m p used rest e v w z f in
        ((t, o.0), o.1, (used ++ o.1, rw append_assoc o.4, o.2), front.after p.used used (M t) (L o.0) p.deep o.3)

  pub stuck_first : (ts : List T) (left : ℕ) → Stuck D M F1 G1 ts left → Stuck (Both D E) (BothDepths M L) F G ts left
  stuck_first ts left s = record {
    used = s.used;
    rest = s.rest;
    whole = s.whole;
    place = s.place;
    viable = viable_first Within within_front s.used s.viable;
    bad = λ a after e x y z d h. s.bad a after e x.0 y d.0 d.1 (l.starts x.1 d.0 z d.2 h);
    short = λ x z d h. s.short x.0 d.0 d.1 (l.starts x.1 d.0 z d.2 h);
  }

  pub sunk_first : (ts : List T) (left : ℕ) → Sunk D M F1 G1 ts left → Sunk (Both D E) (BothDepths M L) F G ts left
  sunk_first ts left s = record {
    used = s.used;
    rest = s.rest;
    whole = s.whole;
    place = s.place;
    some = s.some;
    viable = viable_first Sinks sinks_front s.used s.viable;
    each = λ x y z d h. sinks_grow s.used (M x.0) (L x.1) (s.each x.0 y d.0 d.1 (l.starts x.1 d.0 z d.2 h));
  }

  pub stuck_second : (t : N) (ts m : List T) (left : ℕ) → Took D M F1 G1 t ts m → Stuck E L F G m left → Stuck (Both D E) (BothDepths M L) F G ts left
  stuck_second t ts m left p s = record {
    used = p.used ++ s.used;
    rest = s.rest;
    whole = p.whole ∙ ap (λ x. p.used ++ x) s.whole ∙ sym (append_assoc p.used s.used s.rest);
    place = s.place;
    viable = viable_second Within within_front t ts m p s.used s.rest s.whole s.viable (λ z f. let o = l.some z f in (o.0, o.1, o.2, o.3, tt));
    bad = λ a after e x y z d h.
        let c : D x.0 (p.used ++ (s.used ++ a ∷ y)) d.0 = rw append_assoc at d.1 in
        let g : d.0 ≡ s.used ++ a ∷ y = (forced_on D M F1 G1 t ts m p s.used a after y (s.whole ∙ ap (λ x. s.used ++ x) e) x.0 d.0 c (l.starts x.1 d.0 z d.2 h)).1 in
        s.bad a after e x.1 y z (subst (λ k. E x.1 k z) g d.2) h;
    short = λ x z d h.
        let g : d.0 ≡ s.used = (ended_on D M F1 G1 t ts m p s.used s.rest s.whole x.0 d.0 d.1 (l.starts x.1 d.0 z d.2 h)).1 in
        s.short x.1 z (subst (λ k. E x.1 k z) g d.2) h;
  }

  sinks_goes_on : (t : N) (ts m : List T) (p : Took D M F1 G1 t ts m) (used rest : List T) → m ≡ used ++ rest
      → ((z : List T) → F z → (u : K) × (y : List T) × E u (used ++ y) z × Sinks used (L u)) → (z : List T) → F z
      → (x : N × K) × (y : List T) × Both D E x ((p.used ++ used) ++ y) z × Sinks (p.used ++ used) (BothDepths M L x)
  sinks_goes_on t ts m p [] rest e v z f = let o = v z f in absurd o.3
  sinks_goes_on t ts m p (b ∷ bs) rest e v z f =
      let o = v z f in
      ((t, o.0), o.1, (b ∷ (bs ++ o.1), rw append_assoc (p.kept b (bs ++ rest) e (bs ++ o.1)), o.2), sinks_after p.used (b ∷ bs) (M t) (L o.0) p.deep o.3)

  pub sunk_second : (t : N) (ts m : List T) (left : ℕ) → Took D M F1 G1 t ts m → Sunk E L F G m left
      → Sunk (Both D E) (BothDepths M L) F G ts left
  sunk_second t ts m left p s = record {
    used = p.used ++ s.used;
    rest = s.rest;
    whole = p.whole ∙ ap (λ x. p.used ++ x) s.whole ∙ sym (append_assoc p.used s.used s.rest);
    place = s.place;
    some = omega (arith, s.some, length-append p.used s.used);
    viable = sinks_goes_on t ts m p s.used s.rest s.whole s.viable;
    each = λ x y z d h.
        let c : D x.0 (p.used ++ (s.used ++ y)) d.0 = rw append_assoc at d.1 in
        let g = forced_some D M F1 G1 t ts m p s.used s.rest y s.whole s.some x.0 d.0 c (l.starts x.1 d.0 z d.2 h) in
        let deep = s.each x.1 y z (subst (λ k. E x.1 k z) g.1 d.2) h in
        subst (λ w. Sinks (p.used ++ s.used) (M w ++ L x.1)) (sym g.0) (sinks_after p.used s.used (M t) (L x.1) p.deep deep);
  }

-- ---- no token

abbrev pub Nothing : {T : Type 0} → Unit {0} → List T → List T → Type 0
Nothing u ts rest = ts ≡ rest

pub took_nothing : {T : Type 0} (F G : List T → Type 0) (ts : List T) → Took Nothing (λ u. []) F G tt ts ts
took_nothing F G ts = record {
  used = [];
  whole = refl;
  here = refl;
  any = λ z f. refl;
  kept = λ a after e y. refl;
  forced = λ a after e u y z c g. (refl, sym c);
  ended = λ u z c g. (refl, sym c);
  deep = tt;
}

-- ---- links

abbrev pub Productive : {T K : Type 0} (E : K → List T → List T → Type 0) (F : List T → Type 0) → Type 0
Productive {T} {K} E F = (z : List T) → F z → (u : K) × (a : List T) × E u a z

module _ {T K : Type 0} (E : K → List T → List T → Type 0) (F G : List T → Type 0) where
  -- before any tokens
  pub link_any : Productive E F → Links E F G Any Any
  link_any p = record {
    some = λ z f. let o = p z f in (o.0, o.1, o.2, tt);
    empty = λ u z d f. tt;
    starts = λ u a z d g. tt;
  }

-- ---- a part that takes nothing

module _ {T N : Type 0} (D : N → List T → List T → Type 0) (M : N → List ℕ) (F G : List T → Type 0) (n : N) where
  -- the part that is left out, where what comes next begins no other
  pub took_empty : ((z : List T) → D n z z) → M n ≡ [] → (ts : List T)
      → ((a : T) (after : List T) → ts ≡ a ∷ after → (u : N) (y z : List T) → D u (a ∷ y) z → G z → (u ≡ n) × (z ≡ a ∷ y))
      → ((u : N) (z : List T) → D u [] z → G z → (u ≡ n) × (z ≡ [])) → Took D M F G n ts ts
  took_empty same none ts forced ended = record {
    used = [];
    whole = refl;
    here = same ts;
    any = λ z f. same z;
    kept = λ a after e y. same (a ∷ y);
    forced = forced;
    ended = ended;
    deep = subst (λ ds. Covers {T = T} [] ds) (sym none) tt;
  }

-- ---- nothing begins here

module _ {T N : Type 0} (D : N → List T → List T → Type 0) (M : N → List ℕ) (F G : List T → Type 0) (ts : List T) where
  pub stuck_here : ((z : List T) → F z → (t : N) × (y : List T) × D t y z)
      → ((a : T) (after : List T) → ts ≡ a ∷ after → (t : N) (y z : List T) → D t (a ∷ y) z → G z → ⊥)
      → ((t : N) (z : List T) → D t [] z → G z → ⊥) → Stuck D M F G ts (length ts)
  stuck_here some bad short = record {
    used = [];
    rest = ts;
    whole = refl;
    place = refl;
    viable = λ z f. let o = some z f in (o.0, o.1, o.2, tt);
    bad = bad;
    short = short;
  }

  pub sunk_here : (a : T) (rest : List T) → ts ≡ a ∷ rest
      → ((z : List T) → F z → (t : N) × (y : List T) × D t (a ∷ y) z × Sinks (a ∷ []) (M t))
      → ((t : N) (y z : List T) → D t (a ∷ y) z → G z → Sinks (a ∷ []) (M t)) → Sunk D M F G ts (length ts)
  sunk_here a rest h some each = record {
    used = a ∷ [];
    rest = rest;
    whole = h;
    place = ap length (sym h);
    some = omega arith;
    viable = some;
    each = each;
  }
