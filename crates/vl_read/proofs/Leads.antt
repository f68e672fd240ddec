-- How what is answered of a part, where it begins, becomes the answer of the whole rule, where that began.
use Rattle.std.proofs.Common.{◌≡◌, ◌≤◌, ℕ, List, [], ◌∷◌, ◌++◌, length, sym, ◌∙◌, ap, subst, arith}
use Rattle.std.specs.Prelude.{Result, Ok, Err}
use Rattle.vl_tree.specs.Derives.{Within, Sinks}
use Rattle.vl_read.specs.declared.fault.Fault.{Fault}
use Rattle.vl_read.specs.declared.fault.Fault.TheVariants as f
use Rattle.vl_read.specs.Reading.{Covers, Took, Refuses, Reads, Both, BothDepths}
use Rattle.vl_read.proofs.Pieces.{Links, took_less, took_as, took_after, took_both}
use Rattle.vl_read.proofs.Fails.{fails_less, fails_as, fails_after, fails_second}

-- what a reader of D answers at `us`, a reader of E answers at `ts`
pub record Leads {T N K : Type 0} (D : N → List T → List T → Type 0) (M : N → List ℕ) (F G : List T → Type 0) (us : List T)
    (E : K → List T → List T → Type 0) (L : K → List ℕ) (F1 G1 : List T → Type 0) (ts : List T) (make : N → K) : Type 0 where
  pub took : (x : N) (rest : List T) → Took D M F G x us rest → Took E L F1 G1 (make x) ts rest
  pub fails : (e : Fault) → Refuses D M F G us e → Refuses E L F1 G1 ts e

-- one after another
pub leads_on : {T N K H : Type 0} {D : N → List T → List T → Type 0} {M : N → List ℕ} {F G : List T → Type 0} {us : List T}
    {E : K → List T → List T → Type 0} {L : K → List ℕ} {F1 G1 : List T → Type 0} {ts : List T} {make : N → K}
    {B : H → List T → List T → Type 0} {P : H → List ℕ} {F2 G2 : List T → Type 0} {vs : List T} {more : K → H}
    → Leads D M F G us E L F1 G1 ts make → Leads E L F1 G1 ts B P F2 G2 vs more
    → Leads D M F G us B P F2 G2 vs (λ x. more (make x))
leads_on {make} p q = record {
  took = λ x rest c. q.took (make x) rest (p.took x rest c);
  fails = λ e r. q.fails e (p.fails e r);
}

module _ {T N : Type 0} (D : N → List T → List T → Type 0) (M : N → List ℕ) (F G F1 G1 : List T → Type 0)
    (f1 : (z : List T) → F1 z → F z) (g1 : (z : List T) → G1 z → G z) (ts : List T) where
  -- from conditions to stronger ones
  pub leads_less : Leads D M F G ts D M F1 G1 ts (λ x. x)
  leads_less = record {
    took = λ x rest p. took_less D M F G F1 G1 f1 g1 x ts rest p;
    fails = λ e r. fails_less D M F G F1 G1 f1 g1 ts e r;
  }

module _ {T N K : Type 0} (D : N → List T → List T → Type 0) (M : N → List ℕ) (E : K → List T → List T → Type 0) (L : K → List ℕ)
    (F G : List T → Type 0) (make : N → K) (depths : (x : N) → L (make x) ≡ M x)
    (into : (x : N) (us z : List T) → D x us z → E (make x) us z)
    (out : (u : K) (us z : List T) → E u us z → G z → (x : N) × D x us z × (u ≡ make x)) (ts : List T) where
  -- the same trees by other names
  pub leads_as : Leads D M F G ts E L F G ts make
  leads_as = record {
    took = λ x rest p. took_as D M E L F G make depths into out x ts rest p;
    fails = λ e r. fails_as D M E L F G make depths into out ts e r;
  }

module _ {T N K : Type 0} (D : N → List T → List T → Type 0) (M : N → List ℕ) (E : K → List T → List T → Type 0) (L : K → List ℕ)
    (F G : List T → Type 0) (make : N → K) (a : T) (d : ℕ) (low : d ≤ 200) (depths : (x : N) → L (make x) ≡ d ∷ M x)
    (into : (x : N) (us z : List T) → D x us z → E (make x) (a ∷ us) z)
    (out : (u : K) (us z : List T) → E u (a ∷ us) z → G z → (x : N) × D x us z × (u ≡ make x))
    (ts us : List T) (h : ts ≡ a ∷ us) where
  -- after a token that is known
  pub leads_after : Leads D M F G us E L F G ts make
  leads_after = record {
    took = λ x rest p. took_after D M E L F G make a d low depths into out x ts us rest h p;
    fails = λ e r. fails_after D M E L F G make a d low depths into out ts us h e r;
  }

module _ {T N K : Type 0} (D : N → List T → List T → Type 0) (M : N → List ℕ) (E : K → List T → List T → Type 0) (L : K → List ℕ)
    (F G F1 G1 : List T → Type 0) (l : Links E F G F1 G1) where
  -- after a first part that was read
  pub leads_second : (t : N) (ts m : List T) → Took D M F1 G1 t ts m
      → Leads E L F G m (Both D E) (BothDepths M L) F G ts (λ u. (t, u))
  leads_second t ts m p = record {
    took = λ u rest q. took_both D M E L F G F1 G1 l t u ts m rest p q;
    fails = λ e r. fails_second D M E L F G F1 G1 l t ts m p e r;
  }

-- the whole answer, handed on
pub leads_reads : {T X N K : Type 0} {D : N → List T → List T → Type 0} {M : N → List ℕ} {F G : List T → Type 0} {us : List T}
    {E : K → List T → List T → Type 0} {L : K → List ℕ} {F1 G1 : List T → Type 0} {ts : List T} {make : N → K}
    → Leads D M F G us E L F1 G1 ts make → (low : X → N) (high : X → K) → ((x : X) → make (low x) ≡ high x)
    → (r : Result (X × List T) Fault) → Reads low D M F G us r → Reads high E L F1 G1 ts r
leads_reads {E} {L} {F1} {G1} {ts} l low high same (Ok x) p =
    subst (λ w. Took E L F1 G1 w ts x.1) (same x.0) (l.took (low x.0) x.1 p)
leads_reads l low high same (Err e) p = l.fails e p

-- ---- where it is known what comes next

module _ {T : Type 0} (P : List T → Type 0) (ts : List T) (none : P [])
    (next : (a : T) (after : List T) → ts ≡ a ∷ after → (y : List T) → P (a ∷ y)) where
  pub front_more : (used : List T) (a : T) (after : List T) → ts ≡ used ++ a ∷ after → (y : List T) → P (used ++ a ∷ y)
  front_more [] a after e y = next a after e y
  front_more (b ∷ bs) a after e y = next b (bs ++ a ∷ after) e (bs ++ a ∷ y)

  pub front_some : (used rest : List T) → ts ≡ used ++ rest → 1 ≤ length used → (y : List T) → P (used ++ y)
  front_some [] rest e s y = absurd (omega (arith, s))
  front_some (b ∷ bs) rest e s y = next b (bs ++ rest) e (bs ++ y)

  pub front_all : (used rest : List T) → ts ≡ used ++ rest → P used
  front_all [] rest e = none
  front_all (b ∷ bs) rest e = next b (bs ++ rest) e bs

  module _ {N K : Type 0} (D : N → List T → List T → Type 0) (M : N → List ℕ) (E : K → List T → List T → Type 0) (L : K → List ℕ)
      (F G : List T → Type 0) (make : N → K) (depths : (x : N) → L (make x) ≡ M x)
      (into : (x : N) (us z : List T) → D x us z → E (make x) us z)
      (out : (u : K) (us z : List T) → P us → E u us z → G z → (x : N) × D x us z × (u ≡ make x)) where
    where_took : (t : N) (rest : List T) → Took D M F G t ts rest → Took E L F G (make t) ts rest
    where_took t rest p = record {
      used = p.used;
      whole = p.whole;
      here = into t ts rest p.here;
      any = λ z may. into t (p.used ++ z) z (p.any z may);
      kept = λ a after e y. into t (p.used ++ a ∷ y) (a ∷ y) (p.kept a after e y);
      forced = λ a after e u y z d g.
          let o = out u (p.used ++ a ∷ y) z (front_more p.used a after (p.whole ∙ ap (λ x. p.used ++ x) e) y) d g in
          let h = p.forced a after e o.0 y z o.1 g in
          (o.2 ∙ ap make h.0, h.1);
      ended = λ u z d g.
          let o = out u p.used z (front_all p.used rest p.whole) d g in
          let h = p.ended o.0 z o.1 g in
          (o.2 ∙ ap make h.0, h.1);
      deep = subst (Covers p.used) (sym (depths t)) p.deep;
    }

    where_fails : (e : Fault) → Refuses D M F G ts e → Refuses E L F G ts e
    where_fails f.Memory r = r
    where_fails (f.At left) s = record {
      used = s.used;
      rest = s.rest;
      whole = s.whole;
      place = s.place;
      viable = λ z may.
          let v = s.viable z may in
          (make v.0, v.1, into v.0 (s.used ++ v.1) z v.2, subst (Within s.used) (sym (depths v.0)) v.3);
      bad = λ a after e u y z d g.
          let o = out u (s.used ++ a ∷ y) z (front_more s.used a after (s.whole ∙ ap (λ x. s.used ++ x) e) y) d g in
          s.bad a after e o.0 y z o.1 g;
      short = λ u z d g.
          let o = out u s.used z (front_all s.used s.rest s.whole) d g in
          s.short o.0 z o.1 g;
    }
    where_fails (f.Deep left) s = record {
      used = s.used;
      rest = s.rest;
      whole = s.whole;
      place = s.place;
      some = s.some;
      viable = λ z may.
          let v = s.viable z may in
          (make v.0, v.1, into v.0 (s.used ++ v.1) z v.2, subst (Sinks s.used) (sym (depths v.0)) v.3);
      each = λ u y z d g.
          let o = out u (s.used ++ y) z (front_some s.used s.rest s.whole s.some y) d g in
          subst (Sinks s.used) (sym (ap L o.2 ∙ depths o.0)) (s.each o.0 y z o.1 g);
    }

    -- the same trees by other names, of tokens that begin as these do
    pub leads_where : Leads D M F G ts E L F G ts make
    leads_where = record { took = where_took; fails = where_fails }

-- ---- after a token that is known, of the same tree

module _ {T N : Type 0} (D : N → List T → List T → Type 0) (M : N → List ℕ) (E : N → List T → List T → Type 0) (L : N → List ℕ)
    (F G : List T → Type 0) (a : T) (d : ℕ) (low : d ≤ 200)
    (depths : (x : N) (us z : List T) → D x us z → L x ≡ d ∷ M x)
    (into : (x : N) (us z : List T) → D x us z → E x (a ∷ us) z)
    (out : (u : N) (us z : List T) → E u (a ∷ us) z → G z → D u us z) (ts us : List T) (h : ts ≡ a ∷ us) where
  same_took : (t : N) (rest : List T) → Took D M F G t us rest → Took E L F G t ts rest
  same_took t rest p = record {
    used = a ∷ p.used;
    whole = h ∙ ap (λ x. a ∷ x) p.whole;
    here = subst (λ x. E t x rest) (sym h) (into t us rest p.here);
    any = λ z may. into t (p.used ++ z) z (p.any z may);
    kept = λ b after e y. into t (p.used ++ b ∷ y) (b ∷ y) (p.kept b after e y);
    forced = λ b after e u y z c g. p.forced b after e u y z (out u (p.used ++ b ∷ y) z c g) g;
    ended = λ u z c g. p.ended u z (out u p.used z c g) g;
    deep = subst (Covers (a ∷ p.used)) (sym (depths t us rest p.here)) (low, p.deep);
  }

  sinks_next : (vs : List T) (es : List ℕ) → Sinks vs es → Sinks (a ∷ vs) (d ∷ es)
  sinks_next [] es q = absurd q
  sinks_next (b ∷ vs) es q = (low, q)

  same_fails : (e : Fault) → Refuses D M F G us e → Refuses E L F G ts e
  same_fails f.Memory r = r
  same_fails (f.At left) s = record {
    used = a ∷ s.used;
    rest = s.rest;
    whole = h ∙ ap (λ x. a ∷ x) s.whole;
    place = s.place;
    viable = λ z may.
        let v = s.viable z may in
        (v.0, v.1, into v.0 (s.used ++ v.1) z v.2, subst (Within (a ∷ s.used)) (sym (depths v.0 (s.used ++ v.1) z v.2)) (low, v.3));
    bad = λ b after e u y z c g. s.bad b after e u y z (out u (s.used ++ b ∷ y) z c g) g;
    short = λ u z c g. s.short u z (out u s.used z c g) g;
  }
  same_fails (f.Deep left) s = record {
    used = a ∷ s.used;
    rest = s.rest;
    whole = h ∙ ap (λ x. a ∷ x) s.whole;
    place = s.place;
    some = omega arith;
    viable = λ z may.
        let v = s.viable z may in
        (v.0, v.1, into v.0 (s.used ++ v.1) z v.2, subst (Sinks (a ∷ s.used)) (sym (depths v.0 (s.used ++ v.1) z v.2)) (sinks_next s.used (M v.0) v.3));
    each = λ u y z c g.
        let o = out u (s.used ++ y) z c g in
        subst (Sinks (a ∷ s.used)) (sym (depths u (s.used ++ y) z o)) (sinks_next s.used (M u) (s.each u y z o g));
  }

  pub leads_same : Leads D M F G us E L F G ts (λ x. x)
  leads_same = record { took = same_took; fails = same_fails }
