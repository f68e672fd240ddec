-- Parts of a rule that are read one after another: a rule is a row of parts, and what a reader answers of each part becomes the answer of
-- the rule.
use Rattle.std.proofs.Common.{◌≡◌, ◌≤◌, ℕ, List, [], ◌∷◌, ◌++◌, length, refl, sym, ◌∙◌, ap, subst}
use Rattle.std.specs.Prelude.{Bool, true, false, Option, Some, None}
use Rattle.vl_tree.specs.Token.{Kind}
use Rattle.vl_tree.specs.Token as k
use Rattle.vl_tree.specs.Syntax.{Place, Name, Expr}
use Rattle.vl_tree.specs.Placed.{Placed, at}
use Rattle.vl_tree.specs.Piece.{Piece, kind, kind_at, name_at, commas, where_true, maybe}
use Rattle.vl_tree.specs.Expressions.{expr_at}
use Rattle.vl_tree.specs.Depth.{name_depth, expr_depths, comma_depths, one_if, depths_of}
use Rattle.vl_tree.specs.Derives.{Within, Sinks}
use Rattle.vl_read.specs.declared.fault.Fault.{Fault}
use Rattle.vl_read.specs.declared.fault.Fault.TheVariants as f
use Rattle.vl_read.specs.Reading.{Covers, Took, Sunk, Refuses, Any, Both, BothDepths}
use Rattle.vl_read.specs.Tokens.{one, one_deep, Not}
use Rattle.vl_read.specs.Commas.{IsListed, EndsCommas}
use Rattle.vl_read.proofs.Pieces.{Links, sunk_here, took_empty}
use Rattle.vl_read.proofs.Fails.{fails_first}
use Rattle.vl_read.proofs.Leads.{Leads, leads_on, leads_less, leads_as, leads_after, leads_second, front_more, front_some, front_all}
use Rattle.vl_read.proofs.TokenRules.{somewhere, took_kind}
use Rattle.vl_expr.specs.Ends.{EndsExpr}
use Rattle.vl_expr.proofs.Common.{some_expr}
use Rattle.vl_declaration.specs.Readers.{FindsFlag}
use Rattle.vl_declaration.specs.Laws.{some_name}

-- which tokens stand for a tree of a part, at which depths, what may follow it, what it is looked at before, and that there is a tree
pub record Part (N : Type 0) : Type 1 where
  pub at : N → List Placed → List Placed → Type 0
  pub depths : N → List ℕ
  pub may : List Placed → Type 0
  pub seen : List Placed → Type 0
  pub some : (z : List Placed) → may z → (t : N) × (a : List Placed) × at t a z

-- the first ends where the second begins
abbrev pub Joins : {N K : Type 0} → Part N → Part K → Type 0
Joins {N} {K} p q = (u : K) (a z : List Placed) → q.at u a z → (q.may z → p.may a) × (q.seen z → p.seen a)

-- what holds of the tokens in any case
pub agree : {A B C D : Type 0} → B → D → (A → B) × (C → D)
agree x y = (λ a. x, λ c. y)

-- nothing is wanted of what follows
pub free : {A C : Type 0} → (A → Unit {0}) × (C → Unit {0})
free = (λ a. tt, λ c. tt)

pub joins_links : {N K : Type 0} (p : Part N) (q : Part K) → Joins p q → Links q.at q.may q.seen p.may p.seen
joins_links p q j = record {
  some = λ z f. let o = q.some z f in (o.0, o.1, o.2, (j o.0 o.1 z o.2).0 f);
  empty = λ u z c f. (j u z z c).0 f;
  starts = λ u a z c g. (j u a z c).1 g;
}

-- one part and then another
abbrev pub both : {N K : Type 0} (p : Part N) (q : Part K) → Joins p q → Part (N × K)
both p q j = record {
  at = Both p.at q.at;
  depths = BothDepths p.depths q.depths;
  may = q.may;
  seen = q.seen;
  some = λ z f.
      let o = q.some z f in
      let w = p.some o.1 ((j o.0 o.1 z o.2).0 f) in
      ((w.0, o.0), w.1, (o.1, w.2, o.2));
}

-- what is answered of the part at `us` becomes the answer of a rule at `ts`
abbrev pub Turns : {N K : Type 0} → Part N → List Placed → (K → List Placed → List Placed → Type 0) → (K → List ℕ)
    → (List Placed → Type 0) → (List Placed → Type 0) → List Placed → (N → K) → Type 0
Turns p us E L F G ts make = Leads p.at p.depths p.may p.seen us E L F G ts make

abbrev pub Takes : {N : Type 0} → Part N → N → List Placed → List Placed → Type 0
Takes p t ts rest = Took p.at p.depths p.may p.seen t ts rest

abbrev pub Fails : {N : Type 0} → Part N → List Placed → Fault → Type 0
Fails p ts e = Refuses p.at p.depths p.may p.seen ts e

module _ {N K H : Type 0} (p : Part N) (q : Part K) (j : Joins p q) {ts : List Placed} {E : H → List Placed → List Placed → Type 0}
    {L : H → List ℕ} {F G : List Placed → Type 0} {vs : List Placed} {make : N × K → H} (l : Turns (both p q j) ts E L F G vs make) where
  -- the first part fails
  pub first : (e : Fault) → Fails p ts e → Refuses E L F G vs e
  first e r = l.fails e (fails_first p.at p.depths q.at q.depths q.may q.seen p.may p.seen (joins_links p q j) ts e r)

  -- the first part was read
  pub next : (x : N) (m : List Placed) → Takes p x ts m → Turns q m E L F G vs (λ u. make (x, u))
  next x m t = leads_on (leads_second p.at p.depths q.at q.depths q.may q.seen p.may p.seen (joins_links p q j) x ts m t) l

module _ {N K : Type 0} (p : Part N) (E : K → List Placed → List Placed → Type 0) (L : K → List ℕ) (make : N → K) where
  -- the whole of a rule
  abbrev pub whole : ((x : N) → L (make x) ≡ p.depths x) → ((x : N) (us z : List Placed) → p.at x us z → E (make x) us z)
      → ((u : K) (us z : List Placed) → E u us z → p.seen z → (x : N) × p.at x us z × (u ≡ make x)) → (ts : List Placed)
      → Turns p ts E L p.may p.seen ts make
  whole depths into out ts = leads_as p.at p.depths E L p.may p.seen make depths into out ts

  -- a rule from after its first token on
  abbrev pub after : (a : Placed) (d : ℕ) → d ≤ 200 → ((x : N) → L (make x) ≡ d ∷ p.depths x)
      → ((x : N) (us z : List Placed) → p.at x us z → E (make x) (a ∷ us) z)
      → ((u : K) (us z : List Placed) → E u (a ∷ us) z → p.seen z → (x : N) × p.at x us z × (u ≡ make x)) → (ts us : List Placed)
      → ts ≡ a ∷ us → Turns p us E L p.may p.seen ts make
  after a d low depths into out ts us h = leads_after p.at p.depths E L p.may p.seen make a d low depths into out ts us h

-- the same part, before less and looked at before less
abbrev pub less : {N : Type 0} (p : Part N) (may seen : List Placed → Type 0) → ((z : List Placed) → may z → p.may z) → Part N
less p may seen f = record { at = p.at; depths = p.depths; may = may; seen = seen; some = λ z g. p.some z (f z g) }

abbrev pub lesser : {N : Type 0} (p : Part N) (may seen : List Placed → Type 0) (f : (z : List Placed) → may z → p.may z)
    → ((z : List Placed) → seen z → p.seen z) → (ts : List Placed) → Turns p ts p.at p.depths may seen ts (λ x. x)
lesser p may seen f g ts = leads_less p.at p.depths p.may p.seen may seen f g ts

-- ---- parts of one token

-- a token that is no part of a tree
abbrev pub passed : ℕ → Kind → Part (Unit {0})
passed d a = record { at = one (kind a); depths = one_deep d; may = Any; seen = Any; some = λ z f. (tt, at a somewhere ∷ z, (somewhere, refl)) }

-- a token whose place is kept
abbrev pub found : ℕ → Kind → Part Place
found d a = record { at = kind_at a; depths = one_deep d; may = Any; seen = Any; some = λ z f. (somewhere, at a somewhere ∷ z, refl) }

abbrev pub named : ℕ → Part Name
named d = record { at = name_at; depths = name_depth d; may = Any; seen = Any; some = λ z f. (some_name, at (k.name []) somewhere ∷ z, refl) }

pub passes : (d : ℕ) (a : Kind) → d ≤ 200 → (ts rest : List Placed) → (p : Place) × (ts ≡ at a p ∷ rest) → Takes (passed d a) tt ts rest
passes d a low ts rest v = took_kind a d low v.0 ts rest v.1

-- where a token comes next that is no part of a tree
pub ends_at : (P : List Placed → Type 0) (b : Kind) → ((p : Place) (z : List Placed) → P (at b p ∷ z)) → {A C : Type 0}
    → (a mid : List Placed) → kind b a mid → (A → P a) × (C → P a)
ends_at P b e a mid t = agree (subst P (sym t.1) (e t.0 mid)) (subst P (sym t.1) (e t.0 mid))

-- where a token comes next whose place is kept
pub ends_on : (P : List Placed → Type 0) (b : Kind) → ((p : Place) (z : List Placed) → P (at b p ∷ z)) → {A C : Type 0}
    → (p : Place) (a mid : List Placed) → kind_at b p a mid → (A → P a) × (C → P a)
ends_on P b e p a mid t = agree (subst P (sym t) (e p mid)) (subst P (sym t) (e p mid))

-- a token that is too deep
pub found_sunk : (d : ℕ) (a : Kind) (p : Place) (ts rest : List Placed) → ts ≡ at a p ∷ rest → d ≡ 201
    → Sunk (kind_at a) (one_deep d) Any Any ts (length ts)
found_sunk d a p ts rest h i = sunk_here (kind_at a) (one_deep d) Any Any ts (at a p) rest h (λ z f. (p, z, refl, i)) (λ u y z c g. i)

-- ---- expressions and lists

abbrev pub valued_by : ℕ → Part Expr
valued_by d = record { at = expr_at; depths = expr_depths d; may = EndsExpr; seen = EndsExpr; some = some_expr EndsExpr }

abbrev pub listed : {N : Type 0} (D : N → Piece) (M : ℕ → N → List ℕ) (may : List Placed → Type 0) → IsListed D may → ℕ → Part (List N)
listed D M may laws d = record {
  at = commas D;
  depths = comma_depths M d;
  may = EndsCommas may;
  seen = EndsCommas may;
  some = λ z f. let o = laws.some z f.1 in (o.0 ∷ [], o.1, (z, o.2, refl));
}

-- ---- a token that may be left out

abbrev pub flag : ℕ → Kind → Part Bool
flag d a = record { at = λ s. where_true s (kind a); depths = one_if d; may = Not a; seen = Not a; some = λ z f. (false, z, refl) }

module _ (d : ℕ) (a : Kind) where
  with_flag : (u : Bool) (p : Place) (y z : List Placed) → where_true u (kind a) (at a p ∷ y) z → Not a z → (u ≡ true) × (z ≡ y)
  with_flag true p y z c g = (refl, cc)
  with_flag false p y z c g = absurd ((subst (Not a) (sym c) g) refl)

  no_flag : (u : Bool) (b : Placed) (y z : List Placed) → Not a (b ∷ y) → where_true u (kind a) (b ∷ y) z → (u ≡ false) × (z ≡ b ∷ y)
  no_flag true b y z n c = absurd ((subst (Not a) c.1 n) refl)
  no_flag false b y z n c = (refl, sym c)

  no_flag_end : (u : Bool) (z : List Placed) → where_true u (kind a) [] z → (u ≡ false) × (z ≡ [])
  no_flag_end true z c = absurd cc
  no_flag_end false z c = (refl, sym c)

  pub flag_took : d ≤ 200 → (ts m : List Placed) (s : Bool) → FindsFlag a ts (s, m) → Takes (flag d a) s ts m
  flag_took low ts m true (p, h) = record {
    used = at a p ∷ [];
    whole = h;
    here = (p, h);
    any = λ z f. (p, refl);
    kept = λ b after e y. (p, refl);
    forced = λ b after e u y z c g. with_flag u p (b ∷ y) z c g;
    ended = λ u z c g. with_flag u p [] z c g;
    deep = (low, tt);
  }
  flag_took low ts m false (n, h) =
      subst (λ w. Takes (flag d a) false ts w) h
      (took_empty (flag d a).at (one_if d) (Not a) (Not a) false (λ z. refl) refl ts
      (λ b after e u y z c g. no_flag u b y z (subst (Not a) e n) c) (λ u z c g. no_flag_end u z c))

-- ---- a part that may be left out, told by its first token

module _ {N : Type 0} (D : N → Piece) (M : ℕ → N → List ℕ) (b : Kind)
    (starts : (x : N) (a z : List Placed) → D x a z → (p : Place) × (y : List Placed) × (a ≡ at b p ∷ y)) where
  abbrev pub optional : ℕ → (List Placed → Type 0) → Part (Option N)
  optional d F = record { at = maybe D; depths = depths_of M d; may = F; seen = F; some = λ z f. (None, z, refl) }

  pub optional_join : (F P : List Placed → Type 0) → ((z : List Placed) → F z → P z) → ((p : Place) (z : List Placed) → P (at b p ∷ z))
      → (u : Option N) (a z : List Placed) → maybe D u a z → (F z → P a) × (F z → P a)
  optional_join F P from e None a z c = (λ f. subst P (sym c) (from z f), λ f. subst P (sym c) (from z f))
  optional_join F P from e (Some x) a z c =
      let s = starts x a z c in
      (λ f. subst P (sym s.2) (e s.0 s.1), λ f. subst P (sym s.2) (e s.0 s.1))

  left_out : (u : Option N) (a : Placed) (y z : List Placed) → Not b (a ∷ y) → maybe D u (a ∷ y) z → (u ≡ None) × (z ≡ a ∷ y)
  left_out None a y z n c = (refl, sym c)
  left_out (Some x) a y z n c = let s = starts x (a ∷ y) z c in absurd ((subst (Not b) s.2 n) refl)

  left_out_end : (u : Option N) (z : List Placed) → maybe D u [] z → (u ≡ None) × (z ≡ [])
  left_out_end None z c = (refl, sym c)
  left_out_end (Some x) z c = let s = starts x [] z c in let e = s.2 in absurd cc

  pub optional_none : (d : ℕ) (F : List Placed → Type 0) (ts : List Placed) → Not b ts → Takes (optional d F) None ts ts
  optional_none d F ts n =
      took_empty (maybe D) (depths_of M d) F F None (λ z. refl) refl ts
      (λ a after e u y z c g. left_out u a y z (subst (Not b) e n) c) (λ u z c g. left_out_end u z c)

-- ---- where it is known what comes next, and what begins so

module _ {N K : Type 0} (p : Part N) (P : List Placed → Type 0) (ts : List Placed) (none : P [])
    (going : (a : Placed) (after : List Placed) → ts ≡ a ∷ after → (y : List Placed) → P (a ∷ y)) (E : K → List Placed → List Placed → Type 0)
    (L : K → List ℕ) (make : N → K) (depths : (x : N) → L (make x) ≡ p.depths x)
    (into : (x : N) (us z : List Placed) → P us → p.at x us z → E (make x) us z)
    (out : (u : K) (us z : List Placed) → P us → E u us z → p.seen z → (x : N) × p.at x us z × (u ≡ make x))
    (full : (x : N) → p.at x [] [] → ⊥) (end : p.may []) (some : (z : List Placed) → p.may z → (u : K) × (y : List Placed) × E u y z) where
  begun : (used rest : List Placed) → ts ≡ used ++ rest → (used ≡ [] → ⊥) → (z : List Placed) → P (used ++ z)
  begun [] rest e f z = absurd (f refl)
  begun (b ∷ bs) rest e f z = going b (bs ++ rest) e (bs ++ z)

  begun_took : (t : N) (rest : List Placed) → Takes p t ts rest → Took E L p.may p.seen (make t) ts rest
  begun_took t rest q =
      let f : q.used ≡ [] → ⊥ = λ e. full t (subst (λ w. p.at t (w ++ []) []) e (q.any [] end)) in
      record {
        used = q.used;
        whole = q.whole;
        here = into t ts rest (subst P (sym q.whole) (begun q.used rest q.whole f rest)) q.here;
        any = λ z may. into t (q.used ++ z) z (begun q.used rest q.whole f z) (q.any z may);
        kept = λ a after e y. into t (q.used ++ a ∷ y) (a ∷ y) (begun q.used rest q.whole f (a ∷ y)) (q.kept a after e y);
        forced = λ a after e u y z d g.
            let o = out u (q.used ++ a ∷ y) z (front_more P ts none going q.used a after (q.whole ∙ ap (λ x. q.used ++ x) e) y) d g in
            let h = q.forced a after e o.0 y z o.1 g in
            (o.2 ∙ ap make h.0, h.1);
        ended = λ u z d g.
            let o = out u q.used z (front_all P ts none going q.used rest q.whole) d g in
            let h = q.ended o.0 z o.1 g in
            (o.2 ∙ ap make h.0, h.1);
        deep = subst (Covers q.used) (sym (depths t)) q.deep;
      }

  begun_viable : (used rest : List Placed) → ts ≡ used ++ rest
      → ((z : List Placed) → p.may z → (t : N) × (y : List Placed) × p.at t (used ++ y) z × Within used (p.depths t))
      → (z : List Placed) → p.may z → (u : K) × (y : List Placed) × E u (used ++ y) z × Within used (L u)
  begun_viable [] rest e v z may = let o = some z may in (o.0, o.1, o.2, tt)
  begun_viable (b ∷ bs) rest e v z may =
      let o = v z may in
      (make o.0, o.1, into o.0 (b ∷ (bs ++ o.1)) z (going b (bs ++ rest) e (bs ++ o.1)) o.2, subst (Within (b ∷ bs)) (sym (depths o.0)) o.3)

  begun_sunk : (used rest : List Placed) → ts ≡ used ++ rest
      → ((z : List Placed) → p.may z → (t : N) × (y : List Placed) × p.at t (used ++ y) z × Sinks used (p.depths t))
      → (z : List Placed) → p.may z → (u : K) × (y : List Placed) × E u (used ++ y) z × Sinks used (L u)
  begun_sunk [] rest e v z may = absurd (v z may).3
  begun_sunk (b ∷ bs) rest e v z may =
      let o = v z may in
      (make o.0, o.1, into o.0 (b ∷ (bs ++ o.1)) z (going b (bs ++ rest) e (bs ++ o.1)) o.2, subst (Sinks (b ∷ bs)) (sym (depths o.0)) o.3)

  begun_fails : (e : Fault) → Fails p ts e → Refuses E L p.may p.seen ts e
  begun_fails f.Memory r = r
  begun_fails (f.At left) s = record {
    used = s.used;
    rest = s.rest;
    whole = s.whole;
    place = s.place;
    viable = begun_viable s.used s.rest s.whole s.viable;
    bad = λ a after e u y z d g.
        let o = out u (s.used ++ a ∷ y) z (front_more P ts none going s.used a after (s.whole ∙ ap (λ x. s.used ++ x) e) y) d g in
        s.bad a after e o.0 y z o.1 g;
    short = λ u z d g.
        let o = out u s.used z (front_all P ts none going s.used s.rest s.whole) d g in
        s.short o.0 z o.1 g;
  }
  begun_fails (f.Deep left) s = record {
    used = s.used;
    rest = s.rest;
    whole = s.whole;
    place = s.place;
    some = s.some;
    viable = begun_sunk s.used s.rest s.whole s.viable;
    each = λ u y z d g.
        let o = out u (s.used ++ y) z (front_some P ts none going s.used s.rest s.whole s.some y) d g in
        subst (Sinks s.used) (sym (ap L o.2 ∙ depths o.0)) (s.each o.0 y z o.1 g);
  }

  -- the same trees by other names, of tokens that begin as these do
  pub beginning : Turns p ts E L p.may p.seen ts make
  beginning = record { took = begun_took; fails = begun_fails }
