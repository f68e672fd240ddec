-- The rules of operators of one level, and of choices.
use Rattle.std.proofs.Common.{◌≡◌, ◌≤◌, ◌<◌, ◌+◌, ℕ, zero, suc, List, [], ◌∷◌, ◌++◌, refl, sym, ◌∙◌, ap, subst, append_assoc, append-nil}
use Rattle.std.proofs.Common.{arith, ◌⊎◌, inl, inr}
use Rattle.std.specs.Prelude.{Option, Some, None}
use Rattle.std.proofs.Math.Nat.{eq-or-lt_of_le}
use Rattle.bit_ops.specs.declared.operator.Binary.{Binary}
use Rattle.vl_tree.specs.declared.token.Mark.{Mark}
use Rattle.vl_tree.specs.declared.token.Mark.TheVariants as m
use Rattle.vl_tree.specs.Token as k
use Rattle.vl_tree.specs.Syntax.{Place, Expr, number, read, call, system, group, concat, repeat, unary, chain, choose}
use Rattle.vl_tree.specs.Syntax.{Links as Chained, no_link, more_link, Choices, no_choice, more_choice}
use Rattle.vl_tree.specs.Placed.{Placed, at, kind_of}
use Rattle.vl_tree.specs.Piece.{mark}
use Rattle.vl_tree.specs.Expressions.{binary_of, binary_level, level, expr_at, links_at, below}
use Rattle.vl_tree.specs.Depth.{expr_depths, links_depths, choices_depths}
use Rattle.vl_read.specs.declared.fault.Fault.{Fault}
use Rattle.vl_read.specs.Reading.{Took, Refuses, Any, Both, BothDepths}
use Rattle.vl_read.specs.Tokens.{one, one_deep, Not}
use Rattle.vl_read.proofs.Pieces.{Links, link_any, took_empty}
use Rattle.vl_read.proofs.Fails.{fails_first}
use Rattle.vl_read.proofs.Leads.{Leads, leads_on, leads_as, leads_after, leads_second}
use Rattle.vl_read.proofs.TokenRules.{somewhere, took_kind, link_kind_first}
use Rattle.vl_expr.specs.Ends.{mark_level, next_level, level_at, Ends, EndsExpr, NotAt}
use Rattle.vl_expr.specs.Lists.{linked, chosen, tail_at, tail_depths}
use Rattle.vl_expr.proofs.Common.{ends_less, ends_to, not_at, ends_question, colon_ends, some_number, zero_literal}
use Rattle.vl_expr.proofs.Levels.{operator_level, level_most}

-- ---- operators of one level

module _ (d n : ℕ) where
  abbrev L0 : Expr × Chained → List Placed → List Placed → Type 0
  L0 = Both (below n) (links_at n)

  abbrev L0D : Expr × Chained → List ℕ
  L0D = BothDepths (expr_depths d) (links_depths d)

  link_starts : (u : Chained) (a z : List Placed) → links_at n u a z → Ends (suc n) z → Ends n a
  link_starts no_link a z c g = subst (Ends n) (sym c) (ends_less n z g)
  link_starts (more_link op p e ls) a z (mid, (i, (b, s, h)), r) g = subst (Ends n) (sym h) (omega (arith, i, operator_level b op s))

  pub links_link : Links (links_at n) (Ends (suc n)) (Ends (suc n)) (Ends n) (Ends n)
  links_link = record {
    some = λ z f. (no_link, z, refl, ends_less n z f);
    empty = λ u z c f. ends_less n z f;
    starts = link_starts;
  }

  module _ (b : Mark) (op : Binary) (is : binary_of b ≡ Some op) (same : binary_level op ≡ n) (p : Place) (low : d ≤ 200)
      (ts us : List Placed) (h : ts ≡ at (k.mark b) p ∷ us) where
    abbrev make_link : Expr × Chained → Chained
    make_link x = more_link op p x.0 x.1

    link_into : (x : Expr × Chained) (us z : List Placed) → L0 x us z → links_at n (make_link x) (at (k.mark b) p ∷ us) z
    link_into x us z c = (us, (same, (b, is, refl)), c)

    link_out : (u : Chained) (us z : List Placed) → links_at n u (at (k.mark b) p ∷ us) z → Ends (suc n) z
        → (x : Expr × Chained) × L0 x us z × (u ≡ make_link x)
    link_out no_link us z c g =
        let i : suc n ≤ mark_level b = subst (Ends (suc n)) (sym c) g in
        absurd (omega (arith, i, operator_level b op is, same))
    link_out (more_link op2 q e ls) us z (mid, (i, (b2, s, w)), r) g =
        let j : b2 ≡ b = cc in
        let o : q ≡ p = cc in
        let f : mid ≡ us = cc in
        let v : Some op2 ≡ Some op = sym s ∙ ap binary_of j ∙ is in
        let x : op2 ≡ op = cc in
        ((e, ls), subst (λ y. L0 (e, ls) y z) f r, (λ t. more_link (x t) (o t) e ls))

    abbrev link : Leads L0 L0D (Ends (suc n)) (Ends (suc n)) us (links_at n) (links_depths d) (Ends (suc n)) (Ends (suc n)) ts make_link
    link =
        leads_after L0 L0D (links_at n) (links_depths d) (Ends (suc n)) (Ends (suc n)) make_link (at (k.mark b) p) d low (λ x. refl)
        link_into link_out ts us h

    pub link_fails : (e : Fault) → Refuses (below n) (expr_depths d) (Ends n) (Ends n) us e
        → Refuses (links_at n) (links_depths d) (Ends (suc n)) (Ends (suc n)) ts e
    link_fails e r =
        link.fails e (fails_first (below n) (expr_depths d) (links_at n) (links_depths d) (Ends (suc n)) (Ends (suc n)) (Ends n) (Ends n) links_link us e r)

    pub link_next : (x : Expr) (t1 : List Placed) → Took (below n) (expr_depths d) (Ends n) (Ends n) x us t1
        → Leads (links_at n) (links_depths d) (Ends (suc n)) (Ends (suc n)) t1 (links_at n) (links_depths d) (Ends (suc n)) (Ends (suc n)) ts
        (λ ls. more_link op p x ls)
    link_next x t1 q =
        leads_on (leads_second (below n) (expr_depths d) (links_at n) (links_depths d) (Ends (suc n)) (Ends (suc n)) (Ends n) (Ends n) links_link x us t1 q) link

  no_more_links : (u : Chained) (a : Placed) (y z : List Placed) → (next_level (kind_of a) ≡ n → ⊥) → links_at n u (a ∷ y) z
      → (u ≡ no_link) × (z ≡ a ∷ y)
  no_more_links no_link a y z f c = (refl, sym c)
  no_more_links (more_link op p e ls) a y z f (mid, (i, (b, s, h)), r) =
      let q : a ≡ at (k.mark b) p = cc in
      absurd (f (ap (λ w. next_level (kind_of w)) q ∙ operator_level b op s ∙ i))

  no_links_end : (u : Chained) (z : List Placed) → links_at n u [] z → (u ≡ no_link) × (z ≡ [])
  no_links_end no_link z c = (refl, sym c)
  no_links_end (more_link op p e ls) z (mid, (i, (b, s, h)), r) = absurd cc

  pub links_none : (ts : List Placed) → NotAt n ts
      → Took (links_at n) (links_depths d) (Ends (suc n)) (Ends (suc n)) no_link ts ts
  links_none ts f =
      took_empty (links_at n) (links_depths d) (Ends (suc n)) (Ends (suc n)) no_link (λ z. refl) refl ts
      (λ a after e u y z c g. no_more_links u a y z (subst (NotAt n) e f) c) (λ u z c g. no_links_end u z c)

  -- ---- an operand with its operators

  abbrev make_linked : Expr × Chained → Expr
  make_linked x = linked x.0 x.1

  linked_depths : (e : Expr) (ls : Chained) → expr_depths d (linked e ls) ≡ expr_depths d e ++ links_depths d ls
  linked_depths e no_link = sym (append-nil (expr_depths d e))
  linked_depths e (more_link op p x ls) = refl

  linked_into : (e : Expr) (ls : Chained) (us z : List Placed) → L0 (e, ls) us z → below (suc n) (linked e ls) us z
  linked_into e no_link us z c = (omega (arith, c.1.0), subst (λ w. expr_at e us w) c.2 c.1.1)
  linked_into e (more_link op p x ls) us z c =
      let i : n ≡ binary_level op = sym c.2.1.0 in
      (omega (arith, c.2.1.0), subst (λ l. Both (below l) (links_at l) (e, more_link op p x ls) us z) i c)

  linked_same : (some : 1 ≤ n) (most : n ≤ 10) (u : Expr) (us z : List Placed) → level u ≡ n → expr_at u us z
      → (x : Expr × Chained) × L0 x us z × (u ≡ make_linked x)
  linked_same some most (chain e no_link) us z i c = absurd c
  linked_same some most (chain e (more_link op p x ls)) us z i c =
      ((e, more_link op p x ls), subst (λ l. Both (below l) (links_at l) (e, more_link op p x ls) us z) i c, refl)
  linked_same some most (choose cs e) us z i c = absurd (omega (arith, i, most))
  linked_same some most u us z i c = absurd (omega (arith, i, some))

  linked_cases : (some : 1 ≤ n) (most : n ≤ 10) (u : Expr) (us z : List Placed) → (level u ≡ n) ⊎ (level u < n) → expr_at u us z
      → (x : Expr × Chained) × L0 x us z × (u ≡ make_linked x)
  linked_cases some most u us z (inl i) c = linked_same some most u us z i c
  linked_cases some most u us z (inr i) c = ((u, no_link), (z, (i, c), refl), refl)

  linked_out : (some : 1 ≤ n) (most : n ≤ 10) (u : Expr) (us z : List Placed) → below (suc n) u us z → Ends (suc n) z
      → (x : Expr × Chained) × L0 x us z × (u ≡ make_linked x)
  linked_out some most u us z c g = linked_cases some most u us z (eq-or-lt_of_le (omega (arith, c.0))) c.1

-- one level more, by its number
module _ (d limit n : ℕ) (h : limit ≡ suc n) (some : 1 ≤ n) (most : n ≤ 10) (ts : List Placed) where
  abbrev level_parts : Leads (L0 d n) (L0D d n) (Ends (suc n)) (Ends (suc n)) ts (below (suc n)) (expr_depths d) (Ends (suc n)) (Ends (suc n)) ts
      (make_linked d n)
  level_parts =
      leads_as (L0 d n) (L0D d n) (below (suc n)) (expr_depths d) (Ends (suc n)) (Ends (suc n)) (make_linked d n)
      (λ x. linked_depths d n x.0 x.1) (λ x us z c. linked_into d n x.0 x.1 us z c) (linked_out d n some most) ts

  pub chain_fails : (e : Fault) → Refuses (below n) (expr_depths d) (Ends n) (Ends n) ts e
      → Refuses (below limit) (expr_depths d) (Ends limit) (Ends limit) ts e
  chain_fails e r =
      subst (λ l. Refuses (below l) (expr_depths d) (Ends l) (Ends l) ts e) (sym h)
      (level_parts.fails e (fails_first (below n) (expr_depths d) (links_at n) (links_depths d) (Ends (suc n)) (Ends (suc n)) (Ends n) (Ends n) (links_link d n) ts e r))

  pub chain_next : (x : Expr) (t1 : List Placed) → Took (below n) (expr_depths d) (Ends n) (Ends n) x ts t1
      → Leads (links_at n) (links_depths d) (Ends (suc n)) (Ends (suc n)) t1 (below limit) (expr_depths d) (Ends limit) (Ends limit) ts
      (λ ls. linked x ls)
  chain_next x t1 q =
      subst (λ l. Leads (links_at n) (links_depths d) (Ends (suc n)) (Ends (suc n)) t1 (below l) (expr_depths d) (Ends l) (Ends l) ts (λ ls. linked x ls)) (sym h)
      (leads_on (leads_second (below n) (expr_depths d) (links_at n) (links_depths d) (Ends (suc n)) (Ends (suc n)) (Ends n) (Ends n) (links_link d n) x ts t1 q) level_parts)

-- An expression of a level is one of each higher level too: a single operand, where no operator of the levels between comes next. Here
-- `k` levels are between.
module _ (d limit : ℕ) (most : limit ≤ 11) (ts : List Placed) where
  pub raise_fails : (k n : ℕ) → limit ≡ k + n → 1 ≤ n → (e : Fault) → Refuses (below n) (expr_depths d) (Ends n) (Ends n) ts e
      → Refuses (below limit) (expr_depths d) (Ends limit) (Ends limit) ts e
  raise_fails zero n h some e r =
      let i : n ≡ limit = omega (arith, h) in
      subst (λ l. Refuses (below l) (expr_depths d) (Ends l) (Ends l) ts e) i r
  raise_fails (suc k) n h some e r =
      raise_fails k (suc n) (omega (arith, h)) (omega arith) e (chain_fails d (suc n) n refl some (omega (arith, h, most)) ts e r)

  module _ (rest : List Placed) (x : Expr) where
    pub raise_took : (k n : ℕ) → limit ≡ k + n → 1 ≤ n → ((l : ℕ) → n ≤ l → l < limit → NotAt l rest)
        → Took (below n) (expr_depths d) (Ends n) (Ends n) x ts rest → Took (below limit) (expr_depths d) (Ends limit) (Ends limit) x ts rest
    raise_took zero n h some f p =
        let i : n ≡ limit = omega (arith, h) in
        subst (λ l. Took (below l) (expr_depths d) (Ends l) (Ends l) x ts rest) i p
    raise_took (suc k) n h some f p =
        raise_took k (suc n) (omega (arith, h)) (omega arith) (λ l i j. f l (omega (arith, i)) j)
        ((chain_next d (suc n) n refl some (omega (arith, h, most)) ts x rest p).took no_link rest
        (links_none d n rest (f n (omega arith) (omega (arith, h)))))

-- the level at which what comes next goes on is no lower one
pub level_above : (n : ℕ) (rest : List Placed) → level_at rest ≡ n → (l : ℕ) → l < n → NotAt l rest
level_above n rest h l i = not_at l rest (λ j. omega (arith, h, i, j))

-- ---- choices

some_tail : (z : List Placed) → tail_at (no_choice, some_number) (at (k.number zero_literal) somewhere ∷ z) z
some_tail z = (at (k.number zero_literal) somewhere ∷ z, refl, (omega arith, refl))

module _ (d : ℕ) where
  -- what stands after a condition: nothing, or the value and the rest of the chain
  abbrev C2 : Unit {0} × (Choices × Expr) → List Placed → List Placed → Type 0
  C2 = Both (one (mark m.Colon)) tail_at

  abbrev C2D : Unit {0} × (Choices × Expr) → List ℕ
  C2D = BothDepths (one_deep d) (tail_depths d)

  abbrev C1 : Expr × (Unit {0} × (Choices × Expr)) → List Placed → List Placed → Type 0
  C1 = Both expr_at C2

  abbrev C1D : Expr × (Unit {0} × (Choices × Expr)) → List ℕ
  C1D = BothDepths (expr_depths (d + 1)) C2D

  abbrev Q : Option (Place × (Expr × (Unit {0} × (Choices × Expr)))) → List Placed → List Placed → Type 0
  Q None ts rest = ts ≡ rest
  Q (Some x) ts rest = (mid : List Placed) × (ts ≡ at (k.mark m.Question) x.0 ∷ mid) × C1 x.1 mid rest

  abbrev QD : Option (Place × (Expr × (Unit {0} × (Choices × Expr)))) → List ℕ
  QD None = []
  QD (Some x) = d ∷ C1D x.1

  abbrev C0 : Expr × Option (Place × (Expr × (Unit {0} × (Choices × Expr)))) → List Placed → List Placed → Type 0
  C0 = Both (below 11) Q

  abbrev C0D : Expr × Option (Place × (Expr × (Unit {0} × (Choices × Expr)))) → List ℕ
  C0D = BothDepths (expr_depths d) QD

  c2_link : Links C2 EndsExpr EndsExpr EndsExpr EndsExpr
  c2_link =
      link_kind_first (k.mark m.Colon) EndsExpr EndsExpr EndsExpr colon_ends tail_at
      (λ z f. ((no_choice, some_number), at (k.number zero_literal) somewhere ∷ z, some_tail z))

  tail_link : Links tail_at EndsExpr EndsExpr Any Any
  tail_link =
      link_any tail_at EndsExpr EndsExpr (λ z f. ((no_choice, some_number), at (k.number zero_literal) somewhere ∷ z, some_tail z))

  ends_eleven : (z : List Placed) → EndsExpr z → Ends 11 z
  ends_eleven z f = ends_to 11 12 (omega arith) z f

  q_starts : (u : Option (Place × (Expr × (Unit {0} × (Choices × Expr))))) (a z : List Placed) → Q u a z → EndsExpr z → Ends 11 a
  q_starts None a z c g = subst (Ends 11) (sym c) (ends_eleven z g)
  q_starts (Some x) a z c g = subst (Ends 11) (sym c.1) (omega arith)

  q_link : Links Q EndsExpr EndsExpr (Ends 11) (Ends 11)
  q_link = record { some = λ z f. (None, z, refl, ends_eleven z f); empty = λ u z c f. ends_eleven z f; starts = q_starts }

  abbrev make_tail : Expr × Option (Place × (Expr × (Unit {0} × (Choices × Expr)))) → Choices × Expr
  make_tail (c, None) = (no_choice, c)
  make_tail (c, Some x) = (more_choice c x.0 x.1.0 x.1.1.1.0, x.1.1.1.1)

  chain_depths : (c v cs e : List ℕ) → (c ++ (d ∷ (v ++ (d ∷ cs)))) ++ e ≡ c ++ (d ∷ (v ++ (d ∷ (cs ++ e))))
  chain_depths c v cs e = append_assoc c (d ∷ (v ++ (d ∷ cs))) e ∙ ap (λ w. c ++ (d ∷ w)) (append_assoc v (d ∷ cs) e)

  tail_depths_is : (x : Expr × Option (Place × (Expr × (Unit {0} × (Choices × Expr))))) → tail_depths d (make_tail x) ≡ C0D x
  tail_depths_is (c, None) = sym (append-nil (expr_depths d c))
  tail_depths_is (c, Some x) =
      chain_depths (expr_depths d c) (expr_depths (d + 1) x.1.0) (choices_depths d x.1.1.1.0) (expr_depths d x.1.1.1.1)

  tail_into : (x : Expr × Option (Place × (Expr × (Unit {0} × (Choices × Expr))))) (us z : List Placed) → C0 x us z
      → tail_at (make_tail x) us z
  tail_into (c, None) us z h = (us, refl, subst (λ w. below 11 c us w) h.2 h.1)
  tail_into (c, Some x) us z (m0, b, (m1, q, (m2, v, (m3, l, (m4, cs, e))))) = (m4, (m0, b, (m1, q, (m2, v, (m3, l, cs)))), e)

  tail_out_at : (cs : Choices) (e : Expr) (us z : List Placed) → tail_at (cs, e) us z
      → (x : Expr × Option (Place × (Expr × (Unit {0} × (Choices × Expr))))) × C0 x us z × ((cs, e) ≡ make_tail x)
  tail_out_at no_choice e us z h = ((e, None), (z, subst (λ w. below 11 e w z) (sym h.1) h.2, refl), refl)
  tail_out_at (more_choice c p v cs) e us z (m4, (m0, b, (m1, q, (m2, w, (m3, l, r)))), f) =
      ((c, Some (p, (v, (tt, (cs, e))))), (m0, b, (m1, q, (m2, w, (m3, l, (m4, r, f))))), refl)

  tail_out : (u : Choices × Expr) (us z : List Placed) → tail_at u us z → EndsExpr z
      → (x : Expr × Option (Place × (Expr × (Unit {0} × (Choices × Expr))))) × C0 x us z × (u ≡ make_tail x)
  tail_out u us z h g = tail_out_at u.0 u.1 us z h

  no_question : (u : Option (Place × (Expr × (Unit {0} × (Choices × Expr))))) (a : Placed) (y z : List Placed)
      → (kind_of a ≡ k.mark m.Question → ⊥) → Q u (a ∷ y) z → (u ≡ None) × (z ≡ a ∷ y)
  no_question None a y z n c = (refl, sym c)
  no_question (Some x) a y z n c = let e : a ≡ at (k.mark m.Question) x.0 = cc in absurd (n (ap kind_of e))

  no_question_end : (u : Option (Place × (Expr × (Unit {0} × (Choices × Expr))))) (z : List Placed) → Q u [] z
      → (u ≡ None) × (z ≡ [])
  no_question_end None z c = (refl, sym c)
  no_question_end (Some x) z c = absurd cc

  module _ (ts : List Placed) where
    abbrev tail_parts : Leads C0 C0D EndsExpr EndsExpr ts tail_at (tail_depths d) EndsExpr EndsExpr ts make_tail
    tail_parts = leads_as C0 C0D tail_at (tail_depths d) EndsExpr EndsExpr make_tail tail_depths_is tail_into tail_out ts

    pub tail_fails_0 : (e : Fault) → Refuses (below 11) (expr_depths d) (Ends 11) (Ends 11) ts e
        → Refuses tail_at (tail_depths d) EndsExpr EndsExpr ts e
    tail_fails_0 e r =
        tail_parts.fails e (fails_first (below 11) (expr_depths d) Q QD EndsExpr EndsExpr (Ends 11) (Ends 11) q_link ts e r)

    module _ (c : Expr) (t1 : List Placed) (p : Took (below 11) (expr_depths d) (Ends 11) (Ends 11) c ts t1) where
      abbrev tail_second : Leads Q QD EndsExpr EndsExpr t1 tail_at (tail_depths d) EndsExpr EndsExpr ts (λ q. make_tail (c, q))
      tail_second = leads_on (leads_second (below 11) (expr_depths d) Q QD EndsExpr EndsExpr (Ends 11) (Ends 11) q_link c ts t1 p) tail_parts

      pub tail_last : Not (k.mark m.Question) t1 → Took tail_at (tail_depths d) EndsExpr EndsExpr (no_choice, c) ts t1
      tail_last n =
          tail_second.took None t1 (took_empty Q QD EndsExpr EndsExpr None (λ z. refl) refl t1
          (λ a after e u y z w g. no_question u a y z (subst (Not (k.mark m.Question)) e n) w) (λ u z w g. no_question_end u z w))

      module _ (low : d ≤ 200) (q : Place) (us : List Placed) (h : t1 ≡ at (k.mark m.Question) q ∷ us) where
        abbrev make_q : Expr × (Unit {0} × (Choices × Expr)) → Option (Place × (Expr × (Unit {0} × (Choices × Expr))))
        make_q x = Some (q, x)

        q_out : (u : Option (Place × (Expr × (Unit {0} × (Choices × Expr))))) (us z : List Placed)
            → Q u (at (k.mark m.Question) q ∷ us) z → EndsExpr z
            → (x : Expr × (Unit {0} × (Choices × Expr))) × C1 x us z × (u ≡ make_q x)
        q_out None us z w g = absurd ((subst (Not (k.mark m.Question)) (sym w) (ends_question z g)) refl)
        q_out (Some x) us z w g =
            let f : w.0 ≡ us = cc in
            let o : x.0 ≡ q = cc in
            (x.1, subst (λ v. C1 x.1 v z) f w.2, ap (λ v. Some (v, x.1)) o)

        abbrev after_question : Leads C1 C1D EndsExpr EndsExpr us tail_at (tail_depths d) EndsExpr EndsExpr ts (λ x. make_tail (c, make_q x))
        after_question =
            leads_on (leads_after C1 C1D Q QD EndsExpr EndsExpr make_q (at (k.mark m.Question) q) d low (λ x. refl) (λ x us z w. (us, refl, w)) q_out t1 us h) tail_second

        pub tail_fails_1 : (e : Fault) → Refuses expr_at (expr_depths (d + 1)) EndsExpr EndsExpr us e
            → Refuses tail_at (tail_depths d) EndsExpr EndsExpr ts e
        tail_fails_1 e r = after_question.fails e (fails_first expr_at (expr_depths (d + 1)) C2 C2D EndsExpr EndsExpr EndsExpr EndsExpr c2_link us e r)

        module _ (v : Expr) (t2 : List Placed) (o : Took expr_at (expr_depths (d + 1)) EndsExpr EndsExpr v us t2) where
          abbrev after_value : Leads C2 C2D EndsExpr EndsExpr t2 tail_at (tail_depths d) EndsExpr EndsExpr ts (λ x. make_tail (c, make_q (v, x)))
          after_value = leads_on (leads_second expr_at (expr_depths (d + 1)) C2 C2D EndsExpr EndsExpr EndsExpr EndsExpr c2_link v us t2 o) after_question

          pub tail_fails_2 : (e : Fault) → Refuses (one (mark m.Colon)) (one_deep d) Any Any t2 e
              → Refuses tail_at (tail_depths d) EndsExpr EndsExpr ts e
          tail_fails_2 e r = after_value.fails e (fails_first (one (mark m.Colon)) (one_deep d) tail_at (tail_depths d) EndsExpr EndsExpr Any Any tail_link t2 e r)

          -- another choice
          pub tail_next : (t3 : List Placed) → (s : Place) × (t2 ≡ at (k.mark m.Colon) s ∷ t3)
              → Leads tail_at (tail_depths d) EndsExpr EndsExpr t3 tail_at (tail_depths d) EndsExpr EndsExpr ts
              (λ x. (more_choice c q v x.0, x.1))
          tail_next t3 w =
              leads_on (leads_second (one (mark m.Colon)) (one_deep d) tail_at (tail_depths d) EndsExpr EndsExpr Any Any tail_link tt t2 t3
              (took_kind (k.mark m.Colon) d low w.0 t2 t3 w.1)) after_value

  -- ---- expressions

  abbrev make_chosen : Choices × Expr → Expr
  make_chosen x = chosen x.0 x.1

  chosen_depths : (cs : Choices) (e : Expr) → expr_depths d (chosen cs e) ≡ tail_depths d (cs, e)
  chosen_depths no_choice e = refl
  chosen_depths (more_choice c p v cs) e = refl

  chosen_into : (cs : Choices) (e : Expr) (us z : List Placed) → tail_at (cs, e) us z → expr_at (chosen cs e) us z
  chosen_into no_choice e us z h = subst (λ w. expr_at e w z) (sym h.1) h.2.1
  chosen_into (more_choice c p v cs) e us z h = h

  chain_level : (e : Expr) (ls : Chained) (us z : List Placed) → expr_at (chain e ls) us z → level (chain e ls) < 11
  chain_level e no_link us z h = absurd h
  chain_level e (more_link op p x ls) us z h = omega (arith, level_most op)

  chosen_out : (u : Expr) (us z : List Placed) → expr_at u us z → EndsExpr z
      → (x : Choices × Expr) × tail_at x us z × (u ≡ make_chosen x)
  chosen_out (choose no_choice e) us z h g = absurd h
  chosen_out (choose (more_choice c p v cs) e) us z h g = ((more_choice c p v cs, e), h, refl)
  chosen_out (chain e ls) us z h g = ((no_choice, chain e ls), (us, refl, (chain_level e ls us z h, h)), refl)
  chosen_out (number p v) us z h g = ((no_choice, number p v), (us, refl, (omega arith, h)), refl)
  chosen_out (read v ss) us z h g = ((no_choice, read v ss), (us, refl, (omega arith, h)), refl)
  chosen_out (call v es) us z h g = ((no_choice, call v es), (us, refl, (omega arith, h)), refl)
  chosen_out (system p v e) us z h g = ((no_choice, system p v e), (us, refl, (omega arith, h)), refl)
  chosen_out (group p e) us z h g = ((no_choice, group p e), (us, refl, (omega arith, h)), refl)
  chosen_out (concat p es) us z h g = ((no_choice, concat p es), (us, refl, (omega arith, h)), refl)
  chosen_out (repeat p v es) us z h g = ((no_choice, repeat p v es), (us, refl, (omega arith, h)), refl)
  chosen_out (unary p op e) us z h g = ((no_choice, unary p op e), (us, refl, (omega arith, h)), refl)

  -- an expression is its choices and its last value
  pub expr_parts : (ts : List Placed)
      → Leads tail_at (tail_depths d) EndsExpr EndsExpr ts expr_at (expr_depths d) EndsExpr EndsExpr ts make_chosen
  expr_parts ts =
      leads_as tail_at (tail_depths d) expr_at (expr_depths d) EndsExpr EndsExpr make_chosen (λ x. chosen_depths x.0 x.1)
      (λ x us z c. chosen_into x.0 x.1 us z c) chosen_out ts
