-- The rules of a generate `if`.
use Rattle.std.proofs.Common.{◌≡◌, ◌≤◌, ◌+◌, ℕ, List, [], ◌∷◌, ◌++◌, refl, sym, ◌∙◌, ap, subst, append_assoc}
use Rattle.std.specs.Prelude.{false, true}
use Rattle.vl_tree.specs.declared.token.Key.TheVariants as w
use Rattle.vl_tree.specs.Token as k
use Rattle.vl_tree.specs.Syntax.{Place, Expr, Item, region, generate_loop, generate_if, GenerateBlock, single, GenerateBranches}
use Rattle.vl_tree.specs.Syntax.{no_generate_branch, more_generate_branch, GenerateElse, no_generate_else, generate_else}
use Rattle.vl_tree.specs.Placed.{Placed, at, kind_of}
use Rattle.vl_tree.specs.Statements.{NoElse}
use Rattle.vl_tree.specs.Modules.{generate_block_at, is_generate_if}
use Rattle.vl_tree.specs.Depth.{generate_block_depths, more_generate_branches_depths, generate_else_depths}
use Rattle.vl_tree.specs.Derives.{Within, Sinks}
use Rattle.vl_read.specs.declared.fault.Fault.{Fault}
use Rattle.vl_read.specs.declared.fault.Fault.TheVariants as f
use Rattle.vl_read.specs.Reading.{Took, Refuses, Any, Both, BothDepths}
use Rattle.vl_read.specs.Tokens.{Not}
use Rattle.vl_read.proofs.Pieces.{link_any}
use Rattle.vl_read.proofs.Leads.{Leads, leads_as, leads_after, leads_same, front_more, front_some, front_all}
use Rattle.vl_read.proofs.TokenRules.{somewhere}
use Rattle.vl_simple.specs.Readers.{grouped_at, grouped_depths}
use Rattle.vl_simple.proofs.Steps.{Joint}
use Rattle.vl_source.specs.Readers.{after, after_depths, rest_of, branch_at, branch_depths, others_at, others_depths}
use Rattle.vl_source.proofs.Heads.{head_sort, some_region, some_block, if_block, not_if}

abbrev pub Plain : Type 0
Plain = Place × Expr × GenerateBlock

abbrev pub Others : Type 0
Others = GenerateBranches × GenerateElse

pub not_else : (ts : List Placed) → Not (k.key w.Else) ts → NoElse ts
not_else [] n = tt
not_else (a ∷ ts) n = n

module _ (d : ℕ) where
  -- ---- a condition and its block

  abbrev pub CB : Expr × GenerateBlock → List Placed → List Placed → Type 0
  CB = Both grouped_at generate_block_at

  abbrev pub CBD : Expr × GenerateBlock → List ℕ
  CBD = BothDepths (grouped_depths d) (generate_block_depths (d + 1))

  pub condition_next : Joint grouped_at (grouped_depths d) generate_block_at (generate_block_depths (d + 1)) NoElse Any Any Any
  condition_next = record { link = link_any generate_block_at NoElse Any (some_block NoElse) }

  branch_out : (p : Place) (u : Plain) (us z : List Placed) → branch_at p u us z → Any z
      → (x : Expr × GenerateBlock) × CB x us z × (u ≡ (p, x.0, x.1))
  branch_out p (q, c, b) us z (i, r) g = ((c, b), r, ap (λ v. (v, c, b)) i)

  pub branch_parts : (p : Place) (ts : List Placed)
      → Leads CB CBD NoElse Any ts (branch_at p) (branch_depths d) NoElse Any ts (λ x. (p, x.0, x.1))
  branch_parts p ts =
      leads_as CB CBD (branch_at p) (branch_depths d) NoElse Any (λ x. (p, x.0, x.1)) (λ x. refl) (λ x us z c. (refl, c)) (branch_out p) ts

  -- ---- a branch and others

  pub branch_next : (p : Place) → Joint (branch_at p) (branch_depths d) others_at (others_depths d) NoElse Any NoElse Any
  branch_next p = record {
    link = record {
      some = λ z g. ((no_generate_branch, no_generate_else), z, (z, refl, (refl, g)), g);
      empty = λ u z c g. g;
      starts = λ u a z c g. tt;
    };
  }

  abbrev pub PO : Place → Plain × Others → List Placed → List Placed → Type 0
  PO p = Both (branch_at p) others_at

  abbrev pub POD : Plain × Others → List ℕ
  POD = BothDepths (branch_depths d) (others_depths d)

  abbrev pub make_first : Plain × Others → Item
  make_first ((q, c, b), (bs, o)) = generate_if (more_generate_branch q c b bs) o

  abbrev pub make_next : Plain × Others → Others
  make_next ((q, c, b), (bs, o)) = (more_generate_branch q c b bs, o)

  first_depths : (x : Plain × Others) → after_depths d (make_first x) ≡ POD x
  first_depths ((q, c, b), (bs, o)) =
      append_assoc (grouped_depths d c) (generate_block_depths (d + 1) b ++ more_generate_branches_depths d bs) (generate_else_depths d o)
      ∙ ap (λ v. grouped_depths d c ++ v) (append_assoc (generate_block_depths (d + 1) b) (more_generate_branches_depths d bs)
      (generate_else_depths d o))
      ∙ sym (append_assoc (grouped_depths d c) (generate_block_depths (d + 1) b)
      (more_generate_branches_depths d bs ++ generate_else_depths d o))

  first_into : (p : Place) (x : Plain × Others) (us z : List Placed) → PO p x us z → after (k.key w.If) p (make_first x) us z
  first_into p ((q, c, b), (bs, o)) us z (m1, (i, (m2, g, s)), (m3, r, e)) =
      (us, ap (λ v. at (k.key w.If) v ∷ us) (sym i), (m2, g, (m1, s, (m3, r, e))))

  first_out : (p : Place) (u : Item) (us z : List Placed) → after (k.key w.If) p u us z → Any z
      → (x : Plain × Others) × PO p x us z × (u ≡ make_first x)
  first_out p (generate_if (more_generate_branch q c b bs) o) us z (m0, h, (m2, g, (m1, s, (m3, r, e)))) t =
      let i : q ≡ p = cc in
      let y : m0 ≡ us = cc in
      (((q, c, b), (bs, o)), (m1, (i, (m2, subst (λ x. grouped_at c x m2) y g, s)), (m3, r, e)), refl)
  first_out p (generate_if no_generate_branch o) us z h t = absurd h
  first_out p (region q is) us z h t = let e = head_sort (region q is) (k.key w.If) p us z h in absurd cc
  first_out p (generate_loop q l b) us z h t = let e = head_sort (generate_loop q l b) (k.key w.If) p us z h in absurd cc
  first_out p u us z h t = let e = head_sort u (k.key w.If) p us z h in absurd cc

  pub choice_parts : (p : Place) (ts : List Placed)
      → Leads (PO p) POD NoElse Any ts (after (k.key w.If) p) (after_depths d) NoElse Any ts make_first
  choice_parts p ts =
      leads_as (PO p) POD (after (k.key w.If) p) (after_depths d) NoElse Any make_first first_depths (first_into p) (first_out p) ts

  -- ---- no other branch

  no_others : (u : Others) (a : Placed) (y z : List Placed) → (kind_of a ≡ k.key w.Else → ⊥) → others_at u (a ∷ y) z
      → (u ≡ (no_generate_branch, no_generate_else)) × (z ≡ a ∷ y)
  no_others (no_generate_branch, no_generate_else) a y z n (mid, e, (i, g)) = (refl, sym (e ∙ i))
  no_others (no_generate_branch, generate_else b) a y z n (mid, e, (m1, (q, h), r)) =
      let i : a ≡ at (k.key w.Else) q = (let j = e ∙ h in cc) in
      absurd (n (ap kind_of i))
  no_others (more_generate_branch q c b bs, o) a y z n (mid, (m1, (p, h), r), e) =
      let i : a ≡ at (k.key w.Else) p = cc in
      absurd (n (ap kind_of i))

  no_others_end : (u : Others) (z : List Placed) → others_at u [] z → (u ≡ (no_generate_branch, no_generate_else)) × (z ≡ [])
  no_others_end (no_generate_branch, no_generate_else) z (mid, e, (i, g)) = (refl, sym (e ∙ i))
  no_others_end (no_generate_branch, generate_else b) z (mid, e, (m1, (q, h), r)) = let j = e ∙ h in absurd cc
  no_others_end (more_generate_branch q c b bs, o) z (mid, (m1, (p, h), r), e) = absurd cc

  kept_else : (ts : List Placed) → NoElse ts → (a : Placed) (more : List Placed) → ts ≡ a ∷ more → (y : List Placed) → NoElse (a ∷ y)
  kept_else ts n a more e y = subst NoElse e n

  pub others_none : (ts : List Placed) → NoElse ts
      → Took others_at (others_depths d) NoElse Any (no_generate_branch, no_generate_else) ts ts
  others_none ts n = record {
    used = [];
    whole = refl;
    here = (ts, refl, (refl, n));
    any = λ z g. (z, refl, (refl, g));
    kept = λ a more e y. (a ∷ y, refl, (refl, kept_else ts n a more e y));
    forced = λ a more e u y z c g. no_others u a y z (kept_else ts n a more e y) c;
    ended = λ u z c g. no_others_end u z c;
    deep = tt;
  }

  -- ---- after an `else`

  abbrev pub else_at : Place → Others → List Placed → List Placed → Type 0
  else_at p x us z = others_at x (at (k.key w.Else) p ∷ us) z

  abbrev pub else_depths : Others → List ℕ
  else_depths x = rest_of (others_depths d x)

  else_depth : (p : Place) (x : Others) (us z : List Placed) → else_at p x us z → others_depths d x ≡ d ∷ else_depths x
  else_depth p (no_generate_branch, no_generate_else) us z (mid, e, (i, g)) = absurd ((subst NoElse (sym (e ∙ i)) g) refl)
  else_depth p (no_generate_branch, generate_else b) us z c = refl
  else_depth p (more_generate_branch q c b bs, o) us z h = refl

  pub else_part : d ≤ 200 → (p : Place) (ts us : List Placed) → ts ≡ at (k.key w.Else) p ∷ us
      → Leads (else_at p) else_depths NoElse Any us others_at (others_depths d) NoElse Any ts (λ x. x)
  else_part low p ts us h =
      leads_same (else_at p) else_depths others_at (others_depths d) NoElse Any (at (k.key w.Else) p) d low (else_depth p)
      (λ x us z c. c) (λ u us z c g. c) ts us h

  -- ---- another branch

  next_depths : (x : Plain × Others) → else_depths (make_next x) ≡ d ∷ POD x
  next_depths ((q, c, b), (bs, o)) = ap (λ v. d ∷ v) (first_depths ((q, c, b), (bs, o)))

  next_into : (o p : Place) (x : Plain × Others) (us z : List Placed) → PO p x us z → else_at o (make_next x) (at (k.key w.If) p ∷ us) z
  next_into o p ((q, c, b), (bs, e)) us z (m1, (i, (m2, g, s)), (m3, r, t)) =
      (m3, (at (k.key w.If) p ∷ us, (o, refl), (us, ap (λ v. at (k.key w.If) v ∷ us) (sym i), (m2, g, (m1, s, r)))), t)

  next_out : (o p : Place) (u : Others) (us z : List Placed) → else_at o u (at (k.key w.If) p ∷ us) z → Any z
      → (x : Plain × Others) × PO p x us z × (u ≡ make_next x)
  next_out o p (no_generate_branch, no_generate_else) us z (mid, e, (i, g)) v = absurd ((subst NoElse (sym (e ∙ i)) g) refl)
  next_out o p (no_generate_branch, generate_else b) us z (mid, e, (m1, (q, h), (i, s))) v =
      let j : at (k.key w.Else) o ∷ at (k.key w.If) p ∷ us ≡ at (k.key w.Else) q ∷ m1 = e ∙ h in
      let n : m1 ≡ at (k.key w.If) p ∷ us = cc in
      let l : is_generate_if b ≡ true = if_block b p us z (subst (λ y. generate_block_at b y z) n s) in
      let t : false ≡ true = sym i ∙ l in
      absurd cc
  next_out o p (more_generate_branch q c b bs, t) us z (m3, (m0, (a, h), (m4, i, (m2, g, (m1, s, r)))), e) v =
      let n : m0 ≡ at (k.key w.If) p ∷ us = cc in
      let j : at (k.key w.If) p ∷ us ≡ at (k.key w.If) q ∷ m4 = sym n ∙ i in
      let l : q ≡ p = cc in
      let y : m4 ≡ us = cc in
      (((q, c, b), (bs, t)), (m1, (l, (m2, subst (λ x. grouped_at c x m2) y g, s)), (m3, r, e)), refl)

  pub next_part : d ≤ 200 → (o p : Place) (ts us : List Placed) → ts ≡ at (k.key w.If) p ∷ us
      → Leads (PO p) POD NoElse Any us (else_at o) else_depths NoElse Any ts make_next
  next_part low o p ts us h =
      leads_after (PO p) POD (else_at o) else_depths NoElse Any make_next (at (k.key w.If) p) d low next_depths (next_into o p)
      (next_out o p) ts us h

  -- ---- a last `else`

  module _ (o : Place) (ts : List Placed) (n : Not (k.key w.If) ts) where
    abbrev last : GenerateBlock → Others
    last b = (no_generate_branch, generate_else b)

    no_if : (a : Placed) (more : List Placed) → ts ≡ a ∷ more → (y : List Placed) → Not (k.key w.If) (a ∷ y)
    no_if a more e y = subst (Not (k.key w.If)) e n

    last_into : (b : GenerateBlock) (us z : List Placed) → is_generate_if b ≡ false → generate_block_at b us z → else_at o (last b) us z
    last_into b us z i c = (at (k.key w.Else) o ∷ us, refl, (us, (o, refl), (i, c)))

    last_out : (u : Others) (us z : List Placed) → Not (k.key w.If) us → else_at o u us z
        → (b : GenerateBlock) × generate_block_at b us z × (u ≡ last b)
    last_out (no_generate_branch, no_generate_else) us z v (mid, e, (i, g)) = absurd ((subst NoElse (sym (e ∙ i)) g) refl)
    last_out (no_generate_branch, generate_else b) us z v (mid, e, (m1, (q, h), (i, s))) =
        let j : at (k.key w.Else) o ∷ us ≡ at (k.key w.Else) q ∷ m1 = e ∙ h in
        let l : m1 ≡ us = cc in
        (b, subst (λ y. generate_block_at b y z) l s, refl)
    last_out (more_generate_branch q c b bs, t) us z v (m3, (m0, (a, h), (m4, i, r)), e) =
        let l : us ≡ m0 = cc in
        absurd ((subst (Not (k.key w.If)) (l ∙ i) v) refl)

    last_took : (b : GenerateBlock) (rest : List Placed) → Took generate_block_at (generate_block_depths (d + 1)) NoElse Any b ts rest
        → Took (else_at o) else_depths NoElse Any (last b) ts rest
    last_took b rest p =
        let i = not_if b ts rest n p.here in
        record {
          used = p.used;
          whole = p.whole;
          here = last_into b ts rest i p.here;
          any = λ z g. last_into b (p.used ++ z) z i (p.any z g);
          kept = λ a more e y. last_into b (p.used ++ a ∷ y) (a ∷ y) i (p.kept a more e y);
          forced = λ a more e u y z c g.
              let v =
              last_out u (p.used ++ a ∷ y) z (front_more (Not (k.key w.If)) ts tt no_if p.used a more
              (p.whole ∙ ap (λ x. p.used ++ x) e) y) c in
              let h = p.forced a more e v.0 y z v.1 g in
              (v.2 ∙ ap last h.0, h.1);
          ended = λ u z c g.
              let v = last_out u p.used z (front_all (Not (k.key w.If)) ts tt no_if p.used rest p.whole) c in
              let h = p.ended v.0 z v.1 g in
              (v.2 ∙ ap last h.0, h.1);
          deep = p.deep;
        }

    -- a beginning goes on with a block that is no `if`
    last_viable : (used rest : List Placed) → ts ≡ used ++ rest
        → ((z : List Placed) → NoElse z
        → (t : GenerateBlock) × (y : List Placed) × generate_block_at t (used ++ y) z × Within used (generate_block_depths (d + 1) t))
        → (z : List Placed) → NoElse z → (u : Others) × (y : List Placed) × else_at o u (used ++ y) z × Within used (else_depths u)
    last_viable [] rest e v z g =
        let end : List Placed = at (k.key w.Endgenerate) somewhere ∷ z in
        let all : List Placed = at (k.key w.Generate) somewhere ∷ end in
        (last (single some_region), all, last_into (single some_region) all z refl (end, refl, (end, refl, (somewhere, refl))), tt)
    last_viable (b ∷ bs) rest e v z g =
        let s = v z g in (
          last s.0,
          s.1,
          last_into s.0 (b ∷ (bs ++ s.1)) z
              (not_if s.0 (b ∷ (bs ++ s.1)) z (no_if b (bs ++ rest) e (bs ++ s.1)) s.2) s.2,
          s.3,
        )

    last_fails : (e : Fault) → Refuses generate_block_at (generate_block_depths (d + 1)) NoElse Any ts e
        → Refuses (else_at o) else_depths NoElse Any ts e
    last_fails f.Memory r = r
    last_fails (f.At left) s = record {
      used = s.used;
      rest = s.rest;
      whole = s.whole;
      place = s.place;
      viable = last_viable s.used s.rest s.whole s.viable;
      bad = λ a more e u y z c g.
          let v =
          last_out u (s.used ++ a ∷ y) z (front_more (Not (k.key w.If)) ts tt no_if s.used a more
          (s.whole ∙ ap (λ x. s.used ++ x) e) y) c in
          s.bad a more e v.0 y z v.1 g;
      short = λ u z c g.
          let v = last_out u s.used z (front_all (Not (k.key w.If)) ts tt no_if s.used s.rest s.whole) c in
          s.short v.0 z v.1 g;
    }
    last_fails (f.Deep left) s = record {
      used = s.used;
      rest = s.rest;
      whole = s.whole;
      place = s.place;
      some = s.some;
      viable = λ z g.
          let v = s.viable z g in (
            last v.0,
            v.1,
            last_into v.0 (s.used ++ v.1) z
                (not_if v.0 (s.used ++ v.1) z (front_some (Not (k.key w.If)) ts tt no_if s.used s.rest s.whole s.some v.1) v.2) v.2,
            v.3,
          );
      each = λ u y z c g.
          let v = last_out u (s.used ++ y) z (front_some (Not (k.key w.If)) ts tt no_if s.used s.rest s.whole s.some y) c in
          subst (λ x. Sinks s.used (else_depths x)) (sym v.2) (s.each v.0 y z v.1 g);
    }

    pub last_part : Leads generate_block_at (generate_block_depths (d + 1)) NoElse Any ts (else_at o) else_depths NoElse Any ts last
    last_part = record { took = last_took; fails = last_fails }
