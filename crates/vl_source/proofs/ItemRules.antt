-- The rules of items in a row, of regions, loops and blocks.
use Rattle.std.proofs.Common.{◌≡◌, ◌≤◌, ◌+◌, ℕ, List, [], ◌∷◌, length, refl, sym, ◌∙◌, ap, subst, append_assoc}
use Rattle.std.specs.Prelude.{Option, None}
use Rattle.vl_tree.specs.declared.token.Key.{Key}
use Rattle.vl_tree.specs.declared.token.Key.TheVariants as w
use Rattle.vl_tree.specs.declared.token.Mark.TheVariants as m
use Rattle.vl_tree.specs.Token as k
use Rattle.vl_tree.specs.Syntax.{Place, Name, Loop, Item, region, generate_loop, generate_if, Items, no_item, more_item}
use Rattle.vl_tree.specs.Syntax.{GenerateBlock, single, several}
use Rattle.vl_tree.specs.Placed.{Placed, at}
use Rattle.vl_tree.specs.Statements.{label_at, loop_at, NoElse}
use Rattle.vl_tree.specs.Modules.{item_at, generate_block_at}
use Rattle.vl_tree.specs.Depth.{label_depths, loop_depths, item_depths, items_depths, generate_block_depths}
use Rattle.vl_tree.specs.Derives.{Sinks}
use Rattle.vl_read.specs.Reading.{Took, Sunk, Any, Both, BothDepths}
use Rattle.vl_read.specs.Tokens.{Not}
use Rattle.vl_read.proofs.Pieces.{Nothing, Productive, took_nothing, link_any, sunk_here}
use Rattle.vl_read.proofs.Leads.{Leads, leads_on, leads_less, leads_as, leads_after, leads_where}
use Rattle.vl_read.proofs.TokenRules.{somewhere}
use Rattle.vl_simple.specs.Readers.{NoColon}
use Rattle.vl_simple.proofs.Steps.{Joint}
use Rattle.vl_source.specs.Readers.{after, after_depths, IsClosing, closed_items_at, closed_items_depths}
use Rattle.vl_source.proofs.Heads.{sort, no_sort, head_sort, item_not, some_block}

-- ---- items and the keyword that closes them

closing_sort : (v : Key) → IsClosing v → sort (k.key v) ≡ no_sort
closing_sort w.End c = refl
closing_sort w.Endgenerate c = refl
closing_sort w.Endmodule c = refl
closing_sort v c = absurd c

closing_else : (v : Key) → IsClosing v → k.key v ≡ k.key w.Else → ⊥
closing_else w.End c h = absurd cc
closing_else w.Endgenerate c h = absurd cc
closing_else w.Endmodule c h = absurd cc
closing_else v c h = absurd c

module _ (v : Key) (cl : IsClosing v) where
  closed_else : (u : Items) (us z : List Placed) → closed_items_at v u us z → NoElse us
  closed_else no_item us z (mid, e, (p, h)) = subst NoElse (sym (e ∙ h)) (closing_else v cl)
  closed_else (more_item i is) [] z c = tt
  closed_else (more_item i is) (a ∷ us) z (m1, (m2, c, r), e) = item_not (k.key w.Else) refl i (a ∷ us) m2 c

  closed_colon : (u : Items) (us z : List Placed) → closed_items_at v u us z → NoColon us
  closed_colon no_item us z (mid, e, (p, h)) = subst NoColon (sym (e ∙ h)) (λ i. absurd cc)
  closed_colon (more_item i is) us z (m1, (m2, c, r), e) = item_not (k.mark m.Colon) refl i us m2 c

  pub some_closed : (F : List Placed → Type 0) → Productive (closed_items_at v) F
  some_closed F z f = let last : List Placed = at (k.key v) somewhere ∷ z in (no_item, last, (last, refl, (somewhere, refl)))

  module _ (d : ℕ) where
    last_out : (p : Place) (u : Items) (us z : List Placed) → closed_items_at v u (at (k.key v) p ∷ us) z → Any z
        → (x : Unit {0}) × Nothing x us z × (u ≡ no_item)
    last_out p no_item us z (mid, e, (q, h)) g = let i = e ∙ h in (tt, cc, refl)
    last_out p (more_item b bs) us z (m1, (m2, c, r), e) g =
        absurd ((item_not (k.key v) (closing_sort v cl) b (at (k.key v) p ∷ us) m2 c) refl)

    pub last_took : d ≤ 200 → (p : Place) (ts us : List Placed) → ts ≡ at (k.key v) p ∷ us
        → Took (closed_items_at v) (closed_items_depths d) Any Any no_item ts us
    last_took low p ts us h =
        (leads_after Nothing (λ u. []) (closed_items_at v) (closed_items_depths d) Any Any (λ u. no_item) (at (k.key v) p) d low (λ x. refl)
        (λ x us z c. (at (k.key v) p ∷ us, refl, (p, ap (λ y. at (k.key v) p ∷ y) c))) (last_out p) ts us h).took tt us
        (took_nothing Any Any us)

    abbrev pub IC : Item × Items → List Placed → List Placed → Type 0
    IC = Both item_at (closed_items_at v)

    abbrev pub ICD : Item × Items → List ℕ
    ICD = BothDepths (item_depths (d + 1)) (closed_items_depths d)

    pub item_next : Joint item_at (item_depths (d + 1)) (closed_items_at v) (closed_items_depths d) Any Any NoElse Any
    item_next = record {
      link = record {
        some = λ z f. let o = some_closed Any z f in (o.0, o.1, o.2, closed_else o.0 o.1 z o.2);
        empty = λ u z c f. closed_else u z z c;
        starts = λ u a z c g. tt;
      };
    }

    more_into : (x : Item × Items) (us z : List Placed) → IC x us z → closed_items_at v (more_item x.0 x.1) us z
    more_into x us z (m1, c, (m2, r, e)) = (m2, (m1, c, r), e)

    more_out : (u : Items) (us z : List Placed) → Not (k.key v) us → closed_items_at v u us z → Any z
        → (x : Item × Items) × IC x us z × (u ≡ more_item x.0 x.1)
    more_out no_item us z n (mid, e, (p, h)) g = absurd ((subst (Not (k.key v)) (e ∙ h) n) refl)
    more_out (more_item b bs) us z n (m2, (m1, c, r), e) g = ((b, bs), (m1, c, (m2, r, e)), refl)

    -- where the closing keyword doesn't come next
    pub more_part : (ts : List Placed) → Not (k.key v) ts
        → Leads IC ICD Any Any ts (closed_items_at v) (closed_items_depths d) Any Any ts (λ x. more_item x.0 x.1)
    more_part ts n =
        leads_where (Not (k.key v)) ts tt (λ a rest e y. subst (Not (k.key v)) e n) IC ICD (closed_items_at v)
        (closed_items_depths d) Any Any
        (λ x. more_item x.0 x.1) (λ x. append_assoc (item_depths (d + 1) x.0) (items_depths (d + 1) x.1) (d ∷ [])) more_into more_out

-- ---- regions

module _ (d : ℕ) (p : Place) where
  region_out : (u : Item) (us z : List Placed) → after (k.key w.Generate) p u us z → Any z
      → (x : Items) × closed_items_at w.Endgenerate x us z × (u ≡ region p x)
  region_out (region q is) us z (mid, h, r) g =
      let e : q ≡ p = cc in
      let i : mid ≡ us = cc in
      (is, subst (λ y. closed_items_at w.Endgenerate is y z) i r, ap (λ y. region y is) e)
  region_out (generate_loop q l b) us z h g = let e = head_sort (generate_loop q l b) (k.key w.Generate) p us z h in absurd cc
  region_out (generate_if bs o) us z h g = let e = head_sort (generate_if bs o) (k.key w.Generate) p us z h in absurd cc
  region_out u us z h g = let e = head_sort u (k.key w.Generate) p us z h in absurd cc

  pub region_part : (ts : List Placed)
      → Leads (closed_items_at w.Endgenerate) (closed_items_depths d) Any Any ts (after (k.key w.Generate) p) (after_depths d) NoElse Any ts
      (λ is. region p is)
  region_part ts =
      leads_on (leads_less (closed_items_at w.Endgenerate) (closed_items_depths d) Any Any NoElse Any (λ z g. tt) (λ z g. tt) ts)
      (leads_as (closed_items_at w.Endgenerate) (closed_items_depths d) (after (k.key w.Generate) p) (after_depths d) NoElse Any
      (λ is. region p is)
      (λ x. refl) (λ x us z c. (us, refl, c)) region_out ts)

  -- ---- loops

  abbrev pub LB : Loop × GenerateBlock → List Placed → List Placed → Type 0
  LB = Both loop_at generate_block_at

  abbrev pub LBD : Loop × GenerateBlock → List ℕ
  LBD = BothDepths (loop_depths d) (generate_block_depths (d + 1))

  pub header_next : Joint loop_at (loop_depths d) generate_block_at (generate_block_depths (d + 1)) NoElse Any Any Any
  header_next = record { link = link_any generate_block_at NoElse Any (some_block NoElse) }

  loop_out : (u : Item) (us z : List Placed) → after (k.key w.For) p u us z → Any z
      → (x : Loop × GenerateBlock) × LB x us z × (u ≡ generate_loop p x.0 x.1)
  loop_out (generate_loop q l b) us z (mid, h, r) g =
      let e : q ≡ p = cc in
      let i : mid ≡ us = cc in
      ((l, b), subst (λ y. LB (l, b) y z) i r, ap (λ y. generate_loop y l b) e)
  loop_out (region q is) us z h g = let e = head_sort (region q is) (k.key w.For) p us z h in absurd cc
  loop_out (generate_if bs o) us z h g = let e = head_sort (generate_if bs o) (k.key w.For) p us z h in absurd cc
  loop_out u us z h g = let e = head_sort u (k.key w.For) p us z h in absurd cc

  pub loop_parts : (ts : List Placed)
      → Leads LB LBD NoElse Any ts (after (k.key w.For) p) (after_depths d) NoElse Any ts (λ x. generate_loop p x.0 x.1)
  loop_parts ts =
      leads_as LB LBD (after (k.key w.For) p) (after_depths d) NoElse Any (λ x. generate_loop p x.0 x.1) (λ x. refl)
      (λ x us z c. (us, refl, c)) loop_out ts

-- ---- blocks

module _ (d : ℕ) where
  single_out : (u : GenerateBlock) (us z : List Placed) → Not (k.key w.Begin) us → generate_block_at u us z → Any z
      → (x : Item) × item_at x us z × (u ≡ single x)
  single_out (single i) us z n c g = (i, c, refl)
  single_out (several q l is) us z n (mid, h, r) g = absurd ((subst (Not (k.key w.Begin)) h n) refl)

  -- where no `begin` comes next
  pub single_part : (ts : List Placed) → Not (k.key w.Begin) ts
      → Leads item_at (item_depths d) NoElse Any ts generate_block_at (generate_block_depths d) NoElse Any ts single
  single_part ts n =
      leads_where (Not (k.key w.Begin)) ts tt (λ a rest e y. subst (Not (k.key w.Begin)) e n) item_at (item_depths d) generate_block_at
      (generate_block_depths d) NoElse Any single (λ x. refl) (λ x us z c. c) single_out

  abbrev pub NC : Option Name × Items → List Placed → List Placed → Type 0
  NC = Both label_at (closed_items_at w.End)

  abbrev pub NCD : Option Name × Items → List ℕ
  NCD = BothDepths (label_depths d) (closed_items_depths d)

  pub label_next : Joint label_at (label_depths d) (closed_items_at w.End) (closed_items_depths d) Any Any NoColon NoColon
  label_next = record {
    link = record {
      some = λ z f. let o = some_closed w.End tt Any z f in (o.0, o.1, o.2, closed_colon w.End tt o.0 o.1 z o.2);
      empty = λ u z c f. closed_colon w.End tt u z z c;
      starts = λ u a z c g. closed_colon w.End tt u a z c;
    };
  }

  module _ (p : Place) (ts us : List Placed) (h : ts ≡ at (k.key w.Begin) p ∷ us) where
    several_out : (u : GenerateBlock) (us z : List Placed) → generate_block_at u (at (k.key w.Begin) p ∷ us) z → Any z
        → (x : Option Name × Items) × NC x us z × (u ≡ several p x.0 x.1)
    several_out (single i) us z c g = absurd ((item_not (k.key w.Begin) refl i (at (k.key w.Begin) p ∷ us) z c) refl)
    several_out (several q n is) us z (mid, h, r) g =
        let e : q ≡ p = cc in
        let i : mid ≡ us = cc in
        ((n, is), subst (λ y. NC (n, is) y z) i r, ap (λ y. several y n is) e)

    -- after `begin`
    pub several_part : d ≤ 200
        → Leads NC NCD Any Any us generate_block_at (generate_block_depths d) NoElse Any ts (λ x. several p x.0 x.1)
    several_part low =
        leads_on (leads_less NC NCD Any Any NoElse Any (λ z g. tt) (λ z g. tt) us)
        (leads_after NC NCD generate_block_at (generate_block_depths d) NoElse Any (λ x. several p x.0 x.1) (at (k.key w.Begin) p) d low
        (λ x. refl)
        (λ x us z c. (us, refl, c)) several_out ts us h)

    first_sinks : (u : GenerateBlock) (us z : List Placed) → generate_block_at u (at (k.key w.Begin) p ∷ us) z → d ≡ 201
        → Sinks (at (k.key w.Begin) p ∷ []) (generate_block_depths d u)
    first_sinks (single i) us z c j = absurd ((item_not (k.key w.Begin) refl i (at (k.key w.Begin) p ∷ us) z c) refl)
    first_sinks (several q n is) us z c j = j

    pub begin_sunk : d ≡ 201 → Sunk generate_block_at (generate_block_depths d) NoElse Any ts (length ts)
    begin_sunk j =
        sunk_here generate_block_at (generate_block_depths d) NoElse Any ts (at (k.key w.Begin) p) us h
        (λ z f.
        let last : List Placed = at (k.key w.End) somewhere ∷ z in
        (several p None no_item, last, (last, refl, (last, refl, (last, refl, (somewhere, refl)))), j))
        (λ u y z c g. first_sinks u y z c j)
