-- From what an item begins with to the item.
use Rattle.std.proofs.Common.{◌≡◌, ◌≤◌, ℕ, List, [], ◌∷◌, length, refl, sym, ◌∙◌, ap, subst}
use Rattle.vl_tree.specs.declared.token.Key.TheVariants as w
use Rattle.vl_tree.specs.declared.token.Mark.TheVariants as m
use Rattle.vl_tree.specs.Token.{Literal}
use Rattle.vl_tree.specs.Token as k
use Rattle.vl_tree.specs.Syntax.{Place, Loop, Item, region, generate_loop, generate_if, no_item, no_generate_branch}
use Rattle.vl_tree.specs.Syntax.{more_generate_branch, no_generate_else}
use Rattle.vl_tree.specs.Placed.{Placed, at}
use Rattle.vl_tree.specs.Statements.{loop_at, NoElse}
use Rattle.vl_tree.specs.Modules.{item_at}
use Rattle.vl_tree.specs.Depth.{item_depths}
use Rattle.vl_tree.specs.Derives.{Sinks}
use Rattle.vl_read.specs.Reading.{Sunk, Any}
use Rattle.vl_read.specs.Tokens.{Not}
use Rattle.vl_read.proofs.Pieces.{Productive, sunk_here}
use Rattle.vl_read.proofs.Leads.{Leads, leads_where, leads_same}
use Rattle.vl_read.proofs.TokenRules.{somewhere}
use Rattle.vl_expr.proofs.Common.{some_number, zero_literal}
use Rattle.vl_simple.specs.Readers.{grouped_at}
use Rattle.vl_item.specs.Readers.{plain_item_at}
use Rattle.vl_source.specs.declared.items.Structure.{Structure}
use Rattle.vl_source.specs.declared.items.Structure.TheVariants as structure
use Rattle.vl_source.specs.Readers.{structure_word, NoStructure, after, after_depths}
use Rattle.vl_source.proofs.Heads.{first_depth, some_block}

-- ---- some item that begins with a structure's word

abbrev some_loop : Loop
some_loop = record {
  variable = record { text = []; place = somewhere };
  first = some_number;
  condition = some_number;
  stepped = record { text = []; place = somewhere };
  step = some_number;
}

loop_some : Productive loop_at Any
loop_some z f =
    let close : List Placed = at (k.mark m.CloseParen) somewhere ∷ z in
    let t9 : List Placed = at (k.number zero_literal) somewhere ∷ close in
    let t8 : List Placed = at (k.mark m.Equals) somewhere ∷ t9 in
    let t7 : List Placed = at (k.name []) somewhere ∷ t8 in
    let t6 : List Placed = at (k.mark m.Semicolon) somewhere ∷ t7 in
    let t5 : List Placed = at (k.number zero_literal) somewhere ∷ t6 in
    let t4 : List Placed = at (k.mark m.Semicolon) somewhere ∷ t5 in
    let t3 : List Placed = at (k.number zero_literal) somewhere ∷ t4 in
    let t2 : List Placed = at (k.mark m.Equals) somewhere ∷ t3 in
    let t1 : List Placed = at (k.name []) somewhere ∷ t2 in (
      some_loop,
      at (k.mark m.OpenParen) somewhere ∷ t1,
      (
        t1,
        (somewhere, refl),
        (
          close,
          (
            t2,
            refl,
            (
              t3,
              (somewhere, refl),
              (
                t4,
                refl,
                (
                  t5,
                  (somewhere, refl),
                  (t6, refl, (t7, (somewhere, refl), (t8, refl, (t9, (somewhere, refl), refl)))),
                ),
              ),
            ),
          ),
          (somewhere, refl),
        ),
      ),
    )

grouped_some : Productive grouped_at Any
grouped_some z f =
    let close : List Placed = at (k.mark m.CloseParen) somewhere ∷ z in
    let value : List Placed = at (k.number zero_literal) somewhere ∷ close in
    (some_number, at (k.mark m.OpenParen) somewhere ∷ value, (value, (somewhere, refl), (close, refl, (somewhere, refl))))

some_start : (x : Structure) (p : Place) (z : List Placed) → NoElse z
    → (t : Item) × (y : List Placed) × item_at t (at (k.key (structure_word x)) p ∷ y) z
some_start structure.Region p z g =
    let last : List Placed = at (k.key w.Endgenerate) somewhere ∷ z in
    (region p no_item, last, (last, refl, (last, refl, (somewhere, refl))))
some_start structure.Loop p z g =
    let b = some_block NoElse z g in
    let l = loop_some b.1 tt in
    (generate_loop p l.0 b.0, l.1, (l.1, refl, (b.1, l.2, b.2)))
some_start structure.Choice p z g =
    let b = some_block NoElse z g in
    let c = grouped_some b.1 tt in (
      generate_if (more_generate_branch p c.0 b.0 no_generate_branch) no_generate_else,
      c.1,
      (c.1, refl, (b.1, c.2, (z, b.2, (z, refl, (refl, g))))),
    )

-- ---- items that hold no others

plain_into : (u : Item) (us z : List Placed) → plain_item_at u us z → item_at u us z
plain_into (region p is) us z c = absurd c
plain_into (generate_loop p l b) us z c = absurd c
plain_into (generate_if bs o) us z c = absurd c
plain_into u us z c = c

plain_out : (u : Item) (us z : List Placed) → NoStructure us → item_at u us z → Any z → (x : Item) × plain_item_at x us z × (u ≡ x)
plain_out (region p is) us z n (mid, h, r) g = absurd ((subst (Not (k.key w.Generate)) h n.0) refl)
plain_out (generate_loop p l b) us z n (mid, h, r) g = absurd ((subst (Not (k.key w.For)) h n.1) refl)
plain_out (generate_if no_generate_branch o) us z n h g = absurd h
plain_out (generate_if (more_generate_branch p c b bs) o) us z n (mid, h, r) g = absurd ((subst (Not (k.key w.If)) h n.2) refl)
plain_out u us z n c g = (u, c, refl)

module _ (d : ℕ) where
  -- where no structure's word comes next
  pub plain_part : (ts : List Placed) → NoStructure ts
      → Leads plain_item_at (item_depths d) NoElse Any ts item_at (item_depths d) NoElse Any ts (λ x. x)
  plain_part ts n =
      leads_where NoStructure ts (tt, tt, tt) (λ a rest e y. subst NoStructure e n) plain_item_at (item_depths d) item_at
      (item_depths d) NoElse Any
      (λ x. x) (λ x. refl) plain_into plain_out

  module _ (x : Structure) (p : Place) (ts us : List Placed) (h : ts ≡ at (k.key (structure_word x)) p ∷ us) where
    sinks_here : (u : Item) (y z : List Placed) → item_at u (at (k.key (structure_word x)) p ∷ y) z → d ≡ 201
        → Sinks (at (k.key (structure_word x)) p ∷ []) (item_depths d u)
    sinks_here u y z c j =
        subst (Sinks (at (k.key (structure_word x)) p ∷ [])) (sym (first_depth d u (at (k.key (structure_word x)) p ∷ y) z c)) j

    pub start_sunk : d ≡ 201 → Sunk item_at (item_depths d) NoElse Any ts (length ts)
    start_sunk j =
        sunk_here item_at (item_depths d) NoElse Any ts (at (k.key (structure_word x)) p) us h
        (λ z g. let o = some_start x p z g in (o.0, o.1, o.2, sinks_here o.0 o.1 z o.2 j))
        (λ u y z c g. sinks_here u y z c j)

    -- after the structure's word
    pub rest_part : d ≤ 200 → (y : Structure) → x ≡ y
        → Leads (after (k.key (structure_word y)) p) (after_depths d) NoElse Any us item_at (item_depths d) NoElse Any ts (λ i. i)
    rest_part low y e =
        leads_same (after (k.key (structure_word y)) p) (after_depths d) item_at (item_depths d) NoElse Any
        (at (k.key (structure_word y)) p) d low
        (λ u us z c. first_depth d u (at (k.key (structure_word y)) p ∷ us) z c) (λ u us z c. c) (λ u us z c g. c) ts us
        (h ∙ ap (λ v. at (k.key (structure_word v)) p ∷ us) e)
