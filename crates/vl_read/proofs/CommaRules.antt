-- The rule of a list with commas, for any rule of its trees.
use Rattle.std.proofs.Common.{◌≡◌, ◌≤◌, ℕ, List, [], ◌∷◌, ◌++◌, refl, sym, ap, subst, map}
use Rattle.vl_tree.specs.declared.token.Mark.TheVariants as m
use Rattle.vl_tree.specs.Token as k
use Rattle.vl_tree.specs.Syntax.{Place}
use Rattle.vl_tree.specs.Placed.{Placed, at, kind_of}
use Rattle.vl_tree.specs.Piece.{more_of, commas}
use Rattle.vl_tree.specs.Depth.{more_depths, comma_depths}
use Rattle.vl_read.specs.declared.fault.Fault.{Fault}
use Rattle.vl_read.specs.Reading.{Took, Refuses, Both, BothDepths}
use Rattle.vl_read.specs.Tokens.{Not}
use Rattle.vl_read.specs.Commas.{IsListed, EndsCommas}
use Rattle.vl_read.proofs.Pieces.{Links, took_empty}
use Rattle.vl_read.proofs.Fails.{fails_first}
use Rattle.vl_read.proofs.Leads.{Leads, leads_on, leads_as, leads_after, leads_second}

-- a list so far, one more, and those after them
pub map_more : {X N : Type 0} (view : X → N) (all : List X) (x : X) (es : List N)
    → map view (all ++ x ∷ []) ++ es ≡ map view all ++ (view x ∷ es)
map_more view [] x es = refl
map_more view (a ∷ all) x es = ap (λ w. view a ∷ w) (map_more view all x es)

module _ {N : Type 0} (D : N → List Placed → List Placed → Type 0) (M : ℕ → N → List ℕ) (may : List Placed → Type 0)
    (laws : IsListed D may) (d : ℕ) where
  abbrev End : List Placed → Type 0
  End = EndsCommas may

  abbrev M0 : N × List N → List Placed → List Placed → Type 0
  M0 = Both D (more_of D)

  abbrev M0D : N × List N → List ℕ
  M0D = BothDepths (M d) (more_depths M d)

  abbrev make : N × List N → List N
  make x = x.0 ∷ x.1

  more_starts : (u : List N) (a z : List Placed) → more_of D u a z → End z → may a
  more_starts [] a z c g = subst may (sym c) g.1
  more_starts (e ∷ es) a z (mid, (p, h), r) g = subst may (sym h) (laws.comma p mid)

  pub more_link : Links (more_of D) End End may may
  more_link = record { some = λ z f. ([], z, refl, f.1); empty = λ u z c f. f.1; starts = more_starts }

  module _ (p : Place) where
    comma_out : (u : List N) (us z : List Placed) → more_of D u (at (k.mark m.Comma) p ∷ us) z → End z
        → (x : N × List N) × M0 x us z × (u ≡ make x)
    comma_out [] us z c g = absurd ((subst (Not (k.mark m.Comma)) (sym c) g.0) refl)
    comma_out (e ∷ es) us z (mid, (q, h), r) g =
        let f : mid ≡ us = cc in
        ((e, es), subst (λ w. M0 (e, es) w z) f r, refl)

    module _ (low : d ≤ 200) (ts us : List Placed) (h : ts ≡ at (k.mark m.Comma) p ∷ us) where
      abbrev comma : Leads M0 M0D End End us (more_of D) (more_depths M d) End End ts make
      comma =
          leads_after M0 M0D (more_of D) (more_depths M d) End End make (at (k.mark m.Comma) p) d low (λ x. refl)
          (λ x us z c. (us, (p, refl), c)) comma_out ts us h

      pub more_fails : (e : Fault) → Refuses D (M d) may may us e → Refuses (more_of D) (more_depths M d) End End ts e
      more_fails e r = comma.fails e (fails_first D (M d) (more_of D) (more_depths M d) End End may may more_link us e r)

      pub more_next : (x : N) (t1 : List Placed) → Took D (M d) may may x us t1
          → Leads (more_of D) (more_depths M d) End End t1 (more_of D) (more_depths M d) End End ts (λ es. x ∷ es)
      more_next x t1 q = leads_on (leads_second D (M d) (more_of D) (more_depths M d) End End may may more_link x us t1 q) comma

  no_more : (u : List N) (a : Placed) (y z : List Placed) → (kind_of a ≡ k.mark m.Comma → ⊥) → more_of D u (a ∷ y) z
      → (u ≡ []) × (z ≡ a ∷ y)
  no_more [] a y z n c = (refl, sym c)
  no_more (e ∷ es) a y z n (mid, (p, h), r) = let q : a ≡ at (k.mark m.Comma) p = cc in absurd (n (ap kind_of q))

  no_more_end : (u : List N) (z : List Placed) → more_of D u [] z → (u ≡ []) × (z ≡ [])
  no_more_end [] z c = (refl, sym c)
  no_more_end (e ∷ es) z (mid, (p, h), r) = absurd cc

  pub more_none : (ts : List Placed) → Not (k.mark m.Comma) ts → Took (more_of D) (more_depths M d) End End [] ts ts
  more_none ts f =
      took_empty (more_of D) (more_depths M d) End End [] (λ z. refl) refl ts
      (λ a after e u y z c g. no_more u a y z (subst (Not (k.mark m.Comma)) e f) c) (λ u z c g. no_more_end u z c)

  whole_out : (u : List N) (us z : List Placed) → commas D u us z → End z → (x : N × List N) × M0 x us z × (u ≡ make x)
  whole_out [] us z c g = absurd c
  whole_out (e ∷ es) us z c g = ((e, es), c, refl)

  module _ (ts : List Placed) where
    abbrev whole : Leads M0 M0D End End ts (commas D) (comma_depths M d) End End ts make
    whole = leads_as M0 M0D (commas D) (comma_depths M d) End End make (λ x. refl) (λ x us z c. c) whole_out ts

    pub list_fails : (e : Fault) → Refuses D (M d) may may ts e → Refuses (commas D) (comma_depths M d) End End ts e
    list_fails e r = whole.fails e (fails_first D (M d) (more_of D) (more_depths M d) End End may may more_link ts e r)

    pub list_rest : (x : N) (t1 : List Placed) → Took D (M d) may may x ts t1
        → Leads (more_of D) (more_depths M d) End End t1 (commas D) (comma_depths M d) End End ts (λ es. x ∷ es)
    list_rest x t1 q = leads_on (leads_second D (M d) (more_of D) (more_depths M d) End End may may more_link x ts t1 q) whole
