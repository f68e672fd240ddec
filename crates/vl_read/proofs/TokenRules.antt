-- Single tokens: which of them comes, and what a reader that wants one answers.
use Rattle.std.proofs.Common.{◌≡◌, ◌≤◌, ◌+◌, ℕ, suc, List, [], ◌∷◌, length, drop, refl, sym, ◌∙◌, ap, subst}
use Rattle.vl_tree.specs.Token.{Kind}
use Rattle.vl_tree.specs.Token as k
use Rattle.vl_tree.specs.Syntax.{Place, Name}
use Rattle.std.proofs.lemmas.List.{length-map, drop-map}
use Rattle.vl_tree.specs.declared.token.Token as declared
use Rattle.vl_tree.specs.declared.token.TokenKind.{TokenKind}
use Rattle.vl_tree.specs.declared.token.TokenKind.TheVariants as code
use Rattle.vl_tree.specs.Token.{Tokens, token, coded, coded_kind, all_coded}
use Rattle.vl_tree.specs.Placed.{Placed, placed, at, kind_of}
use Rattle.vl_tree.specs.Piece.{kind_at, kind, name_at}
use Rattle.vl_read.specs.Reading.{Took, Stuck, Any, Both}
use Rattle.vl_read.specs.Tokens.{one, one_deep, Not}
use Rattle.vl_read.proofs.Pieces.{Links, Productive}

-- as many tokens stand there
pub placed_length : (n : ℕ) (ts : Tokens) → length (placed n ts) ≡ length ts
placed_length n [] = refl
placed_length n (token line a ∷ ts) = ap suc (placed_length (n + 1) ts)

pub left_is : (n : ℕ) (ts : List declared.Token) → length ts ≡ length (placed n (all_coded ts))
left_is n ts = sym (placed_length n (all_coded ts) ∙ length-map ts coded)

pub coded_drop : (n : ℕ) (ts : List declared.Token) → all_coded (drop n ts) ≡ drop n (all_coded ts)
coded_drop n ts = sym (drop-map coded n ts)

-- some place
abbrev pub somewhere : Place
somewhere = record { token = 0; line = 0 }

module _ (a : Kind) (d : ℕ) where
  -- ---- a token that is no part of a tree

  pub took_kind : d ≤ 200 → (p : Place) (ts rest : List Placed) → ts ≡ at a p ∷ rest
      → Took (one (kind a)) (one_deep d) Any Any tt ts rest
  took_kind low p ts rest h = record {
    used = at a p ∷ [];
    whole = h;
    here = (p, h);
    any = λ z f. (p, refl);
    kept = λ b after e y. (p, refl);
    forced = λ b after e u y z c g. (refl, cc);
    ended = λ u z c g. (refl, cc);
    deep = (low, tt);
  }

  pub stuck_kind : (ts : List Placed) → Not a ts → Stuck (one (kind a)) (one_deep d) Any Any ts (length ts)
  stuck_kind ts n = record {
    used = [];
    rest = ts;
    whole = refl;
    place = refl;
    viable = λ z f. (tt, at a somewhere ∷ z, (somewhere, refl), tt);
    bad = λ b after e u y z w g. let q : b ≡ at a w.0 = cc in (subst (Not a) e n) (ap kind_of q);
    short = λ u z w g. absurd cc;
  }

  -- ---- a token whose place is kept

  pub took_kind_at : d ≤ 200 → (p : Place) (ts rest : List Placed) → ts ≡ at a p ∷ rest
      → Took (kind_at a) (one_deep d) Any Any p ts rest
  took_kind_at low p ts rest h = record {
    used = at a p ∷ [];
    whole = h;
    here = h;
    any = λ z f. refl;
    kept = λ b after e y. refl;
    forced = λ b after e u y z c g. (cc, cc);
    ended = λ u z c g. (cc, cc);
    deep = (low, tt);
  }

  pub stuck_kind_at : (ts : List Placed) → Not a ts → Stuck (kind_at a) (one_deep d) Any Any ts (length ts)
  stuck_kind_at ts n = record {
    used = [];
    rest = ts;
    whole = refl;
    place = refl;
    viable = λ z f. (somewhere, at a somewhere ∷ z, refl, tt);
    bad = λ b after e u y z w g. let q : b ≡ at a u = cc in (subst (Not a) e n) (ap kind_of q);
    short = λ u z w g. absurd cc;
  }

-- ---- links

module _ (b : Kind) (F G P : List Placed → Type 0) (ends : (p : Place) (z : List Placed) → P (at b p ∷ z)) where
  -- before one token
  pub link_kind : Links (one (kind b)) F G P P
  link_kind = record {
    some = λ z f. (tt, at b somewhere ∷ z, (somewhere, refl), ends somewhere z);
    empty = λ u z c f. subst P (sym c.1) (ends c.0 z);
    starts = λ u a z c g. subst P (sym c.1) (ends c.0 z);
  }

  pub link_kind_at : Links (kind_at b) F G P P
  link_kind_at = record {
    some = λ z f. (somewhere, at b somewhere ∷ z, refl, ends somewhere z);
    empty = λ u z c f. subst P (sym c) (ends u z);
    starts = λ u a z c g. subst P (sym c) (ends u z);
  }

  -- before one token and what comes after it
  pub link_kind_first : {K : Type 0} (E : K → List Placed → List Placed → Type 0) → Productive E F
      → Links (Both (one (kind b)) E) F G P P
  link_kind_first E q = record {
    some = λ z f. let o = q z f in ((tt, o.0), at b somewhere ∷ o.1, (o.1, (somewhere, refl), o.2), ends somewhere o.1);
    empty = λ u z c f. subst P (sym c.1.1) (ends c.1.0 c.0);
    starts = λ u a z c g. subst P (sym c.1.1) (ends c.1.0 c.0);
  }

  pub link_kind_at_first : {K : Type 0} (E : K → List Placed → List Placed → Type 0) → Productive E F
      → Links (Both (kind_at b) E) F G P P
  link_kind_at_first E q = record {
    some = λ z f. let o = q z f in ((somewhere, o.0), at b somewhere ∷ o.1, (o.1, refl, o.2), ends somewhere o.1);
    empty = λ u z c f. subst P (sym c.1) (ends u.0 c.0);
    starts = λ u a z c g. subst P (sym c.1) (ends u.0 c.0);
  }

-- ---- names

pub same_name : (a b : Name) → a.text ≡ b.text → a.place ≡ b.place → a ≡ b
same_name a b p q = λ i. record { text = p i; place = q i }

-- no name comes next
abbrev pub NotName : List Placed → Type 0
NotName [] = Unit {0}
NotName (a ∷ rest) = (n : List ℕ) → kind_of a ≡ k.name n → ⊥

pub not_name : (a : TokenKind) → ((x : List ℕ) → a ≡ code.Name x → ⊥) → (n : List ℕ) → coded_kind a ≡ k.name n → ⊥
not_name (code.Name x) f n h = f x refl
not_name (code.System s) f n h = absurd cc
not_name (code.Number l) f n h = absurd cc
not_name (code.Str s) f n h = absurd cc
not_name (code.Key w) f n h = absurd cc
not_name (code.Mark m) f n h = absurd cc

module _ (d : ℕ) where
  pub took_name : d ≤ 200 → (n : Name) (ts rest : List Placed) → ts ≡ at (k.name n.text) n.place ∷ rest
      → Took name_at (one_deep d) Any Any n ts rest
  took_name low n ts rest h = record {
    used = at (k.name n.text) n.place ∷ [];
    whole = h;
    here = h;
    any = λ z f. refl;
    kept = λ b after e y. refl;
    forced = λ b after e u y z c g. let t : n.text ≡ u.text = cc in let q : n.place ≡ u.place = cc in (sym (same_name n u t q), cc);
    ended = λ u z c g. let t : n.text ≡ u.text = cc in let q : n.place ≡ u.place = cc in (sym (same_name n u t q), cc);
    deep = (low, tt);
  }

  pub stuck_name : (ts : List Placed) → NotName ts → Stuck name_at (one_deep d) Any Any ts (length ts)
  stuck_name ts n = record {
    used = [];
    rest = ts;
    whole = refl;
    place = refl;
    viable = λ z f. (record { text = []; place = somewhere }, at (k.name []) somewhere ∷ z, refl, tt);
    bad = λ b after e u y z w g. let q : b ≡ at (k.name u.text) u.place = cc in (subst NotName e n) u.text (ap kind_of q);
    short = λ u z w g. absurd cc;
  }
