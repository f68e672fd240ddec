-- How the answers for two parts make the answer for both, one after the other.
use Rattle.std.proofs.Common.{◌≡◌, ◌≤◌, ℕ, ◌∷◌, List, refl, sym, ◌∙◌, ap, subst, Ok, Err}
use Rattle.std.specs.Prelude.{Result, IsErrAnd}
use denote.Ref.{Bor}
use Rattle.vl_tree.specs.declared.token.Token as declared
use Rattle.vl_tree.specs.Token.{Kind, Tokens, token, coded_kind, all_coded}
use Rattle.vl_tree.specs.Grammar.{Piece, ◌then◌, kind, kind_on}
use Rattle.vl_module.specs.declared.SynFault.{SynFault}
use Rattle.vl_module.specs.declared.SynFault.TheVariants as fault
use Rattle.vl_module.specs.Reading.{Any, Took, NoTree, Refuses, Reads, Expects, one}

-- a part that is no tree, and then a tree
abbrev pub lead : {N : Type 0} → Piece → (N → Tokens → Tokens → Type 0) → N → Tokens → Tokens → Type 0
lead p D x = p then D x

-- a tree, and then a part that is none
abbrev pub trail : {N : Type 0} → (N → Tokens → Tokens → Type 0) → Piece → N → Tokens → Tokens → Type 0
trail D p x = D x then p

-- two trees
abbrev pub pair : {N K : Type 0} → (N → Tokens → Tokens → Type 0) → (K → Tokens → Tokens → Type 0) → N × K → Tokens → Tokens → Type 0
pair D E x = D x.0 then E x.1

-- ---- one token

module _ {N : Type 0} (K : N → Kind) (apart : (u v : N) → K u ≡ K v → u ≡ v) (d : ℕ) (low : d ≤ 200) where
  pub took_kind : (t : N) (line : ℕ) (ts us : Tokens) → ts ≡ token line (K t) ∷ us → Took (λ x. kind d (K x)) Any t ts us
  took_kind t line ts us e = record {
    here = (line, (low, e));
    only = λ u z c g.
        let i : token c.0 (K u) ∷ z ≡ token line (K t) ∷ us = sym c.1.1 ∙ e in
        let j : K u ≡ K t = cc in
        let k : z ≡ us = cc in
        (apart u t j, k);
  }

-- the code's tokens, where the first is of this kind
pub first_is : (ts us : List declared.Token) (a : declared.Token) (b : Kind) → ts ≡ a ∷ us → coded_kind a.kind ≡ b → all_coded ts ≡ token a.line b ∷ all_coded us
first_is ts us a b e i = ap all_coded e ∙ ap (λ w. token a.line w ∷ all_coded us) i

-- a token whose line is known, and one whose line isn't
module _ (d : ℕ) (a : Kind) (ts : Tokens) where
  pub took_any_line : (line : ℕ) (us : Tokens) → Took (λ l. kind_on d l a) Any line ts us → Took (one (kind d a)) Any tt ts us
  took_any_line line us p = record { here = (line, p.here); only = λ u z c g. (refl, (p.only c.0 z c.1 tt).1) }

  pub no_any_line : NoTree (λ l. kind_on d l a) Any ts → NoTree (one (kind d a)) Any ts
  no_any_line n u z c g = n c.0 z c.1 tt

-- ---- with no condition on the rest, and with one

module _ {N : Type 0} (D : N → Tokens → Tokens → Type 0) (G : Tokens → Type 0) (ts : Tokens) where
  pub took_less : (t : N) (rest : Tokens) → Took D Any t ts rest → Took D G t ts rest
  took_less t rest p = record { here = p.here; only = λ u z c g. p.only u z c tt }

  pub no_less : NoTree D Any ts → NoTree D G ts
  no_less n u z c g = n u z c tt

-- ---- a part that is no tree, and then a tree

module _ {N : Type 0} (p : Piece) (D : N → Tokens → Tokens → Type 0) (ts : Tokens) where
  pub no_lead_1 : NoTree (one p) Any ts → NoTree (lead p D) Any ts
  no_lead_1 n u z c g = n tt c.0 c.1 tt

  module _ (us : Tokens) (a : Took (one p) Any tt ts us) where
    pub took_lead : (t : N) (rest : Tokens) → Took D Any t us rest → Took (lead p D) Any t ts rest
    took_lead t rest b = record {
      here = (us, a.here, b.here);
      only = λ u z c g. b.only u z (subst (λ w. D u w z) (a.only tt c.0 c.1 tt).1 c.2) tt;
    }

    pub no_lead_2 : NoTree D Any us → NoTree (lead p D) Any ts
    no_lead_2 n u z c g = n u z (subst (λ w. D u w z) (a.only tt c.0 c.1 tt).1 c.2) tt

-- ---- a tree, and then a part before which the tree may end

module _ {N : Type 0} (D : N → Tokens → Tokens → Type 0) (G : Tokens → Type 0) (p : Piece) (ends : (us z : Tokens) → p us z → G us) (ts : Tokens) where
  pub no_trail_1 : NoTree D G ts → NoTree (trail D p) Any ts
  no_trail_1 n u z c g = n u c.0 c.1 (ends c.0 z c.2)

  module _ (t : N) (us : Tokens) (a : Took D G t ts us) where
    pub took_trail : (rest : Tokens) → Took (one p) Any tt us rest → Took (trail D p) Any t ts rest
    took_trail rest b = record {
      here = (us, a.here, b.here);
      only = λ u z c g.
          let i = a.only u c.0 c.1 (ends c.0 z c.2) in
          (i.0, (b.only tt z (subst (λ w. p w z) i.1 c.2) tt).1);
    }

    pub no_trail_2 : NoTree (one p) Any us → NoTree (trail D p) Any ts
    no_trail_2 n u z c g = n tt z (subst (λ w. p w z) (a.only u c.0 c.1 (ends c.0 z c.2)).1 c.2) tt

-- ---- two trees

module _ {N K : Type 0} (D : N → Tokens → Tokens → Type 0) (E : K → Tokens → Tokens → Type 0) (ts : Tokens) where
  pub no_pair_1 : NoTree D Any ts → NoTree (pair D E) Any ts
  no_pair_1 n u z c g = n u.0 c.0 c.1 tt

  module _ (t : N) (us : Tokens) (a : Took D Any t ts us) where
    pub took_pair : (v : K) (rest : Tokens) → Took E Any v us rest → Took (pair D E) Any (t, v) ts rest
    took_pair v rest b = record {
      here = (us, a.here, b.here);
      only = λ u z c g.
          let i = a.only u.0 c.0 c.1 tt in
          let j = b.only u.1 z (subst (λ w. E u.1 w z) i.1 c.2) tt in
          let h : u ≡ (t, v) = ap (λ w. (w, u.1)) i.0 ∙ ap (λ w. (t, w)) j.0 in
          (h, j.1);
    }

    pub no_pair_2 : NoTree E Any us → NoTree (pair D E) Any ts
    no_pair_2 n u z c g = n u.1 z (subst (λ w. E u.1 w z) (a.only u.0 c.0 c.1 tt).1 c.2) tt

-- ---- the same trees by other names

module _ {N K : Type 0} (D : N → Tokens → Tokens → Type 0) (E : K → Tokens → Tokens → Type 0) (G : Tokens → Type 0) (make : N → K) (ts : Tokens)
    (out : (u : K) (z : Tokens) → E u ts z → G z → (x : N) × (u ≡ make x) × D x ts z) where
  pub took_as : (into : (x : N) (z : Tokens) → D x ts z → E (make x) ts z) (t : N) (rest : Tokens) → Took D G t ts rest → Took E G (make t) ts rest
  took_as into t rest p = record {
    here = into t rest p.here;
    only = λ u z c g.
        let o = out u z c g in
        let i = p.only o.0 z o.2 g in
        (o.1 ∙ ap make i.0, i.1);
  }

  pub no_as : NoTree D G ts → NoTree E G ts
  no_as n u z c g = let o = out u z c g in n o.0 z o.2 g

-- ---- a fault that is handed on

pub hand_on : {N K : Type 0} (D : N → Tokens → Tokens → Type 0) (F : Tokens → Type 0) (us : Tokens) (E : K → Tokens → Tokens → Type 0) (G : Tokens → Type 0) (ts : Tokens)
    → (NoTree D F us → NoTree E G ts) → (e : SynFault) → Refuses D F us e → Refuses E G ts e
hand_on D F us E G ts f fault.NoTree r = f r
hand_on D F us E G ts f fault.Memory r = tt

module _ {N K X : Type 0} (D : N → Tokens → Tokens → Type 0) (F : Tokens → Type 0) (us : Tokens) (view : X → K) (E : K → Tokens → Tokens → Type 0) (G : Tokens → Type 0) (ts : Tokens)
    (f : NoTree D F us → NoTree E G ts) (e : SynFault) (r : Refuses D F us e) where
  -- a reader ends with the fault of a reader that it called
  pub fails : (result : Result (X × Bor (List declared.Token)) SynFault) → IsErrAnd result (λ y. y ≡ e) → Reads view E G ts result
  fails (Ok x) h = absurd h
  fails (Err y) h = subst (Refuses E G ts) (sym h) (hand_on D F us E G ts f e r)

pub fails_expects : (p q : Piece) (us ts : Tokens) → (NoTree (one p) Any us → NoTree (one q) Any ts) → (e : SynFault) → Refuses (one p) Any us e
    → (result : Result (Bor (List declared.Token)) SynFault) → IsErrAnd result (λ y. y ≡ e) → Expects q ts result
fails_expects p q us ts f e r (Ok x) h = absurd h
fails_expects p q us ts f e r (Err y) h = subst (Refuses (one q) Any ts) (sym h) (hand_on (one p) Any us (one q) Any ts f e r)

-- a part that is no tree, and then the last part
module _ (p q : Piece) (ts us : Tokens) (a : Took (one p) Any tt ts us) where
  pub expects_lead : (result : Result (Bor (List declared.Token)) SynFault) → Expects q us result → Expects (p then q) ts result
  expects_lead (Ok rest) b = took_lead p (one q) ts us a tt (all_coded rest.now) b
  expects_lead (Err e) b = hand_on (one q) Any us (one (p then q)) Any ts (no_lead_2 p (one q) ts us a) e b
