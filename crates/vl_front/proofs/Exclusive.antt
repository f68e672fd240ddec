-- A text has one first fault at most, and none where its tokens are a source.
use Rattle.std.proofs.Common.{◌≡◌, ℕ, List, true, false, Ok, Err, inl, inr, sym, ◌∙◌, ap, subst}
use Rattle.vl_tree.specs.declared.fault.FaultKind.TheVariants as k
use Rattle.vl_tree.specs.Token.{Tokens}
use Rattle.vl_tree.specs.Tree.{Module}
use Rattle.vl_tree.specs.Placed.{placed}
use Rattle.vl_source.proofs.Refusals.{refusal_law}
use Rattle.vl_front.specs.Spelled.{Fault, spelled}
use Rattle.vl_front.specs.FirstFault.{AreSource, tree_fault, HasTreeFault, HasFirst}
use Rattle.vl_tree.specs.Derives.{IsSource}
use Rattle.vl_front.specs.Top.{Asked, is_topless, HasNoTop}
use Rattle.vl_front.specs.OneModule.{IsOneModule}
use Rattle.vl_front.specs.Laws.{HaveOneFault, SourcesHaveNone}

no_tree_fault : (ts : Tokens) (f : Fault) → AreSource ts → HasTreeFault ts f → ⊥
no_tree_fault ts f s (n, inl (h, e)) = (refusal_law (placed 0 ts)).sound s.0 n s.1 h
no_tree_fault ts f s (n, inr (h, e)) = (refusal_law (placed 0 ts)).shallow s.0 n s.1 h

one_tree_fault : (ts : Tokens) (f g : Fault) → HasTreeFault ts f → HasTreeFault ts g → f ≡ g
one_tree_fault ts f g (n, inl (a, d)) (m, inl (b, e)) =
    d ∙ ap (λ x. tree_fault ts x k.Syntax) ((refusal_law (placed 0 ts)).bad n m a b) ∙ sym e
one_tree_fault ts f g (n, inl (a, d)) (m, inr (b, e)) =
    absurd ((refusal_law (placed 0 ts)).apart n m a b)
one_tree_fault ts f g (n, inr (a, d)) (m, inl (b, e)) =
    absurd ((refusal_law (placed 0 ts)).apart m n b a)
one_tree_fault ts f g (n, inr (a, d)) (m, inr (b, e)) =
    d ∙ ap (λ x. tree_fault ts x k.Deep) ((refusal_law (placed 0 ts)).deep n m a b) ∙ sym e

-- a text is spelled of one list of tokens
one_list : (text : List ℕ) (ts us : Tokens) → spelled text ≡ Ok ts → spelled text ≡ Ok us → ts ≡ us
one_list text ts us d e = let s : Ok ts ≡ Ok us = sym d ∙ e in cc

not_spelled : (text : List ℕ) (ts : Tokens) (f : Fault) → spelled text ≡ Ok ts → spelled text ≡ Err f → ⊥
not_spelled text ts f d e = let s : Ok ts ≡ Err f = sym d ∙ e in absurd cc

pub sources_have_none : SourcesHaveNone
sources_have_none text ts f d s (inl e) = not_spelled text ts f d e
sources_have_none text ts f d s (inr (us, e, h)) = no_tree_fault us f (subst AreSource (one_list text ts us d e) s) h

pub one_fault : HaveOneFault
one_fault text f g (inl d) (inl e) = let s : Err f ≡ Err g = sym d ∙ e in cc
one_fault text f g (inl d) (inr (ts, e, h)) = absurd (not_spelled text ts f e d)
one_fault text f g (inr (ts, d, h)) (inl e) = absurd (not_spelled text ts g d e)
one_fault text f g (inr (ts, d, a)) (inr (us, e, b)) =
    one_tree_fault ts f g a (subst (λ x. HasTreeFault x g) (sym (one_list text ts us d e)) b)

-- nor has one that is a module's text
pub no_fault : (text : List ℕ) (top : Asked) (m : Module) (f : Fault) → IsOneModule text top m → HasFirst text f → ⊥
no_fault text top m f i h = sources_have_none text i.tokens f i.is_spelled (i.have_top.0, i.have_top.1) h

-- and that has a top
pub no_lack : (text : List ℕ) (top : Asked) (m : Module) (line : ℕ) → IsOneModule text top m → HasNoTop text top line → ⊥
no_lack text top m line i h =
    let s = i.have_top.0 in
    let is = subst (λ us. IsSource (placed 0 us) s) (one_list text i.tokens h.0 i.is_spelled h.1) i.have_top.1 in
    let t : true ≡ false = sym (h.2.1 s is) ∙ i.have_top.2 in absurd cc
