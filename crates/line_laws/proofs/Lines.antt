-- Tokens on other lines are those tokens with their places moved.
use Rattle.std.proofs.Common.{◌≡◌, ◌+◌, ℕ, suc, List, [], ◌∷◌, ◌++◌, map, Some, length, refl, sym, ◌∙◌, ap, subst, arith}
use Rattle.std.specs.Prelude.{slice_get}
use Rattle.vl_tree.specs.Token.{Token, token, Tokens, kind_of}
use Rattle.vl_tree.specs.Syntax.{Place}
use Rattle.vl_tree.specs.Placed.{Placed, at, placed}
use Rattle.vl_tree.specs.Depth.{source_depths}
use Rattle.vl_tree.specs.Derives.{Within, IsSource}
use Rattle.line_laws.specs.Moved.{move_source}
use Rattle.line_laws.specs.Lines.{line_or, on_lines, LinesLaw}
use Rattle.line_laws.proofs.Pieces.{moved}
use Rattle.line_laws.proofs.Derives.{m_source}
use Rattle.line_laws.proofs.Depths.{d_source}

-- the token after the first ones
after_front : (front ts : Tokens) → slice_get (front ++ ts) (length front) ≡ slice_get ts 0
after_front [] ts = refl
after_front (a ∷ front) ts = after_front front ts

-- all tokens moved to their lines in `all`, of which `us` are those from number n on
moved_from : (all front us ts : Tokens) (n : ℕ) → all ≡ front ++ us → length front ≡ n → map kind_of ts ≡ map kind_of us
    → placed n us ≡ moved (on_lines all) (placed n ts)
moved_from all front [] [] n e l h = refl
moved_from all front [] (t ∷ ts) n e l h = absurd cc
moved_from all front (u ∷ us) [] n e l h = absurd cc
moved_from all front (token line a ∷ us) (token other b ∷ ts) n e l h =
    let same : b ≡ a = cc in
    let more : map kind_of ts ≡ map kind_of us = cc in
    let here : slice_get all n ≡ Some (token line a) =
    ap (λ x. slice_get x n) e ∙ ap (λ k. slice_get (front ++ token line a ∷ us) k) (sym l) ∙ after_front front (token line a ∷ us) in
    let place : record { token = n; line = line } ≡ on_lines all (record { token = n; line = other }) =
    ap (λ x. record { token = n; line = line_or other x }) (sym here) in
    let rest : placed (n + 1) us ≡ moved (on_lines all) (placed (n + 1) ts) =
    moved_from all (front ++ token line a ∷ []) us ts (n + 1) (e ∙ sym (append_one front (token line a) us))
    (length_one front (token line a) ∙ ap (λ k. k + 1) l) more in
    ap (λ p. at a p ∷ placed (n + 1) us) place ∙ ap (λ x. at a (on_lines all (record { token = n; line = other })) ∷ x) rest
    ∙ ap (λ x. at x (on_lines all (record { token = n; line = other })) ∷ moved (on_lines all) (placed (n + 1) ts)) (sym same)
  where
    append_one : (xs : Tokens) (x : Token) (ys : Tokens) → (xs ++ x ∷ []) ++ ys ≡ xs ++ x ∷ ys
    append_one [] x ys = refl
    append_one (y ∷ xs) x ys = ap (λ z. y ∷ z) (append_one xs x ys)

    length_one : (xs : Tokens) (x : Token) → length (xs ++ x ∷ []) ≡ length xs + 1
    length_one [] x = refl
    length_one (y ∷ xs) x = ap suc (length_one xs x) ∙ omega arith

-- depth is a matter of how many tokens there are
within_moved : (f : Place → Place) (us : List Placed) (ds : List ℕ) → Within us ds → Within (moved f us) ds
within_moved f [] ds p = tt
within_moved f (a ∷ us) [] p = p
within_moved f (a ∷ us) (d ∷ ds) p = (p.0, within_moved f us ds p.1)

pub lines_law : LinesLaw
lines_law ts us s h i =
    let f : Place → Place = on_lines us in
    let e : placed 0 us ≡ moved f (placed 0 ts) = moved_from us [] us ts 0 refl refl h in
    subst (λ x. IsSource x (move_source f s)) (sym e) (record {
      derives = (m_source f s).by (placed 0 ts) [] i.derives;
      shallow = subst (Within (moved f (placed 0 ts))) (sym (d_source f s)) (within_moved f (placed 0 ts) (source_depths s) i.shallow);
    })
