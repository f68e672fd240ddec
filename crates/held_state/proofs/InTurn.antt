-- Moves that are done one after another.
use Rattle.std.proofs.Common.{◌≡◌, ℕ, ◌+◌, ◌<◌, ◌≤◌, List, ◌∷◌, length, drop, set, get_or, sym, ap, ◌∙◌, arith}
use Rattle.std.proofs.lemmas.List.{drop_more, drop_all, get_or-map, length-map}
use Rattle.std.proofs.Common.{get_or-set_other}
use Rattle.held_state.specs.declared.commits.Move.{Move}
use Rattle.held_state.specs.Moves.{moved, with_moved}

-- from a place on the slots are as they were
abbrev pub SameFrom : {T : Type 0} → ℕ → List T → List T → Type 0
SameFrom {T} n xs ys = (k : ℕ) (d : T) → n ≤ k → get_or ys k d ≡ get_or xs k d

pub same_still : {T : Type 0} (n : ℕ) (xs ys : List T) (i : ℕ) (x : T) → i < n → SameFrom n xs ys
    → SameFrom n xs (set ys i x)
same_still n xs ys i x l h k d m = get_or-set_other ys i k x d (λ e. omega (arith, e, l, m)) ∙ h k d m

pub step_moved : {T : Type 0} (d : T) (xs ys : List T) (ms : List Move) (i : ℕ) (b : Move) (x : T) → i < length ms
    → x ≡ get_or xs (get_or ms i b).from d
    → with_moved ys (drop i ms) (drop i (moved d xs ms)) ≡ with_moved xs ms (moved d xs ms)
    → with_moved (set ys (get_or ms i b).to x) (drop (i + 1) ms) (drop (i + 1) (moved d xs ms))
    ≡ with_moved xs ms (moved d xs ms)
step_moved {T} d xs ys ms i b x l is all =
    let read : Move → T = λ v. get_or xs v.from d in
    let ns : List T = moved d xs ms in
    let long : i < length ns = omega (arith, l, length-map ms read) in
    let there : drop i ns ≡ x ∷ drop (i + 1) ns =
    drop_more ns i d long ∙ ap (λ (y : T). y ∷ drop (i + 1) ns) (get_or-map read ms i b d l ∙ sym is) in
    sym (ap (λ (vs : List Move). with_moved ys vs (x ∷ drop (i + 1) ns)) (drop_more ms i b l))
    ∙ sym (ap (λ (us : List T). with_moved ys (drop i ms) us) there) ∙ all

pub all_moved_in_turn : {T : Type 0} (d : T) (xs ys : List T) (ms : List Move) (i : ℕ) → length ms ≤ i
    → with_moved ys (drop i ms) (drop i (moved d xs ms)) ≡ with_moved xs ms (moved d xs ms)
    → ys ≡ with_moved xs ms (moved d xs ms)
all_moved_in_turn {T} d xs ys ms i l all =
    sym (ap (λ (vs : List Move). with_moved ys vs (drop i (moved d xs ms))) (drop_all i ms l)) ∙ all
