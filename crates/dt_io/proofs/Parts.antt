-- Texts that are read and written in parts.
use Rattle.std.proofs.Common.{◌≡◌, ℕ, ◌+◌, ◌-◌, ◌≤◌, List, [], ◌∷◌, ◌++◌, length, take, drop, refl, sym, subst, ap, ◌∙◌, arith, length-drop}
use Rattle.std.proofs.Math.Seq.{take-add, take-append-add}
use Rattle.std.proofs.KnownBytes.{Appends-trans}
use Rattle.std.proofs.lemmas.List.{drop-drop, take-append-drop, take_all}
use Rattle.std.specs.Prelude.{Option}
use Rattle.std.specs.Io.KnownBytes.{Appends}
use Rattle.dt_core.specs.Causes.{IsNamed}

-- the first n bytes of a text were written, and then k more of what was left of it
pub parts : (a b c : Option (List ℕ)) (text rest : List ℕ) (n k : ℕ) → Appends a b (take n text) → rest ≡ drop n text → Appends b c (take k rest) → Appends a c (take (n + k) text)
parts a b c text rest n k p e q = subst (Appends a c) (sym (take-add n k text)) (Appends-trans a b c _ _ p (subst (λ r. Appends b c (take k r)) e q))

pub rest_parts : (text rest after : List ℕ) (n k : ℕ) → rest ≡ drop n text → after ≡ drop k rest → after ≡ drop (n + k) text
rest_parts text rest after n k e f = f ∙ ap (drop k) e ∙ drop-drop k n text

-- the first n, and r more that were written behind them
pub take_behind : (n r : ℕ) (front back whole bytes : List ℕ) → length front ≡ n → front ≡ take n whole → take r back ≡ take r bytes
    → take (n + r) (front ++ back) ≡ take n whole ++ take r bytes
take_behind n r front back whole bytes l f e =
    ap (λ m. take (m + r) (front ++ back)) (sym l) ∙ take-append-add front back r ∙ ap (λ x. x ++ take r back) f ∙ ap (λ x. take n whole ++ x) e

nil_of : (xs : List ℕ) → length xs ≡ 0 → xs ≡ []
nil_of [] e = refl
nil_of (x ∷ xs) e = absurd (omega arith)

-- what a slice from a place on holds
pub slice_from : (at : ℕ) (bytes : List ℕ) → take (length bytes - at) (drop at bytes) ≡ drop at bytes
slice_from at bytes = let l = length-drop at bytes in take_all (length bytes - at) (drop at bytes) (omega arith)

-- n bytes were taken from what was left
pub taken : (at n : ℕ) (left items bytes buf : List ℕ) → drop at items ≡ left → bytes ≡ items → take n buf ≡ take n (take (length bytes - at) (drop at bytes))
    → left ≡ take n buf ++ drop (at + n) items
taken at n left items bytes buf l e b =
    sym l ∙ sym (take-append-drop n (drop at items)) ∙ ap (λ x. x ++ drop n (drop at items)) (sym (b ∙ ap (take n) (slice_from at bytes ∙ ap (drop at) e))) ∙ ap (λ x. take n buf ++ x) (drop-drop n at items)

-- nothing was left where nothing was given
pub ended : (at n : ℕ) (items : List ℕ) → n ≡ 0 → length items ≤ at → drop (at + n) items ≡ []
ended at n items z l = let e = length-drop (at + n) items in nil_of (drop (at + n) items) (omega arith)

-- a call that is named, by equal numbers
pub same_named : (given fails : List ℕ) (made calls : ℕ) → IsNamed given made → given ≡ fails → made ≡ calls → IsNamed fails calls
same_named given fails made calls h g n = subst (λ (x : List ℕ). IsNamed x calls) g (subst (λ (x : ℕ). IsNamed given x) n h)
