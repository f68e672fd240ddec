-- Shapes of returned tokens, in a vector and by another name of the channel.
use Rattle.std.proofs.Common.{◌≡◌, ℕ, zero, suc, ◌<◌, List, [], ◌∷◌, ◌++◌, length, All, get_or, ◌≢◌, refl, sym, ap, subst, ⊎_elim, arith, Result, Ok, Err, is_ok, is_err, if◌then◌else◌, true≢false, false}
use Rattle.std.proofs.lemmas.Bool.{cases_eq}
use Rattle.std.proofs.lemmas.List.{length-append}
use native.Mathlib.Nat.{ℕ_set}
use mathlib.Core.List.{is_set as List-set}
use mathlib.Core.Logic.{∥∥₁_elim}
use Rattle.named_run.specs.Named.{HasShape}
use Rattle.named_run.specs.declared.token.Token.{Token}
use Rattle.token_chan.specs.Names.{Name}

shape_prop : (x : Name) (t : Token) → IsProp (HasShape x.run x.channel t)
shape_prop x t = hlevel (ℕ_set, List-set)

-- a token has a channel's shape, whichever of two equal names says so
pub shape_at : (a b : Name) (t : Token) → ∥ a ≡ b ∥₁ → HasShape a.run a.channel t → HasShape b.run b.channel t
shape_at a b t e h = ∥∥₁_elim e (shape_prop b t) (λ (s : a ≡ b). subst (λ (x : Name). HasShape x.run x.channel t) s h)

pub shape_back : (a b : Name) (t : Token) → ∥ a ≡ b ∥₁ → HasShape b.run b.channel t → HasShape a.run a.channel t
shape_back a b t e h = ∥∥₁_elim e (shape_prop a t) (λ (s : a ≡ b). subst (λ (x : Name). HasShape x.run x.channel t) (sym s) h)

-- equal names have one depth
pub depth_at : (a b : Name) → ∥ a ≡ b ∥₁ → a.depth ≡ b.depth
depth_at a b e = ∥∥₁_elim e (ℕ_set a.depth b.depth) (λ (s : a ≡ b). ap (λ (x : Name). x.depth) s)

-- ---- vectors

module _ {A : Type 0} where
  -- the element that was added, and those before it
  added : (xs : List A) (x d : A) (k : ℕ) → length xs ≡ k → get_or (xs ++ x ∷ []) k d ≡ x
  added [] x d zero e = refl
  added [] x d (suc k) e = absurd (omega (arith, e))
  added (y ∷ ys) x d zero e = absurd (omega (arith, e))
  added (y ∷ ys) x d (suc k) e = added ys x d k (omega (arith, e))

  before : (xs : List A) (x d : A) (j : ℕ) → j < length xs → get_or (xs ++ x ∷ []) j d ≡ get_or xs j d
  before [] x d j l = absurd (omega (arith, l))
  before (y ∷ ys) x d zero l = refl
  before (y ∷ ys) x d (suc j) l = before ys x d j (omega (arith, l))

  module _ (P : A → Type 0) where
    pub all_more : (xs : List A) (x : A) → All P xs → P x → All P (xs ++ x ∷ [])
    all_more xs x old new k d l = ⊎_elim
        (λ (e : k ≡ length xs). subst P (sym (added xs x d k (sym e))) new)
        (λ (ne : k ≢ length xs).
        let small : k < length xs = (let a = length-append xs (x ∷ []) in omega (arith, l, ne, a)) in
        subst P (sym (before xs x d k small)) (old k d small))
        (cases_eq k (length xs))

    pub middle : (xs ys : List A) (x : A) → All P (xs ++ x ∷ ys) → P x
    middle [] ys x all = all 0 x (omega arith)
    middle (z ∷ zs) ys x all = middle zs ys x (λ k d l. all (suc k) d (omega (arith, l)))

-- what a push that succeeded leaves
pub pushed : {A B X : Type 0} (r : Result A B) (xs ys zs : List X) → is_err r ≡ false
    → zs ≡ (if is_ok r then xs else ys) → zs ≡ xs
pushed (Ok x) xs ys zs e is = is
pushed (Err x) xs ys zs e is = absurd (true≢false e)
