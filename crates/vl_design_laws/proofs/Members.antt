-- What stands in a list, at some place.
use Rattle.std.proofs.Common.{◌≡◌, zero, suc, Bool, true, false, ◌⊎◌, inl, inr, List, [], ◌∷◌, ◌++◌, map, refl}
use Rattle.std.specs.Prelude.{Some, filter, cond}
use Rattle.vl_design_laws.specs.Laws.{StandsIn}

module _ {A : Type 0} where
  pub has_more : (y : A) (xs : List A) (x : A) → StandsIn xs x → StandsIn (y ∷ xs) x
  has_more y xs x (n, e) = (suc n, e)

  pub has_front : (xs ys : List A) (x : A) → StandsIn xs x → StandsIn (xs ++ ys) x
  has_front [] ys x (n, e) = absurd cc
  has_front (y ∷ xs) ys x (zero, e) = (zero, e)
  has_front (y ∷ xs) ys x (suc n, e) = has_more y (xs ++ ys) x (has_front xs ys x (n, e))

  pub has_either : (xs ys : List A) (x : A) → StandsIn (xs ++ ys) x → StandsIn xs x ⊎ StandsIn ys x
  has_either [] ys x h = inr h
  has_either (y ∷ xs) ys x (zero, e) = inl (zero, e)
  has_either (y ∷ xs) ys x (suc n, e) = further (has_either xs ys x (n, e))
    where
      further : StandsIn xs x ⊎ StandsIn ys x → StandsIn (y ∷ xs) x ⊎ StandsIn ys x
      further (inl h) = inl (has_more y xs x h)
      further (inr h) = inr h

  kept : (b : Bool) (y : A) (rest xs : List A) (x : A) → (StandsIn rest x → StandsIn xs x) → StandsIn (cond b (y ∷ rest) rest) x → StandsIn (y ∷ xs) x
  kept true y rest xs x go (zero, e) = (zero, e)
  kept true y rest xs x go (suc n, e) = has_more y xs x (go (n, e))
  kept false y rest xs x go h = has_more y xs x (go h)

  pub has_filtered : (p : A → Bool) (xs : List A) (x : A) → StandsIn (filter p xs) x → StandsIn xs x
  has_filtered p [] x h = h
  has_filtered p (y ∷ xs) x h = kept (p y) y (filter p xs) xs x (has_filtered p xs x) h

module _ {A B : Type 0} (f : A → B) where
  pub has_map : (xs : List A) (x : A) → StandsIn xs x → StandsIn (map f xs) (f x)
  has_map [] x (n, e) = absurd cc
  has_map (y ∷ xs) x (zero, e) = let s : y ≡ x = cc in (zero, (λ i. Some (f (s i))))
  has_map (y ∷ xs) x (suc n, e) = has_more (f y) (map f xs) (f x) (has_map xs x (n, e))

  pub has_mapped : (xs : List A) (y : B) → StandsIn (map f xs) y → (x : A) × StandsIn xs x × (f x ≡ y)
  has_mapped [] y (n, e) = absurd cc
  has_mapped (x ∷ xs) y (zero, e) = (x, (zero, refl), cc)
  has_mapped (x ∷ xs) y (suc n, e) = let r = has_mapped xs y (n, e) in (r.0, has_more x xs r.0 r.1, r.2)
