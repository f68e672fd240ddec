-- Lists of which no two elements are alike, and lists that have nothing alike.
use Rattle.std.proofs.Common.{◌≡◌, ℕ, zero, suc, Bool, true, false, List, [], ◌∷◌, ◌++◌, map, refl, subst, ap}
use Rattle.std.specs.Prelude.{Some, slice_get, filter, cond, not}
use Rattle.vl_design.specs.Lists.{each_of}

-- P holds of each element
abbrev pub Each : {A : Type 0} → (A → Type 0) → List A → Type 0
Each P [] = Unit {0}
Each P (x ∷ xs) = P x × Each P xs

pub each_joined : {A : Type 0} (P : A → Type 0) (xs ys : List A) → Each P xs → Each P ys → Each P (xs ++ ys)
each_joined P [] ys h k = k
each_joined P (x ∷ xs) ys (h, hs) k = (h, each_joined P xs ys hs k)

pub each_parted : {A : Type 0} (P : A → Type 0) (xs ys : List A) → Each P (xs ++ ys) → Each P xs × Each P ys
each_parted P [] ys h = (tt, h)
each_parted P (x ∷ xs) ys (h, hs) = let r = each_parted P xs ys hs in ((h, r.0), r.1)

pub each_so : {A : Type 0} (P Q : A → Type 0) (go : (x : A) → P x → Q x) (xs : List A) → Each P xs → Each Q xs
each_so P Q go [] h = tt
each_so P Q go (x ∷ xs) (h, hs) = (go x h, each_so P Q go xs hs)

pub each_at : {A : Type 0} (P : A → Type 0) (xs : List A) (i : ℕ) (x : A) → Each P xs → slice_get xs i ≡ Some x → P x
each_at P [] i x h e = absurd cc
each_at P (y ∷ ys) zero x (h, hs) e = let s : y ≡ x = cc in subst P s h
each_at P (y ∷ ys) (suc i) x (h, hs) e = each_at P ys i x hs e

pub each_map : {A B : Type 0} (f : A → B) (P : B → Type 0) (xs : List A) → Each (λ x. P (f x)) xs → Each P (map f xs)
each_map f P [] h = tt
each_map f P (x ∷ xs) (h, hs) = (h, each_map f P xs hs)

pub each_each : {A B : Type 0} (f : A → List B) (P : B → Type 0) (xs : List A) → Each (λ x. Each P (f x)) xs → Each P (each_of f xs)
each_each f P [] h = tt
each_each f P (x ∷ xs) (h, hs) = each_joined P (f x) (each_of f xs) h (each_each f P xs hs)

pub each_kept : {A : Type 0} (P : A → Type 0) (p : A → Bool) (xs : List A) → Each P xs → Each P (filter p xs)
each_kept P p [] h = tt
each_kept P p (x ∷ xs) (h, hs) = kept (p x) (each_kept P p xs hs)
  where
    kept : (b : Bool) → Each P (filter p xs) → Each P (cond b (x ∷ filter p xs) (filter p xs))
    kept true k = (h, k)
    kept false k = k

pub each_all : {A : Type 0} (P : A → Type 0) (xs : List A) → ((x : A) → P x) → Each P xs
each_all P [] h = tt
each_all P (x ∷ xs) h = (h x, each_all P xs h)

-- two properties of each
pub each_both : {A : Type 0} (P Q R : A → Type 0) (go : (x : A) → P x → Q x → R x) (xs : List A) → Each P xs → Each Q xs → Each R xs
each_both P Q R go [] h k = tt
each_both P Q R go (x ∷ xs) (h, hs) (k, ks) = (go x h k, each_both P Q R go xs hs ks)

pub each_mapped : {A B : Type 0} (f : A → B) (P : B → Type 0) (xs : List A) → Each P (map f xs) → Each (λ x. P (f x)) xs
each_mapped f P [] h = tt
each_mapped f P (x ∷ xs) (h, hs) = (h, each_mapped f P xs hs)

-- ---- pairs

-- R holds of each of the one list with each of the other
abbrev pub Between : {A B : Type 0} → (A → B → Type 0) → List A → List B → Type 0
Between R xs ys = Each (λ x. Each (R x) ys) xs

-- and of each of a list with each that stands behind it
abbrev pub Pairwise : {A : Type 0} → (A → A → Type 0) → List A → Type 0
Pairwise R [] = Unit {0}
Pairwise R (x ∷ xs) = Each (R x) xs × Pairwise R xs

pub between_by : {A B : Type 0} (R : A → B → Type 0) (P : A → Type 0) (Q : B → Type 0) (go : (x : A) (y : B) → P x → Q y → R x y)
    (xs : List A) (ys : List B) → Each P xs → Each Q ys → Between R xs ys
between_by R P Q go xs ys h k = each_so P (λ x. Each (R x) ys) (λ x p. each_so Q (R x) (λ y. go x y p) ys k) xs h

pub between_so : {A B : Type 0} (R S : A → B → Type 0) (go : (x : A) (y : B) → R x y → S x y) (xs : List A) (ys : List B)
    → Between R xs ys → Between S xs ys
between_so R S go xs ys h = each_so (λ x. Each (R x) ys) (λ x. Each (S x) ys) (λ x k. each_so (R x) (S x) (go x) ys k) xs h

pub between_at : {A B : Type 0} (R : A → B → Type 0) (xs : List A) (ys : List B) → Between R xs ys → (i j : ℕ) (x : A) (y : B)
    → slice_get xs i ≡ Some x → slice_get ys j ≡ Some y → R x y
between_at R xs ys h i j x y e f = each_at (R x) ys j y (each_at (λ w. Each (R w) ys) xs i x h e) f

pub between_turned : {A : Type 0} (R : A → A → Type 0) → ((x y : A) → R x y → R y x) → (xs ys : List A) → Between R xs ys → Between R ys xs
between_turned R turned [] ys h = each_all (λ y. Each (R y) []) ys (λ y. tt)
between_turned R turned (x ∷ xs) ys (h, hs) =
    each_both (R x) (λ y. Each (R y) xs) (λ y. Each (R y) (x ∷ xs)) (λ y r k. (turned x y r, k)) ys h (between_turned R turned xs ys hs)

pub pairwise_joined : {A : Type 0} (R : A → A → Type 0) (xs ys : List A) → Pairwise R xs → Pairwise R ys → Between R xs ys → Pairwise R (xs ++ ys)
pairwise_joined R [] ys h k a = k
pairwise_joined R (x ∷ xs) ys (h, hs) k (a, more) = (each_joined (R x) xs ys h a, pairwise_joined R xs ys hs k more)

pub pairwise_parted : {A : Type 0} (R : A → A → Type 0) (xs ys : List A) → Pairwise R (xs ++ ys)
    → Pairwise R xs × (Pairwise R ys × Between R xs ys)
pairwise_parted R [] ys h = (tt, (h, tt))
pairwise_parted R (x ∷ xs) ys (h, hs) =
    let e = each_parted (R x) xs ys h in let r = pairwise_parted R xs ys hs in ((e.0, r.0), (r.1.0, (e.1, r.1.1)))

pub pairwise_kept : {A : Type 0} (R : A → A → Type 0) (p : A → Bool) (xs : List A) → Pairwise R xs → Pairwise R (filter p xs)
pairwise_kept R p [] h = tt
pairwise_kept R p (x ∷ xs) (h, hs) = kept (p x) (pairwise_kept R p xs hs)
  where
    kept : (b : Bool) → Pairwise R (filter p xs) → Pairwise R (cond b (x ∷ filter p xs) (filter p xs))
    kept true k = (each_kept (R x) p xs h, k)
    kept false k = k

pub pairwise_map : {A B : Type 0} (f : A → B) (R : B → B → Type 0) (xs : List A) → Pairwise (λ x y. R (f x) (f y)) xs → Pairwise R (map f xs)
pairwise_map f R [] h = tt
pairwise_map f R (x ∷ xs) (h, hs) = (each_map f (R (f x)) xs h, pairwise_map f R xs hs)

pub pairwise_unmapped : {A B : Type 0} (f : A → B) (R : B → B → Type 0) (xs : List A) → Pairwise R (map f xs) → Pairwise (λ x y. R (f x) (f y)) xs
pairwise_unmapped f R [] h = tt
pairwise_unmapped f R (x ∷ xs) (h, hs) = (each_mapped f (R (f x)) xs h, pairwise_unmapped f R xs hs)

pub pairwise_so : {A : Type 0} (R S : A → A → Type 0) (go : (x y : A) → R x y → S x y) (xs : List A) → Pairwise R xs → Pairwise S xs
pairwise_so R S go [] h = tt
pairwise_so R S go (x ∷ xs) (h, hs) = (each_so (R x) (S x) (go x) xs h, pairwise_so R S go xs hs)

-- with what is so of each
pub pairwise_with : {A : Type 0} (R : A → A → Type 0) (Q : A → Type 0) (xs : List A) → Each Q xs → Pairwise R xs
    → Pairwise (λ x y. R x y × (Q x × Q y)) xs
pairwise_with R Q [] q h = tt
pairwise_with R Q (x ∷ xs) (q, qs) (h, hs) =
    (each_both (R x) Q (λ y. R x y × (Q x × Q y)) (λ y r k. (r, (q, k))) xs h qs, pairwise_with R Q xs qs hs)

-- elements of which R doesn't hold stand at one place
pub one_place : {A : Type 0} (R : A → A → Type 0) (turned : (x y : A) → R x y → R y x) (xs : List A) → Pairwise R xs → (i j : ℕ) (x y : A)
    → slice_get xs i ≡ Some x → slice_get xs j ≡ Some y → (R x y → ⊥) → i ≡ j
one_place R turned [] h i j x y e f never = absurd cc
one_place R turned (z ∷ zs) h zero zero x y e f never = refl
one_place R turned (z ∷ zs) (h, hs) zero (suc j) x y e f never =
    let s : z ≡ x = cc in absurd (never (subst (λ w. R w y) s (each_at (R z) zs j y h f)))
one_place R turned (z ∷ zs) (h, hs) (suc i) zero x y e f never =
    let s : z ≡ y = cc in absurd (never (subst (λ w. R x w) s (turned z x (each_at (R z) zs i x h e))))
one_place R turned (z ∷ zs) (h, hs) (suc i) (suc j) x y e f never = ap suc (one_place R turned zs hs i j x y e f never)

-- lists of each, pair by pair
pub between_each : {A B C : Type 0} (R : B → C → Type 0) (f : A → List B) (g : A → List C) (S : A → A → Type 0) (turned : (x y : A) → S x y → S y x)
    (go : (x y : A) → S x y → Between R (f x) (g y))
    (xs : List A) → Each (λ x. Between R (f x) (g x)) xs → Pairwise S xs → Between R (each_of f xs) (each_of g xs)
between_each R f g S turned go [] own h = tt
between_each {A = A} {B = B} R f g S turned go (x ∷ xs) (own, owns) (h, hs) =
    each_joined (λ b. Each (R b) (g x ++ each_of g xs)) (f x) (each_of f xs)
    (both_ways (f x) own (first_with xs h))
    (each_each f (λ b. Each (R b) (g x ++ each_of g xs)) xs (later xs h (between_each R f g S turned go xs owns hs)))
  where
    both_ways : (bs : List B) → Between R bs (g x) → Between R bs (each_of g xs) → Between R bs (g x ++ each_of g xs)
    both_ways bs k l = each_both (λ b. Each (R b) (g x)) (λ b. Each (R b) (each_of g xs)) (λ b. Each (R b) (g x ++ each_of g xs))
        (λ b. each_joined (R b) (g x) (each_of g xs)) bs k l

    first_with : (ys : List A) → Each (S x) ys → Between R (f x) (each_of g ys)
    first_with [] k = each_all (λ b. Each (R b) []) (f x) (λ b. tt)
    first_with (y ∷ ys) (k, ks) = each_both (λ b. Each (R b) (g y)) (λ b. Each (R b) (each_of g ys)) (λ b. Each (R b) (g y ++ each_of g ys))
        (λ b. each_joined (R b) (g y) (each_of g ys)) (f x) (go x y k) (first_with ys ks)

    later : (ys : List A) → Each (S x) ys → Between R (each_of f ys) (each_of g xs) → Each (λ y. Between R (f y) (g x ++ each_of g xs)) ys
    later [] k l = tt
    later (y ∷ ys) (k, ks) l =
        let r = each_parted (λ b. Each (R b) (each_of g xs)) (f y) (each_of f ys) l in
        (both_ways (f y) (go y x (turned x y k)) r.0, later ys ks r.1)

pub pairwise_each : {A B : Type 0} (R : B → B → Type 0) (f : A → List B) (S : A → A → Type 0)
    (go : (x y : A) → S x y → Between R (f x) (f y))
    (xs : List A) → Each (λ x. Pairwise R (f x)) xs → Pairwise S xs → Pairwise R (each_of f xs)
pairwise_each R f S go [] own h = tt
pairwise_each {A = A} R f S go (x ∷ xs) (own, owns) (h, hs) =
    pairwise_joined R (f x) (each_of f xs) own (pairwise_each R f S go xs owns hs) (first_with xs h)
  where
    first_with : (ys : List A) → Each (S x) ys → Between R (f x) (each_of f ys)
    first_with [] k = each_all (λ b. Each (R b) []) (f x) (λ b. tt)
    first_with (y ∷ ys) (k, ks) = each_both (λ b. Each (R b) (f y)) (λ b. Each (R b) (each_of f ys)) (λ b. Each (R b) (f y ++ each_of f ys))
        (λ b. each_joined (R b) (f y) (each_of f ys)) (f x) (go x y k) (first_with ys ks)

-- those that pass a test, and those that don't
pub each_passes : {A : Type 0} (p : A → Bool) (xs : List A) → Each (λ x. p x ≡ true) (filter p xs)
each_passes p [] = tt
each_passes p (x ∷ xs) = on (p x) refl (each_passes p xs)
  where
    on : (b : Bool) → p x ≡ b → Each (λ y. p y ≡ true) (filter p xs) → Each (λ y. p y ≡ true) (cond b (x ∷ filter p xs) (filter p xs))
    on true e k = (e, k)
    on false e k = k

pub each_fails : {A : Type 0} (p : A → Bool) (xs : List A) → Each (λ x. p x ≡ false) (filter (λ x. not (p x)) xs)
each_fails p [] = tt
each_fails p (x ∷ xs) = on (p x) refl (each_fails p xs)
  where
    on : (b : Bool) → p x ≡ b → Each (λ y. p y ≡ false) (filter (λ y. not (p y)) xs)
        → Each (λ y. p y ≡ false) (cond (not b) (x ∷ filter (λ y. not (p y)) xs) (filter (λ y. not (p y)) xs))
    on true e k = k
    on false e k = (e, k)
