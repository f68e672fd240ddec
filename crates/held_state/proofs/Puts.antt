-- Numbers that are put into slots.
use Rattle.std.proofs.Common.{◌≡◌, ◌≢◌, ℕ, suc, ◌<◌, List, [], ◌∷◌, length, drop, refl, sym, ap, ◌∙◌, subst, arith}
use Rattle.std.proofs.lemmas.List.{get_or-set_same, get_or-set_other, length-set, drop-set-lt}
use Rattle.step_program.specs.Values.{Slots, slot_value}
use Rattle.step_program.specs.Fits.{IsSlot}
use Rattle.step_program.specs.declared.step.Slot.{Slot}
use Rattle.step_program.specs.declared.step.Slot.TheVariants as at
use Rattle.net_compile.specs.Cycle.{slot_at}
use Rattle.held_state.specs.Slots.{numbers, with_number, with_numbers}

-- as many slots of each kind
pub record SameCounts (x y : Slots) : Type 0 where
  pub narrow : length x.narrow ≡ length y.narrow
  pub wide : length x.wide ≡ length y.wide

one_counts : (x : Slots) (s : Slot) (n : ℕ) → SameCounts (with_number x s n) x
one_counts x (at.Narrow k) n = record { narrow = length-set x.narrow k n; wide = refl }
one_counts x (at.Wide k) n = record { narrow = refl; wide = length-set x.wide k n }

pub all_counts : (x : Slots) (ss : List Slot) (ns : List ℕ) → SameCounts (with_numbers x ss ns) x
all_counts x [] ns = record { narrow = refl; wide = refl }
all_counts x (s ∷ ss) [] = record { narrow = refl; wide = refl }
all_counts x (s ∷ ss) (n ∷ ns) =
    let one : SameCounts (with_number x s n) x = one_counts x s n in
    let more : SameCounts (with_numbers (with_number x s n) ss ns) (with_number x s n) =
    all_counts (with_number x s n) ss ns in
    record { narrow = more.narrow ∙ one.narrow; wide = more.wide ∙ one.wide }

-- each of these slots is there
abbrev pub AllIn : ℕ → ℕ → List Slot → Type 0
AllIn n m ss = (k : ℕ) → k < length ss → IsSlot n m (slot_at ss k)

abbrev pub AllApart : List Slot → Type 0
AllApart ss = (j k : ℕ) → j < k → k < length ss → slot_at ss j ≢ slot_at ss k

pub one_there : (x : Slots) (s : Slot) (n : ℕ) → IsSlot (length x.narrow) (length x.wide) s
    → slot_value (with_number x s n) s ≡ n
one_there x (at.Narrow k) n h = get_or-set_same x.narrow k n 0 h
one_there x (at.Wide k) n h = get_or-set_same x.wide k n 0 h

pub one_other : (x : Slots) (s t : Slot) (n : ℕ) → t ≢ s → slot_value (with_number x s n) t ≡ slot_value x t
one_other x (at.Narrow k) (at.Narrow j) n h = get_or-set_other x.narrow k j n 0 (λ e. h (ap at.Narrow e))
one_other x (at.Narrow k) (at.Wide j) n h = refl
one_other x (at.Wide k) (at.Narrow j) n h = refl
one_other x (at.Wide k) (at.Wide j) n h = get_or-set_other x.wide k j n 0 (λ e. h (ap at.Wide e))

pub all_other : (x : Slots) (ss : List Slot) (ns : List ℕ) (t : Slot)
    → ((k : ℕ) → k < length ss → t ≢ slot_at ss k) → slot_value (with_numbers x ss ns) t ≡ slot_value x t
all_other x [] ns t h = refl
all_other x (s ∷ ss) [] t h = refl
all_other x (s ∷ ss) (n ∷ ns) t h =
    all_other (with_number x s n) ss ns t (λ k l. h (suc k) (omega arith)) ∙ one_other x s t n (h 0 (omega arith))

-- a list of slots that are not among those
pub kept_numbers : (x : Slots) (ss ts : List Slot) (ns : List ℕ)
    → ((j k : ℕ) → j < length ts → k < length ss → slot_at ts j ≢ slot_at ss k)
    → numbers (with_numbers x ss ns) ts ≡ numbers x ts
kept_numbers x ss [] ns h = refl
kept_numbers x ss (t ∷ ts) ns h =
    let here : slot_value (with_numbers x ss ns) t ≡ slot_value x t =
    all_other x ss ns t (λ k l. h 0 k (omega arith) l) in
    let more : numbers (with_numbers x ss ns) ts ≡ numbers x ts =
    kept_numbers x ss ts ns (λ j k i l. h (suc j) k (omega arith) l) in
    cc

pub all_there : (x : Slots) (n m : ℕ) (ss : List Slot) (ns : List ℕ) → length ss ≡ length ns
    → length x.narrow ≡ n → length x.wide ≡ m → AllIn n m ss → AllApart ss
    → numbers (with_numbers x ss ns) ss ≡ ns
all_there x n m [] [] c e f i a = refl
all_there x n m [] (v ∷ ns) c e f i a = absurd (omega (arith, c))
all_there x n m (s ∷ ss) [] c e f i a = absurd (omega (arith, c))
all_there x n m (s ∷ ss) (v ∷ ns) c e f i a =
    let one : SameCounts (with_number x s v) x = one_counts x s v in
    let there : IsSlot (length x.narrow) (length x.wide) s =
    subst (λ k. IsSlot k (length x.wide) s) (sym e) (subst (λ k. IsSlot n k s) (sym f) (i 0 (omega arith))) in
    let here : slot_value (with_numbers (with_number x s v) ss ns) s ≡ v =
    all_other (with_number x s v) ss ns s (λ k l. a 0 (suc k) (omega arith) (omega arith)) ∙ one_there x s v there in
    let more : numbers (with_numbers (with_number x s v) ss ns) ss ≡ ns =
    all_there (with_number x s v) n m ss ns (omega (arith, c)) (one.narrow ∙ e) (one.wide ∙ f)
    (λ k l. i (suc k) (omega arith)) (λ j k less l. a (suc j) (suc k) (omega arith) (omega arith)) in
    cc

-- what stands from n and from m on
one_drops : (x : Slots) (n m : ℕ) (s : Slot) (v : ℕ) → IsSlot n m s
    → (drop n (with_number x s v).narrow ≡ drop n x.narrow) × (drop m (with_number x s v).wide ≡ drop m x.wide)
one_drops x n m (at.Narrow k) v h = (drop-set-lt n x.narrow k v h, refl)
one_drops x n m (at.Wide k) v h = (refl, drop-set-lt m x.wide k v h)

pub all_drops : (x : Slots) (n m : ℕ) (ss : List Slot) (ns : List ℕ) → AllIn n m ss
    → (drop n (with_numbers x ss ns).narrow ≡ drop n x.narrow) × (drop m (with_numbers x ss ns).wide ≡ drop m x.wide)
all_drops x n m [] ns i = (refl, refl)
all_drops x n m (s ∷ ss) [] i = (refl, refl)
all_drops x n m (s ∷ ss) (v ∷ ns) i =
    let one = one_drops x n m s v (i 0 (omega arith)) in
    let more = all_drops (with_number x s v) n m ss ns (λ k l. i (suc k) (omega arith)) in
    (more.0 ∙ one.0, more.1 ∙ one.1)
