-- The number and the wild bits of digits, as they are read from the left.
use Rattle.std.proofs.Common.{◌≡◌, ◌≤◌, ◌<◌, ◌+◌, ◌-◌, ◌*◌, ◌%◌, ◌^◌, ◌==◌, ℕ, suc, Bool, true, false, if◌then◌else◌, List, [], ◌∷◌, sym, ap, ◌∙◌, arith, get_or, drop, length, map}
use Rattle.std.proofs.Math.Seq.{drop-cons}
use Rattle.std.proofs.Math.Nat.{mul-le-mul_left, add-mul, mul_assoc, mul_comm, pow-zero, pow-suc, mod-add-mod, mod-mod}
use Rattle.std.proofs.lemmas.Nat.{mul-mod_first}
use Rattle.std.proofs.Math.Pow.{mod-mod-pow}
use Rattle.std.proofs.Math.ListN.{drop_of_length-le}
use Rattle.vl_lex.specs.Digits.{digit_value, digits_in, positional, value_of, z_bits, digit_bits, wild_left, wild_of}
use Rattle.vl_lex.specs.declared.digits.Base.{Base}

-- ---- places, read from the left

-- the number of these digits, each worth what `f` says, after those that make n
abbrev pub read_on : (ℕ → ℕ) → ℕ → ℕ → List ℕ → ℕ
read_on f r n [] = n
read_on f r n (b ∷ bs) = read_on f r (if b == 95 then n else n * r + f b) bs

-- the digits' places after a place of n
abbrev pub placed_after : (ℕ → ℕ) → ℕ → ℕ → List ℕ → ℕ
placed_after f r n bs = positional r (n ∷ map f (digits_in bs))

-- one place more in front
one_place : (n r d k v : ℕ) → (n * r + d) * r ^ k + v ≡ n * r ^ suc k + (d * r ^ k + v)
one_place n r d k v =
    let a : (n * r + d) * r ^ k ≡ n * r * r ^ k + d * r ^ k = add-mul (n * r) d (r ^ k) in
    let b : n * r * r ^ k ≡ n * (r * r ^ k) = mul_assoc n r (r ^ k) in
    let c : r ^ suc k ≡ r ^ k * r = pow-suc r k in
    let d' : r * r ^ k ≡ r ^ k * r = mul_comm r (r ^ k) in
    let e : n * (r * r ^ k) ≡ n * r ^ suc k = ap (λ x. n * x) (d' ∙ sym c) in
    omega (arith, a, b, e)

pub read_is : (f : ℕ → ℕ) (r n : ℕ) (bs : List ℕ) → read_on f r n bs ≡ placed_after f r n bs
read_is f r n [] =
    let p : n * r ^ 0 ≡ n * 1 = ap (λ x. n * x) (pow-zero r) in
    omega (arith, p)
read_is f r n (b ∷ bs) =
    let F : Bool → Type 0 = λ e. read_on f r (if e then n else n * r + f b) bs ≡ positional r (n ∷ map f (if e then digits_in bs else b ∷ digits_in bs)) in
    elim (b == 95) as F [
      | true ↦ read_is f r n bs
      | false ↦
          let ds : List ℕ = map f (digits_in bs) in
          read_is f r (n * r + f b) bs ∙ one_place n r (f b) (length ds) (positional r ds)
    ]

-- ---- the value

pub value_is : (r : ℕ) (bs : List ℕ) → read_on digit_value r 0 bs ≡ value_of r bs
value_is r bs = let e = read_is digit_value r 0 bs in omega (arith, e)

-- after a number stand no lesser ones
grows : (r n : ℕ) (bs : List ℕ) → 0 < r → n ≤ read_on digit_value r n bs
grows r n [] h = omega arith
grows r n (b ∷ bs) h =
    let F : Bool → Type 0 = λ e. n ≤ read_on digit_value r (if e then n else n * r + digit_value b) bs in
    elim (b == 95) as F [
      | true ↦ grows r n bs h
      | false ↦ let g = grows r (n * r + digit_value b) bs h in let k : n * 1 ≤ n * r = mul-le-mul_left n h in omega (arith, g, k)
    ]

-- a number that is too great with this digit is too great, whatever follows
pub too_great : (r n i most : ℕ) (ds : List ℕ) → 0 < r → i < length ds → most ≤ (if get_or ds i 0 == 95 then n else n * r + digit_value (get_or ds i 0)) → most ≤ read_on digit_value r n (drop i ds)
too_great r n i most ds h lt m =
    let x : ℕ = if get_or ds i 0 == 95 then n else n * r + digit_value (get_or ds i 0) in
    let g : x ≤ read_on digit_value r x (drop (suc i) ds) = grows r x (drop (suc i) ds) h in
    let e : read_on digit_value r n (drop i ds) ≡ read_on digit_value r x (drop (suc i) ds) = ap (read_on digit_value r n) (drop-cons ds i 0 lt) in
    omega (arith, g, e, m)

-- ---- wild bits, modulo a number

-- what is read modulo a number depends on what stands before modulo it
same_mod : (f : ℕ → ℕ) (r m a c : ℕ) (ds : List ℕ) → a % m ≡ c % m → read_on f r a ds % m ≡ read_on f r c ds % m
same_mod f r m a c [] e = e
same_mod f r m a c (b ∷ ds) e =
    let k : (a * r) % m ≡ (c * r) % m = sym (mul-mod_first a r m) ∙ ap (λ x. (x * r) % m) e ∙ mul-mod_first c r m in
    let s : (a * r + f b) % m ≡ (c * r + f b) % m = sym (mod-add-mod (a * r) m (f b)) ∙ ap (λ x. (x + f b) % m) k ∙ mod-add-mod (c * r) m (f b) in
    let F : Bool → Type 0 = λ t. read_on f r (if t then a else a * r + f b) ds % m ≡ read_on f r (if t then c else c * r + f b) ds % m in
    elim (b == 95) as F [ true ↦ same_mod f r m a c ds e | false ↦ same_mod f r m (a * r + f b) (c * r + f b) ds s ]

-- one digit further
pub wild_next : (f : ℕ → ℕ) (r m n i : ℕ) (ds : List ℕ) → i < length ds
    → read_on f r ((if get_or ds i 0 == 95 then n else n * r + f (get_or ds i 0)) % m) (drop (i + 1) ds) % m ≡ read_on f r n (drop i ds) % m
wild_next f r m n i ds lt =
    let x : ℕ = if get_or ds i 0 == 95 then n else n * r + f (get_or ds i 0) in
    let k : i + 1 ≡ suc i = omega arith in
    ap (λ j. read_on f r (x % m) (drop j ds) % m) k ∙ same_mod f r m (x % m) x (drop (suc i) ds) (mod-mod x m) ∙ ap (λ y. read_on f r n y % m) (sym (drop-cons ds i 0 lt))

-- at the end of the digits
pub wild_end : (f : ℕ → ℕ) (r m n i : ℕ) (ds : List ℕ) → length ds ≤ i → n % m ≡ read_on f r n (drop i ds) % m
wild_end f r m n i ds h = ap (λ y. read_on f r n y % m) (sym (drop_of_length-le ds h))

-- a value cut to 128 bits, and then to fewer
pub cut_twice : (n width : ℕ) → width ≤ 128 → n % 2 ^ 128 % 2 ^ width ≡ n % 2 ^ width
cut_twice n width h =
    let e : 128 - width + width ≡ 128 = omega (arith, h) in
    ap (λ x. n % 2 ^ x % 2 ^ width) (sym e) ∙ mod-mod-pow n (128 - width) width

-- the wild bits of a spelling, from what its digits give modulo 2^128
pub wild_is : (base : Base) (width : ℕ) (digits : List ℕ) (bits left wild low : ℕ) → width ≤ 128 → bits ≡ digit_bits base → left ≡ wild_left width digits
    → wild ≡ positional (2 ^ bits) (left ∷ map (z_bits bits) (digits_in digits)) % 2 ^ 128 → low ≡ wild % 2 ^ width → low ≡ wild_of base width digits
wild_is base width digits bits left wild low h b l w e =
    let P : ℕ → ℕ → ℕ = λ x y. positional (2 ^ x) (y ∷ map (z_bits x) (digits_in digits)) in
    e ∙ ap (λ x. x % 2 ^ width) w ∙ cut_twice (P bits left) width h ∙ ap (λ x. P x left % 2 ^ width) b ∙ ap (λ x. P (digit_bits base) x % 2 ^ width) l
