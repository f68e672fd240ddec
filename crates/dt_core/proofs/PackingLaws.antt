-- Bit vectors that stand one behind another in a number, and a number in bytes.
use Rattle.std.proofs.Common.{◌≡◌, ℕ, zero, suc, ◌+◌, ◌*◌, ◌/◌, ◌%◌, ◌^◌, ◌-◌, ◌<◌, ◌≤◌, List, [], ◌∷◌, length, get_or, take, set, Some, refl, sym, ap, ◌∙◌, arith, zero-add}
use Rattle.std.specs.Prelude.{slice_get}
use Rattle.std.specs.List.{sum}
use Rattle.std.proofs.Math.Pow.{mod-mod-pow}
use Rattle.std.proofs.Math.Nat.{add-mul-div_left, add-mul-mod_self_left, div-one, mod-one, mod-eq_of_lt, pow-le-pow_right}
use Rattle.std.proofs.lemmas.Nat.{pow_pos, pow-add, shr-shr, shr_split, mod-pow-add, shr_high, mod_low, mod_below, shl_whole}
use Rattle.std.proofs.lemmas.List.Sums.{sum_by-cons}
use Rattle.dt_core.specs.BitVectors.{BitVector, vector}
use Rattle.dt_core.specs.Packing.{number, unpacked, put}

-- ---- sums and products of plain numbers

spread : (h a b q r t m : ℕ) → t ≡ a * b → m ≡ q * a + r → h * t + m ≡ (h * b + q) * a + r
spread h a b q r t m e f = rw (e, f) (omega arith)

gather : (q c y f g x l t u : ℕ) → t ≡ f * g → u ≡ g * c → (q * c + y) * t + (x * f + l) ≡ (q * u + (x + y * g)) * f + l
gather q c y f g x l t u e h = rw (e, h) (omega arith)

lift : (q z c y s l r : ℕ) → z * c * s ≡ 256 * r → ((q + z) * c + y) * s + l ≡ (q * c + y) * s + l + 256 * r
lift q z c y s l r e = omega (arith, e)

pub below_pow : (n k : ℕ) → n % 2 ^ k < 2 ^ k
below_pow n k = mod_below n (2 ^ k) (pow_pos k)

-- a number by its high and its low bits
by_parts : (n k h l : ℕ) → n / 2 ^ k ≡ h → n % 2 ^ k ≡ l → n ≡ h * 2 ^ k + l
by_parts n k h l e f = sym (shr_split n k) ∙ ap (λ a. a * 2 ^ k + n % 2 ^ k) e ∙ ap (λ a. h * 2 ^ k + a) f

-- ---- other bits at a place

-- what stands below the place stays
put_low : (n f w x : ℕ) → put n f w x % 2 ^ f ≡ n % 2 ^ f
unfolding put
put_low n f w x = mod_low (n / 2 ^ (f + w) * 2 ^ w + x) f (n % 2 ^ f) (below_pow n f)

put_high : (n f w x : ℕ) → put n f w x / 2 ^ f ≡ n / 2 ^ (f + w) * 2 ^ w + x
unfolding put
put_high n f w x = shr_high (n / 2 ^ (f + w) * 2 ^ w + x) f (n % 2 ^ f) (below_pow n f)

put_below : (n w o m x : ℕ) → put n (w + o) m x % 2 ^ w ≡ n % 2 ^ w
put_below n w o m x =
    let p : ℕ = put n (w + o) m x in
    let e : o + w ≡ w + o = omega arith in
    sym (mod-mod-pow p o w) ∙ ap (λ k. p % 2 ^ k % 2 ^ w) e ∙ ap (λ y. y % 2 ^ w) (put_low n (w + o) m x)
    ∙ ap (λ k. n % 2 ^ k % 2 ^ w) (sym e) ∙ mod-mod-pow n o w

-- above the lowest w bits it is the same at a place that is w less
put_shift : (n w o m x : ℕ) → put n (w + o) m x / 2 ^ w ≡ put (n / 2 ^ w) o m x
unfolding put
put_shift n w o m x =
    let h : ℕ = n / 2 ^ (w + o + m) * 2 ^ m + x in
    let q : ℕ = n / 2 ^ w % 2 ^ o in
    let e : o + w ≡ w + o = omega arith in
    let a : w + o + m ≡ w + (o + m) = omega arith in
    let s : n % 2 ^ (w + o) ≡ q * 2 ^ w + n % 2 ^ w = ap (λ k. n % 2 ^ k) (sym e) ∙ mod-pow-add n o w in
    let t : n / 2 ^ (w + o + m) ≡ n / 2 ^ w / 2 ^ (o + m) = ap (λ k. n / 2 ^ k) a ∙ sym (shr-shr n w (o + m)) in
    ap (λ y. y / 2 ^ w) (spread h (2 ^ w) (2 ^ o) q (n % 2 ^ w) (2 ^ (w + o)) (n % 2 ^ (w + o)) (pow-add 2 w o) s)
    ∙ shr_high (h * 2 ^ o + q) w (n % 2 ^ w) (below_pow n w)
    ∙ ap (λ y. (y * 2 ^ m + x) * 2 ^ o + q) t

put_first : (n w x : ℕ) → put n 0 w x ≡ n / 2 ^ w * 2 ^ w + x
unfolding put
put_first n w x =
    let e : 0 + w ≡ w = zero-add w in
    let o : n % 1 ≡ 0 = mod-one n in
    ap (λ k. (n / 2 ^ k * 2 ^ w + x) * 1 + n % 1) e ∙ omega (arith, o)

-- no bits
pub put_none : (n f : ℕ) → put n f 0 0 ≡ n
unfolding put
put_none n f =
    let e : n / 2 ^ (f + 0) ≡ n / 2 ^ f = ap (λ k. n / 2 ^ k) (omega arith) in
    ap (λ y. (y * 1 + 0) * 2 ^ f + n % 2 ^ f) e ∙ omega (arith, shr_split n f)

put_joined : (n f g x c y a : ℕ) → a / 2 ^ (f + g + c) ≡ n / 2 ^ (f + (g + c)) → a % 2 ^ (f + g) ≡ x * 2 ^ f + n % 2 ^ f
    → put a (f + g) c y ≡ put n f (g + c) (x + y * 2 ^ g)
unfolding put
put_joined n f g x c y a high low =
    let q : ℕ = n / 2 ^ (f + (g + c)) in
    ap (λ z. (z * 2 ^ c + y) * 2 ^ (f + g) + a % 2 ^ (f + g)) high ∙ ap (λ z. (q * 2 ^ c + y) * 2 ^ (f + g) + z) low
    ∙ gather q (2 ^ c) y (2 ^ f) (2 ^ g) x (n % 2 ^ f) (2 ^ (f + g)) (2 ^ (g + c)) (pow-add 2 f g) (pow-add 2 g c)

-- some bits, and then more behind them
pub put_next : (n f g x c y : ℕ) → x < 2 ^ g → put (put n f g x) (f + g) c y ≡ put n f (g + c) (x + y * 2 ^ g)
put_next n f g x c y l =
    let a : ℕ = put n f g x in
    let b : ℕ = n / 2 ^ (f + g) in
    let e : g + f ≡ f + g = omega arith in
    let s : f + g + c ≡ f + (g + c) = omega arith in
    let mid : a / 2 ^ (f + g) ≡ b =
    sym (shr-shr a f g) ∙ ap (λ z. z / 2 ^ g) (put_high n f g x) ∙ shr_high b g x l in
    let high : a / 2 ^ (f + g + c) ≡ n / 2 ^ (f + (g + c)) =
    sym (shr-shr a (f + g) c) ∙ ap (λ z. z / 2 ^ c) mid ∙ shr-shr n (f + g) c ∙ ap (λ k. n / 2 ^ k) s in
    let low : a % 2 ^ (f + g) ≡ x * 2 ^ f + n % 2 ^ f =
    ap (λ k. a % 2 ^ k) (sym e) ∙ mod-pow-add a g f
    ∙ ap (λ z. z % 2 ^ g * 2 ^ f + a % 2 ^ f) (put_high n f g x)
    ∙ ap (λ z. z * 2 ^ f + a % 2 ^ f) (mod_low b g x l)
    ∙ ap (λ z. x * 2 ^ f + z) (put_low n f g x) in
    put_joined n f g x c y a high low

-- ---- bit vectors in a number

same_head : (w v u : ℕ) (xs ys : List BitVector) → v ≡ u → xs ≡ ys → vector w v ∷ xs ≡ vector w u ∷ ys
same_head w v u xs ys e f = ap (λ z. vector w z ∷ xs) e ∙ ap (λ zs. vector w u ∷ zs) f

sum_cons : (w : ℕ) (ws : List ℕ) → sum (w ∷ ws) ≡ w + sum ws
sum_cons w ws = sum_by-cons (λ x. x) w ws

-- the bits of one bit vector put to a value: that one is the value, and the others stay
pub unpacked-put : (ws : List ℕ) (n k x : ℕ) → k < length ws → x < 2 ^ get_or ws k 0
    → unpacked ws (put n (sum (take k ws)) (get_or ws k 0) x) ≡ set (unpacked ws n) k (vector (get_or ws k 0) x)
unpacked-put [] n k x l s = absurd (omega arith)
unpacked-put (w ∷ ws) n zero x l s =
    let p : ℕ = put n 0 w x in
    same_head w (p % 2 ^ w) x (unpacked ws (p / 2 ^ w)) (unpacked ws (n / 2 ^ w))
    (ap (λ y. y % 2 ^ w) (put_first n w x) ∙ mod_low (n / 2 ^ w) w x s)
    (ap (unpacked ws) (ap (λ y. y / 2 ^ w) (put_first n w x) ∙ shr_high (n / 2 ^ w) w x s))
unpacked-put (w ∷ ws) n (suc k) x l s =
    let m : ℕ = get_or ws k 0 in
    let o : ℕ = sum (take k ws) in
    let p : ℕ = put n (w + o) m x in
    ap (λ y. unpacked (w ∷ ws) (put n y m x)) (sum_cons w (take k ws))
    ∙ same_head w (p % 2 ^ w) (n % 2 ^ w) (unpacked ws (p / 2 ^ w)) (set (unpacked ws (n / 2 ^ w)) k (vector m x))
    (put_below n w o m x)
    (ap (unpacked ws) (put_shift n w o m x) ∙ unpacked-put ws (n / 2 ^ w) k x (omega arith) s)

-- one of the bit vectors
pub slice_get-unpacked : (ws : List ℕ) (n k : ℕ) → k < length ws
    → slice_get (unpacked ws n) k ≡ Some (vector (get_or ws k 0) (n / 2 ^ sum (take k ws) % 2 ^ get_or ws k 0))
slice_get-unpacked [] n k l = absurd (omega arith)
slice_get-unpacked (w ∷ ws) n zero l = ap (λ y. Some (vector w (y % 2 ^ w))) (sym (div-one n))
slice_get-unpacked (w ∷ ws) n (suc k) l =
    let m : ℕ = get_or ws k 0 in
    let o : ℕ = sum (take k ws) in
    slice_get-unpacked ws (n / 2 ^ w) k (omega arith)
    ∙ ap (λ y. Some (vector m (y % 2 ^ m))) (shr-shr n w o ∙ ap (λ y. n / 2 ^ y) (sym (sum_cons w (take k ws))))

pub length-unpacked : (ws : List ℕ) (n : ℕ) → length (unpacked ws n) ≡ length ws
length-unpacked [] n = refl
length-unpacked (w ∷ ws) n = ap suc (length-unpacked ws (n / 2 ^ w))

-- ---- a number in bytes

-- a byte has room for s bits, c bits and d bits
pub room : (s c d : ℕ) → d + (s + c) ≡ 8 → 256 ≡ 2 ^ s * (2 ^ c * 2 ^ d)
room s c d e =
    let a : s + (c + d) ≡ 8 = omega arith in
    ap (λ k. 2 ^ k) (sym a) ∙ pow-add 2 s (c + d) ∙ ap (λ y. 2 ^ s * y) (pow-add 2 c d)

put_byte : (b r s c y d : ℕ) → d + (s + c) ≡ 8 → put (b + 256 * r) s c y ≡ put b s c y + 256 * r
unfolding put
put_byte b r s c y d e =
    let z : ℕ = 2 ^ d * r in
    let n : ℕ = b + 256 * r in
    let h : 256 ≡ 2 ^ s * (2 ^ c * 2 ^ d) = room s c d e in
    let p : 2 ^ (s + c) ≡ 2 ^ s * 2 ^ c = pow-add 2 s c in
    let t : 256 * r ≡ 2 ^ (s + c) * z = ap (λ k. k * r) h ∙ rw p (omega arith) in
    let u : 256 * r ≡ 2 ^ s * (2 ^ c * z) = ap (λ k. k * r) h ∙ omega arith in
    let high : n / 2 ^ (s + c) ≡ b / 2 ^ (s + c) + z =
    ap (λ k. (b + k) / 2 ^ (s + c)) t ∙ add-mul-div_left b z (pow_pos (s + c)) in
    let low : n % 2 ^ s ≡ b % 2 ^ s = ap (λ k. (b + k) % 2 ^ s) u ∙ add-mul-mod_self_left b (2 ^ s) (2 ^ c * z) in
    let v : z * 2 ^ c * 2 ^ s ≡ 256 * r = omega (arith, u) in
    ap (λ k. (k * 2 ^ c + y) * 2 ^ s + n % 2 ^ s) high ∙ ap (λ k. ((b / 2 ^ (s + c) + z) * 2 ^ c + y) * 2 ^ s + k) low
    ∙ lift (b / 2 ^ (s + c)) z (2 ^ c) y (2 ^ s) (b % 2 ^ s) r v

field_byte : (b r s c d : ℕ) → d + (s + c) ≡ 8 → (b + 256 * r) / 2 ^ s % 2 ^ c ≡ b / 2 ^ s % 2 ^ c
field_byte b r s c d e =
    let z : ℕ = 2 ^ d * r in
    let u : 256 * r ≡ 2 ^ s * (2 ^ c * z) = ap (λ k. k * r) (room s c d e) ∙ omega arith in
    ap (λ k. (b + k) / 2 ^ s % 2 ^ c) u ∙ ap (λ k. k % 2 ^ c) (add-mul-div_left b (2 ^ c * z) (pow_pos s))
    ∙ add-mul-mod_self_left (b / 2 ^ s) (2 ^ c) z

-- bits of one byte are bits of the number
pub field-number : (bs : List ℕ) (i s c : ℕ) → i < length bs → s + c ≤ 8 → ((k : ℕ) → get_or bs k 0 < 256)
    → number bs / 2 ^ (8 * i + s) % 2 ^ c ≡ get_or bs i 0 / 2 ^ s % 2 ^ c
field-number [] i s c l w h = absurd (omega arith)
field-number (b ∷ bs) zero s c l w h =
    ap (λ k. number (b ∷ bs) / 2 ^ k % 2 ^ c) (zero-add s) ∙ field_byte b (number bs) s c (8 - (s + c)) (omega arith)
field-number (b ∷ bs) (suc i) s c l w h =
    let n : ℕ = b + 256 * number bs in
    let small : b < 256 = h 0 in
    let e : 8 * suc i + s ≡ 8 + (8 * i + s) = omega arith in
    let r : n / 256 ≡ number bs = omega arith in
    ap (λ k. n / 2 ^ k % 2 ^ c) e ∙ ap (λ k. k % 2 ^ c) (sym (shr-shr n 8 (8 * i + s)))
    ∙ ap (λ k. k / 2 ^ (8 * i + s) % 2 ^ c) r ∙ field-number bs i s c (omega arith) w (λ k. h (suc k))

-- other bits in one byte are other bits in the number
pub number-set : (bs : List ℕ) (i s c y : ℕ) → i < length bs → s + c ≤ 8 → ((k : ℕ) → get_or bs k 0 < 256)
    → number (set bs i (put (get_or bs i 0) s c y)) ≡ put (number bs) (8 * i + s) c y
number-set [] i s c y l w h = absurd (omega arith)
number-set (b ∷ bs) zero s c y l w h =
    sym (ap (λ k. put (b + 256 * number bs) k c y) (zero-add s) ∙ put_byte b (number bs) s c y (8 - (s + c)) (omega arith))
number-set (b ∷ bs) (suc i) s c y l w h =
    let n : ℕ = b + 256 * number bs in
    let o : ℕ = 8 * i + s in
    let p : ℕ = put n (8 + o) c y in
    let small : b < 256 = h 0 in
    let e : 8 * suc i + s ≡ 8 + o = omega arith in
    let q : n / 256 ≡ number bs = omega arith in
    let r : n % 256 ≡ b = omega arith in
    let high : p / 256 ≡ put (number bs) o c y = put_shift n 8 o c y ∙ ap (λ k. put k o c y) q in
    let low : p % 256 ≡ b = put_below n 8 o c y ∙ r in
    let t : number (set bs i (put (get_or bs i 0) s c y)) ≡ put (number bs) o c y = number-set bs i s c y (omega arith) w (λ k. h (suc k)) in
    let whole : p ≡ put (number bs) o c y * 256 + b = by_parts p 8 (put (number bs) o c y) b high low in
    ap (λ k. b + 256 * k) t ∙ (omega (arith, whole)) ∙ ap (λ k. put n k c y) (sym e)

-- ---- a loop over the bytes of one value

-- d bits were read of those from f on, and p are the next c
pub read_next : (bs : List ℕ) (f d i s c p v : ℕ) → v ≡ number bs / 2 ^ f % 2 ^ d → 8 * i + s ≡ f + d → s + c ≤ 8 → d + c ≤ 128 → i < length bs
    → ((k : ℕ) → get_or bs k 0 < 256) → p ≡ get_or bs i 0 / 2 ^ s % 2 ^ c
    → (v + p * 2 ^ d % 2 ^ 128 ≡ number bs / 2 ^ f % 2 ^ (d + c)) × (v + p * 2 ^ d % 2 ^ 128 < 2 ^ 128)
read_next bs f d i s c p v is place within short l h part =
    let n : ℕ = number bs / 2 ^ f in
    let e : c + d ≡ d + c = omega arith in
    let next : n / 2 ^ d % 2 ^ c ≡ p =
    ap (λ k. k % 2 ^ c) (shr-shr (number bs) f d) ∙ ap (λ k. number bs / 2 ^ k % 2 ^ c) (sym place)
    ∙ field-number bs i s c l within h ∙ sym part in
    let few : p < 2 ^ c = rw part (below_pow (get_or bs i 0 / 2 ^ s) c) in
    let shift : p * 2 ^ d % 2 ^ 128 ≡ p * 2 ^ d = shl_whole p c d 128 few (omega arith) in
    let all : n % 2 ^ (d + c) ≡ p * 2 ^ d + n % 2 ^ d =
    ap (λ k. n % 2 ^ k) (sym e) ∙ mod-pow-add n c d ∙ ap (λ k. k * 2 ^ d + n % 2 ^ d) next in
    let sum_is : v + p * 2 ^ d % 2 ^ 128 ≡ n % 2 ^ (d + c) = omega (arith, is, shift, all) in
    let small : n % 2 ^ (d + c) < 2 ^ (d + c) = below_pow n (d + c) in
    let most : 2 ^ (d + c) ≤ 2 ^ 128 = pow-le-pow_right {n = 2} (omega arith) {i = d + c} {j = 128} short in
    (sum_is, omega (arith, sum_is, small, most))

-- d bits of v were put to those from f on, and p are its next c
pub write_next : (bs : List ℕ) (n f d i s c p v : ℕ) → number bs ≡ put n f d (v % 2 ^ d) → 8 * i + s ≡ f + d → s + c ≤ 8 → i < length bs
    → ((k : ℕ) → get_or bs k 0 < 256) → p ≡ v / 2 ^ d % 2 ^ c
    → number (set bs i (put (get_or bs i 0) s c p)) ≡ put n f (d + c) (v % 2 ^ (d + c))
write_next bs n f d i s c p v is place within l h part =
    let e : c + d ≡ d + c = omega arith in
    let all : v % 2 ^ (d + c) ≡ v % 2 ^ d + p * 2 ^ d =
    ap (λ k. v % 2 ^ k) (sym e) ∙ mod-pow-add v c d ∙ ap (λ k. k * 2 ^ d + v % 2 ^ d) (sym part) ∙ omega arith in
    number-set bs i s c p l within h ∙ ap (λ k. put (number bs) k c p) place ∙ ap (λ k. put k (f + d) c p) is
    ∙ put_next n f d (v % 2 ^ d) c p (below_pow v d) ∙ ap (λ k. put n f (d + c) k) (sym all)

pub write_none : (n f v : ℕ) → n ≡ put n f 0 (v % 1)
write_none n f v = sym (ap (λ k. put n f 0 k) (mod-one v) ∙ put_none n f)

pub write_all : (m n f d w v : ℕ) → m ≡ put n f d (v % 2 ^ d) → d ≡ w → v < 2 ^ w → m ≡ put n f w v
write_all m n f d w v is e l =
    is ∙ ap (λ k. put n f k (v % 2 ^ k)) e ∙ ap (λ k. put n f w k) (mod-eq_of_lt l)
