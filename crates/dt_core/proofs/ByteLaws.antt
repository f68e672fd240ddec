-- Bits of a byte, as they are computed.
use Rattle.std.proofs.Common.{◌≡◌, ℕ, ◌+◌, ◌*◌, ◌/◌, ◌%◌, ◌^◌, ◌-◌, ◌<◌, ◌≤◌, List, length, get_or, set, bit_and, ap, ◌∙◌, inl, inr, arith}
use Rattle.std.proofs.lemmas.Bool.{cases_eq}
use Rattle.std.proofs.lemmas.List.{get_or-set_same, get_or-set_other}
use Rattle.std.proofs.Math.Nat.{mod-eq_of_lt, le-mul_of_pos_right}
use Rattle.std.proofs.lemmas.Nat.{pow_pos, and_mask, one_shl, shr_below, mul-add-lt, mod_below}
use Rattle.dt_core.specs.Packing.{put}
use Rattle.dt_core.proofs.PackingLaws.{room}

-- a mask of k bits at a type of w
pub low_bits : (v w k : ℕ) → k < w → bit_and v (1 * 2 ^ k % 2 ^ w - 1) ≡ v % 2 ^ k
low_bits v w k l = ap (λ m. bit_and v (m - 1)) (one_shl k w l) ∙ and_mask v k

-- a byte with other bits is a byte
pub put_is_byte : (b s c y : ℕ) → b < 256 → s + c ≤ 8 → y < 2 ^ c → put b s c y < 256
unfolding put
put_is_byte b s c y l w f =
    let d : ℕ = 8 - (s + c) in
    let e : d + (s + c) ≡ 8 = omega arith in
    let t : b < 2 ^ (d + (s + c)) = rw e l in
    let h : b / 2 ^ (s + c) * 2 ^ c + y < 2 ^ c * 2 ^ d =
    mul-add-lt (b / 2 ^ (s + c)) (2 ^ c) y (2 ^ d) (shr_below b d (s + c) t) f in
    omega (arith, room s c d e, mul-add-lt (b / 2 ^ (s + c) * 2 ^ c + y) (2 ^ s) (b % 2 ^ s) (2 ^ c * 2 ^ d) h (mod_below b (2 ^ s) (pow_pos s)))

-- other bits put to a byte, by shifts at 32 bits
pub put_by_shifts : (b s c y : ℕ) → b < 256 → s + c ≤ 8 → y < 2 ^ c
    → (b / 2 ^ (s + c) * 2 ^ c % 2 ^ 32 + y) * 2 ^ s % 2 ^ 32 + bit_and b (1 * 2 ^ s % 2 ^ 32 - 1) ≡ put b s c y
unfolding put
put_by_shifts b s c y l w f =
    let q : ℕ = b / 2 ^ (s + c) * 2 ^ c in
    let whole : (q + y) * 2 ^ s + b % 2 ^ s < 256 = put_is_byte b s c y l w f in
    let wide : q + y ≤ (q + y) * 2 ^ s = le-mul_of_pos_right (q + y) (pow_pos s) in
    let first : q % 2 ^ 32 ≡ q = mod-eq_of_lt (omega arith) in
    let second : (q + y) * 2 ^ s % 2 ^ 32 ≡ (q + y) * 2 ^ s = mod-eq_of_lt (omega arith) in
    ap (λ m. (m + y) * 2 ^ s % 2 ^ 32 + bit_and b (1 * 2 ^ s % 2 ^ 32 - 1)) first
    ∙ ap (λ m. m + bit_and b (1 * 2 ^ s % 2 ^ 32 - 1)) second
    ∙ ap (λ m. (q + y) * 2 ^ s + m) (low_bits b 32 s (omega arith))

-- bytes with another byte are bytes
pub bytes_after_set : (bs : List ℕ) (i y : ℕ) → i < length bs → ((k : ℕ) → get_or bs k 0 < 256) → y < 256 → (k : ℕ) → get_or (set bs i y) k 0 < 256
bytes_after_set bs i y l h s k = elim (cases_eq k i) [
  | inl e ↦ omega (arith, ap (λ j. get_or (set bs i y) j 0) e, get_or-set_same bs i y 0 l)
  | inr n ↦ omega (arith, get_or-set_other bs i k y 0 n, h k)
]
