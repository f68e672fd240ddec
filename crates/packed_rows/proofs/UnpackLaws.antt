-- Values that are taken from words one after another.
use Rattle.std.proofs.Common.{◌≡◌, ℕ, ◌+◌, ◌-◌, ◌*◌, ◌/◌, ◌%◌, ◌^◌, ◌<◌, ◌≤◌, List, length, drop, get_or, sym, ap, subst, ◌∙◌, arith, pow_pos, add_comm}
use Rattle.std.proofs.Math.Nat.{add-mul-div_left, add-mul-mod_self_left}
use Rattle.std.proofs.lemmas.Nat.{pow-add, shr-shr, shl_whole, shr_below, mod-pow-add, mod_below, shr_split}
use Rattle.packed_rows.specs.Packed.{number}
use Rattle.packed_rows.specs.Words.{left}
use Rattle.packed_rows.specs.declared.held.Held.{Held}
use Rattle.packed_rows.proofs.PackLaws.{above, from_place}

-- ---- bits of what is held

-- some bits of a number that goes on above those that are held
pub taken_low : (b c w m : ℕ) → w ≤ c → (b + 2 ^ c * m) % 2 ^ w ≡ b % 2 ^ w
taken_low b c w m few =
    let whole : w + (c - w) ≡ c = omega arith in
    let power : 2 ^ c ≡ 2 ^ w * 2 ^ (c - w) = ap (λ (k : ℕ). 2 ^ k) (sym whole) ∙ pow-add 2 w (c - w) in
    let moved : 2 ^ c * m ≡ 2 ^ w * (2 ^ (c - w) * m) = ap (λ (k : ℕ). k * m) power ∙ omega arith in
    ap (λ (k : ℕ). (b + k) % 2 ^ w) moved ∙ add-mul-mod_self_left b (2 ^ w) (2 ^ (c - w) * m)

pub taken_high : (b c d w m : ℕ) → d + w ≡ c → (b + 2 ^ c * m) / 2 ^ w ≡ b / 2 ^ w + 2 ^ d * m
taken_high b c d w m whole =
    let turned : w + d ≡ c = omega (arith, whole) in
    let power : 2 ^ c ≡ 2 ^ w * 2 ^ d = ap (λ (k : ℕ). 2 ^ k) (sym turned) ∙ pow-add 2 w d in
    let moved : 2 ^ c * m ≡ 2 ^ w * (2 ^ d * m) = ap (λ (k : ℕ). k * m) power ∙ omega arith in
    ap (λ (k : ℕ). (b + k) / 2 ^ w) moved ∙ add-mul-div_left b (2 ^ d * m) (pow_pos w)

-- ---- one word more

pub word_more : (words : List ℕ) (k b c x : ℕ) → k < length words → x ≡ get_or words k 0
    → b + x * 2 ^ c + 2 ^ (c + 64) * number (drop (k + 1) words) ≡ b + 2 ^ c * number (drop k words)
word_more words k b c x less is =
    let m : ℕ = number (drop (k + 1) words) in
    let opened : number (drop k words) ≡ x + 2 ^ 64 * m = ap number (from_place words k x less is) in
    let power : 2 ^ (c + 64) ≡ 2 ^ c * 2 ^ 64 = pow-add 2 c 64 in
    rw (opened, power) (omega arith)

-- the bits of a word that are left after a value
pub rest_of_word : (b x c d w : ℕ) → c + d ≡ w → b < 2 ^ c → x / 2 ^ d ≡ (b + x * 2 ^ c) / 2 ^ w
rest_of_word b x c d w whole fits =
    ap (λ (n : ℕ). n / 2 ^ d) (sym (above b x c fits)) ∙ shr-shr (b + x * 2 ^ c) c d
    ∙ ap (λ (k : ℕ). (b + x * 2 ^ c) / 2 ^ k) whole

-- the lowest bits of a word are those of a number that goes on above it
pub low_in_word : (t w : ℕ) → w ≤ 64 → t % 2 ^ 64 % 2 ^ w ≡ t % 2 ^ w
low_in_word t w few =
    let parts : t % 2 ^ 64 + 2 ^ 64 * (t / 2 ^ 64) ≡ t = omega (arith, shr_split t 64) in
    sym (taken_low (t % 2 ^ 64) 64 w (t / 2 ^ 64) few) ∙ ap (λ (n : ℕ). n % 2 ^ w) parts

-- ---- what is held after a value

pub split_fits : (b c d w x : ℕ) → d + w ≡ c → b < 2 ^ c → x ≡ b / 2 ^ w → x < 2 ^ d
split_fits b c d w x whole fits is =
    let less : b / 2 ^ w < 2 ^ d = shr_below b d w (subst (λ (k : ℕ). b < 2 ^ k) (sym whole) fits) in
    omega (arith, less, is)

pub split_value : (words : List ℕ) (h : Held) (w v : ℕ) → w ≤ h.count → v ≡ h.bits % 2 ^ w → v ≡ left words h % 2 ^ w
split_value words h w v few is = is ∙ sym (taken_low h.bits h.count w (number (drop h.next words)) few)

pub split_left : (words : List ℕ) (h s : Held) (w : ℕ) → s.bits ≡ h.bits / 2 ^ w → s.count + w ≡ h.count
    → s.next ≡ h.next → left words s ≡ left words h / 2 ^ w
split_left words h s w bits count next =
    ap (λ (k : ℕ). s.bits + 2 ^ s.count * number (drop k words)) next
    ∙ ap (λ (b : ℕ). b + 2 ^ s.count * number (drop h.next words)) bits
    ∙ sym (taken_high h.bits h.count s.count w (number (drop h.next words)) count)

-- ---- a value of more bits than a word

pub wide_value : (n m low high w : ℕ) → 64 < w → w ≤ 128 → low ≡ n % 2 ^ 64 → m ≡ n / 2 ^ 64 → high ≡ m % 2 ^ (w - 64)
    → low + high * 2 ^ 64 % 2 ^ 128 ≡ n % 2 ^ w
wide_value n m low high w wide most first rest second =
    let whole : w - 64 + 64 ≡ w = omega arith in
    let within : w - 64 + 64 ≤ 128 = omega arith in
    let below : m % 2 ^ (w - 64) < 2 ^ (w - 64) = mod_below m (2 ^ (w - 64)) (pow_pos (w - 64)) in
    let fits : high < 2 ^ (w - 64) = omega (arith, second, below) in
    let named : high ≡ n / 2 ^ 64 % 2 ^ (w - 64) = second ∙ ap (λ (k : ℕ). k % 2 ^ (w - 64)) rest in
    let parts : n % 2 ^ w ≡ n / 2 ^ 64 % 2 ^ (w - 64) * 2 ^ 64 + n % 2 ^ 64 =
    ap (λ (k : ℕ). n % 2 ^ k) (sym whole) ∙ mod-pow-add n (w - 64) 64 in
    let joined : n / 2 ^ 64 % 2 ^ (w - 64) * 2 ^ 64 + n % 2 ^ 64 ≡ low + high * 2 ^ 64 =
    ap (λ (k : ℕ). k * 2 ^ 64 + n % 2 ^ 64) (sym named) ∙ ap (λ (k : ℕ). high * 2 ^ 64 + k) (sym first)
    ∙ add_comm (high * 2 ^ 64) low in
    ap (λ (k : ℕ). low + k) (shl_whole high (w - 64) 64 128 fits within) ∙ sym (parts ∙ joined)

pub left_in_two : (n m w : ℕ) → 64 < w → m ≡ n / 2 ^ 64 → m / 2 ^ (w - 64) ≡ n / 2 ^ w
left_in_two n m w wide rest =
    let whole : 64 + (w - 64) ≡ w = omega arith in
    ap (λ (k : ℕ). k / 2 ^ (w - 64)) rest ∙ shr-shr n 64 (w - 64) ∙ ap (λ (k : ℕ). n / 2 ^ k) whole

-- ---- one value after another
