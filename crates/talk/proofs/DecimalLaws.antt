-- Digits that go on from a number make one that is no smaller.
use Rattle.std.proofs.Common.{◌≡◌, ℕ, suc, ◌+◌, ◌-◌, ◌*◌, ◌<◌, ◌≤◌, List, [], ◌∷◌, length, drop, false, refl, sym, ap, ◌∙◌, arith}
use Rattle.std.specs.Prelude.{None, fold, nat_le, slice_index}
use Rattle.std.proofs.Math.Seq.{drop-cons}
use Rattle.std.proofs.lemmas.Bool.Decides.{nat_tests}
use Rattle.talk.specs.Words.{decimal_of, some_when}

grows : (n : ℕ) (ds : List ℕ) → n ≤ fold (λ n d. 10 * n + (d - 48)) n ds
grows n [] = omega arith
grows n (d ∷ ds) = omega (arith, grows (10 * n + (d - 48)) ds)

-- where the number with the next digit is too great, it stays so
pub too_great : (ds : List ℕ) (i n m most : ℕ) → i < length ds → fold (λ n d. 10 * n + (d - 48)) n (drop i ds) ≡ decimal_of ds → m ≡ 10 * n + (slice_index ds i - 48) → most < m
    → None ≡ some_when (nat_le (decimal_of ds) most) (decimal_of ds)
too_great ds i n m most h e is great =
    let c = drop-cons ds i 0 h in
    let t : fold (λ n d. 10 * n + (d - 48)) (10 * n + (slice_index ds i - 48)) (drop (suc i) ds) ≡ decimal_of ds = ap (fold (λ n d. 10 * n + (d - 48)) n) (sym c) ∙ e in
    let g = grows (10 * n + (slice_index ds i - 48)) (drop (suc i) ds) in
    let b : nat_le (decimal_of ds) most ≡ false = grind (arith, nat_tests, t, g, is, great) in
    rw b refl
