-- Far away no bit lies, and none is read.
use Rattle.std.proofs.Common.{◌≡◌, ℕ, suc, ◌-◌, ◌^◌, ◌<◌, ◌≤◌, false, ℤ, pos, negsuc, sym, ap, ◌∙◌, arith}
use Rattle.std.specs.Prelude.{nat_le, unsigned_abs, filter}
use Rattle.std.specs.List.{list_any}
use Rattle.dt_core.specs.declared.limits.TheConstants.{MAX_BOUND}
use Rattle.netlist.specs.declared.design.Range.{Range}
use Rattle.bit_ops.specs.Operators.{select}
use Rattle.vl_value.specs.Things.{Shape, place_of}
use Rattle.vl_value.specs.Reads.{up_to, is_within}
use Rattle.vl_vectors.specs.Vectors.{has_place}
use Rattle.vl_vectors.proofs.Places.{none_above, none_under}
use Rattle.vl_sized.proofs.Worths.{IsOff, off_select, place_off}

pub far_off : (sh : Shape) (z : ℤ) (n : ℕ) → sh.right ≤ MAX_BOUND → n < 2 ^ 32 → 2 ^ 39 ≤ unsigned_abs z → IsOff n (place_of sh z n)
far_off sh z n bound few far = place_off (nat_le sh.right sh.left) z sh.right n bound few far

pub far_value : (sh : Shape) (z : ℤ) (n v : ℕ) → sh.right ≤ MAX_BOUND → n < 2 ^ 32 → 2 ^ 39 ≤ unsigned_abs z → v < 2 ^ 128
    → 0 ≡ select (place_of sh z n) n v
far_value sh z n v bound few far fits = sym (off_select n v (place_of sh z n) (far_off sh z n bound few far) fits)

none_off : (q : Range) (signal w n : ℕ) (p : ℤ) → w ≤ 128 → IsOff n p
    → false ≡ list_any (has_place q signal) (filter (is_within p n) (up_to w))
none_off q signal w n (pos k) most off = sym (none_above q signal w k n (omega (arith, most, off)))
none_off q signal w n (negsuc k) most off =
    let same : suc k - 1 ≡ k = omega arith in
    sym (none_under q signal w (suc k) n (omega arith) off)
    ∙ ap (λ i. list_any (has_place q signal) (filter (is_within (negsuc i) n) (up_to w))) same

pub far_reads : (q : Range) (signal w n : ℕ) (sh : Shape) (z : ℤ) → w ≤ 128 → sh.right ≤ MAX_BOUND → n < 2 ^ 32 → 2 ^ 39 ≤ unsigned_abs z
    → false ≡ list_any (has_place q signal) (filter (is_within (place_of sh z n) n) (up_to w))
far_reads q signal w n sh z most bound few far = none_off q signal w n (place_of sh z n) most (far_off sh z n bound few far)
