-- A clock shows 0 where a cycle settles: no part has a bit of it.
use Rattle.std.proofs.Common.{◌≡◌, ℕ, zero, suc, ◌+◌, ◌<◌, ◌≤◌, true, List, [], ◌∷◌, length, get_or, refl, sym, ap, subst, ◌∙◌, arith}
use Rattle.std.specs.Prelude.{Option, Some, slice_index, slice_get, IsSomeAnd}
use Rattle.std.specs.Int.{bit_at}
use Rattle.std.proofs.lemmas.Nat.Bits.{same_from_bits}
use Rattle.netlist.specs.Fits.{PlaceFits, IsInner}
use Rattle.netlist.specs.Laws.{HasBit}
use Rattle.netlist.specs.Run.{role_value}
use Rattle.netlist.specs.declared.design.Role.{Role}
use Rattle.netlist.specs.declared.design.Role.TheVariants as role
use Rattle.netlist.specs.declared.design.Signal.{Signal}
use Rattle.netlist.specs.declared.design.Range.{Range}
use Rattle.netlist.proofs.BitsLaw.{bits_law}
use Rattle.design_names.specs.Shown.{is_clock, no_signal, signal_at}
use Rattle.design_names.specs.Laws.{ClocksAreZero}

clock_role : (r : Role) → is_clock r ≡ true → r ≡ role.Clock
clock_role role.Clock h = refl
clock_role (role.Input i) h = absurd cc
clock_role role.Inner h = absurd cc

there : (ss : List Signal) (k : ℕ) → k < length ss → slice_get ss k ≡ Some (get_or ss k no_signal)
there [] k h = absurd (omega arith)
there (s ∷ ss) zero h = refl
there (s ∷ ss) (suc k) h = there ss k (omega arith)

-- a range that fits has no bit of a clock
no_bit : (ss : List Signal) (r : Range) (k i : ℕ) (s : Signal) → slice_get ss k ≡ Some s → s.role ≡ role.Clock
    → PlaceFits ss r → HasBit r k i → ⊥
no_bit ss r k i s e clock fits bit =
    let at : slice_get ss r.signal ≡ Some s = ap (slice_get ss) bit.0 ∙ e in
    let inner = subst (λ (x : Option Signal). IsSomeAnd x (λ y. IsInner y.role × (r.low + r.width ≤ y.width))) at fits in
    let same : role.Clock ≡ role.Inner = sym clock ∙ inner.0 in
    absurd cc

pub clocks_zero : ClocksAreZero
clocks_zero f s row v k w settles h clock =
    let x : Signal = signal_at f k in
    let e : slice_get f.signals k ≡ Some x = there f.signals k h in
    let c : x.role ≡ role.Clock = clock_role x.role clock in
    let parts = bits_law f s row v w settles in
    same_from_bits (slice_index v.signals k) 0 (λ i.
    parts.others k i x e (record {
      driven = λ j d g. no_bit f.signals (get_or f.driven j d).range k i x e c (w.parts.driven j d g).0;
      registers = λ j d g. no_bit f.signals (get_or f.registers j d).range k i x e c (w.parts.registers j d g).0;
    })
    ∙ ap (λ (r : Role). bit_at (role_value row x.kept r) i) c)
