-- Rows of a design's data inputs.
use Rattle.std.proofs.Common.{◌≡◌, ℕ, zero, suc, ◌+◌, ◌*◌, ◌^◌, ◌<◌, ◌≤◌, List, [], ◌∷◌, ◌++◌, length, take, get_or, refl, sym, ap, subst, ◌∙◌, arith}
use Rattle.std.specs.Prelude.{map, fold, slice_get, slice_index, Option, Some}
use Rattle.std.specs.Option.{option_map, unwrap_or}
use Rattle.std.specs.List.{All, sum}
use Rattle.std.proofs.lemmas.List.{length-map, get_or-map, map-append, take_more}
use Rattle.std.proofs.lemmas.Option.{slice_get_within}
use Rattle.netlist.proofs.Puts.{some_with}
use Rattle.netlist.specs.Design.{Flat}
use Rattle.netlist.specs.Fits.{IsWellFormed, IsInput}
use Rattle.netlist.specs.declared.design.Signal.{Signal}
use Rattle.net_compile.specs.Cycle.{input_widths, signal_width}
use Rattle.packed_rows.specs.Packed.{Fits}
use Rattle.held_state.proofs.InPlace.{some_at}
use Rattle.held_state.proofs.Takes.{input_wide}

-- ---- widths

pub widths_wide : (f : Flat) → IsWellFormed f → All (λ w. w ≤ 128) (input_widths f.signals f.inputs)
widths_wide f w = λ k d l.
    let i : k < length f.inputs = omega (arith, l, length-map f.inputs (λ n. signal_width f.signals n)) in
    subst (λ (n : ℕ). n ≤ 128) (sym (get_or-map (λ n. signal_width f.signals n) f.inputs k 0 d i)) (input_wide f w k i)

sum_wide : (a : ℕ) (xs : List ℕ) → All (λ w. w ≤ 128) xs → fold (λ (n : ℕ) (x : ℕ). n + x) a xs ≤ a + 128 * length xs
sum_wide a [] h = omega arith
sum_wide a (x ∷ xs) h =
    let one : x ≤ 128 = h 0 0 (omega arith) in
    let more : fold (λ (n : ℕ) (y : ℕ). n + y) (a + x) xs ≤ a + x + 128 * length xs =
    sum_wide (a + x) xs (λ k d l. h (suc k) d (omega (arith, l))) in
    omega (arith, one, more)

pub widths_few : (f : Flat) → IsWellFormed f → sum (input_widths f.signals f.inputs) ≤ 131072
widths_few f w =
    let h : sum (input_widths f.signals f.inputs) ≤ 0 + 128 * length (input_widths f.signals f.inputs) =
    sum_wide 0 (input_widths f.signals f.inputs) (widths_wide f w) in
    omega (arith, h, length-map f.inputs (λ n. signal_width f.signals n), w.signals.few_inputs.0)

-- the width of one input more
pub widths_more : (ss : List Signal) (ks : List ℕ) (i d : ℕ) (r : Signal) (xs : List ℕ) → i < length ks
    → get_or ks i d < length ss → r ≡ get_or ss (get_or ks i d) r → xs ≡ input_widths ss (take i ks)
    → xs ++ r.width ∷ [] ≡ input_widths ss (take (i + 1) ks)
widths_more ss ks i d r xs l there r_is is =
    let at : slice_get ss (get_or ks i d) ≡ Some r = some_at ss (get_or ks i d) r there r_is in
    let width : signal_width ss (get_or ks i d) ≡ r.width =
    ap (λ (o : Option Signal). unwrap_or (option_map (λ (s : Signal). s.width) o) 0) at in
    ap (λ (ys : List ℕ). ys ++ r.width ∷ []) is ∙ ap (λ (w : ℕ). input_widths ss (take i ks) ++ w ∷ []) (sym width)
    ∙ sym (map-append (λ (k : ℕ). signal_width ss k) (take i ks) (get_or ks i d ∷ []))
    ∙ ap (map (λ (k : ℕ). signal_width ss k)) (sym (take_more ks i d l))

-- each input is a signal
pub input_there : (f : Flat) → IsWellFormed f → (k d : ℕ) → k < length f.inputs → get_or f.inputs k d < length f.signals
input_there f w k d l =
    let x = some_with (slice_get f.signals (get_or f.inputs k d)) (λ (y : Signal). IsInput y.role k) (w.signals.inputs k d l) in
    slice_get_within f.signals (get_or f.inputs k d) x.0 x.1

-- ---- a row that fits

pub row_fits : (ss : List Signal) (ks row : List ℕ) → length row ≡ length ks
    → ((k : ℕ) → k < length ks → slice_index row k < 2 ^ signal_width ss (slice_index ks k)) → Fits (input_widths ss ks) row
row_fits ss [] [] c h = tt
row_fits ss [] (x ∷ row) c h = absurd (omega (arith, c))
row_fits ss (k ∷ ks) [] c h = absurd (omega (arith, c))
row_fits ss (k ∷ ks) (x ∷ row) c h = (h 0 (omega arith), row_fits ss ks row (omega (arith, c)) (λ i l. h (suc i) (omega (arith, l))))

pub fits_count : (ss : List Signal) (ks row : List ℕ) → Fits (input_widths ss ks) row → length row ≡ length ks
fits_count ss [] [] h = refl
fits_count ss [] (x ∷ row) h = absurd h
fits_count ss (k ∷ ks) [] h = absurd h
fits_count ss (k ∷ ks) (x ∷ row) h = ap suc (fits_count ss ks row h.1)

pub fits_row : (ss : List Signal) (ks row : List ℕ) → Fits (input_widths ss ks) row → (k : ℕ) → k < length ks
    → slice_index row k < 2 ^ signal_width ss (slice_index ks k)
fits_row ss [] row h k l = absurd (omega (arith, l))
fits_row ss (n ∷ ks) [] h k l = absurd h
fits_row ss (n ∷ ks) (x ∷ row) h zero l = h.0
fits_row ss (n ∷ ks) (x ∷ row) h (suc k) l = fits_row ss ks row h.1 k (omega (arith, l))
