-- Inputs of one bit: their names, rows that fit them, and how many values such a row has.
use Rattle.std.proofs.Common.{◌≡◌, ℕ, zero, suc, ◌+◌, ◌^◌, ◌<◌, ◌≤◌, Bool, true, false, List, [], ◌∷◌, ◌++◌, length, map, drop, get_or, refl, sym, ap, subst, ◌∙◌, arith, append_assoc, length-append}
use Rattle.std.specs.Prelude.{bytes_eq, replicate, slice_get, slice_index, slice_index_or, All, IsSomeAnd}
use Rattle.std.proofs.Math.Seq.{get_or-append_seam}
use Rattle.std.proofs.lemmas.List.{length-map}
use Rattle.std.proofs.lemmas.Slice.Eq.{bytes_eq-Decides}
use Rattle.flat_ir.specs.Names as flat
use Rattle.netlist.specs.Design.{Flat}
use Rattle.netlist.specs.Fits.{IsWellFormed}
use Rattle.netlist.specs.declared.design.Signal.{Signal}
use Rattle.design_names.specs.Shown.{no_signal, signal_at}
use Rattle.net_compile.specs.Cycle.{signal_width, RowFits}
use Rattle.vl_stands.specs.StandsFor.{input_names}
use Rattle.stimulus.specs.declared.refusal.Input.{Input}
use Rattle.stimulus.specs.Stimulus.{width_of}
use Rattle.stimulus.specs.Fits.{AreNamed, Fit, AreRows}
use Rattle.dessert.specs.Inputs.{bits_named}
use Rattle.dessert.specs.Calls.Told.{TakesBits}

-- the input of a name that stands among the names
named_by : (n : List ℕ) (ns : List (List ℕ)) (x : List ℕ) (b : Bool) → bytes_eq n x ≡ b → width_of (bits_named ns) x ≡ 1 → width_of (bits_named (n ∷ ns)) x ≡ 1
named_by n ns x true e h = rw e refl
named_by n ns x false e h = rw e h

width_at : (ns : List (List ℕ)) (k : ℕ) (d : Input) → k < length ns → width_of (bits_named ns) (get_or (bits_named ns) k d).name ≡ 1
width_at [] k d h = absurd (omega (arith, h))
width_at (n ∷ ns) zero d h = let t : bytes_eq n n ≡ true = (bytes_eq-Decides n n).1 refl in rw t refl
width_at (n ∷ ns) (suc k) d h =
    let x = (get_or (bits_named ns) k d).name in
    named_by n ns x (bytes_eq n x) refl (width_at ns k d (omega (arith, h)))

one_at : (ns : List (List ℕ)) (k : ℕ) (d : Input) → k < length ns → (get_or (bits_named ns) k d).width ≡ 1
one_at [] k d h = absurd (omega (arith, h))
one_at (n ∷ ns) zero d h = refl
one_at (n ∷ ns) (suc k) d h = one_at ns k d (omega (arith, h))

count_is : (ns : List (List ℕ)) → length (bits_named ns) ≡ length ns
count_is ns = length-map ns (λ name. record { name = name; width = 1 })

-- each has the width of its name
pub are_named : (ns : List (List ℕ)) → AreNamed (bits_named ns)
are_named ns = λ k d h. let l : k < length ns = omega (arith, h, count_is ns) in width_at ns k d l ∙ sym (one_at ns k d l)

-- and few bits
pub are_narrow : (ns : List (List ℕ)) → All (λ i. i.width ≤ 128) (bits_named ns)
are_narrow ns = λ k d h. let l : k < length ns = omega (arith, h, count_is ns) in omega (arith, one_at ns k d l)

-- ---- a row that fits

fit_length : (is : List Input) (row : List ℕ) → Fit is row → length row ≡ length is
fit_length [] [] f = refl
fit_length [] (x ∷ row) f = absurd f
fit_length (i ∷ is) [] f = absurd f
fit_length (i ∷ is) (x ∷ row) f = ap suc (fit_length is row f.1)

pub row_length : (ns : List (List ℕ)) (row : List ℕ) → Fit (bits_named ns) row → length row ≡ length ns
row_length ns row f = fit_length (bits_named ns) row f ∙ count_is ns

-- its values are bits
bit_at : (ns : List (List ℕ)) (row : List ℕ) → Fit (bits_named ns) row → (k : ℕ) → k < length ns → slice_index row k < 2
bit_at [] row f k h = absurd (omega (arith, h))
bit_at (n ∷ ns) [] f k h = absurd f
bit_at (n ∷ ns) (x ∷ row) f zero h = f.0
bit_at (n ∷ ns) (x ∷ row) f (suc k) h = bit_at ns row f.1 k (omega (arith, h))

-- and it fits a design's inputs of one bit
fits_bits : (ns : List (List ℕ)) (row : List ℕ) → Fit (bits_named ns) row → flat.Fit (replicate (length ns) 1) row
fits_bits [] [] f = tt
fits_bits [] (x ∷ row) f = absurd f
fits_bits (n ∷ ns) [] f = absurd f
fits_bits (n ∷ ns) (x ∷ row) f = (f.0, fits_bits ns row f.1)

pub rows_fit_bits : (ns : List (List ℕ)) (rows : List (List ℕ)) → AreRows (bits_named ns) rows → (t : ℕ) → t < length rows
    → flat.Fit (replicate (length ns) 1) (slice_index_or rows t [])
rows_fit_bits ns rows a t h = fits_bits ns (slice_index_or rows t []) (a.1 t [] h)

-- the last of some rows
pub last_fits : (is : List Input) (rows : List (List ℕ)) (row : List ℕ) → AreRows is (rows ++ row ∷ []) → Fit is row
last_fits is rows row a =
    let l = length-append rows (row ∷ []) in
    subst (Fit is) (get_or-append_seam rows row [] []) (a.1 (length rows) [] (omega (arith, l)))

-- ---- a row that a design takes

ones_at : (n k : ℕ) → k < n → slice_index (replicate n 1) k ≡ 1
ones_at zero k h = absurd (omega (arith, h))
ones_at (suc n) zero h = refl
ones_at (suc n) (suc k) h = ones_at n k (omega (arith, h))

mapped_at : (g : ℕ → ℕ) (ns : List ℕ) (k : ℕ) → k < length ns → slice_index (map g ns) k ≡ g (slice_index ns k)
mapped_at g [] k h = absurd (omega (arith, h))
mapped_at g (n ∷ ns) zero h = refl
mapped_at g (n ∷ ns) (suc k) h = mapped_at g ns k (omega (arith, h))

pub is_there : (ss : List Signal) (n : ℕ) (P : Signal → Type 0) → IsSomeAnd (slice_get ss n) P → n < length ss
is_there [] n P h = absurd h
is_there (s ∷ ss) zero P h = omega arith
is_there (s ∷ ss) (suc n) P h = omega (arith, is_there ss n P h)

wide_at : (ss : List Signal) (n : ℕ) → n < length ss → signal_width ss n ≡ (slice_index_or ss n no_signal).width
wide_at [] n h = absurd (omega (arith, h))
wide_at (s ∷ ss) zero h = refl
wide_at (s ∷ ss) (suc n) h = wide_at ss n (omega (arith, h))

-- a row of bits fits a design whose inputs have one bit
pub row_fits : (f : Flat) (row : List ℕ) → IsWellFormed f → TakesBits f → Fit (bits_named (input_names f)) row → RowFits f row
row_fits f row well bits fit k l =
    let n : ℕ = slice_index f.inputs k in
    let here : n < length f.signals = is_there f.signals n _ (well.signals.inputs k 0 l) in
    let one : signal_width f.signals n ≡ 1 =
    wide_at f.signals n here ∙ sym (mapped_at (λ i. (signal_at f i).width) f.inputs k l) ∙ ap (λ (ws : List ℕ). slice_index ws k) bits ∙ ones_at (length f.inputs) k l in
    let named : k < length (input_names f) = omega (arith, l, length-map f.inputs (λ i. (signal_at f i).name)) in
    subst (λ (w : ℕ). slice_index row k < 2 ^ w) (sym one) (bit_at (input_names f) row fit k named)

-- ---- the inputs of a design, one after another

drop_at : (ns : List ℕ) (i : ℕ) → i < length ns → drop i ns ≡ slice_index ns i ∷ drop (i + 1) ns
drop_at [] i l = absurd (omega (arith, l))
drop_at (n ∷ ns) zero l = refl
drop_at (n ∷ ns) (suc i) l =
    let e : suc (i + 1) ≡ suc i + 1 = omega arith in
    drop_at ns i (omega (arith, l)) ∙ ap (λ (k : ℕ). slice_index ns i ∷ drop k (n ∷ ns)) e

default_at : (ss : List Signal) (k : ℕ) (x y : Signal) → k < length ss → get_or ss k x ≡ get_or ss k y
default_at [] k x y l = absurd (omega (arith, l))
default_at (s ∷ ss) zero x y l = refl
default_at (s ∷ ss) (suc k) x y l = default_at ss k x y (omega (arith, l))

-- the inputs of these numbers, by their names
abbrev pub inputs_at : Flat → List ℕ → List Input
inputs_at f ks = bits_named (map (λ k. (signal_at f k).name) ks)

-- one input more
pub one_pushed : (f : Flat) (i : ℕ) (x : Signal) (signals : List Signal) (numbers : List ℕ) (before now whole : List Input) → IsWellFormed f → signals ≡ f.signals
    → numbers ≡ f.inputs → i < length numbers → x ≡ get_or signals (slice_index numbers i) x → now ≡ before ++ bits_named (x.name ∷ [])
    → before ++ inputs_at f (drop i f.inputs) ≡ whole → now ++ inputs_at f (drop (i + 1) f.inputs) ≡ whole
one_pushed f i x signals numbers before now whole well a b l is pushed so_far =
    let k : ℕ = slice_index f.inputs i in
    let within : i < length f.inputs = subst (λ (ns : List ℕ). i < length ns) b l in
    let here : k < length f.signals = is_there f.signals k _ (well.signals.inputs i 0 within) in
    let read : x ≡ signal_at f k = is ∙ (λ j. get_or (a j) (slice_index (b j) i) x) ∙ default_at f.signals k x no_signal here in
    let rest : List Input = inputs_at f (drop (i + 1) f.inputs) in
    ap (λ (is : List Input). is ++ rest) pushed
    ∙ append_assoc before (bits_named (x.name ∷ [])) rest
    ∙ ap (λ (s : Signal). before ++ (bits_named (s.name ∷ []) ++ rest)) read
    ∙ ap (λ (ks : List ℕ). before ++ inputs_at f ks) (sym (drop_at f.inputs i within))
    ∙ so_far
