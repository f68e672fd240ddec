-- What settles is what the old design's signals show.
use Rattle.std.proofs.Common.{◌≡◌, ℕ, suc, ◌+◌, ◌*◌, ◌/◌, ◌%◌, ◌<◌, ◌^◌, List, [], ◌∷◌, ◌++◌, length, map, drop, refl, sym, ap, ◌∙◌, subst, arith, append_assoc}
use Rattle.std.specs.Prelude.{Some, slice_get, slice_index, slice_set}
use Rattle.std.specs.Option.{option_map, unwrap_or}
use Rattle.std.proofs.Math.Nat.{mod-eq_of_lt, mod-lt, zero-mod, zero-div}
use Rattle.std.proofs.Math.Seq.{get_or-append_seam, set-append_seam}
use Rattle.std.proofs.lemmas.List.{length_push}
use Rattle.std.proofs.lemmas.Grind.{get_or_after_one}
use Rattle.std.proofs.lemmas.Nat.{pow_pos}
use Rattle.bit_ops.specs.Operators.{low, insert_at}
use Rattle.flat_ir.specs.Shown.{role_value, signal_value}
use Rattle.flat_ir.specs.declared.design.Role.{Role}
use Rattle.flat_ir.specs.declared.design.Role.TheVariants as role
use Rattle.flat_ir.specs.declared.design.Signal as old
use Rattle.netlist.specs.Run.{put, put_registers}
use Rattle.netlist.specs.Run as run
use Rattle.netlist.specs.declared.design.Signal.{Signal}
use Rattle.netlist.specs.declared.design.Range.{Range}
use Rattle.netlist.specs.declared.design.RegisterPart.{RegisterPart}
use Rattle.one_block.specs.OneBlock.{AreNumbered, input_width, register_width}
use Rattle.one_block.specs.SameDesign.{signal_of, role_of, register_range, register_ranges, whole}
use Rattle.one_block.proofs.Signals.{mapped_at}

-- ---- a whole signal

-- all bits of a signal, put in where there were none
pub whole_put : (w n : ℕ) → insert_at w 0 w n 0 ≡ low w n
whole_put w n =
    let e : (0 / 2 ^ (0 + w)) * 2 ^ (0 + w) + (low w n * 2 ^ 0 + 0 % 2 ^ 0) ≡ low w n =
    ap (λ k. k * 2 ^ (0 + w) + (low w n * 2 ^ 0 + 0 % 2 ^ 0)) (zero-div (2 ^ (0 + w))) ∙ omega arith in
    ap (low w) e ∙ mod-eq_of_lt (mod-lt n (pow_pos w))

-- ---- parts by their ranges

-- values of whole ranges put in one after another
abbrev put_all : List Signal → List Range → List ℕ → List ℕ → List ℕ
put_all signals [] state values = values
put_all signals (r ∷ rs) state values = put_all signals rs (drop 1 state) (put signals r (slice_index state 0) values)

by_ranges : (signals : List Signal) (parts : List RegisterPart) (state values : List ℕ)
    → put_registers signals parts state values ≡ put_all signals (map (λ (p : RegisterPart). p.range) parts) state values
by_ranges signals [] state values = refl
by_ranges signals (p ∷ ps) state values =
    by_ranges signals ps (drop 1 state) (put signals p.range (slice_index state 0) values)

-- ---- all signals

-- what the row says, and 0 for a register
abbrev base : List ℕ → List old.Signal → List ℕ
base row [] = []
base row (s ∷ ss) = run.role_value row 0 (role_of s.role) ∷ base row ss

base_is : (row : List ℕ) (ss : List old.Signal) → map (λ (x : Signal). run.role_value row x.kept x.role) (map signal_of ss) ≡ base row ss
base_is row [] = refl
base_is row (s ∷ ss) = ap (λ xs. run.role_value row 0 (role_of s.role) ∷ xs) (base_is row ss)

-- a data input that these signals show has a number within its width in the row
abbrev pub InputsFit : List ℕ → List old.Signal → Type 0
InputsFit row ss = (k n : ℕ) (s : old.Signal) → slice_get ss k ≡ Some s → s.role ≡ role.Input n → slice_index row n < 2 ^ s.width

-- the values of the state from register r on
abbrev FromOn : ℕ → List ℕ → List ℕ → Type 0
FromOn r state left = (m : ℕ) → slice_index left m ≡ slice_index state (r + m)

from_next : (r : ℕ) (state left : List ℕ) → FromOn r state left → FromOn (r + 1) state (drop 1 left)
from_next r state left h m = get_or_after_one left m 0 ∙ h (1 + m) ∙ ap (slice_index state) (omega arith)

-- what is shown once the parts of these signals are put in, behind those that were
abbrev Shows : List ℕ → List ℕ → List old.Signal → List old.Signal → List ℕ → List ℕ → Type 0
Shows row state front ss left pre =
    put_all (map signal_of (front ++ ss)) (register_ranges (length front) ss) left (pre ++ base row ss)
    ≡ pre ++ map (signal_value row state) ss

-- one signal more that has its value
one_more : (row state : List ℕ) (front : List old.Signal) (s : old.Signal) (ss : List old.Signal) (left pre : List ℕ) (v : ℕ)
    → Shows row state (front ++ s ∷ []) ss left (pre ++ v ∷ [])
    → put_all (map signal_of (front ++ s ∷ ss)) (register_ranges (length front + 1) ss) left (pre ++ v ∷ base row ss)
    ≡ pre ++ v ∷ map (signal_value row state) ss
one_more row state front s ss left pre v h =
    let F : List old.Signal → ℕ → List ℕ → List ℕ = λ fs n vs. put_all (map signal_of fs) (register_ranges n ss) left vs in
    ap (λ fs. F fs (length front + 1) (pre ++ v ∷ base row ss)) (sym (append_assoc front (s ∷ []) ss))
    ∙ ap (λ n. F ((front ++ s ∷ []) ++ ss) n (pre ++ v ∷ base row ss)) (sym (length_push front s))
    ∙ ap (λ vs. F ((front ++ s ∷ []) ++ ss) (length (front ++ s ∷ [])) vs) (sym (append_assoc pre (v ∷ []) (base row ss)))
    ∙ h
    ∙ append_assoc pre (v ∷ []) (map (signal_value row state) ss)

none : (n : ℕ) → n + 0 ≡ n
none n = omega arith

zero_more : (n : ℕ) → 0 + n ≡ n
zero_more n = omega arith

seam_at : {X : Type 0} (front : List X) (x : X) (rest : List X) → slice_get (front ++ x ∷ rest) (length front) ≡ Some x
seam_at [] x rest = refl
seam_at (y ∷ ys) x rest = seam_at ys x rest

-- the whole of a signal behind others
put_behind : (front : List old.Signal) (s : old.Signal) (ss : List old.Signal) (n : ℕ) (pre rest : List ℕ) → length pre ≡ length front
    → put (map signal_of (front ++ s ∷ ss)) (whole (length front) s.width) n (pre ++ 0 ∷ rest) ≡ pre ++ low s.width n ∷ rest
put_behind front s ss n pre rest e =
    let values : List ℕ = pre ++ 0 ∷ rest in
    let at : slice_get (map signal_of (front ++ s ∷ ss)) (length front) ≡ Some (signal_of s) =
    mapped_at signal_of (front ++ s ∷ ss) (length front) s (seam_at front s ss) in
    let was : slice_index values (length front) ≡ 0 =
    ap (slice_index values) (sym e) ∙ get_or-append_seam pre 0 rest 0 in
    ap (λ o. slice_set values (length front) (insert_at (unwrap_or (option_map (λ (x : Signal). x.width) o) 0) 0 s.width n (slice_index values (length front)))) at
    ∙ ap (λ k. slice_set values (length front) (insert_at s.width 0 s.width n k)) was
    ∙ ap (slice_set values (length front)) (whole_put s.width n)
    ∙ ap (λ k. slice_set values k (low s.width n)) (sym e)
    ∙ set-append_seam pre 0 rest (low s.width n)

-- the same for a signal of this role
abbrev ShowsBy : List ℕ → List ℕ → List old.Signal → old.Signal → List old.Signal → List ℕ → List ℕ → Role → Type 0
ShowsBy row state front s ss left pre x =
    put_all (map signal_of (front ++ s ∷ ss)) (register_range (length front) s.width x ++ register_ranges (length front + 1) ss) left
    (pre ++ run.role_value row 0 (role_of x) ∷ base row ss)
    ≡ pre ++ low s.width (role_value row state x) ∷ map (signal_value row state) ss

shown_by : (row state : List ℕ) (front : List old.Signal) (s : old.Signal) (ss : List old.Signal) (i r : ℕ) (left pre : List ℕ) (x : Role)
    → s.role ≡ x → AreNumbered i r (s ∷ ss) → InputsFit row (s ∷ ss) → length pre ≡ length front → FromOn r state left
    → ((i r : ℕ) (left pre : List ℕ) → AreNumbered i r ss → length pre ≡ length front + 1 → FromOn r state left
    → Shows row state (front ++ s ∷ []) ss left pre)
    → Shows row state front (s ∷ ss) left pre
shown_by row state front s ss i r left pre role.Clock e a fit count from rest =
    let h = rest _ r left (pre ++ 0 ∷ []) (subst (λ n. AreNumbered (i + length (input_width s s.role)) n ss) (ap (λ y. r + length (register_width s y)) e ∙ none r) a.1)
    (length_push pre 0 ∙ ap (λ n. n + 1) count) from in
    subst (ShowsBy row state front s ss left pre) (sym e)
    (one_more row state front s ss left pre 0 h ∙ ap (λ k. pre ++ k ∷ map (signal_value row state) ss) (sym (zero-mod (2 ^ s.width))))
shown_by row state front s ss i r left pre (role.Input n) e a fit count from rest =
    let v : ℕ = slice_index row n in
    let h = rest _ r left (pre ++ v ∷ []) (subst (λ n. AreNumbered (i + length (input_width s s.role)) n ss) (ap (λ y. r + length (register_width s y)) e ∙ none r) a.1)
    (length_push pre v ∙ ap (λ n. n + 1) count) from in
    subst (ShowsBy row state front s ss left pre) (sym e)
    (one_more row state front s ss left pre v h ∙ ap (λ k. pre ++ k ∷ map (signal_value row state) ss) (sym (mod-eq_of_lt (fit 0 n s refl e))))
shown_by row state front s ss i r left pre (role.Register n) e a fit count from rest =
    let v : ℕ = low s.width (slice_index left 0) in
    let number : n ≡ r = rw e at a.0 in
    let is : slice_index left 0 ≡ slice_index state n = from 0 ∙ ap (slice_index state) (none r ∙ sym number) in
    let h = rest _ (r + 1) (drop 1 left) (pre ++ v ∷ []) (subst (λ n. AreNumbered (i + length (input_width s s.role)) n ss) (ap (λ y. r + length (register_width s y)) e) a.1)
    (length_push pre v ∙ ap (λ n. n + 1) count) (from_next r state left from) in
    subst (ShowsBy row state front s ss left pre) (sym e)
    (ap (put_all (map signal_of (front ++ s ∷ ss)) (register_ranges (length front + 1) ss) (drop 1 left))
    (put_behind front s ss (slice_index left 0) pre (base row ss) count)
    ∙ one_more row state front s ss (drop 1 left) pre v h
    ∙ ap (λ k. pre ++ k ∷ map (signal_value row state) ss) (ap (low s.width) is))

later_fit : (row : List ℕ) (s : old.Signal) (ss : List old.Signal) → InputsFit row (s ∷ ss) → InputsFit row ss
later_fit row s ss fit k n t at e = fit (suc k) n t at e

shown_all : (row state : List ℕ) (front ss : List old.Signal) (i r : ℕ) (left pre : List ℕ) → AreNumbered i r ss → InputsFit row ss
    → length pre ≡ length front → FromOn r state left → Shows row state front ss left pre
shown_all row state front [] i r left pre a fit count from = refl
shown_all row state front (s ∷ ss) i r left pre a fit count from =
    shown_by row state front s ss i r left pre s.role refl a fit count from
    (λ j q more vs b n f. shown_all row state (front ++ s ∷ []) ss j q more vs b (later_fit row s ss fit) (n ∙ sym (length_push front s)) f)

-- the state and the row say what is shown
pub given_is : (row state : List ℕ) (ss : List old.Signal) (parts : List RegisterPart) → AreNumbered 0 0 ss → InputsFit row ss
    → map (λ (p : RegisterPart). p.range) parts ≡ register_ranges 0 ss
    → put_registers (map signal_of ss) parts state (map (λ (x : Signal). run.role_value row x.kept x.role) (map signal_of ss))
    ≡ map (signal_value row state) ss
given_is row state ss parts a fit ranges =
    ap (put_registers (map signal_of ss) parts state) (base_is row ss)
    ∙ by_ranges (map signal_of ss) parts state (base row ss)
    ∙ ap (λ rs. put_all (map signal_of ss) rs state (base row ss)) ranges
    ∙ shown_all row state [] ss 0 0 state [] a fit refl (λ m. ap (slice_index state) (sym (zero_more m)))
