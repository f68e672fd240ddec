-- The signals as nodes, and where the data inputs and the registers stand among them.
use Rattle.std.proofs.Common.{◌≡◌, ℕ, zero, suc, ◌+◌, ◌<◌, ◌≤◌, ◌^◌, List, [], ◌∷◌, ◌++◌, length, map, get_or, refl, sym, ap, ◌∙◌, subst, arith}
use Rattle.std.specs.Prelude.{Some, slice_get, slice_index, slice_index_or, IsSomeAnd}
use Rattle.std.proofs.Math.Nat.{mod-lt, div-one}
use Rattle.std.proofs.lemmas.Nat.{pow_pos}
use Rattle.std.proofs.lemmas.Option.{slice_get-get_or, get_or_from_slice_get}
use Rattle.bit_ops.specs.Operators.{low}
use Rattle.flat_ir.specs.FlatRun as plain
use Rattle.flat_ir.specs.Names.{Fit}
use Rattle.flat_ir.specs.Shown.{role_value, signal_value, flat_shown}
use Rattle.flat_ir.specs.declared.design.Role.{Role}
use Rattle.flat_ir.specs.declared.design.Role.TheVariants as role
use Rattle.flat_ir.specs.declared.design.Signal as old
use Rattle.netlist.specs.Fits.{NodeFits}
use Rattle.netlist.specs.declared.design.Signal.{Signal}
use Rattle.netlist.specs.declared.design.Range.{Range}
use Rattle.netlist.specs.declared.node.Node.{Node}
use Rattle.netlist.proofs.ValuesLaw.{values_law}
use Rattle.one_block.specs.OneBlock.{input_widths, register_widths, input_width, register_width, AreNumbered}
use Rattle.one_block.specs.SameDesign.{signal_of, input_places, register_ranges, whole, values_of}
use Rattle.one_block.specs.Calls.Nodes.{read, reads_from, shown_of, HasValue, NodesFit, Stands}
use Rattle.one_block.proofs.OfOperators.{low_same}

-- ---- lists

pub mapped_at : {X Y : Type 0} (f : X → Y) (xs : List X) (k : ℕ) (x : X) → slice_get xs k ≡ Some x → slice_get (map f xs) k ≡ Some (f x)
mapped_at f [] k x at = absurd cc
mapped_at f (y ∷ ys) zero x at = let e : y ≡ x = cc in ap (λ z. Some (f z)) e
mapped_at f (y ∷ ys) (suc k) x at = mapped_at f ys k x at

pub number_at : (xs : List ℕ) (k n : ℕ) → slice_get xs k ≡ Some n → slice_index xs k ≡ n
number_at xs k n at = get_or_from_slice_get xs k n 0 at

-- an element from a place on, behind none or one more
none_before : (n : ℕ) → n + zero ≡ n
none_before n = omega arith

one_before : (n k : ℕ) → n + 1 + k ≡ n + suc k
one_before n k = omega arith

-- ---- data inputs

-- the m-th data input of signals numbered from k on, of which i stand before: signal k + j shows it
pub record InputAt (k i : ℕ) (ss : List old.Signal) (m q : ℕ) : Type 0 where
  pub j : ℕ
  pub s : old.Signal
  pub at : slice_get ss j ≡ Some s
  pub place : q ≡ k + j
  pub shows : s.role ≡ role.Input (i + m)
  pub wide : slice_get (input_widths ss) m ≡ Some s.width

-- one signal more in front that shows no data input
input_later : (k i m q : ℕ) (s : old.Signal) (ss : List old.Signal) → input_width s s.role ≡ []
    → InputAt (k + 1) (i + length (input_width s s.role)) ss m q → InputAt k i (s ∷ ss) m q
input_later k i m q s ss none h = record {
  j = suc h.j;
  s = h.s;
  at = h.at;
  place = h.place ∙ one_before k h.j;
  shows = h.shows ∙ ap (λ ws. role.Input (i + length ws + m)) none ∙ ap (λ n. role.Input (n + m)) (none_before i);
  wide = ap (λ ws. slice_get (ws ++ input_widths ss) m) none ∙ h.wide;
}

-- one more that shows one
input_next : (k i m q n : ℕ) (s : old.Signal) (ss : List old.Signal) → s.role ≡ role.Input n
    → InputAt (k + 1) (i + length (input_width s s.role)) ss m q → InputAt k i (s ∷ ss) (suc m) q
input_next k i m q n s ss e h = record {
  j = suc h.j;
  s = h.s;
  at = h.at;
  place = h.place ∙ one_before k h.j;
  shows = h.shows ∙ ap (λ x. role.Input (i + length (input_width s x) + m)) e ∙ ap role.Input (one_before i m);
  wide = ap (λ x. slice_get (input_width s x ++ input_widths ss) (suc m)) e ∙ h.wide;
}

-- those of all signals but the first
abbrev InputsAt : ℕ → ℕ → List old.Signal → Type 0
InputsAt k i ss = (m q : ℕ) → slice_get (input_places k ss) m ≡ Some q → InputAt k i ss m q

input_by : (k i r : ℕ) (s : old.Signal) (ss : List old.Signal) (m q : ℕ) (x : Role) → s.role ≡ x → AreNumbered i r (s ∷ ss)
    → InputsAt (k + 1) (i + length (input_width s s.role)) ss → slice_get (input_places k (s ∷ ss)) m ≡ Some q
    → InputAt k i (s ∷ ss) m q
input_by k i r s ss m q role.Clock e a rest at = input_later k i m q s ss (ap (input_width s) e) (rest m q (rw e at at))
input_by k i r s ss m q (role.Register n) e a rest at =
    input_later k i m q s ss (ap (input_width s) e) (rest m q (rw e at at))
input_by k i r s ss zero q (role.Input n) e a rest at =
    let first : Some k ≡ Some q = rw e at at in
    let same : k ≡ q = cc in
    let number : n ≡ i = rw e at a.0 in
    record {
      j = 0;
      s = s;
      at = refl;
      place = sym same ∙ sym (none_before k);
      shows = e ∙ ap role.Input (number ∙ sym (none_before i));
      wide = ap (λ y. slice_get (input_width s y ++ input_widths ss) 0) e;
    }
input_by k i r s ss (suc m) q (role.Input n) e a rest at = input_next k i m q n s ss e (rest m q (rw e at at))

pub input_at : (k i r : ℕ) (ss : List old.Signal) → AreNumbered i r ss → InputsAt k i ss
input_at k i r [] a m q at = absurd cc
input_at k i r (s ∷ ss) a m q at = input_by k i r s ss m q s.role refl a (input_at (k + 1) _ _ ss a.1) at

-- the place of a data input that a signal shows
input_behind : (k i j n : ℕ) (t : old.Signal) (ss : List old.Signal) (x : Role) → t.role ≡ x
    → ((m : ℕ) × (n ≡ i + length (input_width t t.role) + m) × (slice_get (input_places (k + 1) ss) m ≡ Some (k + 1 + j)))
    → (m : ℕ) × (n ≡ i + m) × (slice_get (input_places k (t ∷ ss)) m ≡ Some (k + suc j))
input_behind k i j n t ss role.Clock e h = (
  h.0,
  h.1 ∙ ap (λ y. i + length (input_width t y) + h.0) e ∙ ap (λ z. z + h.0) (none_before i),
  rw e (h.2 ∙ ap Some (one_before k j)),
)
input_behind k i j n t ss (role.Register q) e h = (
  h.0,
  h.1 ∙ ap (λ y. i + length (input_width t y) + h.0) e ∙ ap (λ z. z + h.0) (none_before i),
  rw e (h.2 ∙ ap Some (one_before k j)),
)
input_behind k i j n t ss (role.Input q) e h = (
  suc h.0,
  h.1 ∙ ap (λ y. i + length (input_width t y) + h.0) e ∙ one_before i h.0,
  rw e (h.2 ∙ ap Some (one_before k j)),
)

input_first : (k i r j n : ℕ) (s : old.Signal) (ss : List old.Signal) → AreNumbered i r ss → slice_get ss j ≡ Some s
    → s.role ≡ role.Input n → (m : ℕ) × (n ≡ i + m) × (slice_get (input_places k ss) m ≡ Some (k + j))
input_first k i r j n s [] a at e = absurd cc
input_first k i r zero n s (t ∷ ss) a at e =
    let same : t ≡ s = cc in
    let shows : t.role ≡ role.Input n = ap (λ (x : old.Signal). x.role) same ∙ e in
    (0, rw shows at a.0 ∙ sym (none_before i), rw shows (ap Some (sym (none_before k))))
input_first k i r (suc j) n s (t ∷ ss) a at e = input_behind k i j n t ss t.role refl (input_first (k + 1) _ _ j n s ss a.1 at e)

pub zero_more : (k : ℕ) → 0 + k ≡ k
zero_more k = omega arith

pub input_placed : (k n : ℕ) (s : old.Signal) (ss : List old.Signal) → AreNumbered 0 0 ss → slice_get ss k ≡ Some s
    → s.role ≡ role.Input n → slice_get (input_places 0 ss) n ≡ Some k
input_placed k n s ss a at e =
    let h = input_first 0 0 0 k n s ss a at e in
    ap (slice_get (input_places 0 ss)) (h.1 ∙ zero_more h.0) ∙ h.2 ∙ ap Some (zero_more k)

-- ---- registers

-- the m-th register of signals numbered from k on, of which r stand before: the whole of signal k + j
pub record RegisterAt (k r : ℕ) (ss : List old.Signal) (m : ℕ) (range : Range) : Type 0 where
  pub j : ℕ
  pub s : old.Signal
  pub at : slice_get ss j ≡ Some s
  pub place : range ≡ whole (k + j) s.width
  pub shows : s.role ≡ role.Register (r + m)
  pub wide : slice_get (register_widths ss) m ≡ Some s.width

register_later : (k r m : ℕ) (range : Range) (s : old.Signal) (ss : List old.Signal) → register_width s s.role ≡ []
    → RegisterAt (k + 1) (r + length (register_width s s.role)) ss m range → RegisterAt k r (s ∷ ss) m range
register_later k r m range s ss none h = record {
  j = suc h.j;
  s = h.s;
  at = h.at;
  place = h.place ∙ ap (λ n. whole n h.s.width) (one_before k h.j);
  shows = h.shows ∙ ap (λ ws. role.Register (r + length ws + m)) none ∙ ap (λ n. role.Register (n + m)) (none_before r);
  wide = ap (λ ws. slice_get (ws ++ register_widths ss) m) none ∙ h.wide;
}

register_next : (k r m n : ℕ) (range : Range) (s : old.Signal) (ss : List old.Signal) → s.role ≡ role.Register n
    → RegisterAt (k + 1) (r + length (register_width s s.role)) ss m range → RegisterAt k r (s ∷ ss) (suc m) range
register_next k r m n range s ss e h = record {
  j = suc h.j;
  s = h.s;
  at = h.at;
  place = h.place ∙ ap (λ n. whole n h.s.width) (one_before k h.j);
  shows = h.shows ∙ ap (λ x. role.Register (r + length (register_width s x) + m)) e ∙ ap role.Register (one_before r m);
  wide = ap (λ x. slice_get (register_width s x ++ register_widths ss) (suc m)) e ∙ h.wide;
}

abbrev RegistersAt : ℕ → ℕ → List old.Signal → Type 0
RegistersAt k r ss = (m : ℕ) (range : Range) → slice_get (register_ranges k ss) m ≡ Some range → RegisterAt k r ss m range

register_by : (k i r : ℕ) (s : old.Signal) (ss : List old.Signal) (m : ℕ) (range : Range) (x : Role) → s.role ≡ x
    → AreNumbered i r (s ∷ ss) → RegistersAt (k + 1) (r + length (register_width s s.role)) ss
    → slice_get (register_ranges k (s ∷ ss)) m ≡ Some range → RegisterAt k r (s ∷ ss) m range
register_by k i r s ss m range role.Clock e a rest at =
    register_later k r m range s ss (ap (register_width s) e) (rest m range (rw e at at))
register_by k i r s ss m range (role.Input n) e a rest at =
    register_later k r m range s ss (ap (register_width s) e) (rest m range (rw e at at))
register_by k i r s ss zero range (role.Register n) e a rest at =
    let first : Some (whole k s.width) ≡ Some range = rw e at at in
    let same : whole k s.width ≡ range = cc in
    let number : n ≡ r = rw e at a.0 in
    record {
      j = 0;
      s = s;
      at = refl;
      place = sym same ∙ ap (λ n. whole n s.width) (sym (none_before k));
      shows = e ∙ ap role.Register (number ∙ sym (none_before r));
      wide = ap (λ y. slice_get (register_width s y ++ register_widths ss) 0) e;
    }
register_by k i r s ss (suc m) range (role.Register n) e a rest at =
    register_next k r m n range s ss e (rest m range (rw e at at))

pub register_at : (k i r : ℕ) (ss : List old.Signal) → AreNumbered i r ss → RegistersAt k r ss
register_at k i r [] a m range at = absurd cc
register_at k i r (s ∷ ss) a m range at =
    register_by k i r s ss m range s.role refl a (register_at (k + 1) _ _ ss a.1) at

-- ---- counts

input_more : (k : ℕ) (s : old.Signal) (ss : List old.Signal) (x : Role) → s.role ≡ x
    → length (input_places (k + 1) ss) ≡ length (input_widths ss) → length (input_places k (s ∷ ss)) ≡ length (input_widths (s ∷ ss))
input_more k s ss role.Clock e h = rw e h
input_more k s ss (role.Register n) e h = rw e h
input_more k s ss (role.Input n) e h = rw e (ap suc h)

pub input_count : (k : ℕ) (ss : List old.Signal) → length (input_places k ss) ≡ length (input_widths ss)
input_count k [] = refl
input_count k (s ∷ ss) = input_more k s ss s.role refl (input_count (k + 1) ss)

register_more : (k : ℕ) (s : old.Signal) (ss : List old.Signal) (x : Role) → s.role ≡ x
    → length (register_ranges (k + 1) ss) ≡ length (register_widths ss)
    → length (register_ranges k (s ∷ ss)) ≡ length (register_widths (s ∷ ss))
register_more k s ss role.Clock e h = rw e h
register_more k s ss (role.Input n) e h = rw e h
register_more k s ss (role.Register n) e h = rw e (ap suc h)

pub register_count : (k : ℕ) (ss : List old.Signal) → length (register_ranges k ss) ≡ length (register_widths ss)
register_count k [] = refl
register_count k (s ∷ ss) = register_more k s ss s.role refl (register_count (k + 1) ss)

-- ---- values that fit

pub fit_at : (ws xs : List ℕ) (k w : ℕ) → Fit ws xs → slice_get ws k ≡ Some w → slice_index xs k < 2 ^ w
fit_at [] xs k w f at = absurd cc
fit_at (v ∷ ws) [] k w f at = absurd f
fit_at (v ∷ ws) (x ∷ xs) zero w f at = let e : v ≡ w = cc in subst (λ n. x < 2 ^ n) e f.0
fit_at (v ∷ ws) (x ∷ xs) (suc k) w f at = fit_at ws xs k w f.1 at

pub fit_length : (ws xs : List ℕ) → Fit ws xs → length xs ≡ length ws
fit_length [] [] f = refl
fit_length [] (x ∷ xs) f = absurd f
fit_length (w ∷ ws) [] f = absurd f
fit_length (w ∷ ws) (x ∷ xs) f = ap suc (fit_length ws xs f.1)

-- ---- the signals' nodes

-- what a signal shows
pub shown_is : (p : plain.Flat) (row state : List ℕ) (k : ℕ) (s : old.Signal) → slice_get p.signals k ≡ Some s
    → shown_of p k row state ≡ low s.width (role_value row state s.role)
shown_is p row state k s at = number_at (flat_shown p row state) k _ (mapped_at (signal_value row state) p.signals k s at)

reads_at : (n : ℕ) (ss : List old.Signal) (k : ℕ) (s : old.Signal) → slice_get ss k ≡ Some s
    → slice_get (reads_from n (map signal_of ss)) k ≡ Some (read (n + k) s.width)
reads_at n [] k s at = absurd cc
reads_at n (t ∷ ss) zero s at =
    let e : t ≡ s = cc in ap (λ (x : old.Signal). Some (read n x.width)) e ∙ ap (λ m. Some (read m s.width)) (sym (none_before n))
reads_at n (t ∷ ss) (suc k) s at = reads_at (n + 1) ss k s at ∙ ap (λ m. Some (read m s.width)) (one_before n k)

reads_count : (n : ℕ) (ss : List old.Signal) → length (reads_from n (map signal_of ss)) ≡ length ss
reads_count n [] = refl
reads_count n (t ∷ ss) = ap suc (reads_count (n + 1) ss)

-- the node of a signal has what it shows
read_has : (p : plain.Flat) → plain.IsWellFormed p → (k : ℕ) (s : old.Signal) → slice_get p.signals k ≡ Some s
    → HasValue p (reads_from 0 (map signal_of p.signals)) (record { node = k; width = s.width }) (shown_of p k)
read_has p well k s at =
    let nodes = reads_from 0 (map signal_of p.signals) in
    let stands : slice_get nodes k ≡ Some (read k s.width) =
    reads_at 0 p.signals k s at ∙ ap (λ m. Some (read m s.width)) (zero_more k) in
    let below : (row state : List ℕ) → shown_of p k row state < 2 ^ s.width = λ row state.
    subst (λ n. n < 2 ^ s.width) (sym (shown_is p row state k s at)) (mod-lt (role_value row state s.role) (pow_pos s.width)) in
    record {
      here = read k s.width;
      stands = stands;
      wide = refl;
      is_width = well.widths k s at;
      below = λ row state fit. below row state;
      is = λ f row state g fit.
          (values_law.are f (values_of p row state) g.fits).each k (read k s.width) (g.begins k (read k s.width) stands)
          ∙ ap (low s.width) (div-one (shown_of p k row state))
          ∙ low_same s.width s.width (shown_of p k row state) (below row state) (omega arith);
    }

pub signals_stand : (p : plain.Flat) → plain.IsWellFormed p → Stands p (reads_from 0 (map signal_of p.signals)) []
signals_stand p well = record { signals = read_has p well; each = λ k l. absurd (omega arith) }

-- some signal, where there is one
first_of : (ss : List old.Signal) (k : ℕ) → k < length ss → old.Signal
first_of [] k l = absurd (omega arith)
first_of (s ∷ ss) k l = s

signal_by : (k : ℕ) (p : plain.Flat) → k < length p.signals → old.Signal
signal_by k p l = first_of p.signals k l

-- they fit
pub reads_fit : (p : plain.Flat) → plain.IsWellFormed p → NodesFit (map signal_of p.signals) (reads_from 0 (map signal_of p.signals))
reads_fit p well k d l =
    let there : k < length p.signals = omega (arith, l, reads_count 0 p.signals) in
    let nodes = reads_from 0 (map signal_of p.signals) in
    let s = get_or p.signals k (signal_by k p there) in
    let at : slice_get p.signals k ≡ Some s = slice_get-get_or p.signals k (signal_by k p there) there in
    let is : slice_index_or nodes k d ≡ read k s.width =
    get_or_from_slice_get nodes k (read k s.width) d (reads_at 0 p.signals k s at ∙ ap (λ m. Some (read m s.width)) (zero_more k)) in
    subst (λ (x : Node). NodeFits (map signal_of p.signals) [] nodes k x) (sym is) (
      well.widths k s at,
      (refl, subst (λ o. IsSomeAnd o (λ (t : Signal). 0 + s.width ≤ t.width)) (sym (mapped_at signal_of p.signals k s at)) (omega arith)),
    )
