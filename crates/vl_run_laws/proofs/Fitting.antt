-- Values that settle are within the widths of signals and memories.
use Rattle.std.proofs.Common.{◌≡◌, ℕ, zero, suc, ◌+◌, ◌-◌, ◌^◌, ◌<◌, ◌≤◌, inl, inr, Bool, true, false, if◌then◌else◌, List, [], ◌∷◌, length, map, drop, max, min, refl, sym, ap, subst, ◌∙◌, arith}
use Rattle.std.specs.Prelude.{Some, None, slice_get, slice_index, slice_index_or, is_some}
use Rattle.std.specs.List.{All}
use Rattle.std.proofs.lemmas.Nat.{pow_pos}
use Rattle.std.proofs.lemmas.List.{length-map}
use Rattle.std.proofs.lemmas.Option.{slice_get_within, get_or_from_slice_get}
use Rattle.netlist.specs.Design.{Flat}
use Rattle.netlist.specs.Plain.{PlainMemory}
use Rattle.netlist.specs.Fits.{IsWellFormed, IsInner, MemoryFits}
use Rattle.netlist.specs.Values.{Values, node_values}
use Rattle.netlist.specs.Run.{State, put, put_driven, given, all_words, written_words, role_value}
use Rattle.netlist.specs.declared.design.Signal as flat_signal
use Rattle.netlist.specs.declared.design.DrivenPart.{DrivenPart}
use Rattle.netlist.specs.declared.design.Role.{Role}
use Rattle.netlist.specs.declared.design.Role.TheVariants as role
use Rattle.netlist.proofs.Puts.{In, some_with, all_sized, AreSized}
use Rattle.netlist.proofs.SettlesOnce.{fixed, put_driven_is, given_sized, driven_placed}
use Rattle.vl_value.specs.Things.{distance}
use Rattle.vl_design.specs.LoopVariables.{is_path_in}
use Rattle.vl_design.specs.Design.{Design, Signal, Memory}
use Rattle.vl_process.specs.Clocks.{clock_names}
use Rattle.vl_process.specs.Run.{initial}
use Rattle.vl_process.specs.Settling.{RowFits, AllFit, MemoriesFit, signal_width, word_count}
use Rattle.vl_process.specs.StandsFor.{StandsFor, WrittenFit, AreMemories, signal_by_number, role_of, signal_from, input_role}
use Rattle.vl_store.specs.Stores.{PathsAreDistinct}
use Rattle.vl_run_laws.specs.Given.{InputsAreSignals}
use Rattle.vl_run_laws.specs.Fitting.{FittingLaw}
use Rattle.vl_run_laws.proofs.Given.{signal_is, put_other, outer_given, input_or_none, input_role_is, no_signal, by_number_count}

-- ---- memories

-- as many words as at the start, each within the width
pub record HasWords (m : PlainMemory) (ns : List ℕ) : Type 0 where
  pub count : length ns ≡ length m.words
  pub each : All (λ n. n < 2 ^ m.width) ns

-- the state's words where the memory is written, else its own
words_of : (blocks : ℕ) (m : PlainMemory) (ns : List ℕ) (b : Bool) → is_some m.writer ≡ b → MemoryFits blocks m
    → length ns ≡ length (written_words m) → All (λ n. n < 2 ^ m.width) ns → HasWords m (if b then ns else m.words)
words_of blocks m ns true e fits count all =
    record { count = count ∙ ap (λ c. length (if c then m.words else [])) e; each = all }
words_of blocks m ns false e fits count all = record { count = refl; each = fits.2 }

pub memory_words : (blocks : ℕ) (ms : List PlainMemory) (st : List (List ℕ)) (t : ℕ) (m : PlainMemory)
    → ((i : ℕ) (x : PlainMemory) → slice_get ms i ≡ Some x → MemoryFits blocks x) → WrittenFit ms st → slice_get ms t ≡ Some m
    → HasWords m (slice_index_or (all_words ms st) t [])
memory_words blocks [] st t m fits w at = absurd cc
memory_words blocks (x ∷ ms) [] t m fits w at = absurd w
memory_words blocks (x ∷ ms) (ns ∷ st) zero m fits w at =
    let own : x ≡ m = cc in
    subst (λ (y : PlainMemory). HasWords y (if is_some x.writer then ns else x.words)) own
    (words_of blocks x ns (is_some x.writer) refl (fits 0 x refl) w.0 w.1)
memory_words blocks (x ∷ ms) (ns ∷ st) (suc t) m fits w at =
    memory_words blocks ms st t m (λ i y there. fits (suc i) y there) w.2 at

words_count : (ms : List PlainMemory) (st : List (List ℕ)) → length (all_words ms st) ≡ length ms
words_count [] st = refl
words_count (m ∷ ms) st = ap suc (words_count ms (drop 1 st))

-- the count of words from one index to another
gap : (a b : ℕ) → max a b - min a b + 1 ≡ suc ((a - b) + (b - a))
gap a b = omega arith

memories_fit : (blocks : ℕ) (d : Design) (ys : List Memory) (ms : List PlainMemory) (vs : List (List ℕ)) → AreMemories d ys ms
    → length vs ≡ length ms
    → ((t : ℕ) (m : PlainMemory) → slice_get ms t ≡ Some m → MemoryFits blocks m × HasWords m (slice_index_or vs t []))
    → MemoriesFit ys vs
memories_fit blocks d [] [] [] are count each = tt
memories_fit blocks d [] [] (ns ∷ vs) are count each = absurd (omega (arith, count))
memories_fit blocks d [] (m ∷ ms) vs are count each = absurd are
memories_fit blocks d (y ∷ ys) [] vs are count each = absurd are
memories_fit blocks d (y ∷ ys) (m ∷ ms) [] are count each = absurd (omega (arith, count))
memories_fit blocks d (y ∷ ys) (m ∷ ms) (ns ∷ vs) are count each =
    let own = each 0 m refl in
    let first : max m.first m.last - min m.first m.last + 1 ≡ suc (distance m.first m.last) = gap m.first m.last in
    let bounds : suc (distance m.first m.last) ≡ word_count y =
    ap (λ a. suc (distance a m.last)) are.0.first ∙ ap (λ b. suc (distance y.first b)) are.0.last in (
      (own.1.count ∙ own.0.1 ∙ first ∙ bounds, subst (λ w. All (λ n. n < 2 ^ w) ns) are.0.width own.1.each),
      memories_fit blocks d ys ms vs are.1 (omega (arith, count)) (λ t x at. each (suc t) x at),
    )

-- ---- signals

all_fit : (xs : List Signal) (ns : List ℕ) → length ns ≡ length xs
    → ((t : ℕ) (x : Signal) → slice_get xs t ≡ Some x → slice_index ns t < 2 ^ signal_width x)
    → AllFit (map signal_width xs) ns
all_fit [] [] count each = tt
all_fit [] (n ∷ ns) count each = absurd (omega (arith, count))
all_fit (x ∷ xs) [] count each = absurd (omega (arith, count))
all_fit (x ∷ xs) (n ∷ ns) count each = (each 0 x refl, all_fit xs ns (omega (arith, count)) (λ t y at. each (suc t) y at))

pub fit_at : (xs : List Signal) (ns : List ℕ) (k : ℕ) (x : Signal) → AllFit (map signal_width xs) ns → slice_get xs k ≡ Some x
    → slice_index ns k < 2 ^ signal_width x
fit_at [] ns k x fits at = absurd cc
fit_at (y ∷ xs) [] k x fits at = absurd fits
fit_at (y ∷ xs) (n ∷ ns) zero x fits at = let own : y ≡ x = cc in subst (λ (z : Signal). n < 2 ^ signal_width z) own fits.0
fit_at (y ∷ xs) (n ∷ ns) (suc k) x fits at = fit_at xs ns k x fits.1 at

-- driven parts leave a signal alone whose role isn't inner
driven_other : (ss : List flat_signal.Signal) (ps : List DrivenPart) (xs v : List ℕ) (t : ℕ)
    → ((p : DrivenPart) → In p ps → p.range.signal ≡ t → ⊥) → slice_index (put_driven ss ps xs v) t ≡ slice_index v t
driven_other ss [] xs v t away = refl
driven_other ss (p ∷ ps) xs v t away =
    driven_other ss ps xs (put ss p.range (slice_index xs p.node) v) t (λ q h. away q (inr h))
    ∙ put_other ss p.range (slice_index xs p.node) t v (away p (inl refl))

pub no_driven : (f : Flat) (t : ℕ) (y : flat_signal.Signal) → IsWellFormed f → slice_get f.signals t ≡ Some y
    → (y.role ≡ role.Inner → ⊥) → (p : DrivenPart) → In p f.driven → p.range.signal ≡ t → ⊥
no_driven f t y well at outer p h e =
    let s = some_with (slice_get f.signals p.range.signal)
    (λ (z : flat_signal.Signal). IsInner z.role × (p.range.low + p.range.width ≤ z.width)) (driven_placed f well p h) in
    let own : Some s.0 ≡ Some y = sym s.1 ∙ ap (slice_get f.signals) e ∙ at in
    let same : s.0 ≡ y = cc in
    outer (ap (λ (z : flat_signal.Signal). z.role) (sym same) ∙ s.2.0)

-- a signal that is no input has not the role of one
no_role : (d : Design) (x : Signal) (k : ℕ) (b : Bool) → is_path_in (clock_names d.scopes) x.path ≡ b
    → signal_from 0 d.inputs x.path ≡ None → role_of d x.path ≡ role.Input k → ⊥
no_role d x k true e none own =
    let clock : role.Clock ≡ role.Input k =
    sym (ap (λ b. if b then role.Clock else input_role (signal_from 0 d.inputs x.path)) e) ∙ own in absurd cc
no_role d x k false e none own =
    let inner : role.Inner ≡ role.Input k =
    sym (ap (λ b. if b then role.Clock else input_role (signal_from 0 d.inputs x.path)) e ∙ ap input_role none) ∙ own in
    absurd cc

-- the width of a signal whose role is this one
pub bound : (f : Flat) (d : Design) (s : State) (row : List ℕ) (v : Values) (t : ℕ) (x : Signal) (r : Role) → IsWellFormed f
    → StandsFor f d → PathsAreDistinct d → InputsAreSignals d → RowFits d row → slice_get d.signals t ≡ Some x
    → role_of d x.path ≡ r
    → slice_index (put_driven f.signals f.driven (node_values f v) (given f s row)) t < 2 ^ signal_width x
bound f d s row v t x role.Inner well stands apart inputs fits at e =
    let xs : List ℕ = node_values f v in
    let z : AreSized f.signals (given f s row) = given_sized f well s row in
    subst (λ ns. slice_index ns t < 2 ^ signal_width x) (sym (put_driven_is f.signals f.driven xs (given f s row)))
    ((all_sized f.signals (fixed xs) f.driven (given f s row) (driven_placed f well) z).inner t
    (signal_by_number d x (slice_index (initial d).signals t)) (signal_is f d t x stands at) e)
bound f d s row v t x role.Clock well stands apart inputs fits at e =
    let y = signal_by_number d x (slice_index (initial d).signals t) in
    let there = signal_is f d t x stands at in
    let outer : y.role ≡ role.Inner → ⊥ = λ inner. (let both : role.Clock ≡ role.Inner = sym e ∙ inner in absurd cc) in
    let value = driven_other f.signals f.driven (node_values f v) (given f s row) t (no_driven f t y well there outer)
    ∙ outer_given f s row t y well there outer ∙ ap (role_value row y.kept) e in
    subst (λ n. n < 2 ^ signal_width x) (sym value) (pow_pos (signal_width x))
bound f d s row v t x (role.Input k) well stands apart inputs fits at e =
    let y = signal_by_number d x (slice_index (initial d).signals t) in
    let there = signal_is f d t x stands at in
    let outer : y.role ≡ role.Inner → ⊥ = λ inner. (let both : role.Input k ≡ role.Inner = sym e ∙ inner in absurd cc) in
    let value = driven_other f.signals f.driven (node_values f v) (given f s row) t (no_driven f t y well there outer)
    ∙ outer_given f s row t y well there outer ∙ ap (role_value row y.kept) e in
    subst (λ n. n < 2 ^ signal_width x) (sym value) (elim (input_or_none d t x apart inputs at) [
      | inl h ↦
          let roles : role.Input h.place ≡ role.Input k =
          sym (input_role_is f d t h.place x well stands apart inputs at h.is.at) ∙ e in
          let same : h.place ≡ k = cc in
          subst (λ i. slice_index row i < 2 ^ signal_width x) same (fit_at d.inputs row h.place x fits h.is.at)
      | inr none ↦ absurd (no_role d x k (is_path_in (clock_names d.scopes) x.path) refl
          (no_signal 0 d.inputs x.path none) e)
    ])

pub fitting : FittingLaw
fitting f d s row v well stands apart inputs state fits settled =
    let driven : v.signals ≡ put_driven f.signals f.driven (node_values f v) (given f s row) =
    ap (λ (u : Values). u.signals) settled in
    let words : v.memories ≡ all_words f.memories s.memories = ap (λ (u : Values). u.memories) settled in
    let sized = all_sized f.signals (fixed (node_values f v)) f.driven (given f s row) (driven_placed f well)
    (given_sized f well s row) in
    let count : length v.signals ≡ length d.signals =
    ap length (driven ∙ put_driven_is f.signals f.driven (node_values f v) (given f s row)) ∙ sized.count
    ∙ ap length stands.signals ∙ by_number_count d d.signals (initial d).signals (length-map d.signals _) in
    let blocks : ℕ = length f.blocks in
    let each : (i : ℕ) (m : PlainMemory) → slice_get f.memories i ≡ Some m → MemoryFits blocks m =
    λ i m at. subst (MemoryFits blocks) (get_or_from_slice_get f.memories i m m at)
    (well.memories.each i m (slice_get_within f.memories i m at)) in
    record {
      signals = all_fit d.signals v.signals count (λ t x at.
          subst (λ ns. slice_index ns t < 2 ^ signal_width x) (sym driven)
          (bound f d s row v t x (role_of d x.path) well stands apart inputs fits at refl));
      memories = subst (MemoriesFit d.memories) (sym words)
          (memories_fit blocks d d.memories f.memories (all_words f.memories s.memories) stands.memories
          (words_count f.memories s.memories)
          (λ t m at. (each t m at, memory_words blocks f.memories s.memories t m each state.memories at)));
    }
