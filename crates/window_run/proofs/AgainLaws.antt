-- Going back, and running the last cycles again.
use Rattle.std.proofs.Common.{◌≡◌, ℕ, zero, suc, ◌+◌, ◌-◌, ◌<◌, ◌≤◌, List, [], ◌∷◌, ◌++◌, length, take, drop, refl, sym, ap, subst, ◌∙◌, arith, get_or, set, map, append-nil, append_assoc, drop_of_length-le}
use Rattle.std.specs.Prelude.{Option, Some, None, IsSomeAnd, Result, Ok, Err, slice_index, slice_index_or}
use Rattle.std.specs.Io.KnownBytes.{Appends}
use Rattle.std.proofs.KnownBytes.{Appends-trans}
use Rattle.std.proofs.Math.Seq.{take_all}
use Rattle.std.proofs.lemmas.List.{length-take, length-drop, get_or-drop, get_or-take}
use Rattle.dt_core.specs.Causes.{Rose, AppendsPart}
use Rattle.dt_core.proofs.WritesLaws.{part_first, part_second}
use Rattle.netlist.specs.Design.{Flat}
use Rattle.netlist.specs.Order.{flat_val}
use Rattle.netlist.specs.Run.{State, FlatSettles, flat_next}
use Rattle.netlist.specs.Values.{Values}
use Rattle.netlist.specs.Laws.{SettlesOnce}
use Rattle.state_changes.specs.Changes.{undone}
use Rattle.state_changes.specs.Log.{Log}
use Rattle.state_changes.specs.declared.changes.Change.{Change}
use Rattle.packed_rows.specs.Kept.{last_ones}
use Rattle.design_names.specs.Shown.{flat_scope, flat_shown}
use Rattle.held_state.specs.Back.{GoesBack, ChangeFits, newest}
use Rattle.flat_sim.specs.Moment.{Moment}
use Rattle.std.specs.List.{All}
use Rattle.waveform.specs.Vcd.{vcd_text}
use Rattle.waveform.specs.Writer.{Writer, HasWritten}
use Rattle.waveform.specs.Writes.{WritesText, WritesCycle}
use Rattle.waveform.specs.declared.fault.VcdFault.{VcdFault}
use Rattle.waveform.specs.declared.fault.VcdFault.TheVariants as fault
use Rattle.waveform.proofs.Cycles.{one_more}
use Rattle.window_run.specs.Over.{state_at, shown_at}
use Rattle.window_run.specs.Progress.{Failure, Progress}
use Rattle.window_run.specs.Window.{from_on, wave_of, window_start, window_length, window_text, Waves}
use Rattle.window_run.specs.Calls.Again.{HasCome, AreFrom, StandsAt, HasWaved}
use Rattle.window_run.proofs.RanLaws.{Failed}

-- ---- going back

-- the newest notes of a simulator that has come this far: they fit, and undone they give the state before
pub record CanGo (states : ℕ → State) (sim : Moment) (log : Log Change) : Type 0 where
  pub cycle : 0 < sim.cycle
  pub fit : All (ChangeFits sim.flat) (newest log.cycles)
  pub state : undone (newest log.cycles) sim.state ≡ states (sim.cycle - 1)
  pub back : GoesBack sim.flat states (sim.cycle - 1) (drop 1 log.cycles)

can_by : (f : Flat) (states : ℕ → State) (s : State) (t : ℕ) (cycles : List (List Change)) → s ≡ states t
    → GoesBack f states t cycles → 0 < length cycles
    → (0 < t) × All (ChangeFits f) (newest cycles) × (undone (newest cycles) s ≡ states (t - 1)) × GoesBack f states (t - 1) (drop 1 cycles)
can_by f states s t [] e h l = absurd (omega (arith, l))
can_by f states s zero (notes ∷ more) e h l = absurd h
can_by f states s (suc t) (notes ∷ more) e h l =
    let one : suc t - 1 ≡ t = omega arith in (
      omega arith,
      h.0.fit,
      ap (undone notes) e ∙ h.0.back ∙ ap states (sym one),
      subst (λ (k : ℕ). GoesBack f states k more) (sym one) h.1,
    )

pub can_go : (states : ℕ → State) (sim : Moment) (log : Log Change) → HasCome states sim log → 0 < length log.cycles
    → CanGo states sim log
can_go states sim log h l =
    let c = can_by sim.flat states sim.state sim.cycle log.cycles h.state h.back l in
    record { cycle = c.0; fit = c.1; state = c.2; back = c.3 }

-- one cycle back
pub come_back : (states : ℕ → State) (sim sim' : Moment) (log log' : Log Change) → HasCome states sim log
    → 0 < length log.cycles → sim'.flat ≡ sim.flat → sim'.cycle + 1 ≡ sim.cycle
    → sim'.state ≡ undone (newest log.cycles) sim.state → log'.cycles ≡ drop 1 log.cycles → HasCome states sim' log'
come_back states sim sim' log log' h l flat cycle state cycles =
    let c = can_go states sim log h l in
    let k : sim.cycle - 1 ≡ sim'.cycle = omega (arith, cycle) in
    record {
      state = state ∙ c.state ∙ ap states k;
      back = subst (λ (g : Flat). GoesBack g states sim'.cycle log'.cycles) (sym flat)
          (subst (GoesBack sim.flat states sim'.cycle) (sym cycles)
          (subst (λ (t : ℕ). GoesBack sim.flat states t (drop 1 log.cycles)) k c.back));
    }

-- ---- numbers one after another

from_on_more : (g : ℕ → List ℕ) (k n : ℕ) → from_on g k (suc n) ≡ from_on g k n ++ g (k + n) ∷ []
from_on_more g k zero = let e : k ≡ k + 0 = omega arith in ap (λ (x : ℕ). g x ∷ []) e
from_on_more g k (suc n) =
    let e : suc k + n ≡ k + suc n = omega arith in
    ap (λ (x : List (List ℕ)). g k ∷ x) (from_on_more g (suc k) n ∙ ap (λ (x : ℕ). from_on g (suc k) n ++ g x ∷ []) e)

length-from_on : (g : ℕ → List ℕ) (k n : ℕ) → length (from_on g k n) ≡ n
length-from_on g k zero = refl
length-from_on g k (suc n) = ap suc (length-from_on g (suc k) n)

module _ (f : Flat) (order : List ℕ) (rows : List (List ℕ)) (first : ℕ) where
  shown_next : (n : ℕ) → from_on (shown_at f order rows) first (n + 1)
      ≡ from_on (shown_at f order rows) first n ++ shown_at f order rows (first + n) ∷ []
  shown_next n =
      let e : n + 1 ≡ suc n = omega arith in
      ap (from_on (shown_at f order rows) first) e ∙ from_on_more (shown_at f order rows) first n

  -- the waveform of some cycles is a front of that of more
  pub front_by : (n m : ℕ) → (rest : List ℕ) × (wave_of f order rows first (n + m) ≡ wave_of f order rows first n ++ rest)
  front_by n zero =
      let e : n + 0 ≡ n = omega arith in
      ([], ap (wave_of f order rows first) e ∙ sym (append-nil (wave_of f order rows first n)))
  front_by n (suc m) =
      let r = front_by n m in
      let p = one_more (flat_scope f) first (from_on (shown_at f order rows) first (n + m)) (shown_at f order rows (first + (n + m))) in
      let e : n + suc m ≡ n + m + 1 = omega arith in (
        r.0 ++ p.0,
        ap (wave_of f order rows first) e ∙ ap (vcd_text (flat_scope f) first) (shown_next (n + m)) ∙ p.1
            ∙ ap (λ (x : List ℕ). x ++ p.0) r.1 ∙ append_assoc (wave_of f order rows first n) r.0 p.0,
      )

  -- what went wrong on the way went wrong in the whole
  pub waves_more : (n m : ℕ) (old now : Option (List ℕ)) (before count : ℕ) (e : VcdFault)
      → Waves old now before count (wave_of f order rows first n) (Err e)
      → Waves old now before count (wave_of f order rows first (n + m)) (Err e)
  waves_more n m old now before count fault.Write w =
      let r = front_by n m in
      (subst (AppendsPart old now) (sym r.1) (part_first old now (wave_of f order rows first n) r.0 w.0), w.1)
  waves_more n m old now before count fault.Memory w =
      let r = front_by n m in
      (subst (AppendsPart old now) (sym r.1) (part_first old now (wave_of f order rows first n) r.0 w.0), w.1)

  -- the header is the waveform of no cycle
  pub header_waves : (m : ℕ) (old now : Option (List ℕ)) (before count : ℕ) (e : VcdFault)
      → WritesText old now before count (vcd_text (flat_scope f) first []) (Err e)
      → Waves old now before count (wave_of f order rows first m) (Err e)
  header_waves m old now before count e t =
      let z : 0 + m ≡ m = omega arith in
      subst (λ (k : ℕ). Waves old now before count (wave_of f order rows first k) (Err e)) z
      (waves_more 0 m old now before count e (by_fault e t))
    where
      by_fault : (e : VcdFault) → WritesText old now before count (vcd_text (flat_scope f) first []) (Err e)
          → Waves old now before count (wave_of f order rows first 0) (Err e)
      by_fault fault.Write t = (t.part, t.cause)
      by_fault fault.Memory t = (t.part, t.cause.1)

  -- ---- a cycle that is run again

  module _ (n : ℕ) (old : Option (List ℕ)) (before : ℕ) (once : SettlesOnce) (sim sim' : Moment) (held : Option (List ℕ))
      (count : ℕ) (w : Writer) (row : List ℕ) (st : HasWaved f order rows first n old held before count sim w)
      (row_is : row ≡ slice_index_or rows (first + n) []) (flat : sim'.flat ≡ sim.flat) (cycle : sim'.cycle ≡ sim.cycle)
      (state : sim'.state ≡ sim.state) (v : Values) (settles : FlatSettles sim.flat sim.state row v) where
    -- it settles as it did
    value_is : v ≡ flat_val f order (state_at f order rows (first + n)) (slice_index_or rows (first + n) [])
    value_is =
        let s : FlatSettles f (state_at f order rows (first + n)) (slice_index_or rows (first + n) []) v =
        subst (λ (r : List ℕ). FlatSettles f (state_at f order rows (first + n)) r v) row_is
        (subst (λ (x : State). FlatSettles f x row v) st.stands.state
        (subst (λ (g : Flat). FlatSettles g sim.state row v) st.stands.flat settles)) in
        (once f order (state_at f order rows (first + n)) (slice_index_or rows (first + n) []) st.stands.fits st.stands.ordered).alone v s

    module _ (shown : List ℕ) (shown_is : shown ≡ flat_shown sim.flat v) where
      -- it shows what it did
      shows : shown ≡ shown_at f order rows (first + n)
      shows = shown_is ∙ ap (λ (g : Flat). flat_shown g v) st.stands.flat ∙ ap (flat_shown f) value_is

      longer : from_on (shown_at f order rows) first n ++ shown ∷ [] ≡ from_on (shown_at f order rows) first (n + 1)
      longer = ap (λ (x : List ℕ). from_on (shown_at f order rows) first n ++ x ∷ []) shows ∙ sym (shown_next n)

      number_is : (k : ℕ) → k ≡ sim'.cycle → k ≡ first + length (from_on (shown_at f order rows) first n)
      number_is k e = omega (arith, e, cycle, st.stands.cycle_is, length-from_on (shown_at f order rows) first n)

      module _ (new : Option (List ℕ)) (now : ℕ) (design : Flat) (same : design ≡ f) where
        piece_of : (k : ℕ) (result : Result (Unit {0}) VcdFault) → k ≡ sim'.cycle
            → ((a : ℕ) (cycles : List (List ℕ)) → HasWritten w cycles → k ≡ a + length cycles
            → WritesCycle (flat_scope design) a cycles shown held new count now result)
            → WritesCycle (flat_scope f) first (from_on (shown_at f order rows) first n) shown held new count now result
        piece_of k result e text =
            subst (λ (g : Flat). WritesCycle (flat_scope g) first (from_on (shown_at f order rows) first n) shown held new count now result) same
            (text first (from_on (shown_at f order rows) first n) st.written (number_is k e))

        grown : (t : List ℕ) → vcd_text (flat_scope f) first (from_on (shown_at f order rows) first n ++ shown ∷ [])
            ≡ vcd_text (flat_scope f) first (from_on (shown_at f order rows) first n) ++ t
            → wave_of f order rows first (n + 1) ≡ wave_of f order rows first n ++ t
        grown t g = ap (vcd_text (flat_scope f) first) (sym longer) ∙ g

        -- it was written in part
        pub breaks : (k : ℕ) (e : VcdFault) → k ≡ sim'.cycle
            → ((a : ℕ) (cycles : List (List ℕ)) → HasWritten w cycles → k ≡ a + length cycles
            → WritesCycle (flat_scope design) a cycles shown held new count now (Err e))
            → Waves old new before now (wave_of f order rows first (n + 1)) (Err e)
        breaks k fault.Write is text =
            let t = piece_of k (Err fault.Write) is text in (
              subst (AppendsPart old new) (sym (grown t.piece t.grows))
                  (part_second old held new (wave_of f order rows first n) t.piece st.took t.writes.part),
              subst (λ (x : ℕ). Rose x now) st.counted t.writes.cause,
            )
        breaks k fault.Memory is text =
            let t = piece_of k (Err fault.Memory) is text in (
              subst (AppendsPart old new) (sym (grown t.piece t.grows))
                  (part_second old held new (wave_of f order rows first n) t.piece st.took t.writes.part),
              t.writes.cause.1 ∙ st.counted,
            )

        -- it was written, and the next one is reached
        pub goes : (k : ℕ) (u : Unit {0}) (x : Writer) (sim'' : Moment) → k ≡ sim'.cycle
            → ((a : ℕ) (cycles : List (List ℕ)) → HasWritten w cycles → k ≡ a + length cycles
            → WritesCycle (flat_scope design) a cycles shown held new count now (Ok u))
            → ((cycles : List (List ℕ)) → HasWritten w cycles → HasWritten x (cycles ++ shown ∷ []))
            → sim''.flat ≡ sim'.flat → sim''.cycle ≡ sim'.cycle + 1 → sim''.state ≡ flat_next sim'.flat sim'.state v
            → HasWaved f order rows first (n + 1) old new before now sim'' x
        goes k u x sim'' is text written f'' c'' s'' =
            let t = piece_of k (Ok u) is text in
            let one : suc (first + n) ≡ first + (n + 1) = omega arith in
            record {
              stands = record {
                flat = f'' ∙ flat ∙ st.stands.flat;
                fits = st.stands.fits;
                ordered = st.stands.ordered;
                cycle_is = omega (arith, c'', cycle, st.stands.cycle_is);
                state = s'' ∙ ap (λ (g : Flat). flat_next g sim'.state v) (flat ∙ st.stands.flat)
                    ∙ ap (λ (y : State). flat_next f y v) (state ∙ st.stands.state)
                    ∙ ap (flat_next f (state_at f order rows (first + n))) value_is ∙ ap (state_at f order rows) one;
              };
              written = subst (HasWritten x) longer (written (from_on (shown_at f order rows) first n) st.written);
              took = subst (Appends old new) (sym (grown t.piece t.grows))
                  (Appends-trans old held new (wave_of f order rows first n) t.piece st.took t.writes.whole);
              counted = t.writes.kept ∙ st.counted;
            }

-- the header was written, and no cycle yet
pub begins : (f : Flat) (order : List ℕ) (rows : List (List ℕ)) (first : ℕ) (old now : Option (List ℕ)) (before count : ℕ) (sim : Moment)
    (w : Writer) (u : Unit {0}) → StandsAt f order rows first sim
    → WritesText old now before count (vcd_text (flat_scope f) first []) (Ok u) → HasWritten w []
    → HasWaved f order rows first 0 old now before count sim w
begins f order rows first old now before count sim w u at t written =
    let z : first ≡ first + 0 = omega arith in
    record {
      stands = subst (λ (k : ℕ). StandsAt f order rows k sim) z at;
      written = written;
      took = t.whole;
      counted = t.kept;
    }

-- all cycles were written
pub ends : (f : Flat) (order : List ℕ) (rows : List (List ℕ)) (first n m : ℕ) (old now : Option (List ℕ)) (before count : ℕ)
    (sim : Moment) (w : Writer) → n ≡ m → HasWaved f order rows first n old now before count sim w
    → Appends old now (wave_of f order rows first m) × (count ≡ before)
ends f order rows first n m old now before count sim w e h =
    (subst (λ (k : ℕ). Appends old now (wave_of f order rows first k)) e h.took, h.counted)

-- ---- the rows of the window

module _ (lag c : ℕ) (rows kept : List (List ℕ)) (l : c < length rows) (is : kept ≡ last_ones (lag + 1) (take (suc c) rows)) where
  run_count : length (take (suc c) rows) ≡ suc c
  run_count = let e = length-take (suc c) rows in omega (arith, e, l)

  pub kept_count : length kept ≡ window_length lag c
  kept_count =
      let e = length-drop (length (take (suc c) rows) - (lag + 1)) (take (suc c) rows) in
      let f : length kept ≡ length (last_ones (lag + 1) (take (suc c) rows)) = ap length is in
      omega (arith, e, f, run_count)

  pub kept_rows : AreFrom rows (window_start lag c) kept
  kept_rows i less =
      let k : length (take (suc c) rows) - (lag + 1) ≡ c - lag = omega (arith, run_count) in
      let there : c - lag + i < suc c = omega (arith, less, kept_count) in
      ap (λ (x : List (List ℕ)). slice_index_or x i []) is
      ∙ ap (λ (n : ℕ). slice_index_or (drop n (take (suc c) rows)) i []) k
      ∙ get_or-drop (c - lag) (take (suc c) rows) i []
      ∙ get_or-take (suc c) rows (c - lag + i) [] there

-- ---- the window that is reached

-- the simulator that went back over all but the last of the kept rows stands at the window's first cycle
pub reached : (f : Flat) (order : List ℕ) (rows : List (List ℕ)) (p : Progress) (x : Failure) (n : ℕ) (sim : Moment)
    → Failed f order rows p x → n ≡ length p.kept.rows - 1 → sim.flat ≡ p.at.flat → sim.cycle + n ≡ p.at.cycle
    → sim.state ≡ state_at f order rows (p.at.cycle - n) → StandsAt f order rows (window_start p.lag x.cycle) sim
reached f order rows p x n sim h count flat cycle state =
    let k = kept_count p.lag x.cycle rows p.kept.rows h.within h.kept in
    let there : p.at.cycle - n ≡ window_start p.lag x.cycle = omega (arith, count, k, h.cycle) in
    record {
      flat = flat ∙ h.flat;
      fits = h.fits;
      ordered = h.ordered;
      cycle_is = omega (arith, count, k, h.cycle, cycle);
      state = state ∙ ap (state_at f order rows) there;
    }

pub window_waves : (f : Flat) (order : List ℕ) (rows : List (List ℕ)) (p : Progress) (x : Failure) (o : Option Failure)
    (old new : Option (List ℕ)) (before now : ℕ) (result : Result (Unit {0}) VcdFault) → o ≡ Some x → Failed f order rows p x
    → Waves old new before now (wave_of f order rows (window_start p.lag x.cycle) (length p.kept.rows)) result
    → IsSomeAnd o (λ y. Waves old new before now (window_text f order rows p.lag y.cycle) result)
window_waves f order rows p x o old new before now result e h w =
    let k = kept_count p.lag x.cycle rows p.kept.rows h.within h.kept in
    subst (λ (v : Option Failure). IsSomeAnd v (λ y. Waves old new before now (window_text f order rows p.lag y.cycle) result)) (sym e)
    (subst (λ (n : ℕ). Waves old new before now (wave_of f order rows (window_start p.lag x.cycle) n) result) k w)

-- ---- what a cycle shows

put_next : (g : ℕ → ℕ) (ks old : List ℕ) (k d : ℕ) → k < length ks → length old ≡ length ks
    → set (map g (take k ks) ++ drop k old) k (g (get_or ks k d)) ≡ map g (take (suc k) ks) ++ drop (suc k) old
put_next g [] old k d l c = absurd (omega (arith, l))
put_next g (x ∷ ks) [] k d l c = absurd (omega (arith, c))
put_next g (x ∷ ks) (o ∷ old) zero d l c = refl
put_next g (x ∷ ks) (o ∷ old) (suc k) d l c =
    ap (λ (xs : List ℕ). g x ∷ xs) (put_next g ks old k d (omega (arith, l)) (omega (arith, c)))

-- one value more
pub put_more : (g : ℕ → ℕ) (ks old now : List ℕ) (k n d : ℕ) → k < length ks → length old ≡ length ks
    → now ≡ map g (take k ks) ++ drop k old → n ≡ g (get_or ks k d)
    → set now k n ≡ map g (take (k + 1) ks) ++ drop (k + 1) old
put_more g ks old now k n d l c is value =
    let one : suc k ≡ k + 1 = omega arith in
    ap (λ (xs : List ℕ). set xs k n) is ∙ ap (λ (v : ℕ). set (map g (take k ks) ++ drop k old) k v) value
    ∙ put_next g ks old k d l c ∙ ap (λ (j : ℕ). map g (take j ks) ++ drop j old) one

pub put_one : (o : Option Values) (ks old now : List ℕ) (k n d : ℕ) → k < length ks → length old ≡ length ks
    → IsSomeAnd o (λ v. now ≡ map (slice_index v.signals) (take k ks) ++ drop k old)
    → IsSomeAnd o (λ v. n ≡ slice_index v.signals (get_or ks k d))
    → IsSomeAnd o (λ v. set now k n ≡ map (slice_index v.signals) (take (k + 1) ks) ++ drop (k + 1) old)
put_one None ks old now k n d l c is value = absurd is
put_one (Some v) ks old now k n d l c is value = put_more (slice_index v.signals) ks old now k n d l c is value

pub put_all : (o : Option Values) (ks old now : List ℕ) (k : ℕ) → length ks ≤ k → length old ≡ length ks
    → IsSomeAnd o (λ v. now ≡ map (slice_index v.signals) (take k ks) ++ drop k old)
    → IsSomeAnd o (λ v. now ≡ map (slice_index v.signals) ks)
put_all None ks old now k l c is = absurd is
put_all (Some v) ks old now k l c is =
    is ∙ ap (λ (xs : List ℕ). map (slice_index v.signals) (take k ks) ++ xs) (drop_of_length-le old {i = k} (omega (arith, l, c)))
    ∙ append-nil (map (slice_index v.signals) (take k ks)) ∙ ap (map (slice_index v.signals)) (take_all k ks l)
