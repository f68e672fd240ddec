-- One row more: what fired before stays, and what the new cycle does is the last.
use Rattle.std.proofs.Common.{◌≡◌, ◌≢◌, ℕ, zero, suc, ◌+◌, ◌-◌, ◌<◌, ◌≤◌, Bool, true, false, List, [], ◌∷◌, ◌++◌, length, take, drop, refl, sym, ap, subst, ◌∙◌, arith, length-append, inl, inr}
use Rattle.std.specs.Prelude.{Option, Some, None, is_some, IsSome, IsSomeAnd, min, slice_index_or}
use Rattle.std.proofs.Math.ListN.{get_or-append}
use Rattle.std.proofs.Math.Nat.{eq-or-lt_of_le}
use Rattle.std.proofs.Math.Seq.{get_or-append_seam, take_all}
use Rattle.std.proofs.lemmas.List.{length-take, length-drop, drop-drop, drop-append-le, take-append-le}
use Rattle.netlist.specs.Design.{Flat}
use Rattle.netlist.specs.Fits.{IsWellFormed}
use Rattle.netlist.specs.Order.{IsOrder, flat_val}
use Rattle.netlist.proofs.Puts.{some_with}
use Rattle.netlist.specs.Run.{State, FlatSettles, flat_start, flat_next, flat_fired}
use Rattle.netlist.specs.Values.{Values}
use Rattle.netlist.specs.Laws.{SettlesOnce}
use Rattle.state_changes.specs.Log.{Log}
use Rattle.state_changes.specs.declared.changes.Change.{Change}
use Rattle.packed_rows.specs.Kept.{last_ones}
use Rattle.held_state.specs.Back.{LeadsBack, GoesBack, Notes}
use Rattle.flat_sim.specs.Moment.{Moment}
use Rattle.flat_sim.specs.Stops.{has_some}
use Rattle.window_run.specs.Over.{state_at, fired_at}
use Rattle.window_run.specs.Progress.{Failure, Progress}
use Rattle.window_run.specs.Ran.{IsFirst, cycle_of, rows_run, RanTo}
use Rattle.window_run.specs.Calls.Again.{HasCome}
use Rattle.window_run.specs.Calls.Taken.{GoesOn, Fails, Takes}

-- ---- the last of a list

-- one more behind the last ones
pub last_more : {X : Type 0} (m : ℕ) (xs : List X) (x : X) → last_ones m (last_ones m xs ++ x ∷ []) ≡ last_ones m (xs ++ x ∷ [])
last_more {X} m xs x =
    let d : ℕ = length xs - m in
    let whole : drop d xs ++ x ∷ [] ≡ drop d (xs ++ x ∷ []) = sym (drop-append-le d xs (x ∷ []) (omega arith)) in
    let a : length (drop d xs ++ x ∷ []) ≡ length (drop d xs) + 1 = length-append (drop d xs) (x ∷ []) in
    let b : length (drop d xs) ≡ length xs - d = length-drop d xs in
    let c : length (xs ++ x ∷ []) ≡ length xs + 1 = length-append xs (x ∷ []) in
    let k : ℕ = length (drop d xs ++ x ∷ []) - m in
    let e : d + k ≡ length (xs ++ x ∷ []) - m = omega (arith, a, b, c) in
    ap (λ (ys : List X). drop k ys) whole ∙ drop-drop k d (xs ++ x ∷ [])
    ∙ ap (λ (n : ℕ). drop n (xs ++ x ∷ [])) e

-- ---- notes that lead back

pub back_taken : (f : Flat) (states : ℕ → State) (m t : ℕ) (cycles : List (List Change)) → GoesBack f states t cycles
    → GoesBack f states t (take m cycles)
back_taken f states zero t cycles h = tt
back_taken f states (suc m) t [] h = tt
back_taken f states (suc m) zero (notes ∷ more) h = absurd h
back_taken f states (suc m) (suc t) (notes ∷ more) h = (h.0, back_taken f states m t more h.1)

pub back_same : (f : Flat) (states others : ℕ → State) (t : ℕ) (cycles : List (List Change))
    → ((k : ℕ) → k ≤ t → others k ≡ states k) → GoesBack f states t cycles → GoesBack f others t cycles
back_same f states others t [] same h = tt
back_same f states others zero (notes ∷ more) same h = absurd h
back_same f states others (suc t) (notes ∷ more) same h = (
  subst (λ (s : State). LeadsBack f notes (others (suc t)) s) (sym (same t (omega arith)))
      (subst (λ (s : State). LeadsBack f notes s (states t)) (sym (same (suc t) (omega arith))) h.0),
  back_same f states others t more (λ k l. same k (omega (arith, l))) h.1,
)

-- ---- one row more

module _ (f : Flat) (order : List ℕ) (rows : List (List ℕ)) (row : List ℕ) where
  -- a row in front stays, and the new one is the last
  row_front : (t : ℕ) → t < length rows → slice_index_or (rows ++ row ∷ []) t [] ≡ slice_index_or rows t []
  row_front t h = get_or-append rows (row ∷ []) [] t h

  row_last : slice_index_or (rows ++ row ∷ []) (length rows) [] ≡ row
  row_last = get_or-append_seam rows row [] []

  pub longer : length (rows ++ row ∷ []) ≡ length rows + 1
  longer = length-append rows (row ∷ [])

  -- a state sees earlier rows alone
  pub state_front : (t : ℕ) → t ≤ length rows → state_at f order (rows ++ row ∷ []) t ≡ state_at f order rows t
  state_front zero h = refl
  state_front (suc t) h =
      let a = row_front t (omega (arith, h)) in
      let b = state_front t (omega (arith, h)) in
      ap (λ (r : List ℕ). flat_next f (state_at f order (rows ++ row ∷ []) t) (flat_val f order (state_at f order (rows ++ row ∷ []) t) r)) a
      ∙ ap (λ (s : State). flat_next f s (flat_val f order s (slice_index_or rows t []))) b

  pub fired_front : (t : ℕ) → t < length rows → fired_at f order (rows ++ row ∷ []) t ≡ fired_at f order rows t
  fired_front t h =
      ap (λ (r : List ℕ). flat_fired f (flat_val f order (state_at f order (rows ++ row ∷ []) t) r)) (row_front t h)
      ∙ ap (λ (s : State). flat_fired f (flat_val f order s (slice_index_or rows t []))) (state_front t (omega (arith, h)))

  fired_last : fired_at f order (rows ++ row ∷ []) (length rows) ≡ flat_fired f (flat_val f order (state_at f order rows (length rows)) row)
  fired_last =
      ap (λ (r : List ℕ). flat_fired f (flat_val f order (state_at f order (rows ++ row ∷ []) (length rows)) r)) row_last
      ∙ ap (λ (s : State). flat_fired f (flat_val f order s row)) (state_front (length rows) (omega arith))

  state_last : state_at f order (rows ++ row ∷ []) (suc (length rows))
      ≡ flat_next f (state_at f order rows (length rows)) (flat_val f order (state_at f order rows (length rows)) row)
  state_last =
      ap (λ (r : List ℕ). flat_next f (state_at f order (rows ++ row ∷ []) (length rows))
      (flat_val f order (state_at f order (rows ++ row ∷ []) (length rows)) r)) row_last
      ∙ ap (λ (s : State). flat_next f s (flat_val f order s row)) (state_front (length rows) (omega arith))

  quiet_front : ((t : ℕ) → t < length rows → fired_at f order rows t ≡ []) → (t : ℕ) → t < length rows
      → fired_at f order (rows ++ row ∷ []) t ≡ []
  quiet_front q t h = fired_front t h ∙ q t h

  back_front : (t : ℕ) (cycles : List (List Change)) → t ≤ length rows → GoesBack f (state_at f order rows) t cycles
      → GoesBack f (state_at f order (rows ++ row ∷ [])) t cycles
  back_front t cycles l h =
      back_same f (state_at f order rows) (state_at f order (rows ++ row ∷ [])) t cycles (λ k i. state_front k (omega (arith, i, l))) h

  -- ---- after the first failure

  first_stays : (x : Failure) → IsFirst f order rows (Some x) → IsFirst f order (rows ++ row ∷ []) (Some x)
  first_stays x h = (
    omega (arith, h.0, longer),
    h.1 ∙ sym (fired_front x.cycle h.0),
    h.2,
    λ t i. fired_front t (omega (arith, i, h.0)) ∙ h.3 t i,
  )

  -- so it is of a run that takes no further notice
  pub ran_on : (p q : Progress) → is_some p.failure ≡ true → q ≡ record p { cycles = p.cycles + 1 } → RanTo f order rows p
      → RanTo f order (rows ++ row ∷ []) q
  ran_on p q some same r = by_failure p.failure refl
    where
      by_failure : (o : Option Failure) → p.failure ≡ o → RanTo f order (rows ++ row ∷ []) q
      by_failure None e = let no : is_some p.failure ≡ false = ap (λ (v : Option Failure). is_some v) e in absurd cc
      by_failure (Some x) e =
          let first : IsFirst f order rows (Some x) = subst (IsFirst f order rows) e r.first in
          let k = r.keeps in
          let here : cycle_of rows p.failure ≡ x.cycle = ap (cycle_of rows) e in
          let there : cycle_of (rows ++ row ∷ []) p.failure ≡ x.cycle = ap (cycle_of (rows ++ row ∷ [])) e in
          let now : rows_run rows p.failure ≡ suc x.cycle = ap (rows_run rows) e in
          let then_ : rows_run (rows ++ row ∷ []) p.failure ≡ suc x.cycle = ap (rows_run (rows ++ row ∷ [])) e in
          let l : x.cycle < length rows = first.0 in
          subst (RanTo f order (rows ++ row ∷ [])) (sym same) (record {
            flat = r.flat;
            fits = r.fits;
            ordered = r.ordered;
            taken = omega (arith, r.taken, longer);
            first = subst (IsFirst f order (rows ++ row ∷ [])) (sym e) (first_stays x first);
            keeps = record {
              cycle_is = k.cycle_is ∙ here ∙ sym there;
              state_is = k.state_is ∙ ap (state_at f order rows) here ∙ sym (state_front x.cycle (omega (arith, l)))
                  ∙ ap (state_at f order (rows ++ row ∷ [])) (sym there);
              rows_are = k.rows_are ∙ ap (λ (n : ℕ). last_ones (p.lag + 1) (take n rows)) now
                  ∙ ap (last_ones (p.lag + 1)) (sym (take-append-le (suc x.cycle) rows (row ∷ []) l))
                  ∙ ap (λ (n : ℕ). last_ones (p.lag + 1) (take n (rows ++ row ∷ []))) (sym then_);
              count = k.count ∙ ap (min (p.lag + 1)) (here ∙ sym there);
              back = subst (λ (t : ℕ). GoesBack f (state_at f order (rows ++ row ∷ [])) t p.log.cycles) (sym there)
                  (back_front x.cycle p.log.cycles (omega (arith, l))
                  (subst (λ (t : ℕ). GoesBack f (state_at f order rows) t p.log.cycles) here k.back));
            };
          })

  -- ---- a cycle more, where nothing has fired

  -- what is kept so far, where nothing fired
  pub record Quiet (p : Progress) : Type 0 where
    pub flat : p.flat ≡ f
    pub fits : IsWellFormed f
    pub ordered : IsOrder f order
    pub taken : p.cycles ≡ length rows
    pub none : (t : ℕ) → t < length rows → fired_at f order rows t ≡ []
    pub cycle_is : p.at.cycle ≡ length rows
    pub state_is : p.at.state ≡ state_at f order rows (length rows)
    pub rows_are : p.kept.rows ≡ last_ones (p.lag + 1) rows
    pub count : length p.log.cycles ≡ min (p.lag + 1) (length rows)
    pub back : GoesBack f (state_at f order rows) (length rows) p.log.cycles

  pub quiet : (p : Progress) → p.failure ≡ None → RanTo f order rows p → Quiet p
  quiet p e r =
      let k = r.keeps in
      let here : cycle_of rows p.failure ≡ length rows = ap (cycle_of rows) e in
      let run : rows_run rows p.failure ≡ length rows = ap (rows_run rows) e in
      record {
        flat = r.flat;
        fits = r.fits;
        ordered = r.ordered;
        taken = r.taken;
        none = subst (IsFirst f order rows) e r.first;
        cycle_is = k.cycle_is ∙ here;
        state_is = k.state_is ∙ ap (state_at f order rows) here;
        rows_are = k.rows_are ∙ ap (λ (n : ℕ). last_ones (p.lag + 1) (take n rows)) run
            ∙ ap (last_ones (p.lag + 1)) (take_all (length rows) rows (omega arith));
        count = k.count ∙ ap (min (p.lag + 1)) here;
        back = subst (λ (t : ℕ). GoesBack f (state_at f order rows) t p.log.cycles) here k.back;
      }

  module _ (once : SettlesOnce) (p : Progress) (u : Quiet p) (same : p.at.flat ≡ p.flat) where
    -- the one valuation
    value_is : (v : Values) → FlatSettles p.at.flat p.at.state row v → v ≡ flat_val f order (state_at f order rows (length rows)) row
    value_is v s =
        let t : FlatSettles f (state_at f order rows (length rows)) row v =
        subst (λ (x : State). FlatSettles f x row v) u.state_is (subst (λ (g : Flat). FlatSettles g p.at.state row v) (same ∙ u.flat) s) in
        (once f order (state_at f order rows (length rows)) row u.fits u.ordered).alone v t

    fired_is : (v : Values) → FlatSettles p.at.flat p.at.state row v
        → flat_fired p.at.flat v ≡ fired_at f order (rows ++ row ∷ []) (length rows)
    fired_is v s =
        ap (λ (g : Flat). flat_fired g v) (same ∙ u.flat) ∙ ap (flat_fired f) (value_is v s) ∙ sym fired_last

    -- what the new progress keeps
    pub record Taken (q : Progress) : Type 0 where
      pub flat : q.flat ≡ p.flat
      pub lag : q.lag ≡ p.lag
      pub cycles : q.cycles ≡ p.cycles + 1
      pub rows_are : q.kept.rows ≡ last_ones (p.lag + 1) (p.kept.rows ++ row ∷ [])

    kept_rows : (q : Progress) → Taken q → q.kept.rows ≡ last_ones (q.lag + 1) (rows ++ row ∷ [])
    kept_rows q t =
        t.rows_are ∙ ap (λ (xs : List (List ℕ)). last_ones (p.lag + 1) (xs ++ row ∷ [])) u.rows_are
        ∙ last_more (p.lag + 1) rows row ∙ ap (λ (n : ℕ). last_ones (n + 1) (rows ++ row ∷ [])) (sym t.lag)

    goes_on : (q : Progress) (v : Values) → Taken q → q.failure ≡ None → p.log.most ≡ p.lag + 1
        → GoesOn row v p.at q.at p.log q.log → RanTo f order (rows ++ row ∷ []) q
    goes_on q v t none most g =
        let n : ℕ = length rows in
        let val = value_is v g.settles in
        let one : length (rows ++ row ∷ []) ≡ suc n = omega (arith, longer) in
        let here : cycle_of (rows ++ row ∷ []) q.failure ≡ suc n = ap (cycle_of (rows ++ row ∷ [])) none ∙ one in
        let run : rows_run (rows ++ row ∷ []) q.failure ≡ length (rows ++ row ∷ []) = ap (rows_run (rows ++ row ∷ [])) none in
        let state : q.at.state ≡ state_at f order (rows ++ row ∷ []) (suc n) =
        g.state ∙ ap (λ (h : Flat). flat_next h p.at.state v) (same ∙ u.flat) ∙ ap (λ (s : State). flat_next f s v) u.state_is
        ∙ ap (flat_next f (state_at f order rows n)) val ∙ sym state_last in
        let before : p.at.state ≡ state_at f order (rows ++ row ∷ []) n = u.state_is ∙ sym (state_front n (omega arith)) in
        let leads : LeadsBack f g.notes.notes (state_at f order (rows ++ row ∷ []) (suc n)) (state_at f order (rows ++ row ∷ []) n) =
        subst (λ (s : State). LeadsBack f g.notes.notes s (state_at f order (rows ++ row ∷ []) n)) state
        (subst (λ (s : State). LeadsBack f g.notes.notes q.at.state s) before
        (subst (λ (h : Flat). LeadsBack h g.notes.notes q.at.state p.at.state) (same ∙ u.flat) g.notes.leads)) in
        let all : GoesBack f (state_at f order (rows ++ row ∷ [])) (suc n) (g.notes.notes ∷ p.log.cycles) =
        (leads, back_front n p.log.cycles (omega arith) u.back) in
        let long : length q.log.cycles ≡ min p.log.most (suc (length p.log.cycles)) =
        ap length g.notes.kept ∙ length-take p.log.most (g.notes.notes ∷ p.log.cycles) in
        record {
          flat = t.flat ∙ u.flat;
          fits = u.fits;
          ordered = u.ordered;
          taken = omega (arith, t.cycles, u.taken, longer);
          first = subst (IsFirst f order (rows ++ row ∷ [])) (sym none) (λ i l. elim (eq-or-lt_of_le {n = i} {m = n} (omega (arith, l, longer))) [
            | inl e ↦ subst (λ (k : ℕ). fired_at f order (rows ++ row ∷ []) k ≡ []) (sym e) (sym (fired_is v g.settles) ∙ g.quiet)
            | inr less ↦ quiet_front u.none i less
          ]);
          keeps = record {
            cycle_is = g.cycle ∙ ap (λ (k : ℕ). k + 1) u.cycle_is ∙ sym longer ∙ one ∙ sym here;
            state_is = state ∙ ap (state_at f order (rows ++ row ∷ [])) (sym here);
            rows_are = kept_rows q t ∙ ap (last_ones (q.lag + 1)) (sym (take_all (length (rows ++ row ∷ [])) (rows ++ row ∷ []) (omega arith)))
                ∙ ap (λ (k : ℕ). last_ones (q.lag + 1) (take k (rows ++ row ∷ []))) (sym run);
            count = omega (arith, long, u.count, most, t.lag, here);
            back = subst (λ (k : ℕ). GoesBack f (state_at f order (rows ++ row ∷ [])) k q.log.cycles) (sym here)
                (subst (GoesBack f (state_at f order (rows ++ row ∷ [])) (suc n)) (sym g.notes.kept)
                (back_taken f (state_at f order (rows ++ row ∷ [])) p.log.most (suc n) (g.notes.notes ∷ p.log.cycles) all));
          };
        }

    fails : (q : Progress) (x : Failure) (v : Values) → Taken q → q.failure ≡ Some x → Fails row v x p.at q.at p.log q.log
        → RanTo f order (rows ++ row ∷ []) q
    fails q x v t some g =
        let n : ℕ = length rows in
        let here : cycle_of (rows ++ row ∷ []) q.failure ≡ x.cycle = ap (cycle_of (rows ++ row ∷ [])) some in
        let run : rows_run (rows ++ row ∷ []) q.failure ≡ suc x.cycle = ap (rows_run (rows ++ row ∷ [])) some in
        let number : x.cycle ≡ n = g.number ∙ u.cycle_is in
        let at : cycle_of (rows ++ row ∷ []) q.failure ≡ n = here ∙ number in
        let whole : length (rows ++ row ∷ []) ≤ rows_run (rows ++ row ∷ []) q.failure = omega (arith, run, number, longer) in
        record {
          flat = t.flat ∙ u.flat;
          fits = u.fits;
          ordered = u.ordered;
          taken = omega (arith, t.cycles, u.taken, longer);
          first = subst (IsFirst f order (rows ++ row ∷ [])) (sym some) (
            omega (arith, number, longer),
            g.fired ∙ fired_is v g.settles ∙ ap (fired_at f order (rows ++ row ∷ [])) (sym number),
            g.some,
            λ i l. quiet_front u.none i (omega (arith, l, number)),
          );
          keeps = record {
            cycle_is = g.cycle ∙ u.cycle_is ∙ sym at;
            state_is = g.state ∙ u.state_is ∙ sym (state_front n (omega arith)) ∙ ap (state_at f order (rows ++ row ∷ [])) (sym at);
            rows_are = kept_rows q t
                ∙ ap (last_ones (q.lag + 1)) (sym (take_all (rows_run (rows ++ row ∷ []) q.failure) (rows ++ row ∷ []) whole));
            count = ap length g.notes ∙ u.count ∙ ap (λ (k : ℕ). min (k + 1) n) (sym t.lag) ∙ ap (min (q.lag + 1)) (sym at);
            back = subst (λ (k : ℕ). GoesBack f (state_at f order (rows ++ row ∷ [])) k q.log.cycles) (sym at)
                (subst (GoesBack f (state_at f order (rows ++ row ∷ [])) n) (sym g.notes) (back_front n p.log.cycles (omega arith) u.back));
          };
        }

    -- a cycle was taken
    pub ran_one : (q : Progress) → Taken q → p.log.most ≡ p.lag + 1 → (o : Option Failure) → q.failure ≡ o
        → Takes row p.at q.at p.log q.log o → RanTo f order (rows ++ row ∷ []) q
    ran_one q t most None e g = goes_on q g.0 t e most g.1
    ran_one q t most (Some x) e g = fails q x g.0 t e g.1

-- ---- what a cycle did

none_has : {X : Type 0} (xs : List X) → has_some xs ≡ false → xs ≡ []
none_has [] e = refl
none_has (x ∷ xs) e = absurd cc

some_has : {X : Type 0} (xs : List X) → has_some xs ≡ true → xs ≢ []
some_has [] e n = absurd cc
some_has {X} (x ∷ xs) e n = let l : suc (length xs) ≡ 0 = ap (λ (ys : List X). length ys) n in absurd (omega (arith, l))

pub at_value : (o : Option Values) (P : Values → Type 0) (v : Values) → o ≡ Some v → IsSomeAnd o P → P v
at_value o P v e h = subst (λ (u : Option Values). IsSomeAnd u P) e h

-- a settled cycle, in which nothing fires or something does
module _ (row : List ℕ) (old mid : Moment) (fires : Bool) (flat : mid.flat ≡ old.flat) (cycle : mid.cycle ≡ old.cycle)
    (state : mid.state ≡ old.state) (settles : IsSomeAnd mid.values (FlatSettles old.flat old.state row))
    (tells : IsSomeAnd mid.values (λ v. fires ≡ has_some (flat_fired mid.flat v))) where
  pub step_fails : (log : Log Change) (x : Failure) → fires ≡ true → x.cycle ≡ mid.cycle
      → IsSomeAnd mid.values (λ v. x.fired ≡ flat_fired mid.flat v) → Takes row old mid log log (Some x)
  step_fails log x yes' number fired =
      let v = some_with mid.values (FlatSettles old.flat old.state row) settles in
      let told = at_value mid.values (λ u. fires ≡ has_some (flat_fired mid.flat u)) v.0 v.1 tells in
      let all : x.fired ≡ flat_fired mid.flat v.0 = at_value mid.values (λ u. x.fired ≡ flat_fired mid.flat u) v.0 v.1 fired in (
        v.0,
        record {
          settles = v.2;
          number = number ∙ cycle;
          fired = all ∙ ap (λ (g : Flat). flat_fired g v.0) flat;
          some = λ n. some_has (flat_fired mid.flat v.0) (sym told ∙ yes') (sym all ∙ n);
          cycle = cycle;
          state = state;
          notes = refl;
        },
      )

  pub step_goes : (new : Moment) (log log' : Log Change) → fires ≡ false → new.cycle ≡ mid.cycle + 1
      → IsSomeAnd mid.values (λ v. new.state ≡ flat_next mid.flat mid.state v)
      → Notes mid.flat mid.state new.state log.most log.cycles log'.cycles → Takes row old new log log' None
  step_goes new log log' no' next after notes =
      let v = some_with mid.values (FlatSettles old.flat old.state row) settles in
      let told = at_value mid.values (λ u. fires ≡ has_some (flat_fired mid.flat u)) v.0 v.1 tells in
      let is = at_value mid.values (λ u. new.state ≡ flat_next mid.flat mid.state u) v.0 v.1 after in (
        v.0,
        record {
          settles = v.2;
          quiet = ap (λ (g : Flat). flat_fired g v.0) (sym flat) ∙ none_has (flat_fired mid.flat v.0) (sym told ∙ no');
          cycle = next ∙ ap (λ (n : ℕ). n + 1) cycle;
          state = is ∙ ap (λ (g : Flat). flat_next g mid.state v.0) flat ∙ ap (λ (s : State). flat_next old.flat s v.0) state;
          notes = subst (λ (g : Flat). Notes g old.state new.state log.most log.cycles log'.cycles) flat
              (subst (λ (s : State). Notes mid.flat s new.state log.most log.cycles log'.cycles) state notes);
        },
      )

-- ---- the start, and the first failure

none_dropped : {X : Type 0} (n : ℕ) → drop {A = X} n [] ≡ []
none_dropped zero = refl
none_dropped (suc n) = refl

-- a run over no rows
pub ran_none : (f : Flat) (order : List ℕ) (p : Progress) → IsWellFormed f → IsOrder f order → p.flat ≡ f → p.cycles ≡ 0
    → p.failure ≡ None → p.at.cycle ≡ 0 → p.at.state ≡ flat_start f → p.kept.rows ≡ [] → p.log.cycles ≡ []
    → RanTo f order [] p
ran_none f order p fits ordered flat taken none cycle state rows log =
    let here : cycle_of [] p.failure ≡ 0 = ap (cycle_of []) none in
    let run : rows_run [] p.failure ≡ 0 = ap (rows_run []) none in
    record {
      flat = flat;
      fits = fits;
      ordered = ordered;
      taken = taken;
      first = subst (IsFirst f order []) (sym none) (λ t l. absurd (omega (arith, l)));
      keeps = record {
        cycle_is = cycle ∙ sym here;
        state_is = state ∙ ap (state_at f order []) (sym here);
        rows_are = rows ∙ sym (none_dropped (0 - (p.lag + 1))) ∙ ap (λ (n : ℕ). last_ones (p.lag + 1) (take n [])) (sym run);
        count = let l : length p.log.cycles ≡ 0 = ap length log in omega (arith, l, here);
        back = subst (GoesBack f (state_at f order []) (cycle_of [] p.failure)) (sym log) tt;
      };
    }

-- what is kept of a run whose first failure this is
pub record Failed (f : Flat) (order : List ℕ) (rows : List (List ℕ)) (p : Progress) (x : Failure) : Type 0 where
  pub fits : IsWellFormed f
  pub ordered : IsOrder f order
  pub flat : p.at.flat ≡ f
  pub within : x.cycle < length rows
  pub taken : p.cycles ≡ length rows
  pub cycle : p.at.cycle ≡ x.cycle
  pub come : HasCome (state_at f order rows) p.at p.log
  pub kept : p.kept.rows ≡ last_ones (p.lag + 1) (take (suc x.cycle) rows)
  pub notes : length p.log.cycles ≡ min (p.lag + 1) x.cycle

pub failed : (f : Flat) (order : List ℕ) (rows : List (List ℕ)) (p : Progress) (x : Failure) → p.at.flat ≡ p.flat
    → p.failure ≡ Some x → RanTo f order rows p → Failed f order rows p x
failed f order rows p x same e r =
    let k = r.keeps in
    let here : cycle_of rows p.failure ≡ x.cycle = ap (cycle_of rows) e in
    let run : rows_run rows p.failure ≡ suc x.cycle = ap (rows_run rows) e in
    let first : IsFirst f order rows (Some x) = subst (IsFirst f order rows) e r.first in
    record {
      fits = r.fits;
      ordered = r.ordered;
      flat = same ∙ r.flat;
      within = first.0;
      taken = r.taken;
      cycle = k.cycle_is ∙ here;
      come = record {
        state = k.state_is ∙ ap (state_at f order rows) (sym k.cycle_is);
        back = subst (λ (g : Flat). GoesBack g (state_at f order rows) p.at.cycle p.log.cycles) (sym (same ∙ r.flat))
            (subst (λ (t : ℕ). GoesBack f (state_at f order rows) t p.log.cycles) (sym k.cycle_is) k.back);
      };
      kept = k.rows_are ∙ ap (λ (n : ℕ). last_ones (p.lag + 1) (take n rows)) run;
      notes = k.count ∙ ap (min (p.lag + 1)) here;
    }

pub some_failure : (o : Option Failure) → IsSome o → (x : Failure) × (o ≡ Some x)
some_failure None h = absurd cc
some_failure (Some x) h = (x, refl)

pub none_found : (o : Option Failure) → is_some o ≡ false → o ≡ None
none_found None e = refl
none_found (Some x) e = absurd cc
