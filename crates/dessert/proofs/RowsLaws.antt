-- Running over the rows of a source: what a call of the reader adds.
use Rattle.std.proofs.Common.{◌≡◌, ℕ, ◌+◌, ◌-◌, ◌==◌, ◌<◌, ◌≤◌, List, [], ◌∷◌, ◌++◌, length, drop, refl, sym, ap, subst, ◌∙◌, arith, length-append, length-drop, true, false, cond}
use Rattle.std.specs.Prelude.{Result, Ok, Err, Bool}
use Rattle.std.specs.List.{count_by}
use Rattle.std.specs.Io.KnownBytes.{Consumes}
use Rattle.std.proofs.KnownBytes.{Consumes-nil, Consumes-trans}
use Rattle.std.proofs.lemmas.List.{length-map}
use Rattle.std.proofs.lemmas.List.Sums.{sum_by-cons, sum_by-append}
use Rattle.dt_core.specs.Causes.{Rose}
use Rattle.dt_core.specs.declared.limits.TheConstants.{MAX_ROWS}
use Rattle.netlist.specs.Design.{Flat}
use Rattle.net_compile.specs.Cycle.{RowFits}
use Rattle.vl_stands.specs.StandsFor.{input_names}
use Rattle.window_run.specs.Progress.{Progress}
use Rattle.window_run.specs.Ran.{RanTo}
use Rattle.stimulus.specs.declared.refusal.StimFault.{StimFault}
use Rattle.stimulus.specs.declared.refusal.StimFault.TheVariants as s
use Rattle.stimulus.specs.Stimulus as text
use Rattle.stimulus.specs.Lines.{text_of}
use Rattle.stimulus.specs.Fits.{AreNamed, Fit, AreRows}
use Rattle.stimulus.specs.Reader.{Reader}
use Rattle.stimulus.specs.Reads.{Reads, RowIs}
use Rattle.stimulus_laws.proofs.FitLaws.{lines_fit}
use Rattle.dessert.specs.Outside.{SourceAt}
use Rattle.dessert.specs.Inputs.{bits_named}
use Rattle.dessert.specs.Steps.{rows_in}
use Rattle.dessert.specs.Calls.Told.{TakesBits}
use Rattle.dessert.specs.Calls.Rows.{RanAll, StepsEach}
use Rattle.dessert.proofs.InputLaws as inputs

-- ---- rows as lines

-- how many lines a text has
abbrev lines : List ℕ → ℕ
lines = count_by (λ b. b == 10)

lines_joined : (xs ys : List ℕ) → lines (xs ++ ys) ≡ lines xs + lines ys
lines_joined = sum_by-append (λ y. cond (y == 10) 1 0)

line_ended : (bs : List ℕ) → lines (10 ∷ bs) ≡ 1 + lines bs
line_ended bs = sum_by-cons (λ y. cond (y == 10) 1 0) 10 bs

lines_in : (ls : List (List ℕ)) → length ls ≤ lines (text_of ls)
lines_in [] = omega arith
lines_in (l ∷ ls) = omega (arith, lines_joined l (10 ∷ text_of ls), line_ended (text_of ls), lines_in ls)

-- each row that a reader has given is one of the rows in the bytes that it has taken
rows_are_in : (reader : Reader) (taken : List ℕ) (rows : List (List ℕ)) → Reads reader taken rows → length rows ≤ rows_in taken
rows_are_in reader taken rows r =
    let names = text.names_of (text.second r.lines) in
    let count : length rows ≡ length r.lines - 2 =
    ap (λ (x : List (List ℕ)). length x) r.are_rows ∙ length-map (drop 2 r.lines) (text.row_of reader.inputs names) ∙ length-drop 2 r.lines in
    let whole : lines taken ≡ lines (text_of r.lines) + lines reader.held.bytes =
    ap lines r.bytes ∙ lines_joined (text_of r.lines) reader.held.bytes in
    omega (arith, count, whole, lines_in r.lines)

-- so many rows were taken from the source and run, at a step each
pub record Far (flat : Flat) (names : List (List ℕ)) (start now : SourceAt) (reader : Reader) (run : Progress) (first steps : ℕ) : Type 0 where
  pub rows : List (List ℕ)
  pub taken : List ℕ
  pub consumed : Consumes start.left now.left taken
  pub counted : now.faults ≡ start.faults
  pub inputs : reader.inputs ≡ bits_named names
  pub reads : Reads reader taken rows
  pub ran : RanTo flat [] rows run
  pub few : steps ≤ first + length rows

-- no row yet
pub none_yet : (flat : Flat) (names : List (List ℕ)) (start : SourceAt) (reader : Reader) (run : Progress) (n : ℕ) → reader.inputs ≡ bits_named names
    → Reads reader [] [] → RanTo flat [] [] run → Far flat names start start reader run n n
none_yet flat names start reader run n i r ran =
    record { rows = []; taken = []; consumed = Consumes-nil start.left; counted = refl; inputs = i; reads = r; ran = ran; few = omega arith }

-- the rows that a reader has given fit its inputs
rows_fit : (names : List (List ℕ)) (reader : Reader) (taken : List ℕ) (rows : List (List ℕ)) → reader.inputs ≡ bits_named names → Reads reader taken rows
    → AreRows (bits_named names) rows
rows_fit names reader taken rows i r =
    subst (λ is. AreRows is rows) i
    (subst (AreRows reader.inputs) (sym r.are_rows) (lines_fit reader.inputs r.lines (subst AreNamed (sym i) (inputs.are_named names)) r.passed))

module _ (flat : Flat) (names : List (List ℕ)) (start now next : SourceAt) (reader reader' : Reader) (run : Progress) (first steps : ℕ)
    (same : reader'.inputs ≡ reader.inputs) (far : Far flat names start now reader run first steps) where
  -- what the reader answers to what was taken so far
  abbrev pub Came : Result Bool StimFault → Type 0
  Came result = (more : List ℕ) × Consumes now.left next.left more × RowIs far.rows (far.taken ++ more) reader' next.left now.faults next.faults result

  all_taken : (more : List ℕ) → Consumes now.left next.left more → Consumes start.left next.left (far.taken ++ more)
  all_taken more c = Consumes-trans start.left now.left next.left far.taken more far.consumed c

  inputs_are : reader'.inputs ≡ bits_named names
  inputs_are = same ∙ far.inputs

  more_lines : (xs ys : List ℕ) → rows_in xs ≤ rows_in (xs ++ ys)
  more_lines xs ys = omega (arith, lines_joined xs ys)

  -- a step for each row that was read, whatever the reader answered
  pub each : (result : Result Bool StimFault) → Came result → StepsEach start next first steps
  each result a = record {
    bytes = far.taken ++ a.0;
    taken = all_taken a.0 a.1;
    few = omega (arith, far.few, rows_are_in reader far.taken far.rows far.reads, more_lines far.taken a.0);
  }

  -- a row more
  pub one_row : Came (Ok true) → (run' : Progress) (steps' : ℕ) → steps' ≤ steps + 1
      → ((rs : List (List ℕ)) → RanTo flat [] rs run → RanTo flat [] (rs ++ reader'.layout.row ∷ []) run') → Far flat names start next reader' run' first steps'
  one_row a run' steps' n goes = record {
    rows = far.rows ++ reader'.layout.row ∷ [];
    taken = far.taken ++ a.0;
    consumed = all_taken a.0 a.1;
    counted = a.2.2 ∙ far.counted;
    inputs = inputs_are;
    reads = a.2.0;
    ran = goes far.rows far.ran;
    few = let l = length-append far.rows (reader'.layout.row ∷ []) in omega (arith, l, n, far.few);
  }

  -- a row was read, and there was no memory to run it
  pub each_row : Came (Ok true) → (steps' : ℕ) → steps' ≤ steps + 1 → StepsEach start next first steps'
  each_row a steps' n =
      let l = length-append far.rows (reader'.layout.row ∷ []) in
      let r = rows_are_in reader' (far.taken ++ a.0) (far.rows ++ reader'.layout.row ∷ []) a.2.0 in
      record { bytes = far.taken ++ a.0; taken = all_taken a.0 a.1; few = omega (arith, l, n, far.few, r) }

  pub row_memory : Came (Ok true) → next.faults ≡ start.faults
  row_memory a = a.2.2 ∙ far.counted

  pub came_as : (b c : Bool) → b ≡ c → Came (Ok b) → Came (Ok c)
  came_as b c e a = subst (λ (x : Bool). Came (Ok x)) e a

  -- the rows fit, with this one
  all_fit : Came (Ok true) → AreRows (bits_named names) (far.rows ++ reader'.layout.row ∷ [])
  all_fit a = rows_fit names reader' (far.taken ++ a.0) (far.rows ++ reader'.layout.row ∷ []) inputs_are a.2.0

  row_fits : Came (Ok true) → Fit (bits_named names) reader'.layout.row
  row_fits a = inputs.last_fits (bits_named names) far.rows reader'.layout.row (all_fit a)

  -- so it fits a design whose inputs have one bit
  pub row_taken : names ≡ input_names flat → TakesBits flat → Came (Ok true) → RowFits flat reader'.layout.row
  row_taken are bits a = inputs.row_fits flat reader'.layout.row far.ran.fits bits (subst (λ ns. Fit (bits_named ns) reader'.layout.row) are (row_fits a))

  -- the row has a value for each input
  pub row_length : Came (Ok true) → length reader'.layout.row ≡ length names
  row_length a = inputs.row_length names reader'.layout.row (row_fits a)

  -- there is room for one row more
  pub room : Came (Ok true) → run.cycles < MAX_ROWS
  room a = let l = length-append far.rows (reader'.layout.row ∷ []) in let f = all_fit a in omega (arith, far.ran.taken, f.0, l)

  -- fewer rows may follow
  pub smaller : Came (Ok true) → (run' : Progress) → ((rs : List (List ℕ)) → RanTo flat [] rs run → RanTo flat [] (rs ++ reader'.layout.row ∷ []) run')
      → MAX_ROWS + 1 - run'.cycles < MAX_ROWS + 1 - run.cycles
  smaller a run' goes =
      let l = length-append far.rows (reader'.layout.row ∷ []) in
      let r = goes far.rows far.ran in
      omega (arith, r.taken, far.ran.taken, l, room a)

  pub at_end : Came (Ok false) → RanAll flat (bits_named names) start next first steps run (Ok tt)
  at_end a = (
    a.2.2 ∙ far.counted,
    far.rows,
    far.taken ++ a.0,
    all_taken a.0 a.1,
    a.2.1,
    subst (λ is. text.stimulus is (far.taken ++ a.0) ≡ text.rows far.rows) inputs_are a.2.0,
    rows_fit names reader far.taken far.rows far.inputs far.reads,
    far.ran,
    omega (arith, far.few, rows_are_in reader far.taken far.rows far.reads, more_lines far.taken a.0),
  )

  pub failed : (e : StimFault) → Came (Err e) → RanAll flat (bits_named names) start next first steps run (Err e)
  failed (s.Refused r) a = (
    a.2.3 ∙ far.counted,
    far.taken ++ a.0,
    all_taken a.0 a.1,
    subst (λ is. text.stimulus is (far.taken ++ a.0) ≡ text.refused r) inputs_are a.2.0,
    a.2.2,
  )
  failed s.Read a = (
    subst (λ (n : ℕ). Rose n next.faults) far.counted a.2.0,
    far.taken ++ a.0,
    all_taken a.0 a.1,
    subst (λ is. text.MayGoOn is (far.taken ++ a.0)) inputs_are a.2.1,
  )
  failed s.Memory a = a.2 ∙ far.counted
