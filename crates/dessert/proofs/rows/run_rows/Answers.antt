use Rattle.std.proofs.Common.{◌<◌, ℕ, List, [], ◌∷◌, ◌++◌, length, true, false, refl, sym, ap, subst, ◌∙◌, arith}
use Rattle.std.specs.Prelude.{Ok, Err}
use Rattle.std.proofs.lemmas.List.{length-map}
use Rattle.design_names.specs.Shown.{signal_at}
use Rattle.net_compile.specs.Cycle.{RowFits}
use Rattle.netlist.specs.Design.{Flat}
use Rattle.vl_stands.specs.StandsFor.{input_names}
use Rattle.window_run.specs.Ran.{RanTo}
use Rattle.dessert.specs.Outside.{source_at}
use Rattle.dessert.proofs.RowsLaws.{none_yet, one_row, each, each_row, row_memory, came_as, row_length, row_taken, room, smaller, at_end, failed}
use Rattle.dessert.proofs.rows.run_rows.Goals as goal

pub rows-init : goal.rows-init
rows-init g c = record {
  far = none_yet c.args.run.now.flat (input_names c.args.run.now.flat) (source_at g.S.Source c.args.source.now) c.args.reader.now c.args.run.now c.args.steps.now c.requires.inputs c.requires.reads c.requires.ran;
  live = c.requires.live;
  flat = refl;
  lag = refl;
}

pub take-requires-clause-count : goal.take-requires-clause-count
take-requires-clause-count g c =
    let far = c.rows.invariant.far in
    let flat = c.args.run.now.flat in
    let a = c.in-Ok-true.ensures.answer far.taken far.rows far.reads in
    let came = came_as flat (input_names flat) (source_at g.S.Source c.args.source.now) (source_at g.S.Source c.rows.source) (source_at g.S.Source c.next_row.new.source) c.rows.reader c.next_row.new.self c.rows.run c.args.steps.now c.rows.steps c.in-Ok-true.ensures.inputs far c.in-Ok-true.field-0 true c.in-Ok-true.field-0-test a in
    ap (λ (x : List ℕ). length x) c.row.ensures
    ∙ row_length flat (input_names flat) (source_at g.S.Source c.args.source.now) (source_at g.S.Source c.rows.source) (source_at g.S.Source c.next_row.new.source) c.rows.reader c.next_row.new.self c.rows.run c.args.steps.now c.rows.steps c.in-Ok-true.ensures.inputs far came
    ∙ length-map flat.inputs (λ k. (signal_at flat k).name) ∙ sym (ap (λ (x : Flat). length x.inputs) c.rows.invariant.flat)

pub take-requires-clause-fits : goal.take-requires-clause-fits
take-requires-clause-fits g c =
    let far = c.rows.invariant.far in
    let flat = c.args.run.now.flat in
    let a = c.in-Ok-true.ensures.answer far.taken far.rows far.reads in
    let came = came_as flat (input_names flat) (source_at g.S.Source c.args.source.now) (source_at g.S.Source c.rows.source) (source_at g.S.Source c.next_row.new.source) c.rows.reader c.next_row.new.self c.rows.run c.args.steps.now c.rows.steps c.in-Ok-true.ensures.inputs far c.in-Ok-true.field-0 true c.in-Ok-true.field-0-test a in
    subst (λ (z : Flat × List ℕ). RowFits z.0 z.1) (λ i. (sym c.rows.invariant.flat i, sym c.row.ensures i))
    (row_taken flat (input_names flat) (source_at g.S.Source c.args.source.now) (source_at g.S.Source c.rows.source) (source_at g.S.Source c.next_row.new.source) c.rows.reader c.next_row.new.self c.rows.run c.args.steps.now c.rows.steps c.in-Ok-true.ensures.inputs far refl c.requires.bits came)

pub take-requires-clause-room : goal.take-requires-clause-room
take-requires-clause-room g c =
    let far = c.rows.invariant.far in
    let flat = c.args.run.now.flat in
    let a = c.in-Ok-true.ensures.answer far.taken far.rows far.reads in
    let came = came_as flat (input_names flat) (source_at g.S.Source c.args.source.now) (source_at g.S.Source c.rows.source) (source_at g.S.Source c.next_row.new.source) c.rows.reader c.next_row.new.self c.rows.run c.args.steps.now c.rows.steps c.in-Ok-true.ensures.inputs far c.in-Ok-true.field-0 true c.in-Ok-true.field-0-test a in
    let n = room flat (input_names flat) (source_at g.S.Source c.args.source.now) (source_at g.S.Source c.rows.source) (source_at g.S.Source c.next_row.new.source) c.rows.reader c.next_row.new.self c.rows.run c.args.steps.now c.rows.steps c.in-Ok-true.ensures.inputs far came in
    omega (arith, n)

pub rows-smaller : goal.rows-smaller
rows-smaller g c =
    let far = c.rows.invariant.far in
    let flat = c.args.run.now.flat in
    let a = c.in-Ok-true.ensures.answer far.taken far.rows far.reads in
    let came = came_as flat (input_names flat) (source_at g.S.Source c.args.source.now) (source_at g.S.Source c.rows.source) (source_at g.S.Source c.next_row.new.source) c.rows.reader c.next_row.new.self c.rows.run c.args.steps.now c.rows.steps c.in-Ok-true.ensures.inputs far c.in-Ok-true.field-0 true c.in-Ok-true.field-0-test a in
    smaller flat (input_names flat) (source_at g.S.Source c.args.source.now) (source_at g.S.Source c.rows.source) (source_at g.S.Source c.next_row.new.source) c.rows.reader c.next_row.new.self c.rows.run c.args.steps.now c.rows.steps c.in-Ok-true.ensures.inputs far came c.take.new.self
    (λ rs r. subst (λ (x : List ℕ). RanTo flat [] (rs ++ x ∷ []) c.take.new.self) c.row.ensures (c.in-Ok.ensures.ran flat [] rs r))

pub rows-preserved : goal.rows-preserved
rows-preserved g c =
    let far = c.rows.invariant.far in
    let flat = c.args.run.now.flat in
    let a = c.in-Ok-true.ensures.answer far.taken far.rows far.reads in
    let came = came_as flat (input_names flat) (source_at g.S.Source c.args.source.now) (source_at g.S.Source c.rows.source) (source_at g.S.Source c.next_row.new.source) c.rows.reader c.next_row.new.self c.rows.run c.args.steps.now c.rows.steps c.in-Ok-true.ensures.inputs far c.in-Ok-true.field-0 true c.in-Ok-true.field-0-test a in
    record {
      far = one_row flat (input_names flat) (source_at g.S.Source c.args.source.now) (source_at g.S.Source c.rows.source) (source_at g.S.Source c.next_row.new.source) c.rows.reader c.next_row.new.self c.rows.run c.args.steps.now c.rows.steps c.in-Ok-true.ensures.inputs far came c.take.new.self c.take.new.steps c.in-Ok.ensures.steps
          (λ rs r. subst (λ (x : List ℕ). RanTo flat [] (rs ++ x ∷ []) c.take.new.self) c.row.ensures (c.in-Ok.ensures.ran flat [] rs r));
      live = c.in-Ok-true.ensures.live.1 (ap Ok c.in-Ok-true.field-0-test);
      flat = c.in-Ok.ensures.flat ∙ c.rows.invariant.flat;
      lag = c.in-Ok.ensures.lag ∙ c.rows.invariant.lag;
    }

pub returns-in_default-clause-ran : goal.returns-in_default-clause-ran
returns-in_default-clause-ran g c =
    let far = c.rows.invariant.far in
    let flat = c.args.run.now.flat in
    let a = c.in-Ok-true.ensures.answer far.taken far.rows far.reads in
    let came = came_as flat (input_names flat) (source_at g.S.Source c.args.source.now) (source_at g.S.Source c.rows.source) (source_at g.S.Source c.next_row.new.source) c.rows.reader c.next_row.new.self c.rows.run c.args.steps.now c.rows.steps c.in-Ok-true.ensures.inputs far c.in-Ok-true.field-0 true c.in-Ok-true.field-0-test a in
    row_memory flat (input_names flat) (source_at g.S.Source c.args.source.now) (source_at g.S.Source c.rows.source) (source_at g.S.Source c.next_row.new.source) c.rows.reader c.next_row.new.self c.rows.run c.args.steps.now c.rows.steps c.in-Ok-true.ensures.inputs far came

pub returns-in_default-clause-steps : goal.returns-in_default-clause-steps
returns-in_default-clause-steps g c =
    let far = c.rows.invariant.far in
    let flat = c.args.run.now.flat in
    let a = c.in-Ok-true.ensures.answer far.taken far.rows far.reads in
    let came = came_as flat (input_names flat) (source_at g.S.Source c.args.source.now) (source_at g.S.Source c.rows.source) (source_at g.S.Source c.next_row.new.source) c.rows.reader c.next_row.new.self c.rows.run c.args.steps.now c.rows.steps c.in-Ok-true.ensures.inputs far c.in-Ok-true.field-0 true c.in-Ok-true.field-0-test a in
    each_row flat (input_names flat) (source_at g.S.Source c.args.source.now) (source_at g.S.Source c.rows.source) (source_at g.S.Source c.next_row.new.source) c.rows.reader c.next_row.new.self c.rows.run c.args.steps.now c.rows.steps c.in-Ok-true.ensures.inputs far came c.take.new.steps c.in_default.ensures.steps

pub returns-in-Ok-false-clause-ran : goal.returns-in-Ok-false-clause-ran
returns-in-Ok-false-clause-ran g c =
    let far = c.rows.invariant.far in
    let flat = c.args.run.now.flat in
    let a = c.in-Ok-false.ensures.answer far.taken far.rows far.reads in
    let came = came_as flat (input_names flat) (source_at g.S.Source c.args.source.now) (source_at g.S.Source c.rows.source) (source_at g.S.Source c.next_row.new.source) c.rows.reader c.next_row.new.self c.rows.run c.args.steps.now c.rows.steps c.in-Ok-false.ensures.inputs far c.in-Ok-false.field-0 false c.in-Ok-false.field-0-test a in
    at_end flat (input_names flat) (source_at g.S.Source c.args.source.now) (source_at g.S.Source c.rows.source) (source_at g.S.Source c.next_row.new.source) c.rows.reader c.next_row.new.self c.rows.run c.args.steps.now c.rows.steps c.in-Ok-false.ensures.inputs far came

pub returns-in-Ok-false-clause-steps : goal.returns-in-Ok-false-clause-steps
returns-in-Ok-false-clause-steps g c =
    let far = c.rows.invariant.far in
    let flat = c.args.run.now.flat in
    let a = c.in-Ok-false.ensures.answer far.taken far.rows far.reads in
    let came = came_as flat (input_names flat) (source_at g.S.Source c.args.source.now) (source_at g.S.Source c.rows.source) (source_at g.S.Source c.next_row.new.source) c.rows.reader c.next_row.new.self c.rows.run c.args.steps.now c.rows.steps c.in-Ok-false.ensures.inputs far c.in-Ok-false.field-0 false c.in-Ok-false.field-0-test a in
    each flat (input_names flat) (source_at g.S.Source c.args.source.now) (source_at g.S.Source c.rows.source) (source_at g.S.Source c.next_row.new.source) c.rows.reader c.next_row.new.self c.rows.run c.args.steps.now c.rows.steps c.in-Ok-false.ensures.inputs far (Ok false) came

pub returns-in-Err-clause-ran : goal.returns-in-Err-clause-ran
returns-in-Err-clause-ran g c =
    let far = c.rows.invariant.far in
    let flat = c.args.run.now.flat in
    let a = c.in-Err.ensures.answer far.taken far.rows far.reads in
    failed flat (input_names flat) (source_at g.S.Source c.args.source.now) (source_at g.S.Source c.rows.source) (source_at g.S.Source c.next_row.new.source) c.rows.reader c.next_row.new.self c.rows.run c.args.steps.now c.rows.steps c.in-Err.ensures.inputs far c.in-Err.fault a

pub returns-in-Err-clause-steps : goal.returns-in-Err-clause-steps
returns-in-Err-clause-steps g c =
    let far = c.rows.invariant.far in
    let flat = c.args.run.now.flat in
    let a = c.in-Err.ensures.answer far.taken far.rows far.reads in
    each flat (input_names flat) (source_at g.S.Source c.args.source.now) (source_at g.S.Source c.rows.source) (source_at g.S.Source c.next_row.new.source) c.rows.reader c.next_row.new.self c.rows.run c.args.steps.now c.rows.steps c.in-Err.ensures.inputs far (Err c.in-Err.fault) a
