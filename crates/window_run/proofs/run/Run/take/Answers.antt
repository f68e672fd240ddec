use Rattle.std.proofs.Common.{◌≡◌, ◌++◌, ◌∷◌, [], length, refl, sym, ap, subst, ◌∙◌, rules}
use Rattle.std.specs.Prelude.{None}
use Rattle.netlist.proofs.SettlesOnce.{settles_once}
use Rattle.net_compile.specs.Cycle.{RowFits}
use Rattle.packed_rows.specs.Kept.{last_ones}
use Rattle.packed_rows.specs.Packed.{Fits}
use Rattle.window_run.specs.Ran.{RanTo}
use Rattle.window_run.specs.Calls.Inside.{progress_of}
use Rattle.window_run.proofs.RanLaws.{ran_on, quiet, ran_one, none_found}
use Rattle.window_run.proofs.RowLaws.{row_fits}
use Rattle.window_run.proofs.run.Run.take.Goals as goal

pub returns-then-is_some-clause-ran : goal.returns-then-is_some-clause-ran
returns-then-is_some-clause-ran g c = λ flat order rows r.
    ran_on flat order rows c.args.row.now (progress_of c.self.inside) _ (search rules) refl
    (subst (RanTo flat order rows) (sym c.self.view_is) r)

pub returns-in-Some-clause-ran : goal.returns-in-Some-clause-ran
returns-in-Some-clause-ran g c = λ flat order rows r.
    let p = progress_of c.self.inside in
    let before = subst (RanTo flat order rows) (sym c.self.view_is) r in
    let none : p.failure ≡ None = none_found p.failure (search rules) in
    ran_one flat order rows c.args.row.now settles_once p (quiet flat order rows c.args.row.now p none before) refl _ (record {
      flat = c.step.ensures.flat;
      lag = refl;
      cycles = refl;
      rows_are = c.push.ensures.rows ∙ ap (λ n. last_ones n (p.kept.rows ++ c.args.row.now ∷ [])) c.self.invariant.rows;
    }) c.self.invariant.notes _ (sym c.in-Some.is) c.in_ok-failure.ensures.takes

pub returns-in-None-clause-ran : goal.returns-in-None-clause-ran
returns-in-None-clause-ran g c = λ flat order rows r.
    let p = progress_of c.self.inside in
    let before = subst (RanTo flat order rows) (sym c.self.view_is) r in
    let none : p.failure ≡ None = none_found p.failure (search rules) in
    ran_one flat order rows c.args.row.now settles_once p (quiet flat order rows c.args.row.now p none before) refl _ (record {
      flat = c.step.ensures.flat;
      lag = refl;
      cycles = refl;
      rows_are = c.push.ensures.rows ∙ ap (λ n. last_ones n (p.kept.rows ++ c.args.row.now ∷ [])) c.self.invariant.rows;
    }) c.self.invariant.notes _ (none ∙ sym c.in-None.is) c.in_ok-failure.ensures.takes

pub push-requires : goal.push-requires
push-requires g c =
    let f = c.self.inside.sim.flat in
    let count = subst (λ v. length c.args.row.now ≡ length v.flat.inputs) (sym c.self.view_is) c.requires.count in
    let fits = subst (λ v. RowFits v.flat c.args.row.now) (sym c.self.view_is) c.requires.fits in
    record {
      fit = subst (λ ws. Fits ws c.args.row.now) (sym c.self.invariant.widths) (row_fits f.signals f.inputs c.args.row.now count fits);
    }
