use Rattle.std.proofs.Common.{◌≡◌, ◌<◌, length, map, sym, ap, subst, ◌∙◌, arith}
use Rattle.std.specs.Prelude.{slice_index}
use Rattle.std.specs.List.{All}
use Rattle.std.proofs.lemmas.List.{with_items_is}
use Rattle.std.proofs.lemmas.Result.{err_from_is_err_and}
use Rattle.netlist.specs.Run.{FlatSettles, flat_next}
use Rattle.netlist.proofs.Puts.{some_with}
use Rattle.netlist.proofs.SettlesOnce.{settles_once}
use Rattle.packed_rows.specs.Packed.{Fits}
use Rattle.design_names.specs.Shown.{flat_order}
use Rattle.design_names.proofs.ShownLaws.{order_there}
use Rattle.window_run.specs.Calls.Again.{HasWaved}
use Rattle.window_run.proofs.AgainLaws.{breaks, goes}
use Rattle.window_run.proofs.RanLaws.{at_value}
use Rattle.window_run.proofs.RowLaws.{fits_row}
use Rattle.window_run.proofs.replay.Screen.cycle.Goals as goal

pub settle-requires-clause-fits : goal.settle-requires-clause-fits
settle-requires-clause-fits g c =
    let f = c.args.sim.now.flat in
    let row : c.deref.result.now ≡ c.read.new.row =
    c.deref.ensures.value ∙ with_items_is c.self.inside.row c.read.new.row
    (omega (arith, c.read.auto.row, ap length c.deref_mut.ensures.value, c.self.inside.row.ok.0)) in
    let fit = subst (λ ws. Fits ws c.deref.result.now) c.requires.widths (subst (λ r. Fits c.args.rows.now.widths r) (sym row) c.read.ensures.fit) in
    fits_row f.signals f.inputs c.deref.result.now fit

pub show-requires-clause-there : goal.show-requires-clause-there
show-requires-clause-there g c =
    let same = ap (λ w. w.design) c.self.view_is ∙ c.requires.design ∙ sym c.settle.ensures.flat in
    subst (λ ks. All (λ k. k < length c.settle.new.self.flat.signals) ks) (sym (c.shown.ensures ∙ ap flat_order same))
    (order_there c.settle.new.self.flat)

pub returns-in_err-cycle-clause-goes : goal.returns-in_err-cycle-clause-goes
returns-in_err-cycle-clause-goes g c = λ f order all first n held count st row.
    let s = c.settle.ensures in
    let old = g.K.Sink.held c.args.out.now in
    let before = g.K.Sink.faults c.args.out.now in
    let v = some_with c.settle.new.self.values (FlatSettles c.args.sim.now.flat c.args.sim.now.state c.deref.result.now) s.values in
    let st' = subst (λ w. HasWaved f order all first n held old count before c.args.sim.now w) (sym c.self.view_is) st in
    let row_is = c.deref.ensures.value ∙ with_items_is c.self.inside.row c.read.new.row
    (omega (arith, c.read.auto.row, ap length c.deref_mut.ensures.value, c.self.inside.row.ok.0)) ∙ c.read.ensures.row ∙ row in
    let design = ap (λ w. w.design) c.self.view_is ∙ c.requires.design in
    let shown = at_value c.settle.new.self.values (λ u. c.show.new.values ≡ map (slice_index u.signals) c.shown.result.now) v.0 v.1 c.show.ensures in
    let shown_is = c.deref-2.ensures.value ∙ with_items_is c.self.inside.values c.show.new.values
    (omega (arith, c.show.auto.values, ap length c.deref_mut-2.ensures.value, c.self.inside.values.ok.0)) ∙ shown
    ∙ ap (map (slice_index v.0.signals)) (c.shown.ensures ∙ ap flat_order design) in
    let p = err_from_is_err_and c.from_residual.result c.from_residual.ensures.1 in
    rw (p.1, p.2) (breaks f order all first n held count settles_once c.args.sim.now c.settle.new.self old before c.self.inside.writer
    c.deref.result.now st' row_is s.flat s.cycle s.state v.0 v.2 c.deref-2.result.now shown_is (g.K.Sink.held c.cycle-2.new.out)
    (g.K.Sink.faults c.cycle-2.new.out) c.self.inside.writer.design (design ∙ st.stands.flat) c.cycle.result c.in_err-cycle.field-0.0
    c.cycle.ensures c.in_err-cycle.ensures.text)

pub returns-clause-goes : goal.returns-clause-goes
returns-clause-goes g c = λ f order all first n held count st row.
    let s = c.settle.ensures in
    let a = c.advance.ensures in
    let old = g.K.Sink.held c.args.out.now in
    let before = g.K.Sink.faults c.args.out.now in
    let v = some_with c.settle.new.self.values (FlatSettles c.args.sim.now.flat c.args.sim.now.state c.deref.result.now) s.values in
    let st' = subst (λ w. HasWaved f order all first n held old count before c.args.sim.now w) (sym c.self.view_is) st in
    let row_is = c.deref.ensures.value ∙ with_items_is c.self.inside.row c.read.new.row
    (omega (arith, c.read.auto.row, ap length c.deref_mut.ensures.value, c.self.inside.row.ok.0)) ∙ c.read.ensures.row ∙ row in
    let design = ap (λ w. w.design) c.self.view_is ∙ c.requires.design in
    let shown = at_value c.settle.new.self.values (λ u. c.show.new.values ≡ map (slice_index u.signals) c.shown.result.now) v.0 v.1 c.show.ensures in
    let shown_is = c.deref-2.ensures.value ∙ with_items_is c.self.inside.values c.show.new.values
    (omega (arith, c.show.auto.values, ap length c.deref_mut-2.ensures.value, c.self.inside.values.ok.0)) ∙ shown
    ∙ ap (map (slice_index v.0.signals)) (c.shown.ensures ∙ ap flat_order design) in
    let next = at_value c.settle.new.self.values (λ u. c.advance.new.self.state ≡ flat_next c.settle.new.self.flat c.settle.new.self.state u)
    v.0 v.1 a.state in
    goes f order all first n held count settles_once c.args.sim.now c.settle.new.self old before c.self.inside.writer
    c.deref.result.now st' row_is s.flat s.cycle s.state v.0 v.2 c.deref-2.result.now shown_is (g.K.Sink.held c.cycle-2.new.out)
    (g.K.Sink.faults c.cycle-2.new.out) c.self.inside.writer.design (design ∙ st.stands.flat) c.cycle.result _ c.cycle-2.new.self
    c.advance.new.self c.cycle.ensures c.in_ok-cycle.ensures.text c.in_ok-cycle.ensures.written a.flat a.cycle next
