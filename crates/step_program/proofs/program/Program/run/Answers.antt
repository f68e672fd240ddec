use Rattle.std.proofs.Common.{◌≡◌, ◌∙◌, ap, sym, subst, map, length}
use Rattle.std.specs.Vec.{with_items}
use Rattle.std.proofs.lemmas.List.{with_items_is}
use Rattle.step_program.specs.Values.{Slots, after, contents}
use Rattle.step_program.specs.Running.{slots, front, all_steps}
use Rattle.step_program.specs.Plan.{Plan, narrow_front, wide_front, held, given_in, IsReady}
use Rattle.step_program.specs.Inside.{plan_of}
use Rattle.step_program.proofs.Ready.{HasRun, has_run}
use Rattle.step_program.proofs.program.Program.run.Goals as goal

-- what the run of all steps left
ran : (c : goal.After-slots-2-1) → HasRun c.args.self.now (map contents c.args.words.now) (held c.args.slots.now)
    (slots c.run_all.new.narrow c.run_all.new.wide)
ran c =
    let ws = map contents c.args.words.now in
    let p : Plan = plan_of c.self.inside in
    let same : p ≡ c.args.self.now = c.self.view_is in
    let old : Slots = held c.args.slots.now in
    let now : Slots = slots c.run_all.new.narrow c.run_all.new.wide in
    let n = c.first-first.ensures.narrow ∙ ap narrow_front (sym same) in
    let m = c.first-first.ensures.wide ∙ ap wide_front (sym same) in
    subst (λ q. HasRun q ws old now) same
    (has_run p ws old now (subst (λ q. IsReady q old) (sym same) c.requires)
    (c.run_all.ensures ∙ (λ i. after ws (front (n i) (m i) (c.as_mut_slice.ensures.value i) (c.as_mut_slice-2.ensures.value i))
    (all_steps (c.deref.ensures.value i))))
    (c.run_all.auto.narrow ∙ ap length c.as_mut_slice.ensures.value)
    (c.run_all.auto.wide ∙ ap length c.as_mut_slice-2.ensures.value))

-- what the vectors hold then
kept : (c : goal.After-slots-2-1) → slots c.run_all.new.narrow c.run_all.new.wide
    ≡ slots (with_items c.args.slots.now.narrow c.run_all.new.narrow).items (with_items c.args.slots.now.wide c.run_all.new.wide).items
kept c = λ i. slots (sym (with_items_is c.args.slots.now.narrow c.run_all.new.narrow (c.run_all.auto.narrow ∙ c.as_mut_slice.ensures.len)) i)
    (sym (with_items_is c.args.slots.now.wide c.run_all.new.wide (c.run_all.auto.wide ∙ c.as_mut_slice-2.ensures.len)) i)

pub returns-clause-value : goal.returns-clause-value
returns-clause-value c = sym (kept c) ∙ (ran c).value

pub returns-clause-ready : goal.returns-clause-ready
returns-clause-ready c = subst (IsReady c.args.self.now) (kept c) (ran c).ready

pub returns-clause-given : goal.returns-clause-given
returns-clause-given c = ap (given_in c.args.self.now) (sym (kept c)) ∙ (ran c).given
