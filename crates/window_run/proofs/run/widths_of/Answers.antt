use Rattle.std.proofs.Common.{◌≡◌, ◌≤◌, ◌<◌, length, get_or, sym, ap, subst, ◌∙◌, arith, rules}
use Rattle.std.specs.List.{All, sum}
use Rattle.std.proofs.Math.Seq.{take_all}
use Rattle.net_compile.specs.Cycle.{input_widths}
use Rattle.window_run.proofs.RowLaws.{widths_more, input_there, widths_wide, widths_few}
use Rattle.window_run.proofs.run.widths_of.Goals as goal

pub loop-number-preserved : goal.loop-number-preserved
loop-number-preserved c =
    let f = c.args.flat.now in
    let i = c.loop-number.number-index in
    let l : i < length f.inputs = subst (λ ks. i < length ks) c.inputs-number-items.ensures.inputs c.loop-number-test.true in
    let at : get_or c.inputs-number-items.result.now i 0 ≡ get_or f.inputs i 0 =
    ap (λ ks. get_or ks i 0) c.inputs-number-items.ensures.inputs in
    let r = c.index-signals-number.result in
    let s = get_or c.signals-signals.result.now (get_or c.inputs-number-items.result.now i 0) r in
    let here : s ≡ get_or f.signals (get_or f.inputs i 0) r =
    ap (λ ss. get_or ss (get_or c.inputs-number-items.result.now i 0) r) c.signals-signals.ensures.signals
    ∙ ap (λ k. get_or f.signals k r) at in
    let is : s ≡ get_or f.signals (get_or f.inputs i 0) s =
    subst (λ v. s ≡ get_or f.signals (get_or f.inputs i 0) v) c.index-signals-number.is here in
    c.in_ok-push.ensures.items
    ∙ widths_more f.signals f.inputs i 0 s c.loop-number.widths.items l (input_there f c.signals-signals.ensures.fits i 0 l) is
    c.loop-number.invariant

pub returns-clause-wide : goal.returns-clause-wide
returns-clause-wide c =
    let f = c.args.flat.now in
    let l : length f.inputs ≤ c.loop-number.number-index = search rules in
    let all = c.loop-number.invariant ∙ ap (input_widths f.signals) (take_all c.loop-number.number-index f.inputs l) in
    subst (λ ws. All (λ w. w ≤ 128) ws) (sym all) (widths_wide f c.signals-signals.ensures.fits)

pub returns-clause-few : goal.returns-clause-few
returns-clause-few c =
    let f = c.args.flat.now in
    let l : length f.inputs ≤ c.loop-number.number-index = search rules in
    let all = c.loop-number.invariant ∙ ap (input_widths f.signals) (take_all c.loop-number.number-index f.inputs l) in
    let few = widths_few f c.signals-signals.ensures.fits in
    let same : sum c.loop-number.widths.items ≡ sum (input_widths f.signals f.inputs) = ap sum all in
    omega (arith, few, same)
