use Rattle.std.proofs.Common.{rules, ◌≡◌, ◌≤◌, true, false, length, refl, sym, ap, ◌∙◌, arith}
use Rattle.std.proofs.lemmas.Result.{err_from_is_err_and}
use Rattle.vl_pre.specs.Bytes.{bytes}
use Rattle.vl_pre.specs.Directives.{at_gap}
use Rattle.vl_pre.specs.Calls.Reading.{fault_of}
use Rattle.vl_pre.proofs.LineLaws.{gap_ended}
use Rattle.vl_pre.proofs.StepLaws.{one_shorter, gap_skips_more, gap_skips_fault}
use Rattle.vl_pre.proofs.names.skip_gap.Goals as goal

pub loop-at-init : goal.loop-at-init
loop-at-init c = let all : length c.args.at.now ≤ length c.args.at.now = omega arith in (length c.args.at.now, all, refl)

pub returns-in_err-skip_one : goal.returns-in_err-skip_one
returns-in_err-skip_one c =
    let found : c.at_gap.result ≡ true = search rules in
    let gap : at_gap (bytes c.loop-at.at) ≡ true = ap at_gap (sym c.bytes.ensures) ∙ sym c.at_gap.ensures ∙ found in
    let p = err_from_is_err_and c.from_residual.result c.from_residual.ensures.1 in
    rw (p.1, p.2) (gap_skips_fault _ c.loop-at.at (fault_of c.in_err-skip_one.field-0.0) c.loop-at.invariant gap c.in_err-skip_one.ensures)

pub loop-at-preserved : goal.loop-at-preserved
loop-at-preserved c =
    let found : c.at_gap.result ≡ true = search rules in
    let gap : at_gap (bytes c.loop-at.at) ≡ true = ap at_gap (sym c.bytes.ensures) ∙ sym c.at_gap.ensures ∙ found in
    gap_skips_more _ c.loop-at.at c.skip_one.new.at c.loop-at.invariant gap c.in_ok-skip_one.ensures

pub loop-at-smaller : goal.loop-at-smaller
loop-at-smaller c =
    let found : c.at_gap.result ≡ true = search rules in
    let gap : at_gap (bytes c.loop-at.at) ≡ true = ap at_gap (sym c.bytes.ensures) ∙ sym c.at_gap.ensures ∙ found in
    one_shorter c.loop-at.at c.skip_one.new.at gap c.in_ok-skip_one.ensures

pub returns : goal.returns
returns c =
    let none : c.at_gap.result ≡ false = search rules in
    let over : at_gap (bytes c.loop-at.at) ≡ false = ap at_gap (sym c.bytes.ensures) ∙ sym c.at_gap.ensures ∙ none in
    sym c.loop-at.invariant.2 ∙ gap_ended c.loop-at.invariant.0 c.loop-at.at over
