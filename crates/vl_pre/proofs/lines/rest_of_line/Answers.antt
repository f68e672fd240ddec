use Rattle.std.proofs.Common.{rules, ◌≡◌, ◌≤◌, [], true, false, List, ℕ, length, sym, subst, ap, ◌∙◌, arith}
use Rattle.std.proofs.lemmas.Result.{err_from_is_err_and}
use Rattle.vl_pre.specs.Bytes.{bytes}
use Rattle.vl_pre.specs.Pieces.{rest_of_line}
use Rattle.vl_pre.specs.Calls.Reading.{fault_of}
use Rattle.vl_pre.specs.Bytes.{ends_line}
use Rattle.vl_pre.proofs.LineLaws.{rest_ended, some_left}
use Rattle.vl_pre.proofs.StepLaws.{ReadsLine, in_line_shorter, line_reads_more, line_reads_fault}
use Rattle.vl_pre.proofs.WriteLaws.{collects_here, collects_done}
use Rattle.vl_pre.proofs.lines.rest_of_line.Goals as goal

pub loop-body-init : goal.loop-body-init
loop-body-init c =
    let all : length c.args.at.now ≤ length c.args.at.now = omega arith in
    let P : List ℕ → Type 0 = λ x. ReadsLine (rest_of_line (length c.args.at.now) c.args.continues c.args.at.now) x c.args.continues c.args.at.now in
    subst P (sym c.new-body.ensures.items) (length c.args.at.now, all, collects_here [] _)

pub returns-in_err-read_next : goal.returns-in_err-read_next
returns-in_err-read_next c =
    let on : c.ends_line.result ≡ false = search rules in
    let goes_on : ends_line (bytes c.loop-body.at) ≡ false = ap ends_line (sym c.bytes.ensures) ∙ sym c.ends_line.ensures ∙ on in
    let p = err_from_is_err_and c.from_residual.result c.from_residual.ensures.1 in
    rw (p.1, p.2) (line_reads_fault _ c.loop-body.body.items c.args.continues c.loop-body.at (fault_of c.in_err-read_next.field-0.0) c.loop-body.invariant goes_on c.in_err-read_next.ensures)

pub loop-body-preserved : goal.loop-body-preserved
loop-body-preserved c =
    let on : c.ends_line.result ≡ false = search rules in
    let goes_on : ends_line (bytes c.loop-body.at) ≡ false = ap ends_line (sym c.bytes.ensures) ∙ sym c.ends_line.ensures ∙ on in
    line_reads_more _ c.loop-body.body.items c.read_next.new.body.items c.args.continues c.loop-body.at c.read_next.new.at c.loop-body.invariant goes_on c.in_ok-read_next.ensures

pub loop-body-smaller : goal.loop-body-smaller
loop-body-smaller c =
    let on : c.ends_line.result ≡ false = search rules in
    let goes_on : ends_line (bytes c.loop-body.at) ≡ false = ap ends_line (sym c.bytes.ensures) ∙ sym c.ends_line.ensures ∙ on in
    let kept = c.in_ok-read_next.ensures in
    let i = in_line_shorter c.args.continues c.loop-body.at (some_left c.loop-body.at goes_on) kept.sound in
    let j = ap length kept.left in omega (arith, i, j)

pub returns : goal.returns
returns c =
    let over : c.ends_line.result ≡ true = search rules in
    let stops : ends_line (bytes c.loop-body.at) ≡ true = ap ends_line (sym c.bytes.ensures) ∙ sym c.ends_line.ensures ∙ over in
    let reads = c.loop-body.invariant in
    let kept = collects_done reads.2 (rest_ended reads.0 c.args.continues c.loop-body.at stops) in
    record { sound = kept.sound; all = c.of_bytes.ensures ∙ kept.all; left = kept.left }
