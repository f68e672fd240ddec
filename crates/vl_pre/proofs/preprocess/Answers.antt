use Rattle.std.proofs.Common.{length}
use Rattle.std.proofs.lemmas.Result.{err_from_is_err_and}
use Rattle.vl_pre.specs.CleanText.{reading_from}
use Rattle.vl_pre.specs.Calls.Reading.{fault_of, context_of}
use Rattle.vl_pre.proofs.ReadingLaws.{whole_reading, all_written, all_ended}
use Rattle.vl_pre.proofs.preprocess.Goals as goal

pub returns-in_err-read_all-clause-fault : goal.returns-in_err-read_all-clause-fault
returns-in_err-read_all-clause-fault c =
    let p = err_from_is_err_and c.from_residual.result c.from_residual.ensures.1 in
    rw (p.1, p.2) (all_ended c.args.text.now c.new-out.result _ (fault_of c.in_err-read_all.field-0.0) c.new-out.ensures
    (whole_reading c.args.text.now c.over-at.result (context_of c.new-context.result) c.over-at.ensures c.new-context.ensures) c.in_err-read_all.ensures)

pub returns-clause-clean : goal.returns-clause-clean
returns-clause-clean c =
    let p = reading_from (length c.over-at.result) (context_of c.new-context.result) c.over-at.result in
    all_written c.args.text.now c.new-out.result c.read_all.new.out p.rest p c.new-out.ensures
    (whole_reading c.args.text.now c.over-at.result (context_of c.new-context.result) c.over-at.ensures c.new-context.ensures) c.in_ok-read_all.ensures
