use Rattle.talk.proofs.WordsLaws.{one_job, one_number, bad_is_no_line}
use Rattle.talk.proofs.WithinLaws.{jobs_are_within}
use Rattle.talk.proofs.UsageLaws.{usage_has_number}
use Rattle.talk.proofs.words_law.Goals as goal

pub returns-clause-one_job : goal.returns-clause-one_job
returns-clause-one_job c = one_job

pub returns-clause-within_limits : goal.returns-clause-within_limits
returns-clause-within_limits c = jobs_are_within

pub returns-clause-one_number : goal.returns-clause-one_number
returns-clause-one_number c = one_number

pub returns-clause-no_line : goal.returns-clause-no_line
returns-clause-no_line c = bad_is_no_line

pub returns-clause-has_number : goal.returns-clause-has_number
returns-clause-has_number c = usage_has_number
