-- Jobs and numbers of bad words as the code hands them on. This project's own.
use Rattle.std.specs.Prelude.{ℕ}
use Rattle.talk.specs.declared.job.Job.{Job}
use Rattle.talk.specs.declared.job.Job.TheVariants as j
use Rattle.talk.specs.declared.job.Usage.{Usage}
use Rattle.talk.specs.declared.job.Usage.TheVariants as u
use Rattle.talk.specs.Plain.{named, plain}
use Rattle.talk.specs.Words as spec

-- the job that a value of the code is
abbrev pub job_seen : Job → spec.Job
job_seen (j.Sim lag top files) = spec.sim lag (plain top) (named files.now)

-- the number of the bad word
abbrev pub number_in : Usage → ℕ
number_in (u.Word number) = number
