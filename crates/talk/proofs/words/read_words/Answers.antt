use Rattle.talk.specs.Plain.{named}
use Rattle.talk.specs.Named.{job_seen}
use Rattle.talk.specs.Reading.{allowed, bad}
use Rattle.talk.proofs.WordsLaws.{answer_is}
use Rattle.talk.proofs.words.read_words.Goals as goal

pub returns-in-Ok : goal.returns-in-Ok
returns-in-Ok c = answer_is (named c.args.words.now) (allowed (job_seen c.in-Ok.job)) c.in-Ok.ensures.value

pub returns-in-Err : goal.returns-in-Err
returns-in-Err c = answer_is (named c.args.words.now) (bad c.in-Err.before) c.in-Err.ensures.value
