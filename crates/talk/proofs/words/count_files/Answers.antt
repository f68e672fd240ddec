use Rattle.std.proofs.Common.{sym, ◌∙◌, drop}
use Rattle.talk.specs.Plain.{named}
use Rattle.talk.proofs.FileLaws.{files_full}
use Rattle.talk.proofs.words.count_files.Goals as goal

pub returns-then-place-ge-MAX_FILES-clause-value : goal.returns-then-place-ge-MAX_FILES-clause-value
returns-then-place-ge-MAX_FILES-clause-value c =
    sym (files_full c.loop-place.place (named (drop c.loop-place.place c.args.words.now)) c.if-place-ge-MAX_FILES.true) ∙ c.loop-place.invariant.same
