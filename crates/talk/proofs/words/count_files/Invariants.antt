use Rattle.std.proofs.Common.{◌≡◌, ◌≤◌, drop}
use Rattle.dt_core.specs.declared.limits.TheConstants.{MAX_FILES}
use Rattle.talk.specs.Plain.{named}
use Rattle.talk.specs.Reading.{files_from}
use Rattle.talk.proofs.words.count_files.Given as goal

-- the words from here on have as many files after those before as all have
abbrev pub invariant-loop-place : goal.invariant-loop-place
invariant-loop-place l = record {
  same : files_from l.place (named (drop l.place l.words)) ≡ files_from 0 (named l.words);
  few : l.place ≤ MAX_FILES;
}
