use Rattle.std.proofs.Common.{◌≡◌, drop}
use Rattle.talk.specs.Plain.{named}
use Rattle.talk.specs.Reading.{seen, none_set, count_set, options_from}
use Rattle.talk.proofs.words.read_options.Given as goal

-- from here on the words read as all of them do from the start, and as many options are set as words were read
abbrev pub invariant-loop-place : goal.invariant-loop-place
invariant-loop-place l = record {
  same : options_from l.command (seen l.settings) l.place (named (drop l.place l.words)) ≡ options_from l.command none_set 0 (named l.words);
  count : l.place ≡ count_set (seen l.settings);
}
