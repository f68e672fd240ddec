use Rattle.std.proofs.Common.{◌≡◌, drop}
use Rattle.std.specs.List.{list_all}
use Rattle.talk.specs.Words.{is_in_name}
use Rattle.talk.proofs.options.are_in_name.Given as goal

abbrev pub invariant-loop-byte : goal.invariant-loop-byte
invariant-loop-byte l = list_all is_in_name (drop l.byte-index l.bytes) ≡ list_all is_in_name l.bytes
