use Rattle.std.proofs.Common.{◌≡◌, ◌==◌, drop}
use Rattle.std.specs.List.{list_any}
use Rattle.talk.proofs.words.has_equals.Given as goal

abbrev pub invariant-loop-byte : goal.invariant-loop-byte
invariant-loop-byte l = list_any (λ b. b == 61) (drop l.byte-index l.bytes) ≡ list_any (λ b. b == 61) l.bytes
