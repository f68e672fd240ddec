use Rattle.std.proofs.Common.{◌≡◌, ◌++◌, replicate}
use Rattle.message_text.proofs.decimal.append_spaces.Given as goal

-- so many spaces were appended
abbrev pub invariant-loop : goal.invariant-loop
invariant-loop l = l.out.items ≡ l.fn.out.items ++ replicate l.counter 32
