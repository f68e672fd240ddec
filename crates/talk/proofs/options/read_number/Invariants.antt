use Rattle.std.proofs.Common.{◌≡◌, ◌≤◌, ◌+◌, ◌*◌, ◌-◌, drop}
use Rattle.std.specs.Prelude.{fold}
use Rattle.talk.specs.Words.{decimal_of}
use Rattle.talk.proofs.options.read_number.Given as goal

-- the digits so far make this number, and those that are left go on from it
abbrev pub invariant-loop-digit : goal.invariant-loop-digit
invariant-loop-digit l = (fold (λ n d. 10 * n + (d - 48)) l.number (drop l.digit-index l.digits) ≡ decimal_of l.digits) × (l.number ≤ l.most)
