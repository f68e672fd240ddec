use Rattle.std.proofs.Common.{◌≡◌, ◌++◌, drop}
use Rattle.vl_declares.specs.Locals.{all_locals}
use Rattle.vl_declares.proofs.inputs.push_all.Given as goal

-- what was added, and what is left
abbrev pub invariant-loop-one : goal.invariant-loop-one
invariant-loop-one l = all_locals l.locals.items ++ all_locals (drop l.one-index l.others) ≡ all_locals l.fn.locals.items ++ all_locals l.others
