use Rattle.std.proofs.Common.{◌≡◌, map, drop}
use Rattle.vl_parameters.specs.Plain.{plain_given, given_in}
use Rattle.vl_parameters.proofs.worth.given_to.Given as goal

-- the first of the name is among those that are left
abbrev pub invariant-loop-one : goal.invariant-loop-one
invariant-loop-one l = given_in (map plain_given (drop l.one-index l.given)) l.name ≡ given_in (map plain_given l.given) l.name
