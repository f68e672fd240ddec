use Rattle.std.proofs.Common.{◌≡◌, Some}
use Rattle.vl_design.specs.Objects.{sight}
use Rattle.vl_scopes.specs.Plain.{plain_scopes, levels_at}
use Rattle.vl_sight.proofs.Looking.{steps_left}
use Rattle.vl_sight.proofs.sights.Sights.find.Given as goal

-- the scopes that were passed have nothing under the name
abbrev pub invariant-loop-next : goal.invariant-loop-next
invariant-loop-next l = let ss = plain_scopes l.scopes in sight (levels_at ss l.next) l.name ≡ sight (levels_at ss (Some l.from)) l.name

abbrev pub decreases-loop-next : goal.decreases-loop-next
decreases-loop-next l = steps_left l.next
