use Rattle.std.proofs.Common.{◌≡◌, drop}
use Rattle.std.specs.Option.{option_map}
use Rattle.vl_design.specs.Constants.{nothing_known}
use Rattle.vl_frames.specs.Marks.{known_in, plain_worth}
use Rattle.vl_frames.proofs.frames.worth_in.Given as goal

abbrev pub invariant-loop-frame : goal.invariant-loop-frame
invariant-loop-frame l = known_in (λ x. option_map plain_worth l.worth) (drop l.frame-index l.frames) l.name ≡ known_in nothing_known l.frames l.name
