use Rattle.std.proofs.Common.{ap, ◌∙◌}
use Rattle.vl_frames.specs.Marks.{plain_worth}
use Rattle.vl_frames.specs.Changes.{declared}
use Rattle.vl_turns.proofs.enter_turn.Goals as goal

pub returns : goal.returns
returns c = record {
  sight = c.in_ok-declare.ensures.sight ∙ ap (declared c.args.variable.now.text (plain_worth c.args.worth)) c.in_ok-enter.ensures.sight;
  outer = c.in_ok-declare.ensures.outer ∙ c.in_ok-enter.ensures.outer;
}
