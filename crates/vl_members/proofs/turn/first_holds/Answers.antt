use Rattle.std.proofs.Common.{ap}
use Rattle.std.specs.Prelude.{false}
use Rattle.vl_tree.specs.SyntaxView as view
use Rattle.vl_frames.specs.Marks.{around, plain_worth}
use Rattle.vl_members.proofs.Turning.{left_again, holds_is, held_in}
use Rattle.vl_members.proofs.turn.first_holds.Goals as goal

pub returns-in-Some-clause-holds : goal.returns-in-Some-clause-holds
returns-in-Some-clause-holds c =
    holds_is (around c.args.frames.now) (around c.enter_turn.new.frames) (view.loop c.args.header.now) c.in_ok-truth.truth.holds
    (plain_worth c.args.worth) c.in-Some.holds c.in_ok-enter_turn.ensures.sight c.in_ok-truth.ensures.holds (ap held_in c.in-Some.is)

pub returns-in-Some-clause-frames : goal.returns-in-Some-clause-frames
returns-in-Some-clause-frames c =
    left_again c.args.frames.now c.enter_turn.new.frames c.leave.new.self c.in_ok-enter_turn.ensures.outer c.leave.ensures

pub returns-in-None-clause-holds : goal.returns-in-None-clause-holds
returns-in-None-clause-holds c =
    holds_is (around c.args.frames.now) (around c.enter_turn.new.frames) (view.loop c.args.header.now) c.in_ok-truth.truth.holds
    (plain_worth c.args.worth) false c.in_ok-enter_turn.ensures.sight c.in_ok-truth.ensures.holds (ap held_in c.in-None.is)

pub returns-in-None-clause-frames : goal.returns-in-None-clause-frames
returns-in-None-clause-frames c =
    left_again c.args.frames.now c.enter_turn.new.frames c.leave.new.self c.in_ok-enter_turn.ensures.outer c.leave.ensures
