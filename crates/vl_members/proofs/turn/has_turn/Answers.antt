use Rattle.std.proofs.Common.{sym, ap, ◌∙◌}
use Rattle.std.specs.Option.{option_map}
use Rattle.vl_tree.specs.SyntaxView as view
use Rattle.vl_frames.specs.Marks.{around, plain_worth}
use Rattle.vl_members.proofs.Turning.{number_some, number_none}
use Rattle.vl_members.proofs.turn.has_turn.Goals as goal

pub returns-in_ok-holds-in-Some-clause-turn : goal.returns-in_ok-holds-in-Some-clause-turn
returns-in_ok-holds-in-Some-clause-turn c =
    c.in_ok-holds-in-Some.ensures.holds
    ∙ number_some (around c.args.frames.now) (view.loop c.args.header.now) (plain_worth c.in-Some.worth)
    (ap (option_map plain_worth) (sym c.in-Some.is) ∙ c.in_ok-number.ensures.number)

pub returns-in-None-clause-turn : goal.returns-in-None-clause-turn
returns-in-None-clause-turn c =
    number_none (around c.args.frames.now) (view.loop c.args.header.now)
    (ap (option_map plain_worth) (sym c.in-None.is) ∙ c.in_ok-number.ensures.number)
