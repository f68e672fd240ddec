use Rattle.std.proofs.Common.{◌∙◌}
use Rattle.held_state.proofs.Taken.{all_moved}
use Rattle.held_state.proofs.commits.read.Goals as goal

pub returns : goal.returns
returns g c =
    all_moved c.args.slots.now c.args.moves.now c.loop-k.room c.loop-k.k c.loop-k-test.false
    (c.loop-k.invariant.count ∙ c.requires.room) c.loop-k.invariant.moved
