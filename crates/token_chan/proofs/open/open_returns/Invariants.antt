use Rattle.std.proofs.Common.{◌≡◌, ◌++◌, length}
use Rattle.std.specs.Vec.Iter.{into_iter_items, into_iter_len}
use Rattle.crossbeam_queue.specs.Passes.{view, IsPassOf}
use Rattle.token_chan.specs.ReturnRule.{IsFilled}
use Rattle.token_chan.proofs.open.open_returns.Given as goal

abbrev pub invariant-loop-blank : goal.invariant-loop-blank
invariant-loop-blank g l = IsPassOf l.returns l.pass × IsFilled g.C.ChannelName.name l.yielded (view l.pass)
    × (l.yielded ++ into_iter_items l.blank-iterator ≡ into_iter_items l.initial.blank-iterator)
    × (into_iter_len l.blank-iterator ≡ length (into_iter_items l.blank-iterator))
