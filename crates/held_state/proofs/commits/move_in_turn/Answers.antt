use Rattle.std.proofs.Common.{◌<◌, ◌≤◌, ◌∙◌, length, get_or, arith, rules}
use Rattle.std.proofs.lemmas.List.{length-set, get_or_default}
use Rattle.held_state.specs.declared.commits.Move.{Move}
use Rattle.held_state.proofs.InTurn.{same_still, step_moved}
use Rattle.held_state.proofs.commits.move_in_turn.Goals as goal

abbrev blank : Move
blank = record { from = 0; to = 0 }

pub loop-one-preserved : goal.loop-one-preserved
loop-one-preserved g c =
    let l = c.loop-one in
    let i = l.one-index in
    let ms = c.args.moves.now in
    let less : i < length ms = search rules in
    let m : Move = get_or ms i blank in
    let turn = c.requires.turn in
    let from : turn.0 ≤ m.from = turn.2 i blank less in
    let there : m.from < length c.args.slots.now = c.requires.there.0 i blank less in
    let r = c.index-slots-one.result in
    record {
      count = length-set l.slots m.to r ∙ l.invariant.count;
      same = λ n h k d le. same_still n c.args.slots.now l.slots m.to r (h i blank less) (l.invariant.same n h) k d le;
      all = λ d. step_moved d c.args.slots.now l.slots ms i blank r less
          (c.index-slots-one.is ∙ get_or_default l.slots m.from r d (omega (arith, there, l.invariant.count))
          ∙ l.invariant.same turn.0 turn.1 m.from d from) (l.invariant.all d);
    }
