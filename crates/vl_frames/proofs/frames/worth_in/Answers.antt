use Rattle.std.proofs.Common.{◌∙◌, sym, ap}
use Rattle.std.proofs.lemmas.List.{drop_all}
use Rattle.std.specs.Option.{option_map}
use Rattle.vl_frames.specs.Marks.{known_in, plain_worth}
use Rattle.vl_frames.proofs.Looked.{known_on}
use Rattle.vl_frames.proofs.frames.worth_in.Goals as goal

pub loop-frame-preserved : goal.loop-frame-preserved
loop-frame-preserved c =
    known_on c.args.frames.now c.loop-frame.frame-index c.frame-item.result c.loop-frame-test.true c.frame-item.is c.args.name.now
    (option_map plain_worth c.loop-frame.worth) (option_map plain_worth c.worth-worth.result) _ c.worth-worth.ensures c.loop-frame.invariant

pub returns : goal.returns
returns c =
    ap (λ fs. known_in (λ x. option_map plain_worth c.loop-frame.worth) fs c.args.name.now) (sym (drop_all c.loop-frame.frame-index c.args.frames.now c.loop-frame-test.false))
    ∙ c.loop-frame.invariant
