use Rattle.std.proofs.Common.{◌+◌, ◌||◌, drop, sym, ap, ◌∙◌}
use Rattle.std.proofs.lemmas.List.{drop_all}
use Rattle.vl_names.specs.Names.{has}
use Rattle.vl_design.specs.ObjectFaults.{has_direction}
use Rattle.vl_declares.specs.Plain.{all_plain, plain}
use Rattle.vl_repeats.proofs.Repeating.{declared-drop}
use Rattle.vl_connections.proofs.Connecting.{directed_on, or_none}
use Rattle.vl_connections.proofs.directed.directed_names.Goals as goal

pub loop-one-preserved : goal.loop-one-preserved
loop-one-preserved c =
    let all = c.args.declared.now in let k = c.loop-one.one-index in
    let e = declared-drop all k c.one-item.result c.loop-one-test.true c.one-item.is in
    directed_on c.loop-one.names c.add_directed.new.names (plain c.one-item.result) (all_plain (drop (k + 1) all)) (all_plain all) c.in_ok-add_directed.ensures
    (λ x. ap (λ ds. has c.loop-one.names x || has_direction ds x) (sym e) ∙ c.loop-one.invariant x)

pub returns : goal.returns
returns c =
    let e = drop_all c.loop-one.one-index c.args.declared.now c.loop-one-test.false in
    λ x. or_none (has c.loop-one.names x) ∙ ap (λ ds. has c.loop-one.names x || has_direction (all_plain ds) x) (sym e) ∙ c.loop-one.invariant x
