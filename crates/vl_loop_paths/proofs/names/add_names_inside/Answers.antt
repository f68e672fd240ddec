use Rattle.std.proofs.Common.{subst}
use Rattle.std.proofs.lemmas.List.{take_all}
use Rattle.vl_design.specs.LoopVariables.{paths_in}
use Rattle.vl_loops.specs.Statements.{texts}
use Rattle.vl_scopes.specs.Plain.{plain_scopes}
use Rattle.vl_sight.specs.Seen.{sight_inside}
use Rattle.vl_loop_paths.specs.Adding.{AddsPaths}
use Rattle.vl_loop_paths.proofs.Added.{name_added}
use Rattle.vl_loop_paths.proofs.names.add_names_inside.Goals as goal

pub loop-name-preserved : goal.loop-name-preserved
loop-name-preserved c =
    let ss = plain_scopes c.args.scopes.now in let f = c.args.function.now in
    name_added c.args.numbers.now ss (sight_inside ss c.args.from f) c.args.names.now c.loop-name.name-index c.name-item.result _
    c.args.loops.now c.loop-name.loops c.add_owned.new.loops c.loop-name-test.true c.name-item.is (c.object_inside-owner.ensures f c.in_ok-body.ensures)
    c.loop-name.invariant (c.in_ok-add_owned.ensures ss)

pub returns : goal.returns
returns c =
    let ss = plain_scopes c.args.scopes.now in
    subst (λ xs. AddsPaths c.args.numbers.now ss (paths_in (sight_inside ss c.args.from c.args.function.now) (texts xs)) c.args.loops.now c.loop-name.loops)
    (take_all c.loop-name.name-index c.args.names.now c.loop-name-test.false) c.loop-name.invariant
