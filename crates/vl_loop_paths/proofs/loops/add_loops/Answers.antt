use Rattle.std.proofs.Common.{sym, subst}
use Rattle.std.specs.Prelude.{OnOk}
use Rattle.vl_design.specs.LoopVariables.{paths_in}
use Rattle.vl_loops.specs.Loops.{text_of}
use Rattle.vl_loops.specs.Statements.{texts}
use Rattle.vl_scopes.specs.Plain.{plain_scopes}
use Rattle.vl_loop_paths.specs.Adding.{AddsPaths, sight_of}
use Rattle.vl_loop_paths.proofs.loops.add_loops.Goals as goal

pub returns-in-None : goal.returns-in-None
returns-in-None c =
    let ss = plain_scopes c.args.scopes.now in
    subst (λ ps. OnOk c.add_names.result (AddsPaths c.args.numbers.now ss ps c.args.loops.now c.add_names.new.loops))
    (λ i. paths_in (sight_of ss c.args.from (text_of (sym c.in-None.is i))) (texts (c.as_slice-names.ensures.value i)))
    c.add_names.ensures

pub returns-in-Some : goal.returns-in-Some
returns-in-Some c =
    let ss = plain_scopes c.args.scopes.now in
    subst (λ ps. OnOk c.add_names_inside.result (AddsPaths c.args.numbers.now ss ps c.args.loops.now c.add_names_inside.new.loops))
    (λ i. paths_in (sight_of ss c.args.from (text_of (sym c.in-Some.is i))) (texts (c.as_slice-names.ensures.value i)))
    c.add_names_inside.ensures
