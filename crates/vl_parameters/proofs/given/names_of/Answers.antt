use Rattle.std.proofs.Common.{◌+◌, drop, sym, ap, ◌∙◌, ◌||◌}
use Rattle.vl_names.specs.Names.{has}
use Rattle.vl_design.specs.Lists.{stands_in}
use Rattle.vl_parameters.specs.Open.{texts_of}
use Rattle.vl_parameters.proofs.Giving.{text-drop, names_on}
use Rattle.vl_parameters.proofs.given.names_of.Goals as goal

pub loop-name-preserved : goal.loop-name-preserved
loop-name-preserved c =
    let all = c.args.all.now in let k = c.loop-name.name-index in let one = c.name-item.result in
    let e = text-drop all k one c.loop-name-test.true c.name-item.is in
    names_on c.loop-name.names c.add.new.self one.now (texts_of (drop (k + 1) all)) (texts_of all) c.in_ok-add.ensures
    (λ x. ap (λ xs. has c.loop-name.names x || stands_in xs x) (sym e) ∙ c.loop-name.invariant x)
