use Rattle.std.proofs.Common.{refl, map}
use Rattle.vl_tree.specs.SyntaxView as view
use Rattle.vl_parameters.specs.Plain.{plain_given}
use Rattle.vl_opening.proofs.Passing.{passes_plain}
use Rattle.vl_opening.proofs.plain.pass_plain.Goals as goal

pub returns : goal.returns
returns c =
    let w = c.args.walk.now in
    passes_plain (map plain_given c.args.given.now) c.args.in_block (view.item c.args.item.now) c.args.frames.now c.declare_item.new.frames
    c.new-declared.result.items c.declare_item.new.declared.items w (record { progress = c.fail.new.self; scopes = w.scopes })
    (record { progress = c.fail-2.new.self; scopes = w.scopes }) c.misplaced.result c.in_ok-fault.fault c.misplaced.ensures refl c.fail.ensures
    c.in_ok-fault.ensures refl c.fail-2.ensures
