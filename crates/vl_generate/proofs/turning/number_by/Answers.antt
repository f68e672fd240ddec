use Rattle.std.proofs.Common.{◌∙◌}
use Rattle.std.specs.Option.{option_map}
use Rattle.vl_tree.specs.SyntaxView as view
use Rattle.vl_value.specs.Meaning.{assigned}
use Rattle.vl_design.specs.Constants.{value_of}
use Rattle.vl_constants.specs.Needed.{constants_of}
use Rattle.vl_generate.proofs.NextTurns.{worth_is}
use Rattle.vl_generate.proofs.turning.number_by.Goals as goal

pub returns : goal.returns
returns c =
    let v = value_of (constants_of c.args.frames.now) (view.expr c.args.e.now) in
    record {
      number = c.number_of.ensures (option_map (assigned 32) v) (c.in_ok-taken.ensures.number ∙ worth_is v);
      fault = c.in_ok-taken.ensures.fault;
    }
