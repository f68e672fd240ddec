use Rattle.std.proofs.Common.{rules}
use Rattle.vl_tree.specs.Token.{all_coded}
use Rattle.vl_tree.specs.Grammar.{binary_mark}
use Rattle.vl_module.specs.Reading.{Any, NoTree}
use Rattle.vl_module.specs.Rules.{operator_at}
use Rattle.vl_module.proofs.ExprRules.{no_operator}
use Rattle.vl_module.proofs.expr.first_binary.Goals as goal

pub returns-in_err-mark-clause-reads : goal.returns-in_err-mark-clause-reads
returns-in_err-mark-clause-reads c =
    let none : NoTree (operator_at binary_mark c.args.depth) Any (all_coded c.args.tokens.now) = no_operator binary_mark c.args.depth (all_coded c.args.tokens.now) c.in_err-mark.ensures.reads in
    search rules
