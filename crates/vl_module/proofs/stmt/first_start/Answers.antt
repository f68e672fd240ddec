use Rattle.std.proofs.Common.{refl}
use Rattle.vl_tree.specs.Token.{coded_kind}
use Rattle.vl_module.proofs.Pieces.{first_is}
use Rattle.vl_module.proofs.StmtRules.{begins}
use Rattle.vl_module.proofs.stmt.first_start.Goals as goal

pub returns-in-Some : goal.returns-in-Some
returns-in-Some c =
    begins c.args.depth c.in-Some.first.now.line (coded_kind c.in-Some.first.now.kind) _ _
    (first_is c.args.tokens.now c.in-Some.field-0-1.now c.in-Some.first.now (coded_kind c.in-Some.first.now.kind) c.in-Some.ensures.first refl) c.start_of.result c.start_of.ensures
