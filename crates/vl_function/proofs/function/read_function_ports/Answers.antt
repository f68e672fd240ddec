use Rattle.std.proofs.Common.{arith, ◌≡◌, ◌≤◌, ◌∷◌, [], ◌++◌, ap, sym, subst, refl, ◌∙◌, map, append-nil}
use Rattle.std.proofs.lemmas.Result.{err_from_is_err_and}
use Rattle.vl_tree.specs.declared.token.Mark.TheVariants as m
use Rattle.vl_tree.specs.declared.token.Key.TheVariants as w
use Rattle.vl_tree.specs.Token as k
use Rattle.vl_tree.specs.SyntaxView as view
use Rattle.vl_declaration.proofs.Parts.{first, next, named, found, passed, passes, valued_by, flag, flag_took}
use Rattle.vl_function.proofs.FunctionRules as rule
use Rattle.vl_function.proofs.function.read_function_ports.Goals as goal

pub returns-in-None-clause-reads : goal.returns-in-None-clause-reads
returns-in-None-clause-reads c =
    rw c.new.ensures (rule.ports_none c.args.depth _ c.in-None.ensures.reads)

pub returns-in_err-all-in-Some-clause-reads : goal.returns-in_err-all-in-Some-clause-reads
returns-in_err-all-in-Some-clause-reads c =
    let p = err_from_is_err_and c.from_residual.result c.from_residual.ensures.1 in
    rw (p.1, p.2) (first (rule.input_list c.args.depth) (rule.ports_1 c.args.depth) (rule.ports_j0 c.args.depth) (rule.open_part c.args.depth _ c.requires.low _ _ c.in-Some.ensures.reads) c.in_err-all-in-Some.field-0.0 c.in_err-all-in-Some.ensures.reads)

pub returns-in_err-rest-in-Some-clause-reads : goal.returns-in_err-rest-in-Some-clause-reads
returns-in_err-rest-in-Some-clause-reads c =
    let p = err_from_is_err_and c.from_residual-in_err-rest-in-Some.result c.from_residual-in_err-rest-in-Some.ensures.1 in
    rw (p.1, p.2) ((next (rule.input_list c.args.depth) (rule.ports_1 c.args.depth) (rule.ports_j0 c.args.depth) (rule.open_part c.args.depth _ c.requires.low _ _ c.in-Some.ensures.reads) _ _ c.in_ok-all-in-Some.ensures.reads).fails c.in_err-rest-in-Some.field-0.0 (c.in_err-rest-in-Some.ensures.reads (c.args.depth)))

pub returns-in_ok-rest-in-Some-clause-reads : goal.returns-in_ok-rest-in-Some-clause-reads
returns-in_ok-rest-in-Some-clause-reads c =
    ((next (rule.input_list c.args.depth) (rule.ports_1 c.args.depth) (rule.ports_j0 c.args.depth) (rule.open_part c.args.depth _ c.requires.low _ _ c.in-Some.ensures.reads) _ _ c.in_ok-all-in-Some.ensures.reads).took _ _ (passes (c.args.depth) (k.mark m.CloseParen) (c.requires.low) _ _ c.in_ok-rest-in-Some.ensures.reads))
