use Rattle.std.proofs.Common.{arith, ◌≡◌, ◌≤◌, ◌∷◌, [], ◌++◌, ap, sym, subst, refl, ◌∙◌, map, append-nil}
use Rattle.std.proofs.lemmas.Result.{err_from_is_err_and}
use Rattle.vl_tree.specs.declared.token.Mark.TheVariants as m
use Rattle.vl_tree.specs.declared.token.Key.TheVariants as w
use Rattle.vl_tree.specs.Token as k
use Rattle.vl_tree.specs.SyntaxView as view
use Rattle.vl_declaration.proofs.Parts.{first, next, named, found, passed, passes, valued_by, flag, flag_took}
use Rattle.vl_function.proofs.FunctionRules as rule
use Rattle.vl_function.proofs.function.read_head.Goals as goal

pub returns-in_err-returned-clause-reads : goal.returns-in_err-returned-clause-reads
returns-in_err-returned-clause-reads c =
    let p = err_from_is_err_and c.from_residual.result c.from_residual.ensures.1 in
    rw (p.1, p.2) (first (rule.type_part c.args.depth) (rule.head_3 c.args.depth) (rule.head_j2 c.args.depth) (next (flag c.args.depth (k.key w.Signed)) (rule.head_2 c.args.depth) (rule.head_j1 c.args.depth) (next (flag c.args.depth (k.key w.Automatic)) (rule.head_1 c.args.depth) (rule.head_j0 c.args.depth) (rule.head_whole c.args.depth _) _ _ (flag_took c.args.depth (k.key w.Automatic) c.requires.low _ _ _ c.skip_key-automatic.ensures.reads)) _ _ (flag_took c.args.depth (k.key w.Signed) c.requires.low _ _ _ c.skip_key-signed.ensures.reads)) c.in_err-returned.field-0.0 c.in_err-returned.ensures.reads)

pub returns-in_err-name-clause-reads : goal.returns-in_err-name-clause-reads
returns-in_err-name-clause-reads c =
    let p = err_from_is_err_and c.from_residual-in_err-name.result c.from_residual-in_err-name.ensures.1 in
    rw (p.1, p.2) (first (named c.args.depth) (rule.head_4 c.args.depth) (rule.head_j3 c.args.depth) (next (rule.type_part c.args.depth) (rule.head_3 c.args.depth) (rule.head_j2 c.args.depth) (next (flag c.args.depth (k.key w.Signed)) (rule.head_2 c.args.depth) (rule.head_j1 c.args.depth) (next (flag c.args.depth (k.key w.Automatic)) (rule.head_1 c.args.depth) (rule.head_j0 c.args.depth) (rule.head_whole c.args.depth _) _ _ (flag_took c.args.depth (k.key w.Automatic) c.requires.low _ _ _ c.skip_key-automatic.ensures.reads)) _ _ (flag_took c.args.depth (k.key w.Signed) c.requires.low _ _ _ c.skip_key-signed.ensures.reads)) _ _ c.in_ok-returned.ensures.reads) c.in_err-name.field-0.0 c.in_err-name.ensures.reads)

pub returns-in_err-ports-clause-reads : goal.returns-in_err-ports-clause-reads
returns-in_err-ports-clause-reads c =
    let p = err_from_is_err_and c.from_residual-in_err-ports.result c.from_residual-in_err-ports.ensures.1 in
    rw (p.1, p.2) ((next (named c.args.depth) (rule.head_4 c.args.depth) (rule.head_j3 c.args.depth) (next (rule.type_part c.args.depth) (rule.head_3 c.args.depth) (rule.head_j2 c.args.depth) (next (flag c.args.depth (k.key w.Signed)) (rule.head_2 c.args.depth) (rule.head_j1 c.args.depth) (next (flag c.args.depth (k.key w.Automatic)) (rule.head_1 c.args.depth) (rule.head_j0 c.args.depth) (rule.head_whole c.args.depth _) _ _ (flag_took c.args.depth (k.key w.Automatic) c.requires.low _ _ _ c.skip_key-automatic.ensures.reads)) _ _ (flag_took c.args.depth (k.key w.Signed) c.requires.low _ _ _ c.skip_key-signed.ensures.reads)) _ _ c.in_ok-returned.ensures.reads) _ _ c.in_ok-name.ensures.reads).fails c.in_err-ports.field-0.0 c.in_err-ports.ensures.reads)

pub returns-clause-reads : goal.returns-clause-reads
returns-clause-reads c =
    ((next (named c.args.depth) (rule.head_4 c.args.depth) (rule.head_j3 c.args.depth) (next (rule.type_part c.args.depth) (rule.head_3 c.args.depth) (rule.head_j2 c.args.depth) (next (flag c.args.depth (k.key w.Signed)) (rule.head_2 c.args.depth) (rule.head_j1 c.args.depth) (next (flag c.args.depth (k.key w.Automatic)) (rule.head_1 c.args.depth) (rule.head_j0 c.args.depth) (rule.head_whole c.args.depth _) _ _ (flag_took c.args.depth (k.key w.Automatic) c.requires.low _ _ _ c.skip_key-automatic.ensures.reads)) _ _ (flag_took c.args.depth (k.key w.Signed) c.requires.low _ _ _ c.skip_key-signed.ensures.reads)) _ _ c.in_ok-returned.ensures.reads) _ _ c.in_ok-name.ensures.reads).took _ _ c.in_ok-ports.ensures.reads)
