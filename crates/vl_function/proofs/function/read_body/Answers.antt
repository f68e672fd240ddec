use Rattle.std.proofs.Common.{arith, ◌≡◌, ◌≤◌, ◌∷◌, [], ◌++◌, ap, sym, subst, refl, ◌∙◌, map, append-nil}
use Rattle.std.proofs.lemmas.Result.{err_from_is_err_and}
use Rattle.vl_tree.specs.declared.token.Mark.TheVariants as m
use Rattle.vl_tree.specs.declared.token.Key.TheVariants as w
use Rattle.vl_tree.specs.Token as k
use Rattle.vl_tree.specs.SyntaxView as view
use Rattle.vl_declaration.proofs.Parts.{first, next, whole, named, found, passed, passes, valued_by, flag, flag_took}
use Rattle.vl_function.proofs.FunctionRules as rule
use Rattle.vl_read.proofs.CommaRules as list
use Rattle.vl_function.proofs.function.read_body.Goals as goal

pub loop-rest-init : goal.loop-rest-init
loop-rest-init c =
    let e : c.new-all.result ≡ [] = c.new-all.ensures in
    record {
      took = λ x rest p. rw e p;
      fails = λ e r. r;
      shorter = omega arith;
    }

pub returns-in_err-declaration-clause-reads : goal.returns-in_err-declaration-clause-reads
returns-in_err-declaration-clause-reads c =
    let p = err_from_is_err_and c.from_residual.result c.from_residual.ensures.1 in
    rw (p.1, p.2) (c.loop-rest.invariant.fails c.in_err-declaration.field-0.0 (first (rule.declaration_part c.args.depth) (rule.body_part c.args.depth) (rule.body_join c.args.depth) (rule.declared_next c.args.depth c.loop-rest.rest c.if-is_declaration.ensures) c.in_err-declaration.field-0.0 c.in_err-declaration.ensures.reads))

pub loop-rest-preserved : goal.loop-rest-preserved
loop-rest-preserved c =
    let k = next (rule.declaration_part c.args.depth) (rule.body_part c.args.depth) (rule.body_join c.args.depth) (rule.declared_next c.args.depth c.loop-rest.rest c.if-is_declaration.ensures) _ _ c.in_ok-declaration.ensures.reads in
    let e : c.push.new.self ≡ c.loop-rest.all ++ c.in_ok-declaration.declaration ∷ [] = c.in_ok-push.ensures.ok in
    record {
      took = λ x rest p. rw (e, list.map_more) (c.loop-rest.invariant.took (view.function_declaration c.in_ok-declaration.declaration ∷ x.0, x.1) rest (k.took x rest p));
      fails = λ e r. c.loop-rest.invariant.fails e (k.fails e r);
      shorter = omega (arith, c.in_ok-declaration.ensures.shorter, c.loop-rest.invariant.shorter);
    }

pub returns-in_err-statement-clause-reads : goal.returns-in_err-statement-clause-reads
returns-in_err-statement-clause-reads c =
    let p = err_from_is_err_and c.from_residual-in_err-statement.result c.from_residual-in_err-statement.ensures.1 in
    rw (p.1, p.2) (c.loop-rest.invariant.fails c.in_err-statement.field-0.0 ((rule.stated c.args.depth c.loop-rest.rest c.if-is_declaration.ensures).fails c.in_err-statement.field-0.0 c.in_err-statement.ensures.reads))

pub returns-else-is_declaration-clause-reads : goal.returns-else-is_declaration-clause-reads
returns-else-is_declaration-clause-reads c =
    rw (← append-nil (map view.function_declaration c.loop-rest.all))
    (c.loop-rest.invariant.took ([], view.stmt c.in_ok-statement.statement) _ ((rule.stated c.args.depth c.loop-rest.rest c.if-is_declaration.ensures).took _ _ c.in_ok-statement.ensures.reads))
