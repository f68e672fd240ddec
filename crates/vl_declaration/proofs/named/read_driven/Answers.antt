use Rattle.std.proofs.lemmas.Result.{err_from_is_err_and}
use Rattle.vl_tree.specs.declared.token.Mark.TheVariants as m
use Rattle.vl_tree.specs.Token as k
use Rattle.vl_declaration.proofs.Parts.{first, next, found}
use Rattle.vl_declaration.proofs.NamedRules as rule
use Rattle.vl_read.proofs.TokenRules.{took_kind_at}
use Rattle.vl_declaration.proofs.named.read_driven.Goals as goal

pub returns-in_err-target-clause-reads : goal.returns-in_err-target-clause-reads
returns-in_err-target-clause-reads c =
    let p = err_from_is_err_and c.from_residual.result c.from_residual.ensures.1 in
    rw (p.1, p.2) (first (rule.targeted c.args.depth) (rule.driven_1 c.args.depth) (rule.driven_j0 c.args.depth) (rule.driven_whole c.args.depth _) c.in_err-target.field-0.0 c.in_err-target.ensures.reads)

pub returns-in_err-place-clause-reads : goal.returns-in_err-place-clause-reads
returns-in_err-place-clause-reads c =
    let p = err_from_is_err_and c.from_residual-in_err-place.result c.from_residual-in_err-place.ensures.1 in
    rw (p.1, p.2) (first (found c.args.depth (k.mark m.Equals)) (rule.driven_2 c.args.depth) (rule.driven_j1 c.args.depth) (next (rule.targeted c.args.depth) (rule.driven_1 c.args.depth) (rule.driven_j0 c.args.depth) (rule.driven_whole c.args.depth _) _ _ c.in_ok-target.ensures.reads) c.in_err-place.field-0.0 (c.in_err-place.ensures.reads c.args.depth))

pub returns-in_err-value-clause-reads : goal.returns-in_err-value-clause-reads
returns-in_err-value-clause-reads c =
    let p = err_from_is_err_and c.from_residual-in_err-value.result c.from_residual-in_err-value.ensures.1 in
    rw (p.1, p.2) ((next (found c.args.depth (k.mark m.Equals)) (rule.driven_2 c.args.depth) (rule.driven_j1 c.args.depth) (next (rule.targeted c.args.depth) (rule.driven_1 c.args.depth) (rule.driven_j0 c.args.depth) (rule.driven_whole c.args.depth _) _ _ c.in_ok-target.ensures.reads) _ _ (took_kind_at (k.mark m.Equals) c.args.depth c.in_ok-target.ensures.shallow _ _ _ c.in_ok-place.ensures.reads)).fails c.in_err-value.field-0.0 c.in_err-value.ensures.reads)

pub returns-clause-reads : goal.returns-clause-reads
returns-clause-reads c =
    ((next (found c.args.depth (k.mark m.Equals)) (rule.driven_2 c.args.depth) (rule.driven_j1 c.args.depth) (next (rule.targeted c.args.depth) (rule.driven_1 c.args.depth) (rule.driven_j0 c.args.depth) (rule.driven_whole c.args.depth _) _ _ c.in_ok-target.ensures.reads) _ _ (took_kind_at (k.mark m.Equals) c.args.depth c.in_ok-target.ensures.shallow _ _ _ c.in_ok-place.ensures.reads)).took _ _ c.in_ok-value.ensures.reads)
