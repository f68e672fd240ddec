use Rattle.std.proofs.lemmas.Result.{err_from_is_err_and}
use Rattle.vl_tree.specs.declared.token.Mark.TheVariants as m
use Rattle.vl_tree.specs.Token as k
use Rattle.vl_declaration.proofs.Parts.{first, next, named, passes}
use Rattle.vl_header.specs.Readers.{NoHash}
use Rattle.vl_header.proofs.BindRules.{parameter_binds}
use Rattle.vl_item.proofs.ItemRules as rule
use Rattle.vl_item.proofs.Views as views
use Rattle.vl_item.proofs.item.read_instances.Goals as goal

pub returns-in_err-module-clause-reads : goal.returns-in_err-module-clause-reads
returns-in_err-module-clause-reads c =
    let d = c.args.depth in
    let p = err_from_is_err_and c.from_residual.result c.from_residual.ensures.1 in
    rw (p.1, p.2)
    (first (named d) (rule.instances_1 d) (rule.instances_j0 d)
    (rule.instances_whole d _) c.in_err-module.field-0.0 c.in_err-module.ensures.reads)

pub returns-in_err-values-clause-reads : goal.returns-in_err-values-clause-reads
returns-in_err-values-clause-reads c =
    let d = c.args.depth in
    let l1 = next (named d) (rule.instances_1 d) (rule.instances_j0 d) (rule.instances_whole d c.args.at)
    _ _ c.in_ok-module.ensures.reads in
    let p = err_from_is_err_and c.from_residual-in_err-values.result c.from_residual-in_err-values.ensures.1 in
    rw (p.1, p.2)
    (first (parameter_binds d NoHash) (rule.instances_2 d) (rule.instances_j1 d) l1 c.in_err-values.field-0.0 c.in_err-values.ensures.reads)

pub returns-in_err-instances-clause-reads : goal.returns-in_err-instances-clause-reads
returns-in_err-instances-clause-reads c =
    let d = c.args.depth in
    let l1 = next (named d) (rule.instances_1 d) (rule.instances_j0 d) (rule.instances_whole d c.args.at)
    _ _ c.in_ok-module.ensures.reads in
    let l2 = next (parameter_binds d NoHash) (rule.instances_2 d) (rule.instances_j1 d) l1 _ _ c.in_ok-values.ensures.reads in
    let p = err_from_is_err_and c.from_residual-in_err-instances.result c.from_residual-in_err-instances.ensures.1 in
    rw (p.1, p.2)
    (first (rule.instance_list d) (rule.instances_3 d)
    (rule.instances_j2 d) l2 c.in_err-instances.field-0.0 c.in_err-instances.ensures.reads)

pub returns-in_err-rest-clause-reads : goal.returns-in_err-rest-clause-reads
returns-in_err-rest-clause-reads c =
    let d = c.args.depth in
    let l1 = next (named d) (rule.instances_1 d) (rule.instances_j0 d) (rule.instances_whole d c.args.at)
    _ _ c.in_ok-module.ensures.reads in
    let l2 = next (parameter_binds d NoHash) (rule.instances_2 d) (rule.instances_j1 d) l1 _ _ c.in_ok-values.ensures.reads in
    let l3 = next (rule.instance_list d) (rule.instances_3 d) (rule.instances_j2 d) l2 _ _ c.in_ok-instances.ensures.reads in
    let p = err_from_is_err_and c.from_residual-in_err-rest.result c.from_residual-in_err-rest.ensures.1 in
    rw (p.1, p.2) (l3.fails c.in_err-rest.field-0.0 (c.in_err-rest.ensures.reads d))

pub returns-clause-reads : goal.returns-clause-reads
returns-clause-reads c =
    let d = c.args.depth in
    let l1 = next (named d) (rule.instances_1 d) (rule.instances_j0 d) (rule.instances_whole d c.args.at)
    _ _ c.in_ok-module.ensures.reads in
    let l2 = next (parameter_binds d NoHash) (rule.instances_2 d) (rule.instances_j1 d) l1 _ _ c.in_ok-values.ensures.reads in
    let l3 = next (rule.instance_list d) (rule.instances_3 d) (rule.instances_j2 d) l2 _ _ c.in_ok-instances.ensures.reads in
    rw (views.item-instances c.in_ok-module.module c.in_ok-values.values c.in_ok-instances.instances)
    (l3.took _ _ (passes d (k.mark m.Semicolon) c.in_ok-module.ensures.shallow _ _ c.in_ok-rest.ensures.reads))
