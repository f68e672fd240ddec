use Rattle.std.proofs.Common.{arith}
use Rattle.std.proofs.lemmas.Result.{err_from_is_err_and}
use Rattle.vl_tree.specs.declared.token.Mark.TheVariants as m
use Rattle.vl_tree.specs.Token as k
use Rattle.vl_tree.specs.SyntaxView as plain
use Rattle.vl_read.proofs.TokenRules.{took_kind, took_name}
use Rattle.vl_simple.proofs.Steps.{fails_at, after_part}
use Rattle.vl_source.proofs.ModuleRules as rule
use Rattle.vl_source.proofs.Views as view
use Rattle.vl_source.proofs.module.read_module.Goals as goal

pub returns-in_err-name-clause-reads : goal.returns-in_err-name-clause-reads
returns-in_err-name-clause-reads c =
    let p = err_from_is_err_and c.from_residual.result c.from_residual.ensures.1 in
    rw (p.1, p.2) (fails_at rule.name_next (rule.module_parts (plain.place c.args.place) c.args.at) c.in_err-name.field-0.0
    (c.in_err-name.ensures.reads 0))

pub returns-in_err-parameters-clause-reads : goal.returns-in_err-parameters-clause-reads
returns-in_err-parameters-clause-reads c =
    let p = err_from_is_err_and c.from_residual-in_err-parameters.result c.from_residual-in_err-parameters.ensures.1 in
    let l1 =
    after_part rule.name_next (rule.module_parts (plain.place c.args.place) c.args.at) _ _
    (took_name 0 (omega arith) (plain.name c.in_ok-name.name) c.args.at _ c.in_ok-name.ensures.reads) in
    rw (p.1, p.2) (fails_at rule.parameters_next l1 c.in_err-parameters.field-0.0 c.in_err-parameters.ensures.reads)

pub returns-in_err-ports-clause-reads : goal.returns-in_err-ports-clause-reads
returns-in_err-ports-clause-reads c =
    let p = err_from_is_err_and c.from_residual-in_err-ports.result c.from_residual-in_err-ports.ensures.1 in
    let l1 =
    after_part rule.name_next (rule.module_parts (plain.place c.args.place) c.args.at) _ _
    (took_name 0 (omega arith) (plain.name c.in_ok-name.name) c.args.at _ c.in_ok-name.ensures.reads) in
    let l2 = after_part rule.parameters_next l1 _ _ c.in_ok-parameters.ensures.reads in
    rw (p.1, p.2) (fails_at rule.ports_next l2 c.in_err-ports.field-0.0 c.in_err-ports.ensures.reads)

pub returns-in_err-rest-clause-reads : goal.returns-in_err-rest-clause-reads
returns-in_err-rest-clause-reads c =
    let p = err_from_is_err_and c.from_residual-in_err-rest.result c.from_residual-in_err-rest.ensures.1 in
    let l1 =
    after_part rule.name_next (rule.module_parts (plain.place c.args.place) c.args.at) _ _
    (took_name 0 (omega arith) (plain.name c.in_ok-name.name) c.args.at _ c.in_ok-name.ensures.reads) in
    let l2 = after_part rule.parameters_next l1 _ _ c.in_ok-parameters.ensures.reads in
    let l3 = after_part rule.ports_next l2 _ _ c.in_ok-ports.ensures.reads in
    rw (p.1, p.2) (fails_at rule.semicolon_next l3 c.in_err-rest.field-0.0 (c.in_err-rest.ensures.reads 0))

pub returns-in_err-items-clause-reads : goal.returns-in_err-items-clause-reads
returns-in_err-items-clause-reads c =
    let p = err_from_is_err_and c.from_residual-in_err-items.result c.from_residual-in_err-items.ensures.1 in
    let l1 =
    after_part rule.name_next (rule.module_parts (plain.place c.args.place) c.args.at) _ _
    (took_name 0 (omega arith) (plain.name c.in_ok-name.name) c.args.at _ c.in_ok-name.ensures.reads) in
    let l2 = after_part rule.parameters_next l1 _ _ c.in_ok-parameters.ensures.reads in
    let l3 = after_part rule.ports_next l2 _ _ c.in_ok-ports.ensures.reads in
    let l4 = after_part rule.semicolon_next l3 _ _ (took_kind (k.mark m.Semicolon) 0 (omega arith) _ _ _ c.in_ok-rest.ensures.reads.1) in
    rw (p.1, p.2) (l4.fails c.in_err-items.field-0.0 c.in_err-items.ensures.reads)

pub returns-clause-reads : goal.returns-clause-reads
returns-clause-reads c =
    let l1 =
    after_part rule.name_next (rule.module_parts (plain.place c.args.place) c.args.at) _ _
    (took_name 0 (omega arith) (plain.name c.in_ok-name.name) c.args.at _ c.in_ok-name.ensures.reads) in
    let l2 = after_part rule.parameters_next l1 _ _ c.in_ok-parameters.ensures.reads in
    let l3 = after_part rule.ports_next l2 _ _ c.in_ok-ports.ensures.reads in
    let l4 = after_part rule.semicolon_next l3 _ _ (took_kind (k.mark m.Semicolon) 0 (omega arith) _ _ _ c.in_ok-rest.ensures.reads.1) in
    rw (view.items-map c.in_ok-items.items) (l4.took _ _ c.in_ok-items.ensures.reads)
