use Rattle.std.proofs.Common.{subst}
use Rattle.std.proofs.lemmas.Result.{err_from_is_err_and}
use Rattle.vl_tree.specs.SyntaxView as view
use Rattle.vl_declaration.proofs.Parts.{first, next, named}
use Rattle.vl_declaration.proofs.NamedRules as rule
use Rattle.std.specs.Option.{option_map}
use Rattle.vl_tree.specs.Modules.{variable_at}
use Rattle.vl_tree.specs.Depth.{variable_depths}
use Rattle.vl_read.specs.Reading.{Took}
use Rattle.vl_declaration.specs.Readers.{NoValue}
use Rattle.vl_read.proofs.Leads.{leads_on}
use Rattle.vl_declaration.proofs.named.read_variable.Goals as goal

pub returns-in_err-name-clause-reads : goal.returns-in_err-name-clause-reads
returns-in_err-name-clause-reads c =
    let p = err_from_is_err_and c.from_residual.result c.from_residual.ensures.1 in
    rw (p.1, p.2) (first (named c.args.depth) (rule.variable_1 c.args.depth) (rule.variable_j0 c.args.depth) (rule.variable_whole c.args.depth _) c.in_err-name.field-0.0 c.in_err-name.ensures.reads)

pub returns-in_err-value-in-Some-clause-reads : goal.returns-in_err-value-in-Some-clause-reads
returns-in_err-value-in-Some-clause-reads c =
    let p = err_from_is_err_and c.from_residual-in_err-value-in-Some.result c.from_residual-in_err-value-in-Some.ensures.1 in
    rw (p.1, p.2) ((leads_on (rule.tail_value c.args.depth c.in_ok-name.ensures.shallow _ _ _ c.in-Some.ensures.reads) (next (named c.args.depth) (rule.variable_1 c.args.depth) (rule.variable_j0 c.args.depth) (rule.variable_whole c.args.depth _) _ _ c.in_ok-name.ensures.reads)).fails c.in_err-value-in-Some.field-0.0 c.in_err-value-in-Some.ensures.reads)

pub returns-in_ok-value-in-Some-clause-reads : goal.returns-in_ok-value-in-Some-clause-reads
returns-in_ok-value-in-Some-clause-reads c =
    (leads_on (rule.tail_value c.args.depth c.in_ok-name.ensures.shallow _ _ _ c.in-Some.ensures.reads) (next (named c.args.depth) (rule.variable_1 c.args.depth) (rule.variable_j0 c.args.depth) (rule.variable_whole c.args.depth _) _ _ c.in_ok-name.ensures.reads)).took _ _ c.in_ok-value-in-Some.ensures.reads

pub returns-in_err-range-in-None-clause-reads : goal.returns-in_err-range-in-None-clause-reads
returns-in_err-range-in-None-clause-reads c =
    let p = err_from_is_err_and c.from_residual-in_err-range-in-None.result c.from_residual-in_err-range-in-None.ensures.1 in
    rw (p.1, p.2) ((leads_on (rule.tail_range c.args.depth _ c.in-None.ensures.reads) (next (named c.args.depth) (rule.variable_1 c.args.depth) (rule.variable_j0 c.args.depth) (rule.variable_whole c.args.depth _) _ _ c.in_ok-name.ensures.reads)).fails c.in_err-range-in-None.field-0.0 c.in_err-range-in-None.ensures.reads)

pub returns-in-Some-range-clause-reads : goal.returns-in-Some-range-clause-reads
returns-in-Some-range-clause-reads c =
    let t = (leads_on (rule.tail_range c.args.depth _ c.in-None.ensures.reads) (next (named c.args.depth) (rule.variable_1 c.args.depth) (rule.variable_j0 c.args.depth) (rule.variable_whole c.args.depth _) _ _ c.in_ok-name.ensures.reads)).took _ _ c.in_ok-range-in-None.ensures.reads in
    subst (λ r. Took variable_at (variable_depths c.args.depth) NoValue NoValue (rule.variable_of (view.name c.in_ok-name.name) (rule.by_range (option_map view.range r))) c.args.at c.in_ok-range-in-None.after) c.in-Some-range.is t

pub returns-in-None-range-clause-reads : goal.returns-in-None-range-clause-reads
returns-in-None-range-clause-reads c =
    let t = (leads_on (rule.tail_range c.args.depth _ c.in-None.ensures.reads) (next (named c.args.depth) (rule.variable_1 c.args.depth) (rule.variable_j0 c.args.depth) (rule.variable_whole c.args.depth _) _ _ c.in_ok-name.ensures.reads)).took _ _ c.in_ok-range-in-None.ensures.reads in
    subst (λ r. Took variable_at (variable_depths c.args.depth) NoValue NoValue (rule.variable_of (view.name c.in_ok-name.name) (rule.by_range (option_map view.range r))) c.args.at c.in_ok-range-in-None.after) c.in-None-range.is t
