use Rattle.std.proofs.Common.{arith, ◌≡◌, ◌≤◌, ◌∷◌, [], ◌++◌, ap, sym, subst, refl, ◌∙◌, map, append-nil}
use Rattle.std.proofs.lemmas.Result.{err_from_is_err_and}
use Rattle.vl_tree.specs.declared.token.Mark.TheVariants as m
use Rattle.vl_tree.specs.declared.token.Key.TheVariants as w
use Rattle.vl_tree.specs.Token as k
use Rattle.vl_tree.specs.SyntaxView as view
use Rattle.vl_declaration.proofs.Parts.{first, next, named, found, passed, passes, valued_by, flag, flag_took}
use Rattle.vl_function.proofs.FunctionRules as rule
use Rattle.vl_read.proofs.Pieces.{took_nothing}
use Rattle.vl_read.specs.Reading.{Any}
use Rattle.std.specs.Option.{option_map}
use Rattle.vl_tree.specs.Modules.{function_type_at}
use Rattle.vl_tree.specs.Depth.{function_type_depths}
use Rattle.vl_read.specs.Reading.{Took}
use Rattle.vl_function.specs.Readers.{NoFunctionType}
use Rattle.vl_function.proofs.function.read_function_type.Goals as goal

pub returns-in-Some-clause-reads : goal.returns-in-Some-clause-reads
returns-in-Some-clause-reads c =
    (rule.integer_part c.args.depth c.requires.low _ _ _ c.in-Some.ensures.reads).took tt _ (took_nothing Any Any _)

pub returns-in_err-range-in-None-clause-reads : goal.returns-in_err-range-in-None-clause-reads
returns-in_err-range-in-None-clause-reads c =
    let p = err_from_is_err_and c.from_residual.result c.from_residual.ensures.1 in
    rw (p.1, p.2) ((rule.range_part c.args.depth _ c.in-None.ensures.reads).fails c.in_err-range-in-None.field-0.0 c.in_err-range-in-None.ensures.reads)

pub returns-in-Some-range-clause-reads : goal.returns-in-Some-range-clause-reads
returns-in-Some-range-clause-reads c =
    let t = (rule.range_part c.args.depth _ c.in-None.ensures.reads).took _ _ c.in_ok-range-in-None.ensures.reads in
    subst (λ r. Took function_type_at (function_type_depths c.args.depth) NoFunctionType NoFunctionType (rule.type_of c.args.depth (option_map view.range r)) c.args.at c.in_ok-range-in-None.rest) c.in-Some-range.is t

pub returns-in-None-range-clause-reads : goal.returns-in-None-range-clause-reads
returns-in-None-range-clause-reads c =
    let t = (rule.range_part c.args.depth _ c.in-None.ensures.reads).took _ _ c.in_ok-range-in-None.ensures.reads in
    subst (λ r. Took function_type_at (function_type_depths c.args.depth) NoFunctionType NoFunctionType (rule.type_of c.args.depth (option_map view.range r)) c.args.at c.in_ok-range-in-None.rest) c.in-None-range.is t
