use Rattle.std.proofs.Common.{subst}
use Rattle.std.proofs.lemmas.Result.{err_from_is_err_and}
use Rattle.vl_tree.specs.declared.token.Mark.TheVariants as m
use Rattle.vl_tree.specs.Token as k
use Rattle.vl_tree.specs.SyntaxView as plain
use Rattle.vl_tree.specs.Modules.{parameter_word}
use Rattle.vl_declaration.proofs.Parts.{Takes, Fails, found, passes}
use Rattle.vl_declared.proofs.DeclaredRules as rule
use Rattle.vl_declared.proofs.Views as view
use Rattle.vl_declared.proofs.declared.read_parameters.Goals as goal

pub returns-in_err-place-clause-reads : goal.returns-in_err-place-clause-reads
returns-in_err-place-clause-reads c =
    let d = c.args.depth in
    let l0 = rule.parameters_whole d c.args.local _ c.requires.first in
    let e = c.word_of_parameter-word.ensures in
    let r =
    subst (λ b. Fails (found d (k.key b)) c.args.at c.in_err-place.field-0.0) e c.in_err-place.ensures.reads in
    let p = err_from_is_err_and c.from_residual.result c.from_residual.ensures.1 in
    rw (p.1, p.2)
    (rule.word_fails (rule.typed rule.valued_rule rule.valued_first d) d (parameter_word c.args.local) l0 c.in_err-place.field-0.0 r)

pub returns-in_err-shape-clause-reads : goal.returns-in_err-shape-clause-reads
returns-in_err-shape-clause-reads c =
    let d = c.args.depth in
    let l0 = rule.parameters_whole d c.args.local _ c.requires.first in
    let e = c.word_of_parameter-word.ensures in
    let t =
    subst (λ b. Takes (found d (k.key b)) (plain.place c.in_ok-place.place) c.args.at c.in_ok-place.inner)
    e c.in_ok-place.ensures.reads in
    let l1 = rule.word_next (rule.typed rule.valued_rule rule.valued_first d) d (parameter_word c.args.local) l0 _ _ t in
    let p = err_from_is_err_and c.from_residual-in_err-shape.result c.from_residual-in_err-shape.ensures.1 in
    rw (p.1, p.2)
    (rule.shape_fails rule.valued_rule rule.valued_first d l1 c.in_err-shape.field-0.0 c.in_err-shape.ensures.reads)

pub returns-in_err-names-clause-reads : goal.returns-in_err-names-clause-reads
returns-in_err-names-clause-reads c =
    let d = c.args.depth in
    let l0 = rule.parameters_whole d c.args.local _ c.requires.first in
    let e = c.word_of_parameter-word.ensures in
    let t =
    subst (λ b. Takes (found d (k.key b)) (plain.place c.in_ok-place.place) c.args.at c.in_ok-place.inner)
    e c.in_ok-place.ensures.reads in
    let l1 = rule.word_next (rule.typed rule.valued_rule rule.valued_first d) d (parameter_word c.args.local) l0 _ _ t in
    let l2 = rule.shape_next rule.valued_rule rule.valued_first d l1 _ _ c.in_ok-shape.ensures.reads in
    let p = err_from_is_err_and c.from_residual-in_err-names.result c.from_residual-in_err-names.ensures.1 in
    rw (p.1, p.2)
    (rule.list_fails rule.valued_rule d l2 c.in_err-names.field-0.0 c.in_err-names.ensures.reads)

pub returns-in_err-rest-clause-reads : goal.returns-in_err-rest-clause-reads
returns-in_err-rest-clause-reads c =
    let d = c.args.depth in
    let l0 = rule.parameters_whole d c.args.local _ c.requires.first in
    let e = c.word_of_parameter-word.ensures in
    let t =
    subst (λ b. Takes (found d (k.key b)) (plain.place c.in_ok-place.place) c.args.at c.in_ok-place.inner)
    e c.in_ok-place.ensures.reads in
    let l1 = rule.word_next (rule.typed rule.valued_rule rule.valued_first d) d (parameter_word c.args.local) l0 _ _ t in
    let l2 = rule.shape_next rule.valued_rule rule.valued_first d l1 _ _ c.in_ok-shape.ensures.reads in
    let l3 = rule.list_next rule.valued_rule d l2 _ _ c.in_ok-names.ensures.reads in
    let p = err_from_is_err_and c.from_residual-in_err-rest.result c.from_residual-in_err-rest.ensures.1 in
    rw (p.1, p.2) (l3.fails c.in_err-rest.field-0.0 (c.in_err-rest.ensures.reads d))

pub returns-clause-reads : goal.returns-clause-reads
returns-clause-reads c =
    let d = c.args.depth in
    let l0 = rule.parameters_whole d c.args.local _ c.requires.first in
    let e = c.word_of_parameter-word.ensures in
    let t =
    subst (λ b. Takes (found d (k.key b)) (plain.place c.in_ok-place.place) c.args.at c.in_ok-place.inner)
    e c.in_ok-place.ensures.reads in
    let l1 = rule.word_next (rule.typed rule.valued_rule rule.valued_first d) d (parameter_word c.args.local) l0 _ _ t in
    let l2 = rule.shape_next rule.valued_rule rule.valued_first d l1 _ _ c.in_ok-shape.ensures.reads in
    let l3 = rule.list_next rule.valued_rule d l2 _ _ c.in_ok-names.ensures.reads in
    rw (view.item-parameter c.in_ok-place.place c.args.local c.in_ok-shape.shape.signed c.in_ok-shape.shape.range c.in_ok-names.names)
    (l3.took _ _ (passes d (k.mark m.Semicolon) c.in_ok-place.ensures.shallow _ _ c.in_ok-rest.ensures.reads))
