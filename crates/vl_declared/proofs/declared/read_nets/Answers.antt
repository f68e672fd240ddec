use Rattle.std.proofs.lemmas.Result.{err_from_is_err_and}
use Rattle.vl_tree.specs.declared.token.Key.TheVariants as w
use Rattle.vl_tree.specs.declared.token.Mark.TheVariants as m
use Rattle.vl_tree.specs.Token as k
use Rattle.vl_declaration.proofs.Parts.{passes}
use Rattle.vl_declared.proofs.DeclaredRules as rule
use Rattle.vl_declared.proofs.Views as view
use Rattle.vl_declared.proofs.declared.read_nets.Goals as goal

pub returns-in_err-place-clause-reads : goal.returns-in_err-place-clause-reads
returns-in_err-place-clause-reads c =
    let d = c.args.depth in
    let l0 = rule.nets_whole d _ c.requires.first in
    let p = err_from_is_err_and c.from_residual.result c.from_residual.ensures.1 in
    rw (p.1, p.2)
    (rule.word_fails (rule.typed rule.nets_rule rule.nets_first d) d w.Wire l0 c.in_err-place.field-0.0 c.in_err-place.ensures.reads)

pub returns-in_err-shape-clause-reads : goal.returns-in_err-shape-clause-reads
returns-in_err-shape-clause-reads c =
    let d = c.args.depth in
    let l0 = rule.nets_whole d _ c.requires.first in
    let l1 = rule.word_next (rule.typed rule.nets_rule rule.nets_first d) d w.Wire l0 _ _ c.in_ok-place.ensures.reads in
    let p = err_from_is_err_and c.from_residual-in_err-shape.result c.from_residual-in_err-shape.ensures.1 in
    rw (p.1, p.2)
    (rule.shape_fails rule.nets_rule rule.nets_first d l1 c.in_err-shape.field-0.0 c.in_err-shape.ensures.reads)

pub returns-in_err-names-clause-reads : goal.returns-in_err-names-clause-reads
returns-in_err-names-clause-reads c =
    let d = c.args.depth in
    let l0 = rule.nets_whole d _ c.requires.first in
    let l1 = rule.word_next (rule.typed rule.nets_rule rule.nets_first d) d w.Wire l0 _ _ c.in_ok-place.ensures.reads in
    let l2 = rule.shape_next rule.nets_rule rule.nets_first d l1 _ _ c.in_ok-shape.ensures.reads in
    let p = err_from_is_err_and c.from_residual-in_err-names.result c.from_residual-in_err-names.ensures.1 in
    rw (p.1, p.2)
    (rule.list_fails rule.nets_rule d l2 c.in_err-names.field-0.0 c.in_err-names.ensures.reads)

pub returns-in_err-rest-clause-reads : goal.returns-in_err-rest-clause-reads
returns-in_err-rest-clause-reads c =
    let d = c.args.depth in
    let l0 = rule.nets_whole d _ c.requires.first in
    let l1 = rule.word_next (rule.typed rule.nets_rule rule.nets_first d) d w.Wire l0 _ _ c.in_ok-place.ensures.reads in
    let l2 = rule.shape_next rule.nets_rule rule.nets_first d l1 _ _ c.in_ok-shape.ensures.reads in
    let l3 = rule.list_next rule.nets_rule d l2 _ _ c.in_ok-names.ensures.reads in
    let p = err_from_is_err_and c.from_residual-in_err-rest.result c.from_residual-in_err-rest.ensures.1 in
    rw (p.1, p.2) (l3.fails c.in_err-rest.field-0.0 (c.in_err-rest.ensures.reads d))

pub returns-clause-reads : goal.returns-clause-reads
returns-clause-reads c =
    let d = c.args.depth in
    let l0 = rule.nets_whole d _ c.requires.first in
    let l1 = rule.word_next (rule.typed rule.nets_rule rule.nets_first d) d w.Wire l0 _ _ c.in_ok-place.ensures.reads in
    let l2 = rule.shape_next rule.nets_rule rule.nets_first d l1 _ _ c.in_ok-shape.ensures.reads in
    let l3 = rule.list_next rule.nets_rule d l2 _ _ c.in_ok-names.ensures.reads in
    rw (view.item-nets c.in_ok-place.place c.in_ok-shape.shape.signed c.in_ok-shape.shape.range c.in_ok-names.names)
    (l3.took _ _ (passes d (k.mark m.Semicolon) c.in_ok-place.ensures.shallow _ _ c.in_ok-rest.ensures.reads))
