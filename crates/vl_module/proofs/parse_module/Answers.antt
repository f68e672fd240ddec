use Rattle.std.proofs.Common.{◌≡◌, ◌∙◌, [], length, sym, subst, rules, eqb-true}
use Rattle.std.proofs.lemmas.List.{nil_from_length}
use Rattle.vl_tree.specs.Token.{all_coded}
use Rattle.vl_tree.specs.View.{module_of}
use Rattle.vl_tree.specs.Grammar.{module_at}
use Rattle.vl_module.proofs.ModuleRules.{refused, none_left}
use Rattle.vl_module.proofs.parse_module.Goals as goal

pub returns-in_err-module-clause-refuses : goal.returns-in_err-module-clause-refuses
returns-in_err-module-clause-refuses c = refused _ c.in_err-module.field-0.0 c.in_err-module.ensures.reads c.from_residual.result c.from_residual.ensures.1

pub returns-then-is_empty-clause-accepts : goal.returns-then-is_empty-clause-accepts
returns-then-is_empty-clause-accepts c =
    let e : c.in_ok-module.rest.now ≡ [] = nil_from_length c.in_ok-module.rest.now (eqb-true (length c.in_ok-module.rest.now) 0 (sym c.is_empty.ensures ∙ c.if-is_empty.true)) in
    subst (λ z. module_at (module_of c.in_ok-module.module) (all_coded c.args.tokens.now) (all_coded z)) e c.in_ok-module.ensures.reads.here

pub returns-then-is_empty-clause-only : goal.returns-then-is_empty-clause-only
returns-then-is_empty-clause-only c = λ n d. (c.in_ok-module.ensures.reads.only n [] d tt).0

pub returns-else-is_empty-clause-refuses : goal.returns-else-is_empty-clause-refuses
returns-else-is_empty-clause-refuses c = λ n d.
    let e : c.in_ok-module.rest.now ≡ [] = none_left c.in_ok-module.rest.now (c.in_ok-module.ensures.reads.only n [] d tt).1 in
    search rules
