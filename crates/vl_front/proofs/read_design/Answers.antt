use Rattle.std.proofs.Common.{sym, ap, subst, ◌∙◌}
use Rattle.std.proofs.lemmas.Result.{err_from_is_err_and}
use Rattle.vl_tree.specs.Token.{all_coded}
use Rattle.vl_tree.specs.View.{module_of}
use Rattle.vl_stands.proofs.Stands.{same_stands}
use Rattle.vl_front.specs.Top.{HaveTop, asked, is_asked}
use Rattle.vl_front.proofs.Steps.{refused, not_asked, unsound, accepted}
use Rattle.vl_front.proofs.read_design.Goals as goal

pub returns-in_err-module : goal.returns-in_err-module
returns-in_err-module c =
    let v = c.deref-2.ensures.value in
    let s = subst (λ x. HaveTop (asked c.args.top) (all_coded x)) (c.deref.ensures.value ∙ sym v) c.in_ok-check_source.ensures.source in
    let p = err_from_is_err_and c.from_residual-in_err-module.result c.from_residual-in_err-module.ensures.1 in
    rw (p.1, p.2) (refused c.args.text.now (asked c.args.top) (all_coded c.deref-2.result.now) (rw v c.in_ok-tokens.ensures.tokens) s c.in_err-module.field-0.0 c.in_err-module.ensures.refuses)

pub returns-then-not-is_asked : goal.returns-then-not-is_asked
returns-then-not-is_asked c =
    let v = c.deref-2.ensures.value in
    let s = subst (λ x. HaveTop (asked c.args.top) (all_coded x)) (c.deref.ensures.value ∙ sym v) c.in_ok-check_source.ensures.source in
    not_asked c.args.text.now (asked c.args.top) (all_coded c.deref-2.result.now) (rw v c.in_ok-tokens.ensures.tokens) s (module_of c.in_ok-module.module) c.in_ok-module.ensures.only (ap (is_asked (asked c.args.top)) (sym c.bytes.ensures) ∙ sym c.is_asked.ensures ∙ c.if-not-is_asked.true)

pub returns-then-not-branch : goal.returns-then-not-branch
returns-then-not-branch c =
    let v = c.deref-2.ensures.value in
    let s = subst (λ x. HaveTop (asked c.args.top) (all_coded x)) (c.deref.ensures.value ∙ sym v) c.in_ok-check_source.ensures.source in
    unsound c.args.text.now (asked c.args.top) (all_coded c.deref-2.result.now) (rw v c.in_ok-tokens.ensures.tokens) s (module_of c.in_ok-module.module) c.in_ok-module.ensures.only (sym c.if-not-branch.true ∙ c.in_ok-is_sound.ensures)

pub returns : goal.returns
returns c =
    let v = c.deref-2.ensures.value in
    let s = subst (λ x. HaveTop (asked c.args.top) (all_coded x)) (c.deref.ensures.value ∙ sym v) c.in_ok-check_source.ensures.source in (
      module_of c.in_ok-module.module,
      accepted c.args.text.now (asked c.args.top) (all_coded c.deref-2.result.now) (rw v c.in_ok-tokens.ensures.tokens) s (module_of c.in_ok-module.module) c.in_ok-module.ensures.only c.in_ok-module.ensures.accepts (ap (is_asked (asked c.args.top)) (sym c.bytes.ensures) ∙ sym c.is_asked.ensures ∙ c.if-not-is_asked.false) (sym c.in_ok-is_sound.ensures ∙ c.if-not-branch.false),
      same_stands _ _ (module_of c.in_ok-module.module)
          (record { stands = c.in_ok-plain.ensures.stands; widths = c.in_ok-plain.ensures.inputs }) c.in_ok-convert.ensures,
    )
