use Rattle.std.proofs.Common.{[], ◌∷◌, ◌++◌, append-nil, append_assoc, refl, sym, ap, ◌∙◌}
use Rattle.std.proofs.lemmas.List.{drop_all}
use Rattle.dt_core.specs.declared.limits.TheConstants.{MAX_WORDS}
use Rattle.vl_tree.specs.declared.fault.FaultKind.TheVariants.{TooManyWords}
use Rattle.vl_value.specs.Order.{least}
use Rattle.vl_design.specs.Lists.{each_of}
use Rattle.vl_design.specs.Objects.{counted_behind}
use Rattle.vl_design.specs.ObjectFaults.{beyond, words_of, told, memory_words}
use Rattle.vl_declares.specs.Plain.{all_plain}
use Rattle.vl_scopes.specs.Plain.{plain_scope, scopes_after}
use Rattle.vl_scope_faults.proofs.Scopes.{scopes-drop, each_more}
use Rattle.vl_scope_faults.proofs.words_fault.Goals as goal

pub loop-scope-init : goal.loop-scope-init
loop-scope-init c = ([], refl, λ cs. c.new-limit.ensures cs)

pub loop-scope-preserved : goal.loop-scope-preserved
loop-scope-preserved c =
    let h = c.loop-scope.invariant in let s = c.scope-item.result in let one = plain_scope h.0 s in (
      h.0 ++ one ∷ [],
      sym (scopes-drop h.0 c.args.scopes.now c.loop-scope.scope-index s c.loop-scope-test.true c.scope-item.is) ∙ h.1,
      λ cs. c.in_ok-add_words.ensures cs
          ∙ ap (λ ds. Rattle.vl_limits.specs.Counting.further c.loop-scope.limit (each_of memory_words (counted_behind [] (all_plain ds)) ++ cs)) c.as_slice.ensures.value
          ∙ h.2 (words_of one ++ cs)
          ∙ ap (beyond MAX_WORDS 0) (sym (append_assoc (each_of words_of h.0) (words_of one) cs) ∙ ap (λ y. y ++ cs) (sym (each_more words_of h.0 one))),
    )

pub returns : goal.returns
returns c =
    let h = c.loop-scope.invariant in
    c.fault.ensures ∙ ap (λ p. least (told p TooManyWords))
    (h.2 [] ∙ ap (beyond MAX_WORDS 0) (append-nil (each_of words_of h.0)
    ∙ ap (each_of words_of) (ap (scopes_after h.0) (sym (drop_all c.loop-scope.scope-index c.args.scopes.now c.loop-scope-test.false)) ∙ h.1)))
