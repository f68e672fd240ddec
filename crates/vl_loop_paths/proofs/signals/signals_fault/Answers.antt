use Rattle.std.proofs.Common.{[], map, filter, append-nil, sym, ap, subst, ◌∙◌}
use Rattle.std.proofs.lemmas.List.{drop_all}
use Rattle.dt_core.specs.declared.limits.TheConstants.{MAX_SIGNALS}
use Rattle.vl_tree.specs.declared.fault.FaultKind.TheVariants.{TooManySignals}
use Rattle.vl_value.specs.Order.{least}
use Rattle.vl_design.specs.Lists.{each_of}
use Rattle.vl_design.specs.LoopVariables.{signals_of}
use Rattle.vl_design.specs.Objects.{counted_behind, objects_of}
use Rattle.vl_design.specs.ObjectFaults.{beyond, told}
use Rattle.vl_declares.specs.Plain.{all_plain}
use Rattle.vl_limits.specs.Counting.{Adds}
use Rattle.vl_objects.specs.Plain.{plain_object}
use Rattle.vl_scopes.specs.Plain.{plain_scope, plain_scopes, scopes_after}
use Rattle.vl_loop_paths.specs.Signals.{is_signal}
use Rattle.vl_loop_paths.proofs.Passed.{no_front, next_front, front_at}
use Rattle.vl_loop_paths.proofs.Counted.{ones, more_counted, own_signals}
use Rattle.vl_loop_paths.proofs.signals.signals_fault.Goals as goal

pub loop-k-init : goal.loop-k-init
loop-k-init c = (no_front c.args.scopes.now, λ ps held. c.new-limit.ensures)

pub loop-k-preserved : goal.loop-k-preserved
loop-k-preserved c =
    let h = c.loop-k.invariant in let all = c.args.scopes.now in let k = c.loop-k.k in let one = c.index-scopes-k.result in
    let below = c.loop-k-test.true in let s = plain_scope h.0.before one in (
      next_front all k one below c.index-scopes-k.is h.0,
      λ ps held. more_counted c.loop-k.limit c.add_objects.new.limit MAX_SIGNALS ps h.0.before s (map plain_object c.in_ok-own.own.items)
          (c.in_ok-own.ensures
          ∙ (λ i. filter (is_signal c.args.loops.now (c.number.ensures i))
          (let ds = counted_behind [] (all_plain ((c.as_slice.ensures.value ∙ ap (λ x. x.declared.items) (sym c.index-scopes-k.is)) i)) in objects_of ds ds))
          ∙ own_signals c.args.numbers.now c.args.loops.now (plain_scopes all) ps k s (front_at all k one below c.index-scopes-k.is h.0) held)
          (subst (λ os. Adds (ones (map plain_object os)) c.loop-k.limit c.add_objects.new.limit) c.as_slice-in-loop-k.ensures.value c.add_objects.ensures)
          (h.1 ps held),
    )

pub returns : goal.returns
returns c = λ ps held.
    let h = c.loop-k.invariant in let all = c.args.scopes.now in
    let whole = ap (scopes_after h.0.before) (sym (drop_all c.loop-k.k all c.loop-k-test.false)) ∙ h.0.rest in
    c.fault.ensures
    ∙ ap (λ p. least (told p TooManySignals))
    (h.1 ps held [] ∙ ap (beyond MAX_SIGNALS 0) (append-nil (ones (each_of (signals_of ps) h.0.before)))
    ∙ ap (λ ss. beyond MAX_SIGNALS 0 (ones (each_of (signals_of ps) ss))) whole)
