use Rattle.std.proofs.Common.{◌∙◌, ◌++◌, ◌∷◌, [], ap, List}
use Rattle.design_names.specs.declared.walk.Task.{Task}
use Rattle.design_names.specs.declared.walk.Task.TheVariants as task
use Rattle.design_names.proofs.WalkLaws.{left_first, left_more, fewer_left, has_place, fit_last}
use Rattle.design_names.proofs.walk.outline_of.Goals as goal

pub loop-task-init : goal.loop-task-init
loop-task-init c = record {
  linked = record { scopes_are = c.in_ok-scopes.ensures.linked; signals_are = c.in_ok-signals.ensures };
  left = left_first c.args.flat.now c.new-entries.result.items c.push.new.list.items c.link_scopes.ensures.fits
      c.new-entries.ensures.items
      (c.in_ok-push.ensures ∙ ap (λ (xs : List Task). xs ++ task.Scopes 0 ∷ []) c.new-tasks.ensures.items);
}

pub list-requires : goal.list-requires
list-requires c =
    has_place c.args.flat.now c.in_ok-scopes.scopes c.in_ok-signals.signals c.in-Some.task c.loop-task.invariant.linked
    (fit_last c.args.flat.now _ _ c.in-Some.task c.in-Some.ensures.items c.loop-task.invariant.left.fit)

pub loop-task-smaller : goal.loop-task-smaller
loop-task-smaller c =
    fewer_left c.args.flat.now c.in_ok-scopes.scopes c.in_ok-signals.signals _ _ _ c.in-Some.task
    c.link_scopes.ensures.fits c.loop-task.invariant.linked c.in-Some.ensures.items c.in_ok-list.ensures.tasks
    c.loop-task.invariant.left.fit

pub loop-task-preserved : goal.loop-task-preserved
loop-task-preserved c = record {
  linked = c.loop-task.invariant.linked;
  left = left_more c.args.flat.now c.in_ok-scopes.scopes c.in_ok-signals.signals _ _ _ _ _ c.in-Some.task
      c.link_scopes.ensures.fits c.loop-task.invariant.linked c.in-Some.ensures.items c.in_ok-list.ensures.entries
      c.in_ok-list.ensures.tasks c.loop-task.invariant.left;
}
