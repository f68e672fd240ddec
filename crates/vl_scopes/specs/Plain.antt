-- Scopes of the program as those of `vl_design`: each stands in one of a lower number. This project's own.
use Rattle.std.specs.Prelude.{ℕ, List, [], ◌∷◌, ◌++◌, Option, Some, None, option_and_then, option_to_list, slice_get}
use Rattle.std.specs.Option.{option_map}
use Rattle.vl_tree.specs.Syntax as t
use Rattle.vl_tree.specs.SyntaxView as view
use Rattle.vl_value.specs.Paths.{Text, Path, Step, named, turn, unnamed}
use Rattle.vl_design.specs.Generate.{turn_number}
use Rattle.vl_design.specs.Scopes.{Level, Scope, levels, Origin, instance_of, block, body_items}
use Rattle.vl_declares.specs.Plain.{all_plain}
use Rattle.vl_views.specs.Blocks.{block_of}
use Rattle.vl_scopes.specs.declared.scope.Turn as code_turn
use Rattle.vl_scopes.specs.declared.scope.Step as code_step
use Rattle.vl_scopes.specs.declared.scope.Step.TheVariants as s
use Rattle.vl_scopes.specs.declared.scope.Origin as code_origin
use Rattle.vl_scopes.specs.declared.scope.Origin.TheVariants as o
use Rattle.vl_scopes.specs.declared.scope.Scope as code

abbrev pub plain_step : code_step.Step → Step
plain_step (s.Named x) = named (view.name x.now).text
plain_step (s.Turn x n) = turn (view.name x.now).text (turn_number n)
plain_step (s.Unnamed k n) = unnamed k (option_map turn_number n)

abbrev pub plain_turn : code_turn.Turn → Text × ℕ
plain_turn u = ((view.name u.variable.now).text, u.number)

-- the items of what makes a scope
abbrev pub made_of : code_origin.Origin → t.Items
made_of (o.Top m) = (view.module_tree m.now).items
made_of (o.Instance m i) = (view.module_tree m.now).items
made_of (o.Block b) = body_items (block_of b.now)

-- the scope of a number among those before, and the levels from it to its module's
abbrev pub levels_at : List Scope → Option ℕ → List Level
levels_at before k = elim (option_and_then (slice_get before) k) [ Some x ↦ levels x | None ↦ [] ]

abbrev pub path_at : List Scope → Option ℕ → Path
path_at before k = elim (option_and_then (slice_get before) k) [ Some x ↦ x.level.path | None ↦ [] ]

abbrev pub plain_origin : List Scope → Option ℕ → code_origin.Origin → Origin
plain_origin before k (o.Top m) = instance_of (view.module_tree m.now) None
plain_origin before k (o.Instance m i) = instance_of (view.module_tree m.now)
    (Some (record { outer = levels_at before k; binds = (view.instance i.now).binds }))
plain_origin before k (o.Block b) = block

-- a block sees what is around it, an instance nothing
abbrev pub outer_of : List Scope → Option ℕ → code_origin.Origin → List Level
outer_of before k (o.Top m) = []
outer_of before k (o.Instance m i) = []
outer_of before k (o.Block b) = levels_at before k

abbrev pub plain_scope : List Scope → code.Scope → Scope
plain_scope before c = record {
  origin = plain_origin before c.within c.origin;
  level = record {
    path = path_at before c.within ++ option_to_list (option_map plain_step c.step);
    declared = all_plain c.declared.items;
    turn = option_map plain_turn c.turn;
  };
  outer = outer_of before c.within c.origin;
  items = made_of c.origin;
}

-- those behind some that are there already
abbrev pub scopes_after : List Scope → List code.Scope → List Scope
scopes_after before [] = before
scopes_after before (c ∷ cs) = scopes_after (before ++ plain_scope before c ∷ []) cs

abbrev pub plain_scopes : List code.Scope → List Scope
plain_scopes = scopes_after []
