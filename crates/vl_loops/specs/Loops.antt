-- The loops of the processes and functions of a scope. This project's own.
use Rattle.std.specs.Prelude.{◌≡◌, List, [], ◌∷◌, ◌++◌, map, Option, Some, None}
use Rattle.std.specs.Borrow.{Bor}
use Rattle.std.specs.Option.{option_map}
use Rattle.vl_tree.specs.Syntax.{Item, Items, always, initial, function, region, no_item, more_item}
use Rattle.vl_tree.specs.SyntaxView as view
use Rattle.vl_tree.specs.declared.expression.Name.{Name}
use Rattle.vl_value.specs.Paths.{Text, Path}
use Rattle.vl_value.specs.Constant.{Sight}
use Rattle.vl_design.specs.Declarations.{routine}
use Rattle.vl_design.specs.Scopes.{Scope, levels}
use Rattle.vl_design.specs.Objects.{counted, sight, body_sight, first_named}
use Rattle.vl_design.specs.LoopVariables.{loop_names, paths_in, is_routine}
use Rattle.vl_loops.specs.declared.item.Loops as code
use Rattle.vl_loops.specs.Statements.{texts}

-- the names of the loops of one body, and of the function whose body it is
pub record Loops : Type 0 where
  pub inside : Option Text
  pub names : List Text

abbrev pub loops_with : Option Text → List Text → Loops
loops_with f xs = record { inside = f; names = xs }

abbrev pub text_of : Option (Bor Name) → Option Text
text_of = option_map (λ n. (view.name n.now).text)

abbrev pub plain_loops : code.Loops → Loops
plain_loops l = loops_with (text_of l.function) (texts l.variables.items)

abbrev pub AddsLoops : List Loops → List code.Loops → List code.Loops → Type 0
AddsLoops ls old new = map plain_loops new ≡ map plain_loops old ++ ls

abbrev mutual
  pub loops_by : Item → List Loops
  loops_by (always p e b) = loops_with None (loop_names b) ∷ []
  loops_by (initial p b) = loops_with None (loop_names b) ∷ []
  loops_by (function f) = loops_with (Some f.name.text) (loop_names f.body) ∷ []
  loops_by (region p is) = loops_in is
  loops_by _ = []

  pub loops_in : Items → List Loops
  loops_in no_item = []
  loops_in (more_item i is) = loops_by i ++ loops_in is

-- what is in sight in the bodies of a scope
abbrev pub sight_inside : Scope → Option Text → Sight
sight_inside s None = sight (levels s)
sight_inside s (Some x) = elim (first_named is_routine x (counted s.level)) [
  | Some (routine r) ↦ body_sight s.level s.outer r
  | _ ↦ sight (levels s)
]

-- what the names of loops stand for there
abbrev pub looped_by_loops : Scope → Loops → List Path
looped_by_loops s l = paths_in (sight_inside s l.inside) l.names
