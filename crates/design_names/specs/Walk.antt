-- What is left to be listed while the scopes and signals of a design are gone through. This project's own.
use Rattle.std.specs.Prelude.{ℕ, ◌+◌, ◌<◌, List, [], ◌∷◌, ◌++◌, drop, map, length, slice_index_or, Option, Some, None}
use Rattle.netlist.specs.Design.{Flat}
use Rattle.design_names.specs.Tree.{Branches, no_branches, children_from, branch_at, signals_from}
use Rattle.design_names.specs.Shown.{scope_at, signal_at}
use Rattle.design_names.specs.Outline.{outline, outlines}
use Rattle.design_names.specs.declared.links.Links.{Links}
use Rattle.design_names.specs.declared.outline.Entry.{Entry}
use Rattle.design_names.specs.declared.outline.Entry.TheVariants as entry
use Rattle.design_names.specs.declared.walk.Task.{Task}
use Rattle.design_names.specs.declared.walk.Task.TheVariants as task

-- the branches from j on that stand in this scope, or in none
abbrev pub branches_beside : Flat → ℕ → Option ℕ → Branches
branches_beside f j None = no_branches
branches_beside f j (Some p) = children_from f.scopes p j

abbrev pub signals_beside : Flat → ℕ → Option ℕ → List ℕ
signals_beside f j None = []
signals_beside f j (Some p) = signals_from p j (drop j f.signals)

-- what a task lists
abbrev pub todo : Flat → Task → List Entry
todo f (task.Scopes k) =
    outline f (branch_at f.scopes k) ++ outlines f (branches_beside f (k + 1) (scope_at f k).parent)
todo f (task.Signals k) = map entry.Signal (k ∷ signals_beside f (k + 1) (signal_at f k).scope)
todo f task.End = entry.End ∷ []

-- what a stack of tasks lists, whose next one is the last of the list
abbrev pub todo_all : Flat → List Task → List Entry
todo_all f [] = []
todo_all f (t ∷ ts) = todo_all f ts ++ todo f t

-- its first entry
abbrev pub entry_of : Task → Entry
entry_of (task.Scopes k) = entry.Scope k
entry_of (task.Signals k) = entry.Signal k
entry_of task.End = entry.End

-- the task to go on with, if there is one
abbrev pub scopes_task : Option ℕ → List Task
scopes_task None = []
scopes_task (Some k) = task.Scopes k ∷ []

abbrev pub signals_task : Option ℕ → List Task
signals_task None = []
signals_task (Some k) = task.Signals k ∷ []

-- the tasks that are left of one after its first entry
abbrev pub tasks_after : Links → Links → Task → List Task
tasks_after scopes signals (task.Scopes k) =
    scopes_task (slice_index_or scopes.next.items k None)
    ++ (task.End ∷ (scopes_task (slice_index_or scopes.first.items k None)
    ++ signals_task (slice_index_or signals.first.items k None)))
tasks_after scopes signals (task.Signals k) = signals_task (slice_index_or signals.next.items k None)
tasks_after scopes signals task.End = []

-- the scope, or the signal, is there
abbrev pub TaskFits : Flat → Task → Type 0
TaskFits f (task.Scopes k) = k < length f.scopes
TaskFits f (task.Signals k) = k < length f.signals
TaskFits f task.End = Unit {0}

-- what is asked for the task can be read of the links
abbrev pub HasPlace : Links → Links → Task → Type 0
HasPlace scopes signals (task.Scopes k) = (k < length scopes.next.items) × (k < length scopes.first.items)
    × (k < length signals.first.items)
HasPlace scopes signals (task.Signals k) = k < length signals.next.items
HasPlace scopes signals task.End = Unit {0}
