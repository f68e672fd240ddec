-- What a piece of lowering adds to the nodes and to the actions, for every row and state. This project's own.
use Rattle.std.specs.Prelude.{◌≡◌, ℕ, ◌<◌, Bool, true, false, List, [], ◌∷◌, ◌++◌, length, slice_get, slice_index, Option, Some, None}
use Rattle.bit_ops.specs.Operators.{holds}
use Rattle.flat_ir.specs.declared.design.Node.{Node}
use Rattle.flat_ir.specs.declared.design.Action.{Action}
use Rattle.flat_ir.specs.FlatRun.{NodeFits, DeedFits, ShowsFits, values_from, after_actions, flat_events}
use Rattle.flat_ir.specs.FlatRun as run
use Rattle.flat_ir.specs.Names.{Fit}
use Rattle.vl_tree.specs.Tree.{Text, Module, Branches}
use Rattle.vl_meaning.specs.Objects.{data_inputs, registers}
use Rattle.vl_meaning.specs.Faults.{is_read}
use Rattle.vl_meaning.specs.Expression.{Context}
use Rattle.vl_meaning.specs.Statement.{Outcome, quiet, all_stored, execute_branches}
use Rattle.vl_meaning.specs.Statement as meant
use Rattle.vl_meaning.specs.Run.{val, executed}
use Rattle.vl_meaning.specs.StandsFor.{input_widths, register_widths, by_names}

-- ---- where things are evaluated

-- with a row and a state
abbrev pub context : Module → List ℕ → List ℕ → Context
context m row state = record { ports = m.ports; values = val m row (by_names m state) }

-- with no values: widths and signs don't need them
abbrev pub bare : Module → Context
bare m = record { ports = m.ports; values = [] }

-- the value of a node
abbrev pub node_value : List ℕ → List ℕ → List Node → ℕ → ℕ
node_value row state nodes k = slice_index (values_from row state [] nodes) k

-- ---- nodes

-- each node reads what is there
abbrev pub NodesFit : Module → List Node → Type 0
NodesFit m nodes = (k : ℕ) (x : Node) → slice_get nodes k ≡ Some x → NodeFits (length (data_inputs m)) (length (registers m)) k x

-- nodes were added at the end, and they fit
pub record Grown (m : Module) (old new : List Node) : Type 0 where
  pub more : List Node
  pub whole : new ≡ old ++ more
  pub fit : NodesFit m old → NodesFit m new

-- nodes were added, and the node k has this value
pub record Makes (m : Module) (old new : List Node) (k : ℕ) (value : List ℕ → List ℕ → ℕ) : Type 0 where
  pub grown : Grown m old new
  pub here : k < length new
  pub is : (row state : List ℕ) → Fit (input_widths m) row → Fit (register_widths m) state → node_value row state new k ≡ value row state

-- a name that is shown is one that may be read
abbrev pub is_shown : Module → Option Text → Bool
is_shown m None = true
is_shown m (Some x) = is_read m x

-- nodes were added, and the node that is shown, if there is one, has the value of the argument
pub record Shows (m : Module) (old new : List Node) (node : Option ℕ) (shown : Option Text) : Type 0 where
  pub grown : Grown m old new
  pub here : ShowsFits (length new) node
  pub is : (row state : List ℕ) → Fit (input_widths m) row → Fit (register_widths m) state → run.argument (values_from row state [] new) node ≡ meant.argument (context m row state) shown

-- ---- actions

-- each action names what is there
abbrev pub ActionsFit : ℕ → ℕ → List Action → Type 0
ActionsFit registers nodes [] = Unit {0}
ActionsFit registers nodes (a ∷ as') = (a.condition < nodes) × DeedFits registers nodes a.deed × ActionsFit registers nodes as'

-- at these values the actions have this outcome
pub record Done (m : Module) (values : List ℕ) (actions : List Action) (o : Outcome) : Type 0 where
  pub after : (state : List ℕ) → Fit (register_widths m) state
      → (by_names m (after_actions values actions state) ≡ all_stored o.writes (by_names m state)) × Fit (register_widths m) (after_actions values actions state)
  pub events : flat_events values actions ≡ o.events

-- an outcome where the condition holds
abbrev pub gate : Bool → Outcome → Outcome
gate true o = o
gate false o = quiet

-- actions were added, which have this outcome where the value of the condition, a node, isn't 0
pub record Adds (m : Module) (old new : List Node) (before behind : List Action) (condition : ℕ) (outcome : List ℕ → List ℕ → Outcome) : Type 0 where
  pub grown : Grown m old new
  pub actions : List Action
  pub whole : behind ≡ before ++ actions
  pub fit : ActionsFit (length (registers m)) (length new) actions
  pub done : (row state : List ℕ) → Fit (input_widths m) row → Fit (register_widths m) state
      → Done m (values_from row state [] new) actions (gate (holds (node_value row state new condition)) (outcome row state))

-- ---- branches

-- whatever is added where the rest of a condition holds, is what happens where none of these branches does
pub record Branched (m : Module) (old new : List Node) (before behind : List Action) (condition rest : ℕ) (bs : Branches) : Type 0 where
  pub here : rest < length new
  pub then_adds : (last : List Node) (final : List Action) (o : List ℕ → List ℕ → Outcome) → Adds m new last behind final rest o
      → Adds m old last before final condition (λ row state. execute_branches (context m row state) bs (o row state))

-- ---- the whole

-- the nodes and the actions of the clocked block: in each cycle they have the block's outcome
pub record IsBuilt (m : Module) (nodes : List Node) (actions : List Action) : Type 0 where
  pub nodes_fit : NodesFit m nodes
  pub actions_fit : ActionsFit (length (registers m)) (length nodes) actions
  pub done : (row state : List ℕ) → Fit (input_widths m) row → Fit (register_widths m) state → Done m (values_from row state [] nodes) actions (executed m row (by_names m state))
