-- The run of a numbered design: the values of its nodes in a cycle, its next state, and what fires. This project's own.
use Rattle.std.specs.Prelude.{◌≡◌, ℕ, ◌<◌, ◌≤◌, ◌==◌, ◌&&◌, Bool, if◌then◌else◌, List, [], ◌∷◌, ◌++◌, length, replicate, slice_index, slice_set, slice_get, Option, Some, None}
use Rattle.dt_core.specs.declared.limits.TheConstants.{MAX_WIDTH}
use Rattle.bit_ops.specs.Operators.{low, add, bit, holds}
use Rattle.flat_ir.specs.declared.design.Role.{Role}
use Rattle.flat_ir.specs.declared.design.Role.TheVariants as role
use Rattle.flat_ir.specs.declared.design.Signal.{Signal}
use Rattle.flat_ir.specs.declared.design.Node.{Node}
use Rattle.flat_ir.specs.declared.design.Node.TheVariants as n
use Rattle.flat_ir.specs.declared.design.Deed.{Deed}
use Rattle.flat_ir.specs.declared.design.Deed.TheVariants as d
use Rattle.flat_ir.specs.declared.design.Action.{Action}
use Rattle.flat_ir.specs.Format.{format_text}
use Rattle.flat_ir.specs.Fired.{Event, said, stopped, Fired, fired_in}

-- ---- the design

-- a numbered design: the top's name, the signals in order of the text, the number of data inputs, the widths of the registers,
-- the nodes, and what the clocked block does, in order of execution
pub record Flat : Type 0 where
  pub name : List ℕ
  pub signals : List Signal
  pub inputs : ℕ
  pub registers : List ℕ
  pub nodes : List Node
  pub actions : List Action

-- a node of this number reads lower nodes, and inputs and registers that are there; a width is 1 to `MAX_WIDTH`
abbrev pub NodeFits : ℕ → ℕ → ℕ → Node → Type 0
NodeFits inputs registers k (n.Constant c) = Unit {0}
NodeFits inputs registers k (n.Input i) = i < inputs
NodeFits inputs registers k (n.Register r) = r < registers
NodeFits inputs registers k (n.Sum a b w) = (a < k) × (b < k) × (1 ≤ w) × (w ≤ MAX_WIDTH)
NodeFits inputs registers k (n.Equal a b) = (a < k) × (b < k)
NodeFits inputs registers k (n.Not a) = a < k
NodeFits inputs registers k (n.And a b) = (a < k) × (b < k)
NodeFits inputs registers k (n.Cut a w) = (a < k) × (1 ≤ w) × (w ≤ MAX_WIDTH)

-- a deed names registers and nodes that are there
abbrev pub ShowsFits : ℕ → Option ℕ → Type 0
ShowsFits nodes None = Unit {0}
ShowsFits nodes (Some a) = a < nodes

abbrev pub DeedFits : ℕ → ℕ → Deed → Type 0
DeedFits registers nodes (d.Write r a) = (r < registers) × (a < nodes)
DeedFits registers nodes (d.Say format shown) = ShowsFits nodes shown
DeedFits registers nodes (d.Stop line) = Unit {0}

-- a signal's input or register is there
abbrev pub RoleFits : ℕ → ℕ → Role → Type 0
RoleFits inputs registers role.Clock = Unit {0}
RoleFits inputs registers (role.Input i) = i < inputs
RoleFits inputs registers (role.Register r) = r < registers

-- every number that the design holds names something that is there, and each signal has 1 to `MAX_WIDTH` bits
pub record IsWellFormed (f : Flat) : Type 0 where
  pub nodes : (k : ℕ) (x : Node) → slice_get f.nodes k ≡ Some x → NodeFits f.inputs (length f.registers) k x
  pub conditions : (k : ℕ) (x : Action) → slice_get f.actions k ≡ Some x → x.condition < length f.nodes
  pub deeds : (k : ℕ) (x : Action) → slice_get f.actions k ≡ Some x → DeedFits (length f.registers) (length f.nodes) x.deed
  pub signals : (k : ℕ) (x : Signal) → slice_get f.signals k ≡ Some x → RoleFits f.inputs (length f.registers) x.role
  pub widths : (k : ℕ) (x : Signal) → slice_get f.signals k ≡ Some x → (1 ≤ x.width) × (x.width ≤ MAX_WIDTH)

-- ---- a cycle

-- the value of a node: of the row's inputs, the state's registers, and the values of the lower nodes
abbrev pub value : List ℕ → List ℕ → List ℕ → Node → ℕ
value row state done (n.Constant c) = c
value row state done (n.Input i) = slice_index row i
value row state done (n.Register r) = slice_index state r
value row state done (n.Sum a b w) = add w (slice_index done a) (slice_index done b)
value row state done (n.Equal a b) = bit (slice_index done a == slice_index done b)
value row state done (n.Not a) = bit (slice_index done a == 0)
value row state done (n.And a b) = bit (holds (slice_index done a) && holds (slice_index done b))
value row state done (n.Cut a w) = low w (slice_index done a)

-- the values of all nodes, those of the lower ones being given
abbrev pub values_from : List ℕ → List ℕ → List ℕ → List Node → List ℕ
values_from row state done [] = done
values_from row state done (x ∷ xs) = values_from row state (done ++ value row state done x ∷ []) xs

abbrev pub flat_values : Flat → List ℕ → List ℕ → List ℕ
flat_values f row state = values_from row state [] f.nodes

-- whether an action is done at these values
abbrev pub is_done : List ℕ → Action → Bool
is_done values a = holds (slice_index values a.condition)

-- the state after a deed, and after all actions: the last write to a register wins
abbrev pub after_deed : List ℕ → Deed → List ℕ → List ℕ
after_deed values (d.Write r a) state = slice_set state r (slice_index values a)
after_deed values (d.Say format shown) state = state
after_deed values (d.Stop line) state = state

abbrev pub after_action : List ℕ → Action → List ℕ → List ℕ
after_action values a state = if is_done values a then after_deed values a.deed state else state

abbrev pub after_actions : List ℕ → List Action → List ℕ → List ℕ
after_actions values [] state = state
after_actions values (a ∷ as') state = after_actions values as' (after_action values a state)

-- what is said where an item shows this node, if one is shown
abbrev pub argument : List ℕ → Option ℕ → List ℕ
argument values None = []
argument values (Some a) = slice_index values a ∷ []

-- the events of a deed, and of all actions
abbrev pub deed_events : List ℕ → Deed → List Event
deed_events values (d.Write r a) = []
deed_events values (d.Say format shown) = said (format_text format (argument values shown) ++ 10 ∷ []) ∷ []
deed_events values (d.Stop line) = stopped line ∷ []

abbrev pub action_events : List ℕ → Action → List Event
action_events values a = if is_done values a then deed_events values a.deed else []

abbrev pub flat_events : List ℕ → List Action → List Event
flat_events values [] = []
flat_events values (a ∷ as') = action_events values a ++ flat_events values as'

-- ---- the run

-- each register is 0 at the start
abbrev pub flat_start : Flat → List ℕ
flat_start f = replicate (length f.registers) 0

abbrev pub flat_next : Flat → List ℕ → List ℕ → List ℕ
flat_next f row state = after_actions (flat_values f row state) f.actions state

-- the assertions that fire with a row in a state
abbrev pub flat_fired : Flat → List ℕ → List ℕ → List Fired
flat_fired f row state = fired_in [] (flat_events (flat_values f row state) f.actions)
