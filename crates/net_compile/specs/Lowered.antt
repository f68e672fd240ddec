-- Nodes as steps. This project's own.
use Rattle.std.specs.Prelude.{Bool, false, pos, ◌≡◌, ℕ, ◌-◌, ◌^◌, ◌<◌, ◌≤◌, List, slice_index, slice_get, slice_index_or, Option, Some, None}
use Rattle.netlist.specs.Design.{Flat}
use Rattle.netlist.specs.Fits.{IsWellFormed}
use Rattle.std.specs.Option.{option_map, unwrap_or}
use Rattle.netlist.specs.Plain.{PlainMemory}
use Rattle.netlist.specs.Run.{all_words}
use Rattle.netlist.specs.Values.{Values, width_at, index_at, least_index, node_values, operation_value}
use Rattle.bit_ops.specs.Operators as ops
use Rattle.bit_ops.specs.Applied as applied
use Rattle.bit_ops.specs.declared.operator.Unary.{Unary}
use Rattle.bit_ops.specs.declared.operator.Unary.TheVariants as one
use Rattle.bit_ops.specs.declared.operator.Binary.{Binary}
use Rattle.bit_ops.specs.declared.operator.Binary.TheVariants as two
use Rattle.netlist.specs.declared.node.Node.{Node}
use Rattle.netlist.specs.declared.node.Operation.{Operation}
use Rattle.netlist.specs.declared.node.Operation.TheVariants as o
use Rattle.step_program.specs.Values.{calculation_value, after, is_narrow_width}
use Rattle.step_program.specs.Fits.{CalculationFits}
use Rattle.step_program.specs.Draft.{Draft, HasStep, narrow_count, wide_count}
use Rattle.step_program.specs.declared.step.Slot.{Slot}
use Rattle.step_program.specs.declared.step.Operand.{Operand}
use Rattle.step_program.specs.declared.step.Number.{Number}
use Rattle.step_program.specs.declared.step.Calculation.{Calculation}
use Rattle.step_program.specs.declared.step.Calculation.TheVariants as calc
use Rattle.step_program.specs.declared.step.Step.TheVariants as step
use Rattle.net_compile.specs.Cycle.{Front, Cycle}
use Rattle.net_compile.specs.Quick.{AreBounded}
use Rattle.net_compile.specs.Stands.{NodesStand, operation_number}
use Rattle.netlist.specs.declared.design.Index.{Index}

-- the operand is the slot of the node, at the node's width
abbrev pub IsOperand : Flat → List (Option Slot) → ℕ → Operand → Type 0
IsOperand f slots n o = (slice_index_or slots n None ≡ Some o.slot) × (o.width ≡ width_at f.nodes n)

abbrev pub IsNumber : Flat → List (Option Slot) → Index → Number → Type 0
IsNumber f slots i x = IsOperand f slots i.node x.of × (x.signed ≡ i.signed)

-- the least index of a memory; 0 where there is none
abbrev pub least_of : List PlainMemory → ℕ → ℕ
least_of memories k = unwrap_or (option_map least_index (slice_get memories k)) 0

-- the number that the node is, and that it stands for with this sign
abbrev pub IsNumeral : Node → Bool → ℕ → Type 0
IsNumeral x signed k = (x.operation ≡ o.Constant k) × (ops.integer signed x.width k ≡ pos k)

-- the index is this number, whatever the values
abbrev pub IsPlaceOf : Flat → Index → ℕ → Type 0
IsPlaceOf f i k = (v : Values) → index_at f.nodes (node_values f v) i ≡ pos k

-- the node is one of a well-formed design
abbrev pub IsNodeOf : Flat → Node → Type 0
IsNodeOf f x = IsWellFormed f × ((n : ℕ) × (slice_get f.nodes n ≡ Some x))

-- the node is 1, whatever the values
abbrev pub IsAlwaysOne : Flat → ℕ → Type 0
IsAlwaysOne f n = (v : Values) → slice_index (node_values f v) n ≡ 1

-- the node k of one bit is what two nodes joined by `&&` are, whatever the values
pub record IsBoth (f : Flat) (left right k : ℕ) : Type 0 where
  pub width : width_at f.nodes k ≡ 1
  pub value : (v : Values) → slice_index (node_values f v) k < 2
      → applied.binary two.LogicAnd false 1 (slice_index (node_values f v) left) (slice_index (node_values f v) right)
      ≡ slice_index (node_values f v) k

-- a slot that is narrow at the node's width is so at the other one, and only then
abbrev pub HaveOneKind : Flat → ℕ → ℕ → Type 0
HaveOneKind f n width = is_narrow_width (width_at f.nodes n) ≡ is_narrow_width width

-- the node x has the value of the node k, whatever the values, if this one has its width
pub record IsSameAs (f : Flat) (x : Node) (k : ℕ) : Type 0 where
  pub kind : HaveOneKind f k x.width
  pub less : width_at f.nodes k ≤ x.width
  pub value : (v : Values) → slice_index (node_values f v) k < 2 ^ width_at f.nodes k
      → operation_value f v (node_values f v) x.width x.operation ≡ slice_index (node_values f v) k

-- the calculation has the value of the operation in each cycle
pub record Mirrors (f : Flat) (front : Front) (d : Draft) (width : ℕ) (x : Operation) (r : Calculation) : Type 0 where
  pub fits : CalculationFits (narrow_count d) (wide_count d) width r
  pub bounded : (c : Cycle f front)
      → AreBounded (after (all_words f.memories c.state.memories) c.given d.steps) r
  pub value : (c : Cycle f front)
      → calculation_value (all_words f.memories c.state.memories) (after (all_words f.memories c.state.memories) c.given d.steps) width r
      ≡ operation_number f front width x c

-- it does wherever the nodes' values stand in these slots
abbrev pub IsCalculationOf : Flat → List (Option Slot) → Node → Calculation → Type 0
IsCalculationOf f slots x r = (front : Front) (d : Draft) → NodesStand f front d slots
    → Mirrors f front d x.width x.operation r

-- the calculation takes an operand and a slot that holds as many ones
abbrev pub IsBesideOnes : Draft → Draft → Binary → Operand → Calculation → Type 0
IsBesideOnes old new operator of r = (z : Operand) × (z.width ≡ of.width) × (r ≡ calc.Binary operator false of z)
    × HasStep old new (step.Rare (record { width = of.width; calculation = calc.Constant (2 ^ of.width - 1) })) z.slot

-- the reduction is this comparison with ones
abbrev pub ComparesOnes : Unary → Binary → Type 0
ComparesOnes one.And operator = operator ≡ two.Eq
ComparesOnes one.Nand operator = operator ≡ two.Ne
ComparesOnes _ operator = ⊥
