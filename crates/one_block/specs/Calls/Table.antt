-- What the table of signals gives to what is made over it. This project's own.
use Rattle.std.specs.Prelude.{◌≡◌, ℕ, List, length, slice_get, Result, Some, IfOk}
use Rattle.flat_ir.specs.FlatRun as plain
use Rattle.flat_ir.specs.declared.design.Node as old_node
use Rattle.netlist.specs.declared.node.Node.{Node}
use Rattle.one_block.specs.declared.made.Made.{Made}
use Rattle.one_block.specs.declared.table.Table.{Table}
use Rattle.one_block.specs.Calls.Nodes.{AreBelow, AllFit, Led, Makes, node_of}

-- its data inputs are signals of it
abbrev pub HasInputs : Table → Type 0
HasInputs t = AreBelow (length t.signals.items) t.inputs.items

-- a node of this number, and all nodes, read inputs and registers that it has
abbrev pub FitsIn : Table → ℕ → old_node.Node → Type 0
FitsIn t k x = plain.NodeFits (length t.inputs.items) (length t.registers.items) k x

abbrev pub AllFitIn : Table → List old_node.Node → Type 0
AllFitIn t nodes = AllFit (length t.inputs.items) (length t.registers.items) nodes

-- what led to a node more
abbrev pub LedBy : plain.Flat → Table → List Node → List Made → Type 0
LedBy p t nodes made = Led p t.signals.items t.inputs.items t.registers.items nodes made

-- of the next node of the old design one that has its value
abbrev pub IsNext : {E : Type 0} → Table → List Node → List Node → List Made → old_node.Node → Result Made E → Type 0
IsNext t from to made x result = (p : plain.Flat) → slice_get p.nodes (length made) ≡ Some x → LedBy p t from made
    → IfOk result (λ m. Makes p from to m (node_of p (length made)))
