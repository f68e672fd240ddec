-- Nodes side by side, the first leftmost (IEEE 1364-2005, 5.1.14). This project's own: nodes with what they are worth.
use Rattle.std.specs.Prelude.{ℕ, ◌+◌, ◌||◌, Bool, false, List, [], ◌∷◌, Result, IfOk}
use Rattle.bit_ops.specs.Operators as ops
use Rattle.netlist.specs.Values.{Values}
use Rattle.netlist.specs.declared.design.Range.{Range}
use Rattle.netlist.specs.declared.node.Node.{Node}
use Rattle.vl_nodes.specs.declared.made.Made.{Made}
use Rattle.vl_nodes.specs.Sense.{Sense, Ground}
use Rattle.vl_nodes.specs.Nodes.{Is}
use Rattle.vl_nodes.specs.Calls.{MakesAt}

abbrev pub widths : List Made → ℕ
widths [] = 0
widths (m ∷ ms) = m.width + widths ms

abbrev pub joined : List Made → List Sense → Values → ℕ
joined (m ∷ ms) (x ∷ xs) v = ops.concat (widths ms) (x.value v) (joined ms xs v)
joined _ _ v = 0

abbrev pub some_reads : List Sense → Range → Bool
some_reads [] q = false
some_reads (x ∷ xs) q = x.reads q || some_reads xs q

abbrev pub beside : List Made → List Sense → Sense
beside ms xs = record { value = joined ms xs; reads = some_reads xs }

-- each node is worth what the sense at its place says
abbrev pub AreAll : Ground → List Node → List Made → List Sense → Type 0
AreAll g nodes [] [] = Unit {0}
AreAll g nodes (m ∷ ms) (x ∷ xs) = Is g nodes m x × AreAll g nodes ms xs
AreAll g nodes _ _ = ⊥

-- the node that is answered is worth these nodes side by side
abbrev pub IsBeside : {E : Type 0} → List Node → List Node → List Made → Result Made E → Type 0
IsBeside from to ms result = (g : Ground) (xs : List Sense) → AreAll g from ms xs
    → IfOk result (MakesAt g from to (widths ms) (beside ms xs))
