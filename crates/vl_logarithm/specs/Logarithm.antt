-- `$clog2` of a node (IEEE 1364-2005, 17.11.1). This project's own: nodes with what they are worth.
use Rattle.std.specs.Prelude.{ℕ, ◌^◌, if◌then◌else◌, nat_le, List, Result, IfOk}
use Rattle.netlist.specs.declared.node.Node.{Node}
use Rattle.vl_value.specs.Meaning as m
use Rattle.vl_nodes.specs.declared.made.Made.{Made}
use Rattle.vl_nodes.specs.Sense.{Sense, Ground, on_one, on_two}
use Rattle.vl_nodes.specs.Nodes.{Is}
use Rattle.vl_nodes.specs.Calls.{MakesAt}

-- the node that is answered is worth the logarithm of this one's value
abbrev pub IsLogarithm : {E : Type 0} → List Node → List Node → Made → Result Made E → Type 0
IsLogarithm from to of result = (g : Ground) (x : Sense) → Is g from of x
    → IfOk result (MakesAt g from to 32 (on_one (m.logarithm of.width) x))

-- k where 2^k is at least n, else what stands above
abbrev pub least_or : ℕ → ℕ → ℕ → ℕ
least_or k n above = if nat_le n (2 ^ k) then k else above

abbrev pub IsStep : {E : Type 0} → List Node → List Node → Made → ℕ → Made → Result Made E → Type 0
IsStep from to of k above result = (g : Ground) (x y : Sense) → Is g from of x → Is g from above y
    → IfOk result (MakesAt g from to 32 (on_two (least_or k) x y))
