-- Choices among nodes (IEEE 1364-2005, 5.1.13). This project's own: nodes with what they are worth.
use Rattle.std.specs.Prelude.{◌≡◌, List, [], ◌∷◌, Result, IfOk}
use Rattle.netlist.specs.declared.node.Node.{Node}
use Rattle.vl_nodes.specs.declared.made.Made.{Made}
use Rattle.vl_nodes.specs.Sense.{Sense, Ground, chosen, on_three}
use Rattle.vl_nodes.specs.Nodes.{Is}
use Rattle.vl_nodes.specs.Calls.{MakesAt}
use Rattle.vl_choices.specs.declared.choices.Choice.{Choice}

abbrev pub is_as_wide : Made → Choice → Type 0
is_as_wide last c = c.value.width ≡ last.width

-- the value of the first choice whose condition holds, else the last one; all are read
abbrev pub among : List (Sense × Sense) → Sense → Sense
among [] last = last
among (c ∷ cs) last = on_three chosen c.0 c.1 (among cs last)

-- each condition, and each value, is worth what the senses at its place say
abbrev pub AreAll : Ground → List Node → List Choice → List (Sense × Sense) → Type 0
AreAll g nodes [] [] = Unit {0}
AreAll g nodes (k ∷ ks) (c ∷ cs) = Is g nodes k.condition c.0 × Is g nodes k.value c.1 × AreAll g nodes ks cs
AreAll g nodes _ _ = ⊥

-- the node that is answered is worth this
abbrev pub IsAmong : {E : Type 0} → List Node → List Node → List Choice → Made → Result Made E → Type 0
IsAmong from to ks last result = (g : Ground) (cs : List (Sense × Sense)) (y : Sense) → AreAll g from ks cs → Is g from last y
    → IfOk result (MakesAt g from to last.width (among cs y))
