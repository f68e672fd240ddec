-- What an answer says of a design. This project's own.
use Rattle.std.specs.Prelude.{ℕ, List}
use Rattle.netlist.specs.Design.{Flat}
use Rattle.netlist.specs.Order.{IsOrder, IsLoop}
use Rattle.comb_order.specs.declared.answer.Found.{Found}
use Rattle.comb_order.specs.declared.answer.Found.TheVariants as found
use Rattle.comb_order.specs.declared.answer.OrderFault.{OrderFault}
use Rattle.comb_order.specs.declared.answer.OrderFault.TheVariants as fault

-- an order of the design's parts, or a loop of them
abbrev pub Holds : Flat → Found → Type 0
Holds f (found.Order parts) = IsOrder f parts.items
Holds f (found.Loop parts) = IsLoop f parts.items

-- these parts are the loop, and there is no order; of memory nothing is said
abbrev pub HasCause : Flat → OrderFault → Type 0
HasCause f (fault.Loop parts) = IsLoop f parts × ((order : List ℕ) → IsOrder f order → ⊥)
HasCause f fault.Memory = Unit {0}
