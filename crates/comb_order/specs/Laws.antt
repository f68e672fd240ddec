-- What follows of orders and loops. This project's own.
use Rattle.std.specs.Prelude.{◌⊎◌, ℕ, List}
use Rattle.netlist.specs.Design.{Flat}
use Rattle.netlist.specs.Fits.{IsWellFormed}
use Rattle.netlist.specs.Order.{IsOrder, IsLoop}

-- A law: a design that has an order has no loop.
abbrev pub ExclusionLaw : Type 0
ExclusionLaw = (f : Flat) (order parts : List ℕ) → IsOrder f order → IsLoop f parts → ⊥

-- A law: a well-formed design has an order or a loop.
abbrev pub ExistenceLaw : Type 0
ExistenceLaw = (f : Flat) → IsWellFormed f → ((order : List ℕ) × IsOrder f order) ⊎ ((parts : List ℕ) × IsLoop f parts)
