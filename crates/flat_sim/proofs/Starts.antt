-- States that begin a run.
use Rattle.std.proofs.Common.{ℕ, List, [], ◌∷◌, length}
use Rattle.std.specs.Prelude.{map}
use Rattle.std.specs.List.{AllByRecursion}
use Rattle.std.proofs.lemmas.List.Elements.{recursion_from_All}
use Rattle.netlist.specs.Design.{Flat}
use Rattle.netlist.specs.Fits.{IsWellFormed, RegisterFits}
use Rattle.netlist.specs.Run.{State}
use Rattle.netlist.specs.declared.design.Signal.{Signal}
use Rattle.netlist.specs.declared.design.RegisterPart.{RegisterPart}
use Rattle.netlist.specs.declared.node.Node.{Node}
use Rattle.held_state.specs.States.{RegistersFit}

all_fit : (blocks : ℕ) (ss : List Signal) (nodes : List Node) (ps : List RegisterPart)
    → AllByRecursion (RegisterFits blocks ss nodes) ps → RegistersFit ps (map (λ (p : RegisterPart). p.initial) ps)
all_fit blocks ss nodes [] h = tt
all_fit blocks ss nodes (p ∷ ps) h = (h.0.3.1, all_fit blocks ss nodes ps h.1)

pub initial_fits : (f : Flat) → IsWellFormed f → RegistersFit f.registers (map (λ (p : RegisterPart). p.initial) f.registers)
initial_fits f w =
    all_fit (length f.blocks) f.signals f.nodes f.registers
    (recursion_from_All (RegisterFits (length f.blocks) f.signals f.nodes) f.registers w.parts.registers)

abbrev pub state : List ℕ → List (List ℕ) → State
state ns ws = record { registers = ns; memories = ws }
