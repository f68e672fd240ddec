-- What `read_design` answers. This project's own.
use Rattle.std.specs.Prelude.{ℕ, List, Option, Result, Ok, Err}
use Rattle.netlist.specs.Design.{Flat}
use Rattle.vl_tree.specs.declared.fault.FaultKind.{FaultKind}
use Rattle.vl_tree.specs.Tree.{Module}
use Rattle.vl_stands.specs.StandsFor.{StandsFor}
use Rattle.vl_front.specs.FirstFault.{HasFirst}
use Rattle.vl_front.specs.Top.{Asked, HasNoTop}
use Rattle.vl_front.specs.OneModule.{IsDesign, IsNoDesign}
use Rattle.vl_front.specs.declared.fault.DesignFault.{DesignFault}
use Rattle.vl_front.specs.declared.fault.DesignFault.TheVariants as f

-- the text's first fault has this phase, line and kind
abbrev pub IsFaulty : List ℕ → ℕ → ℕ → FaultKind → Type 0
IsFaulty text phase line kind =
    (token : Option ℕ) × HasFirst text (record { phase = phase; line = line; token = token; kind = kind })

-- the design stands for the one module that the text is; or the text has this fault first; or it has no top; or it is a source that
-- isn't built; or out of memory
abbrev pub Reads : List ℕ → Asked → Result Flat DesignFault → Type 0
Reads text top (Ok flat) = (m : Module) × IsDesign text top m × StandsFor flat m
Reads text top (Err (f.At phase line kind)) = IsFaulty text phase line kind
Reads text top (Err (f.NoTop line)) = HasNoTop text top line
Reads text top (Err f.NotYetBuilt) = IsNoDesign text top
Reads text top (Err f.Memory) = Unit {0}
