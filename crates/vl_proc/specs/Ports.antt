-- The signals that ports become, and the widths of the registers among them. This project's own.
use Rattle.std.specs.Prelude.{◌≡◌, ℕ, ◌+◌, true, if◌then◌else◌, List, [], ◌∷◌, ◌++◌, length, Option, Some, None, bytes_eq}
use Rattle.flat_ir.specs.declared.design.Role.{Role}
use Rattle.flat_ir.specs.declared.design.Role.TheVariants as role
use Rattle.flat_ir.specs.declared.design.SignalKind.{SignalKind}
use Rattle.flat_ir.specs.declared.design.SignalKind.TheVariants as kind
use Rattle.flat_ir.specs.declared.design.Signal.{Signal}
use Rattle.vl_tree.specs.Tree.{Text, Port, input, output, Module}
use Rattle.vl_meaning.specs.Objects.{port_name, port_width, data_input, data_inputs_of, register}
use Rattle.vl_meaning.specs.Faults.{are_declared}

-- what a port shows, where i data inputs and r registers stand before it
abbrev pub role_of : Text → ℕ → ℕ → Port → Role
role_of clock i r (input x) = if bytes_eq x clock then role.Clock else role.Input i
role_of clock i r (output x a b) = role.Register r

-- what a port was declared as
abbrev pub kind_of : Port → SignalKind
kind_of (input x) = kind.Wire
kind_of (output x a b) = kind.Reg

abbrev pub signal_of : Text → ℕ → ℕ → Port → Signal
signal_of clock i r p = record { name = port_name p; kind = kind_of p; width = port_width p; role = role_of clock i r p }

-- the signals of ports, in order
abbrev pub signals_of : Text → ℕ → ℕ → List Port → List Signal
signals_of clock i r [] = []
signals_of clock i r (p ∷ ps) = signal_of clock i r p ∷ signals_of clock (i + length (data_input clock p)) (r + length (register p)) ps

-- the signal of the first port of a name
abbrev pub found : Text → ℕ → ℕ → List Port → Text → Option Signal
found clock i r [] x = None
found clock i r (p ∷ ps) x =
    if bytes_eq (port_name p) x then Some (signal_of clock i r p) else found clock (i + length (data_input clock p)) (r + length (register p)) ps x

-- the width of a port that is a register
abbrev pub own_width : Port → List ℕ
own_width (input x) = []
own_width (output x a b) = port_width (output x a b) ∷ []

-- the widths of the registers among ports, in order
abbrev pub widths_of : List Port → List ℕ
widths_of [] = []
widths_of (p ∷ ps) = own_width p ++ widths_of ps

-- what is kept of ports: their signals, how many are data inputs, and the widths of those that are registers
pub record IsTable (clock : Text) (ports : List Port) (signals : List Signal) (inputs : ℕ) (widths : List ℕ) : Type 0 where
  pub signals_are : signals ≡ signals_of clock 0 0 ports
  pub inputs_are : inputs ≡ length (data_inputs_of clock ports)
  pub widths_are : widths ≡ widths_of ports

-- a module whose declarations have no fault, with its ports, as those that are found by name, and their signals
pub record Knows (m : Module) (named : List Port) (signals : List Signal) : Type 0 where
  pub named_are : named ≡ m.ports
  pub declared : are_declared m ≡ true
  pub signals_are : signals ≡ signals_of m.clock 0 0 m.ports
