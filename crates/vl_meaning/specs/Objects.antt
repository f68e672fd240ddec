-- What the names of a module stand for (IEEE 1364-2005, clauses 4.2, 4.3 and 12.3). That a clock is no data input, and the order of
-- inputs and registers, are this project's own.
use Rattle.std.specs.Prelude.{ℕ, ◌+◌, ◌-◌, if◌then◌else◌, List, [], ◌∷◌, ◌++◌, Option, Some, None, bytes_eq, ℤ}
use Rattle.bit_ops.specs.Operators.{integer}
use Rattle.vl_tree.specs.Token.{Literal}
use Rattle.vl_tree.specs.Tree.{Text, Port, input, output, Module}

abbrev pub port_name : Port → Text
port_name (input x) = x
port_name (output x l r) = x

-- the first port of a name
abbrev pub port_named : List Port → Text → Option Port
port_named [] x = None
port_named (p ∷ ps) x = if bytes_eq (port_name p) x then Some p else port_named ps x

-- the number of the first port of a name, counted on from k, and from 0
abbrev pub place_from : ℕ → List Port → Text → Option ℕ
place_from k [] x = None
place_from k (p ∷ ps) x = if bytes_eq (port_name p) x then Some k else place_from (k + 1) ps x

abbrev pub port_place : List Port → Text → Option ℕ
port_place = place_from 0

-- ---- ranges

-- a bound of a range as a whole number
abbrev pub bound : Literal → ℤ
bound l = integer l.signed l.width l.value

abbrev pub distance : ℕ → ℕ → ℕ
distance a b = (a - b) + (b - a)

-- how many bits a port has; an input is a scalar
abbrev pub port_width : Port → ℕ
port_width (input x) = 1
port_width (output x l r) = distance l.value r.value + 1

abbrev pub width_or_zero : Option Port → ℕ
width_or_zero None = 0
width_or_zero (Some p) = port_width p

-- the width of what a name stands for
abbrev pub width_of : List Port → Text → ℕ
width_of ps x = width_or_zero (port_named ps x)

-- ---- inputs and registers

abbrev pub data_input : Text → Port → List Text
data_input clock (input x) = if bytes_eq x clock then [] else x ∷ []
data_input clock (output x l r) = []

-- the names of the inputs among ports, the clock aside
abbrev pub data_inputs_of : Text → List Port → List Text
data_inputs_of clock [] = []
data_inputs_of clock (p ∷ ps) = data_input clock p ++ data_inputs_of clock ps

-- the data inputs of the module: its inputs but for the clock, in order of the ports
abbrev pub data_inputs : Module → List Text
data_inputs m = data_inputs_of m.clock m.ports

abbrev pub register : Port → List Text
register (input x) = []
register (output x l r) = x ∷ []

abbrev pub registers_of : List Port → List Text
registers_of [] = []
registers_of (p ∷ ps) = register p ++ registers_of ps

-- the registers of the module: its outputs, in order of the ports
abbrev pub registers : Module → List Text
registers m = registers_of m.ports
