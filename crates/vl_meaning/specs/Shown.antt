-- What a module shows by name: its scope (IEEE 1364-2005, clause 18.2.3), and the value of each port in a cycle. This project's own.
use Rattle.std.specs.Prelude.{ℕ, true, List, [], map, slice_index_or, bytes_eq}
use Rattle.design_names.specs.Variables.{Kind, wire, reg, Variable, Scope, scope, no_scopes}
use Rattle.vl_tree.specs.Tree.{Port, input, output, Module}
use Rattle.vl_meaning.specs.Objects.{port_name, port_width}
use Rattle.vl_meaning.specs.Expression.{Values, value_at}
use Rattle.vl_meaning.specs.Run.{val, state}

-- an input is a net, an output of this form a variable
abbrev pub kind_of : Port → Kind
kind_of (input x) = wire
kind_of (output x l r) = reg

abbrev pub variable_of : Module → Port → Variable
variable_of m p = record { kind = kind_of p; width = port_width p; name = port_name p; clock = bytes_eq (port_name p) m.clock }

-- the scope of the module, which is the only one: its ports in order
abbrev pub scope_of : Module → Scope
scope_of m = scope true m.name (map (variable_of m) m.ports) no_scopes

-- the values of all ports with a row in a state, in order: those of Val(t), in which the clock is 0
abbrev pub shown : Module → List ℕ → Values → List ℕ
shown m row s = map (λ p. value_at (val m row s) (port_name p)) m.ports

-- the values of all ports in a cycle of the rows
abbrev pub shown_at : Module → List (List ℕ) → ℕ → List ℕ
shown_at m rows t = shown m (slice_index_or rows t []) (state m rows t)
