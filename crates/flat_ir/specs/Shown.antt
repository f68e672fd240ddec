-- What a numbered design shows: its one scope, and the value of each signal in a cycle. This project's own.
use Rattle.std.specs.Prelude.{ℕ, Bool, true, false, List, map, slice_index}
use Rattle.bit_ops.specs.Operators.{low}
use Rattle.flat_ir.specs.declared.design.Role.{Role}
use Rattle.flat_ir.specs.declared.design.Role.TheVariants as role
use Rattle.flat_ir.specs.declared.design.SignalKind.{SignalKind}
use Rattle.flat_ir.specs.declared.design.SignalKind.TheVariants as kind
use Rattle.flat_ir.specs.declared.design.Signal.{Signal}
use Rattle.flat_ir.specs.FlatRun.{Flat}
use Rattle.design_names.specs.Variables.{Kind, wire, reg, integer, Variable, Scope, scope, no_scopes}

abbrev pub kind_of : SignalKind → Kind
kind_of kind.Wire = wire
kind_of kind.Reg = reg
kind_of kind.Integer = integer

abbrev pub is_clock : Role → Bool
is_clock role.Clock = true
is_clock (role.Input i) = false
is_clock (role.Register r) = false

abbrev pub variable_of : Signal → Variable
variable_of s = record { kind = kind_of s.kind; width = s.width; name = s.name; clock = is_clock s.role }

-- the scope of the top, which is the only one
abbrev pub flat_scope : Flat → Scope
flat_scope f = scope true f.name (map variable_of f.signals) no_scopes

-- the value of what a role names, with this row and state; a clock is 0 while a cycle settles
abbrev pub role_value : List ℕ → List ℕ → Role → ℕ
role_value row state role.Clock = 0
role_value row state (role.Input i) = slice_index row i
role_value row state (role.Register r) = slice_index state r

-- the value of a signal, in its width
abbrev pub signal_value : List ℕ → List ℕ → Signal → ℕ
signal_value row state s = low s.width (role_value row state s.role)

-- the values of all signals, in order of number
abbrev pub flat_shown : Flat → List ℕ → List ℕ → List ℕ
flat_shown f row state = map (signal_value row state) f.signals
