-- What a numbered design shows: the tree of its scopes by name (IEEE 1364-2005, clause 18.2.3), and the values of its
-- variables in a cycle. A signal that stands in no scope is shown nowhere. This project's own.
use Rattle.std.specs.Prelude.{ℕ, Bool, true, false, List, [], ◌++◌, map, slice_index, slice_index_or, None}
use Rattle.netlist.specs.Design.{Flat}
use Rattle.netlist.specs.Values.{Values}
use Rattle.netlist.specs.declared.design.Role.{Role}
use Rattle.netlist.specs.declared.design.Role.TheVariants as role
use Rattle.netlist.specs.declared.design.SignalKind.{SignalKind}
use Rattle.netlist.specs.declared.design.SignalKind.TheVariants as signal
use Rattle.netlist.specs.declared.design.ScopeKind.{ScopeKind}
use Rattle.netlist.specs.declared.design.ScopeKind.TheVariants as scope_kind
use Rattle.netlist.specs.declared.design.Signal.{Signal}
use Rattle.netlist.specs.declared.design.Scope as declared
use Rattle.design_names.specs.Tree.{Branch, branch, Branches, no_branches, next_branch, flat_tree, signals_in}
use Rattle.design_names.specs.Variables.{Kind, wire, reg, integer, Variable, Scope, scope, Scopes, no_scopes, next_scope}

-- ---- one scope, one variable

abbrev pub kind_of : SignalKind → Kind
kind_of signal.Wire = wire
kind_of signal.Reg = reg
kind_of signal.Integer = integer

abbrev pub is_clock : Role → Bool
is_clock role.Clock = true
is_clock (role.Input i) = false
is_clock role.Inner = false

abbrev pub is_instance : ScopeKind → Bool
is_instance scope_kind.Instance = true
is_instance scope_kind.Generate = false

abbrev pub variable_of : Signal → Variable
variable_of s = record { kind = kind_of s.kind; width = s.width; name = s.name; clock = is_clock s.role }

-- what stands for a scope, and for a signal, of a number that isn't there
abbrev pub no_scope : declared.Scope
no_scope = record { parent = None; kind = scope_kind.Instance; name = [] }

abbrev pub no_signal : Signal
no_signal = record { scope = None; name = []; kind = signal.Wire; width = 1; role = role.Inner; kept = 0 }

-- the scope, and the signal, of a number
abbrev pub scope_at : Flat → ℕ → declared.Scope
scope_at f k = slice_index_or f.scopes k no_scope

abbrev pub signal_at : Flat → ℕ → Signal
signal_at f k = slice_index_or f.signals k no_signal

abbrev pub variable_at : Flat → ℕ → Variable
variable_at f k = variable_of (signal_at f k)

-- ---- the tree by name

-- a scope's variables are the signals that stand in it, in order of number
abbrev mutual
  pub named : Flat → Branch → Scope
  named f (branch k below) = scope (is_instance (scope_at f k).kind) (scope_at f k).name
      (map (variable_at f) (signals_in f k)) (all_named f below)

  pub all_named : Flat → Branches → Scopes
  all_named f no_branches = no_scopes
  all_named f (next_branch b bs) = next_scope (named f b) (all_named f bs)

abbrev pub flat_scope : Flat → Scope
flat_scope f = named f (flat_tree f)

-- ---- the order of the variables

-- the signals of a branch, a scope's before its children's
abbrev mutual
  pub signals_of : Flat → Branch → List ℕ
  signals_of f (branch k below) = signals_in f k ++ signals_below f below

  pub signals_below : Flat → Branches → List ℕ
  signals_below f no_branches = []
  signals_below f (next_branch b bs) = signals_of f b ++ signals_below f bs

-- the signals that are shown: the k-th is variable k of `flat_scope`
abbrev pub flat_order : Flat → List ℕ
flat_order f = signals_of f (flat_tree f)

-- what the variables show in a cycle that settled at these values; a clock is 0 while a cycle settles
abbrev pub flat_shown : Flat → Values → List ℕ
flat_shown f v = map (slice_index v.signals) (flat_order f)
