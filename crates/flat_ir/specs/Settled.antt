-- What the values of the nodes are, apart from how they are computed. This project's own.
use Rattle.std.specs.Prelude.{◌≡◌, ℕ, List, length, slice_get, slice_index, Some}
use Rattle.flat_ir.specs.declared.design.Node.{Node}
use Rattle.flat_ir.specs.FlatRun.{Flat, IsWellFormed, value, flat_values}

-- one value for each node, that of its node over these values themselves
pub record AreValues (f : Flat) (row state vs : List ℕ) : Type 0 where
  pub count : length vs ≡ length f.nodes
  pub each : (k : ℕ) (x : Node) → slice_get f.nodes k ≡ Some x → slice_index vs k ≡ value row state vs x

-- A law: the nodes of a well-formed design have values with each row and state, and no others.
pub record SettlesOnce : Type 0 where
  pub are : (f : Flat) (row state : List ℕ) → IsWellFormed f → AreValues f row state (flat_values f row state)
  pub alone : (f : Flat) (row state vs : List ℕ) → IsWellFormed f → AreValues f row state vs → vs ≡ flat_values f row state
