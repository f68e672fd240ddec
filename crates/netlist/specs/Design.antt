-- A numbered design as contracts see it: lists, in which a part's number is its place. This project's own.
use Rattle.std.specs.Prelude.{ℕ, List}
use Rattle.netlist.specs.Plain.{PlainMemory, PlainBlock}
use Rattle.netlist.specs.declared.design.Scope.{Scope}
use Rattle.netlist.specs.declared.design.Signal.{Signal}
use Rattle.netlist.specs.declared.design.DrivenPart.{DrivenPart}
use Rattle.netlist.specs.declared.design.RegisterPart.{RegisterPart}
use Rattle.netlist.specs.declared.design.MemoryWrite.{MemoryWrite}
use Rattle.netlist.specs.declared.node.Node.{Node}

-- the scopes, the first of which is the top; the signals; the signals that are data inputs, in order of the ports;
-- the driven parts and the register parts, in order of signal, then of place; the memories; the nodes; the writes to
-- memories in order of execution; the clocked blocks
pub record Flat : Type 0 where
  pub scopes : List Scope
  pub signals : List Signal
  pub inputs : List ℕ
  pub driven : List DrivenPart
  pub registers : List RegisterPart
  pub memories : List PlainMemory
  pub nodes : List Node
  pub writes : List MemoryWrite
  pub blocks : List PlainBlock
