-- What each register takes in the next cycle. This project's own.
use Rattle.std.specs.Prelude.{◌≡◌, ℕ, ◌<◌, List, [], ◌∷◌, ◌++◌, length, map, slice_get, slice_index, Some, Result, OnOk}
use Rattle.bit_ops.specs.Operators.{low}
use Rattle.flat_ir.specs.FlatRun as plain
use Rattle.flat_ir.specs.declared.design.Action.{Action}
use Rattle.netlist.specs.declared.design.Range.{Range}
use Rattle.netlist.specs.declared.design.RegisterPart.{RegisterPart}
use Rattle.netlist.specs.declared.node.Node.{Node}
use Rattle.one_block.specs.declared.made.Made.{Made}
use Rattle.one_block.specs.SameDesign.{signal_of}
use Rattle.one_block.specs.Calls.Nodes.{Value, HasValue, Grows, Stands, range_at}

-- an action names what is there, so do all
abbrev pub ActionFits : ℕ → ℕ → Action → Type 0
ActionFits registers nodes x = (x.condition < nodes) × plain.DeedFits registers nodes x.deed

abbrev pub ActionsFit : ℕ → ℕ → List Action → Type 0
ActionsFit registers nodes actions = (k : ℕ) (x : Action) → slice_get actions k ≡ Some x → ActionFits registers nodes x

-- the value of register r after these actions, in its width
abbrev pub after_of : plain.Flat → List Action → ℕ → ℕ → Value
after_of p done width r = λ row state.
    low width (slice_index (plain.after_actions (plain.flat_values p row state) done state) r)

-- a node for each register, with its value after these actions
pub record AreNext (p : plain.Flat) (nodes : List Node) (ranges : List Range) (next : List ℕ) (done : List Action)
    : Type 0 where
  pub count : length next ≡ length ranges
  pub each : (r : ℕ) → r < length ranges
      → HasValue p nodes (record { node = slice_index next r; width = (range_at ranges r).width })
      (after_of p done (range_at ranges r).width r)

-- nodes were added, and now each register has a node with its value after these actions
pub record Takes (p : plain.Flat) (from to : List Node) (ranges : List Range) (next : List ℕ) (done : List Action)
    : Type 0 where
  pub grown : Grows (map signal_of p.signals) from to
  pub takes : AreNext p to ranges next done

-- after an action more, whatever the actions before it were
abbrev pub IsTaken : {E A : Type 0} → List Node → List Node → List Range → List Made → List ℕ → List ℕ → Action
    → Result A E → Type 0
IsTaken from to ranges made next new action result = (p : plain.Flat) (done : List Action) → Stands p from made
    → length ranges ≡ length p.registers → AreNext p from ranges next done
    → OnOk result (Takes p from to ranges new (done ++ action ∷ []))

-- the register part of the block, which begins with 0
abbrev pub part_of : Range → ℕ → RegisterPart
part_of range next = record { range = range; block = 0; next = next; initial = 0 }

abbrev pub parts_of : List Range → List ℕ → List RegisterPart
parts_of (r ∷ rs) (n ∷ ns) = part_of r n ∷ parts_of rs ns
parts_of _ _ = []
