-- A worked example: a counter of two bits that is enabled by an input and stops where it is 3, given and made.
use Rattle.std.specs.Prelude.{◌≡◌, refl, true, false, [], ◌∷◌, codes, Some}
use Rattle.std.specs.Fmt.{digits}
use Rattle.bit_ops.specs.declared.operator.Binary.TheVariants as two
use Rattle.flat_ir.specs.declared.design.Role.TheVariants as role
use Rattle.flat_ir.specs.declared.design.SignalKind.TheVariants as kind
use Rattle.flat_ir.specs.declared.design.Node.TheVariants as n
use Rattle.flat_ir.specs.declared.design.Deed.TheVariants as d
use Rattle.flat_ir.specs.FlatRun as plain
use Rattle.netlist.specs.Design.{Flat}
use Rattle.netlist.specs.Run.{flat_start, flat_next}
use Rattle.netlist.specs.declared.design.Base.TheVariants as b
use Rattle.netlist.specs.declared.design.Effect.TheVariants as e
use Rattle.netlist.specs.declared.node.Operation.TheVariants as o
use Rattle.one_block.specs.SameDesign.{top_scope, signal_of, input_places, whole, state_of, values_of, fired_by_lines}

-- if (en) r <= r + 1; if (r == 3) begin $display("r is %0d", r); $stop; end, the stop on line 9
abbrev counter : plain.Flat
counter = record {
  name = codes "cnt";
  signals = record { name = codes "clk"; kind = kind.Wire; width = 1; role = role.Clock }
      ∷ record { name = codes "en"; kind = kind.Wire; width = 1; role = role.Input 0 }
      ∷ record { name = codes "r"; kind = kind.Reg; width = 2; role = role.Register 0 }
      ∷ [];
  inputs = 1;
  registers = 2 ∷ [];
  nodes = n.Input 0 ∷ n.Register 0 ∷ n.Constant 1 ∷ n.Sum 1 2 2 ∷ n.Constant 3 ∷ n.Equal 1 4 ∷ [];
  actions = record { condition = 0; deed = d.Write 0 3 }
      ∷ record { condition = 5; deed = d.Say (codes "r is %0d") (Some 1) }
      ∷ record { condition = 5; deed = d.Stop 9 }
      ∷ [];
}

-- nodes 0 to 2 are the signals; 3 is 1, cut to one bit, and 4 the same in two; 5 is the sum, 6 is 3, 7 the test, 8 the choice
abbrev made : Flat
made = record {
  scopes = top_scope (codes "cnt") ∷ [];
  signals = signal_of (record { name = codes "clk"; kind = kind.Wire; width = 1; role = role.Clock })
      ∷ signal_of (record { name = codes "en"; kind = kind.Wire; width = 1; role = role.Input 0 })
      ∷ signal_of (record { name = codes "r"; kind = kind.Reg; width = 2; role = role.Register 0 })
      ∷ [];
  inputs = 1 ∷ [];
  driven = [];
  registers = record { range = whole 2 2; block = 0; next = 8; initial = 0 } ∷ [];
  memories = [];
  nodes = record { width = 1; operation = o.Bits (whole 0 1) }
      ∷ record { width = 1; operation = o.Bits (whole 1 1) }
      ∷ record { width = 2; operation = o.Bits (whole 2 2) }
      ∷ record { width = 1; operation = o.Constant 1 }
      ∷ record { width = 2; operation = o.Extend false 3 }
      ∷ record { width = 2; operation = o.Binary two.Add false 2 4 }
      ∷ record { width = 2; operation = o.Constant 3 }
      ∷ record { width = 1; operation = o.Binary two.Eq false 2 6 }
      ∷ record { width = 2; operation = o.Choose 1 5 2 }
      ∷ [];
  writes = [];
  blocks = record {
    scope = 0;
    events = record { condition = 7; effect = e.Said (codes "r is ") }
        ∷ record { condition = 7; effect = e.Showed (record { node = 2; signed = false; base = b.Decimal; fewest = true }) }
        ∷ record { condition = 7; effect = e.Said (codes "\n") }
        ∷ record { condition = 7; effect = e.Stopped (record { token = 0; line = 9 }) false }
        ∷ [];
  } ∷ [];
}

inputs_stand_there : input_places 0 counter.signals ≡ made.inputs
inputs_stand_there = refl

both_start : flat_start made ≡ state_of (plain.flat_start counter)
both_start = refl

-- enabled at 2, not enabled at 2, and enabled at 3
both_count : flat_next made (state_of (2 ∷ [])) (values_of counter (1 ∷ []) (2 ∷ [])) ≡ state_of (plain.flat_next counter (1 ∷ []) (2 ∷ []))
both_count = refl

both_stay : flat_next made (state_of (2 ∷ [])) (values_of counter (0 ∷ []) (2 ∷ [])) ≡ state_of (2 ∷ [])
both_stay = refl

both_turn_over : flat_next made (state_of (3 ∷ [])) (values_of counter (1 ∷ []) (3 ∷ [])) ≡ state_of (0 ∷ [])
both_turn_over = refl

-- the assertion fires at 3, with its text
both_fire : fired_by_lines made (values_of counter (0 ∷ []) (3 ∷ [])) ≡ record { line = 9; message = codes "r is 3\n" } ∷ []
unfolding digits
both_fire = refl

as_before : plain.flat_fired counter (0 ∷ []) (3 ∷ []) ≡ record { line = 9; message = codes "r is 3\n" } ∷ []
unfolding digits
as_before = refl

neither_fires : fired_by_lines made (values_of counter (0 ∷ []) (2 ∷ [])) ≡ []
neither_fires = refl
