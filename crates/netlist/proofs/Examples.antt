-- Worked examples of designs: a carry that ripples through parts, a loop, and a memory with two writes in one cycle.
use Rattle.std.proofs.Common.{◌≡◌, refl, ℕ, zero, suc, ◌-◌, ◌<◌, ◌≤◌, true, false, [], ◌∷◌, slice_index, slice_index_or, subst, arith}
use Rattle.std.specs.Prelude.{Some, None}
use Rattle.std.specs.Fmt.{digits}
use Rattle.bit_ops.specs.declared.operator.Binary.TheVariants as two
use Rattle.netlist.specs.Design.{Flat}
use Rattle.netlist.specs.Graph.{reads, ReadsPart, ReadsIn}
use Rattle.netlist.specs.Run.{flat_start, flat_next, flat_fired, FlatSettles}
use Rattle.netlist.specs.Order.{flat_val, IsOrder, IsNearest, IsLoop}
use Rattle.netlist.specs.declared.design.Signal.{Signal}
use Rattle.netlist.specs.declared.design.SignalKind.TheVariants as kind
use Rattle.netlist.specs.declared.design.ScopeKind.TheVariants as scope
use Rattle.netlist.specs.declared.design.Role.{Role}
use Rattle.netlist.specs.declared.design.Role.TheVariants as role
use Rattle.netlist.specs.declared.design.Range.{Range}
use Rattle.netlist.specs.declared.design.Base.TheVariants as b
use Rattle.netlist.specs.declared.design.Effect.TheVariants as e
use Rattle.netlist.specs.declared.node.Operation.TheVariants as n

abbrev signal : ℕ → Role → Signal
signal w r = record { scope = Some 0; name = []; kind = kind.Wire; width = w; role = r; kept = 0 }

abbrev bits : ℕ → ℕ → ℕ → Range
bits k low w = record { signal = k; low = low; width = w }

-- ---- a = input of 3 bits, c carries: c[0] = a[0], c[1] = c[0] & a[1], c[2] = c[1] & a[2]

abbrev ripple : Flat
ripple = record {
  scopes = record { parent = None; kind = scope.Instance; name = [] } ∷ [];
  signals = signal 3 (role.Input 0) ∷ signal 3 role.Inner ∷ [];
  inputs = 0 ∷ [];
  driven = record { range = bits 1 0 1; node = 0 } ∷ record { range = bits 1 1 1; node = 3 }
      ∷ record { range = bits 1 2 1; node = 6 } ∷ [];
  registers = [];
  memories = [];
  nodes = record { width = 1; operation = n.Bits (bits 0 0 1) }
      ∷ record { width = 1; operation = n.Bits (bits 1 0 1) }
      ∷ record { width = 1; operation = n.Bits (bits 0 1 1) }
      ∷ record { width = 1; operation = n.Binary two.And false 1 2 }
      ∷ record { width = 1; operation = n.Bits (bits 1 1 1) }
      ∷ record { width = 1; operation = n.Bits (bits 0 2 1) }
      ∷ record { width = 1; operation = n.Binary two.And false 4 5 }
      ∷ [];
  writes = [];
  blocks = [];
}

-- the vector reads itself, and no part does
second_reads_first : reads ripple 3 (record { range = bits 1 0 1; node = 0 }) ≡ true
second_reads_first = refl

second_not_itself : reads ripple 3 (record { range = bits 1 1 1; node = 3 }) ≡ false
second_not_itself = refl

-- 3 is 011: the first two carry
rippled : flat_val ripple (0 ∷ 1 ∷ 2 ∷ []) (flat_start ripple) (3 ∷ []) ≡ record { signals = 3 ∷ 3 ∷ []; memories = [] }
rippled = refl

settles : FlatSettles ripple (flat_start ripple) (7 ∷ []) (record { signals = 7 ∷ 7 ∷ []; memories = [] })
settles = refl

-- ---- assign a = b; assign b = a;

abbrev loop : Flat
loop = record {
  scopes = record { parent = None; kind = scope.Instance; name = [] } ∷ [];
  signals = signal 1 role.Inner ∷ signal 1 role.Inner ∷ [];
  inputs = [];
  driven = record { range = bits 0 0 1; node = 0 } ∷ record { range = bits 1 0 1; node = 1 } ∷ [];
  registers = [];
  memories = [];
  nodes = record { width = 1; operation = n.Bits (bits 1 0 1) }
      ∷ record { width = 1; operation = n.Bits (bits 0 0 1) } ∷ [];
  writes = [];
  blocks = [];
}

-- each settles: both 0, and both 1
both_zero : FlatSettles loop (flat_start loop) [] (record { signals = 0 ∷ 0 ∷ []; memories = [] })
both_zero = refl

both_one : FlatSettles loop (flat_start loop) [] (record { signals = 1 ∷ 1 ∷ []; memories = [] })
both_one = refl

-- ---- always @(posedge clk) begin m[1] <= 5; m[1][3:2] <= 2; r <= m[1]; $write("m is %0d", r); if (r) $stop; end

abbrev memory : Flat
memory = record {
  scopes = record { parent = None; kind = scope.Instance; name = [] } ∷ [];
  signals = signal 1 role.Clock ∷ signal 4 role.Inner ∷ [];
  inputs = [];
  driven = [];
  registers = record { range = bits 1 0 4; block = 0; next = 3; initial = 0 } ∷ [];
  memories = record { width = 4; first = 2; last = 1; words = 3 ∷ 8 ∷ []; writer = Some 0 } ∷ [];
  nodes = record { width = 1; operation = n.Constant 1 }
      ∷ record { width = 4; operation = n.Constant 5 }
      ∷ record { width = 2; operation = n.Constant 2 }
      ∷ record { width = 4; operation = n.Word 0 (record { node = 0; signed = false }) }
      ∷ record { width = 1; operation = n.Constant 0 }
      ∷ record { width = 4; operation = n.Bits (bits 1 0 4) }
      ∷ [];
  writes = record {
    block = 0;
    condition = 0;
    memory = 0;
    index = record { node = 0; signed = false };
    place = record
        { node = 4; signed = false };
    width = 4;
    value = 1;
  }
      ∷ record {
        block = 0;
        condition = 0;
        memory = 0;
        index = record { node = 0; signed = false };
        place = record {
          node = 2;
          signed = false;
        };
        width = 2;
        value = 2;
      }
      ∷ [];
  blocks = record {
    scope = 0;
    events = record { condition = 0; effect = e.Said (109 ∷ []) }
        ∷ record {
          condition = 0;
          effect = e.Showed
              (record { node = 5; signed = false; base = b.Decimal; fewest = false });
        }
        ∷ record { condition = 5; effect = e.Stopped (record { token = 0; line = 1 }) false }
        ∷ [];
  } ∷ [];
}

-- 5 is 0101, and with 10 at the places 2 and 3 it is 1001; the index 1 is the least. The register takes the word that
-- stood there
written_twice : flat_next memory (flat_start memory) (flat_val memory []
    (flat_start memory) []) ≡ record { registers = 3 ∷ []; memories = (9 ∷ 8 ∷ []) ∷ [] }
written_twice = refl

quiet : flat_fired memory (flat_val memory [] (flat_start memory) []) ≡ []
quiet = refl

-- `%d` of 9 in 4 bits has two columns
fired : flat_fired memory (flat_val memory [] (record {
  registers = 9 ∷ [];
  memories = (9 ∷ 8 ∷ [])
      ∷ [];
}) []) ≡ record { stop = 0; message = 109 ∷ 32 ∷ 57 ∷ [] } ∷ []
unfolding digits
fired = refl

-- ---- an order of the one design, and the loop of the other

differ : false ≡ true → ⊥
differ h = cc

-- a part of the carry reads those before it alone
carries_in_order : (i j : ℕ) → i < 3 → j < 3
    → ReadsPart ripple (slice_index (0 ∷ 1 ∷ 2 ∷ []) i) (slice_index (0 ∷ 1 ∷ 2 ∷ []) j) → j < i
carries_in_order zero zero a b h = absurd (differ h)
carries_in_order zero (suc zero) a b h = absurd (differ h)
carries_in_order zero (suc (suc zero)) a b h = absurd (differ h)
carries_in_order (suc zero) zero a b h = omega arith
carries_in_order (suc zero) (suc zero) a b h = absurd (differ h)
carries_in_order (suc zero) (suc (suc zero)) a b h = absurd (differ h)
carries_in_order (suc (suc zero)) zero a b h = omega arith
carries_in_order (suc (suc zero)) (suc zero) a b h = omega arith
carries_in_order (suc (suc zero)) (suc (suc zero)) a b h = absurd (differ h)
carries_in_order (suc (suc (suc i))) j a b h = absurd (omega arith)
carries_in_order i (suc (suc (suc j))) a b h = absurd (omega arith)

carry_has_place : (p : ℕ) → p < 3 → (i : ℕ) × (i < 3) × (slice_index (0 ∷ 1 ∷ 2 ∷ []) i ≡ p)
carry_has_place zero l = (0, omega arith, refl)
carry_has_place (suc zero) l = (1, omega arith, refl)
carry_has_place (suc (suc zero)) l = (2, omega arith, refl)
carry_has_place (suc (suc (suc p))) l = absurd (omega arith)

ripple_order : IsOrder ripple (0 ∷ 1 ∷ 2 ∷ [])
ripple_order = record { count = refl; each = carry_has_place; after = carries_in_order }

-- part 0 reads part 1, which reads part 0
one_read_back : (r m : ℕ) → ReadsPart loop 0 r → ReadsIn loop m r 0 → 1 ≤ m
one_read_back r zero h back = absurd (differ (subst (λ x. ReadsPart loop 0 x) back h))
one_read_back r (suc m) h back = omega arith

not_itself : (r : ℕ) → ReadsPart loop 0 r → ReadsIn loop 1 r 0 → 1 ≤ r
not_itself zero h back = absurd (differ h)
not_itself (suc r) h back = omega arith

nearest : (i : ℕ) → i < 2 → IsNearest loop (slice_index (0 ∷ 1 ∷ []) i) (slice_index_or (0 ∷ 1
    ∷ []) (suc i) 0) 0 (2 - suc i)
nearest zero l = record { reads = refl; back = (0, refl, refl); fewest = one_read_back; least = not_itself }
nearest (suc zero) l = record {
  reads = refl;
  back = refl;
  fewest = λ r m h back. omega arith;
  least = λ r h back. omega arith;
}
nearest (suc (suc i)) l = absurd (omega arith)

two_in_a_loop : IsLoop loop (0 ∷ 1 ∷ [])
two_in_a_loop = record { some = omega arith; first = λ p n h. omega arith; next = nearest }
