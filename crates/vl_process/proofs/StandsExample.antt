-- A numbered design by hand beside the design that it stands for: the same numbers, start, cycles, next states and assertions. A register that
-- isn't written keeps its bits only where the values of the cycle have the state's.
use Rattle.std.specs.Prelude.{◌≡◌, refl, ℕ, Bool, true, false, List, [], ◌∷◌, ◌++◌, map, Some, None, codes}
use Rattle.std.specs.List.{list_any}
use Rattle.bit_ops.specs.declared.operator.Binary.TheVariants as b
use Rattle.bit_ops.specs.declared.operator.Unary.TheVariants as u
use Rattle.netlist.specs.Design.{Flat}
use Rattle.netlist.specs.Values.{Values, node_values}
use Rattle.netlist.specs.Run.{State, FlatSettles, flat_start, flat_next, flat_fired}
use Rattle.netlist.specs.declared.design.ScopeKind.TheVariants as scope_kind
use Rattle.netlist.specs.declared.design.Signal as flat_signal
use Rattle.netlist.specs.declared.design.SignalKind.{SignalKind}
use Rattle.netlist.specs.declared.design.SignalKind.TheVariants as sort
use Rattle.netlist.specs.declared.design.Role.{Role}
use Rattle.netlist.specs.declared.design.Role.TheVariants as role
use Rattle.netlist.specs.declared.design.Range.{Range}
use Rattle.netlist.specs.declared.design.Effect.TheVariants as e
use Rattle.netlist.specs.declared.node.Node.{Node}
use Rattle.netlist.specs.declared.node.Operation.{Operation}
use Rattle.netlist.specs.declared.node.Operation.TheVariants as o
use Rattle.vl_tree.specs.Syntax as t
use Rattle.vl_tree.specs.Syntax.{Source}
use Rattle.vl_design.specs.Design.{Design}
use Rattle.design_names.specs.Stops.{event_stops}
use Rattle.vl_value.specs.Reads.{up_to}
use Rattle.vl_design.specs.Lists.{each_of}
use Rattle.vl_process.specs.Parts.{Part, driven_parts, register_parts, part_readings, path_at, is_read_in}
use Rattle.vl_process.specs.Stops.{block_assertions}
use Rattle.vl_process.specs.FlatReads.{reads_bit, events_at}
use Rattle.vl_process.specs.Processes.{blocks}
use Rattle.vl_process.specs.Run.{initial, next, fires}
use Rattle.vl_process.specs.StandsFor.{scope_by_number, signals_by_number, inputs_by_number, range_of, whole_state, all_fired_by, assertion_of, block_scope}
use Rattle.vl_process.proofs.Build.{p, x, dr, dv, sn, md, design_in, values, each_driven, fired}

-- module m(input clk, input en, input d, output reg q, output w);
--   assign w = ~q;
--   always @(posedge clk) begin
--     if (en) q <= d;
--     if (q) begin $display("q"); $stop; end
--   end
-- endmodule
abbrev kept_text : Source
kept_text =
    ((md (p 0 1) (x (codes "m") 1 1) ([]) (Some ((t.declared_port (dr (p 3 1) t.input None false None) (x (codes
    "clk") 4 1)) ∷ (t.declared_port (dr (p 6 1) t.input None false None) (x (codes "en") 7 1)) ∷ (t.declared_port (dr
    (p 9 1) t.input None false None) (x (codes "d") 10 1)) ∷ (t.declared_port (dr (p 12 1) t.output (Some t.reg)
    false None) (x (codes "q") 14 1)) ∷ (t.declared_port (dr (p 16 1) t.output None false None) (x (codes "w") 17 1))
    ∷ [])) (t.more_item (t.continuous (p 20 2) ((dv (t.name (x (codes "w") 21 2) t.no_select) (p 22 2) (t.unary (p 23
    2) u.Not (t.read (x (codes "q") 24 2) t.no_select))) ∷ [])) (t.more_item (t.always (p 26 3) (t.sensed ((sn
    (t.positive_edge (p 29 3)) (t.read (x (codes "clk") 30 3) t.no_select)) ∷ [])) (t.block (p 32 3) None
    (t.more_stmt (t.conditional (t.more_branch (p 33 4) (t.read (x (codes "en") 35 4) t.no_select) (t.assign (t.name
    (x (codes "q") 37 4) t.no_select) t.nonblocking (p 38 4) (t.read (x (codes "d") 39 4) t.no_select)) t.no_branch)
    t.no_else) (t.more_stmt (t.conditional (t.more_branch (p 41 5) (t.read (x (codes "q") 43 5) t.no_select) (t.block
    (p 45 5) None (t.more_stmt (t.print (p 46 5) t.display (t.format (p 48 5) (codes "q") t.no_expr)) (t.more_stmt
    (t.stop (p 51 5) t.no_argument) t.no_stmt))) t.no_branch) t.no_else) t.no_stmt)))) t.no_item))) ∷ [])

abbrev kept : Design
kept = design_in kept_text

abbrev signal : List ℕ → SignalKind → Role → flat_signal.Signal
signal n k r = record { scope = Some 0; name = n; kind = k; width = 1; role = r; kept = 0 }

abbrev bit_of : ℕ → Range
bit_of n = record { signal = n; low = 0; width = 1 }

abbrev node : Operation → Node
node op = record { width = 1; operation = op }

-- q, ~q, en, d, and en ? d : q
abbrev nodes : List Node
nodes = node (o.Bits (bit_of 3)) ∷ node (o.Unary u.Not 0) ∷ node (o.Bits (bit_of 1)) ∷ node (o.Bits (bit_of 2))
    ∷ node (o.Choose 2 3 0) ∷ []

abbrev flat : Flat
flat = record {
  scopes = record { parent = None; kind = scope_kind.Instance; name = codes "m" } ∷ [];
  signals = signal (codes "clk") sort.Wire role.Clock ∷ signal (codes "en") sort.Wire (role.Input 0)
      ∷ signal (codes "d") sort.Wire (role.Input 1) ∷ signal (codes "q") sort.Reg role.Inner
      ∷ signal (codes "w") sort.Wire role.Inner ∷ [];
  inputs = 1 ∷ 2 ∷ [];
  driven = record { range = bit_of 4; node = 1 } ∷ [];
  registers = record { range = bit_of 3; block = 0; next = 4; initial = 0 } ∷ [];
  memories = [];
  nodes = nodes;
  writes = [];
  blocks = record {
    scope = 0;
    events = record { condition = 0; effect = e.Said (codes "q\n") }
        ∷ record { condition = 0; effect = e.Stopped (record { token = 51; line = 5 }) false } ∷ [];
  } ∷ [];
}

-- ---- numbers

scopes : flat.scopes ≡ map (scope_by_number kept) kept.scopes
scopes = refl

signals : flat.signals ≡ signals_by_number kept kept.signals (initial kept).signals
signals = refl

inputs : flat.inputs ≡ inputs_by_number kept
inputs = refl

driven : map (λ q. q.range) flat.driven ≡ map range_of (driven_parts kept)
driven = refl

registers : map (λ q. q.range) flat.registers ≡ map range_of (register_parts kept)
registers = refl

owners : map (λ q. q.block) flat.registers ≡ map (λ (q : Part). q.owner) (register_parts kept)
owners = refl

blocks_stand : map (λ q. Some q.scope) flat.blocks ≡ map (block_scope kept) (blocks kept)
blocks_stand = refl

start : whole_state flat (flat_start flat) ≡ initial kept
start = refl

-- ---- cycles: the values of en, d and q, and then of w

abbrev state : ℕ → State
state q = record { registers = q ∷ []; memories = [] }

abbrev cycle : ℕ → ℕ → ℕ → ℕ → Values
cycle en d q w = values (0 ∷ en ∷ d ∷ q ∷ w ∷ []) []

-- what settles there settles here
settles : FlatSettles flat (state 1) (0 ∷ 1 ∷ []) (cycle 0 1 1 0)
settles = refl

holds : each_driven kept (cycle 0 1 1 0) ≡ cycle 0 1 1 0 ∷ []
holds = refl

-- w isn't ~q, there nor here
settles_not : node_values flat (cycle 0 1 1 1) ≡ 1 ∷ 0 ∷ 0 ∷ 1 ∷ 1 ∷ []
settles_not = refl

holds_not : each_driven kept (cycle 0 1 1 1) ≡ cycle 0 1 1 0 ∷ []
holds_not = refl

-- whether the next states are alike in cycles with these values
abbrev next_there : ℕ → ℕ → ℕ → ℕ → Values
next_there en d q w = whole_state flat (flat_next flat (state q) (cycle en d q w))

abbrev next_here : ℕ → ℕ → ℕ → ℕ → Values
next_here en d q w = next kept (whole_state flat (state q)) (cycle en d q w)

keeps_1 : next_there 0 0 1 0 ≡ next_here 0 0 1 0
keeps_1 = refl

keeps_0 : next_there 0 1 0 1 ≡ next_here 0 1 0 1
keeps_0 = refl

takes_1 : next_there 1 1 0 1 ≡ next_here 1 1 0 1
takes_1 = refl

takes_0 : next_there 1 0 1 0 ≡ next_here 1 0 1 0
takes_0 = refl

-- values that aren't those of a cycle of the state q = 0: what isn't written is taken from the values there, from the state here
unsettled_there : (whole_state flat (flat_next flat (state 0) (cycle 0 0 1 0))).signals ≡ 0 ∷ 0 ∷ 0 ∷ 1 ∷ 0 ∷ []
unsettled_there = refl

unsettled_here : (next kept (whole_state flat (state 0)) (cycle 0 0 1 0)).signals ≡ 0 ∷ 0 ∷ 0 ∷ 0 ∷ 0 ∷ []
unsettled_here = refl

-- ---- assertions

fires_alike : all_fired_by flat (flat_fired flat (cycle 0 0 1 0)) ≡ fires kept (cycle 0 0 1 0)
fires_alike = refl

fires_so : fires kept (cycle 0 0 1 0) ≡ fired (codes "m") 51 5 false (codes "q\n") ∷ []
fires_so = refl

quiet_alike : all_fired_by flat (flat_fired flat (cycle 1 1 0 1)) ≡ fires kept (cycle 1 1 0 1)
quiet_alike = refl

assertions_alike : map assertion_of (event_stops 0 (events_at flat.blocks 0)) ∷ [] ≡ map block_assertions (blocks kept)
assertions_alike = refl

-- one that never fires is there as well
-- module m(input clk, input a);
--   always @(posedge clk) if (a & ~a) $stop; else begin $fatal; end
-- endmodule
abbrev never_text : Source
never_text =
    ((md (p 0 1) (x (codes "m") 1 1) ([]) (Some ((t.declared_port (dr (p 3 1) t.input None false None) (x (codes
    "clk") 4 1)) ∷ (t.declared_port (dr (p 6 1) t.input None false None) (x (codes "a") 7 1)) ∷ [])) (t.more_item
    (t.always (p 10 2) (t.sensed ((sn (t.positive_edge (p 13 2)) (t.read (x (codes "clk") 14 2) t.no_select)) ∷ []))
    (t.conditional (t.more_branch (p 16 2) (t.chain (t.read (x (codes "a") 18 2) t.no_select) (t.more_link b.And (p
    19 2) (t.unary (p 20 2) u.Not (t.read (x (codes "a") 21 2) t.no_select)) t.no_link)) (t.stop (p 23 2)
    t.no_argument) t.no_branch) (t.else_stmt (t.block (p 26 2) None (t.more_stmt (t.fatal (p 27 2) false)
    t.no_stmt))))) t.no_item)) ∷ [])

never : map block_assertions (blocks (design_in never_text)) ≡ (record { place = p 23 2; fatal = false } ∷ record { place = p 27 2; fatal = true } ∷ []) ∷ []
never = refl

-- ---- what w reads: q, and no other bit

abbrev reads_here : List Bool
reads_here = map (λ k. list_any (is_read_in (path_at kept k) 0 1) (each_of (part_readings kept) (driven_parts kept))) (up_to 5)

reads_alike : map (λ k. reads_bit flat 1 k 0) (up_to 5) ≡ reads_here
reads_alike = refl

-- of the same value, and yet not what the text reads: ~q that keeps en
abbrev reading_more : Flat
reading_more = record flat { nodes = nodes ++ node (o.Keep 1 2) ∷ [] }

reads_more : map (λ k. reads_bit reading_more 5 k 0) (up_to 5) ≡ false ∷ true ∷ false ∷ true ∷ false ∷ []
reads_more = refl

reads_so : reads_here ≡ false ∷ false ∷ false ∷ true ∷ false ∷ []
reads_so = refl
