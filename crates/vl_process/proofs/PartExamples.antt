-- Worked examples of parts and numbers: which bits are one part, what parts read, where a loop is told, what a design shows by name, and the
-- scopes and signals of the numbered design that stands for it.
use Rattle.std.specs.Prelude.{◌≡◌, refl, ℕ, Bool, true, false, List, [], ◌∷◌, map, slice_get, Option, Some, None, codes}
use Rattle.bit_ops.specs.declared.operator.Binary.TheVariants as b
use Rattle.netlist.specs.declared.design.Scope as flat_scope
use Rattle.netlist.specs.declared.design.ScopeKind.TheVariants as scope_kind
use Rattle.netlist.specs.declared.design.Signal as flat_signal
use Rattle.netlist.specs.declared.design.SignalKind.TheVariants as sort
use Rattle.netlist.specs.declared.design.Role.{Role}
use Rattle.netlist.specs.declared.design.Role.TheVariants as role
use Rattle.design_names.specs.Variables as tree
use Rattle.design_names.specs.Variables.{Variable, wire, reg, no_scopes, next_scope}
use Rattle.vl_tree.specs.Syntax as t
use Rattle.vl_tree.specs.Syntax.{Source, Place}
use Rattle.vl_design.specs.Design.{Design}
use Rattle.vl_process.specs.Parts.{Part, driven_parts, register_parts, part_reads}
use Rattle.vl_process.specs.Loops.{LoopLine, part_place, lines_of}
use Rattle.vl_process.specs.Run.{initial}
use Rattle.vl_process.specs.Shown.{scope_of}
use Rattle.vl_process.specs.StandsFor.{scope_by_number, signals_by_number, inputs_by_number}
use Rattle.vl_process.proofs.Build.{p, x, lit, rg, dr, lo, nt, dv, md, design_in}
use Rattle.vl_process.proofs.RunExamples.{inverters_design}

abbrev part : ℕ → ℕ → ℕ → ℕ → Part
part s l w o = record { signal = s; low = l; width = w; owner = o }

-- which of the parts the part of a number reads
abbrev read_by : Design → Option Part → List Bool
read_by d None = []
read_by d (Some q) = map (part_reads d q) (driven_parts d)

abbrev part_at : Design → ℕ → Option Part
part_at d n = slice_get (driven_parts d) n

abbrev place_at : Design → Option Part → Option Place
place_at d None = None
place_at d (Some q) = part_place d q

-- ---- two instances: what drives, what clocks, what is shown

inverters_driven : driven_parts inverters_design ≡
    ((part 2 0 1 1) ∷ (part 3 0 1 4) ∷ (part 5 0 1 0) ∷ (part 6 0 1 2) ∷ (part 7 0 1 3) ∷ (part 8 0 1 5) ∷ [])
inverters_driven = refl

inverters_registers : register_parts inverters_design ≡ part 4 0 1 0 ∷ []
inverters_registers = refl

-- u.y reads u.a, and nothing else
inverters_reads : read_by inverters_design (part_at inverters_design 3) ≡
    false ∷ false ∷ true ∷ false ∷ false ∷ false ∷ []
inverters_reads = refl

abbrev var : tree.Kind → List ℕ → Bool → Variable
var k n c = record { kind = k; width = 1; name = n; clock = c }

abbrev inverter : List ℕ → tree.Scope
inverter n = tree.scope true n (var wire (codes "a") false ∷ var wire (codes "y") false ∷ []) no_scopes

inverters_shown : scope_of inverters_design ≡
    tree.scope true (codes "top") (var wire (codes "clk") true ∷ var wire (codes "d") false ∷ var wire (codes "p") false
    ∷ var wire (codes "q") false ∷ var reg (codes "n") false ∷ [])
    (next_scope (inverter (codes "u")) (next_scope (inverter (codes "v")) no_scopes))
inverters_shown = refl

abbrev numbered : Option ℕ → List ℕ → flat_scope.Scope
numbered q n = record { parent = q; kind = scope_kind.Instance; name = n }

inverters_scopes : map (scope_by_number inverters_design) inverters_design.scopes ≡
    numbered None (codes "top") ∷ numbered (Some 0) (codes "u") ∷ numbered (Some 0) (codes "v") ∷ []
inverters_scopes = refl

abbrev net : ℕ → List ℕ → Role → flat_signal.Signal
net s n r = record { scope = Some s; name = n; kind = sort.Wire; width = 1; role = r; kept = 0 }

inverters_signals : signals_by_number inverters_design inverters_design.signals (initial inverters_design).signals ≡
    net 0 (codes "clk") role.Clock ∷ net 0 (codes "d") (role.Input 0) ∷ net 0 (codes "p") role.Inner
    ∷ net 0 (codes "q") role.Inner ∷ record (net 0 (codes "n") role.Inner) { kind = sort.Reg }
    ∷ net 1 (codes "a") role.Inner ∷ net 1 (codes "y") role.Inner ∷ net 2 (codes "a") role.Inner
    ∷ net 2 (codes "y") role.Inner ∷ []
inverters_signals = refl

inverters_inputs : inputs_by_number inverters_design ≡ 1 ∷ []
inverters_inputs = refl

-- ---- an adder by a generate loop: the bits of a vector that different assignments drive are parts of their own

-- module add(input [1:0] a, input [1:0] b, output [2:0] s);
--   wire [2:0] c;
--   assign c[0] = 1'b0;
--   genvar i;
--   for (i = 0; i < 2; i = i + 1) begin : g
--     assign s[i] = a[i] ^ b[i] ^ c[i];
--     assign c[i+1] = (a[i] & b[i]) | (c[i] & (a[i] ^ b[i]));
--   end
--   assign s[2] = c[2];
-- endmodule
abbrev adder_text : Source
adder_text =
    ((md (p 0 1) (x (codes "add") 1 1) ([]) (Some ((t.declared_port (dr (p 3 1) t.input None false (Some (rg (p 4 1)
    (t.number (p 5 1) (lit 32 false true 1 0)) (t.number (p 7 1) (lit 32 false true 0 0))))) (x (codes "a") 9 1)) ∷
    (t.declared_port (dr (p 11 1) t.input None false (Some (rg (p 12 1) (t.number (p 13 1) (lit 32 false true 1 0))
    (t.number (p 15 1) (lit 32 false true 0 0))))) (x (codes "b") 17 1)) ∷ (t.declared_port (dr (p 19 1) t.output
    None false (Some (rg (p 20 1) (t.number (p 21 1) (lit 32 false true 2 0)) (t.number (p 23 1) (lit 32 false true 0
    0))))) (x (codes "s") 25 1)) ∷ [])) (t.more_item (t.nets (p 28 2) false (Some (rg (p 29 2) (t.number (p 30 2)
    (lit 32 false true 2 0)) (t.number (p 32 2) (lit 32 false true 0 0)))) ((nt (x (codes "c") 34 2) None) ∷ []))
    (t.more_item (t.continuous (p 36 3) ((dv (t.name (x (codes "c") 37 3) (t.more_select (p 38 3) (t.index (t.number
    (p 39 3) (lit 32 false true 0 0))) t.no_select)) (p 41 3) (t.number (p 42 3) (lit 1 true false 0 0))) ∷ []))
    (t.more_item (t.genvar (p 44 4) ((x (codes "i") 45 4) ∷ [])) (t.more_item (t.generate_loop (p 47 5) (lo (x (codes
    "i") 49 5) (t.number (p 51 5) (lit 32 false true 0 0)) (t.chain (t.read (x (codes "i") 53 5) t.no_select)
    (t.more_link b.Lt (p 54 5) (t.number (p 55 5) (lit 32 false true 2 0)) t.no_link)) (x (codes "i") 57 5) (t.chain
    (t.read (x (codes "i") 59 5) t.no_select) (t.more_link b.Add (p 60 5) (t.number (p 61 5) (lit 32 false true 1 0))
    t.no_link))) (t.several (p 63 5) (Some (x (codes "g") 65 5)) (t.more_item (t.continuous (p 66 6) ((dv (t.name (x
    (codes "s") 67 6) (t.more_select (p 68 6) (t.index (t.read (x (codes "i") 69 6) t.no_select)) t.no_select)) (p 71
    6) (t.chain (t.read (x (codes "a") 72 6) (t.more_select (p 73 6) (t.index (t.read (x (codes "i") 74 6)
    t.no_select)) t.no_select)) (t.more_link b.Xor (p 76 6) (t.read (x (codes "b") 77 6) (t.more_select (p 78 6)
    (t.index (t.read (x (codes "i") 79 6) t.no_select)) t.no_select)) (t.more_link b.Xor (p 81 6) (t.read (x (codes
    "c") 82 6) (t.more_select (p 83 6) (t.index (t.read (x (codes "i") 84 6) t.no_select)) t.no_select))
    t.no_link)))) ∷ [])) (t.more_item (t.continuous (p 87 7) ((dv (t.name (x (codes "c") 88 7) (t.more_select (p 89
    7) (t.index (t.chain (t.read (x (codes "i") 90 7) t.no_select) (t.more_link b.Add (p 91 7) (t.number (p 92 7)
    (lit 32 false true 1 0)) t.no_link))) t.no_select)) (p 94 7) (t.chain (t.group (p 95 7) (t.chain (t.read (x
    (codes "a") 96 7) (t.more_select (p 97 7) (t.index (t.read (x (codes "i") 98 7) t.no_select)) t.no_select))
    (t.more_link b.And (p 100 7) (t.read (x (codes "b") 101 7) (t.more_select (p 102 7) (t.index (t.read (x (codes
    "i") 103 7) t.no_select)) t.no_select)) t.no_link))) (t.more_link b.Or (p 106 7) (t.group (p 107 7) (t.chain
    (t.read (x (codes "c") 108 7) (t.more_select (p 109 7) (t.index (t.read (x (codes "i") 110 7) t.no_select))
    t.no_select)) (t.more_link b.And (p 112 7) (t.group (p 113 7) (t.chain (t.read (x (codes "a") 114 7)
    (t.more_select (p 115 7) (t.index (t.read (x (codes "i") 116 7) t.no_select)) t.no_select)) (t.more_link b.Xor (p
    118 7) (t.read (x (codes "b") 119 7) (t.more_select (p 120 7) (t.index (t.read (x (codes "i") 121 7)
    t.no_select)) t.no_select)) t.no_link))) t.no_link))) t.no_link))) ∷ [])) t.no_item)))) (t.more_item
    (t.continuous (p 127 9) ((dv (t.name (x (codes "s") 128 9) (t.more_select (p 129 9) (t.index (t.number (p 130 9)
    (lit 32 false true 2 0))) t.no_select)) (p 132 9) (t.read (x (codes "c") 133 9) (t.more_select (p 134 9) (t.index
    (t.number (p 135 9) (lit 32 false true 2 0))) t.no_select))) ∷ [])) t.no_item)))))) ∷ [])

abbrev adder : Design
adder = design_in adder_text

adder_driven : driven_parts adder ≡
    ((part 2 0 1 2) ∷ (part 2 1 1 4) ∷ (part 2 2 1 1) ∷ (part 3 0 1 0) ∷ (part 3 1 1 3) ∷ (part 3 2 1 5) ∷ [])
adder_driven = refl

-- c[2] reads c[1], and no other bit of c
adder_reads : read_by adder (part_at adder 5) ≡ false ∷ false ∷ false ∷ false ∷ true ∷ false ∷ []
adder_reads = refl

-- ---- one assignment to names in braces: bits that lie together are one part, though each name drives by itself

-- module m(input [2:0] d, output [3:0] y, output z);
--   assign {y[2], y[3], z} = d;
--   assign y[1:0] = d;
-- endmodule
abbrev braced_text : Source
braced_text =
    ((md (p 0 1) (x (codes "m") 1 1) ([]) (Some ((t.declared_port (dr (p 3 1) t.input None false (Some (rg (p 4 1)
    (t.number (p 5 1) (lit 32 false true 2 0)) (t.number (p 7 1) (lit 32 false true 0 0))))) (x (codes "d") 9 1)) ∷
    (t.declared_port (dr (p 11 1) t.output None false (Some (rg (p 12 1) (t.number (p 13 1) (lit 32 false true 3 0))
    (t.number (p 15 1) (lit 32 false true 0 0))))) (x (codes "y") 17 1)) ∷ (t.declared_port (dr (p 19 1) t.output
    None false None) (x (codes "z") 20 1)) ∷ [])) (t.more_item (t.continuous (p 23 2) ((dv (t.targets (p 24 2)
    (t.more_target (t.name (x (codes "y") 25 2) (t.more_select (p 26 2) (t.index (t.number (p 27 2) (lit 32 false
    true 2 0))) t.no_select)) (t.more_target (t.name (x (codes "y") 30 2) (t.more_select (p 31 2) (t.index (t.number
    (p 32 2) (lit 32 false true 3 0))) t.no_select)) (t.more_target (t.name (x (codes "z") 35 2) t.no_select)
    t.no_target)))) (p 37 2) (t.read (x (codes "d") 38 2) t.no_select)) ∷ [])) (t.more_item (t.continuous (p 40 3)
    ((dv (t.name (x (codes "y") 41 3) (t.more_select (p 42 3) (t.part (t.number (p 43 3) (lit 32 false true 1 0))
    (t.number (p 45 3) (lit 32 false true 0 0))) t.no_select)) (p 47 3) (t.read (x (codes "d") 48 3) t.no_select)) ∷
    [])) t.no_item))) ∷ [])

abbrev braced : Design
braced = design_in braced_text

braced_driven : driven_parts braced ≡
    ((part 1 0 2 1) ∷ (part 1 2 2 0) ∷ (part 2 0 1 0) ∷ [])
braced_driven = refl

-- it stands at the first name that has a bit of it
braced_place : place_at braced (part_at braced 1) ≡ Some (p 25 2)
braced_place = refl

-- ---- a loop, and what its report says

-- module m(input d);
--   wire [1:0] a;
--   assign a[0] = a[1];
--   assign a[1] = a[0] ^ d;
-- endmodule
abbrev loop_text : Source
loop_text =
    ((md (p 0 1) (x (codes "m") 1 1) ([]) (Some ((t.declared_port (dr (p 3 1) t.input None false None) (x (codes "d")
    4 1)) ∷ [])) (t.more_item (t.nets (p 7 2) false (Some (rg (p 8 2) (t.number (p 9 2) (lit 32 false true 1 0))
    (t.number (p 11 2) (lit 32 false true 0 0)))) ((nt (x (codes "a") 13 2) None) ∷ [])) (t.more_item (t.continuous
    (p 15 3) ((dv (t.name (x (codes "a") 16 3) (t.more_select (p 17 3) (t.index (t.number (p 18 3) (lit 32 false true
    0 0))) t.no_select)) (p 20 3) (t.read (x (codes "a") 21 3) (t.more_select (p 22 3) (t.index (t.number (p 23 3)
    (lit 32 false true 1 0))) t.no_select))) ∷ [])) (t.more_item (t.continuous (p 26 4) ((dv (t.name (x (codes "a")
    27 4) (t.more_select (p 28 4) (t.index (t.number (p 29 4) (lit 32 false true 1 0))) t.no_select)) (p 31 4)
    (t.chain (t.read (x (codes "a") 32 4) (t.more_select (p 33 4) (t.index (t.number (p 34 4) (lit 32 false true 0
    0))) t.no_select)) (t.more_link b.Xor (p 36 4) (t.read (x (codes "d") 37 4) t.no_select) t.no_link))) ∷ []))
    t.no_item)))) ∷ [])

abbrev loop : Design
loop = design_in loop_text

loop_reads : map (λ q. map (part_reads loop q) (driven_parts loop)) (driven_parts loop) ≡
    (false ∷ true ∷ []) ∷ (true ∷ false ∷ []) ∷ []
loop_reads = refl

abbrev line : List ℕ → ℕ → ℕ → LoopLine
line path place width = record { path = path; place = place; width = width }

loop_lines : lines_of loop (0 ∷ 1 ∷ []) ≡ line (codes "m.a") 0 1 ∷ line (codes "m.a") 1 1 ∷ []
loop_lines = refl

loop_place : place_at loop (part_at loop 0) ≡ Some (p 16 3)
loop_place = refl

-- ---- an index that varies reads the whole vector, a fixed one its bit

-- module m(input [1:0] i, output x, output z);
--   wire [2:0] v;
--   assign v[0] = i[0];
--   assign v[2:1] = i;
--   assign x = v[i];
--   assign z = v[2];
-- endmodule
abbrev indexed_text : Source
indexed_text =
    ((md (p 0 1) (x (codes "m") 1 1) ([]) (Some ((t.declared_port (dr (p 3 1) t.input None false (Some (rg (p 4 1)
    (t.number (p 5 1) (lit 32 false true 1 0)) (t.number (p 7 1) (lit 32 false true 0 0))))) (x (codes "i") 9 1)) ∷
    (t.declared_port (dr (p 11 1) t.output None false None) (x (codes "x") 12 1)) ∷ (t.declared_port (dr (p 14 1)
    t.output None false None) (x (codes "z") 15 1)) ∷ [])) (t.more_item (t.nets (p 18 2) false (Some (rg (p 19 2)
    (t.number (p 20 2) (lit 32 false true 2 0)) (t.number (p 22 2) (lit 32 false true 0 0)))) ((nt (x (codes "v") 24
    2) None) ∷ [])) (t.more_item (t.continuous (p 26 3) ((dv (t.name (x (codes "v") 27 3) (t.more_select (p 28 3)
    (t.index (t.number (p 29 3) (lit 32 false true 0 0))) t.no_select)) (p 31 3) (t.read (x (codes "i") 32 3)
    (t.more_select (p 33 3) (t.index (t.number (p 34 3) (lit 32 false true 0 0))) t.no_select))) ∷ [])) (t.more_item
    (t.continuous (p 37 4) ((dv (t.name (x (codes "v") 38 4) (t.more_select (p 39 4) (t.part (t.number (p 40 4) (lit
    32 false true 2 0)) (t.number (p 42 4) (lit 32 false true 1 0))) t.no_select)) (p 44 4) (t.read (x (codes "i") 45
    4) t.no_select)) ∷ [])) (t.more_item (t.continuous (p 47 5) ((dv (t.name (x (codes "x") 48 5) t.no_select) (p 49
    5) (t.read (x (codes "v") 50 5) (t.more_select (p 51 5) (t.index (t.read (x (codes "i") 52 5) t.no_select))
    t.no_select))) ∷ [])) (t.more_item (t.continuous (p 55 6) ((dv (t.name (x (codes "z") 56 6) t.no_select) (p 57 6)
    (t.read (x (codes "v") 58 6) (t.more_select (p 59 6) (t.index (t.number (p 60 6) (lit 32 false true 2 0)))
    t.no_select))) ∷ [])) t.no_item)))))) ∷ [])

abbrev indexed : Design
indexed = design_in indexed_text

indexed_reads : map (λ q. map (part_reads indexed q) (driven_parts indexed)) (driven_parts indexed) ≡
    (false ∷ false ∷ true ∷ true ∷ []) ∷ (false ∷ false ∷ false ∷ true ∷ []) ∷ (false ∷ false ∷ false ∷ false ∷ [])
    ∷ (false ∷ false ∷ false ∷ false ∷ []) ∷ []
indexed_reads = refl
