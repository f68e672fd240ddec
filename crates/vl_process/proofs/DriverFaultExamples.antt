-- Worked examples of phase 8: each kind of fault, where it stands, and what is none.
use Rattle.std.specs.Prelude.{◌≡◌, refl, true, false, [], ◌∷◌, Some, None, codes}
use Rattle.bit_ops.specs.declared.operator.Binary.TheVariants as b
use Rattle.vl_tree.specs.declared.fault.FaultKind.TheVariants as k
use Rattle.vl_tree.specs.Syntax as t
use Rattle.vl_tree.specs.Syntax.{Source}
use Rattle.vl_process.proofs.Build.{p, x, lit, rg, dr, lo, nb, nt, dv, sn, ins, md, fault_in}

-- ---- bits with two drivers

-- module m(input d);
--   wire a;
--   assign a = d;
--   assign a = d;
-- endmodule
abbrev two_assignments_text : Source
two_assignments_text =
    ((md (p 0 1) (x (codes "m") 1 1) ([]) (Some ((t.declared_port (dr (p 3 1) t.input None false None) (x (codes "d")
    4 1)) ∷ [])) (t.more_item (t.nets (p 7 2) false None ((nt (x (codes "a") 8 2) None) ∷ [])) (t.more_item
    (t.continuous (p 10 3) ((dv (t.name (x (codes "a") 11 3) t.no_select) (p 12 3) (t.read (x (codes "d") 13 3)
    t.no_select)) ∷ [])) (t.more_item (t.continuous (p 15 4) ((dv (t.name (x (codes "a") 16 4) t.no_select) (p 17 4)
    (t.read (x (codes "d") 18 4) t.no_select)) ∷ [])) t.no_item)))) ∷ [])

two_assignments : fault_in two_assignments_text ≡ Some (8, (Some 16, k.ManyDrivers))
two_assignments = refl

-- module m(input d);
--   wire a = d;
--   assign a = d;
-- endmodule
abbrev value_and_assignment_text : Source
value_and_assignment_text =
    ((md (p 0 1) (x (codes "m") 1 1) ([]) (Some ((t.declared_port (dr (p 3 1) t.input None false None) (x (codes "d")
    4 1)) ∷ [])) (t.more_item (t.nets (p 7 2) false None ((nt (x (codes "a") 8 2) (Some (t.read (x (codes "d") 10 2)
    t.no_select))) ∷ [])) (t.more_item (t.continuous (p 12 3) ((dv (t.name (x (codes "a") 13 3) t.no_select) (p 14 3)
    (t.read (x (codes "d") 15 3) t.no_select)) ∷ [])) t.no_item))) ∷ [])

value_and_assignment : fault_in value_and_assignment_text ≡ Some (8, (Some 13, k.ManyDrivers))
value_and_assignment = refl

-- module m(input d);
--   wire [1:0] a;
--   assign a[0] = d;
--   assign a[1] = d;
-- endmodule
abbrev other_bits_text : Source
other_bits_text =
    ((md (p 0 1) (x (codes "m") 1 1) ([]) (Some ((t.declared_port (dr (p 3 1) t.input None false None) (x (codes "d")
    4 1)) ∷ [])) (t.more_item (t.nets (p 7 2) false (Some (rg (p 8 2) (t.number (p 9 2) (lit 32 false true 1 0))
    (t.number (p 11 2) (lit 32 false true 0 0)))) ((nt (x (codes "a") 13 2) None) ∷ [])) (t.more_item (t.continuous
    (p 15 3) ((dv (t.name (x (codes "a") 16 3) (t.more_select (p 17 3) (t.index (t.number (p 18 3) (lit 32 false true
    0 0))) t.no_select)) (p 20 3) (t.read (x (codes "d") 21 3) t.no_select)) ∷ [])) (t.more_item (t.continuous (p 23
    4) ((dv (t.name (x (codes "a") 24 4) (t.more_select (p 25 4) (t.index (t.number (p 26 4) (lit 32 false true 1
    0))) t.no_select)) (p 28 4) (t.read (x (codes "d") 29 4) t.no_select)) ∷ [])) t.no_item)))) ∷ [])

other_bits : fault_in other_bits_text ≡ None
other_bits = refl

-- module m(input d);
--   wire [2:0] a;
--   assign a[1:0] = d;
--   assign a[2:1] = d;
-- endmodule
abbrev a_common_bit_text : Source
a_common_bit_text =
    ((md (p 0 1) (x (codes "m") 1 1) ([]) (Some ((t.declared_port (dr (p 3 1) t.input None false None) (x (codes "d")
    4 1)) ∷ [])) (t.more_item (t.nets (p 7 2) false (Some (rg (p 8 2) (t.number (p 9 2) (lit 32 false true 2 0))
    (t.number (p 11 2) (lit 32 false true 0 0)))) ((nt (x (codes "a") 13 2) None) ∷ [])) (t.more_item (t.continuous
    (p 15 3) ((dv (t.name (x (codes "a") 16 3) (t.more_select (p 17 3) (t.part (t.number (p 18 3) (lit 32 false true
    1 0)) (t.number (p 20 3) (lit 32 false true 0 0))) t.no_select)) (p 22 3) (t.read (x (codes "d") 23 3)
    t.no_select)) ∷ [])) (t.more_item (t.continuous (p 25 4) ((dv (t.name (x (codes "a") 26 4) (t.more_select (p 27
    4) (t.part (t.number (p 28 4) (lit 32 false true 2 0)) (t.number (p 30 4) (lit 32 false true 1 0))) t.no_select))
    (p 32 4) (t.read (x (codes "d") 33 4) t.no_select)) ∷ [])) t.no_item)))) ∷ [])

a_common_bit : fault_in a_common_bit_text ≡ Some (8, (Some 26, k.ManyDrivers))
a_common_bit = refl

-- module m(input d);
--   wire a;
--   assign {a, a} = d;
-- endmodule
abbrev twice_in_braces_text : Source
twice_in_braces_text =
    ((md (p 0 1) (x (codes "m") 1 1) ([]) (Some ((t.declared_port (dr (p 3 1) t.input None false None) (x (codes "d")
    4 1)) ∷ [])) (t.more_item (t.nets (p 7 2) false None ((nt (x (codes "a") 8 2) None) ∷ [])) (t.more_item
    (t.continuous (p 10 3) ((dv (t.targets (p 11 3) (t.more_target (t.name (x (codes "a") 12 3) t.no_select)
    (t.more_target (t.name (x (codes "a") 14 3) t.no_select) t.no_target))) (p 16 3) (t.read (x (codes "d") 17 3)
    t.no_select)) ∷ [])) t.no_item))) ∷ [])

twice_in_braces : fault_in twice_in_braces_text ≡ Some (8, (Some 14, k.ManyDrivers))
twice_in_braces = refl

-- module m(input d);
--   assign d = 1;
-- endmodule
abbrev input_of_the_top_text : Source
input_of_the_top_text =
    ((md (p 0 1) (x (codes "m") 1 1) ([]) (Some ((t.declared_port (dr (p 3 1) t.input None false None) (x (codes "d")
    4 1)) ∷ [])) (t.more_item (t.continuous (p 7 2) ((dv (t.name (x (codes "d") 8 2) t.no_select) (p 9 2) (t.number
    (p 10 2) (lit 32 false true 1 0))) ∷ [])) t.no_item)) ∷ [])

input_of_the_top : fault_in input_of_the_top_text ≡ Some (8, (Some 8, k.ManyDrivers))
input_of_the_top = refl

-- module m(input d);
--   assign d[1] = 1;
-- endmodule
abbrev outside_of_an_input_text : Source
outside_of_an_input_text =
    ((md (p 0 1) (x (codes "m") 1 1) ([]) (Some ((t.declared_port (dr (p 3 1) t.input None false None) (x (codes "d")
    4 1)) ∷ [])) (t.more_item (t.continuous (p 7 2) ((dv (t.name (x (codes "d") 8 2) (t.more_select (p 9 2) (t.index
    (t.number (p 10 2) (lit 32 false true 1 0))) t.no_select)) (p 12 2) (t.number (p 13 2) (lit 32 false true 1 0)))
    ∷ [])) t.no_item)) ∷ [])

outside_of_an_input : fault_in outside_of_an_input_text ≡ None
outside_of_an_input = refl

-- module c(input a);
--   assign a = 1;
-- endmodule
-- module m(input d);
--   c u(.a(d));
-- endmodule
abbrev connected_input_text : Source
connected_input_text =
    ((md (p 0 1) (x (codes "c") 1 1) ([]) (Some ((t.declared_port (dr (p 3 1) t.input None false None) (x (codes "a")
    4 1)) ∷ [])) (t.more_item (t.continuous (p 7 2) ((dv (t.name (x (codes "a") 8 2) t.no_select) (p 9 2) (t.number
    (p 10 2) (lit 32 false true 1 0))) ∷ [])) t.no_item)) ∷ (md (p 13 4) (x (codes "m") 14 4) ([]) (Some
    ((t.declared_port (dr (p 16 4) t.input None false None) (x (codes "d") 17 4)) ∷ [])) (t.more_item (t.instances (x
    (codes "c") 20 5) None ((ins (x (codes "u") 21 5) (Some (t.by_name ((nb (p 23 5) (x (codes "a") 24 5) (Some
    (t.read (x (codes "d") 26 5) t.no_select))) ∷ [])))) ∷ [])) t.no_item)) ∷ [])

connected_input : fault_in connected_input_text ≡ Some (8, (Some 24, k.ManyDrivers))
connected_input = refl

-- module c(input a);
--   assign a = 1;
-- endmodule
-- module m(input d);
--   c u(d);
-- endmodule
abbrev connected_in_order_text : Source
connected_in_order_text =
    ((md (p 0 1) (x (codes "c") 1 1) ([]) (Some ((t.declared_port (dr (p 3 1) t.input None false None) (x (codes "a")
    4 1)) ∷ [])) (t.more_item (t.continuous (p 7 2) ((dv (t.name (x (codes "a") 8 2) t.no_select) (p 9 2) (t.number
    (p 10 2) (lit 32 false true 1 0))) ∷ [])) t.no_item)) ∷ (md (p 13 4) (x (codes "m") 14 4) ([]) (Some
    ((t.declared_port (dr (p 16 4) t.input None false None) (x (codes "d") 17 4)) ∷ [])) (t.more_item (t.instances (x
    (codes "c") 20 5) None ((ins (x (codes "u") 21 5) (Some (t.ordered (t.more_expr (t.read (x (codes "d") 23 5)
    t.no_select) t.no_expr)))) ∷ [])) t.no_item)) ∷ [])

connected_in_order : fault_in connected_in_order_text ≡ Some (8, (Some 23, k.ManyDrivers))
connected_in_order = refl

-- module c(input a);
--   assign a = 1;
-- endmodule
-- module m;
--   c u();
-- endmodule
abbrev open_input_text : Source
open_input_text =
    ((md (p 0 1) (x (codes "c") 1 1) ([]) (Some ((t.declared_port (dr (p 3 1) t.input None false None) (x (codes "a")
    4 1)) ∷ [])) (t.more_item (t.continuous (p 7 2) ((dv (t.name (x (codes "a") 8 2) t.no_select) (p 9 2) (t.number
    (p 10 2) (lit 32 false true 1 0))) ∷ [])) t.no_item)) ∷ (md (p 13 4) (x (codes "m") 14 4) ([]) None (t.more_item
    (t.instances (x (codes "c") 16 5) None ((ins (x (codes "u") 17 5) None) ∷ [])) t.no_item)) ∷ [])

open_input : fault_in open_input_text ≡ Some (8, (Some 8, k.ManyDrivers))
open_input = refl

-- module c(output y);
--   assign y = 1;
-- endmodule
-- module m;
--   wire w;
--   c u(.y(w)), v(.y(w));
-- endmodule
abbrev two_outputs_text : Source
two_outputs_text =
    ((md (p 0 1) (x (codes "c") 1 1) ([]) (Some ((t.declared_port (dr (p 3 1) t.output None false None) (x (codes
    "y") 4 1)) ∷ [])) (t.more_item (t.continuous (p 7 2) ((dv (t.name (x (codes "y") 8 2) t.no_select) (p 9 2)
    (t.number (p 10 2) (lit 32 false true 1 0))) ∷ [])) t.no_item)) ∷ (md (p 13 4) (x (codes "m") 14 4) ([]) None
    (t.more_item (t.nets (p 16 5) false None ((nt (x (codes "w") 17 5) None) ∷ [])) (t.more_item (t.instances (x
    (codes "c") 19 6) None ((ins (x (codes "u") 20 6) (Some (t.by_name ((nb (p 22 6) (x (codes "y") 23 6) (Some
    (t.read (x (codes "w") 25 6) t.no_select))) ∷ [])))) ∷ (ins (x (codes "v") 29 6) (Some (t.by_name ((nb (p 31 6)
    (x (codes "y") 32 6) (Some (t.read (x (codes "w") 34 6) t.no_select))) ∷ [])))) ∷ [])) t.no_item))) ∷ [])

two_outputs : fault_in two_outputs_text ≡ Some (8, (Some 34, k.ManyDrivers))
two_outputs = refl

-- module m(input d);
--   wire a;
--   genvar i;
--   for (i = 0; i < 2; i = i + 1) assign a = d;
-- endmodule
abbrev two_turns_text : Source
two_turns_text =
    ((md (p 0 1) (x (codes "m") 1 1) ([]) (Some ((t.declared_port (dr (p 3 1) t.input None false None) (x (codes "d")
    4 1)) ∷ [])) (t.more_item (t.nets (p 7 2) false None ((nt (x (codes "a") 8 2) None) ∷ [])) (t.more_item (t.genvar
    (p 10 3) ((x (codes "i") 11 3) ∷ [])) (t.more_item (t.generate_loop (p 13 4) (lo (x (codes "i") 15 4) (t.number
    (p 17 4) (lit 32 false true 0 0)) (t.chain (t.read (x (codes "i") 19 4) t.no_select) (t.more_link b.Lt (p 20 4)
    (t.number (p 21 4) (lit 32 false true 2 0)) t.no_link)) (x (codes "i") 23 4) (t.chain (t.read (x (codes "i") 25
    4) t.no_select) (t.more_link b.Add (p 26 4) (t.number (p 27 4) (lit 32 false true 1 0)) t.no_link))) (t.single
    (t.continuous (p 29 4) ((dv (t.name (x (codes "a") 30 4) t.no_select) (p 31 4) (t.read (x (codes "d") 32 4)
    t.no_select)) ∷ [])))) t.no_item)))) ∷ [])

two_turns : fault_in two_turns_text ≡ Some (8, (Some 30, k.ManyDrivers))
two_turns = refl

-- module m(input d);
--   wire [1:0] a;
--   genvar i;
--   for (i = 0; i < 2; i = i + 1) assign a[i] = d;
-- endmodule
abbrev turns_of_other_bits_text : Source
turns_of_other_bits_text =
    ((md (p 0 1) (x (codes "m") 1 1) ([]) (Some ((t.declared_port (dr (p 3 1) t.input None false None) (x (codes "d")
    4 1)) ∷ [])) (t.more_item (t.nets (p 7 2) false (Some (rg (p 8 2) (t.number (p 9 2) (lit 32 false true 1 0))
    (t.number (p 11 2) (lit 32 false true 0 0)))) ((nt (x (codes "a") 13 2) None) ∷ [])) (t.more_item (t.genvar (p 15
    3) ((x (codes "i") 16 3) ∷ [])) (t.more_item (t.generate_loop (p 18 4) (lo (x (codes "i") 20 4) (t.number (p 22
    4) (lit 32 false true 0 0)) (t.chain (t.read (x (codes "i") 24 4) t.no_select) (t.more_link b.Lt (p 25 4)
    (t.number (p 26 4) (lit 32 false true 2 0)) t.no_link)) (x (codes "i") 28 4) (t.chain (t.read (x (codes "i") 30
    4) t.no_select) (t.more_link b.Add (p 31 4) (t.number (p 32 4) (lit 32 false true 1 0)) t.no_link))) (t.single
    (t.continuous (p 34 4) ((dv (t.name (x (codes "a") 35 4) (t.more_select (p 36 4) (t.index (t.read (x (codes "i")
    37 4) t.no_select)) t.no_select)) (p 39 4) (t.read (x (codes "d") 40 4) t.no_select)) ∷ [])))) t.no_item)))) ∷
    [])

turns_of_other_bits : fault_in turns_of_other_bits_text ≡ None
turns_of_other_bits = refl

-- module m(input clk);
--   reg q;
--   always @(posedge clk) q <= 1;
--   always @(posedge clk) q <= 0;
-- endmodule
abbrev two_blocks_text : Source
two_blocks_text =
    ((md (p 0 1) (x (codes "m") 1 1) ([]) (Some ((t.declared_port (dr (p 3 1) t.input None false None) (x (codes
    "clk") 4 1)) ∷ [])) (t.more_item (t.registers (p 7 2) false None ((t.variable (x (codes "q") 8 2)) ∷ []))
    (t.more_item (t.always (p 10 3) (t.sensed ((sn (t.positive_edge (p 13 3)) (t.read (x (codes "clk") 14 3)
    t.no_select)) ∷ [])) (t.assign (t.name (x (codes "q") 16 3) t.no_select) t.nonblocking (p 17 3) (t.number (p 18
    3) (lit 32 false true 1 0)))) (t.more_item (t.always (p 20 4) (t.sensed ((sn (t.positive_edge (p 23 4)) (t.read
    (x (codes "clk") 24 4) t.no_select)) ∷ [])) (t.assign (t.name (x (codes "q") 26 4) t.no_select) t.nonblocking (p
    27 4) (t.number (p 28 4) (lit 32 false true 0 0)))) t.no_item)))) ∷ [])

two_blocks : fault_in two_blocks_text ≡ Some (8, (Some 20, k.ManyDrivers))
two_blocks = refl

-- module m(input clk);
--   reg [1:0] q;
--   always @(posedge clk) q[0] <= 1;
--   always @(posedge clk) q[1] <= 0;
-- endmodule
abbrev two_blocks_of_other_bits_text : Source
two_blocks_of_other_bits_text =
    ((md (p 0 1) (x (codes "m") 1 1) ([]) (Some ((t.declared_port (dr (p 3 1) t.input None false None) (x (codes
    "clk") 4 1)) ∷ [])) (t.more_item (t.registers (p 7 2) false (Some (rg (p 8 2) (t.number (p 9 2) (lit 32 false
    true 1 0)) (t.number (p 11 2) (lit 32 false true 0 0)))) ((t.variable (x (codes "q") 13 2)) ∷ [])) (t.more_item
    (t.always (p 15 3) (t.sensed ((sn (t.positive_edge (p 18 3)) (t.read (x (codes "clk") 19 3) t.no_select)) ∷ []))
    (t.assign (t.name (x (codes "q") 21 3) (t.more_select (p 22 3) (t.index (t.number (p 23 3) (lit 32 false true 0
    0))) t.no_select)) t.nonblocking (p 25 3) (t.number (p 26 3) (lit 32 false true 1 0)))) (t.more_item (t.always (p
    28 4) (t.sensed ((sn (t.positive_edge (p 31 4)) (t.read (x (codes "clk") 32 4) t.no_select)) ∷ [])) (t.assign
    (t.name (x (codes "q") 34 4) (t.more_select (p 35 4) (t.index (t.number (p 36 4) (lit 32 false true 1 0)))
    t.no_select)) t.nonblocking (p 38 4) (t.number (p 39 4) (lit 32 false true 0 0)))) t.no_item)))) ∷ [])

two_blocks_of_other_bits : fault_in two_blocks_of_other_bits_text ≡ None
two_blocks_of_other_bits = refl

-- module m(input clk);
--   reg q;
--   always @(posedge clk) begin q <= 1; q <= 0; end
-- endmodule
abbrev twice_in_a_block_text : Source
twice_in_a_block_text =
    ((md (p 0 1) (x (codes "m") 1 1) ([]) (Some ((t.declared_port (dr (p 3 1) t.input None false None) (x (codes
    "clk") 4 1)) ∷ [])) (t.more_item (t.registers (p 7 2) false None ((t.variable (x (codes "q") 8 2)) ∷ []))
    (t.more_item (t.always (p 10 3) (t.sensed ((sn (t.positive_edge (p 13 3)) (t.read (x (codes "clk") 14 3)
    t.no_select)) ∷ [])) (t.block (p 16 3) None (t.more_stmt (t.assign (t.name (x (codes "q") 17 3) t.no_select)
    t.nonblocking (p 18 3) (t.number (p 19 3) (lit 32 false true 1 0))) (t.more_stmt (t.assign (t.name (x (codes "q")
    21 3) t.no_select) t.nonblocking (p 22 3) (t.number (p 23 3) (lit 32 false true 0 0))) t.no_stmt)))) t.no_item)))
    ∷ [])

twice_in_a_block : fault_in twice_in_a_block_text ≡ None
twice_in_a_block = refl

-- module m(input clk, input i);
--   reg [1:0] q;
--   always @(posedge clk) q[0] <= 1;
--   always @(posedge clk) q[i] <= 0;
-- endmodule
abbrev place_that_varies_counts_for_all_text : Source
place_that_varies_counts_for_all_text =
    ((md (p 0 1) (x (codes "m") 1 1) ([]) (Some ((t.declared_port (dr (p 3 1) t.input None false None) (x (codes
    "clk") 4 1)) ∷ (t.declared_port (dr (p 6 1) t.input None false None) (x (codes "i") 7 1)) ∷ [])) (t.more_item
    (t.registers (p 10 2) false (Some (rg (p 11 2) (t.number (p 12 2) (lit 32 false true 1 0)) (t.number (p 14 2)
    (lit 32 false true 0 0)))) ((t.variable (x (codes "q") 16 2)) ∷ [])) (t.more_item (t.always (p 18 3) (t.sensed
    ((sn (t.positive_edge (p 21 3)) (t.read (x (codes "clk") 22 3) t.no_select)) ∷ [])) (t.assign (t.name (x (codes
    "q") 24 3) (t.more_select (p 25 3) (t.index (t.number (p 26 3) (lit 32 false true 0 0))) t.no_select))
    t.nonblocking (p 28 3) (t.number (p 29 3) (lit 32 false true 1 0)))) (t.more_item (t.always (p 31 4) (t.sensed
    ((sn (t.positive_edge (p 34 4)) (t.read (x (codes "clk") 35 4) t.no_select)) ∷ [])) (t.assign (t.name (x (codes
    "q") 37 4) (t.more_select (p 38 4) (t.index (t.read (x (codes "i") 39 4) t.no_select)) t.no_select))
    t.nonblocking (p 41 4) (t.number (p 42 4) (lit 32 false true 0 0)))) t.no_item)))) ∷ [])

place_that_varies_counts_for_all : fault_in place_that_varies_counts_for_all_text ≡ Some (8, (Some 31, k.ManyDrivers))
place_that_varies_counts_for_all = refl

-- module m(input clk);
--   reg a [0:1];
--   always @(posedge clk) a[0] <= 1;
--   always @(posedge clk) a[1] <= 1;
-- endmodule
abbrev two_blocks_of_a_memory_text : Source
two_blocks_of_a_memory_text =
    ((md (p 0 1) (x (codes "m") 1 1) ([]) (Some ((t.declared_port (dr (p 3 1) t.input None false None) (x (codes
    "clk") 4 1)) ∷ [])) (t.more_item (t.registers (p 7 2) false None ((t.memory (x (codes "a") 8 2) (rg (p 9 2)
    (t.number (p 10 2) (lit 32 false true 0 0)) (t.number (p 12 2) (lit 32 false true 1 0)))) ∷ [])) (t.more_item
    (t.always (p 15 3) (t.sensed ((sn (t.positive_edge (p 18 3)) (t.read (x (codes "clk") 19 3) t.no_select)) ∷ []))
    (t.assign (t.name (x (codes "a") 21 3) (t.more_select (p 22 3) (t.index (t.number (p 23 3) (lit 32 false true 0
    0))) t.no_select)) t.nonblocking (p 25 3) (t.number (p 26 3) (lit 32 false true 1 0)))) (t.more_item (t.always (p
    28 4) (t.sensed ((sn (t.positive_edge (p 31 4)) (t.read (x (codes "clk") 32 4) t.no_select)) ∷ [])) (t.assign
    (t.name (x (codes "a") 34 4) (t.more_select (p 35 4) (t.index (t.number (p 36 4) (lit 32 false true 1 0)))
    t.no_select)) t.nonblocking (p 38 4) (t.number (p 39 4) (lit 32 false true 1 0)))) t.no_item)))) ∷ [])

two_blocks_of_a_memory : fault_in two_blocks_of_a_memory_text ≡ Some (8, (Some 28, k.ManyDrivers))
two_blocks_of_a_memory = refl

-- ---- clocks

-- module m;
--   reg c, r;
--   always @(posedge c) r <= 1;
-- endmodule
abbrev clock_of_a_variable_text : Source
clock_of_a_variable_text =
    ((md (p 0 1) (x (codes "m") 1 1) ([]) None (t.more_item (t.registers (p 3 2) false None ((t.variable (x (codes
    "c") 4 2)) ∷ (t.variable (x (codes "r") 6 2)) ∷ [])) (t.more_item (t.always (p 8 3) (t.sensed ((sn
    (t.positive_edge (p 11 3)) (t.read (x (codes "c") 12 3) t.no_select)) ∷ [])) (t.assign (t.name (x (codes "r") 14
    3) t.no_select) t.nonblocking (p 15 3) (t.number (p 16 3) (lit 32 false true 1 0)))) t.no_item))) ∷ [])

clock_of_a_variable : fault_in clock_of_a_variable_text ≡ Some (8, (Some 11, k.BadClock))
clock_of_a_variable = refl

-- module m(input [1:0] c);
--   reg r;
--   always @(posedge c) r <= 1;
-- endmodule
abbrev clock_of_two_bits_text : Source
clock_of_two_bits_text =
    ((md (p 0 1) (x (codes "m") 1 1) ([]) (Some ((t.declared_port (dr (p 3 1) t.input None false (Some (rg (p 4 1)
    (t.number (p 5 1) (lit 32 false true 1 0)) (t.number (p 7 1) (lit 32 false true 0 0))))) (x (codes "c") 9 1)) ∷
    [])) (t.more_item (t.registers (p 12 2) false None ((t.variable (x (codes "r") 13 2)) ∷ [])) (t.more_item
    (t.always (p 15 3) (t.sensed ((sn (t.positive_edge (p 18 3)) (t.read (x (codes "c") 19 3) t.no_select)) ∷ []))
    (t.assign (t.name (x (codes "r") 21 3) t.no_select) t.nonblocking (p 22 3) (t.number (p 23 3) (lit 32 false true
    1 0)))) t.no_item))) ∷ [])

clock_of_two_bits : fault_in clock_of_two_bits_text ≡ Some (8, (Some 18, k.BadClock))
clock_of_two_bits = refl

-- module m(input [1:0] c);
--   reg r;
--   always @(posedge c[0]) r <= 1;
-- endmodule
abbrev clock_by_a_select_text : Source
clock_by_a_select_text =
    ((md (p 0 1) (x (codes "m") 1 1) ([]) (Some ((t.declared_port (dr (p 3 1) t.input None false (Some (rg (p 4 1)
    (t.number (p 5 1) (lit 32 false true 1 0)) (t.number (p 7 1) (lit 32 false true 0 0))))) (x (codes "c") 9 1)) ∷
    [])) (t.more_item (t.registers (p 12 2) false None ((t.variable (x (codes "r") 13 2)) ∷ [])) (t.more_item
    (t.always (p 15 3) (t.sensed ((sn (t.positive_edge (p 18 3)) (t.read (x (codes "c") 19 3) (t.more_select (p 20 3)
    (t.index (t.number (p 21 3) (lit 32 false true 0 0))) t.no_select))) ∷ [])) (t.assign (t.name (x (codes "r") 24
    3) t.no_select) t.nonblocking (p 25 3) (t.number (p 26 3) (lit 32 false true 1 0)))) t.no_item))) ∷ [])

clock_by_a_select : fault_in clock_by_a_select_text ≡ Some (8, (Some 18, k.BadClock))
clock_by_a_select = refl

-- module m(input [0:0] c);
--   reg r;
--   always @(posedge c) r <= 1;
-- endmodule
abbrev clock_of_a_range_of_one_text : Source
clock_of_a_range_of_one_text =
    ((md (p 0 1) (x (codes "m") 1 1) ([]) (Some ((t.declared_port (dr (p 3 1) t.input None false (Some (rg (p 4 1)
    (t.number (p 5 1) (lit 32 false true 0 0)) (t.number (p 7 1) (lit 32 false true 0 0))))) (x (codes "c") 9 1)) ∷
    [])) (t.more_item (t.registers (p 12 2) false None ((t.variable (x (codes "r") 13 2)) ∷ [])) (t.more_item
    (t.always (p 15 3) (t.sensed ((sn (t.positive_edge (p 18 3)) (t.read (x (codes "c") 19 3) t.no_select)) ∷ []))
    (t.assign (t.name (x (codes "r") 21 3) t.no_select) t.nonblocking (p 22 3) (t.number (p 23 3) (lit 32 false true
    1 0)))) t.no_item))) ∷ [])

clock_of_a_range_of_one : fault_in clock_of_a_range_of_one_text ≡ None
clock_of_a_range_of_one = refl

-- module f(input c, input d, output reg q);
--   always @(posedge c) q <= d;
-- endmodule
-- module m(input clk, input d);
--   wire q;
--   f u(clk, d, q);
-- endmodule
abbrev clock_handed_down_text : Source
clock_handed_down_text =
    ((md (p 0 1) (x (codes "f") 1 1) ([]) (Some ((t.declared_port (dr (p 3 1) t.input None false None) (x (codes "c")
    4 1)) ∷ (t.declared_port (dr (p 6 1) t.input None false None) (x (codes "d") 7 1)) ∷ (t.declared_port (dr (p 9 1)
    t.output (Some t.reg) false None) (x (codes "q") 11 1)) ∷ [])) (t.more_item (t.always (p 14 2) (t.sensed ((sn
    (t.positive_edge (p 17 2)) (t.read (x (codes "c") 18 2) t.no_select)) ∷ [])) (t.assign (t.name (x (codes "q") 20
    2) t.no_select) t.nonblocking (p 21 2) (t.read (x (codes "d") 22 2) t.no_select))) t.no_item)) ∷ (md (p 25 4) (x
    (codes "m") 26 4) ([]) (Some ((t.declared_port (dr (p 28 4) t.input None false None) (x (codes "clk") 29 4)) ∷
    (t.declared_port (dr (p 31 4) t.input None false None) (x (codes "d") 32 4)) ∷ [])) (t.more_item (t.nets (p 35 5)
    false None ((nt (x (codes "q") 36 5) None) ∷ [])) (t.more_item (t.instances (x (codes "f") 38 6) None ((ins (x
    (codes "u") 39 6) (Some (t.ordered (t.more_expr (t.read (x (codes "clk") 41 6) t.no_select) (t.more_expr (t.read
    (x (codes "d") 43 6) t.no_select) (t.more_expr (t.read (x (codes "q") 45 6) t.no_select) t.no_expr)))))) ∷ []))
    t.no_item))) ∷ [])

clock_handed_down : fault_in clock_handed_down_text ≡ None
clock_handed_down = refl

-- module f(input c, input d, output reg q);
--   always @(posedge c) q <= d;
-- endmodule
-- module m(input clk, input d);
--   wire q;
--   f u(clk & d, d, q);
-- endmodule
abbrev clock_by_an_expression_text : Source
clock_by_an_expression_text =
    ((md (p 0 1) (x (codes "f") 1 1) ([]) (Some ((t.declared_port (dr (p 3 1) t.input None false None) (x (codes "c")
    4 1)) ∷ (t.declared_port (dr (p 6 1) t.input None false None) (x (codes "d") 7 1)) ∷ (t.declared_port (dr (p 9 1)
    t.output (Some t.reg) false None) (x (codes "q") 11 1)) ∷ [])) (t.more_item (t.always (p 14 2) (t.sensed ((sn
    (t.positive_edge (p 17 2)) (t.read (x (codes "c") 18 2) t.no_select)) ∷ [])) (t.assign (t.name (x (codes "q") 20
    2) t.no_select) t.nonblocking (p 21 2) (t.read (x (codes "d") 22 2) t.no_select))) t.no_item)) ∷ (md (p 25 4) (x
    (codes "m") 26 4) ([]) (Some ((t.declared_port (dr (p 28 4) t.input None false None) (x (codes "clk") 29 4)) ∷
    (t.declared_port (dr (p 31 4) t.input None false None) (x (codes "d") 32 4)) ∷ [])) (t.more_item (t.nets (p 35 5)
    false None ((nt (x (codes "q") 36 5) None) ∷ [])) (t.more_item (t.instances (x (codes "f") 38 6) None ((ins (x
    (codes "u") 39 6) (Some (t.ordered (t.more_expr (t.chain (t.read (x (codes "clk") 41 6) t.no_select) (t.more_link
    b.And (p 42 6) (t.read (x (codes "d") 43 6) t.no_select) t.no_link)) (t.more_expr (t.read (x (codes "d") 45 6)
    t.no_select) (t.more_expr (t.read (x (codes "q") 47 6) t.no_select) t.no_expr)))))) ∷ [])) t.no_item))) ∷ [])

clock_by_an_expression : fault_in clock_by_an_expression_text ≡ Some (8, (Some 41, k.BadClock))
clock_by_an_expression = refl

-- module f(input c, input d, output reg q);
--   always @(posedge c) q <= d;
-- endmodule
-- module m(input clk, input d);
--   wire q;
--   f u(.c((clk)), .d(d), .q(q));
-- endmodule
abbrev clock_in_parentheses_text : Source
clock_in_parentheses_text =
    ((md (p 0 1) (x (codes "f") 1 1) ([]) (Some ((t.declared_port (dr (p 3 1) t.input None false None) (x (codes "c")
    4 1)) ∷ (t.declared_port (dr (p 6 1) t.input None false None) (x (codes "d") 7 1)) ∷ (t.declared_port (dr (p 9 1)
    t.output (Some t.reg) false None) (x (codes "q") 11 1)) ∷ [])) (t.more_item (t.always (p 14 2) (t.sensed ((sn
    (t.positive_edge (p 17 2)) (t.read (x (codes "c") 18 2) t.no_select)) ∷ [])) (t.assign (t.name (x (codes "q") 20
    2) t.no_select) t.nonblocking (p 21 2) (t.read (x (codes "d") 22 2) t.no_select))) t.no_item)) ∷ (md (p 25 4) (x
    (codes "m") 26 4) ([]) (Some ((t.declared_port (dr (p 28 4) t.input None false None) (x (codes "clk") 29 4)) ∷
    (t.declared_port (dr (p 31 4) t.input None false None) (x (codes "d") 32 4)) ∷ [])) (t.more_item (t.nets (p 35 5)
    false None ((nt (x (codes "q") 36 5) None) ∷ [])) (t.more_item (t.instances (x (codes "f") 38 6) None ((ins (x
    (codes "u") 39 6) (Some (t.by_name ((nb (p 41 6) (x (codes "c") 42 6) (Some (t.group (p 44 6) (t.read (x (codes
    "clk") 45 6) t.no_select)))) ∷ (nb (p 49 6) (x (codes "d") 50 6) (Some (t.read (x (codes "d") 52 6)
    t.no_select))) ∷ (nb (p 55 6) (x (codes "q") 56 6) (Some (t.read (x (codes "q") 58 6) t.no_select))) ∷ [])))) ∷
    [])) t.no_item))) ∷ [])

clock_in_parentheses : fault_in clock_in_parentheses_text ≡ Some (8, (Some 42, k.BadClock))
clock_in_parentheses = refl

-- module f(input c, input d, output reg q);
--   always @(posedge c) q <= d;
-- endmodule
-- module m(input clk, input d);
--   wire q;
--   wire c;
--   f u(c, d, q);
-- endmodule
abbrev clock_of_a_net_text : Source
clock_of_a_net_text =
    ((md (p 0 1) (x (codes "f") 1 1) ([]) (Some ((t.declared_port (dr (p 3 1) t.input None false None) (x (codes "c")
    4 1)) ∷ (t.declared_port (dr (p 6 1) t.input None false None) (x (codes "d") 7 1)) ∷ (t.declared_port (dr (p 9 1)
    t.output (Some t.reg) false None) (x (codes "q") 11 1)) ∷ [])) (t.more_item (t.always (p 14 2) (t.sensed ((sn
    (t.positive_edge (p 17 2)) (t.read (x (codes "c") 18 2) t.no_select)) ∷ [])) (t.assign (t.name (x (codes "q") 20
    2) t.no_select) t.nonblocking (p 21 2) (t.read (x (codes "d") 22 2) t.no_select))) t.no_item)) ∷ (md (p 25 4) (x
    (codes "m") 26 4) ([]) (Some ((t.declared_port (dr (p 28 4) t.input None false None) (x (codes "clk") 29 4)) ∷
    (t.declared_port (dr (p 31 4) t.input None false None) (x (codes "d") 32 4)) ∷ [])) (t.more_item (t.nets (p 35 5)
    false None ((nt (x (codes "q") 36 5) None) ∷ [])) (t.more_item (t.nets (p 38 6) false None ((nt (x (codes "c") 39
    6) None) ∷ [])) (t.more_item (t.instances (x (codes "f") 41 7) None ((ins (x (codes "u") 42 7) (Some (t.ordered
    (t.more_expr (t.read (x (codes "c") 44 7) t.no_select) (t.more_expr (t.read (x (codes "d") 46 7) t.no_select)
    (t.more_expr (t.read (x (codes "q") 48 7) t.no_select) t.no_expr)))))) ∷ [])) t.no_item)))) ∷ [])

clock_of_a_net : fault_in clock_of_a_net_text ≡ Some (8, (Some 44, k.BadClock))
clock_of_a_net = refl

-- module f(input c, input d, output reg q);
--   always @(posedge c) q <= d;
-- endmodule
-- module m(input d);
--   wire q;
--   f u(.d(d), .q(q));
-- endmodule
abbrev open_clock_text : Source
open_clock_text =
    ((md (p 0 1) (x (codes "f") 1 1) ([]) (Some ((t.declared_port (dr (p 3 1) t.input None false None) (x (codes "c")
    4 1)) ∷ (t.declared_port (dr (p 6 1) t.input None false None) (x (codes "d") 7 1)) ∷ (t.declared_port (dr (p 9 1)
    t.output (Some t.reg) false None) (x (codes "q") 11 1)) ∷ [])) (t.more_item (t.always (p 14 2) (t.sensed ((sn
    (t.positive_edge (p 17 2)) (t.read (x (codes "c") 18 2) t.no_select)) ∷ [])) (t.assign (t.name (x (codes "q") 20
    2) t.no_select) t.nonblocking (p 21 2) (t.read (x (codes "d") 22 2) t.no_select))) t.no_item)) ∷ (md (p 25 4) (x
    (codes "m") 26 4) ([]) (Some ((t.declared_port (dr (p 28 4) t.input None false None) (x (codes "d") 29 4)) ∷ []))
    (t.more_item (t.nets (p 32 5) false None ((nt (x (codes "q") 33 5) None) ∷ [])) (t.more_item (t.instances (x
    (codes "f") 35 6) None ((ins (x (codes "u") 36 6) (Some (t.by_name ((nb (p 38 6) (x (codes "d") 39 6) (Some
    (t.read (x (codes "d") 41 6) t.no_select))) ∷ (nb (p 44 6) (x (codes "q") 45 6) (Some (t.read (x (codes "q") 47
    6) t.no_select))) ∷ [])))) ∷ [])) t.no_item))) ∷ [])

open_clock : fault_in open_clock_text ≡ Some (8, (Some 36, k.BadClock))
open_clock = refl

-- module f(input c, input d, output reg q);
--   always @(posedge c) q <= d;
-- endmodule
-- module m(input d);
--   wire q;
--   f u(.d(d), .q(q), .c());
-- endmodule
abbrev clock_with_nothing_text : Source
clock_with_nothing_text =
    ((md (p 0 1) (x (codes "f") 1 1) ([]) (Some ((t.declared_port (dr (p 3 1) t.input None false None) (x (codes "c")
    4 1)) ∷ (t.declared_port (dr (p 6 1) t.input None false None) (x (codes "d") 7 1)) ∷ (t.declared_port (dr (p 9 1)
    t.output (Some t.reg) false None) (x (codes "q") 11 1)) ∷ [])) (t.more_item (t.always (p 14 2) (t.sensed ((sn
    (t.positive_edge (p 17 2)) (t.read (x (codes "c") 18 2) t.no_select)) ∷ [])) (t.assign (t.name (x (codes "q") 20
    2) t.no_select) t.nonblocking (p 21 2) (t.read (x (codes "d") 22 2) t.no_select))) t.no_item)) ∷ (md (p 25 4) (x
    (codes "m") 26 4) ([]) (Some ((t.declared_port (dr (p 28 4) t.input None false None) (x (codes "d") 29 4)) ∷ []))
    (t.more_item (t.nets (p 32 5) false None ((nt (x (codes "q") 33 5) None) ∷ [])) (t.more_item (t.instances (x
    (codes "f") 35 6) None ((ins (x (codes "u") 36 6) (Some (t.by_name ((nb (p 38 6) (x (codes "d") 39 6) (Some
    (t.read (x (codes "d") 41 6) t.no_select))) ∷ (nb (p 44 6) (x (codes "q") 45 6) (Some (t.read (x (codes "q") 47
    6) t.no_select))) ∷ (nb (p 50 6) (x (codes "c") 51 6) None) ∷ [])))) ∷ [])) t.no_item))) ∷ [])

clock_with_nothing : fault_in clock_with_nothing_text ≡ Some (8, (Some 51, k.BadClock))
clock_with_nothing = refl

-- module m(input a, input b);
--   reg q, r;
--   always @(posedge b) q <= 1;
--   always @(posedge a) r <= 1;
-- endmodule
abbrev second_clock_text : Source
second_clock_text =
    ((md (p 0 1) (x (codes "m") 1 1) ([]) (Some ((t.declared_port (dr (p 3 1) t.input None false None) (x (codes "a")
    4 1)) ∷ (t.declared_port (dr (p 6 1) t.input None false None) (x (codes "b") 7 1)) ∷ [])) (t.more_item
    (t.registers (p 10 2) false None ((t.variable (x (codes "q") 11 2)) ∷ (t.variable (x (codes "r") 13 2)) ∷ []))
    (t.more_item (t.always (p 15 3) (t.sensed ((sn (t.positive_edge (p 18 3)) (t.read (x (codes "b") 19 3)
    t.no_select)) ∷ [])) (t.assign (t.name (x (codes "q") 21 3) t.no_select) t.nonblocking (p 22 3) (t.number (p 23
    3) (lit 32 false true 1 0)))) (t.more_item (t.always (p 25 4) (t.sensed ((sn (t.positive_edge (p 28 4)) (t.read
    (x (codes "a") 29 4) t.no_select)) ∷ [])) (t.assign (t.name (x (codes "r") 31 4) t.no_select) t.nonblocking (p 32
    4) (t.number (p 33 4) (lit 32 false true 1 0)))) t.no_item)))) ∷ [])

second_clock : fault_in second_clock_text ≡ Some (8, (Some 7, k.SecondClock))
second_clock = refl

-- module m(input clk);
--   reg q;
--   always @(posedge clk) q <= clk;
-- endmodule
abbrev clock_in_a_value_text : Source
clock_in_a_value_text =
    ((md (p 0 1) (x (codes "m") 1 1) ([]) (Some ((t.declared_port (dr (p 3 1) t.input None false None) (x (codes
    "clk") 4 1)) ∷ [])) (t.more_item (t.registers (p 7 2) false None ((t.variable (x (codes "q") 8 2)) ∷ []))
    (t.more_item (t.always (p 10 3) (t.sensed ((sn (t.positive_edge (p 13 3)) (t.read (x (codes "clk") 14 3)
    t.no_select)) ∷ [])) (t.assign (t.name (x (codes "q") 16 3) t.no_select) t.nonblocking (p 17 3) (t.read (x (codes
    "clk") 18 3) t.no_select))) t.no_item))) ∷ [])

clock_in_a_value : fault_in clock_in_a_value_text ≡ Some (8, (Some 18, k.ClockAsData))
clock_in_a_value = refl

-- module m(input clk);
--   always @(posedge clk) $display("%b", clk);
-- endmodule
abbrev clock_in_an_argument_text : Source
clock_in_an_argument_text =
    ((md (p 0 1) (x (codes "m") 1 1) ([]) (Some ((t.declared_port (dr (p 3 1) t.input None false None) (x (codes
    "clk") 4 1)) ∷ [])) (t.more_item (t.always (p 7 2) (t.sensed ((sn (t.positive_edge (p 10 2)) (t.read (x (codes
    "clk") 11 2) t.no_select)) ∷ [])) (t.print (p 13 2) t.display (t.format (p 15 2) (codes "%b") (t.more_expr
    (t.read (x (codes "clk") 17 2) t.no_select) t.no_expr)))) t.no_item)) ∷ [])

clock_in_an_argument : fault_in clock_in_an_argument_text ≡ Some (8, (Some 17, k.ClockAsData))
clock_in_an_argument = refl

-- module m(input clk, output [1:0] y);
--   reg q;
--   wire [1:0] w;
--   assign y = w[clk];
--   always @(posedge clk) q <= 1;
-- endmodule
abbrev clock_as_an_index_text : Source
clock_as_an_index_text =
    ((md (p 0 1) (x (codes "m") 1 1) ([]) (Some ((t.declared_port (dr (p 3 1) t.input None false None) (x (codes
    "clk") 4 1)) ∷ (t.declared_port (dr (p 6 1) t.output None false (Some (rg (p 7 1) (t.number (p 8 1) (lit 32 false
    true 1 0)) (t.number (p 10 1) (lit 32 false true 0 0))))) (x (codes "y") 12 1)) ∷ [])) (t.more_item (t.registers
    (p 15 2) false None ((t.variable (x (codes "q") 16 2)) ∷ [])) (t.more_item (t.nets (p 18 3) false (Some (rg (p 19
    3) (t.number (p 20 3) (lit 32 false true 1 0)) (t.number (p 22 3) (lit 32 false true 0 0)))) ((nt (x (codes "w")
    24 3) None) ∷ [])) (t.more_item (t.continuous (p 26 4) ((dv (t.name (x (codes "y") 27 4) t.no_select) (p 28 4)
    (t.read (x (codes "w") 29 4) (t.more_select (p 30 4) (t.index (t.read (x (codes "clk") 31 4) t.no_select))
    t.no_select))) ∷ [])) (t.more_item (t.always (p 34 5) (t.sensed ((sn (t.positive_edge (p 37 5)) (t.read (x (codes
    "clk") 38 5) t.no_select)) ∷ [])) (t.assign (t.name (x (codes "q") 40 5) t.no_select) t.nonblocking (p 41 5)
    (t.number (p 42 5) (lit 32 false true 1 0)))) t.no_item))))) ∷ [])

clock_as_an_index : fault_in clock_as_an_index_text ≡ Some (8, (Some 31, k.ClockAsData))
clock_as_an_index = refl

-- module f(input c, input d, output reg q);
--   always @(posedge c) q <= d;
-- endmodule
-- module m(input clk, input d);
--   wire q;
--   f u(clk, clk, q);
-- endmodule
abbrev clock_as_data_below_text : Source
clock_as_data_below_text =
    ((md (p 0 1) (x (codes "f") 1 1) ([]) (Some ((t.declared_port (dr (p 3 1) t.input None false None) (x (codes "c")
    4 1)) ∷ (t.declared_port (dr (p 6 1) t.input None false None) (x (codes "d") 7 1)) ∷ (t.declared_port (dr (p 9 1)
    t.output (Some t.reg) false None) (x (codes "q") 11 1)) ∷ [])) (t.more_item (t.always (p 14 2) (t.sensed ((sn
    (t.positive_edge (p 17 2)) (t.read (x (codes "c") 18 2) t.no_select)) ∷ [])) (t.assign (t.name (x (codes "q") 20
    2) t.no_select) t.nonblocking (p 21 2) (t.read (x (codes "d") 22 2) t.no_select))) t.no_item)) ∷ (md (p 25 4) (x
    (codes "m") 26 4) ([]) (Some ((t.declared_port (dr (p 28 4) t.input None false None) (x (codes "clk") 29 4)) ∷
    (t.declared_port (dr (p 31 4) t.input None false None) (x (codes "d") 32 4)) ∷ [])) (t.more_item (t.nets (p 35 5)
    false None ((nt (x (codes "q") 36 5) None) ∷ [])) (t.more_item (t.instances (x (codes "f") 38 6) None ((ins (x
    (codes "u") 39 6) (Some (t.ordered (t.more_expr (t.read (x (codes "clk") 41 6) t.no_select) (t.more_expr (t.read
    (x (codes "clk") 43 6) t.no_select) (t.more_expr (t.read (x (codes "q") 45 6) t.no_select) t.no_expr)))))) ∷ []))
    t.no_item))) ∷ [])

clock_as_data_below : fault_in clock_as_data_below_text ≡ Some (8, (Some 22, k.ClockAsData))
clock_as_data_below = refl

-- module m;
--   reg r;
--   always @(posedge r) r <= 1;
-- endmodule
abbrev clock_that_a_block_drives_text : Source
clock_that_a_block_drives_text =
    ((md (p 0 1) (x (codes "m") 1 1) ([]) None (t.more_item (t.registers (p 3 2) false None ((t.variable (x (codes
    "r") 4 2)) ∷ [])) (t.more_item (t.always (p 6 3) (t.sensed ((sn (t.positive_edge (p 9 3)) (t.read (x (codes "r")
    10 3) t.no_select)) ∷ [])) (t.assign (t.name (x (codes "r") 12 3) t.no_select) t.nonblocking (p 13 3) (t.number
    (p 14 3) (lit 32 false true 1 0)))) t.no_item))) ∷ [])

clock_that_a_block_drives : fault_in clock_that_a_block_drives_text ≡ Some (8, (Some 6, k.ClockAsData))
clock_that_a_block_drives = refl

-- module m(input d);
--   wire c;
--   reg r;
--   assign c = d;
--   always @(posedge c) r <= 1;
-- endmodule
abbrev clock_that_is_driven_text : Source
clock_that_is_driven_text =
    ((md (p 0 1) (x (codes "m") 1 1) ([]) (Some ((t.declared_port (dr (p 3 1) t.input None false None) (x (codes "d")
    4 1)) ∷ [])) (t.more_item (t.nets (p 7 2) false None ((nt (x (codes "c") 8 2) None) ∷ [])) (t.more_item
    (t.registers (p 10 3) false None ((t.variable (x (codes "r") 11 3)) ∷ [])) (t.more_item (t.continuous (p 13 4)
    ((dv (t.name (x (codes "c") 14 4) t.no_select) (p 15 4) (t.read (x (codes "d") 16 4) t.no_select)) ∷ []))
    (t.more_item (t.always (p 18 5) (t.sensed ((sn (t.positive_edge (p 21 5)) (t.read (x (codes "c") 22 5)
    t.no_select)) ∷ [])) (t.assign (t.name (x (codes "r") 24 5) t.no_select) t.nonblocking (p 25 5) (t.number (p 26
    5) (lit 32 false true 1 0)))) t.no_item))))) ∷ [])

clock_that_is_driven : fault_in clock_that_is_driven_text ≡ Some (8, (Some 14, k.ClockAsData))
clock_that_is_driven = refl

-- module m(input clk, input d);
--   reg q, r;
--   always @(posedge clk) q <= d;
--   always @(clk or d) r = d;
-- endmodule
abbrev clock_in_a_list_without_an_edge_text : Source
clock_in_a_list_without_an_edge_text =
    ((md (p 0 1) (x (codes "m") 1 1) ([]) (Some ((t.declared_port (dr (p 3 1) t.input None false None) (x (codes
    "clk") 4 1)) ∷ (t.declared_port (dr (p 6 1) t.input None false None) (x (codes "d") 7 1)) ∷ [])) (t.more_item
    (t.registers (p 10 2) false None ((t.variable (x (codes "q") 11 2)) ∷ (t.variable (x (codes "r") 13 2)) ∷ []))
    (t.more_item (t.always (p 15 3) (t.sensed ((sn (t.positive_edge (p 18 3)) (t.read (x (codes "clk") 19 3)
    t.no_select)) ∷ [])) (t.assign (t.name (x (codes "q") 21 3) t.no_select) t.nonblocking (p 22 3) (t.read (x (codes
    "d") 23 3) t.no_select))) (t.more_item (t.always (p 25 4) (t.sensed ((sn t.no_edge (t.read (x (codes "clk") 28 4)
    t.no_select)) ∷ (sn t.no_edge (t.read (x (codes "d") 30 4) t.no_select)) ∷ [])) (t.assign (t.name (x (codes "r")
    32 4) t.no_select) t.blocking (p 33 4) (t.read (x (codes "d") 34 4) t.no_select))) t.no_item)))) ∷ [])

clock_in_a_list_without_an_edge : fault_in clock_in_a_list_without_an_edge_text ≡ None
clock_in_a_list_without_an_edge = refl

-- module m(input clk);
--   wire q;
--   f x(.c(clk), .q(q));
-- endmodule
-- module f(input [1:0] c, output reg q);
--   always @(posedge c) q <= 0;
-- endmodule
abbrev wide_clock_port_behind_its_connection_text : Source
wide_clock_port_behind_its_connection_text =
    ((md (p 0 1) (x (codes "m") 1 1) ([]) (Some ((t.declared_port (dr (p 3 1) t.input None false None) (x (codes
    "clk") 4 1)) ∷ [])) (t.more_item (t.nets (p 7 2) false None ((nt (x (codes "q") 8 2) None) ∷ [])) (t.more_item
    (t.instances (x (codes "f") 10 3) None ((ins (x (codes "x") 11 3) (Some (t.by_name ((nb (p 13 3) (x (codes "c")
    14 3) (Some (t.read (x (codes "clk") 16 3) t.no_select))) ∷ (nb (p 19 3) (x (codes "q") 20 3) (Some (t.read (x
    (codes "q") 22 3) t.no_select))) ∷ [])))) ∷ [])) t.no_item))) ∷ (md (p 27 5) (x (codes "f") 28 5) ([]) (Some
    ((t.declared_port (dr (p 30 5) t.input None false (Some (rg (p 31 5) (t.number (p 32 5) (lit 32 false true 1 0))
    (t.number (p 34 5) (lit 32 false true 0 0))))) (x (codes "c") 36 5)) ∷ (t.declared_port (dr (p 38 5) t.output
    (Some t.reg) false None) (x (codes "q") 40 5)) ∷ [])) (t.more_item (t.always (p 43 6) (t.sensed ((sn
    (t.positive_edge (p 46 6)) (t.read (x (codes "c") 47 6) t.no_select)) ∷ [])) (t.assign (t.name (x (codes "q") 49
    6) t.no_select) t.nonblocking (p 50 6) (t.number (p 51 6) (lit 32 false true 0 0)))) t.no_item)) ∷ [])

wide_clock_port_behind_its_connection : fault_in wide_clock_port_behind_its_connection_text ≡ Some (8, (Some 14, k.BadClock))
wide_clock_port_behind_its_connection = refl

-- module f(input [1:0] c, output reg q);
--   always @(posedge c) q <= 0;
-- endmodule
-- module m(input clk);
--   wire q;
--   f x(.c(clk), .q(q));
-- endmodule
abbrev wide_clock_port_before_its_connection_text : Source
wide_clock_port_before_its_connection_text =
    ((md (p 0 1) (x (codes "f") 1 1) ([]) (Some ((t.declared_port (dr (p 3 1) t.input None false (Some (rg (p 4 1)
    (t.number (p 5 1) (lit 32 false true 1 0)) (t.number (p 7 1) (lit 32 false true 0 0))))) (x (codes "c") 9 1)) ∷
    (t.declared_port (dr (p 11 1) t.output (Some t.reg) false None) (x (codes "q") 13 1)) ∷ [])) (t.more_item
    (t.always (p 16 2) (t.sensed ((sn (t.positive_edge (p 19 2)) (t.read (x (codes "c") 20 2) t.no_select)) ∷ []))
    (t.assign (t.name (x (codes "q") 22 2) t.no_select) t.nonblocking (p 23 2) (t.number (p 24 2) (lit 32 false true
    0 0)))) t.no_item)) ∷ (md (p 27 4) (x (codes "m") 28 4) ([]) (Some ((t.declared_port (dr (p 30 4) t.input None
    false None) (x (codes "clk") 31 4)) ∷ [])) (t.more_item (t.nets (p 34 5) false None ((nt (x (codes "q") 35 5)
    None) ∷ [])) (t.more_item (t.instances (x (codes "f") 37 6) None ((ins (x (codes "x") 38 6) (Some (t.by_name ((nb
    (p 40 6) (x (codes "c") 41 6) (Some (t.read (x (codes "clk") 43 6) t.no_select))) ∷ (nb (p 46 6) (x (codes "q")
    47 6) (Some (t.read (x (codes "q") 49 6) t.no_select))) ∷ [])))) ∷ [])) t.no_item))) ∷ [])

wide_clock_port_before_its_connection : fault_in wide_clock_port_before_its_connection_text ≡ Some (8, (Some 19, k.BadClock))
wide_clock_port_before_its_connection = refl
