-- Worked examples of phases 6 and 7: each kind of fault, where it stands, and what is none; and what isn't built.
use Rattle.std.specs.Prelude.{◌≡◌, refl, true, false, [], ◌∷◌, Some, None, codes}
use Rattle.bit_ops.specs.declared.operator.Binary.TheVariants as b
use Rattle.vl_tree.specs.declared.fault.FaultKind.TheVariants as k
use Rattle.vl_tree.specs.Syntax as t
use Rattle.vl_tree.specs.Syntax.{Source}
use Rattle.vl_process.proofs.Build.{p, x, lit, rg, dr, vl, nb, nt, dv, sn, fn, ins, md, fault_in, verdict_in, refused, late, accepted}

-- ---- targets

-- module m(input clk);
--   wire w;
--   always @(posedge clk) w <= 1;
-- endmodule
abbrev net_in_a_block_text : Source
net_in_a_block_text =
    ((md (p 0 1) (x (codes "m") 1 1) ([]) (Some ((t.declared_port (dr (p 3 1) t.input None false None) (x (codes
    "clk") 4 1)) ∷ [])) (t.more_item (t.nets (p 7 2) false None ((nt (x (codes "w") 8 2) None) ∷ [])) (t.more_item
    (t.always (p 10 3) (t.sensed ((sn (t.positive_edge (p 13 3)) (t.read (x (codes "clk") 14 3) t.no_select)) ∷ []))
    (t.assign (t.name (x (codes "w") 16 3) t.no_select) t.nonblocking (p 17 3) (t.number (p 18 3) (lit 32 false true
    1 0)))) t.no_item))) ∷ [])

net_in_a_block : fault_in net_in_a_block_text ≡ Some (6, (Some 16, k.BadTarget))
net_in_a_block = refl

-- module m;
--   reg r;
--   assign r = 1;
-- endmodule
abbrev variable_in_an_assignment_text : Source
variable_in_an_assignment_text =
    ((md (p 0 1) (x (codes "m") 1 1) ([]) None (t.more_item (t.registers (p 3 2) false None ((t.variable (x (codes
    "r") 4 2)) ∷ [])) (t.more_item (t.continuous (p 6 3) ((dv (t.name (x (codes "r") 7 3) t.no_select) (p 8 3)
    (t.number (p 9 3) (lit 32 false true 1 0))) ∷ [])) t.no_item))) ∷ [])

variable_in_an_assignment : fault_in variable_in_an_assignment_text ≡ Some (6, (Some 7, k.BadTarget))
variable_in_an_assignment = refl

-- module m;
--   assign r = 1;
-- endmodule
abbrev unknown_target_text : Source
unknown_target_text =
    ((md (p 0 1) (x (codes "m") 1 1) ([]) None (t.more_item (t.continuous (p 3 2) ((dv (t.name (x (codes "r") 4 2)
    t.no_select) (p 5 2) (t.number (p 6 2) (lit 32 false true 1 0))) ∷ [])) t.no_item)) ∷ [])

unknown_target : fault_in unknown_target_text ≡ Some (6, (Some 4, k.UnknownName))
unknown_target = refl

-- module m(output y);
--   assign y = z;
-- endmodule
abbrev unknown_value_text : Source
unknown_value_text =
    ((md (p 0 1) (x (codes "m") 1 1) ([]) (Some ((t.declared_port (dr (p 3 1) t.output None false None) (x (codes
    "y") 4 1)) ∷ [])) (t.more_item (t.continuous (p 7 2) ((dv (t.name (x (codes "y") 8 2) t.no_select) (p 9 2)
    (t.read (x (codes "z") 10 2) t.no_select)) ∷ [])) t.no_item)) ∷ [])

unknown_value : fault_in unknown_value_text ≡ Some (6, (Some 10, k.UnknownName))
unknown_value = refl

-- module m;
--   parameter P = 1;
--   assign P = 1;
-- endmodule
abbrev parameter_as_target_text : Source
parameter_as_target_text =
    ((md (p 0 1) (x (codes "m") 1 1) ([]) None (t.more_item (t.parameter (p 3 2) false false None ((vl (x (codes "P")
    4 2) (t.number (p 6 2) (lit 32 false true 1 0))) ∷ [])) (t.more_item (t.continuous (p 8 3) ((dv (t.name (x (codes
    "P") 9 3) t.no_select) (p 10 3) (t.number (p 11 3) (lit 32 false true 1 0))) ∷ [])) t.no_item))) ∷ [])

parameter_as_target : fault_in parameter_as_target_text ≡ Some (6, (Some 9, k.BadTarget))
parameter_as_target = refl

-- module m(input [1:0] i, output [3:0] y);
--   assign y[i] = 1;
-- endmodule
abbrev index_that_varies_text : Source
index_that_varies_text =
    ((md (p 0 1) (x (codes "m") 1 1) ([]) (Some ((t.declared_port (dr (p 3 1) t.input None false (Some (rg (p 4 1)
    (t.number (p 5 1) (lit 32 false true 1 0)) (t.number (p 7 1) (lit 32 false true 0 0))))) (x (codes "i") 9 1)) ∷
    (t.declared_port (dr (p 11 1) t.output None false (Some (rg (p 12 1) (t.number (p 13 1) (lit 32 false true 3 0))
    (t.number (p 15 1) (lit 32 false true 0 0))))) (x (codes "y") 17 1)) ∷ [])) (t.more_item (t.continuous (p 20 2)
    ((dv (t.name (x (codes "y") 21 2) (t.more_select (p 22 2) (t.index (t.read (x (codes "i") 23 2) t.no_select))
    t.no_select)) (p 25 2) (t.number (p 26 2) (lit 32 false true 1 0))) ∷ [])) t.no_item)) ∷ [])

index_that_varies : fault_in index_that_varies_text ≡ Some (6, (Some 21, k.BadTarget))
index_that_varies = refl

-- module m(input clk, input [3:0] d, output reg [3:0] q);
--   always @(posedge clk) q[d] <= 1;
-- endmodule
abbrev index_that_varies_in_a_block_text : Source
index_that_varies_in_a_block_text =
    ((md (p 0 1) (x (codes "m") 1 1) ([]) (Some ((t.declared_port (dr (p 3 1) t.input None false None) (x (codes
    "clk") 4 1)) ∷ (t.declared_port (dr (p 6 1) t.input None false (Some (rg (p 7 1) (t.number (p 8 1) (lit 32 false
    true 3 0)) (t.number (p 10 1) (lit 32 false true 0 0))))) (x (codes "d") 12 1)) ∷ (t.declared_port (dr (p 14 1)
    t.output (Some t.reg) false (Some (rg (p 16 1) (t.number (p 17 1) (lit 32 false true 3 0)) (t.number (p 19 1)
    (lit 32 false true 0 0))))) (x (codes "q") 21 1)) ∷ [])) (t.more_item (t.always (p 24 2) (t.sensed ((sn
    (t.positive_edge (p 27 2)) (t.read (x (codes "clk") 28 2) t.no_select)) ∷ [])) (t.assign (t.name (x (codes "q")
    30 2) (t.more_select (p 31 2) (t.index (t.read (x (codes "d") 32 2) t.no_select)) t.no_select)) t.nonblocking (p
    34 2) (t.number (p 35 2) (lit 32 false true 1 0)))) t.no_item)) ∷ [])

index_that_varies_in_a_block : fault_in index_that_varies_in_a_block_text ≡ None
index_that_varies_in_a_block = refl

-- module m(output [3:0] y);
--   parameter P = 1;
--   assign y[P] = 1;
-- endmodule
abbrev constant_index_text : Source
constant_index_text =
    ((md (p 0 1) (x (codes "m") 1 1) ([]) (Some ((t.declared_port (dr (p 3 1) t.output None false (Some (rg (p 4 1)
    (t.number (p 5 1) (lit 32 false true 3 0)) (t.number (p 7 1) (lit 32 false true 0 0))))) (x (codes "y") 9 1)) ∷
    [])) (t.more_item (t.parameter (p 12 2) false false None ((vl (x (codes "P") 13 2) (t.number (p 15 2) (lit 32
    false true 1 0))) ∷ [])) (t.more_item (t.continuous (p 17 3) ((dv (t.name (x (codes "y") 18 3) (t.more_select (p
    19 3) (t.index (t.read (x (codes "P") 20 3) t.no_select)) t.no_select)) (p 22 3) (t.number (p 23 3) (lit 32 false
    true 1 0))) ∷ [])) t.no_item))) ∷ [])

constant_index : fault_in constant_index_text ≡ None
constant_index = refl

-- module m(output [3:0] y);
--   assign y[0:3] = 1;
-- endmodule
abbrev select_against_the_vector_text : Source
select_against_the_vector_text =
    ((md (p 0 1) (x (codes "m") 1 1) ([]) (Some ((t.declared_port (dr (p 3 1) t.output None false (Some (rg (p 4 1)
    (t.number (p 5 1) (lit 32 false true 3 0)) (t.number (p 7 1) (lit 32 false true 0 0))))) (x (codes "y") 9 1)) ∷
    [])) (t.more_item (t.continuous (p 12 2) ((dv (t.name (x (codes "y") 13 2) (t.more_select (p 14 2) (t.part
    (t.number (p 15 2) (lit 32 false true 0 0)) (t.number (p 17 2) (lit 32 false true 3 0))) t.no_select)) (p 19 2)
    (t.number (p 20 2) (lit 32 false true 1 0))) ∷ [])) t.no_item)) ∷ [])

select_against_the_vector : fault_in select_against_the_vector_text ≡ Some (6, (Some 13, k.BadSelect))
select_against_the_vector = refl

-- module m(output [3:0] y);
--   assign y[0][0] = 1;
-- endmodule
abbrev two_selects_text : Source
two_selects_text =
    ((md (p 0 1) (x (codes "m") 1 1) ([]) (Some ((t.declared_port (dr (p 3 1) t.output None false (Some (rg (p 4 1)
    (t.number (p 5 1) (lit 32 false true 3 0)) (t.number (p 7 1) (lit 32 false true 0 0))))) (x (codes "y") 9 1)) ∷
    [])) (t.more_item (t.continuous (p 12 2) ((dv (t.name (x (codes "y") 13 2) (t.more_select (p 14 2) (t.index
    (t.number (p 15 2) (lit 32 false true 0 0))) (t.more_select (p 17 2) (t.index (t.number (p 18 2) (lit 32 false
    true 0 0))) t.no_select))) (p 20 2) (t.number (p 21 2) (lit 32 false true 1 0))) ∷ [])) t.no_item)) ∷ [])

two_selects : fault_in two_selects_text ≡ Some (6, (Some 13, k.BadSelect))
two_selects = refl

-- module m(output [127:0] y, output z);
--   assign {y, z} = 1;
-- endmodule
abbrev braces_too_wide_text : Source
braces_too_wide_text =
    ((md (p 0 1) (x (codes "m") 1 1) ([]) (Some ((t.declared_port (dr (p 3 1) t.output None false (Some (rg (p 4 1)
    (t.number (p 5 1) (lit 32 false true 127 0)) (t.number (p 7 1) (lit 32 false true 0 0))))) (x (codes "y") 9 1)) ∷
    (t.declared_port (dr (p 11 1) t.output None false None) (x (codes "z") 12 1)) ∷ [])) (t.more_item (t.continuous
    (p 15 2) ((dv (t.targets (p 16 2) (t.more_target (t.name (x (codes "y") 17 2) t.no_select) (t.more_target (t.name
    (x (codes "z") 19 2) t.no_select) t.no_target))) (p 21 2) (t.number (p 22 2) (lit 32 false true 1 0))) ∷ []))
    t.no_item)) ∷ [])

braces_too_wide : fault_in braces_too_wide_text ≡ Some (6, (Some 16, k.TooWide))
braces_too_wide = refl

-- module m(output [126:0] y, output z);
--   assign {y, z} = 1;
-- endmodule
abbrev braces_as_wide_as_may_be_text : Source
braces_as_wide_as_may_be_text =
    ((md (p 0 1) (x (codes "m") 1 1) ([]) (Some ((t.declared_port (dr (p 3 1) t.output None false (Some (rg (p 4 1)
    (t.number (p 5 1) (lit 32 false true 126 0)) (t.number (p 7 1) (lit 32 false true 0 0))))) (x (codes "y") 9 1)) ∷
    (t.declared_port (dr (p 11 1) t.output None false None) (x (codes "z") 12 1)) ∷ [])) (t.more_item (t.continuous
    (p 15 2) ((dv (t.targets (p 16 2) (t.more_target (t.name (x (codes "y") 17 2) t.no_select) (t.more_target (t.name
    (x (codes "z") 19 2) t.no_select) t.no_target))) (p 21 2) (t.number (p 22 2) (lit 32 false true 1 0))) ∷ []))
    t.no_item)) ∷ [])

braces_as_wide_as_may_be : fault_in braces_as_wide_as_may_be_text ≡ None
braces_as_wide_as_may_be = refl

-- module m;
--   reg [3:0] a [0:1];
--   assign a[0] = 1;
-- endmodule
abbrev memory_in_an_assignment_text : Source
memory_in_an_assignment_text =
    ((md (p 0 1) (x (codes "m") 1 1) ([]) None (t.more_item (t.registers (p 3 2) false (Some (rg (p 4 2) (t.number (p
    5 2) (lit 32 false true 3 0)) (t.number (p 7 2) (lit 32 false true 0 0)))) ((t.memory (x (codes "a") 9 2) (rg (p
    10 2) (t.number (p 11 2) (lit 32 false true 0 0)) (t.number (p 13 2) (lit 32 false true 1 0)))) ∷ []))
    (t.more_item (t.continuous (p 16 3) ((dv (t.name (x (codes "a") 17 3) (t.more_select (p 18 3) (t.index (t.number
    (p 19 3) (lit 32 false true 0 0))) t.no_select)) (p 21 3) (t.number (p 22 3) (lit 32 false true 1 0))) ∷ []))
    t.no_item))) ∷ [])

memory_in_an_assignment : fault_in memory_in_an_assignment_text ≡ Some (6, (Some 17, k.BadTarget))
memory_in_an_assignment = refl

-- module m(input clk);
--   reg [3:0] a [0:1];
--   always @(posedge clk) a <= 1;
-- endmodule
abbrev memory_without_an_index_text : Source
memory_without_an_index_text =
    ((md (p 0 1) (x (codes "m") 1 1) ([]) (Some ((t.declared_port (dr (p 3 1) t.input None false None) (x (codes
    "clk") 4 1)) ∷ [])) (t.more_item (t.registers (p 7 2) false (Some (rg (p 8 2) (t.number (p 9 2) (lit 32 false
    true 3 0)) (t.number (p 11 2) (lit 32 false true 0 0)))) ((t.memory (x (codes "a") 13 2) (rg (p 14 2) (t.number
    (p 15 2) (lit 32 false true 0 0)) (t.number (p 17 2) (lit 32 false true 1 0)))) ∷ [])) (t.more_item (t.always (p
    20 3) (t.sensed ((sn (t.positive_edge (p 23 3)) (t.read (x (codes "clk") 24 3) t.no_select)) ∷ [])) (t.assign
    (t.name (x (codes "a") 26 3) t.no_select) t.nonblocking (p 27 3) (t.number (p 28 3) (lit 32 false true 1 0))))
    t.no_item))) ∷ [])

memory_without_an_index : fault_in memory_without_an_index_text ≡ Some (6, (Some 26, k.BadSelect))
memory_without_an_index = refl

-- module m(input clk, input d);
--   always @(posedge clk) d <= 1;
-- endmodule
abbrev input_in_a_block_text : Source
input_in_a_block_text =
    ((md (p 0 1) (x (codes "m") 1 1) ([]) (Some ((t.declared_port (dr (p 3 1) t.input None false None) (x (codes
    "clk") 4 1)) ∷ (t.declared_port (dr (p 6 1) t.input None false None) (x (codes "d") 7 1)) ∷ [])) (t.more_item
    (t.always (p 10 2) (t.sensed ((sn (t.positive_edge (p 13 2)) (t.read (x (codes "clk") 14 2) t.no_select)) ∷ []))
    (t.assign (t.name (x (codes "d") 16 2) t.no_select) t.nonblocking (p 17 2) (t.number (p 18 2) (lit 32 false true
    1 0)))) t.no_item)) ∷ [])

input_in_a_block : fault_in input_in_a_block_text ≡ Some (6, (Some 16, k.BadTarget))
input_in_a_block = refl

-- module m(input clk);
--   wire [3:0] w;
--   always @(posedge clk) w[1][0] <= 1;
-- endmodule
abbrev two_selects_of_a_net_in_a_block_text : Source
two_selects_of_a_net_in_a_block_text =
    ((md (p 0 1) (x (codes "m") 1 1) ([]) (Some ((t.declared_port (dr (p 3 1) t.input None false None) (x (codes
    "clk") 4 1)) ∷ [])) (t.more_item (t.nets (p 7 2) false (Some (rg (p 8 2) (t.number (p 9 2) (lit 32 false true 3
    0)) (t.number (p 11 2) (lit 32 false true 0 0)))) ((nt (x (codes "w") 13 2) None) ∷ [])) (t.more_item (t.always
    (p 15 3) (t.sensed ((sn (t.positive_edge (p 18 3)) (t.read (x (codes "clk") 19 3) t.no_select)) ∷ [])) (t.assign
    (t.name (x (codes "w") 21 3) (t.more_select (p 22 3) (t.index (t.number (p 23 3) (lit 32 false true 1 0)))
    (t.more_select (p 25 3) (t.index (t.number (p 26 3) (lit 32 false true 0 0))) t.no_select))) t.nonblocking (p 28
    3) (t.number (p 29 3) (lit 32 false true 1 0)))) t.no_item))) ∷ [])

two_selects_of_a_net_in_a_block : fault_in two_selects_of_a_net_in_a_block_text ≡ Some (6, (Some 21, k.BadSelect))
two_selects_of_a_net_in_a_block = refl

-- module m;
--   parameter P = 3;
--   assign P[0] = 1;
-- endmodule
abbrev select_of_a_parameter_as_target_text : Source
select_of_a_parameter_as_target_text =
    ((md (p 0 1) (x (codes "m") 1 1) ([]) None (t.more_item (t.parameter (p 3 2) false false None ((vl (x (codes "P")
    4 2) (t.number (p 6 2) (lit 32 false true 3 0))) ∷ [])) (t.more_item (t.continuous (p 8 3) ((dv (t.name (x (codes
    "P") 9 3) (t.more_select (p 10 3) (t.index (t.number (p 11 3) (lit 32 false true 0 0))) t.no_select)) (p 13 3)
    (t.number (p 14 3) (lit 32 false true 1 0))) ∷ [])) t.no_item))) ∷ [])

select_of_a_parameter_as_target : fault_in select_of_a_parameter_as_target_text ≡ Some (6, (Some 9, k.BadSelect))
select_of_a_parameter_as_target = refl

-- module m;
--   reg [3:0] r;
--   assign r[0 +: 0] = 1;
-- endmodule
abbrev no_bits_of_a_variable_in_an_assignment_text : Source
no_bits_of_a_variable_in_an_assignment_text =
    ((md (p 0 1) (x (codes "m") 1 1) ([]) None (t.more_item (t.registers (p 3 2) false (Some (rg (p 4 2) (t.number (p
    5 2) (lit 32 false true 3 0)) (t.number (p 7 2) (lit 32 false true 0 0)))) ((t.variable (x (codes "r") 9 2)) ∷
    [])) (t.more_item (t.continuous (p 11 3) ((dv (t.name (x (codes "r") 12 3) (t.more_select (p 13 3) (t.upward
    (t.number (p 14 3) (lit 32 false true 0 0)) (t.number (p 16 3) (lit 32 false true 0 0))) t.no_select)) (p 18 3)
    (t.number (p 19 3) (lit 32 false true 1 0))) ∷ [])) t.no_item))) ∷ [])

no_bits_of_a_variable_in_an_assignment : fault_in no_bits_of_a_variable_in_an_assignment_text ≡ Some (6, (Some 12, k.ZeroReplication))
no_bits_of_a_variable_in_an_assignment = refl

-- module m;
--   reg r [0:1];
--   assign r = 1;
-- endmodule
abbrev memory_without_an_index_in_an_assignment_text : Source
memory_without_an_index_in_an_assignment_text =
    ((md (p 0 1) (x (codes "m") 1 1) ([]) None (t.more_item (t.registers (p 3 2) false None ((t.memory (x (codes "r")
    4 2) (rg (p 5 2) (t.number (p 6 2) (lit 32 false true 0 0)) (t.number (p 8 2) (lit 32 false true 1 0)))) ∷ []))
    (t.more_item (t.continuous (p 11 3) ((dv (t.name (x (codes "r") 12 3) t.no_select) (p 13 3) (t.number (p 14 3)
    (lit 32 false true 1 0))) ∷ [])) t.no_item))) ∷ [])

memory_without_an_index_in_an_assignment : fault_in memory_without_an_index_in_an_assignment_text ≡ Some (6, (Some 12, k.BadSelect))
memory_without_an_index_in_an_assignment = refl

-- ---- connections

-- module c(output y);
--   assign y = 1;
-- endmodule
-- module m;
--   reg r;
--   c u(.y(r));
-- endmodule
abbrev output_to_a_variable_text : Source
output_to_a_variable_text =
    ((md (p 0 1) (x (codes "c") 1 1) ([]) (Some ((t.declared_port (dr (p 3 1) t.output None false None) (x (codes
    "y") 4 1)) ∷ [])) (t.more_item (t.continuous (p 7 2) ((dv (t.name (x (codes "y") 8 2) t.no_select) (p 9 2)
    (t.number (p 10 2) (lit 32 false true 1 0))) ∷ [])) t.no_item)) ∷ (md (p 13 4) (x (codes "m") 14 4) ([]) None
    (t.more_item (t.registers (p 16 5) false None ((t.variable (x (codes "r") 17 5)) ∷ [])) (t.more_item (t.instances
    (x (codes "c") 19 6) None ((ins (x (codes "u") 20 6) (Some (t.by_name ((nb (p 22 6) (x (codes "y") 23 6) (Some
    (t.read (x (codes "r") 25 6) t.no_select))) ∷ [])))) ∷ [])) t.no_item))) ∷ [])

output_to_a_variable : fault_in output_to_a_variable_text ≡ Some (6, (Some 25, k.BadTarget))
output_to_a_variable = refl

-- module c(output y);
--   assign y = 1;
-- endmodule
-- module m;
--   wire a;
--   c u(.y((a)));
-- endmodule
abbrev output_to_an_expression_text : Source
output_to_an_expression_text =
    ((md (p 0 1) (x (codes "c") 1 1) ([]) (Some ((t.declared_port (dr (p 3 1) t.output None false None) (x (codes
    "y") 4 1)) ∷ [])) (t.more_item (t.continuous (p 7 2) ((dv (t.name (x (codes "y") 8 2) t.no_select) (p 9 2)
    (t.number (p 10 2) (lit 32 false true 1 0))) ∷ [])) t.no_item)) ∷ (md (p 13 4) (x (codes "m") 14 4) ([]) None
    (t.more_item (t.nets (p 16 5) false None ((nt (x (codes "a") 17 5) None) ∷ [])) (t.more_item (t.instances (x
    (codes "c") 19 6) None ((ins (x (codes "u") 20 6) (Some (t.by_name ((nb (p 22 6) (x (codes "y") 23 6) (Some
    (t.group (p 25 6) (t.read (x (codes "a") 26 6) t.no_select)))) ∷ [])))) ∷ [])) t.no_item))) ∷ [])

output_to_an_expression : fault_in output_to_an_expression_text ≡ Some (6, (Some 25, k.BadTarget))
output_to_an_expression = refl

-- module c(output [1:0] y);
--   assign y = 1;
-- endmodule
-- module m;
--   wire a, b;
--   c u(.y({a, b}));
-- endmodule
abbrev output_to_braces_text : Source
output_to_braces_text =
    ((md (p 0 1) (x (codes "c") 1 1) ([]) (Some ((t.declared_port (dr (p 3 1) t.output None false (Some (rg (p 4 1)
    (t.number (p 5 1) (lit 32 false true 1 0)) (t.number (p 7 1) (lit 32 false true 0 0))))) (x (codes "y") 9 1)) ∷
    [])) (t.more_item (t.continuous (p 12 2) ((dv (t.name (x (codes "y") 13 2) t.no_select) (p 14 2) (t.number (p 15
    2) (lit 32 false true 1 0))) ∷ [])) t.no_item)) ∷ (md (p 18 4) (x (codes "m") 19 4) ([]) None (t.more_item
    (t.nets (p 21 5) false None ((nt (x (codes "a") 22 5) None) ∷ (nt (x (codes "b") 24 5) None) ∷ [])) (t.more_item
    (t.instances (x (codes "c") 26 6) None ((ins (x (codes "u") 27 6) (Some (t.by_name ((nb (p 29 6) (x (codes "y")
    30 6) (Some (t.concat (p 32 6) (t.more_expr (t.read (x (codes "a") 33 6) t.no_select) (t.more_expr (t.read (x
    (codes "b") 35 6) t.no_select) t.no_expr))))) ∷ [])))) ∷ [])) t.no_item))) ∷ [])

output_to_braces : fault_in output_to_braces_text ≡ None
output_to_braces = refl

-- module c(output y);
--   assign y = 1;
-- endmodule
-- module m;
--   c u(.y(z));
-- endmodule
abbrev output_to_a_name_that_is_none_text : Source
output_to_a_name_that_is_none_text =
    ((md (p 0 1) (x (codes "c") 1 1) ([]) (Some ((t.declared_port (dr (p 3 1) t.output None false None) (x (codes
    "y") 4 1)) ∷ [])) (t.more_item (t.continuous (p 7 2) ((dv (t.name (x (codes "y") 8 2) t.no_select) (p 9 2)
    (t.number (p 10 2) (lit 32 false true 1 0))) ∷ [])) t.no_item)) ∷ (md (p 13 4) (x (codes "m") 14 4) ([]) None
    (t.more_item (t.instances (x (codes "c") 16 5) None ((ins (x (codes "u") 17 5) (Some (t.by_name ((nb (p 19 5) (x
    (codes "y") 20 5) (Some (t.read (x (codes "z") 22 5) t.no_select))) ∷ [])))) ∷ [])) t.no_item)) ∷ [])

output_to_a_name_that_is_none : fault_in output_to_a_name_that_is_none_text ≡ Some (6, (Some 22, k.UnknownName))
output_to_a_name_that_is_none = refl

-- module c(input a);
--   wire b;
-- endmodule
-- module m;
--   c u(.a(b));
-- endmodule
abbrev names_of_the_inner_module_text : Source
names_of_the_inner_module_text =
    ((md (p 0 1) (x (codes "c") 1 1) ([]) (Some ((t.declared_port (dr (p 3 1) t.input None false None) (x (codes "a")
    4 1)) ∷ [])) (t.more_item (t.nets (p 7 2) false None ((nt (x (codes "b") 8 2) None) ∷ [])) t.no_item)) ∷ (md (p
    11 4) (x (codes "m") 12 4) ([]) None (t.more_item (t.instances (x (codes "c") 14 5) None ((ins (x (codes "u") 15
    5) (Some (t.by_name ((nb (p 17 5) (x (codes "a") 18 5) (Some (t.read (x (codes "b") 20 5) t.no_select))) ∷ []))))
    ∷ [])) t.no_item)) ∷ [])

names_of_the_inner_module : fault_in names_of_the_inner_module_text ≡ Some (6, (Some 20, k.UnknownName))
names_of_the_inner_module = refl

-- module c(output q);
--   assign q = 1;
-- endmodule
-- module m;
--   c x(.q(zz + 1));
-- endmodule
abbrev unknown_name_in_an_output_text : Source
unknown_name_in_an_output_text =
    ((md (p 0 1) (x (codes "c") 1 1) ([]) (Some ((t.declared_port (dr (p 3 1) t.output None false None) (x (codes
    "q") 4 1)) ∷ [])) (t.more_item (t.continuous (p 7 2) ((dv (t.name (x (codes "q") 8 2) t.no_select) (p 9 2)
    (t.number (p 10 2) (lit 32 false true 1 0))) ∷ [])) t.no_item)) ∷ (md (p 13 4) (x (codes "m") 14 4) ([]) None
    (t.more_item (t.instances (x (codes "c") 16 5) None ((ins (x (codes "x") 17 5) (Some (t.by_name ((nb (p 19 5) (x
    (codes "q") 20 5) (Some (t.chain (t.read (x (codes "zz") 22 5) t.no_select) (t.more_link b.Add (p 23 5) (t.number
    (p 24 5) (lit 32 false true 1 0)) t.no_link)))) ∷ [])))) ∷ [])) t.no_item)) ∷ [])

unknown_name_in_an_output : fault_in unknown_name_in_an_output_text ≡ Some (6, (Some 22, k.UnknownName))
unknown_name_in_an_output = refl

-- module c(output q);
--   assign q = 1;
-- endmodule
-- module m;
--   c x(.q(1 + zz));
-- endmodule
abbrev unknown_name_behind_the_start_of_an_output_text : Source
unknown_name_behind_the_start_of_an_output_text =
    ((md (p 0 1) (x (codes "c") 1 1) ([]) (Some ((t.declared_port (dr (p 3 1) t.output None false None) (x (codes
    "q") 4 1)) ∷ [])) (t.more_item (t.continuous (p 7 2) ((dv (t.name (x (codes "q") 8 2) t.no_select) (p 9 2)
    (t.number (p 10 2) (lit 32 false true 1 0))) ∷ [])) t.no_item)) ∷ (md (p 13 4) (x (codes "m") 14 4) ([]) None
    (t.more_item (t.instances (x (codes "c") 16 5) None ((ins (x (codes "x") 17 5) (Some (t.by_name ((nb (p 19 5) (x
    (codes "q") 20 5) (Some (t.chain (t.number (p 22 5) (lit 32 false true 1 0)) (t.more_link b.Add (p 23 5) (t.read
    (x (codes "zz") 24 5) t.no_select) t.no_link)))) ∷ [])))) ∷ [])) t.no_item)) ∷ [])

unknown_name_behind_the_start_of_an_output : fault_in unknown_name_behind_the_start_of_an_output_text ≡ Some (6, (Some 22, k.BadTarget))
unknown_name_behind_the_start_of_an_output = refl

-- ---- formats and arguments

-- module m(input clk, input [3:0] d, output reg [3:0] q);
--   always @(posedge clk) $display("%0d");
-- endmodule
abbrev too_few_arguments_text : Source
too_few_arguments_text =
    ((md (p 0 1) (x (codes "m") 1 1) ([]) (Some ((t.declared_port (dr (p 3 1) t.input None false None) (x (codes
    "clk") 4 1)) ∷ (t.declared_port (dr (p 6 1) t.input None false (Some (rg (p 7 1) (t.number (p 8 1) (lit 32 false
    true 3 0)) (t.number (p 10 1) (lit 32 false true 0 0))))) (x (codes "d") 12 1)) ∷ (t.declared_port (dr (p 14 1)
    t.output (Some t.reg) false (Some (rg (p 16 1) (t.number (p 17 1) (lit 32 false true 3 0)) (t.number (p 19 1)
    (lit 32 false true 0 0))))) (x (codes "q") 21 1)) ∷ [])) (t.more_item (t.always (p 24 2) (t.sensed ((sn
    (t.positive_edge (p 27 2)) (t.read (x (codes "clk") 28 2) t.no_select)) ∷ [])) (t.print (p 30 2) t.display
    (t.format (p 32 2) (codes "%0d") t.no_expr))) t.no_item)) ∷ [])

too_few_arguments : fault_in too_few_arguments_text ≡ Some (6, (Some 32, k.BadFormat))
too_few_arguments = refl

-- module m(input clk, input [3:0] d, output reg [3:0] q);
--   always @(posedge clk) $display("a", d);
-- endmodule
abbrev too_many_arguments_text : Source
too_many_arguments_text =
    ((md (p 0 1) (x (codes "m") 1 1) ([]) (Some ((t.declared_port (dr (p 3 1) t.input None false None) (x (codes
    "clk") 4 1)) ∷ (t.declared_port (dr (p 6 1) t.input None false (Some (rg (p 7 1) (t.number (p 8 1) (lit 32 false
    true 3 0)) (t.number (p 10 1) (lit 32 false true 0 0))))) (x (codes "d") 12 1)) ∷ (t.declared_port (dr (p 14 1)
    t.output (Some t.reg) false (Some (rg (p 16 1) (t.number (p 17 1) (lit 32 false true 3 0)) (t.number (p 19 1)
    (lit 32 false true 0 0))))) (x (codes "q") 21 1)) ∷ [])) (t.more_item (t.always (p 24 2) (t.sensed ((sn
    (t.positive_edge (p 27 2)) (t.read (x (codes "clk") 28 2) t.no_select)) ∷ [])) (t.print (p 30 2) t.display
    (t.format (p 32 2) (codes "a") (t.more_expr (t.read (x (codes "d") 34 2) t.no_select) t.no_expr)))) t.no_item)) ∷
    [])

too_many_arguments : fault_in too_many_arguments_text ≡ Some (6, (Some 32, k.BadFormat))
too_many_arguments = refl

-- module m(input clk, input [3:0] d, output reg [3:0] q);
--   always @(posedge clk) $display("%s", d);
-- endmodule
abbrev unknown_item_text : Source
unknown_item_text =
    ((md (p 0 1) (x (codes "m") 1 1) ([]) (Some ((t.declared_port (dr (p 3 1) t.input None false None) (x (codes
    "clk") 4 1)) ∷ (t.declared_port (dr (p 6 1) t.input None false (Some (rg (p 7 1) (t.number (p 8 1) (lit 32 false
    true 3 0)) (t.number (p 10 1) (lit 32 false true 0 0))))) (x (codes "d") 12 1)) ∷ (t.declared_port (dr (p 14 1)
    t.output (Some t.reg) false (Some (rg (p 16 1) (t.number (p 17 1) (lit 32 false true 3 0)) (t.number (p 19 1)
    (lit 32 false true 0 0))))) (x (codes "q") 21 1)) ∷ [])) (t.more_item (t.always (p 24 2) (t.sensed ((sn
    (t.positive_edge (p 27 2)) (t.read (x (codes "clk") 28 2) t.no_select)) ∷ [])) (t.print (p 30 2) t.display
    (t.format (p 32 2) (codes "%s") (t.more_expr (t.read (x (codes "d") 34 2) t.no_select) t.no_expr)))) t.no_item))
    ∷ [])

unknown_item : fault_in unknown_item_text ≡ Some (6, (Some 32, k.BadFormat))
unknown_item = refl

-- module m(input clk, input [3:0] d, output reg [3:0] q);
--   always @(posedge clk) $display("%m %%");
-- endmodule
abbrev path_and_percent_text : Source
path_and_percent_text =
    ((md (p 0 1) (x (codes "m") 1 1) ([]) (Some ((t.declared_port (dr (p 3 1) t.input None false None) (x (codes
    "clk") 4 1)) ∷ (t.declared_port (dr (p 6 1) t.input None false (Some (rg (p 7 1) (t.number (p 8 1) (lit 32 false
    true 3 0)) (t.number (p 10 1) (lit 32 false true 0 0))))) (x (codes "d") 12 1)) ∷ (t.declared_port (dr (p 14 1)
    t.output (Some t.reg) false (Some (rg (p 16 1) (t.number (p 17 1) (lit 32 false true 3 0)) (t.number (p 19 1)
    (lit 32 false true 0 0))))) (x (codes "q") 21 1)) ∷ [])) (t.more_item (t.always (p 24 2) (t.sensed ((sn
    (t.positive_edge (p 27 2)) (t.read (x (codes "clk") 28 2) t.no_select)) ∷ [])) (t.print (p 30 2) t.display
    (t.format (p 32 2) (codes "%m %%") t.no_expr))) t.no_item)) ∷ [])

path_and_percent : fault_in path_and_percent_text ≡ None
path_and_percent = refl

-- module m(input clk, input [3:0] d, output reg [3:0] q);
--   always @(posedge clk) $display("%h", z);
-- endmodule
abbrev unknown_argument_text : Source
unknown_argument_text =
    ((md (p 0 1) (x (codes "m") 1 1) ([]) (Some ((t.declared_port (dr (p 3 1) t.input None false None) (x (codes
    "clk") 4 1)) ∷ (t.declared_port (dr (p 6 1) t.input None false (Some (rg (p 7 1) (t.number (p 8 1) (lit 32 false
    true 3 0)) (t.number (p 10 1) (lit 32 false true 0 0))))) (x (codes "d") 12 1)) ∷ (t.declared_port (dr (p 14 1)
    t.output (Some t.reg) false (Some (rg (p 16 1) (t.number (p 17 1) (lit 32 false true 3 0)) (t.number (p 19 1)
    (lit 32 false true 0 0))))) (x (codes "q") 21 1)) ∷ [])) (t.more_item (t.always (p 24 2) (t.sensed ((sn
    (t.positive_edge (p 27 2)) (t.read (x (codes "clk") 28 2) t.no_select)) ∷ [])) (t.print (p 30 2) t.display
    (t.format (p 32 2) (codes "%h") (t.more_expr (t.read (x (codes "z") 34 2) t.no_select) t.no_expr)))) t.no_item))
    ∷ [])

unknown_argument : fault_in unknown_argument_text ≡ Some (6, (Some 34, k.UnknownName))
unknown_argument = refl

-- module m(input clk, input [3:0] d, output reg [3:0] q);
--   always @(posedge clk) $fwrite(1, "a");
-- endmodule
abbrev other_file_text : Source
other_file_text =
    ((md (p 0 1) (x (codes "m") 1 1) ([]) (Some ((t.declared_port (dr (p 3 1) t.input None false None) (x (codes
    "clk") 4 1)) ∷ (t.declared_port (dr (p 6 1) t.input None false (Some (rg (p 7 1) (t.number (p 8 1) (lit 32 false
    true 3 0)) (t.number (p 10 1) (lit 32 false true 0 0))))) (x (codes "d") 12 1)) ∷ (t.declared_port (dr (p 14 1)
    t.output (Some t.reg) false (Some (rg (p 16 1) (t.number (p 17 1) (lit 32 false true 3 0)) (t.number (p 19 1)
    (lit 32 false true 0 0))))) (x (codes "q") 21 1)) ∷ [])) (t.more_item (t.always (p 24 2) (t.sensed ((sn
    (t.positive_edge (p 27 2)) (t.read (x (codes "clk") 28 2) t.no_select)) ∷ [])) (t.file_print (p 30 2) (t.number
    (p 32 2) (lit 32 false true 1 0)) (p 34 2) (codes "a") t.no_expr)) t.no_item)) ∷ [])

other_file : fault_in other_file_text ≡ Some (6, (Some 32, k.BadFormat))
other_file = refl

-- module m(input clk, input [3:0] d, output reg [3:0] q);
--   always @(posedge clk) $fwrite(d, "a");
-- endmodule
abbrev file_that_varies_text : Source
file_that_varies_text =
    ((md (p 0 1) (x (codes "m") 1 1) ([]) (Some ((t.declared_port (dr (p 3 1) t.input None false None) (x (codes
    "clk") 4 1)) ∷ (t.declared_port (dr (p 6 1) t.input None false (Some (rg (p 7 1) (t.number (p 8 1) (lit 32 false
    true 3 0)) (t.number (p 10 1) (lit 32 false true 0 0))))) (x (codes "d") 12 1)) ∷ (t.declared_port (dr (p 14 1)
    t.output (Some t.reg) false (Some (rg (p 16 1) (t.number (p 17 1) (lit 32 false true 3 0)) (t.number (p 19 1)
    (lit 32 false true 0 0))))) (x (codes "q") 21 1)) ∷ [])) (t.more_item (t.always (p 24 2) (t.sensed ((sn
    (t.positive_edge (p 27 2)) (t.read (x (codes "clk") 28 2) t.no_select)) ∷ [])) (t.file_print (p 30 2) (t.read (x
    (codes "d") 32 2) t.no_select) (p 34 2) (codes "a") t.no_expr)) t.no_item)) ∷ [])

file_that_varies : fault_in file_that_varies_text ≡ Some (6, (Some 32, k.NotConstant))
file_that_varies = refl

-- module m(input clk, input [3:0] d, output reg [3:0] q);
--   always @(posedge clk) $stop(d);
-- endmodule
abbrev stop_that_varies_text : Source
stop_that_varies_text =
    ((md (p 0 1) (x (codes "m") 1 1) ([]) (Some ((t.declared_port (dr (p 3 1) t.input None false None) (x (codes
    "clk") 4 1)) ∷ (t.declared_port (dr (p 6 1) t.input None false (Some (rg (p 7 1) (t.number (p 8 1) (lit 32 false
    true 3 0)) (t.number (p 10 1) (lit 32 false true 0 0))))) (x (codes "d") 12 1)) ∷ (t.declared_port (dr (p 14 1)
    t.output (Some t.reg) false (Some (rg (p 16 1) (t.number (p 17 1) (lit 32 false true 3 0)) (t.number (p 19 1)
    (lit 32 false true 0 0))))) (x (codes "q") 21 1)) ∷ [])) (t.more_item (t.always (p 24 2) (t.sensed ((sn
    (t.positive_edge (p 27 2)) (t.read (x (codes "clk") 28 2) t.no_select)) ∷ [])) (t.stop (p 30 2) (t.argument
    (t.read (x (codes "d") 32 2) t.no_select)))) t.no_item)) ∷ [])

stop_that_varies : fault_in stop_that_varies_text ≡ Some (6, (Some 32, k.NotConstant))
stop_that_varies = refl

-- ---- blocks

-- module m(input clk, input [3:0] d, output reg [3:0] q);
--   always @(posedge clk) q = d;
-- endmodule
abbrev blocking_in_a_clocked_block_text : Source
blocking_in_a_clocked_block_text =
    ((md (p 0 1) (x (codes "m") 1 1) ([]) (Some ((t.declared_port (dr (p 3 1) t.input None false None) (x (codes
    "clk") 4 1)) ∷ (t.declared_port (dr (p 6 1) t.input None false (Some (rg (p 7 1) (t.number (p 8 1) (lit 32 false
    true 3 0)) (t.number (p 10 1) (lit 32 false true 0 0))))) (x (codes "d") 12 1)) ∷ (t.declared_port (dr (p 14 1)
    t.output (Some t.reg) false (Some (rg (p 16 1) (t.number (p 17 1) (lit 32 false true 3 0)) (t.number (p 19 1)
    (lit 32 false true 0 0))))) (x (codes "q") 21 1)) ∷ [])) (t.more_item (t.always (p 24 2) (t.sensed ((sn
    (t.positive_edge (p 27 2)) (t.read (x (codes "clk") 28 2) t.no_select)) ∷ [])) (t.assign (t.name (x (codes "q")
    30 2) t.no_select) t.blocking (p 31 2) (t.read (x (codes "d") 32 2) t.no_select))) t.no_item)) ∷ [])

blocking_in_a_clocked_block : fault_in blocking_in_a_clocked_block_text ≡ Some (7, (Some 31, k.WrongAssign))
blocking_in_a_clocked_block = refl

-- module m(input clk, input rst, output reg q);
--   always @(posedge clk or posedge rst) q <= 1;
-- endmodule
abbrev two_edges_text : Source
two_edges_text =
    ((md (p 0 1) (x (codes "m") 1 1) ([]) (Some ((t.declared_port (dr (p 3 1) t.input None false None) (x (codes
    "clk") 4 1)) ∷ (t.declared_port (dr (p 6 1) t.input None false None) (x (codes "rst") 7 1)) ∷ (t.declared_port
    (dr (p 9 1) t.output (Some t.reg) false None) (x (codes "q") 11 1)) ∷ [])) (t.more_item (t.always (p 14 2)
    (t.sensed ((sn (t.positive_edge (p 17 2)) (t.read (x (codes "clk") 18 2) t.no_select)) ∷ (sn (t.positive_edge (p
    20 2)) (t.read (x (codes "rst") 21 2) t.no_select)) ∷ [])) (t.assign (t.name (x (codes "q") 23 2) t.no_select)
    t.nonblocking (p 24 2) (t.number (p 25 2) (lit 32 false true 1 0)))) t.no_item)) ∷ [])

two_edges : fault_in two_edges_text ≡ Some (7, (Some 17, k.AsyncControl))
two_edges = refl

-- module m(input clk, output reg q);
--   always @(negedge clk) q <= 1;
-- endmodule
abbrev negative_edge_text : Source
negative_edge_text =
    ((md (p 0 1) (x (codes "m") 1 1) ([]) (Some ((t.declared_port (dr (p 3 1) t.input None false None) (x (codes
    "clk") 4 1)) ∷ (t.declared_port (dr (p 6 1) t.output (Some t.reg) false None) (x (codes "q") 8 1)) ∷ []))
    (t.more_item (t.always (p 11 2) (t.sensed ((sn (t.negative_edge (p 14 2)) (t.read (x (codes "clk") 15 2)
    t.no_select)) ∷ [])) (t.assign (t.name (x (codes "q") 17 2) t.no_select) t.nonblocking (p 18 2) (t.number (p 19
    2) (lit 32 false true 1 0)))) t.no_item)) ∷ [])

negative_edge : fault_in negative_edge_text ≡ Some (7, (Some 14, k.NegativeEdge))
negative_edge = refl

-- module m;
--   reg q;
--   initial q <= 1;
-- endmodule
abbrev nonblocking_at_the_start_text : Source
nonblocking_at_the_start_text =
    ((md (p 0 1) (x (codes "m") 1 1) ([]) None (t.more_item (t.registers (p 3 2) false None ((t.variable (x (codes
    "q") 4 2)) ∷ [])) (t.more_item (t.initial (p 6 3) (t.assign (t.name (x (codes "q") 7 3) t.no_select)
    t.nonblocking (p 8 3) (t.number (p 9 3) (lit 32 false true 1 0)))) t.no_item))) ∷ [])

nonblocking_at_the_start : fault_in nonblocking_at_the_start_text ≡ Some (7, (Some 8, k.WrongAssign))
nonblocking_at_the_start = refl

-- module m;
--   initial $stop;
-- endmodule
abbrev task_at_the_start_text : Source
task_at_the_start_text =
    ((md (p 0 1) (x (codes "m") 1 1) ([]) None (t.more_item (t.initial (p 3 2) (t.stop (p 4 2) t.no_argument))
    t.no_item)) ∷ [])

task_at_the_start : fault_in task_at_the_start_text ≡ Some (7, (Some 4, k.TaskPlace))
task_at_the_start = refl

-- module m;
--   wire w;
--   reg q;
--   initial q = w;
-- endmodule
abbrev net_at_the_start_text : Source
net_at_the_start_text =
    ((md (p 0 1) (x (codes "m") 1 1) ([]) None (t.more_item (t.nets (p 3 2) false None ((nt (x (codes "w") 4 2) None)
    ∷ [])) (t.more_item (t.registers (p 6 3) false None ((t.variable (x (codes "q") 7 3)) ∷ [])) (t.more_item
    (t.initial (p 9 4) (t.assign (t.name (x (codes "q") 10 4) t.no_select) t.blocking (p 11 4) (t.read (x (codes "w")
    12 4) t.no_select))) t.no_item)))) ∷ [])

net_at_the_start : fault_in net_at_the_start_text ≡ Some (7, (Some 12, k.BadInitial))
net_at_the_start = refl

-- module m;
--   wire w;
--   reg q = w;
-- endmodule
abbrev net_in_a_first_value_text : Source
net_in_a_first_value_text =
    ((md (p 0 1) (x (codes "m") 1 1) ([]) None (t.more_item (t.nets (p 3 2) false None ((nt (x (codes "w") 4 2) None)
    ∷ [])) (t.more_item (t.registers (p 6 3) false None ((t.valued (x (codes "q") 7 3) (t.read (x (codes "w") 9 3)
    t.no_select)) ∷ [])) t.no_item))) ∷ [])

net_in_a_first_value : fault_in net_in_a_first_value_text ≡ Some (7, (Some 9, k.BadInitial))
net_in_a_first_value = refl

-- module m(input clk, output reg q);
--   always @(posedge clk) q = z;
-- endmodule
abbrev name_before_assignment_text : Source
name_before_assignment_text =
    ((md (p 0 1) (x (codes "m") 1 1) ([]) (Some ((t.declared_port (dr (p 3 1) t.input None false None) (x (codes
    "clk") 4 1)) ∷ (t.declared_port (dr (p 6 1) t.output (Some t.reg) false None) (x (codes "q") 8 1)) ∷ []))
    (t.more_item (t.always (p 11 2) (t.sensed ((sn (t.positive_edge (p 14 2)) (t.read (x (codes "clk") 15 2)
    t.no_select)) ∷ [])) (t.assign (t.name (x (codes "q") 17 2) t.no_select) t.blocking (p 18 2) (t.read (x (codes
    "z") 19 2) t.no_select))) t.no_item)) ∷ [])

name_before_assignment : fault_in name_before_assignment_text ≡ Some (6, (Some 19, k.UnknownName))
name_before_assignment = refl

-- ---- what isn't built, and what comes before that

-- module m;
--   reg r = 1;
-- endmodule
abbrev first_value_of_a_variable_text : Source
first_value_of_a_variable_text =
    ((md (p 0 1) (x (codes "m") 1 1) ([]) None (t.more_item (t.registers (p 3 2) false None ((t.valued (x (codes "r")
    4 2) (t.number (p 6 2) (lit 32 false true 1 0))) ∷ [])) t.no_item)) ∷ [])

first_value_of_a_variable : verdict_in first_value_of_a_variable_text ≡ late
first_value_of_a_variable = refl

-- module m;
--   function f;
--     input a;
--     f = a;
--   endfunction
-- endmodule
abbrev function_text : Source
function_text =
    ((md (p 0 1) (x (codes "m") 1 1) ([]) None (t.more_item (t.function (fn (p 3 2) false false t.bit_result (x
    (codes "f") 4 2) ([]) ((t.inputs (p 6 3) false None ((x (codes "a") 7 3) ∷ [])) ∷ []) (t.assign (t.name (x (codes
    "f") 9 4) t.no_select) t.blocking (p 10 4) (t.read (x (codes "a") 11 4) t.no_select)))) t.no_item)) ∷ [])

function : verdict_in function_text ≡ late
function = refl

-- module c;
--   function f;
--     input a;
--     f = a;
--   endfunction
-- endmodule
-- module m;
--   if (0) c u();
-- endmodule
abbrev function_that_stands_in_no_instance_text : Source
function_that_stands_in_no_instance_text =
    ((md (p 0 1) (x (codes "c") 1 1) ([]) None (t.more_item (t.function (fn (p 3 2) false false t.bit_result (x
    (codes "f") 4 2) ([]) ((t.inputs (p 6 3) false None ((x (codes "a") 7 3) ∷ [])) ∷ []) (t.assign (t.name (x (codes
    "f") 9 4) t.no_select) t.blocking (p 10 4) (t.read (x (codes "a") 11 4) t.no_select)))) t.no_item)) ∷ (md (p 15
    7) (x (codes "m") 16 7) ([]) None (t.more_item (t.generate_if (t.more_generate_branch (p 18 8) (t.number (p 20 8)
    (lit 32 false true 0 0)) (t.single (t.instances (x (codes "c") 22 8) None ((ins (x (codes "u") 23 8) None) ∷
    []))) t.no_generate_branch) t.no_generate_else) t.no_item)) ∷ [])

function_that_stands_in_no_instance : verdict_in function_that_stands_in_no_instance_text ≡ accepted
function_that_stands_in_no_instance = refl

-- module m;
--   reg r [0:1];
-- endmodule
abbrev memory_text : Source
memory_text =
    ((md (p 0 1) (x (codes "m") 1 1) ([]) None (t.more_item (t.registers (p 3 2) false None ((t.memory (x (codes "r")
    4 2) (rg (p 5 2) (t.number (p 6 2) (lit 32 false true 0 0)) (t.number (p 8 2) (lit 32 false true 1 0)))) ∷ []))
    t.no_item)) ∷ [])

memory : verdict_in memory_text ≡ late
memory = refl

-- module m(input a, output reg y);
--   always @* y = a;
-- endmodule
abbrev combinational_block_text : Source
combinational_block_text =
    ((md (p 0 1) (x (codes "m") 1 1) ([]) (Some ((t.declared_port (dr (p 3 1) t.input None false None) (x (codes "a")
    4 1)) ∷ (t.declared_port (dr (p 6 1) t.output (Some t.reg) false None) (x (codes "y") 8 1)) ∷ [])) (t.more_item
    (t.always (p 11 2) t.any_read (t.assign (t.name (x (codes "y") 14 2) t.no_select) t.blocking (p 15 2) (t.read (x
    (codes "a") 16 2) t.no_select))) t.no_item)) ∷ [])

combinational_block : verdict_in combinational_block_text ≡ late
combinational_block = refl

-- module m(input clk, input rst, output reg q);
--   always @(posedge clk or posedge rst) q <= 1;
-- endmodule
abbrev two_edges_wait_text : Source
two_edges_wait_text =
    ((md (p 0 1) (x (codes "m") 1 1) ([]) (Some ((t.declared_port (dr (p 3 1) t.input None false None) (x (codes
    "clk") 4 1)) ∷ (t.declared_port (dr (p 6 1) t.input None false None) (x (codes "rst") 7 1)) ∷ (t.declared_port
    (dr (p 9 1) t.output (Some t.reg) false None) (x (codes "q") 11 1)) ∷ [])) (t.more_item (t.always (p 14 2)
    (t.sensed ((sn (t.positive_edge (p 17 2)) (t.read (x (codes "clk") 18 2) t.no_select)) ∷ (sn (t.positive_edge (p
    20 2)) (t.read (x (codes "rst") 21 2) t.no_select)) ∷ [])) (t.assign (t.name (x (codes "q") 23 2) t.no_select)
    t.nonblocking (p 24 2) (t.number (p 25 2) (lit 32 false true 1 0)))) t.no_item)) ∷ [])

two_edges_wait : verdict_in two_edges_wait_text ≡ refused 7 (Some 17) k.AsyncControl
two_edges_wait = refl

-- module m(input clk, input d, output reg q);
--   always @(negedge clk) q <= d;
-- endmodule
abbrev negative_edge_waits_text : Source
negative_edge_waits_text =
    ((md (p 0 1) (x (codes "m") 1 1) ([]) (Some ((t.declared_port (dr (p 3 1) t.input None false None) (x (codes
    "clk") 4 1)) ∷ (t.declared_port (dr (p 6 1) t.input None false None) (x (codes "d") 7 1)) ∷ (t.declared_port (dr
    (p 9 1) t.output (Some t.reg) false None) (x (codes "q") 11 1)) ∷ [])) (t.more_item (t.always (p 14 2) (t.sensed
    ((sn (t.negative_edge (p 17 2)) (t.read (x (codes "clk") 18 2) t.no_select)) ∷ [])) (t.assign (t.name (x (codes
    "q") 20 2) t.no_select) t.nonblocking (p 21 2) (t.read (x (codes "d") 22 2) t.no_select))) t.no_item)) ∷ [])

negative_edge_waits : verdict_in negative_edge_waits_text ≡ refused 7 (Some 17) k.NegativeEdge
negative_edge_waits = refl

-- module m(input clk, input d, output reg q);
--   always @(d or posedge clk) q <= d;
-- endmodule
abbrev edge_and_value_wait_text : Source
edge_and_value_wait_text =
    ((md (p 0 1) (x (codes "m") 1 1) ([]) (Some ((t.declared_port (dr (p 3 1) t.input None false None) (x (codes
    "clk") 4 1)) ∷ (t.declared_port (dr (p 6 1) t.input None false None) (x (codes "d") 7 1)) ∷ (t.declared_port (dr
    (p 9 1) t.output (Some t.reg) false None) (x (codes "q") 11 1)) ∷ [])) (t.more_item (t.always (p 14 2) (t.sensed
    ((sn t.no_edge (t.read (x (codes "d") 17 2) t.no_select)) ∷ (sn (t.positive_edge (p 19 2)) (t.read (x (codes
    "clk") 20 2) t.no_select)) ∷ [])) (t.assign (t.name (x (codes "q") 22 2) t.no_select) t.nonblocking (p 23 2)
    (t.read (x (codes "d") 24 2) t.no_select))) t.no_item)) ∷ [])

edge_and_value_wait : verdict_in edge_and_value_wait_text ≡ refused 7 (Some 19) k.AsyncControl
edge_and_value_wait = refl

-- module m(input clk, input [3:0] d, output reg [3:0] q);
--   always @(posedge clk) if (d) q <= d; else case (d) default: ; endcase
-- endmodule
abbrev case_below_an_else_text : Source
case_below_an_else_text =
    ((md (p 0 1) (x (codes "m") 1 1) ([]) (Some ((t.declared_port (dr (p 3 1) t.input None false None) (x (codes
    "clk") 4 1)) ∷ (t.declared_port (dr (p 6 1) t.input None false (Some (rg (p 7 1) (t.number (p 8 1) (lit 32 false
    true 3 0)) (t.number (p 10 1) (lit 32 false true 0 0))))) (x (codes "d") 12 1)) ∷ (t.declared_port (dr (p 14 1)
    t.output (Some t.reg) false (Some (rg (p 16 1) (t.number (p 17 1) (lit 32 false true 3 0)) (t.number (p 19 1)
    (lit 32 false true 0 0))))) (x (codes "q") 21 1)) ∷ [])) (t.more_item (t.always (p 24 2) (t.sensed ((sn
    (t.positive_edge (p 27 2)) (t.read (x (codes "clk") 28 2) t.no_select)) ∷ [])) (t.conditional (t.more_branch (p
    30 2) (t.read (x (codes "d") 32 2) t.no_select) (t.assign (t.name (x (codes "q") 34 2) t.no_select) t.nonblocking
    (p 35 2) (t.read (x (codes "d") 36 2) t.no_select)) t.no_branch) (t.else_stmt (t.select (p 39 2) false (t.read (x
    (codes "d") 41 2) t.no_select) (t.default_arm (p 43 2) true (t.empty (p 45 2)) t.no_arm))))) t.no_item)) ∷ [])

case_below_an_else : verdict_in case_below_an_else_text ≡ late
case_below_an_else = refl

-- module m(input clk, input [3:0] d, output reg [3:0] q);
--   always @(posedge clk) q[d] <= 1;
-- endmodule
abbrev place_that_varies_text : Source
place_that_varies_text =
    ((md (p 0 1) (x (codes "m") 1 1) ([]) (Some ((t.declared_port (dr (p 3 1) t.input None false None) (x (codes
    "clk") 4 1)) ∷ (t.declared_port (dr (p 6 1) t.input None false (Some (rg (p 7 1) (t.number (p 8 1) (lit 32 false
    true 3 0)) (t.number (p 10 1) (lit 32 false true 0 0))))) (x (codes "d") 12 1)) ∷ (t.declared_port (dr (p 14 1)
    t.output (Some t.reg) false (Some (rg (p 16 1) (t.number (p 17 1) (lit 32 false true 3 0)) (t.number (p 19 1)
    (lit 32 false true 0 0))))) (x (codes "q") 21 1)) ∷ [])) (t.more_item (t.always (p 24 2) (t.sensed ((sn
    (t.positive_edge (p 27 2)) (t.read (x (codes "clk") 28 2) t.no_select)) ∷ [])) (t.assign (t.name (x (codes "q")
    30 2) (t.more_select (p 31 2) (t.index (t.read (x (codes "d") 32 2) t.no_select)) t.no_select)) t.nonblocking (p
    34 2) (t.number (p 35 2) (lit 32 false true 1 0)))) t.no_item)) ∷ [])

place_that_varies : verdict_in place_that_varies_text ≡ late
place_that_varies = refl

-- module m(input clk, input [3:0] d, output reg [3:0] q);
--   always @(posedge clk) q[2 +: 2] <= d;
-- endmodule
abbrev known_place_text : Source
known_place_text =
    ((md (p 0 1) (x (codes "m") 1 1) ([]) (Some ((t.declared_port (dr (p 3 1) t.input None false None) (x (codes
    "clk") 4 1)) ∷ (t.declared_port (dr (p 6 1) t.input None false (Some (rg (p 7 1) (t.number (p 8 1) (lit 32 false
    true 3 0)) (t.number (p 10 1) (lit 32 false true 0 0))))) (x (codes "d") 12 1)) ∷ (t.declared_port (dr (p 14 1)
    t.output (Some t.reg) false (Some (rg (p 16 1) (t.number (p 17 1) (lit 32 false true 3 0)) (t.number (p 19 1)
    (lit 32 false true 0 0))))) (x (codes "q") 21 1)) ∷ [])) (t.more_item (t.always (p 24 2) (t.sensed ((sn
    (t.positive_edge (p 27 2)) (t.read (x (codes "clk") 28 2) t.no_select)) ∷ [])) (t.assign (t.name (x (codes "q")
    30 2) (t.more_select (p 31 2) (t.upward (t.number (p 32 2) (lit 32 false true 2 0)) (t.number (p 34 2) (lit 32
    false true 2 0))) t.no_select)) t.nonblocking (p 36 2) (t.read (x (codes "d") 37 2) t.no_select))) t.no_item)) ∷
    [])

known_place : verdict_in known_place_text ≡ accepted
known_place = refl

-- module m;
--   reg r = 1;
--   wire r;
-- endmodule
abbrev earlier_fault_text : Source
earlier_fault_text =
    ((md (p 0 1) (x (codes "m") 1 1) ([]) None (t.more_item (t.registers (p 3 2) false None ((t.valued (x (codes "r")
    4 2) (t.number (p 6 2) (lit 32 false true 1 0))) ∷ [])) (t.more_item (t.nets (p 8 3) false None ((nt (x (codes
    "r") 9 3) None) ∷ [])) t.no_item))) ∷ [])

earlier_fault : verdict_in earlier_fault_text ≡ refused 5 (Some 9) k.Duplicate
earlier_fault = refl

-- module m;
--   reg r = 1;
--   assign q = 1;
-- endmodule
abbrev later_fault_text : Source
later_fault_text =
    ((md (p 0 1) (x (codes "m") 1 1) ([]) None (t.more_item (t.registers (p 3 2) false None ((t.valued (x (codes "r")
    4 2) (t.number (p 6 2) (lit 32 false true 1 0))) ∷ [])) (t.more_item (t.continuous (p 8 3) ((dv (t.name (x (codes
    "q") 9 3) t.no_select) (p 10 3) (t.number (p 11 3) (lit 32 false true 1 0))) ∷ [])) t.no_item))) ∷ [])

later_fault : verdict_in later_fault_text ≡ late
later_fault = refl
