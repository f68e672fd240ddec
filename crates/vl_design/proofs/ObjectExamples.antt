-- Worked examples of phase 5: each kind of fault, where it stands, and what is none.
use Rattle.std.specs.Prelude.{◌≡◌, refl, true, false, [], ◌∷◌, Some, None, codes}
use Rattle.bit_ops.specs.declared.operator.Unary.TheVariants as u
use Rattle.bit_ops.specs.declared.operator.Binary.TheVariants as b
use Rattle.vl_tree.specs.declared.fault.FaultKind.TheVariants as k
use Rattle.vl_tree.specs.Syntax as t
use Rattle.vl_tree.specs.Syntax.{Source}
use Rattle.vl_design.specs.Limits.{limits}
use Rattle.vl_design.proofs.Build.{p, x, lit, rg, dr, vl, lo, nb, nt, sn, fn, ins, md, few, fault_in}

-- ---- names of one scope

-- module m;
--   wire a;
--   wire a;
-- endmodule
abbrev net_twice_text : Source
net_twice_text =
    ((md (p 0 1) (x (codes "m") 1 1) ([]) None (t.more_item (t.nets (p 3 2) false None ((nt (x (codes "a") 4 2) None)
    ∷ [])) (t.more_item (t.nets (p 6 3) false None ((nt (x (codes "a") 7 3) None) ∷ [])) t.no_item))) ∷ [])

net_twice : fault_in limits net_twice_text ≡ Some (5, (Some 7, k.Duplicate))
net_twice = refl

-- module m;
--   parameter P = 1;
--   wire P;
-- endmodule
abbrev parameter_and_net_text : Source
parameter_and_net_text =
    ((md (p 0 1) (x (codes "m") 1 1) ([]) None (t.more_item (t.parameter (p 3 2) false false None ((vl (x (codes "P")
    4 2) (t.number (p 6 2) (lit 32 false true 1 0))) ∷ [])) (t.more_item (t.nets (p 8 3) false None ((nt (x (codes
    "P") 9 3) None) ∷ [])) t.no_item))) ∷ [])

parameter_and_net : fault_in limits parameter_and_net_text ≡ Some (5, (Some 9, k.Duplicate))
parameter_and_net = refl

-- module c;
-- endmodule
-- module m;
--   wire x;
--   c x();
-- endmodule
abbrev instance_and_net_text : Source
instance_and_net_text =
    ((md (p 0 1) (x (codes "c") 1 1) ([]) None t.no_item) ∷ (md (p 4 3) (x (codes "m") 5 3) ([]) None (t.more_item
    (t.nets (p 7 4) false None ((nt (x (codes "x") 8 4) None) ∷ [])) (t.more_item (t.instances (x (codes "c") 10 5)
    None ((ins (x (codes "x") 11 5) None) ∷ [])) t.no_item))) ∷ [])

instance_and_net : fault_in limits instance_and_net_text ≡ Some (5, (Some 11, k.Duplicate))
instance_and_net = refl

-- module m;
--   wire x;
--   if (1) begin : x
--   end
-- endmodule
abbrev label_and_net_text : Source
label_and_net_text =
    ((md (p 0 1) (x (codes "m") 1 1) ([]) None (t.more_item (t.nets (p 3 2) false None ((nt (x (codes "x") 4 2) None)
    ∷ [])) (t.more_item (t.generate_if (t.more_generate_branch (p 6 3) (t.number (p 8 3) (lit 32 false true 1 0))
    (t.several (p 10 3) (Some (x (codes "x") 12 3)) t.no_item) t.no_generate_branch) t.no_generate_else) t.no_item)))
    ∷ [])

label_and_net : fault_in limits label_and_net_text ≡ Some (5, (Some 12, k.Duplicate))
label_and_net = refl

-- module m;
--   wire x;
--   if (0) begin : x
--   end
-- endmodule
abbrev label_of_what_is_not_taken_text : Source
label_of_what_is_not_taken_text =
    ((md (p 0 1) (x (codes "m") 1 1) ([]) None (t.more_item (t.nets (p 3 2) false None ((nt (x (codes "x") 4 2) None)
    ∷ [])) (t.more_item (t.generate_if (t.more_generate_branch (p 6 3) (t.number (p 8 3) (lit 32 false true 0 0))
    (t.several (p 10 3) (Some (x (codes "x") 12 3)) t.no_item) t.no_generate_branch) t.no_generate_else) t.no_item)))
    ∷ [])

label_of_what_is_not_taken : fault_in limits label_of_what_is_not_taken_text ≡ None
label_of_what_is_not_taken = refl

-- module m;
--   genvar i;
--   for (i = 0; i < 3; i = i + 1) begin : x
--   end
-- endmodule
abbrev label_of_a_loop_once_text : Source
label_of_a_loop_once_text =
    ((md (p 0 1) (x (codes "m") 1 1) ([]) None (t.more_item (t.genvar (p 3 2) ((x (codes "i") 4 2) ∷ []))
    (t.more_item (t.generate_loop (p 6 3) (lo (x (codes "i") 8 3) (t.number (p 10 3) (lit 32 false true 0 0))
    (t.chain (t.read (x (codes "i") 12 3) t.no_select) (t.more_link b.Lt (p 13 3) (t.number (p 14 3) (lit 32 false
    true 3 0)) t.no_link)) (x (codes "i") 16 3) (t.chain (t.read (x (codes "i") 18 3) t.no_select) (t.more_link b.Add
    (p 19 3) (t.number (p 20 3) (lit 32 false true 1 0)) t.no_link))) (t.several (p 22 3) (Some (x (codes "x") 24 3))
    t.no_item)) t.no_item))) ∷ [])

label_of_a_loop_once : fault_in limits label_of_a_loop_once_text ≡ None
label_of_a_loop_once = refl

-- module m;
--   genvar i;
--   wire x;
--   for (i = 0; i < 0; i = i + 1) begin : x
--   end
-- endmodule
abbrev label_of_no_turn_text : Source
label_of_no_turn_text =
    ((md (p 0 1) (x (codes "m") 1 1) ([]) None (t.more_item (t.genvar (p 3 2) ((x (codes "i") 4 2) ∷ []))
    (t.more_item (t.nets (p 6 3) false None ((nt (x (codes "x") 7 3) None) ∷ [])) (t.more_item (t.generate_loop (p 9
    4) (lo (x (codes "i") 11 4) (t.number (p 13 4) (lit 32 false true 0 0)) (t.chain (t.read (x (codes "i") 15 4)
    t.no_select) (t.more_link b.Lt (p 16 4) (t.number (p 17 4) (lit 32 false true 0 0)) t.no_link)) (x (codes "i") 19
    4) (t.chain (t.read (x (codes "i") 21 4) t.no_select) (t.more_link b.Add (p 22 4) (t.number (p 23 4) (lit 32
    false true 1 0)) t.no_link))) (t.several (p 25 4) (Some (x (codes "x") 27 4)) t.no_item)) t.no_item)))) ∷ [])

label_of_no_turn : fault_in limits label_of_no_turn_text ≡ None
label_of_no_turn = refl

-- module m;
--   wire genblk1;
--   if (1) begin
--   end
-- endmodule
abbrev no_label_declares_nothing_text : Source
no_label_declares_nothing_text =
    ((md (p 0 1) (x (codes "m") 1 1) ([]) None (t.more_item (t.nets (p 3 2) false None ((nt (x (codes "genblk1") 4 2)
    None) ∷ [])) (t.more_item (t.generate_if (t.more_generate_branch (p 6 3) (t.number (p 8 3) (lit 32 false true 1
    0)) (t.several (p 10 3) None t.no_item) t.no_generate_branch) t.no_generate_else) t.no_item))) ∷ [])

no_label_declares_nothing : fault_in limits no_label_declares_nothing_text ≡ None
no_label_declares_nothing = refl

-- module m;
--   wire a;
--   if (1) begin
--     wire a;
--   end
-- endmodule
abbrev inner_scope_text : Source
inner_scope_text =
    ((md (p 0 1) (x (codes "m") 1 1) ([]) None (t.more_item (t.nets (p 3 2) false None ((nt (x (codes "a") 4 2) None)
    ∷ [])) (t.more_item (t.generate_if (t.more_generate_branch (p 6 3) (t.number (p 8 3) (lit 32 false true 1 0))
    (t.several (p 10 3) None (t.more_item (t.nets (p 11 4) false None ((nt (x (codes "a") 12 4) None) ∷ []))
    t.no_item)) t.no_generate_branch) t.no_generate_else) t.no_item))) ∷ [])

inner_scope : fault_in limits inner_scope_text ≡ None
inner_scope = refl

-- module m;
--   function f;
--     input a;
--     reg a;
--     f = a;
--   endfunction
-- endmodule
abbrev of_a_function_text : Source
of_a_function_text =
    ((md (p 0 1) (x (codes "m") 1 1) ([]) None (t.more_item (t.function (fn (p 3 2) false false t.bit_result (x
    (codes "f") 4 2) ([]) ((t.inputs (p 6 3) false None ((x (codes "a") 7 3) ∷ [])) ∷ (t.variables (p 9 4) false None
    ((x (codes "a") 10 4) ∷ [])) ∷ []) (t.assign (t.name (x (codes "f") 12 5) t.no_select) t.blocking (p 13 5)
    (t.read (x (codes "a") 14 5) t.no_select)))) t.no_item)) ∷ [])

of_a_function : fault_in limits of_a_function_text ≡ Some (5, (Some 10, k.Duplicate))
of_a_function = refl

-- module m;
--   function f;
--     reg a;
--     input a;
--     f = a;
--   endfunction
-- endmodule
abbrev in_order_of_text_text : Source
in_order_of_text_text =
    ((md (p 0 1) (x (codes "m") 1 1) ([]) None (t.more_item (t.function (fn (p 3 2) false false t.bit_result (x
    (codes "f") 4 2) ([]) ((t.variables (p 6 3) false None ((x (codes "a") 7 3) ∷ [])) ∷ (t.inputs (p 9 4) false None
    ((x (codes "a") 10 4) ∷ [])) ∷ []) (t.assign (t.name (x (codes "f") 12 5) t.no_select) t.blocking (p 13 5)
    (t.read (x (codes "a") 14 5) t.no_select)))) t.no_item)) ∷ [])

in_order_of_text : fault_in limits in_order_of_text_text ≡ Some (5, (Some 10, k.Duplicate))
in_order_of_text = refl

-- module m;
--   function f;
--     input f;
--     f = 1;
--   endfunction
-- endmodule
abbrev name_of_a_function_text : Source
name_of_a_function_text =
    ((md (p 0 1) (x (codes "m") 1 1) ([]) None (t.more_item (t.function (fn (p 3 2) false false t.bit_result (x
    (codes "f") 4 2) ([]) ((t.inputs (p 6 3) false None ((x (codes "f") 7 3) ∷ [])) ∷ []) (t.assign (t.name (x (codes
    "f") 9 4) t.no_select) t.blocking (p 10 4) (t.number (p 11 4) (lit 32 false true 1 0))))) t.no_item)) ∷ [])

name_of_a_function : fault_in limits name_of_a_function_text ≡ Some (5, (Some 7, k.Duplicate))
name_of_a_function = refl

-- module m(a, a);
--   input a;
-- endmodule
abbrev in_a_header_text : Source
in_a_header_text =
    ((md (p 0 1) (x (codes "m") 1 1) ([]) (Some ((t.named_port (x (codes "a") 3 1)) ∷ (t.named_port (x (codes "a") 5
    1)) ∷ [])) (t.more_item (t.directed (dr (p 8 2) t.input None false None) ((x (codes "a") 9 2) ∷ [])) t.no_item))
    ∷ [])

in_a_header : fault_in limits in_a_header_text ≡ Some (5, (Some 5, k.Duplicate))
in_a_header = refl

-- module m(input a, input a);
-- endmodule
abbrev port_twice_text : Source
port_twice_text =
    ((md (p 0 1) (x (codes "m") 1 1) ([]) (Some ((t.declared_port (dr (p 3 1) t.input None false None) (x (codes "a")
    4 1)) ∷ (t.declared_port (dr (p 6 1) t.input None false None) (x (codes "a") 7 1)) ∷ [])) t.no_item) ∷ [])

port_twice : fault_in limits port_twice_text ≡ Some (5, (Some 7, k.Duplicate))
port_twice = refl

-- ---- one object of two declarations

-- module m(q);
--   output q;
--   reg q;
-- endmodule
abbrev output_and_reg_text : Source
output_and_reg_text =
    ((md (p 0 1) (x (codes "m") 1 1) ([]) (Some ((t.named_port (x (codes "q") 3 1)) ∷ [])) (t.more_item (t.directed
    (dr (p 6 2) t.output None false None) ((x (codes "q") 7 2) ∷ [])) (t.more_item (t.registers (p 9 3) false None
    ((t.variable (x (codes "q") 10 3)) ∷ [])) t.no_item))) ∷ [])

output_and_reg : fault_in limits output_and_reg_text ≡ None
output_and_reg = refl

-- module m(q);
--   reg q;
--   output q;
-- endmodule
abbrev reg_and_output_text : Source
reg_and_output_text =
    ((md (p 0 1) (x (codes "m") 1 1) ([]) (Some ((t.named_port (x (codes "q") 3 1)) ∷ [])) (t.more_item (t.registers
    (p 6 2) false None ((t.variable (x (codes "q") 7 2)) ∷ [])) (t.more_item (t.directed (dr (p 9 3) t.output None
    false None) ((x (codes "q") 10 3) ∷ [])) t.no_item))) ∷ [])

reg_and_output : fault_in limits reg_and_output_text ≡ None
reg_and_output = refl

-- module m(input [3:0] a);
--   wire [3:0] a;
-- endmodule
abbrev header_and_net_text : Source
header_and_net_text =
    ((md (p 0 1) (x (codes "m") 1 1) ([]) (Some ((t.declared_port (dr (p 3 1) t.input None false (Some (rg (p 4 1)
    (t.number (p 5 1) (lit 32 false true 3 0)) (t.number (p 7 1) (lit 32 false true 0 0))))) (x (codes "a") 9 1)) ∷
    [])) (t.more_item (t.nets (p 12 2) false (Some (rg (p 13 2) (t.number (p 14 2) (lit 32 false true 3 0)) (t.number
    (p 16 2) (lit 32 false true 0 0)))) ((nt (x (codes "a") 18 2) None) ∷ [])) t.no_item)) ∷ [])

header_and_net : fault_in limits header_and_net_text ≡ None
header_and_net = refl

-- module m(output [31:0] q);
--   integer q;
-- endmodule
abbrev integer_and_its_range_text : Source
integer_and_its_range_text =
    ((md (p 0 1) (x (codes "m") 1 1) ([]) (Some ((t.declared_port (dr (p 3 1) t.output None false (Some (rg (p 4 1)
    (t.number (p 5 1) (lit 32 false true 31 0)) (t.number (p 7 1) (lit 32 false true 0 0))))) (x (codes "q") 9 1)) ∷
    [])) (t.more_item (t.integer (p 12 2) ((t.variable (x (codes "q") 13 2)) ∷ [])) t.no_item)) ∷ [])

integer_and_its_range : fault_in limits integer_and_its_range_text ≡ None
integer_and_its_range = refl

-- module m(input a);
--   wire [0:0] a;
-- endmodule
abbrev scalar_and_its_range_text : Source
scalar_and_its_range_text =
    ((md (p 0 1) (x (codes "m") 1 1) ([]) (Some ((t.declared_port (dr (p 3 1) t.input None false None) (x (codes "a")
    4 1)) ∷ [])) (t.more_item (t.nets (p 7 2) false (Some (rg (p 8 2) (t.number (p 9 2) (lit 32 false true 0 0))
    (t.number (p 11 2) (lit 32 false true 0 0)))) ((nt (x (codes "a") 13 2) None) ∷ [])) t.no_item)) ∷ [])

scalar_and_its_range : fault_in limits scalar_and_its_range_text ≡ None
scalar_and_its_range = refl

-- module m(a);
--   input [3:0] a;
--   wire [4:0] a;
-- endmodule
abbrev ranges_that_differ_text : Source
ranges_that_differ_text =
    ((md (p 0 1) (x (codes "m") 1 1) ([]) (Some ((t.named_port (x (codes "a") 3 1)) ∷ [])) (t.more_item (t.directed
    (dr (p 6 2) t.input None false (Some (rg (p 7 2) (t.number (p 8 2) (lit 32 false true 3 0)) (t.number (p 10 2)
    (lit 32 false true 0 0))))) ((x (codes "a") 12 2) ∷ [])) (t.more_item (t.nets (p 14 3) false (Some (rg (p 15 3)
    (t.number (p 16 3) (lit 32 false true 4 0)) (t.number (p 18 3) (lit 32 false true 0 0)))) ((nt (x (codes "a") 20
    3) None) ∷ [])) t.no_item))) ∷ [])

ranges_that_differ : fault_in limits ranges_that_differ_text ≡ Some (5, (Some 20, k.BadPort))
ranges_that_differ = refl

-- module m(input a);
--   reg a;
-- endmodule
abbrev input_and_reg_text : Source
input_and_reg_text =
    ((md (p 0 1) (x (codes "m") 1 1) ([]) (Some ((t.declared_port (dr (p 3 1) t.input None false None) (x (codes "a")
    4 1)) ∷ [])) (t.more_item (t.registers (p 7 2) false None ((t.variable (x (codes "a") 8 2)) ∷ [])) t.no_item)) ∷
    [])

input_and_reg : fault_in limits input_and_reg_text ≡ Some (5, (Some 8, k.BadPort))
input_and_reg = refl

-- module m(q);
--   output q;
--   reg q;
--   reg q;
-- endmodule
abbrev three_declarations_text : Source
three_declarations_text =
    ((md (p 0 1) (x (codes "m") 1 1) ([]) (Some ((t.named_port (x (codes "q") 3 1)) ∷ [])) (t.more_item (t.directed
    (dr (p 6 2) t.output None false None) ((x (codes "q") 7 2) ∷ [])) (t.more_item (t.registers (p 9 3) false None
    ((t.variable (x (codes "q") 10 3)) ∷ [])) (t.more_item (t.registers (p 12 4) false None ((t.variable (x (codes
    "q") 13 4)) ∷ [])) t.no_item)))) ∷ [])

three_declarations : fault_in limits three_declarations_text ≡ Some (5, (Some 13, k.Duplicate))
three_declarations = refl

-- module m(output reg q);
--   reg q;
-- endmodule
abbrev reg_twice_text : Source
reg_twice_text =
    ((md (p 0 1) (x (codes "m") 1 1) ([]) (Some ((t.declared_port (dr (p 3 1) t.output (Some t.reg) false None) (x
    (codes "q") 5 1)) ∷ [])) (t.more_item (t.registers (p 8 2) false None ((t.variable (x (codes "q") 9 2)) ∷ []))
    t.no_item)) ∷ [])

reg_twice : fault_in limits reg_twice_text ≡ Some (5, (Some 9, k.Duplicate))
reg_twice = refl

-- ---- ports

-- module m(a);
--   wire a;
-- endmodule
abbrev no_direction_text : Source
no_direction_text =
    ((md (p 0 1) (x (codes "m") 1 1) ([]) (Some ((t.named_port (x (codes "a") 3 1)) ∷ [])) (t.more_item (t.nets (p 6
    2) false None ((nt (x (codes "a") 7 2) None) ∷ [])) t.no_item)) ∷ [])

no_direction : fault_in limits no_direction_text ≡ Some (5, (Some 3, k.BadPort))
no_direction = refl

-- module m(input reg a);
-- endmodule
abbrev input_reg_text : Source
input_reg_text =
    ((md (p 0 1) (x (codes "m") 1 1) ([]) (Some ((t.declared_port (dr (p 3 1) t.input (Some t.reg) false None) (x
    (codes "a") 5 1)) ∷ [])) t.no_item) ∷ [])

input_reg : fault_in limits input_reg_text ≡ Some (5, (Some 5, k.BadPort))
input_reg = refl

-- module m(output reg q, input reg a, b);
-- endmodule
abbrev input_reg_of_the_one_before_text : Source
input_reg_of_the_one_before_text =
    ((md (p 0 1) (x (codes "m") 1 1) ([]) (Some ((t.declared_port (dr (p 3 1) t.output (Some t.reg) false None) (x
    (codes "q") 5 1)) ∷ (t.declared_port (dr (p 7 1) t.input (Some t.reg) false None) (x (codes "a") 9 1)) ∷
    (t.named_port (x (codes "b") 11 1)) ∷ [])) t.no_item) ∷ [])

input_reg_of_the_one_before : fault_in limits input_reg_of_the_one_before_text ≡ Some (5, (Some 9, k.BadPort))
input_reg_of_the_one_before = refl

-- module c(a);
--   input a, b;
-- endmodule
-- module m;
--   c x(.a(1), .b(0));
-- endmodule
abbrev not_in_the_header_text : Source
not_in_the_header_text =
    ((md (p 0 1) (x (codes "c") 1 1) ([]) (Some ((t.named_port (x (codes "a") 3 1)) ∷ [])) (t.more_item (t.directed
    (dr (p 6 2) t.input None false None) ((x (codes "a") 7 2) ∷ (x (codes "b") 9 2) ∷ [])) t.no_item)) ∷ (md (p 12 4)
    (x (codes "m") 13 4) ([]) None (t.more_item (t.instances (x (codes "c") 15 5) None ((ins (x (codes "x") 16 5)
    (Some (t.by_name ((nb (p 18 5) (x (codes "a") 19 5) (Some (t.number (p 21 5) (lit 32 false true 1 0)))) ∷ (nb (p
    24 5) (x (codes "b") 25 5) (Some (t.number (p 27 5) (lit 32 false true 0 0)))) ∷ [])))) ∷ [])) t.no_item)) ∷ [])

not_in_the_header : fault_in limits not_in_the_header_text ≡ None
not_in_the_header = refl

-- module c(input a);
-- endmodule
-- module m;
--   c x(.a(1), .a(0));
-- endmodule
abbrev connected_twice_text : Source
connected_twice_text =
    ((md (p 0 1) (x (codes "c") 1 1) ([]) (Some ((t.declared_port (dr (p 3 1) t.input None false None) (x (codes "a")
    4 1)) ∷ [])) t.no_item) ∷ (md (p 8 3) (x (codes "m") 9 3) ([]) None (t.more_item (t.instances (x (codes "c") 11
    4) None ((ins (x (codes "x") 12 4) (Some (t.by_name ((nb (p 14 4) (x (codes "a") 15 4) (Some (t.number (p 17 4)
    (lit 32 false true 1 0)))) ∷ (nb (p 20 4) (x (codes "a") 21 4) (Some (t.number (p 23 4) (lit 32 false true 0
    0)))) ∷ [])))) ∷ [])) t.no_item)) ∷ [])

connected_twice : fault_in limits connected_twice_text ≡ Some (5, (Some 21, k.BadPort))
connected_twice = refl

-- module c(input a);
-- endmodule
-- module m;
--   c x(1, 0);
-- endmodule
abbrev too_many_text : Source
too_many_text =
    ((md (p 0 1) (x (codes "c") 1 1) ([]) (Some ((t.declared_port (dr (p 3 1) t.input None false None) (x (codes "a")
    4 1)) ∷ [])) t.no_item) ∷ (md (p 8 3) (x (codes "m") 9 3) ([]) None (t.more_item (t.instances (x (codes "c") 11
    4) None ((ins (x (codes "x") 12 4) (Some (t.ordered (t.more_expr (t.number (p 14 4) (lit 32 false true 1 0))
    (t.more_expr (t.number (p 16 4) (lit 32 false true 0 0)) t.no_expr))))) ∷ [])) t.no_item)) ∷ [])

too_many : fault_in limits too_many_text ≡ Some (5, (Some 16, k.BadPort))
too_many = refl

-- module c(input a);
-- endmodule
-- module m;
--   c x(.b(0));
-- endmodule
abbrev unknown_port_text : Source
unknown_port_text =
    ((md (p 0 1) (x (codes "c") 1 1) ([]) (Some ((t.declared_port (dr (p 3 1) t.input None false None) (x (codes "a")
    4 1)) ∷ [])) t.no_item) ∷ (md (p 8 3) (x (codes "m") 9 3) ([]) None (t.more_item (t.instances (x (codes "c") 11
    4) None ((ins (x (codes "x") 12 4) (Some (t.by_name ((nb (p 14 4) (x (codes "b") 15 4) (Some (t.number (p 17 4)
    (lit 32 false true 0 0)))) ∷ [])))) ∷ [])) t.no_item)) ∷ [])

unknown_port : fault_in limits unknown_port_text ≡ Some (5, (Some 15, k.UnknownPort))
unknown_port = refl

-- module c #(parameter P = 1) (input a);
-- endmodule
-- module m;
--   c x(.P(0));
-- endmodule
abbrev parameter_is_no_port_text : Source
parameter_is_no_port_text =
    ((md (p 0 1) (x (codes "c") 1 1) ((t.declared_parameter (p 4 1) false None (x (codes "P") 5 1) (t.number (p 7 1)
    (lit 32 false true 1 0))) ∷ []) (Some ((t.declared_port (dr (p 10 1) t.input None false None) (x (codes "a") 11
    1)) ∷ [])) t.no_item) ∷ (md (p 15 3) (x (codes "m") 16 3) ([]) None (t.more_item (t.instances (x (codes "c") 18
    4) None ((ins (x (codes "x") 19 4) (Some (t.by_name ((nb (p 21 4) (x (codes "P") 22 4) (Some (t.number (p 24 4)
    (lit 32 false true 0 0)))) ∷ [])))) ∷ [])) t.no_item)) ∷ [])

parameter_is_no_port : fault_in limits parameter_is_no_port_text ≡ Some (5, (Some 22, k.UnknownPort))
parameter_is_no_port = refl

-- ---- ranges

-- module m;
--   wire [0:-1] a;
-- endmodule
abbrev below_0_text : Source
below_0_text =
    ((md (p 0 1) (x (codes "m") 1 1) ([]) None (t.more_item (t.nets (p 3 2) false (Some (rg (p 4 2) (t.number (p 5 2)
    (lit 32 false true 0 0)) (t.unary (p 7 2) u.Minus (t.number (p 8 2) (lit 32 false true 1 0))))) ((nt (x (codes
    "a") 10 2) None) ∷ [])) t.no_item)) ∷ [])

below_0 : fault_in limits below_0_text ≡ Some (5, (Some 7, k.BadRange))
below_0 = refl

-- module m;
--   wire [65536:65530] a;
-- endmodule
abbrev above_all_text : Source
above_all_text =
    ((md (p 0 1) (x (codes "m") 1 1) ([]) None (t.more_item (t.nets (p 3 2) false (Some (rg (p 4 2) (t.number (p 5 2)
    (lit 32 false true 65536 0)) (t.number (p 7 2) (lit 32 false true 65530 0)))) ((nt (x (codes "a") 9 2) None) ∷
    [])) t.no_item)) ∷ [])

above_all : fault_in limits above_all_text ≡ Some (5, (Some 5, k.BadRange))
above_all = refl

-- module m;
--   wire [65535:65530] a;
-- endmodule
abbrev as_far_as_may_be_text : Source
as_far_as_may_be_text =
    ((md (p 0 1) (x (codes "m") 1 1) ([]) None (t.more_item (t.nets (p 3 2) false (Some (rg (p 4 2) (t.number (p 5 2)
    (lit 32 false true 65535 0)) (t.number (p 7 2) (lit 32 false true 65530 0)))) ((nt (x (codes "a") 9 2) None) ∷
    [])) t.no_item)) ∷ [])

as_far_as_may_be : fault_in limits as_far_as_may_be_text ≡ None
as_far_as_may_be = refl

-- module m;
--   reg a [0:1048576];
-- endmodule
abbrev words_above_all_text : Source
words_above_all_text =
    ((md (p 0 1) (x (codes "m") 1 1) ([]) None (t.more_item (t.registers (p 3 2) false None ((t.memory (x (codes "a")
    4 2) (rg (p 5 2) (t.number (p 6 2) (lit 32 false true 0 0)) (t.number (p 8 2) (lit 32 false true 1048576 0)))) ∷
    [])) t.no_item)) ∷ [])

words_above_all : fault_in limits words_above_all_text ≡ Some (5, (Some 8, k.BadRange))
words_above_all = refl

-- module m;
--   wire [128:0] a;
-- endmodule
abbrev too_wide_text : Source
too_wide_text =
    ((md (p 0 1) (x (codes "m") 1 1) ([]) None (t.more_item (t.nets (p 3 2) false (Some (rg (p 4 2) (t.number (p 5 2)
    (lit 32 false true 128 0)) (t.number (p 7 2) (lit 32 false true 0 0)))) ((nt (x (codes "a") 9 2) None) ∷ []))
    t.no_item)) ∷ [])

too_wide : fault_in limits too_wide_text ≡ Some (5, (Some 9, k.TooWide))
too_wide = refl

-- module m;
--   wire [0:127] a;
-- endmodule
abbrev as_wide_as_may_be_text : Source
as_wide_as_may_be_text =
    ((md (p 0 1) (x (codes "m") 1 1) ([]) None (t.more_item (t.nets (p 3 2) false (Some (rg (p 4 2) (t.number (p 5 2)
    (lit 32 false true 0 0)) (t.number (p 7 2) (lit 32 false true 127 0)))) ((nt (x (codes "a") 9 2) None) ∷ []))
    t.no_item)) ∷ [])

as_wide_as_may_be : fault_in limits as_wide_as_may_be_text ≡ None
as_wide_as_may_be = refl

-- module m;
--   function [128:0] f;
--     input a;
--     f = a;
--   endfunction
-- endmodule
abbrev each_name_is_too_wide_text : Source
each_name_is_too_wide_text =
    ((md (p 0 1) (x (codes "m") 1 1) ([]) None (t.more_item (t.function (fn (p 3 2) false false (t.range_result (rg
    (p 4 2) (t.number (p 5 2) (lit 32 false true 128 0)) (t.number (p 7 2) (lit 32 false true 0 0)))) (x (codes "f")
    9 2) ([]) ((t.inputs (p 11 3) false None ((x (codes "a") 12 3) ∷ [])) ∷ []) (t.assign (t.name (x (codes "f") 14
    4) t.no_select) t.blocking (p 15 4) (t.read (x (codes "a") 16 4) t.no_select)))) t.no_item)) ∷ [])

each_name_is_too_wide : fault_in limits each_name_is_too_wide_text ≡ Some (5, (Some 9, k.TooWide))
each_name_is_too_wide = refl

-- ---- limits, here small ones: 4 signals, 8 words, 2 data inputs of 12 bits

-- module m;
--   wire a, b, c, d;
-- endmodule
abbrev as_many_signals_text : Source
as_many_signals_text =
    ((md (p 0 1) (x (codes "m") 1 1) ([]) None (t.more_item (t.nets (p 3 2) false None ((nt (x (codes "a") 4 2) None)
    ∷ (nt (x (codes "b") 6 2) None) ∷ (nt (x (codes "c") 8 2) None) ∷ (nt (x (codes "d") 10 2) None) ∷ []))
    t.no_item)) ∷ [])

as_many_signals : fault_in few as_many_signals_text ≡ None
as_many_signals = refl

-- module m;
--   wire a, b, c, d, e;
-- endmodule
abbrev too_many_signals_text : Source
too_many_signals_text =
    ((md (p 0 1) (x (codes "m") 1 1) ([]) None (t.more_item (t.nets (p 3 2) false None ((nt (x (codes "a") 4 2) None)
    ∷ (nt (x (codes "b") 6 2) None) ∷ (nt (x (codes "c") 8 2) None) ∷ (nt (x (codes "d") 10 2) None) ∷ (nt (x (codes
    "e") 12 2) None) ∷ [])) t.no_item)) ∷ [])

too_many_signals : fault_in few too_many_signals_text ≡ Some (5, (Some 12, k.TooManySignals))
too_many_signals = refl

-- module m;
--   integer a, b, c, d, i;
--   initial for (i = 0; i < 1; i = i + 1) ;
-- endmodule
abbrev loop_variables_are_none_text : Source
loop_variables_are_none_text =
    ((md (p 0 1) (x (codes "m") 1 1) ([]) None (t.more_item (t.integer (p 3 2) ((t.variable (x (codes "a") 4 2)) ∷
    (t.variable (x (codes "b") 6 2)) ∷ (t.variable (x (codes "c") 8 2)) ∷ (t.variable (x (codes "d") 10 2)) ∷
    (t.variable (x (codes "i") 12 2)) ∷ [])) (t.more_item (t.initial (p 14 3) (t.loop (p 15 3) (lo (x (codes "i") 17
    3) (t.number (p 19 3) (lit 32 false true 0 0)) (t.chain (t.read (x (codes "i") 21 3) t.no_select) (t.more_link
    b.Lt (p 22 3) (t.number (p 23 3) (lit 32 false true 1 0)) t.no_link)) (x (codes "i") 25 3) (t.chain (t.read (x
    (codes "i") 27 3) t.no_select) (t.more_link b.Add (p 28 3) (t.number (p 29 3) (lit 32 false true 1 0))
    t.no_link))) (t.empty (p 31 3)))) t.no_item))) ∷ [])

loop_variables_are_none : fault_in few loop_variables_are_none_text ≡ None
loop_variables_are_none = refl

-- module m;
--   reg a [0:6], b [1:1], c [0:0];
-- endmodule
abbrev too_many_words_text : Source
too_many_words_text =
    ((md (p 0 1) (x (codes "m") 1 1) ([]) None (t.more_item (t.registers (p 3 2) false None ((t.memory (x (codes "a")
    4 2) (rg (p 5 2) (t.number (p 6 2) (lit 32 false true 0 0)) (t.number (p 8 2) (lit 32 false true 6 0)))) ∷
    (t.memory (x (codes "b") 11 2) (rg (p 12 2) (t.number (p 13 2) (lit 32 false true 1 0)) (t.number (p 15 2) (lit
    32 false true 1 0)))) ∷ (t.memory (x (codes "c") 18 2) (rg (p 19 2) (t.number (p 20 2) (lit 32 false true 0 0))
    (t.number (p 22 2) (lit 32 false true 0 0)))) ∷ [])) t.no_item)) ∷ [])

too_many_words : fault_in few too_many_words_text ≡ Some (5, (Some 18, k.TooManyWords))
too_many_words = refl

-- module c;
--   reg n [0:7];
-- endmodule
-- module m;
--   reg a [0:2000000];
--   c x();
-- endmodule
abbrev words_of_a_bad_range_text : Source
words_of_a_bad_range_text =
    ((md (p 0 1) (x (codes "c") 1 1) ([]) None (t.more_item (t.registers (p 3 2) false None ((t.memory (x (codes "n")
    4 2) (rg (p 5 2) (t.number (p 6 2) (lit 32 false true 0 0)) (t.number (p 8 2) (lit 32 false true 7 0)))) ∷ []))
    t.no_item)) ∷ (md (p 12 4) (x (codes "m") 13 4) ([]) None (t.more_item (t.registers (p 15 5) false None
    ((t.memory (x (codes "a") 16 5) (rg (p 17 5) (t.number (p 18 5) (lit 32 false true 0 0)) (t.number (p 20 5) (lit
    32 false true 2000000 0)))) ∷ [])) (t.more_item (t.instances (x (codes "c") 23 6) None ((ins (x (codes "x") 24 6)
    None) ∷ [])) t.no_item))) ∷ [])

words_of_a_bad_range : fault_in few words_of_a_bad_range_text ≡ Some (5, (Some 20, k.BadRange))
words_of_a_bad_range = refl

-- module c;
--   wire a, b, c;
-- endmodule
-- module m;
--   wire a, a;
--   c x();
-- endmodule
abbrev a_repeated_name_counts_once_text : Source
a_repeated_name_counts_once_text =
    ((md (p 0 1) (x (codes "c") 1 1) ([]) None (t.more_item (t.nets (p 3 2) false None ((nt (x (codes "a") 4 2) None)
    ∷ (nt (x (codes "b") 6 2) None) ∷ (nt (x (codes "c") 8 2) None) ∷ [])) t.no_item)) ∷ (md (p 11 4) (x (codes "m")
    12 4) ([]) None (t.more_item (t.nets (p 14 5) false None ((nt (x (codes "a") 15 5) None) ∷ (nt (x (codes "a") 17
    5) None) ∷ [])) (t.more_item (t.instances (x (codes "c") 19 6) None ((ins (x (codes "x") 20 6) None) ∷ []))
    t.no_item))) ∷ [])

a_repeated_name_counts_once : fault_in few a_repeated_name_counts_once_text ≡ Some (5, (Some 17, k.Duplicate))
a_repeated_name_counts_once = refl

-- module m(input a, b, c);
-- endmodule
abbrev too_many_inputs_text : Source
too_many_inputs_text =
    ((md (p 0 1) (x (codes "m") 1 1) ([]) (Some ((t.declared_port (dr (p 3 1) t.input None false None) (x (codes "a")
    4 1)) ∷ (t.named_port (x (codes "b") 6 1)) ∷ (t.named_port (x (codes "c") 8 1)) ∷ [])) t.no_item) ∷ [])

too_many_inputs : fault_in few too_many_inputs_text ≡ Some (5, (Some 8, k.TooManyInputs))
too_many_inputs = refl

-- module m(input a, b, c);
--   always @(posedge a) ;
-- endmodule
abbrev clocks_are_no_data_text : Source
clocks_are_no_data_text =
    ((md (p 0 1) (x (codes "m") 1 1) ([]) (Some ((t.declared_port (dr (p 3 1) t.input None false None) (x (codes "a")
    4 1)) ∷ (t.named_port (x (codes "b") 6 1)) ∷ (t.named_port (x (codes "c") 8 1)) ∷ [])) (t.more_item (t.always (p
    11 2) (t.sensed ((sn (t.positive_edge (p 14 2)) (t.read (x (codes "a") 15 2) t.no_select)) ∷ [])) (t.empty (p 17
    2))) t.no_item)) ∷ [])

clocks_are_no_data : fault_in few clocks_are_no_data_text ≡ None
clocks_are_no_data = refl

-- module c(input clk);
--   always @(posedge clk) ;
-- endmodule
-- module m(input a, b, c);
--   c x(.clk(b));
-- endmodule
abbrev clocks_of_an_instance_text : Source
clocks_of_an_instance_text =
    ((md (p 0 1) (x (codes "c") 1 1) ([]) (Some ((t.declared_port (dr (p 3 1) t.input None false None) (x (codes
    "clk") 4 1)) ∷ [])) (t.more_item (t.always (p 7 2) (t.sensed ((sn (t.positive_edge (p 10 2)) (t.read (x (codes
    "clk") 11 2) t.no_select)) ∷ [])) (t.empty (p 13 2))) t.no_item)) ∷ (md (p 15 4) (x (codes "m") 16 4) ([]) (Some
    ((t.declared_port (dr (p 18 4) t.input None false None) (x (codes "a") 19 4)) ∷ (t.named_port (x (codes "b") 21
    4)) ∷ (t.named_port (x (codes "c") 23 4)) ∷ [])) (t.more_item (t.instances (x (codes "c") 26 5) None ((ins (x
    (codes "x") 27 5) (Some (t.by_name ((nb (p 29 5) (x (codes "clk") 30 5) (Some (t.read (x (codes "b") 32 5)
    t.no_select))) ∷ [])))) ∷ [])) t.no_item)) ∷ [])

clocks_of_an_instance : fault_in few clocks_of_an_instance_text ≡ None
clocks_of_an_instance = refl

-- module c(input clk);
--   always @(posedge clk) ;
-- endmodule
-- module m(input a, b, c);
--   c x(.clk((b)));
-- endmodule
abbrev no_clock_in_parentheses_text : Source
no_clock_in_parentheses_text =
    ((md (p 0 1) (x (codes "c") 1 1) ([]) (Some ((t.declared_port (dr (p 3 1) t.input None false None) (x (codes
    "clk") 4 1)) ∷ [])) (t.more_item (t.always (p 7 2) (t.sensed ((sn (t.positive_edge (p 10 2)) (t.read (x (codes
    "clk") 11 2) t.no_select)) ∷ [])) (t.empty (p 13 2))) t.no_item)) ∷ (md (p 15 4) (x (codes "m") 16 4) ([]) (Some
    ((t.declared_port (dr (p 18 4) t.input None false None) (x (codes "a") 19 4)) ∷ (t.named_port (x (codes "b") 21
    4)) ∷ (t.named_port (x (codes "c") 23 4)) ∷ [])) (t.more_item (t.instances (x (codes "c") 26 5) None ((ins (x
    (codes "x") 27 5) (Some (t.by_name ((nb (p 29 5) (x (codes "clk") 30 5) (Some (t.group (p 32 5) (t.read (x (codes
    "b") 33 5) t.no_select)))) ∷ [])))) ∷ [])) t.no_item)) ∷ [])

no_clock_in_parentheses : fault_in few no_clock_in_parentheses_text ≡ Some (5, (Some 23, k.TooManyInputs))
no_clock_in_parentheses = refl

-- module m(input [7:0] a, input [4:0] b);
-- endmodule
abbrev too_many_bits_text : Source
too_many_bits_text =
    ((md (p 0 1) (x (codes "m") 1 1) ([]) (Some ((t.declared_port (dr (p 3 1) t.input None false (Some (rg (p 4 1)
    (t.number (p 5 1) (lit 32 false true 7 0)) (t.number (p 7 1) (lit 32 false true 0 0))))) (x (codes "a") 9 1)) ∷
    (t.declared_port (dr (p 11 1) t.input None false (Some (rg (p 12 1) (t.number (p 13 1) (lit 32 false true 4 0))
    (t.number (p 15 1) (lit 32 false true 0 0))))) (x (codes "b") 17 1)) ∷ [])) t.no_item) ∷ [])

too_many_bits : fault_in few too_many_bits_text ≡ Some (5, (Some 17, k.TooManyInputs))
too_many_bits = refl

-- ---- phase 4 comes first

-- module m;
--   wire a;
--   wire a;
--   q x();
-- endmodule
abbrev earlier_phase_text : Source
earlier_phase_text =
    ((md (p 0 1) (x (codes "m") 1 1) ([]) None (t.more_item (t.nets (p 3 2) false None ((nt (x (codes "a") 4 2) None)
    ∷ [])) (t.more_item (t.nets (p 6 3) false None ((nt (x (codes "a") 7 3) None) ∷ [])) (t.more_item (t.instances (x
    (codes "q") 9 4) None ((ins (x (codes "x") 10 4) None) ∷ [])) t.no_item)))) ∷ [])

earlier_phase : fault_in limits earlier_phase_text ≡ Some (4, (Some 9, k.UnknownModule))
earlier_phase = refl
