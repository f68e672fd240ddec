-- Worked examples of runs: what is shown in each cycle, that each driver holds and each other bit is what the state and the row say, and which
-- assertions fire.
use Rattle.std.specs.Prelude.{◌≡◌, refl, ℕ, true, false, List, [], ◌∷◌, map, drop, length, replicate, Some, None, codes}
use Rattle.bit_ops.specs.declared.operator.Unary.TheVariants as u
use Rattle.bit_ops.specs.declared.operator.Binary.TheVariants as b
use Rattle.netlist.specs.Values.{Values}
use Rattle.vl_tree.specs.Syntax as t
use Rattle.vl_tree.specs.Syntax.{Source}
use Rattle.vl_design.specs.Design.{Design}
use Rattle.vl_process.specs.Processes.{drivers}
use Rattle.vl_process.specs.Run.{initial, fires}
use Rattle.vl_process.specs.Shown.{shown}
use Rattle.std.specs.Fmt.{digits}
use Rattle.vl_process.proofs.Build.{p, x, lit, rg, dr, nb, nt, dv, sn, ins, md, design_in, values, cycles, each_driven, undriven_from, fired}

-- ---- a counter that stops: if and else, one block

-- module cnt(input clk, input rst, input en, output reg [3:0] r);
--   always @(posedge clk) begin
--     if (rst)
--       r <= 4'd0;
--     else if (en)
--       r <= r + 4'd1;
--     if (r == 4'd9) begin
--       $display("r hit %0d", r);
--       $stop;
--     end
--   end
-- endmodule
abbrev pub counter : Source
counter =
    ((md (p 0 1) (x (codes "cnt") 1 1) ([]) (Some ((t.declared_port (dr (p 3 1) t.input None false None) (x (codes
    "clk") 4 1)) ∷ (t.declared_port (dr (p 6 1) t.input None false None) (x (codes "rst") 7 1)) ∷ (t.declared_port
    (dr (p 9 1) t.input None false None) (x (codes "en") 10 1)) ∷ (t.declared_port (dr (p 12 1) t.output (Some t.reg)
    false (Some (rg (p 14 1) (t.number (p 15 1) (lit 32 false true 3 0)) (t.number (p 17 1) (lit 32 false true 0
    0))))) (x (codes "r") 19 1)) ∷ [])) (t.more_item (t.always (p 22 2) (t.sensed ((sn (t.positive_edge (p 25 2))
    (t.read (x (codes "clk") 26 2) t.no_select)) ∷ [])) (t.block (p 28 2) None (t.more_stmt (t.conditional
    (t.more_branch (p 29 3) (t.read (x (codes "rst") 31 3) t.no_select) (t.assign (t.name (x (codes "r") 33 4)
    t.no_select) t.nonblocking (p 34 4) (t.number (p 35 4) (lit 4 true false 0 0))) (t.more_branch (p 38 5) (t.read
    (x (codes "en") 40 5) t.no_select) (t.assign (t.name (x (codes "r") 42 6) t.no_select) t.nonblocking (p 43 6)
    (t.chain (t.read (x (codes "r") 44 6) t.no_select) (t.more_link b.Add (p 45 6) (t.number (p 46 6) (lit 4 true
    false 1 0)) t.no_link))) t.no_branch)) t.no_else) (t.more_stmt (t.conditional (t.more_branch (p 48 7) (t.chain
    (t.read (x (codes "r") 50 7) t.no_select) (t.more_link b.Eq (p 51 7) (t.number (p 52 7) (lit 4 true false 9 0))
    t.no_link)) (t.block (p 54 7) None (t.more_stmt (t.print (p 55 8) t.display (t.format (p 57 8) (codes
    "r hit %0d") (t.more_expr (t.read (x (codes "r") 59 8) t.no_select) t.no_expr))) (t.more_stmt (t.stop (p 62 9)
    t.no_argument) t.no_stmt))) t.no_branch) t.no_else) t.no_stmt)))) t.no_item)) ∷ [])

abbrev pub counter_design : Design
counter_design = design_in counter

abbrev pub counter_rows : List (List ℕ)
counter_rows =
    ((0 ∷ 1 ∷ []) ∷ (0 ∷ 1 ∷ []) ∷ (0 ∷ 1 ∷ []) ∷ (0 ∷ 1 ∷ []) ∷ (0 ∷ 1 ∷ []) ∷ (0 ∷ 1 ∷ []) ∷ (0 ∷ 1 ∷ []) ∷ (0 ∷ 1
    ∷ []) ∷ (0 ∷ 1 ∷ []) ∷ (0 ∷ 1 ∷ []) ∷ [])

abbrev pub counter_cycles : List Values
counter_cycles = cycles 0 counter_design counter_rows

abbrev pub counter_values : List Values
counter_values =
    ((values (0 ∷ 0 ∷ 1 ∷ 5 ∷ []) ([])) ∷ (values (0 ∷ 0 ∷ 1 ∷ 6 ∷ []) ([])) ∷ (values (0 ∷ 0 ∷ 1 ∷ 7 ∷ []) ([])) ∷
    (values (0 ∷ 0 ∷ 1 ∷ 8 ∷ []) ([])) ∷ (values (0 ∷ 0 ∷ 1 ∷ 9 ∷ []) ([])) ∷ [])

counter_comes : drop 5 counter_cycles ≡ counter_values
counter_comes = refl

counter_holds_5 : each_driven counter_design (values (0 ∷ 0 ∷ 1 ∷ 5 ∷ []) ([])) ≡
    replicate (length (drivers counter_design)) (values (0 ∷ 0 ∷ 1 ∷ 5 ∷ []) ([]))
counter_holds_5 = refl

counter_holds_9 : each_driven counter_design (values (0 ∷ 0 ∷ 1 ∷ 9 ∷ []) ([])) ≡
    replicate (length (drivers counter_design)) (values (0 ∷ 0 ∷ 1 ∷ 9 ∷ []) ([]))
counter_holds_9 = refl

counter_rests : undriven_from 0 counter_design (initial counter_design) counter_rows ≡ map (shown counter_design) counter_cycles
counter_rests = refl

counter_fires : map (fires counter_design) counter_cycles ≡
    (([]) ∷ ([]) ∷ ([]) ∷ ([]) ∷ ([]) ∷ ([]) ∷ ([]) ∷ ([]) ∷ ([]) ∷ (fired (codes "cnt") 62 9 false (114 ∷ 32 ∷ 104 ∷
    105 ∷ 116 ∷ 32 ∷ 57 ∷ 10 ∷ []) ∷ []) ∷ [])
unfolding digits
counter_fires = refl

-- ---- two blocks stop in one cycle, in order of their text

-- module two(input clk);
--   reg [3:0] a; reg [3:0] b;
--   always @(posedge clk) begin a <= a + 4'd1; if (a == 4'd5) begin $display("a"); $stop; end end
--   always @(posedge clk) begin b <= b + 4'd1; if (b == 4'd5) begin $display("b"); $stop; end end
-- endmodule
abbrev pub two_blocks : Source
two_blocks =
    ((md (p 0 1) (x (codes "two") 1 1) ([]) (Some ((t.declared_port (dr (p 3 1) t.input None false None) (x (codes
    "clk") 4 1)) ∷ [])) (t.more_item (t.registers (p 7 2) false (Some (rg (p 8 2) (t.number (p 9 2) (lit 32 false
    true 3 0)) (t.number (p 11 2) (lit 32 false true 0 0)))) ((t.variable (x (codes "a") 13 2)) ∷ [])) (t.more_item
    (t.registers (p 15 2) false (Some (rg (p 16 2) (t.number (p 17 2) (lit 32 false true 3 0)) (t.number (p 19 2)
    (lit 32 false true 0 0)))) ((t.variable (x (codes "b") 21 2)) ∷ [])) (t.more_item (t.always (p 23 3) (t.sensed
    ((sn (t.positive_edge (p 26 3)) (t.read (x (codes "clk") 27 3) t.no_select)) ∷ [])) (t.block (p 29 3) None
    (t.more_stmt (t.assign (t.name (x (codes "a") 30 3) t.no_select) t.nonblocking (p 31 3) (t.chain (t.read (x
    (codes "a") 32 3) t.no_select) (t.more_link b.Add (p 33 3) (t.number (p 34 3) (lit 4 true false 1 0))
    t.no_link))) (t.more_stmt (t.conditional (t.more_branch (p 36 3) (t.chain (t.read (x (codes "a") 38 3)
    t.no_select) (t.more_link b.Eq (p 39 3) (t.number (p 40 3) (lit 4 true false 5 0)) t.no_link)) (t.block (p 42 3)
    None (t.more_stmt (t.print (p 43 3) t.display (t.format (p 45 3) (codes "a") t.no_expr)) (t.more_stmt (t.stop (p
    48 3) t.no_argument) t.no_stmt))) t.no_branch) t.no_else) t.no_stmt)))) (t.more_item (t.always (p 52 4) (t.sensed
    ((sn (t.positive_edge (p 55 4)) (t.read (x (codes "clk") 56 4) t.no_select)) ∷ [])) (t.block (p 58 4) None
    (t.more_stmt (t.assign (t.name (x (codes "b") 59 4) t.no_select) t.nonblocking (p 60 4) (t.chain (t.read (x
    (codes "b") 61 4) t.no_select) (t.more_link b.Add (p 62 4) (t.number (p 63 4) (lit 4 true false 1 0))
    t.no_link))) (t.more_stmt (t.conditional (t.more_branch (p 65 4) (t.chain (t.read (x (codes "b") 67 4)
    t.no_select) (t.more_link b.Eq (p 68 4) (t.number (p 69 4) (lit 4 true false 5 0)) t.no_link)) (t.block (p 71 4)
    None (t.more_stmt (t.print (p 72 4) t.display (t.format (p 74 4) (codes "b") t.no_expr)) (t.more_stmt (t.stop (p
    77 4) t.no_argument) t.no_stmt))) t.no_branch) t.no_else) t.no_stmt)))) t.no_item))))) ∷ [])

abbrev pub two_blocks_design : Design
two_blocks_design = design_in two_blocks

abbrev pub two_blocks_rows : List (List ℕ)
two_blocks_rows =
    (([]) ∷ ([]) ∷ ([]) ∷ ([]) ∷ ([]) ∷ ([]) ∷ [])

abbrev pub two_blocks_cycles : List Values
two_blocks_cycles = cycles 0 two_blocks_design two_blocks_rows

abbrev pub two_blocks_values : List Values
two_blocks_values =
    ((values (0 ∷ 1 ∷ 1 ∷ []) ([])) ∷ (values (0 ∷ 2 ∷ 2 ∷ []) ([])) ∷ (values (0 ∷ 3 ∷ 3 ∷ []) ([])) ∷ (values (0 ∷
    4 ∷ 4 ∷ []) ([])) ∷ (values (0 ∷ 5 ∷ 5 ∷ []) ([])) ∷ [])

two_blocks_comes : drop 1 two_blocks_cycles ≡ two_blocks_values
two_blocks_comes = refl

two_blocks_holds_1 : each_driven two_blocks_design (values (0 ∷ 1 ∷ 1 ∷ []) ([])) ≡
    replicate (length (drivers two_blocks_design)) (values (0 ∷ 1 ∷ 1 ∷ []) ([]))
two_blocks_holds_1 = refl

two_blocks_holds_5 : each_driven two_blocks_design (values (0 ∷ 5 ∷ 5 ∷ []) ([])) ≡
    replicate (length (drivers two_blocks_design)) (values (0 ∷ 5 ∷ 5 ∷ []) ([]))
two_blocks_holds_5 = refl

two_blocks_rests : undriven_from 0 two_blocks_design (initial two_blocks_design) two_blocks_rows ≡ map (shown two_blocks_design) two_blocks_cycles
two_blocks_rests = refl

two_blocks_fires : map (fires two_blocks_design) two_blocks_cycles ≡
    (([]) ∷ ([]) ∷ ([]) ∷ ([]) ∷ ([]) ∷ (fired (codes "two") 48 3 false (97 ∷ 10 ∷ []) ∷ fired (codes "two") 77 4
    false (98 ∷ 10 ∷ []) ∷ []) ∷ [])
unfolding digits
two_blocks_fires = refl

-- ---- two instances behind one another

-- module inv(input a, output y); assign y = ~a; endmodule
-- module top(input clk, input d);
--   wire p; wire q; reg n;
--   inv u(.a(d), .y(p));
--   inv v(.a(p), .y(q));
--   always @(posedge clk) begin n <= q; if (n) begin $display("n"); $stop; end end
-- endmodule
abbrev pub inverters : Source
inverters =
    ((md (p 0 1) (x (codes "inv") 1 1) ([]) (Some ((t.declared_port (dr (p 3 1) t.input None false None) (x (codes
    "a") 4 1)) ∷ (t.declared_port (dr (p 6 1) t.output None false None) (x (codes "y") 7 1)) ∷ [])) (t.more_item
    (t.continuous (p 10 1) ((dv (t.name (x (codes "y") 11 1) t.no_select) (p 12 1) (t.unary (p 13 1) u.Not (t.read (x
    (codes "a") 14 1) t.no_select))) ∷ [])) t.no_item)) ∷ (md (p 17 2) (x (codes "top") 18 2) ([]) (Some
    ((t.declared_port (dr (p 20 2) t.input None false None) (x (codes "clk") 21 2)) ∷ (t.declared_port (dr (p 23 2)
    t.input None false None) (x (codes "d") 24 2)) ∷ [])) (t.more_item (t.nets (p 27 3) false None ((nt (x (codes
    "p") 28 3) None) ∷ [])) (t.more_item (t.nets (p 30 3) false None ((nt (x (codes "q") 31 3) None) ∷ []))
    (t.more_item (t.registers (p 33 3) false None ((t.variable (x (codes "n") 34 3)) ∷ [])) (t.more_item (t.instances
    (x (codes "inv") 36 4) None ((ins (x (codes "u") 37 4) (Some (t.by_name ((nb (p 39 4) (x (codes "a") 40 4) (Some
    (t.read (x (codes "d") 42 4) t.no_select))) ∷ (nb (p 45 4) (x (codes "y") 46 4) (Some (t.read (x (codes "p") 48
    4) t.no_select))) ∷ [])))) ∷ [])) (t.more_item (t.instances (x (codes "inv") 52 5) None ((ins (x (codes "v") 53
    5) (Some (t.by_name ((nb (p 55 5) (x (codes "a") 56 5) (Some (t.read (x (codes "p") 58 5) t.no_select))) ∷ (nb (p
    61 5) (x (codes "y") 62 5) (Some (t.read (x (codes "q") 64 5) t.no_select))) ∷ [])))) ∷ [])) (t.more_item
    (t.always (p 68 6) (t.sensed ((sn (t.positive_edge (p 71 6)) (t.read (x (codes "clk") 72 6) t.no_select)) ∷ []))
    (t.block (p 74 6) None (t.more_stmt (t.assign (t.name (x (codes "n") 75 6) t.no_select) t.nonblocking (p 76 6)
    (t.read (x (codes "q") 77 6) t.no_select)) (t.more_stmt (t.conditional (t.more_branch (p 79 6) (t.read (x (codes
    "n") 81 6) t.no_select) (t.block (p 83 6) None (t.more_stmt (t.print (p 84 6) t.display (t.format (p 86 6) (codes
    "n") t.no_expr)) (t.more_stmt (t.stop (p 89 6) t.no_argument) t.no_stmt))) t.no_branch) t.no_else) t.no_stmt))))
    t.no_item))))))) ∷ [])

abbrev pub inverters_design : Design
inverters_design = design_in inverters

abbrev pub inverters_rows : List (List ℕ)
inverters_rows =
    ((0 ∷ []) ∷ (1 ∷ []) ∷ (0 ∷ []) ∷ [])

abbrev pub inverters_cycles : List Values
inverters_cycles = cycles 7 inverters_design inverters_rows

abbrev pub inverters_values : List Values
inverters_values =
    ((values (0 ∷ 1 ∷ 0 ∷ 1 ∷ 0 ∷ 1 ∷ 0 ∷ 0 ∷ 1 ∷ []) ([])) ∷ (values (0 ∷ 0 ∷ 1 ∷ 0 ∷ 1 ∷ 0 ∷ 1 ∷ 1 ∷ 0 ∷ []) ([]))
    ∷ [])

inverters_comes : drop 1 inverters_cycles ≡ inverters_values
inverters_comes = refl

inverters_holds_1 : each_driven inverters_design (values (0 ∷ 1 ∷ 0 ∷ 1 ∷ 0 ∷ 1 ∷ 0 ∷ 0 ∷ 1 ∷ []) ([])) ≡
    replicate (length (drivers inverters_design)) (values (0 ∷ 1 ∷ 0 ∷ 1 ∷ 0 ∷ 1 ∷ 0 ∷ 0 ∷ 1 ∷ []) ([]))
inverters_holds_1 = refl

inverters_holds_2 : each_driven inverters_design (values (0 ∷ 0 ∷ 1 ∷ 0 ∷ 1 ∷ 0 ∷ 1 ∷ 1 ∷ 0 ∷ []) ([])) ≡
    replicate (length (drivers inverters_design)) (values (0 ∷ 0 ∷ 1 ∷ 0 ∷ 1 ∷ 0 ∷ 1 ∷ 1 ∷ 0 ∷ []) ([]))
inverters_holds_2 = refl

inverters_rests : undriven_from 7 inverters_design (initial inverters_design) inverters_rows ≡ map (shown inverters_design) inverters_cycles
inverters_rests = refl

inverters_fires : map (fires inverters_design) inverters_cycles ≡
    (([]) ∷ ([]) ∷ (fired (codes "top") 89 6 false (110 ∷ 10 ∷ []) ∷ []) ∷ [])
unfolding digits
inverters_fires = refl

-- ---- a value takes the width and the sign of its context, not those of its target

-- module m(input clk);
--   wire signed [3:0] a = -4'sd8;
--   wire [7:0] y = (a >>> 1) + 8'd0;
--   wire signed [7:0] z = a >>> 1;
--   always @(posedge clk) begin $display("%h %h", y, z); $stop; end
-- endmodule
abbrev pub signs : Source
signs =
    ((md (p 0 1) (x (codes "m") 1 1) ([]) (Some ((t.declared_port (dr (p 3 1) t.input None false None) (x (codes
    "clk") 4 1)) ∷ [])) (t.more_item (t.nets (p 7 2) true (Some (rg (p 9 2) (t.number (p 10 2) (lit 32 false true 3
    0)) (t.number (p 12 2) (lit 32 false true 0 0)))) ((nt (x (codes "a") 14 2) (Some (t.unary (p 16 2) u.Minus
    (t.number (p 17 2) (lit 4 true true 8 0))))) ∷ [])) (t.more_item (t.nets (p 19 3) false (Some (rg (p 20 3)
    (t.number (p 21 3) (lit 32 false true 7 0)) (t.number (p 23 3) (lit 32 false true 0 0)))) ((nt (x (codes "y") 25
    3) (Some (t.chain (t.group (p 27 3) (t.chain (t.read (x (codes "a") 28 3) t.no_select) (t.more_link b.Sar (p 29
    3) (t.number (p 30 3) (lit 32 false true 1 0)) t.no_link))) (t.more_link b.Add (p 32 3) (t.number (p 33 3) (lit 8
    true false 0 0)) t.no_link)))) ∷ [])) (t.more_item (t.nets (p 35 4) true (Some (rg (p 37 4) (t.number (p 38 4)
    (lit 32 false true 7 0)) (t.number (p 40 4) (lit 32 false true 0 0)))) ((nt (x (codes "z") 42 4) (Some (t.chain
    (t.read (x (codes "a") 44 4) t.no_select) (t.more_link b.Sar (p 45 4) (t.number (p 46 4) (lit 32 false true 1 0))
    t.no_link)))) ∷ [])) (t.more_item (t.always (p 48 5) (t.sensed ((sn (t.positive_edge (p 51 5)) (t.read (x (codes
    "clk") 52 5) t.no_select)) ∷ [])) (t.block (p 54 5) None (t.more_stmt (t.print (p 55 5) t.display (t.format (p 57
    5) (codes "%h %h") (t.more_expr (t.read (x (codes "y") 59 5) t.no_select) (t.more_expr (t.read (x (codes "z") 61
    5) t.no_select) t.no_expr)))) (t.more_stmt (t.stop (p 64 5) t.no_argument) t.no_stmt)))) t.no_item))))) ∷ [])

abbrev pub signs_design : Design
signs_design = design_in signs

abbrev pub signs_rows : List (List ℕ)
signs_rows =
    (([]) ∷ [])

abbrev pub signs_cycles : List Values
signs_cycles = cycles 2 signs_design signs_rows

abbrev pub signs_values : List Values
signs_values =
    ((values (0 ∷ 8 ∷ 4 ∷ 252 ∷ []) ([])) ∷ [])

signs_comes : drop 0 signs_cycles ≡ signs_values
signs_comes = refl

signs_holds_0 : each_driven signs_design (values (0 ∷ 8 ∷ 4 ∷ 252 ∷ []) ([])) ≡
    replicate (length (drivers signs_design)) (values (0 ∷ 8 ∷ 4 ∷ 252 ∷ []) ([]))
signs_holds_0 = refl

signs_rests : undriven_from 2 signs_design (initial signs_design) signs_rows ≡ map (shown signs_design) signs_cycles
signs_rests = refl

signs_fires : map (fires signs_design) signs_cycles ≡
    ((fired (codes "m") 64 5 false (48 ∷ 52 ∷ 32 ∷ 102 ∷ 99 ∷ 10 ∷ []) ∷ []) ∷ [])
unfolding digits
signs_fires = refl

-- ---- a first value by an initial block

-- module cnt(input clk, input rst, input en, output reg [3:0] r);
--   always @(posedge clk) begin
--     if (rst)
--       r <= 4'd0;
--     else if (en)
--       r <= r + 4'd1;
--     if (r == 4'd9) begin
--       $display("r hit %0d", r);
--       $stop;
--     end
--   end
--   initial r = 4'd9;
-- endmodule
abbrev pub first_value : Source
first_value =
    ((md (p 0 1) (x (codes "cnt") 1 1) ([]) (Some ((t.declared_port (dr (p 3 1) t.input None false None) (x (codes
    "clk") 4 1)) ∷ (t.declared_port (dr (p 6 1) t.input None false None) (x (codes "rst") 7 1)) ∷ (t.declared_port
    (dr (p 9 1) t.input None false None) (x (codes "en") 10 1)) ∷ (t.declared_port (dr (p 12 1) t.output (Some t.reg)
    false (Some (rg (p 14 1) (t.number (p 15 1) (lit 32 false true 3 0)) (t.number (p 17 1) (lit 32 false true 0
    0))))) (x (codes "r") 19 1)) ∷ [])) (t.more_item (t.always (p 22 2) (t.sensed ((sn (t.positive_edge (p 25 2))
    (t.read (x (codes "clk") 26 2) t.no_select)) ∷ [])) (t.block (p 28 2) None (t.more_stmt (t.conditional
    (t.more_branch (p 29 3) (t.read (x (codes "rst") 31 3) t.no_select) (t.assign (t.name (x (codes "r") 33 4)
    t.no_select) t.nonblocking (p 34 4) (t.number (p 35 4) (lit 4 true false 0 0))) (t.more_branch (p 38 5) (t.read
    (x (codes "en") 40 5) t.no_select) (t.assign (t.name (x (codes "r") 42 6) t.no_select) t.nonblocking (p 43 6)
    (t.chain (t.read (x (codes "r") 44 6) t.no_select) (t.more_link b.Add (p 45 6) (t.number (p 46 6) (lit 4 true
    false 1 0)) t.no_link))) t.no_branch)) t.no_else) (t.more_stmt (t.conditional (t.more_branch (p 48 7) (t.chain
    (t.read (x (codes "r") 50 7) t.no_select) (t.more_link b.Eq (p 51 7) (t.number (p 52 7) (lit 4 true false 9 0))
    t.no_link)) (t.block (p 54 7) None (t.more_stmt (t.print (p 55 8) t.display (t.format (p 57 8) (codes
    "r hit %0d") (t.more_expr (t.read (x (codes "r") 59 8) t.no_select) t.no_expr))) (t.more_stmt (t.stop (p 62 9)
    t.no_argument) t.no_stmt))) t.no_branch) t.no_else) t.no_stmt)))) (t.more_item (t.initial (p 66 12) (t.assign
    (t.name (x (codes "r") 67 12) t.no_select) t.blocking (p 68 12) (t.number (p 69 12) (lit 4 true false 9 0))))
    t.no_item))) ∷ [])

abbrev pub first_value_design : Design
first_value_design = design_in first_value

abbrev pub first_value_rows : List (List ℕ)
first_value_rows =
    ((0 ∷ 1 ∷ []) ∷ [])

abbrev pub first_value_cycles : List Values
first_value_cycles = cycles 0 first_value_design first_value_rows

abbrev pub first_value_values : List Values
first_value_values =
    ((values (0 ∷ 0 ∷ 1 ∷ 9 ∷ []) ([])) ∷ [])

first_value_comes : drop 0 first_value_cycles ≡ first_value_values
first_value_comes = refl

first_value_holds_0 : each_driven first_value_design (values (0 ∷ 0 ∷ 1 ∷ 9 ∷ []) ([])) ≡
    replicate (length (drivers first_value_design)) (values (0 ∷ 0 ∷ 1 ∷ 9 ∷ []) ([]))
first_value_holds_0 = refl

first_value_rests : undriven_from 0 first_value_design (initial first_value_design) first_value_rows ≡ map (shown first_value_design) first_value_cycles
first_value_rests = refl

first_value_fires : map (fires first_value_design) first_value_cycles ≡
    ((fired (codes "cnt") 62 9 false (114 ∷ 32 ∷ 104 ∷ 105 ∷ 116 ∷ 32 ∷ 57 ∷ 10 ∷ []) ∷ []) ∷ [])
unfolding digits
first_value_fires = refl

-- ---- a text and $fatal; an output that shows a variable

-- module Chk(
--   input        clock,
--   input        reset,
--   input  [7:0] io_in,
--   output [7:0] io_out
-- );
--
--
--
--   reg [7:0] acc;
--   wire [7:0] _acc_T_1 = acc + io_in;
--   assign io_out = acc;
--   always @(posedge clock) begin
--     if (reset) begin
--       acc <= 8'h0;
--     end else begin
--       acc <= _acc_T_1;
--     end
--
--
--
--
--         if (~reset & acc >= 8'h10) begin
--           $fwrite(32'h80000002,"Assertion failed: acc %x\n",acc);
--           $fatal;
--         end
--
--
--
--
--   end
-- initial begin
-- end
-- endmodule
abbrev pub checker : Source
checker =
    ((md (p 0 1) (x (codes "Chk") 1 1) ([]) (Some ((t.declared_port (dr (p 3 2) t.input None false None) (x (codes
    "clock") 4 2)) ∷ (t.declared_port (dr (p 6 3) t.input None false None) (x (codes "reset") 7 3)) ∷
    (t.declared_port (dr (p 9 4) t.input None false (Some (rg (p 10 4) (t.number (p 11 4) (lit 32 false true 7 0))
    (t.number (p 13 4) (lit 32 false true 0 0))))) (x (codes "io_in") 15 4)) ∷ (t.declared_port (dr (p 17 5) t.output
    None false (Some (rg (p 18 5) (t.number (p 19 5) (lit 32 false true 7 0)) (t.number (p 21 5) (lit 32 false true 0
    0))))) (x (codes "io_out") 23 5)) ∷ [])) (t.more_item (t.registers (p 26 10) false (Some (rg (p 27 10) (t.number
    (p 28 10) (lit 32 false true 7 0)) (t.number (p 30 10) (lit 32 false true 0 0)))) ((t.variable (x (codes "acc")
    32 10)) ∷ [])) (t.more_item (t.nets (p 34 11) false (Some (rg (p 35 11) (t.number (p 36 11) (lit 32 false true 7
    0)) (t.number (p 38 11) (lit 32 false true 0 0)))) ((nt (x (codes "_acc_T_1") 40 11) (Some (t.chain (t.read (x
    (codes "acc") 42 11) t.no_select) (t.more_link b.Add (p 43 11) (t.read (x (codes "io_in") 44 11) t.no_select)
    t.no_link)))) ∷ [])) (t.more_item (t.continuous (p 46 12) ((dv (t.name (x (codes "io_out") 47 12) t.no_select) (p
    48 12) (t.read (x (codes "acc") 49 12) t.no_select)) ∷ [])) (t.more_item (t.always (p 51 13) (t.sensed ((sn
    (t.positive_edge (p 54 13)) (t.read (x (codes "clock") 55 13) t.no_select)) ∷ [])) (t.block (p 57 13) None
    (t.more_stmt (t.conditional (t.more_branch (p 58 14) (t.read (x (codes "reset") 60 14) t.no_select) (t.block (p
    62 14) None (t.more_stmt (t.assign (t.name (x (codes "acc") 63 15) t.no_select) t.nonblocking (p 64 15) (t.number
    (p 65 15) (lit 8 true false 0 0))) t.no_stmt)) t.no_branch) (t.else_stmt (t.block (p 69 16) None (t.more_stmt
    (t.assign (t.name (x (codes "acc") 70 17) t.no_select) t.nonblocking (p 71 17) (t.read (x (codes "_acc_T_1") 72
    17) t.no_select)) t.no_stmt)))) (t.more_stmt (t.conditional (t.more_branch (p 75 23) (t.chain (t.unary (p 77 23)
    u.Not (t.read (x (codes "reset") 78 23) t.no_select)) (t.more_link b.And (p 79 23) (t.chain (t.read (x (codes
    "acc") 80 23) t.no_select) (t.more_link b.Ge (p 81 23) (t.number (p 82 23) (lit 8 true false 16 0)) t.no_link))
    t.no_link)) (t.block (p 84 23) None (t.more_stmt (t.file_print (p 85 24) (t.number (p 87 24) (lit 32 true false
    2147483650 0)) (p 89 24) (65 ∷ 115 ∷ 115 ∷ 101 ∷ 114 ∷ 116 ∷ 105 ∷ 111 ∷ 110 ∷ 32 ∷ 102 ∷ 97 ∷ 105 ∷ 108 ∷ 101 ∷
    100 ∷ 58 ∷ 32 ∷ 97 ∷ 99 ∷ 99 ∷ 32 ∷ 37 ∷ 120 ∷ 10 ∷ []) (t.more_expr (t.read (x (codes "acc") 91 24) t.no_select)
    t.no_expr)) (t.more_stmt (t.fatal (p 94 25) false) t.no_stmt))) t.no_branch) t.no_else) t.no_stmt))))
    (t.more_item (t.initial (p 98 32) (t.block (p 99 32) None t.no_stmt)) t.no_item)))))) ∷ [])

abbrev pub checker_design : Design
checker_design = design_in checker

abbrev pub checker_rows : List (List ℕ)
checker_rows =
    ((1 ∷ 0 ∷ []) ∷ (0 ∷ 5 ∷ []) ∷ (0 ∷ 5 ∷ []) ∷ (0 ∷ 5 ∷ []) ∷ (0 ∷ 5 ∷ []) ∷ (0 ∷ 5 ∷ []) ∷ [])

abbrev pub checker_cycles : List Values
checker_cycles = cycles 2 checker_design checker_rows

abbrev pub checker_values : List Values
checker_values =
    ((values (0 ∷ 0 ∷ 5 ∷ 10 ∷ 10 ∷ 15 ∷ []) ([])) ∷ (values (0 ∷ 0 ∷ 5 ∷ 15 ∷ 15 ∷ 20 ∷ []) ([])) ∷ (values (0 ∷ 0 ∷
    5 ∷ 20 ∷ 20 ∷ 25 ∷ []) ([])) ∷ [])

checker_comes : drop 3 checker_cycles ≡ checker_values
checker_comes = refl

checker_holds_3 : each_driven checker_design (values (0 ∷ 0 ∷ 5 ∷ 10 ∷ 10 ∷ 15 ∷ []) ([])) ≡
    replicate (length (drivers checker_design)) (values (0 ∷ 0 ∷ 5 ∷ 10 ∷ 10 ∷ 15 ∷ []) ([]))
checker_holds_3 = refl

checker_holds_4 : each_driven checker_design (values (0 ∷ 0 ∷ 5 ∷ 15 ∷ 15 ∷ 20 ∷ []) ([])) ≡
    replicate (length (drivers checker_design)) (values (0 ∷ 0 ∷ 5 ∷ 15 ∷ 15 ∷ 20 ∷ []) ([]))
checker_holds_4 = refl

checker_holds_5 : each_driven checker_design (values (0 ∷ 0 ∷ 5 ∷ 20 ∷ 20 ∷ 25 ∷ []) ([])) ≡
    replicate (length (drivers checker_design)) (values (0 ∷ 0 ∷ 5 ∷ 20 ∷ 20 ∷ 25 ∷ []) ([]))
checker_holds_5 = refl

checker_rests : undriven_from 2 checker_design (initial checker_design) checker_rows ≡ map (shown checker_design) checker_cycles
checker_rests = refl

checker_fires : map (fires checker_design) checker_cycles ≡
    (([]) ∷ ([]) ∷ ([]) ∷ ([]) ∷ ([]) ∷ (fired (codes "Chk") 94 25 true (65 ∷ 115 ∷ 115 ∷ 101 ∷ 114 ∷ 116 ∷ 105 ∷ 111
    ∷ 110 ∷ 32 ∷ 102 ∷ 97 ∷ 105 ∷ 108 ∷ 101 ∷ 100 ∷ 58 ∷ 32 ∷ 97 ∷ 99 ∷ 99 ∷ 32 ∷ 49 ∷ 52 ∷ 10 ∷ []) ∷ []) ∷ [])
unfolding digits
checker_fires = refl

-- ---- words of a memory: outside a read is 0 and a write is lost; a zero divisor gives 0

-- module mem(input clk);
--   reg [7:0] m [0:5]; reg [2:0] n; wire [7:0] q = m[3'd7]; wire [7:0] d = 8'd5 / 8'd0;
--   always @(posedge clk) begin
--     n <= n + 3'd1; m[3'd7] <= 8'hAA; m[n] <= 8'h11;
--     if (n == 3'd2) begin $display("%h %h %h", q, d, m[3'd1]); $stop; end
--   end
-- endmodule
abbrev pub words : Source
words =
    ((md (p 0 1) (x (codes "mem") 1 1) ([]) (Some ((t.declared_port (dr (p 3 1) t.input None false None) (x (codes
    "clk") 4 1)) ∷ [])) (t.more_item (t.registers (p 7 2) false (Some (rg (p 8 2) (t.number (p 9 2) (lit 32 false
    true 7 0)) (t.number (p 11 2) (lit 32 false true 0 0)))) ((t.memory (x (codes "m") 13 2) (rg (p 14 2) (t.number
    (p 15 2) (lit 32 false true 0 0)) (t.number (p 17 2) (lit 32 false true 5 0)))) ∷ [])) (t.more_item (t.registers
    (p 20 2) false (Some (rg (p 21 2) (t.number (p 22 2) (lit 32 false true 2 0)) (t.number (p 24 2) (lit 32 false
    true 0 0)))) ((t.variable (x (codes "n") 26 2)) ∷ [])) (t.more_item (t.nets (p 28 2) false (Some (rg (p 29 2)
    (t.number (p 30 2) (lit 32 false true 7 0)) (t.number (p 32 2) (lit 32 false true 0 0)))) ((nt (x (codes "q") 34
    2) (Some (t.read (x (codes "m") 36 2) (t.more_select (p 37 2) (t.index (t.number (p 38 2) (lit 3 true false 7
    0))) t.no_select)))) ∷ [])) (t.more_item (t.nets (p 41 2) false (Some (rg (p 42 2) (t.number (p 43 2) (lit 32
    false true 7 0)) (t.number (p 45 2) (lit 32 false true 0 0)))) ((nt (x (codes "d") 47 2) (Some (t.chain (t.number
    (p 49 2) (lit 8 true false 5 0)) (t.more_link b.Div (p 50 2) (t.number (p 51 2) (lit 8 true false 0 0))
    t.no_link)))) ∷ [])) (t.more_item (t.always (p 53 3) (t.sensed ((sn (t.positive_edge (p 56 3)) (t.read (x (codes
    "clk") 57 3) t.no_select)) ∷ [])) (t.block (p 59 3) None (t.more_stmt (t.assign (t.name (x (codes "n") 60 4)
    t.no_select) t.nonblocking (p 61 4) (t.chain (t.read (x (codes "n") 62 4) t.no_select) (t.more_link b.Add (p 63
    4) (t.number (p 64 4) (lit 3 true false 1 0)) t.no_link))) (t.more_stmt (t.assign (t.name (x (codes "m") 66 4)
    (t.more_select (p 67 4) (t.index (t.number (p 68 4) (lit 3 true false 7 0))) t.no_select)) t.nonblocking (p 70 4)
    (t.number (p 71 4) (lit 8 true false 170 0))) (t.more_stmt (t.assign (t.name (x (codes "m") 73 4) (t.more_select
    (p 74 4) (t.index (t.read (x (codes "n") 75 4) t.no_select)) t.no_select)) t.nonblocking (p 77 4) (t.number (p 78
    4) (lit 8 true false 17 0))) (t.more_stmt (t.conditional (t.more_branch (p 80 5) (t.chain (t.read (x (codes "n")
    82 5) t.no_select) (t.more_link b.Eq (p 83 5) (t.number (p 84 5) (lit 3 true false 2 0)) t.no_link)) (t.block (p
    86 5) None (t.more_stmt (t.print (p 87 5) t.display (t.format (p 89 5) (codes "%h %h %h") (t.more_expr (t.read (x
    (codes "q") 91 5) t.no_select) (t.more_expr (t.read (x (codes "d") 93 5) t.no_select) (t.more_expr (t.read (x
    (codes "m") 95 5) (t.more_select (p 96 5) (t.index (t.number (p 97 5) (lit 3 true false 1 0))) t.no_select))
    t.no_expr))))) (t.more_stmt (t.stop (p 101 5) t.no_argument) t.no_stmt))) t.no_branch) t.no_else) t.no_stmt))))))
    t.no_item)))))) ∷ [])

abbrev pub words_design : Design
words_design = design_in words

abbrev pub words_rows : List (List ℕ)
words_rows =
    (([]) ∷ ([]) ∷ ([]) ∷ [])

abbrev pub words_cycles : List Values
words_cycles = cycles 1 words_design words_rows

abbrev pub words_values : List Values
words_values =
    ((values (0 ∷ 0 ∷ 0 ∷ 0 ∷ []) ((0 ∷ 0 ∷ 0 ∷ 0 ∷ 0 ∷ 0 ∷ []) ∷ [])) ∷ (values (0 ∷ 1 ∷ 0 ∷ 0 ∷ []) ((17 ∷ 0 ∷ 0 ∷
    0 ∷ 0 ∷ 0 ∷ []) ∷ [])) ∷ (values (0 ∷ 2 ∷ 0 ∷ 0 ∷ []) ((17 ∷ 17 ∷ 0 ∷ 0 ∷ 0 ∷ 0 ∷ []) ∷ [])) ∷ [])

words_comes : drop 0 words_cycles ≡ words_values
words_comes = refl

words_holds_0 : each_driven words_design (values (0 ∷ 0 ∷ 0 ∷ 0 ∷ []) ((0 ∷ 0 ∷ 0 ∷ 0 ∷ 0 ∷ 0 ∷ []) ∷ [])) ≡
    replicate (length (drivers words_design)) (values (0 ∷ 0 ∷ 0 ∷ 0 ∷ []) ((0 ∷ 0 ∷ 0 ∷ 0 ∷ 0 ∷ 0 ∷ []) ∷ []))
words_holds_0 = refl

words_holds_1 : each_driven words_design (values (0 ∷ 1 ∷ 0 ∷ 0 ∷ []) ((17 ∷ 0 ∷ 0 ∷ 0 ∷ 0 ∷ 0 ∷ []) ∷ [])) ≡
    replicate (length (drivers words_design)) (values (0 ∷ 1 ∷ 0 ∷ 0 ∷ []) ((17 ∷ 0 ∷ 0 ∷ 0 ∷ 0 ∷ 0 ∷ []) ∷ []))
words_holds_1 = refl

words_holds_2 : each_driven words_design (values (0 ∷ 2 ∷ 0 ∷ 0 ∷ []) ((17 ∷ 17 ∷ 0 ∷ 0 ∷ 0 ∷ 0 ∷ []) ∷ [])) ≡
    replicate (length (drivers words_design)) (values (0 ∷ 2 ∷ 0 ∷ 0 ∷ []) ((17 ∷ 17 ∷ 0 ∷ 0 ∷ 0 ∷ 0 ∷ []) ∷ []))
words_holds_2 = refl

words_rests : undriven_from 1 words_design (initial words_design) words_rows ≡ map (shown words_design) words_cycles
words_rests = refl

words_fires : map (fires words_design) words_cycles ≡
    (([]) ∷ ([]) ∷ (fired (codes "mem") 101 5 false (48 ∷ 48 ∷ 32 ∷ 48 ∷ 48 ∷ 32 ∷ 49 ∷ 49 ∷ 10 ∷ []) ∷ []) ∷ [])
unfolding digits
words_fires = refl

-- ---- texts of values

-- module m(input clk);
--   always @(posedge clk) begin
--     $display("%h|%h|%d|", 8'h1FF, 128'h1 << 127, 8'd7);
--     $stop;
--   end
-- endmodule
abbrev pub texts : Source
texts =
    ((md (p 0 1) (x (codes "m") 1 1) ([]) (Some ((t.declared_port (dr (p 3 1) t.input None false None) (x (codes
    "clk") 4 1)) ∷ [])) (t.more_item (t.always (p 7 2) (t.sensed ((sn (t.positive_edge (p 10 2)) (t.read (x (codes
    "clk") 11 2) t.no_select)) ∷ [])) (t.block (p 13 2) None (t.more_stmt (t.print (p 14 3) t.display (t.format (p 16
    3) (codes "%h|%h|%d|") (t.more_expr (t.number (p 18 3) (lit 8 true false 255 0)) (t.more_expr (t.chain (t.number
    (p 20 3) (lit 128 true false 1 0)) (t.more_link b.Shl (p 21 3) (t.number (p 22 3) (lit 32 false true 127 0))
    t.no_link)) (t.more_expr (t.number (p 24 3) (lit 8 true false 7 0)) t.no_expr))))) (t.more_stmt (t.stop (p 27 4)
    t.no_argument) t.no_stmt)))) t.no_item)) ∷ [])

abbrev pub texts_design : Design
texts_design = design_in texts

abbrev pub texts_rows : List (List ℕ)
texts_rows =
    (([]) ∷ [])

abbrev pub texts_cycles : List Values
texts_cycles = cycles 0 texts_design texts_rows

abbrev pub texts_values : List Values
texts_values =
    ((values (0 ∷ []) ([])) ∷ [])

texts_comes : drop 0 texts_cycles ≡ texts_values
texts_comes = refl

texts_holds_0 : each_driven texts_design (values (0 ∷ []) ([])) ≡
    replicate (length (drivers texts_design)) (values (0 ∷ []) ([]))
texts_holds_0 = refl

texts_rests : undriven_from 0 texts_design (initial texts_design) texts_rows ≡ map (shown texts_design) texts_cycles
texts_rests = refl

texts_fires : map (fires texts_design) texts_cycles ≡
    ((fired (codes "m") 27 4 false (102 ∷ 102 ∷ 124 ∷ 56 ∷ 48 ∷ 48 ∷ 48 ∷ 48 ∷ 48 ∷ 48 ∷ 48 ∷ 48 ∷ 48 ∷ 48 ∷ 48 ∷ 48
    ∷ 48 ∷ 48 ∷ 48 ∷ 48 ∷ 48 ∷ 48 ∷ 48 ∷ 48 ∷ 48 ∷ 48 ∷ 48 ∷ 48 ∷ 48 ∷ 48 ∷ 48 ∷ 48 ∷ 48 ∷ 48 ∷ 48 ∷ 124 ∷ 32 ∷ 32 ∷
    55 ∷ 124 ∷ 10 ∷ []) ∷ []) ∷ [])
unfolding digits
texts_fires = refl

-- ---- the last write to a bit wins; a case with a default in the midst, open bits, places that vary and lie outside; texts belong to the next stop

-- module pr(input clk, input [3:0] d, output reg [7:0] q, output reg [3:0] z);
--   always @(posedge clk) begin
--     q <= 8'd1;
--     q[3:0] <= d;
--     {z, q[7:6]} <= {d, 2'b10};
--     case (d)
--       4'd1, 4'd2: z[0] <= 1'b1;
--       default: ;
--       4'd3: q <= 8'd0;
--     endcase
--     casez (d)
--       4'b0?10: q[d] <= 1'b1;
--       4'b01??: z <= 4'd0;
--     endcase
--     if (d == 4'd3) begin $write("a"); $display("b%m"); $stop; $write("c"); end
--     else if (d == 4'd8) ;
--     else begin $display("%b", q); if (d[0]) $stop; end
--     if (d == 4'd3) $stop;
--   end
-- endmodule
abbrev pub priority : Source
priority =
    ((md (p 0 1) (x (codes "pr") 1 1) ([]) (Some ((t.declared_port (dr (p 3 1) t.input None false None) (x (codes
    "clk") 4 1)) ∷ (t.declared_port (dr (p 6 1) t.input None false (Some (rg (p 7 1) (t.number (p 8 1) (lit 32 false
    true 3 0)) (t.number (p 10 1) (lit 32 false true 0 0))))) (x (codes "d") 12 1)) ∷ (t.declared_port (dr (p 14 1)
    t.output (Some t.reg) false (Some (rg (p 16 1) (t.number (p 17 1) (lit 32 false true 7 0)) (t.number (p 19 1)
    (lit 32 false true 0 0))))) (x (codes "q") 21 1)) ∷ (t.declared_port (dr (p 23 1) t.output (Some t.reg) false
    (Some (rg (p 25 1) (t.number (p 26 1) (lit 32 false true 3 0)) (t.number (p 28 1) (lit 32 false true 0 0))))) (x
    (codes "z") 30 1)) ∷ [])) (t.more_item (t.always (p 33 2) (t.sensed ((sn (t.positive_edge (p 36 2)) (t.read (x
    (codes "clk") 37 2) t.no_select)) ∷ [])) (t.block (p 39 2) None (t.more_stmt (t.assign (t.name (x (codes "q") 40
    3) t.no_select) t.nonblocking (p 41 3) (t.number (p 42 3) (lit 8 true false 1 0))) (t.more_stmt (t.assign (t.name
    (x (codes "q") 44 4) (t.more_select (p 45 4) (t.part (t.number (p 46 4) (lit 32 false true 3 0)) (t.number (p 48
    4) (lit 32 false true 0 0))) t.no_select)) t.nonblocking (p 50 4) (t.read (x (codes "d") 51 4) t.no_select))
    (t.more_stmt (t.assign (t.targets (p 53 5) (t.more_target (t.name (x (codes "z") 54 5) t.no_select)
    (t.more_target (t.name (x (codes "q") 56 5) (t.more_select (p 57 5) (t.part (t.number (p 58 5) (lit 32 false true
    7 0)) (t.number (p 60 5) (lit 32 false true 6 0))) t.no_select)) t.no_target))) t.nonblocking (p 63 5) (t.concat
    (p 64 5) (t.more_expr (t.read (x (codes "d") 65 5) t.no_select) (t.more_expr (t.number (p 67 5) (lit 2 true false
    2 0)) t.no_expr)))) (t.more_stmt (t.select (p 70 6) false (t.read (x (codes "d") 72 6) t.no_select) (t.more_arm
    (t.more_expr (t.number (p 74 7) (lit 4 true false 1 0)) (t.more_expr (t.number (p 76 7) (lit 4 true false 2 0))
    t.no_expr)) (t.assign (t.name (x (codes "z") 78 7) (t.more_select (p 79 7) (t.index (t.number (p 80 7) (lit 32
    false true 0 0))) t.no_select)) t.nonblocking (p 82 7) (t.number (p 83 7) (lit 1 true false 1 0))) (t.default_arm
    (p 85 8) true (t.empty (p 87 8)) (t.more_arm (t.more_expr (t.number (p 88 9) (lit 4 true false 3 0)) t.no_expr)
    (t.assign (t.name (x (codes "q") 90 9) t.no_select) t.nonblocking (p 91 9) (t.number (p 92 9) (lit 8 true false 0
    0))) t.no_arm)))) (t.more_stmt (t.select (p 95 11) true (t.read (x (codes "d") 97 11) t.no_select) (t.more_arm
    (t.more_expr (t.number (p 99 12) (lit 4 true false 2 4)) t.no_expr) (t.assign (t.name (x (codes "q") 101 12)
    (t.more_select (p 102 12) (t.index (t.read (x (codes "d") 103 12) t.no_select)) t.no_select)) t.nonblocking (p
    105 12) (t.number (p 106 12) (lit 1 true false 1 0))) (t.more_arm (t.more_expr (t.number (p 108 13) (lit 4 true
    false 4 3)) t.no_expr) (t.assign (t.name (x (codes "z") 110 13) t.no_select) t.nonblocking (p 111 13) (t.number
    (p 112 13) (lit 4 true false 0 0))) t.no_arm))) (t.more_stmt (t.conditional (t.more_branch (p 115 15) (t.chain
    (t.read (x (codes "d") 117 15) t.no_select) (t.more_link b.Eq (p 118 15) (t.number (p 119 15) (lit 4 true false 3
    0)) t.no_link)) (t.block (p 121 15) None (t.more_stmt (t.print (p 122 15) t.write (t.format (p 124 15) (codes
    "a") t.no_expr)) (t.more_stmt (t.print (p 127 15) t.display (t.format (p 129 15) (codes "b%m") t.no_expr))
    (t.more_stmt (t.stop (p 132 15) t.no_argument) (t.more_stmt (t.print (p 134 15) t.write (t.format (p 136 15)
    (codes "c") t.no_expr)) t.no_stmt))))) (t.more_branch (p 141 16) (t.chain (t.read (x (codes "d") 143 16)
    t.no_select) (t.more_link b.Eq (p 144 16) (t.number (p 145 16) (lit 4 true false 8 0)) t.no_link)) (t.empty (p
    147 16)) t.no_branch)) (t.else_stmt (t.block (p 149 17) None (t.more_stmt (t.print (p 150 17) t.display (t.format
    (p 152 17) (codes "%b") (t.more_expr (t.read (x (codes "q") 154 17) t.no_select) t.no_expr))) (t.more_stmt
    (t.conditional (t.more_branch (p 157 17) (t.read (x (codes "d") 159 17) (t.more_select (p 160 17) (t.index
    (t.number (p 161 17) (lit 32 false true 0 0))) t.no_select)) (t.stop (p 164 17) t.no_argument) t.no_branch)
    t.no_else) t.no_stmt))))) (t.more_stmt (t.conditional (t.more_branch (p 167 18) (t.chain (t.read (x (codes "d")
    169 18) t.no_select) (t.more_link b.Eq (p 170 18) (t.number (p 171 18) (lit 4 true false 3 0)) t.no_link))
    (t.stop (p 173 18) t.no_argument) t.no_branch) t.no_else) t.no_stmt))))))))) t.no_item)) ∷ [])

abbrev pub priority_design : Design
priority_design = design_in priority

abbrev pub priority_rows : List (List ℕ)
priority_rows =
    ((1 ∷ []) ∷ (3 ∷ []) ∷ (6 ∷ []) ∷ (8 ∷ []) ∷ (5 ∷ []) ∷ (2 ∷ []) ∷ (0 ∷ []) ∷ [])

abbrev pub priority_cycles : List Values
priority_cycles = cycles 0 priority_design priority_rows

abbrev pub priority_values : List Values
priority_values =
    ((values (0 ∷ 1 ∷ 0 ∷ 0 ∷ []) ([])) ∷ (values (0 ∷ 3 ∷ 129 ∷ 1 ∷ []) ([])) ∷ (values (0 ∷ 6 ∷ 0 ∷ 3 ∷ []) ([])) ∷
    (values (0 ∷ 8 ∷ 198 ∷ 6 ∷ []) ([])) ∷ (values (0 ∷ 5 ∷ 136 ∷ 8 ∷ []) ([])) ∷ (values (0 ∷ 2 ∷ 133 ∷ 0 ∷ [])
    ([])) ∷ (values (0 ∷ 0 ∷ 134 ∷ 3 ∷ []) ([])) ∷ [])

priority_comes : drop 0 priority_cycles ≡ priority_values
priority_comes = refl

priority_holds_0 : each_driven priority_design (values (0 ∷ 1 ∷ 0 ∷ 0 ∷ []) ([])) ≡
    replicate (length (drivers priority_design)) (values (0 ∷ 1 ∷ 0 ∷ 0 ∷ []) ([]))
priority_holds_0 = refl

priority_holds_6 : each_driven priority_design (values (0 ∷ 0 ∷ 134 ∷ 3 ∷ []) ([])) ≡
    replicate (length (drivers priority_design)) (values (0 ∷ 0 ∷ 134 ∷ 3 ∷ []) ([]))
priority_holds_6 = refl

priority_rests : undriven_from 0 priority_design (initial priority_design) priority_rows ≡ map (shown priority_design) priority_cycles
priority_rests = refl

priority_fires : map (fires priority_design) priority_cycles ≡
    ((fired (codes "pr") 164 17 false (48 ∷ 48 ∷ 48 ∷ 48 ∷ 48 ∷ 48 ∷ 48 ∷ 48 ∷ 10 ∷ []) ∷ []) ∷ (fired (codes "pr")
    132 15 false (97 ∷ 98 ∷ 112 ∷ 114 ∷ 10 ∷ []) ∷ fired (codes "pr") 173 18 false (codes "c") ∷ []) ∷ ([]) ∷ ([]) ∷
    (fired (codes "pr") 164 17 false (49 ∷ 48 ∷ 48 ∷ 48 ∷ 49 ∷ 48 ∷ 48 ∷ 48 ∷ 10 ∷ []) ∷ []) ∷ ([]) ∷ ([]) ∷ [])
unfolding digits
priority_fires = refl

-- ---- connections of expressions, at the width of the port; an output on part of a vector, and on names in braces; what nothing drives is 0

-- module adder(input signed [3:0] a, input [7:0] b, output [7:0] s, output [1:0] c, input open);
--   assign s = a + b;
--   assign c[0] = open;
-- endmodule
-- module top(input clk, input [3:0] d);
--   wire [8:0] s;
--   wire lo, hi;
--   reg [3:0] n;
--   adder u(.a(d + n), .b({n, n} + 9'd256), .s(s[8:1]), .c({hi, lo}));
--   always @(posedge clk) begin
--     n <= n + s[4:1];
--     if (n == 4'd5) begin $display("%0d %0d %b%b", s, $signed(s), hi, lo); $stop; end
--   end
-- endmodule
abbrev pub connected : Source
connected =
    ((md (p 0 1) (x (codes "adder") 1 1) ([]) (Some ((t.declared_port (dr (p 3 1) t.input None true (Some (rg (p 5 1)
    (t.number (p 6 1) (lit 32 false true 3 0)) (t.number (p 8 1) (lit 32 false true 0 0))))) (x (codes "a") 10 1)) ∷
    (t.declared_port (dr (p 12 1) t.input None false (Some (rg (p 13 1) (t.number (p 14 1) (lit 32 false true 7 0))
    (t.number (p 16 1) (lit 32 false true 0 0))))) (x (codes "b") 18 1)) ∷ (t.declared_port (dr (p 20 1) t.output
    None false (Some (rg (p 21 1) (t.number (p 22 1) (lit 32 false true 7 0)) (t.number (p 24 1) (lit 32 false true 0
    0))))) (x (codes "s") 26 1)) ∷ (t.declared_port (dr (p 28 1) t.output None false (Some (rg (p 29 1) (t.number (p
    30 1) (lit 32 false true 1 0)) (t.number (p 32 1) (lit 32 false true 0 0))))) (x (codes "c") 34 1)) ∷
    (t.declared_port (dr (p 36 1) t.input None false None) (x (codes "open") 37 1)) ∷ [])) (t.more_item (t.continuous
    (p 40 2) ((dv (t.name (x (codes "s") 41 2) t.no_select) (p 42 2) (t.chain (t.read (x (codes "a") 43 2)
    t.no_select) (t.more_link b.Add (p 44 2) (t.read (x (codes "b") 45 2) t.no_select) t.no_link))) ∷ []))
    (t.more_item (t.continuous (p 47 3) ((dv (t.name (x (codes "c") 48 3) (t.more_select (p 49 3) (t.index (t.number
    (p 50 3) (lit 32 false true 0 0))) t.no_select)) (p 52 3) (t.read (x (codes "open") 53 3) t.no_select)) ∷ []))
    t.no_item))) ∷ (md (p 56 5) (x (codes "top") 57 5) ([]) (Some ((t.declared_port (dr (p 59 5) t.input None false
    None) (x (codes "clk") 60 5)) ∷ (t.declared_port (dr (p 62 5) t.input None false (Some (rg (p 63 5) (t.number (p
    64 5) (lit 32 false true 3 0)) (t.number (p 66 5) (lit 32 false true 0 0))))) (x (codes "d") 68 5)) ∷ []))
    (t.more_item (t.nets (p 71 6) false (Some (rg (p 72 6) (t.number (p 73 6) (lit 32 false true 8 0)) (t.number (p
    75 6) (lit 32 false true 0 0)))) ((nt (x (codes "s") 77 6) None) ∷ [])) (t.more_item (t.nets (p 79 7) false None
    ((nt (x (codes "lo") 80 7) None) ∷ (nt (x (codes "hi") 82 7) None) ∷ [])) (t.more_item (t.registers (p 84 8)
    false (Some (rg (p 85 8) (t.number (p 86 8) (lit 32 false true 3 0)) (t.number (p 88 8) (lit 32 false true 0
    0)))) ((t.variable (x (codes "n") 90 8)) ∷ [])) (t.more_item (t.instances (x (codes "adder") 92 9) None ((ins (x
    (codes "u") 93 9) (Some (t.by_name ((nb (p 95 9) (x (codes "a") 96 9) (Some (t.chain (t.read (x (codes "d") 98 9)
    t.no_select) (t.more_link b.Add (p 99 9) (t.read (x (codes "n") 100 9) t.no_select) t.no_link)))) ∷ (nb (p 103 9)
    (x (codes "b") 104 9) (Some (t.chain (t.concat (p 106 9) (t.more_expr (t.read (x (codes "n") 107 9) t.no_select)
    (t.more_expr (t.read (x (codes "n") 109 9) t.no_select) t.no_expr))) (t.more_link b.Add (p 111 9) (t.number (p
    112 9) (lit 9 true false 256 0)) t.no_link)))) ∷ (nb (p 115 9) (x (codes "s") 116 9) (Some (t.read (x (codes "s")
    118 9) (t.more_select (p 119 9) (t.part (t.number (p 120 9) (lit 32 false true 8 0)) (t.number (p 122 9) (lit 32
    false true 1 0))) t.no_select)))) ∷ (nb (p 126 9) (x (codes "c") 127 9) (Some (t.concat (p 129 9) (t.more_expr
    (t.read (x (codes "hi") 130 9) t.no_select) (t.more_expr (t.read (x (codes "lo") 132 9) t.no_select)
    t.no_expr))))) ∷ [])))) ∷ [])) (t.more_item (t.always (p 137 10) (t.sensed ((sn (t.positive_edge (p 140 10))
    (t.read (x (codes "clk") 141 10) t.no_select)) ∷ [])) (t.block (p 143 10) None (t.more_stmt (t.assign (t.name (x
    (codes "n") 144 11) t.no_select) t.nonblocking (p 145 11) (t.chain (t.read (x (codes "n") 146 11) t.no_select)
    (t.more_link b.Add (p 147 11) (t.read (x (codes "s") 148 11) (t.more_select (p 149 11) (t.part (t.number (p 150
    11) (lit 32 false true 4 0)) (t.number (p 152 11) (lit 32 false true 1 0))) t.no_select)) t.no_link)))
    (t.more_stmt (t.conditional (t.more_branch (p 155 12) (t.chain (t.read (x (codes "n") 157 12) t.no_select)
    (t.more_link b.Eq (p 158 12) (t.number (p 159 12) (lit 4 true false 5 0)) t.no_link)) (t.block (p 161 12) None
    (t.more_stmt (t.print (p 162 12) t.display (t.format (p 164 12) (codes "%0d %0d %b%b") (t.more_expr (t.read (x
    (codes "s") 166 12) t.no_select) (t.more_expr (t.system (p 168 12) t.to_signed (t.read (x (codes "s") 170 12)
    t.no_select)) (t.more_expr (t.read (x (codes "hi") 173 12) t.no_select) (t.more_expr (t.read (x (codes "lo") 175
    12) t.no_select) t.no_expr)))))) (t.more_stmt (t.stop (p 178 12) t.no_argument) t.no_stmt))) t.no_branch)
    t.no_else) t.no_stmt)))) t.no_item)))))) ∷ [])

abbrev pub connected_design : Design
connected_design = design_in connected

abbrev pub connected_rows : List (List ℕ)
connected_rows =
    ((15 ∷ []) ∷ (8 ∷ []) ∷ (3 ∷ []) ∷ [])

abbrev pub connected_cycles : List Values
connected_cycles = cycles 4 connected_design connected_rows

abbrev pub connected_values : List Values
connected_values =
    ((values (0 ∷ 15 ∷ 30 ∷ 0 ∷ 0 ∷ 0 ∷ 15 ∷ 0 ∷ 15 ∷ 0 ∷ 0 ∷ []) ([])) ∷ (values (0 ∷ 8 ∷ 12 ∷ 0 ∷ 0 ∷ 15 ∷ 7 ∷ 255
    ∷ 6 ∷ 0 ∷ 0 ∷ []) ([])) ∷ (values (0 ∷ 3 ∷ 186 ∷ 0 ∷ 0 ∷ 5 ∷ 8 ∷ 85 ∷ 93 ∷ 0 ∷ 0 ∷ []) ([])) ∷ [])

connected_comes : drop 0 connected_cycles ≡ connected_values
connected_comes = refl

connected_holds_0 : each_driven connected_design (values (0 ∷ 15 ∷ 30 ∷ 0 ∷ 0 ∷ 0 ∷ 15 ∷ 0 ∷ 15 ∷ 0 ∷ 0 ∷ []) ([])) ≡
    replicate (length (drivers connected_design)) (values (0 ∷ 15 ∷ 30 ∷ 0 ∷ 0 ∷ 0 ∷ 15 ∷ 0 ∷ 15 ∷ 0 ∷ 0 ∷ []) ([]))
connected_holds_0 = refl

connected_holds_1 : each_driven connected_design (values (0 ∷ 8 ∷ 12 ∷ 0 ∷ 0 ∷ 15 ∷ 7 ∷ 255 ∷ 6 ∷ 0 ∷ 0 ∷ []) ([])) ≡
    replicate (length (drivers connected_design)) (values (0 ∷ 8 ∷ 12 ∷ 0 ∷ 0 ∷ 15 ∷ 7 ∷ 255 ∷ 6 ∷ 0 ∷ 0 ∷ []) ([]))
connected_holds_1 = refl

connected_holds_2 : each_driven connected_design (values (0 ∷ 3 ∷ 186 ∷ 0 ∷ 0 ∷ 5 ∷ 8 ∷ 85 ∷ 93 ∷ 0 ∷ 0 ∷ []) ([])) ≡
    replicate (length (drivers connected_design)) (values (0 ∷ 3 ∷ 186 ∷ 0 ∷ 0 ∷ 5 ∷ 8 ∷ 85 ∷ 93 ∷ 0 ∷ 0 ∷ []) ([]))
connected_holds_2 = refl

connected_rests : undriven_from 4 connected_design (initial connected_design) connected_rows ≡ map (shown connected_design) connected_cycles
connected_rests = refl

connected_fires : map (fires connected_design) connected_cycles ≡
    (([]) ∷ ([]) ∷ (fired (codes "top") 178 12 false (49 ∷ 56 ∷ 54 ∷ 32 ∷ 49 ∷ 56 ∷ 54 ∷ 32 ∷ 48 ∷ 48 ∷ 10 ∷ []) ∷
    []) ∷ [])
unfolding digits
connected_fires = refl
