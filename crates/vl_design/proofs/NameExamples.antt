-- Worked examples of scopes, names and numbers: paths in preorder, what a name stands for, signals and inputs in order.
use Rattle.std.specs.Prelude.{◌≡◌, refl, ℕ, Bool, true, false, List, [], ◌∷◌, map, pos, negsuc, Option, Some, None, codes, slice_get}
use Rattle.bit_ops.specs.declared.operator.Unary.TheVariants as u
use Rattle.bit_ops.specs.declared.operator.Binary.TheVariants as b
use Rattle.vl_tree.specs.Syntax as t
use Rattle.vl_tree.specs.Syntax.{Source}
use Rattle.vl_value.specs.Paths.{Text, Path, Step, named, turn, unnamed}
use Rattle.vl_value.specs.Things.{Shape, Thing, signal, constant, routine}
use Rattle.vl_design.specs.Limits.{limits}
use Rattle.vl_design.specs.Scopes.{Scope, levels}
use Rattle.vl_design.specs.Objects.{sight, body_sight}
use Rattle.vl_design.specs.Design.{Signal, Callable, scopes, signals, locals, inputs, callables}
use Rattle.vl_design.proofs.Build.{p, x, lit, rg, dr, vl, lo, nb, nt, sn, fn, ins, md, fault_in}

abbrev shape : ℕ → ℕ → Bool → Shape
shape l r s = record { left = l; right = r; signed = s }

abbrev name : List ℕ → Path
name n = named n ∷ []

abbrev seen_in : Option Scope → Text → Option Thing
seen_in None n = None
seen_in (Some s) n = sight (levels s) n

-- ---- a loop downward, instances in it, an `if` that stands as a branch, a region, a loop variable

-- module c #(parameter W = 2) (input clk, input [W:0] d, output reg [3:0] q);
--   always @(posedge clk) q <= d;
-- endmodule
-- module top(input clk, input [2:0] a, output [3:0] z);
--   parameter N = 2;
--   integer k;
--   genvar i;
--   for (i = 0; i > -2; i = i - 1) begin : g
--     wire [3:0] w;
--     c x(.clk(clk), .d(a), .q(w));
--   end
--   if (N == 1) begin
--   end else if (N == 2) begin
--     wire N;
--   end
--   generate
--     if (0) begin : h
--     end else if (1) wire b;
--   endgenerate
--   initial for (k = 0; k < 1; k = k + 1) ;
-- endmodule
abbrev hierarchy : Source
hierarchy =
    ((md (p 0 1) (x (codes "c") 1 1) ((t.declared_parameter (p 4 1) false None (x (codes "W") 5 1) (t.number (p 7 1)
    (lit 32 false true 2 0))) ∷ []) (Some ((t.declared_port (dr (p 10 1) t.input None false None) (x (codes "clk") 11
    1)) ∷ (t.declared_port (dr (p 13 1) t.input None false (Some (rg (p 14 1) (t.read (x (codes "W") 15 1)
    t.no_select) (t.number (p 17 1) (lit 32 false true 0 0))))) (x (codes "d") 19 1)) ∷ (t.declared_port (dr (p 21 1)
    t.output (Some t.reg) false (Some (rg (p 23 1) (t.number (p 24 1) (lit 32 false true 3 0)) (t.number (p 26 1)
    (lit 32 false true 0 0))))) (x (codes "q") 28 1)) ∷ [])) (t.more_item (t.always (p 31 2) (t.sensed ((sn
    (t.positive_edge (p 34 2)) (t.read (x (codes "clk") 35 2) t.no_select)) ∷ [])) (t.assign (t.name (x (codes "q")
    37 2) t.no_select) t.nonblocking (p 38 2) (t.read (x (codes "d") 39 2) t.no_select))) t.no_item)) ∷ (md (p 42 4)
    (x (codes "top") 43 4) ([]) (Some ((t.declared_port (dr (p 45 4) t.input None false None) (x (codes "clk") 46 4))
    ∷ (t.declared_port (dr (p 48 4) t.input None false (Some (rg (p 49 4) (t.number (p 50 4) (lit 32 false true 2 0))
    (t.number (p 52 4) (lit 32 false true 0 0))))) (x (codes "a") 54 4)) ∷ (t.declared_port (dr (p 56 4) t.output
    None false (Some (rg (p 57 4) (t.number (p 58 4) (lit 32 false true 3 0)) (t.number (p 60 4) (lit 32 false true 0
    0))))) (x (codes "z") 62 4)) ∷ [])) (t.more_item (t.parameter (p 65 5) false false None ((vl (x (codes "N") 66 5)
    (t.number (p 68 5) (lit 32 false true 2 0))) ∷ [])) (t.more_item (t.integer (p 70 6) ((t.variable (x (codes "k")
    71 6)) ∷ [])) (t.more_item (t.genvar (p 73 7) ((x (codes "i") 74 7) ∷ [])) (t.more_item (t.generate_loop (p 76 8)
    (lo (x (codes "i") 78 8) (t.number (p 80 8) (lit 32 false true 0 0)) (t.chain (t.read (x (codes "i") 82 8)
    t.no_select) (t.more_link b.Gt (p 83 8) (t.unary (p 84 8) u.Minus (t.number (p 85 8) (lit 32 false true 2 0)))
    t.no_link)) (x (codes "i") 87 8) (t.chain (t.read (x (codes "i") 89 8) t.no_select) (t.more_link b.Sub (p 90 8)
    (t.number (p 91 8) (lit 32 false true 1 0)) t.no_link))) (t.several (p 93 8) (Some (x (codes "g") 95 8))
    (t.more_item (t.nets (p 96 9) false (Some (rg (p 97 9) (t.number (p 98 9) (lit 32 false true 3 0)) (t.number (p
    100 9) (lit 32 false true 0 0)))) ((nt (x (codes "w") 102 9) None) ∷ [])) (t.more_item (t.instances (x (codes
    "c") 104 10) None ((ins (x (codes "x") 105 10) (Some (t.by_name ((nb (p 107 10) (x (codes "clk") 108 10) (Some
    (t.read (x (codes "clk") 110 10) t.no_select))) ∷ (nb (p 113 10) (x (codes "d") 114 10) (Some (t.read (x (codes
    "a") 116 10) t.no_select))) ∷ (nb (p 119 10) (x (codes "q") 120 10) (Some (t.read (x (codes "w") 122 10)
    t.no_select))) ∷ [])))) ∷ [])) t.no_item)))) (t.more_item (t.generate_if (t.more_generate_branch (p 127 12)
    (t.chain (t.read (x (codes "N") 129 12) t.no_select) (t.more_link b.Eq (p 130 12) (t.number (p 131 12) (lit 32
    false true 1 0)) t.no_link)) (t.several (p 133 12) None t.no_item) (t.more_generate_branch (p 136 13) (t.chain
    (t.read (x (codes "N") 138 13) t.no_select) (t.more_link b.Eq (p 139 13) (t.number (p 140 13) (lit 32 false true
    2 0)) t.no_link)) (t.several (p 142 13) None (t.more_item (t.nets (p 143 14) false None ((nt (x (codes "N") 144
    14) None) ∷ [])) t.no_item)) t.no_generate_branch)) t.no_generate_else) (t.more_item (t.region (p 147 16)
    (t.more_item (t.generate_if (t.more_generate_branch (p 148 17) (t.number (p 150 17) (lit 32 false true 0 0))
    (t.several (p 152 17) (Some (x (codes "h") 154 17)) t.no_item) (t.more_generate_branch (p 157 18) (t.number (p
    159 18) (lit 32 false true 1 0)) (t.single (t.nets (p 161 18) false None ((nt (x (codes "b") 162 18) None) ∷
    []))) t.no_generate_branch)) t.no_generate_else) t.no_item)) (t.more_item (t.initial (p 165 20) (t.loop (p 166
    20) (lo (x (codes "k") 168 20) (t.number (p 170 20) (lit 32 false true 0 0)) (t.chain (t.read (x (codes "k") 172
    20) t.no_select) (t.more_link b.Lt (p 173 20) (t.number (p 174 20) (lit 32 false true 1 0)) t.no_link)) (x (codes
    "k") 176 20) (t.chain (t.read (x (codes "k") 178 20) t.no_select) (t.more_link b.Add (p 179 20) (t.number (p 180
    20) (lit 32 false true 1 0)) t.no_link))) (t.empty (p 182 20)))) t.no_item)))))))) ∷ [])

sound : fault_in limits hierarchy ≡ None
sound = refl

abbrev all : List Scope
all = scopes limits hierarchy None

abbrev turn_0 : Step
turn_0 = turn (codes "g") (pos 0)

abbrev turn_1 : Step
turn_1 = turn (codes "g") (negsuc 0)

paths : map (λ (s : Scope). s.level.path) all ≡
    [] ∷ (turn_0 ∷ []) ∷ (turn_0 ∷ named (codes "x") ∷ []) ∷ (turn_1 ∷ []) ∷ (turn_1 ∷ named (codes "x") ∷ [])
    ∷ (unnamed 2 None ∷ []) ∷ (unnamed 3 None ∷ []) ∷ []
paths = refl

signal_paths : map (λ (s : Signal). s.path) (signals all) ≡
    name (codes "clk") ∷ name (codes "a") ∷ name (codes "z")
    ∷ (turn_0 ∷ named (codes "w") ∷ [])
    ∷ (turn_0 ∷ named (codes "x") ∷ named (codes "clk") ∷ [])
    ∷ (turn_0 ∷ named (codes "x") ∷ named (codes "d") ∷ [])
    ∷ (turn_0 ∷ named (codes "x") ∷ named (codes "q") ∷ [])
    ∷ (turn_1 ∷ named (codes "w") ∷ [])
    ∷ (turn_1 ∷ named (codes "x") ∷ named (codes "clk") ∷ [])
    ∷ (turn_1 ∷ named (codes "x") ∷ named (codes "d") ∷ [])
    ∷ (turn_1 ∷ named (codes "x") ∷ named (codes "q") ∷ [])
    ∷ (unnamed 2 None ∷ named (codes "N") ∷ []) ∷ (unnamed 3 None ∷ named (codes "b") ∷ []) ∷ []
signal_paths = refl

loop_variable : locals all ≡ name (codes "k") ∷ []
loop_variable = refl

data_input : map (λ (s : Signal). s.path) (inputs all) ≡ name (codes "a") ∷ []
data_input = refl

genvar_in_its_turn : seen_in (slice_get all 3) (codes "i") ≡ Some (constant 32 true 4294967295)
genvar_in_its_turn = refl

genvar_outside : seen_in (slice_get all 0) (codes "i") ≡ None
genvar_outside = refl

from_the_module : seen_in (slice_get all 3) (codes "N") ≡ Some (constant 32 true 2)
from_the_module = refl

hidden : seen_in (slice_get all 5) (codes "N") ≡ Some (signal (unnamed 2 None ∷ named (codes "N") ∷ []) (shape 0 0 false))
hidden = refl

no_instance : seen_in (slice_get all 3) (codes "x") ≡ None
no_instance = refl

no_label : seen_in (slice_get all 0) (codes "g") ≡ None
no_label = refl

no_outer_module : seen_in (slice_get all 2) (codes "a") ≡ None
no_outer_module = refl

port_of_an_instance : seen_in (slice_get all 2) (codes "d") ≡
    Some (signal (turn_0 ∷ named (codes "x") ∷ named (codes "d") ∷ []) (shape 2 0 false))
port_of_an_instance = refl

-- ---- objects stand where their direction is declared, inputs in the header's order and then in that of the text

-- module top(b, a, clk);
--   input a, clk;
--   reg [1:0] q;
--   input signed b, e;
--   wire b;
--   output signed [1:0] q;
--   always @(posedge clk) q <= a;
-- endmodule
abbrev directed : Source
directed =
    ((md (p 0 1) (x (codes "top") 1 1) ([]) (Some ((t.named_port (x (codes "b") 3 1)) ∷ (t.named_port (x (codes "a")
    5 1)) ∷ (t.named_port (x (codes "clk") 7 1)) ∷ [])) (t.more_item (t.directed (dr (p 10 2) t.input None false
    None) ((x (codes "a") 11 2) ∷ (x (codes "clk") 13 2) ∷ [])) (t.more_item (t.registers (p 15 3) false (Some (rg (p
    16 3) (t.number (p 17 3) (lit 32 false true 1 0)) (t.number (p 19 3) (lit 32 false true 0 0)))) ((t.variable (x
    (codes "q") 21 3)) ∷ [])) (t.more_item (t.directed (dr (p 23 4) t.input None true None) ((x (codes "b") 25 4) ∷
    (x (codes "e") 27 4) ∷ [])) (t.more_item (t.nets (p 29 5) false None ((nt (x (codes "b") 30 5) None) ∷ []))
    (t.more_item (t.directed (dr (p 32 6) t.output None true (Some (rg (p 34 6) (t.number (p 35 6) (lit 32 false true
    1 0)) (t.number (p 37 6) (lit 32 false true 0 0))))) ((x (codes "q") 39 6) ∷ [])) (t.more_item (t.always (p 41 7)
    (t.sensed ((sn (t.positive_edge (p 44 7)) (t.read (x (codes "clk") 45 7) t.no_select)) ∷ [])) (t.assign (t.name
    (x (codes "q") 47 7) t.no_select) t.nonblocking (p 48 7) (t.read (x (codes "a") 49 7) t.no_select)))
    t.no_item))))))) ∷ [])

abbrev top : List Scope
top = scopes limits directed None

ports_sound : fault_in limits directed ≡ None
ports_sound = refl

port_paths : map (λ (s : Signal). s.path) (signals top) ≡
    name (codes "a") ∷ name (codes "clk") ∷ name (codes "b") ∷ name (codes "e") ∷ name (codes "q") ∷ []
port_paths = refl

port_order : map (λ (s : Signal). s.path) (inputs top) ≡ name (codes "b") ∷ name (codes "a") ∷ name (codes "e") ∷ []
port_order = refl

signed_where_either_is : seen_in (slice_get top 0) (codes "q") ≡ Some (signal (name (codes "q")) (shape 1 0 true))
signed_where_either_is = refl

-- ---- in a function's body

-- module top(input d);
--   parameter P = 3;
--   function [3:0] f;
--     input signed [1:0] a;
--     reg d;
--     f = a;
--   endfunction
-- endmodule
abbrev called : Source
called =
    ((md (p 0 1) (x (codes "top") 1 1) ([]) (Some ((t.declared_port (dr (p 3 1) t.input None false None) (x (codes
    "d") 4 1)) ∷ [])) (t.more_item (t.parameter (p 7 2) false false None ((vl (x (codes "P") 8 2) (t.number (p 10 2)
    (lit 32 false true 3 0))) ∷ [])) (t.more_item (t.function (fn (p 12 3) false false (t.range_result (rg (p 13 3)
    (t.number (p 14 3) (lit 32 false true 3 0)) (t.number (p 16 3) (lit 32 false true 0 0)))) (x (codes "f") 18 3)
    ([]) ((t.inputs (p 20 4) true (Some (rg (p 22 4) (t.number (p 23 4) (lit 32 false true 1 0)) (t.number (p 25 4)
    (lit 32 false true 0 0)))) ((x (codes "a") 27 4) ∷ [])) ∷ (t.variables (p 29 5) false None ((x (codes "d") 30 5)
    ∷ [])) ∷ []) (t.assign (t.name (x (codes "f") 32 6) t.no_select) t.blocking (p 33 6) (t.read (x (codes "a") 34 6)
    t.no_select)))) t.no_item))) ∷ [])

abbrev in_body : List Callable → Text → Option Thing
in_body (c ∷ cs) n = body_sight c.scope.level c.scope.outer c.routine n
in_body [] n = None

abbrev seen_inside : Text → Option Thing
seen_inside = in_body (callables (scopes limits called None))

its_input : seen_inside (codes "a") ≡ Some (signal (named (codes "f") ∷ named (codes "a") ∷ []) (shape 1 0 true))
its_input = refl

its_variable : seen_inside (codes "d") ≡ Some (signal (named (codes "f") ∷ named (codes "d") ∷ []) (shape 0 0 false))
its_variable = refl

its_name : seen_inside (codes "f") ≡ Some (routine true (name (codes "f")) (shape 3 0 false) (shape 1 0 true ∷ []))
its_name = refl

around_it : seen_inside (codes "P") ≡ Some (constant 32 true 3)
around_it = refl

its_locals : locals (scopes limits called None) ≡
    (named (codes "f") ∷ named (codes "a") ∷ []) ∷ (named (codes "f") ∷ named (codes "d") ∷ []) ∷ []
its_locals = refl
