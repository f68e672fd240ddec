-- Worked examples of what a module shows: the counter, and ports in another order than rows and states have.
use Rattle.std.specs.Prelude.{◌≡◌, refl, ℕ, true, false, List, [], ◌∷◌, replicate, codes}
use Rattle.design_names.specs.Variables.{Kind, wire, reg, Variable, scope, no_scopes, variables_of}
use Rattle.vl_tree.specs.Tree.{Text, input, output, no_stmt, Module}
use Rattle.vl_tree.proofs.Counter.{plain_decimal, counter}
use Rattle.vl_meaning.specs.Run.{cell}
use Rattle.vl_meaning.specs.Shown.{scope_of, shown, shown_at}

-- a variable of this kind, width and name, which is no clock's, and the clock
abbrev a_variable : Kind → ℕ → Text → Variable
a_variable k w x = record { kind = k; width = w; name = x; clock = false }

abbrev clk : Variable
clk = record { kind = wire; width = 1; name = codes "clk"; clock = true }

abbrev counter_variables : List Variable
counter_variables = clk ∷ a_variable wire 1 (codes "rst") ∷ a_variable wire 1 (codes "en") ∷ a_variable reg 4 (codes "r") ∷ []

-- inputs are nets, the output is a variable of four bits, and the clock is marked
counter_scope : scope_of counter ≡ scope true (codes "cnt") counter_variables no_scopes
counter_scope = refl

counter_numbers : variables_of (scope_of counter) ≡ counter_variables
counter_numbers = refl

-- with rst 0 and en 1 where r is 8, in order of the ports; the clock is 0
counter_shown : shown counter (0 ∷ 1 ∷ []) (cell (codes "r") 8 ∷ []) ≡ 0 ∷ 0 ∷ 1 ∷ 8 ∷ []
counter_shown = refl

-- in a cycle its register has the value before the block, and after 15 it is 0 again
counter_at_nine : shown_at counter (replicate 26 (0 ∷ 1 ∷ [])) 9 ≡ 0 ∷ 0 ∷ 1 ∷ 9 ∷ []
counter_at_nine = refl

counter_at_sixteen : shown_at counter (replicate 26 (0 ∷ 1 ∷ [])) 16 ≡ 0 ∷ 0 ∷ 1 ∷ 0 ∷ []
counter_at_sixteen = refl

-- module m(output reg [0:7] a, input b, input clk, output reg [5:5] c, input d); always @(posedge clk) begin end endmodule
abbrev mixed : Module
mixed = record {
  name = codes "m";
  ports = output (codes "a") (plain_decimal 0) (plain_decimal 7) ∷ input (codes "b") ∷ input (codes "clk")
      ∷ output (codes "c") (plain_decimal 5) (plain_decimal 5) ∷ input (codes "d") ∷ [];
  clock = codes "clk";
  body = no_stmt;
}

mixed_scope : variables_of (scope_of mixed)
    ≡ a_variable reg 8 (codes "a") ∷ a_variable wire 1 (codes "b") ∷ clk ∷ a_variable reg 1 (codes "c") ∷ a_variable wire 1 (codes "d") ∷ []
mixed_scope = refl

-- b is 1 and d is 0, a is 200 and c is 1
mixed_shown : shown mixed (1 ∷ 0 ∷ []) (cell (codes "a") 200 ∷ cell (codes "c") 1 ∷ []) ≡ 200 ∷ 1 ∷ 0 ∷ 1 ∷ 0 ∷ []
mixed_shown = refl
