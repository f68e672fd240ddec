-- The counter of the worked examples, as a tree.
use Rattle.std.specs.Prelude.{ℕ, true, false, List, [], ◌∷◌, Some, codes}
use Rattle.vl_tree.specs.declared.expr.Binary.TheVariants as two
use Rattle.vl_tree.specs.Token.{Literal}
use Rattle.vl_tree.specs.Tree.{Primary, name, number, primary, binary, Stmt, block, conditional, assign, display, stop, no_stmt, more_stmt, no_branch, more_branch, no_else, Port, input, output, Module}

-- 9 and 4'd9
abbrev pub plain_decimal : ℕ → Literal
plain_decimal n = record { width = 32; sized = false; signed = true; value = n; wild = 0 }

abbrev pub sized_decimal : ℕ → ℕ → Literal
sized_decimal w n = record { width = w; sized = true; signed = false; value = n; wild = 0 }

-- n as four bits
abbrev pub four_bits : ℕ → Primary
four_bits n = number (sized_decimal 4 n)

abbrev pub counter_ports : List Port
counter_ports = input (codes "clk") ∷ input (codes "rst") ∷ input (codes "en") ∷ output (codes "r") (plain_decimal 3) (plain_decimal 0) ∷ []

-- if (rst) r <= 4'd0; else if (en) r <= r + 4'd1;
abbrev pub counting : Stmt
counting = conditional
    (more_branch (primary (name (codes "rst"))) (assign (codes "r") (primary (four_bits 0)))
    (more_branch (primary (name (codes "en"))) (assign (codes "r") (binary (name (codes "r")) two.Add (four_bits 1))) no_branch)) no_else

-- if (r == 4'd9) begin $display("r hit %0d", r); $stop; end, where the stop is on line 9
abbrev pub asserting : Stmt
asserting = conditional
    (more_branch (binary (name (codes "r")) two.Equal (four_bits 9))
    (block (more_stmt (display (codes "r hit %0d") (Some (codes "r"))) (more_stmt (stop 9) no_stmt))) no_branch) no_else

-- module cnt(input clk, input rst, input en, output reg [3:0] r);
--   always @(posedge clk) begin
--     if (rst)
--       r <= 4'd0;
--     else if (en)
--       r <= r + 4'd1;
--     if (r == 4'd9) begin
--       $display("r hit %0d", r);
--       $stop;
--     end
--   end
-- endmodule
abbrev pub counter : Module
counter = record { name = codes "cnt"; ports = counter_ports; clock = codes "clk"; body = more_stmt counting (more_stmt asserting no_stmt) }
