-- Worked examples of runs: the counter that stops at 9, the order of writes and messages, and static faults one by one.
use Rattle.std.specs.Prelude.{◌≡◌, refl, ℕ, Bool, true, false, List, [], ◌∷◌, replicate, codes, Some, None, negsuc}
use Rattle.std.specs.Fmt.{digits}
use Rattle.flat_ir.specs.Fired.{Fired}
use Rattle.vl_tree.specs.Token.{Literal}
use Rattle.vl_tree.specs.declared.expr.Binary.TheVariants as two
use Rattle.vl_tree.specs.Tree.{Text, name, primary, binary, Stmt, conditional, assign, display, stop, Stmts, no_stmt, more_stmt, no_branch, more_branch, no_else, else_stmt, Port, input, output, Module}
use Rattle.vl_tree.proofs.Counter.{plain_decimal, sized_decimal, four_bits, counter}
use Rattle.vl_meaning.specs.Objects.{bound, port_width, data_inputs, registers}
use Rattle.vl_meaning.specs.Faults.{are_few, stmts_count, is_short, is_sound}
use Rattle.vl_meaning.specs.Expression.{Values}
use Rattle.vl_meaning.specs.Run.{cell, initial, val, next, state, fired, fires, first_failure}

-- ---- the counter

counter_is_sound : is_sound counter ≡ true
counter_is_sound = refl

counter_inputs : data_inputs counter ≡ codes "rst" ∷ codes "en" ∷ []
counter_inputs = refl

counter_registers : registers counter ≡ codes "r" ∷ []
counter_registers = refl

-- a row with rst 0 and en 1, and n of them
abbrev enabled : List ℕ
enabled = 0 ∷ 1 ∷ []

abbrev rows : ℕ → List (List ℕ)
rows n = replicate n enabled

-- the state in which r is n
abbrev r_is : ℕ → Values
r_is n = cell (codes "r") n ∷ []

-- what fires in cycle 9
abbrev hit : List Fired
hit = record { line = 9; message = codes "r hit 9\n" } ∷ []

-- it counts from 0 where enabled, is kept where not, reset by rst, and is 0 again after 15
starts_at_zero : initial counter ≡ r_is 0
starts_at_zero = refl

counts : next counter enabled (r_is 8) ≡ r_is 9
counts = refl

is_kept : next counter (0 ∷ 0 ∷ []) (r_is 8) ≡ r_is 8
is_kept = refl

is_reset : next counter (1 ∷ 1 ∷ []) (r_is 8) ≡ r_is 0
is_reset = refl

turns_over : next counter enabled (r_is 15) ≡ r_is 0
turns_over = refl

-- a valuation has the clock first, then the row, then the state
valuation : val counter enabled (r_is 8) ≡ cell (codes "clk") 0 ∷ cell (codes "rst") 0 ∷ cell (codes "en") 1 ∷ cell (codes "r") 8 ∷ []
valuation = refl

-- its assertion fires where r is 9 before the block, and not where it becomes 9
hits_at_nine : fired counter enabled (r_is 9) ≡ hit
unfolding digits
hits_at_nine = refl

not_at_eight : fired counter enabled (r_is 8) ≡ []
unfolding digits
not_at_eight = refl

-- over ten rows it fails first in cycle 9, over nine rows not at all
state_at_nine : state counter (rows 10) 9 ≡ r_is 9
state_at_nine = refl

ten_rows : first_failure counter (rows 10) ≡ Some 9
unfolding digits
ten_rows = refl

fires_at_nine : fires counter (rows 10) 9 ≡ hit
unfolding digits
fires_at_nine = refl

nine_rows : first_failure counter (rows 9) ≡ None
unfolding digits
nine_rows = refl

-- the first of two failures counts: it fires in the cycles 9 and 25
again_later : fired counter enabled (state counter (rows 26) 25) ≡ hit
unfolding digits
again_later = refl

first_of_two : first_failure counter (rows 26) ≡ Some 9
unfolding digits
first_of_two = refl

-- ---- the order of writes and messages

-- a list of statements
abbrev all_of : List Stmt → Stmts
all_of [] = no_stmt
all_of (s ∷ ss) = more_stmt s (all_of ss)

-- output reg [3:0] of a name
abbrev register_port : Text → Port
register_port x = output x (plain_decimal 3) (plain_decimal 0)

-- module m(input clk, input d, output reg [3:0] r, output reg [3:0] s); always @(posedge clk) begin .. end endmodule
abbrev module_of : List Stmt → Module
module_of ss = record {
  name = codes "m";
  ports = input (codes "clk") ∷ input (codes "d") ∷ register_port (codes "r") ∷ register_port (codes "s") ∷ [];
  clock = codes "clk";
  body = all_of ss;
}

-- the state in which r and s are these
abbrev r_and_s : ℕ → ℕ → Values
r_and_s a b = cell (codes "r") a ∷ cell (codes "s") b ∷ []

-- x <= n; and x <= y;
abbrev write : Text → ℕ → Stmt
write x n = assign x (primary (four_bits n))

abbrev copy : Text → Text → Stmt
copy x y = assign x (primary (name y))

-- $display("text");
abbrev show : Text → Stmt
show text = display text None

-- the next state of these statements where r is 1, s is 2 and d is 1, and what fires
abbrev after : List Stmt → Values
after ss = next (module_of ss) (1 ∷ []) (r_and_s 1 2)

abbrev fired_by : List Stmt → List Fired
fired_by ss = fired (module_of ss) (1 ∷ []) (r_and_s 1 2)

abbrev an_assertion : ℕ → Text → Fired
an_assertion line message = record { line = line; message = message }

-- r <= 3; r <= 4;
last_write_wins : after (write (codes "r") 3 ∷ write (codes "r") 4 ∷ []) ≡ r_and_s 4 2
last_write_wins = refl

-- r <= s; s <= r;
values_before_the_block : after (copy (codes "r") (codes "s") ∷ copy (codes "s") (codes "r") ∷ []) ≡ r_and_s 2 1
values_before_the_block = refl

-- r <= 3; s <= r + 4'd1;
write_is_not_read : after (write (codes "r") 3 ∷ assign (codes "s") (binary (name (codes "r")) two.Add (four_bits 1)) ∷ []) ≡ r_and_s 3 2
write_is_not_read = refl

-- if (d) r <= 3; else if (d) r <= 4; else r <= 5;
abbrev choosing : Stmt
choosing = conditional (more_branch (primary (name (codes "d"))) (write (codes "r") 3)
    (more_branch (primary (name (codes "d"))) (write (codes "r") 4) no_branch)) (else_stmt (write (codes "r") 5))

first_branch_that_holds : after (choosing ∷ []) ≡ r_and_s 3 2
first_branch_that_holds = refl

last_else : next (module_of (choosing ∷ [])) (0 ∷ []) (r_and_s 1 2) ≡ r_and_s 5 2
last_else = refl

-- $display("a"); $stop; $display("b");
text_behind_a_stop : fired_by (show (codes "a") ∷ stop 3 ∷ show (codes "b") ∷ []) ≡ an_assertion 3 (codes "a\n") ∷ []
text_behind_a_stop = refl

-- $display("a"); $display("b"); $stop;
texts_before_a_stop : fired_by (show (codes "a") ∷ show (codes "b") ∷ stop 3 ∷ []) ≡ an_assertion 3 (codes "a\nb\n") ∷ []
texts_before_a_stop = refl

bare_stop : fired_by (stop 3 ∷ []) ≡ an_assertion 3 [] ∷ []
bare_stop = refl

-- a text alone is no failure
no_stop : fired_by (show (codes "a") ∷ []) ≡ []
no_stop = refl

-- a text shows the value before the block
text_before_the_write : fired_by (write (codes "r") 3 ∷ display (codes "r is %0d") (Some (codes "r")) ∷ stop 3 ∷ []) ≡ an_assertion 3 (codes "r is 1\n") ∷ []
unfolding digits
text_before_the_write = refl

-- ---- static faults

-- a module with other ports after its clock, and no statement
abbrev with_ports : List Port → Module
with_ports ps = record { name = codes "m"; ports = input (codes "clk") ∷ ps; clock = codes "clk"; body = no_stmt }

no_other_port : is_sound (with_ports []) ≡ true
no_other_port = refl

-- a name twice (Duplicate)
two_names : is_sound (with_ports (input (codes "a") ∷ register_port (codes "b") ∷ [])) ≡ true
two_names = refl

name_twice : is_sound (with_ports (input (codes "a") ∷ register_port (codes "a") ∷ [])) ≡ false
name_twice = refl

-- output reg [l:r] x, alone with the clock
abbrev with_range : Literal → Literal → Module
with_range l r = with_ports (output (codes "x") l r ∷ [])

abbrev signed_four : ℕ → Literal
signed_four n = record { width = 4; sized = true; signed = true; value = n; wild = 0 }

-- bounds of 65,535 at most (BadRange)
greatest_bound : is_sound (with_range (plain_decimal 65535) (plain_decimal 65535)) ≡ true
greatest_bound = refl

left_bound_too_great : is_sound (with_range (plain_decimal 65536) (plain_decimal 65535)) ≡ false
left_bound_too_great = refl

right_bound_too_great : is_sound (with_range (plain_decimal 65535) (plain_decimal 65536)) ≡ false
right_bound_too_great = refl

-- 4'sd8 is -8, 4'd8 isn't, and 4'sd7 is 7
negative_bound : bound (signed_four 8) ≡ negsuc 7
negative_bound = refl

bound_is_negative : is_sound (with_range (signed_four 8) (signed_four 8)) ≡ false
bound_is_negative = refl

bound_is_unsigned : is_sound (with_range (sized_decimal 4 8) (sized_decimal 4 8)) ≡ true
bound_is_unsigned = refl

bound_is_positive : is_sound (with_range (signed_four 7) (signed_four 7)) ≡ true
bound_is_positive = refl

-- widths of 128 at most (TooWide); a range may ascend
abbrev range_width : ℕ → ℕ → ℕ
range_width l r = port_width (output (codes "x") (plain_decimal l) (plain_decimal r))

greatest_width : is_sound (with_range (plain_decimal 127) (plain_decimal 0)) ≡ true
greatest_width = refl

too_wide : is_sound (with_range (plain_decimal 128) (plain_decimal 0)) ≡ false
too_wide = refl

too_wide_ascending : is_sound (with_range (plain_decimal 0) (plain_decimal 128)) ≡ false
too_wide_ascending = refl

width_of_greatest : range_width 127 0 ≡ 128
width_of_greatest = refl

width_too_great : range_width 128 0 ≡ 129
width_too_great = refl

width_ascending : range_width 0 7 ≡ 8
width_ascending = refl

width_above_zero : range_width 5 3 ≡ 3
width_above_zero = refl

width_of_scalar : port_width (input (codes "x")) ≡ 1
width_of_scalar = refl

-- statements over input clk, input d, output reg [3:0] r and s
abbrev are_sound : List Stmt → Bool
are_sound ss = is_sound (module_of ss)

reads_an_input : are_sound (copy (codes "r") (codes "d") ∷ []) ≡ true
reads_an_input = refl

-- r <= clk; and if (clk) (ClockAsData)
reads_the_clock : are_sound (copy (codes "r") (codes "clk") ∷ []) ≡ false
reads_the_clock = refl

clock_in_condition : are_sound (conditional (more_branch (primary (name (codes "clk"))) (write (codes "r") 1) no_branch) no_else ∷ []) ≡ false
clock_in_condition = refl

-- d <= 1; and clk <= 1; (BadTarget)
target_is_input : are_sound (write (codes "d") 1 ∷ []) ≡ false
target_is_input = refl

target_is_clock : are_sound (write (codes "clk") 1 ∷ []) ≡ false
target_is_clock = refl

-- r <= t; t <= 1; and $display("%0d", t); (UnknownName)
reads_unknown : are_sound (copy (codes "r") (codes "t") ∷ []) ≡ false
reads_unknown = refl

target_unknown : are_sound (write (codes "t") 1 ∷ []) ≡ false
target_unknown = refl

shows_unknown : are_sound (display (codes "%0d") (Some (codes "t")) ∷ []) ≡ false
shows_unknown = refl

-- a format and its arguments (BadFormat)
shows_one : are_sound (display (codes "r is %0d%%") (Some (codes "r")) ∷ []) ≡ true
shows_one = refl

other_item : are_sound (display (codes "r is %d") (Some (codes "r")) ∷ []) ≡ false
other_item = refl

argument_missing : are_sound (show (codes "r is %0d") ∷ []) ≡ false
argument_missing = refl

argument_unused : are_sound (display (codes "r") (Some (codes "r")) ∷ []) ≡ false
argument_unused = refl

two_items : are_sound (display (codes "%0d %0d") (Some (codes "r")) ∷ []) ≡ false
two_items = refl

-- the clock is no port (UnknownName), or an output (BadClock)
abbrev with_clock : Text → Module
with_clock x = record (module_of []) { clock = x }

clock_is_input : is_sound (with_clock (codes "d")) ≡ true
clock_is_input = refl

clock_unknown : is_sound (with_clock (codes "t")) ≡ false
clock_unknown = refl

clock_is_output : is_sound (with_clock (codes "r")) ≡ false
clock_is_output = refl

-- one `$stop` at most
one_stop : are_sound (stop 3 ∷ []) ≡ true
one_stop = refl

two_stops : are_sound (stop 3 ∷ stop 4 ∷ []) ≡ false
two_stops = refl

-- ---- counts

-- of the counter: two branches and their writes; a branch, its block, the text and the stop
counter_statements : stmts_count counter.body ≡ 8
counter_statements = refl

-- 65,536 statements at most, the block itself among them (Unrolled); here n stops stand in it
abbrev with_stops : ℕ → Module
with_stops n = module_of (replicate n (stop 3))

most_statements : is_short (with_stops 65535) ≡ true
most_statements = refl

too_many_statements : is_short (with_stops 65536) ≡ false
too_many_statements = refl

-- 1,024 data inputs at most (TooManyInputs), and 65,535 signals (TooManySignals)
most_inputs : are_few (with_ports (replicate 1024 (input (codes "a")))) ≡ true
most_inputs = refl

too_many_inputs : are_few (with_ports (replicate 1025 (input (codes "a")))) ≡ false
too_many_inputs = refl

most_signals : are_few (with_ports (replicate 65534 (register_port (codes "a")))) ≡ true
most_signals = refl

too_many_signals : are_few (with_ports (replicate 65535 (register_port (codes "a")))) ≡ false
too_many_signals = refl
