-- Worked examples of the texts of designs, of refusals, and of a whole run.
use Rattle.std.proofs.Common.{◌≡◌, ℕ, List, [], ◌∷◌, replicate, refl, inl}
use Rattle.std.specs.Prelude.{codes, true, false, Some, None}
use Rattle.std.specs.Fmt.{digits}
use Rattle.stimulus.specs.declared.refusal.RefusalKind.TheVariants as kind
use Rattle.vl_tree.specs.Tree.{input, stop, no_stmt, more_stmt, Module}
use Rattle.vl_tree.proofs.Counter.{counter}
use Rattle.vl_tree.proofs.GrammarExamples.{counter_tokens, counter_derives}
use Rattle.vl_tree.proofs.CounterSource.{counter_source, counter_is_source}
use Rattle.vl_tree.specs.declared.fault.FaultKind.TheVariants as k
use Rattle.vl_front.specs.Spelled.{fault}
use Rattle.vl_front.specs.OneModule.{IsOneModule}
use Rattle.dessert.specs.Answer.{done, refused}
use Rattle.waveform.specs.Vcd.{code}
use Rattle.talk.specs.Words.{sim}
use Rattle.dessert.specs.Sources.{design_text, Origins, origins_of, spot, spot_in, line_at}
use Rattle.dessert.specs.Outcome.{Design, AreRefused, output_of, report_of, Judges}

-- ---- the text of a design

text_of_empty_file : design_text ([] ∷ []) ≡ codes "\n"
text_of_empty_file = refl

line_is_ended : design_text (codes "endmodule" ∷ []) ≡ codes "endmodule\n"
line_is_ended = refl

ended_line_is_kept : design_text (codes "endmodule\n" ∷ []) ≡ codes "endmodule\n"
ended_line_is_kept = refl

files_are_joined : design_text (codes "a" ∷ [] ∷ codes "b\n" ∷ codes "c" ∷ []) ≡ codes "a\n\nb\nc\n"
files_are_joined = refl

-- a file of three lines whose last isn't ended, an empty one, and one more: 3, 1 and 1 lines
abbrev three_files : Origins
three_files = origins_of (codes "a.v" ∷ codes "b.v" ∷ codes "c.v" ∷ []) (codes "1\n2\n3" ∷ [] ∷ codes "5\n" ∷ [])

last_line_of_the_first : spot_in three_files 3 ≡ spot (codes "a.v") 3
last_line_of_the_first = refl

line_of_the_empty_file : spot_in three_files 4 ≡ spot (codes "b.v") 1
line_of_the_empty_file = refl

line_of_the_last : spot_in three_files 5 ≡ spot (codes "c.v") 1
line_of_the_last = refl

-- the third line has its LF only in the text of the design
third_line : line_at 3 (design_text (codes "1\n2\n3" ∷ [] ∷ codes "5\n" ∷ [])) ≡ codes "3\n"
third_line = refl

fourth_line : line_at 4 (design_text (codes "1\n2\n3" ∷ [] ∷ codes "5\n" ∷ [])) ≡ codes "\n"
fourth_line = refl

-- the counter's file is the counter's text: its tokens, line by line, derive the tree, which has no static fault
abbrev counter_file : List ℕ
counter_file = codes "module cnt(input clk, input rst, input en, output reg [3:0] r);\n  always @(posedge clk) begin\n    if (rst)\n      r <= 4'd0;\n    else if (en)\n      r <= r + 4'd1;\n    if (r == 4'd9) begin\n      $display(\"r hit %0d\", r);\n      $stop;\n    end\n  end\nendmodule\n"

counter_is_read : IsOneModule (design_text (counter_file ∷ [])) (Some (codes "cnt")) counter
counter_is_read = record {
  tokens = counter_tokens;
  is_spelled = refl;
  have_top = (counter_source, counter_is_source, refl);
  derived = counter_derives;
  is_top = refl;
  sound = refl;
}

-- an unknown macro on the first line of the second file
abbrev bad_macro : List (List ℕ)
bad_macro = codes "module m;" ∷ codes "wire `FOO;\n" ∷ []

macro_is_unknown : AreRefused (sim 64 None (codes "a.v" ∷ codes "m.v" ∷ [])) bad_macro (codes "design: m.v:1: UnknownMacro\n")
unfolding digits
macro_is_unknown = inl (fault 1 2 k.UnknownMacro, inl refl, refl)

-- a number of too many bits
number_is_wide : AreRefused (sim 64 None (codes "m.v" ∷ [])) (codes "\n129'd1" ∷ []) (codes "design: m.v:2: TooWide\n")
unfolding digits
number_is_wide = inl (fault 2 2 k.TooWide, inl refl, refl)

-- ---- the window

-- module m(input c); always @(posedge c) begin $stop; end endmodule, where the stop is on line 2: it fires in each cycle
abbrev stopping : Module
stopping = record { name = codes "m"; ports = input (codes "c") ∷ []; clock = codes "c"; body = more_stmt (stop 2) no_stmt }

-- it stands in one file
abbrev one_stop : Design
one_stop = record { top = stopping; origins = record { names = codes "a.v" ∷ []; counts = 2 ∷ [] } }

-- the window begins so many cycles before the failure as the lag says, and at 0 at the least
window_of_64 : report_of 64 one_stop (replicate 66 []) (Some 64) ≡ codes "failure at cycle 64\nstop in m at a.v:2\nwindow 0 to 64\n"
unfolding digits
window_of_64 = refl

window_of_65 : report_of 64 one_stop (replicate 66 []) (Some 65) ≡ codes "failure at cycle 65\nstop in m at a.v:2\nwindow 1 to 65\n"
unfolding digits
window_of_65 = refl

-- a design without data inputs and registers shows its clock alone
clock_alone : output_of 1 stopping (replicate 4 []) (Some 3)
    ≡ codes "$version dessert 1 $end\n$timescale 1 ns $end\n$scope module m $end\n$var wire 1 ! c $end\n$upscope $end\n$enddefinitions $end\n#4\n$dumpvars\n0!\n$end\n#5\n1!\n#6\n0!\n#7\n1!\n"
unfolding digits code
clock_alone = refl

-- ---- a whole run

-- n rows with rst 0 and en 1
abbrev enabled : ℕ → List (List ℕ)
enabled n = replicate n (0 ∷ 1 ∷ [])

-- the counter in its file
abbrev counter_design : Design
counter_design = record { top = counter; origins = origins_of (codes "examples/cnt.v" ∷ []) (counter_file ∷ []) }

-- twenty rows of the counter: it fails in cycle 9
abbrev twenty_rows : List ℕ
twenty_rows = codes "stimulus 1\ninputs rst en\n0 1\n0 1\n0 1\n0 1\n0 1\n0 1\n0 1\n0 1\n0 1\n0 1\n0 1\n0 1\n0 1\n0 1\n0 1\n0 1\n0 1\n0 1\n0 1\n0 1\n"

-- its waveform under a lag of 4
abbrev five_cycles : List ℕ
five_cycles = codes "$version dessert 1 $end\n$timescale 1 ns $end\n$scope module cnt $end\n$var wire 1 ! clk $end\n$var wire 1 \" rst $end\n$var wire 1 # en $end\n$var reg 4 $ r $end\n$upscope $end\n$enddefinitions $end\n#10\n$dumpvars\n0!\n0\"\n1#\nb0101 $\n$end\n#11\n1!\n#12\n0!\nb0110 $\n#13\n1!\n#14\n0!\nb0111 $\n#15\n1!\n#16\n0!\nb1000 $\n#17\n1!\n#18\n0!\nb1001 $\n#19\n1!\n"

twenty_rows_fail : Judges (sim 4 None (codes "examples/cnt.v" ∷ [])) counter_design twenty_rows (done true five_cycles (codes "failure at cycle 9\nstop in cnt at examples/cnt.v:9\nr hit 9\nwindow 5 to 9\n"))
unfolding digits code
twenty_rows_fail = (enabled 20, refl, refl, refl, refl)

-- nine rows don't come so far
abbrev nine_rows : List ℕ
nine_rows = codes "stimulus 1\ninputs rst en\n0 1\n0 1\n0 1\n0 1\n0 1\n0 1\n0 1\n0 1\n0 1\n"

nine_rows_are_quiet : Judges (sim 64 None (codes "examples/cnt.v" ∷ [])) counter_design nine_rows (done false [] (codes "no failure in 9 cycles\n"))
unfolding digits
nine_rows_are_quiet = (enabled 9, refl, refl, refl, refl)

-- a bad value after a good row
bad_value_is_refused : Judges (sim 64 None (codes "examples/cnt.v" ∷ [])) counter_design (codes "stimulus 1\ninputs en rst\n1 0\n1 2\n") (refused false (codes "stimulus: line 4: TooLarge\n"))
unfolding digits
bad_value_is_refused = (record { kind = kind.TooLarge; line = 4 }, refl, refl, refl)
