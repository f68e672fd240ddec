-- Worked examples of the waveform's text.
use Rattle.std.proofs.Common.{◌≡◌, ℕ, List, [], ◌∷◌, ◌++◌, codes, refl, true, false}
use Rattle.std.specs.Fmt.{digits}
use Rattle.design_names.specs.Variables.{Scope, wire, reg, integer, scope, no_scopes, next_scope}
use Rattle.waveform.specs.Vcd.{code, vcd_text}

-- a counter: clk, rst, en, and r of 4 bits
abbrev pub counter : Scope
counter = scope true (codes "cnt") (record { kind = wire; width = 1; name = codes "clk"; clock = true } ∷ record { kind = wire; width = 1; name = codes "rst"; clock = false }
    ∷ record { kind = wire; width = 1; name = codes "en"; clock = false } ∷ record { kind = reg; width = 4; name = codes "r"; clock = false } ∷ []) no_scopes

abbrev head : List ℕ
head = codes "$version dessert 1 $end\n$timescale 1 ns $end\n$scope module cnt $end\n$var wire 1 ! clk $end\n$var wire 1 \" rst $end\n$var wire 1 # en $end\n$var reg 4 $ r $end\n$upscope $end\n$enddefinitions $end\n"

-- no cycle
pub window_of_none : vcd_text counter 9 [] ≡ head
unfolding digits code
window_of_none = refl

-- one cycle alone
pub window_9_to_9 : vcd_text counter 9 ((0 ∷ 0 ∷ 1 ∷ 9 ∷ []) ∷ []) ≡ head ++ codes "#18\n$dumpvars\n0!\n0\"\n1#\nb1001 $\n$end\n#19\n1!\n"
unfolding digits code
window_9_to_9 = refl

-- the clock's 0 in each later cycle, also where nothing else changes
pub window_0_to_2 : vcd_text counter 0 ((0 ∷ 0 ∷ 1 ∷ 8 ∷ []) ∷ (0 ∷ 0 ∷ 1 ∷ 9 ∷ []) ∷ (0 ∷ 0 ∷ 1 ∷ 9 ∷ []) ∷ [])
    ≡ head ++ codes "#0\n$dumpvars\n0!\n0\"\n1#\nb1000 $\n$end\n#1\n1!\n#2\n0!\nb1001 $\n#3\n1!\n#4\n0!\n#5\n1!\n"
unfolding digits code
window_0_to_2 = refl

-- a top without a clock, and in it an instance and a generate scope: numbers go on from scope to scope
abbrev nested : Scope
nested = scope true (codes "top") (record { kind = wire; width = 2; name = codes "a"; clock = false } ∷ [])
    (next_scope (scope true (codes "u") (record { kind = integer; width = 32; name = codes "i"; clock = false } ∷ []) no_scopes)
    (next_scope (scope false (codes "g") (record { kind = reg; width = 1; name = codes "b"; clock = false } ∷ []) no_scopes) no_scopes))

pub window_of_nested : vcd_text nested 3 ((2 ∷ 5 ∷ 1 ∷ []) ∷ (2 ∷ 5 ∷ 1 ∷ []) ∷ (2 ∷ 5 ∷ 0 ∷ []) ∷ [])
    ≡ codes "$version dessert 1 $end\n$timescale 1 ns $end\n$scope module top $end\n$var wire 2 ! a $end\n$scope module u $end\n$var integer 32 \" i $end\n$upscope $end\n$scope begin g $end\n$var reg 1 # b $end\n$upscope $end\n$upscope $end\n$enddefinitions $end\n#6\n$dumpvars\nb10 !\nb00000000000000000000000000000101 \"\n1#\n$end\n#8\n#10\n0#\n"
unfolding digits code
window_of_nested = refl

pub code_93 : code 93 ≡ codes "~"
unfolding code
code_93 = refl

pub code_94 : code 94 ≡ codes "!!"
unfolding code
code_94 = refl

pub code_95 : code 95 ≡ codes "!\""
unfolding code
code_95 = refl

pub code_8929 : code 8929 ≡ codes "~~"
unfolding code
code_8929 = refl

pub code_8930 : code 8930 ≡ codes "!!!"
unfolding code
code_8930 = refl
