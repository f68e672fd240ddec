-- Worked examples of clean text. A line's end is 10.
use Rattle.std.proofs.Common.{◌≡◌, ℕ, List, [], ◌∷◌, ◌++◌, refl}
use Rattle.std.specs.Prelude.{true, codes, Result, Ok, Err}
use Rattle.vl_pre.specs.Bytes.{Text, placed, all_at}
use Rattle.vl_tree.specs.declared.fault.FaultKind.TheVariants.{BadDirective, Unbalanced, UnknownMacro, MacroDepth, TooLong, BadByte, OpenComment}
use Rattle.vl_tree.specs.declared.fault.FaultKind.{FaultKind}
use Rattle.vl_pre.specs.Pieces.{Fault, fault}
use Rattle.vl_pre.specs.CleanText.{clean_text, within, reading}
use Rattle.vl_pre.specs.Directives.{no_macros}
use Rattle.vl_pre.specs.Laws.Selects.{Skips, Reads, Chooses}

abbrev is_at : FaultKind → ℕ → Result Text Fault
is_at kind line = Err (fault kind line)

-- these texts as lines, each with its LF
abbrev lines : List (List ℕ) → List ℕ
lines [] = []
lines (l ∷ ls) = l ++ 10 ∷ lines ls

-- text without directives stays as it is
plain_text : clean_text (codes "assign a = b;") ≡ Ok (all_at 1 (codes "assign a = b;"))
plain_text = refl

-- each byte has its line, a LF the line that it ends
two_lines : clean_text (lines (codes "a" ∷ codes "b" ∷ [])) ≡ Ok (all_at 1 (97 ∷ 10 ∷ []) ++ all_at 2 (98 ∷ 10 ∷ []))
two_lines = refl

-- a comment to the line's end is one blank, and the line's end stays
line_comment_is_a_blank : clean_text (lines (codes "a// b" ∷ codes "c" ∷ [])) ≡ Ok (placed 1 (lines (codes "a " ∷ codes "c" ∷ [])))
line_comment_is_a_blank = refl

-- a comment over two lines is one blank, and what follows has its own line
block_comment_is_a_blank : clean_text (codes "a/* b" ++ 10 ∷ codes "é */c") ≡ Ok (all_at 1 (codes "a ") ++ all_at 2 (codes "c"))
block_comment_is_a_blank = refl

-- `/*/` doesn't close itself
slash_does_not_close : clean_text (codes "a" ++ 10 ∷ codes "/*/ b") ≡ is_at OpenComment 2
slash_does_not_close = refl

-- in a string no comment begins, and an escaped quote doesn't end it
string_hides_comment : clean_text (codes "\"a\\\"//b\"//c") ≡ Ok (all_at 1 (codes "\"a\\\"//b\" "))
string_hides_comment = refl

-- a string ends with its line
string_ends_with_line : clean_text (lines (codes "\"a" ∷ codes "//" ∷ [])) ≡ Ok (placed 1 (lines (codes "\"a" ∷ codes " " ∷ [])))
string_ends_with_line = refl

-- an escaped name runs to white space, and hides a comment and a directive
escaped_hides : clean_text (codes "\\a/*`b //") ≡ Ok (all_at 1 (codes "\\a/*`b  "))
escaped_hides = refl

-- a byte above 126 outside comments
bad_byte_at_two : clean_text (lines (codes "a" ∷ (127 ∷ []) ∷ [])) ≡ is_at BadByte 2
bad_byte_at_two = refl

-- a definition leaves its line's end, and its use gives the body
define_and_use : clean_text (lines (codes "`define W 8" ∷ codes "[`W]" ∷ [])) ≡ Ok (placed 1 (lines ([] ∷ codes "[8]" ∷ [])))
define_and_use = refl

-- blanks at either end of a body are no part of it
blanks_round_a_body : clean_text (lines (codes "`define W \t 8 // width" ∷ codes "[`W]" ∷ [])) ≡ Ok (placed 1 (lines ([] ∷ codes "[8]" ∷ [])))
blanks_round_a_body = refl

-- a `//` comment is no part of a body
comment_in_body : clean_text (lines (codes "`define W 8// width" ∷ codes "`W;" ∷ [])) ≡ Ok (placed 1 (lines ([] ∷ codes "8;" ∷ [])))
comment_in_body = refl

-- a backslash continues a body, and both become one blank; bytes of an expansion have the line of the use
continued_body : clean_text (lines (codes "`define S a\\" ∷ codes "b" ∷ codes "`S" ∷ [])) ≡ Ok (all_at 2 (10 ∷ []) ++ all_at 3 (codes "a b" ++ 10 ∷ []))
continued_body = refl

-- CR and LF are a line's end too
continued_by_cr : clean_text (lines (codes "`define S a\\\r" ∷ codes "b\r" ∷ codes "`S" ∷ [])) ≡ Ok (all_at 2 (13 ∷ 10 ∷ []) ++ all_at 3 (codes "a b" ++ 10 ∷ []))
continued_by_cr = refl

-- a macro in a macro, at the line of the outermost use
macro_in_macro : clean_text (lines (codes "`define A 1" ∷ codes "`define B (`A)" ∷ codes "`B" ∷ [])) ≡ Ok (placed 1 (lines ([] ∷ [] ∷ codes "(1)" ∷ [])))
macro_in_macro = refl

-- a later definition holds from there on
later_definition : clean_text (lines (codes "`define A 1" ∷ codes "`A" ∷ codes "`define A 2" ∷ codes "`A" ∷ [])) ≡ Ok (placed 1 (lines ([] ∷ codes "1" ∷ [] ∷ codes "2" ∷ [])))
later_definition = refl

-- a body is replaced where it is used, and not where it is defined
body_is_late : clean_text (lines (codes "`define B `A" ∷ codes "`define A 1" ∷ codes "`B" ∷ [])) ≡ Ok (placed 1 (lines ([] ∷ [] ∷ codes "1" ∷ [])))
body_is_late = refl

-- the worked row: an undefined name
unknown : clean_text (codes "wire `FOO;") ≡ is_at UnknownMacro 1
unknown = refl

-- nothing is defined after `undef`
undef_removes : clean_text (lines (codes "`define A 1" ∷ codes "`undef A" ∷ codes "`A" ∷ [])) ≡ is_at UnknownMacro 3
undef_removes = refl

-- a macro that uses itself is the seventeenth expansion in sixteen others
endless : clean_text (lines (codes "`define A `A" ∷ codes "`A" ∷ [])) ≡ is_at MacroDepth 2
endless = refl

-- a directive in a body is a fault at the use
directive_in_body : clean_text (lines (codes "`define A `undef B" ∷ codes "" ∷ codes "`A" ∷ [])) ≡ is_at BadDirective 3
directive_in_body = refl

-- `(` directly after NAME; a directive's name as NAME; `include`; a backtick alone; no NAME on the line
with_arguments : clean_text (codes "`define A(x) x") ≡ is_at BadDirective 1
with_arguments = refl

directive_as_name : clean_text (codes "`ifdef else") ≡ is_at BadDirective 1
directive_as_name = refl

include_is_refused : clean_text (codes "`include \"a.v\"") ≡ is_at BadDirective 1
include_is_refused = refl

backtick_alone : clean_text (codes "a ` b") ≡ is_at BadDirective 1
backtick_alone = refl

name_on_the_next_line : clean_text (lines (codes "`ifdef" ∷ codes "A" ∷ codes "`endif" ∷ [])) ≡ is_at BadDirective 1
name_on_the_next_line = refl

-- nothing is defined beforehand: `else` is read, and skipped text gives nothing
else_is_read : clean_text (lines (codes "`ifdef A" ∷ codes "a" ∷ codes "`else" ∷ codes "b" ∷ codes "`endif" ∷ [])) ≡ Ok (all_at 3 (10 ∷ []) ++ all_at 4 (codes "b" ++ 10 ∷ []) ++ all_at 5 (10 ∷ []))
else_is_read = refl

-- the rest of a conditional directive's line is ordinary text
rest_of_the_line : clean_text (codes "`ifndef A b`else c`endif d") ≡ Ok (all_at 1 (codes " b d"))
rest_of_the_line = refl

-- the first branch that holds is read, and no later one
elsif_once : clean_text (codes "`define B\n`ifdef A a`elsif B b`elsif B c`else d`endif") ≡ Ok (all_at 1 (10 ∷ []) ++ all_at 2 (codes " b"))
elsif_once = refl

-- a condition in skipped text is skipped with all its branches
nested_in_skipped : clean_text (codes "`ifdef A `ifndef B b`else c`endif d`else e`endif") ≡ Ok (all_at 1 (codes " e"))
nested_in_skipped = refl

-- in skipped text a comment and a string hide `endif`; an undefined name and a bad byte are nothing
skipped_text : clean_text (codes "`ifdef A `FOO é \"`endif\" /*`endif*/ \\`endif b") ≡ Ok (all_at 1 (codes " b"))
skipped_text = refl

-- the worked row: a condition that is open at the end, at its line
open_at_the_end : clean_text (lines (codes "`ifdef A" ∷ codes "`else" ∷ [])) ≡ is_at Unbalanced 1
open_at_the_end = refl

-- the innermost first
innermost_first : clean_text (lines (codes "`ifdef A" ∷ codes "`ifdef B" ∷ [])) ≡ is_at Unbalanced 2
innermost_first = refl

no_condition : clean_text (codes "`endif") ≡ is_at Unbalanced 1
no_condition = refl

else_after_else : clean_text (codes "`ifdef A `else `else `endif") ≡ is_at Unbalanced 1
else_after_else = refl

-- `timescale` is passed over with the rest of its line, and its line's end stays
passed_over : clean_text (lines (codes "`timescale 1ns/1ps // `FOO" ∷ codes "a" ∷ [])) ≡ Ok (placed 1 (lines ([] ∷ codes "a" ∷ [])))
passed_over = refl

-- the first byte past the most is a fault at its line, before a fault that comes later
too_long_first : within 3 (reading (codes "ab\nc`FOO")) ≡ is_at TooLong 2
too_long_first = refl

-- a fault that comes before that byte is the first
fault_before_too_long : within 3 (reading (codes "ab\n`FOO")) ≡ is_at UnknownMacro 2
fault_before_too_long = refl

-- the worked row: an `ifdef` of a Chisel-style design
chisel : clean_text (lines (codes "`ifdef RANDOMIZE_REG_INIT" ∷ codes "  reg [31:0] _RAND_0;" ∷ codes "`endif // RANDOMIZE_REG_INIT" ∷ codes "  reg [7:0] acc;" ∷ []))
    ≡ Ok (all_at 3 (codes "  " ++ 10 ∷ []) ++ all_at 4 (codes "  reg [7:0] acc;" ++ 10 ∷ []))
chisel = refl

-- fifteen macros in one another, and the sixteenth, are expanded; the worked rows
abbrev chain : List ℕ
chain = lines (codes "`define M0 1" ∷ codes "`define M1 `M0" ∷ codes "`define M2 `M1" ∷ codes "`define M3 `M2" ∷ codes "`define M4 `M3" ∷ codes "`define M5 `M4" ∷ codes "`define M6 `M5"
    ∷ codes "`define M7 `M6" ∷ codes "`define M8 `M7" ∷ codes "`define M9 `M8" ∷ codes "`define M10 `M9" ∷ codes "`define M11 `M10" ∷ codes "`define M12 `M11" ∷ codes "`define M13 `M12"
    ∷ codes "`define M14 `M13" ∷ codes "`define M15 `M14" ∷ codes "`define M16 `M15" ∷ [])

seventeenth : clean_text (chain ++ codes "wire a = `M16;") ≡ is_at MacroDepth 18
seventeenth = refl

abbrev Accepted : Result Text Fault → Type 0
Accepted (Ok t) = Unit {0}
Accepted (Err f) = ⊥

sixteenth : Accepted (clean_text (chain ++ codes "wire a = `M15;"))
sixteenth = tt

-- a `//` comment ends before a backslash that continues its line, and the body goes on after it
comment_in_continued_body : clean_text (codes "`define A a//b\\\nc\n`A") ≡ Ok (all_at 2 (10 ∷ []) ++ all_at 3 (codes "a c"))
comment_in_continued_body = refl

-- a comment from `/*` is a blank in a body, and its lines end no definition
block_in_body : clean_text (codes "`define A a/*\n*/b\n`A") ≡ Ok (all_at 2 (10 ∷ []) ++ all_at 3 (codes "a b"))
block_in_body = refl

-- a comment between a directive and its NAME is a blank
comment_before_name : clean_text (codes "`ifndef/**/A a`endif") ≡ Ok (all_at 1 (codes " a"))
comment_before_name = refl

-- a definition without body
empty_body : clean_text (codes "`define A\n[`A]") ≡ Ok (all_at 1 (10 ∷ []) ++ all_at 2 (codes "[]"))
empty_body = refl

-- a bad byte in a body and in a line that is passed over
bad_byte_in_body : clean_text (codes "`define A é") ≡ is_at BadByte 1
bad_byte_in_body = refl

bad_byte_passed : clean_text (codes "`timescale é") ≡ is_at BadByte 1
bad_byte_passed = refl

-- an `elsif` without condition is Unbalanced, whatever stands after it: no NAME, or a comment without end
elsif_alone : clean_text (codes "`elsif") ≡ is_at Unbalanced 1
elsif_alone = refl

elsif_before_a_comment : clean_text (codes "`elsif /* a") ≡ is_at Unbalanced 1
elsif_before_a_comment = refl

-- the same after `else`
elsif_after_else : clean_text (lines (codes "`ifdef A" ∷ codes "`else" ∷ codes "`elsif" ∷ [])) ≡ is_at Unbalanced 3
elsif_after_else = refl

-- with a condition its NAME is looked at
elsif_without_name : clean_text (lines (codes "`ifdef A" ∷ codes "`elsif" ∷ codes "`endif" ∷ [])) ≡ is_at BadDirective 2
elsif_without_name = refl

-- what a text with conditions selects, by its rules: nothing is defined, so `else` is read
selects_else : Reads no_macros (placed 1 (codes "`ifdef A a`else b`endif c")) [] (all_at 1 (codes " b c")) no_macros
selects_else =
    Reads.a_condition true 1 (codes "A") (_, (refl, refl, refl, refl), refl)
    (Chooses.by_else 1 1 (Skips.a_piece (λ x. refl) (Skips.a_piece (λ x. refl) Skips.at_once)) (refl, refl, refl, refl)
    (Reads.a_piece (λ cs. refl) (Reads.a_piece (λ cs. refl) Reads.at_once)) (refl, refl, refl, refl))
    (Reads.a_piece (λ cs. refl) (Reads.a_piece (λ cs. refl) Reads.at_once))
