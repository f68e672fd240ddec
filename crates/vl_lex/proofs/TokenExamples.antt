-- Worked examples of tokens.
use Rattle.std.proofs.Common.{◌≡◌, ℕ, zero, suc, List, [], ◌∷◌, ◌++◌, ◌^◌, ◌-◌, true, false, refl}
use Rattle.std.specs.Prelude.{codes, Bool, Result, Ok, Err, map}
use Rattle.vl_tree.specs.declared.token.Key.TheVariants as k
use Rattle.vl_tree.specs.declared.token.Mark.TheVariants as m
use Rattle.vl_tree.specs.declared.token.System.TheVariants as s
use Rattle.vl_tree.specs.Token.{Kind, name, system, number, str, key, mark, token, Tokens}
use Rattle.vl_pre.specs.Bytes.{placed, all_at}
use Rattle.vl_tree.specs.declared.fault.FaultKind.{FaultKind}
use Rattle.vl_tree.specs.declared.fault.FaultKind.TheVariants.{BadToken, BadNumber, TooWide, OpenString, TooManyTokens}
use Rattle.vl_lex.specs.Faults.{Fault, fault}
use Rattle.vl_lex.specs.Numbers.{plain_literal}
use Rattle.vl_lex.specs.Tokens.{tokens_of, lexed, at_most}

abbrev on : ℕ → List Kind → Tokens
on line = map (token line)

abbrev are : List Kind → Result Tokens Fault
are ks = Ok (on 1 ks)

abbrev is_at : FaultKind → ℕ → Result Tokens Fault
is_at kind line = Err (fault kind line)

abbrev read : List ℕ → Result Tokens Fault
read bs = tokens_of (placed 1 bs)

abbrev plain : ℕ → Kind
plain value = number (plain_literal value)

abbrev based : ℕ → Bool → Bool → ℕ → ℕ → Kind
based width sized signed value wild = number (record { width = width; sized = sized; signed = signed; value = value; wild = wild })

-- unsigned and with a size
abbrev sized : ℕ → ℕ → Kind
sized width value = based width true false value 0

abbrev wild : ℕ → ℕ → ℕ → Kind
wild width value bits = based width true false value bits

-- without a size
abbrev unsized : Bool → ℕ → Kind
unsized signed value = based 32 false signed value 0

abbrev times : ℕ → List ℕ → List ℕ
times zero bs = []
times (suc n) bs = bs ++ times n bs

-- ---- names, keywords, marks and lines

longest_mark : read (codes "a<=b<c<<<d") ≡ are (name (codes "a") ∷ mark m.LessEqual ∷ name (codes "b") ∷ mark m.Less ∷ name (codes "c") ∷ mark m.ArithmeticLeft ∷ name (codes "d") ∷ [])
longest_mark = refl

both_xnor : read (codes "~^ ^~ ~ ^") ≡ are (mark m.Xnor ∷ mark m.Xnor ∷ mark m.Tilde ∷ mark m.Xor ∷ [])
both_xnor = refl

longest_name : read (codes "reg regs casex") ≡ are (key k.Reg ∷ name (codes "regs") ∷ key k.Casex ∷ [])
longest_name = refl

escaped_is_no_keyword : read (codes "\\if \\a+b* c") ≡ are (name (codes "if") ∷ name (codes "a+b*") ∷ name (codes "c") ∷ [])
escaped_is_no_keyword = refl

empty_escaped : read (codes "\\ a") ≡ is_at BadToken 1
empty_escaped = refl

system_names : read (codes "$stop $finish") ≡ are (system s.Stop ∷ system s.Other ∷ [])
system_names = refl

lone_dollar : read (codes "a\n$ b") ≡ is_at BadToken 2
lone_dollar = refl

lines_of_tokens : read (codes "a\n\r\n b") ≡ Ok (on 1 (name (codes "a") ∷ []) ++ on 3 (name (codes "b") ∷ []))
lines_of_tokens = refl

-- a token may have bytes of several lines, and stands on that of the first
over_lines : tokens_of (all_at 2 (codes "ab") ++ all_at 7 (codes "c d")) ≡ Ok (on 2 (name (codes "abc") ∷ []) ++ on 7 (name (codes "d") ∷ []))
over_lines = refl

longest_allowed : read (times 255 (codes "a")) ≡ are (name (times 255 (codes "a")) ∷ [])
longest_allowed = refl

too_long_name : read (times 256 (codes "a")) ≡ is_at BadToken 1
too_long_name = refl

-- ---- plain decimals

greatest_plain : read (codes "4_294_967_295") ≡ are (plain (2 ^ 32 - 1) ∷ [])
greatest_plain = refl

above_plain : read (codes "4294967296") ≡ is_at BadNumber 1
above_plain = refl

letter_after : read (codes "12ab") ≡ is_at BadNumber 1
letter_after = refl

-- ---- based numbers

four_bits : read (codes "4'd15") ≡ are (sized 4 15 ∷ [])
four_bits = refl

upper_case : read (codes "8'HfF 8'B1010_0101 6'O17_") ≡ are (sized 8 255 ∷ sized 8 165 ∷ sized 6 15 ∷ [])
upper_case = refl

signed_number : read (codes "4'sd15 4'Sb1") ≡ are (based 4 true true 15 0 ∷ based 4 true true 1 0 ∷ [])
signed_number = refl

without_size : read (codes "'hFFFFFFFF 'sd5 'b1") ≡ are (unsized false 4294967295 ∷ unsized true 5 ∷ unsized false 1 ∷ [])
without_size = refl

above_without_size : read (codes "'h100000000") ≡ is_at TooWide 1
above_without_size = refl

cut_on_the_left : read (codes "4'd16 8'h1FF") ≡ are (sized 4 0 ∷ sized 8 255 ∷ [])
cut_on_the_left = refl

-- the bits to the left of a leftmost `z` are wild: all but the lowest
leftmost_z : read (codes "8'bz1") ≡ are (wild 8 1 254 ∷ [])
leftmost_z = refl

-- a `z` that isn't leftmost is wild where it stands
inner_z : read (codes "8'h1?") ≡ are (wild 8 16 15 ∷ [])
inner_z = refl

-- an `x` digit is 0, and no bit to its left is wild
leftmost_x : read (codes "12'hx 8'bx1z") ≡ are (sized 12 0 ∷ wild 8 2 1 ∷ [])
leftmost_x = refl

-- wild bits beyond the width are cut
cut_wild : read (codes "2'bz0z1 4'hz_z") ≡ are (wild 2 1 2 ∷ wild 4 0 15 ∷ [])
cut_wild = refl

wild_without_size : read (codes "'oz") ≡ are (based 32 false false 0 4294967295 ∷ [])
wild_without_size = refl

-- a decimal `z` or `?` stands for all bits, and an `x` for none
decimal_z : read (codes "4'd? 4'dz 4'dX") ≡ are (wild 4 0 15 ∷ wild 4 0 15 ∷ sized 4 0 ∷ [])
decimal_z = refl

gap_after_a_lone_digit : read (codes "4'dz_ 4'dx__") ≡ are (wild 4 0 15 ∷ sized 4 0 ∷ [])
gap_after_a_lone_digit = refl

wild_stands_alone : read (codes "4'd?1") ≡ is_at BadNumber 1
wild_stands_alone = refl

-- a `?` after decimal digits is a mark
question_after_digits : read (codes "4'd1?a") ≡ are (sized 4 1 ∷ mark m.Question ∷ name (codes "a") ∷ [])
question_after_digits = refl

widest : read (codes "128'hFFFFFFFFFFFFFFFFFFFFFFFFFFFFFFFF") ≡ are (sized 128 (2 ^ 128 - 1) ∷ [])
widest = refl

above_the_widest : read (codes "128'h100000000000000000000000000000000") ≡ is_at TooWide 1
above_the_widest = refl

too_wide_size : read (codes "129'd0") ≡ is_at TooWide 1
too_wide_size = refl

no_size : read (codes "0'd0") ≡ is_at BadNumber 1
no_size = refl

no_digit : read (codes "4'd 1") ≡ is_at BadNumber 1
no_digit = refl

underscore_first : read (codes "1'b_1") ≡ is_at BadNumber 1
underscore_first = refl

not_of_the_base : read (codes "4'b12") ≡ is_at BadNumber 1
not_of_the_base = refl

-- a number's form and a size of 0 are looked at before its width
form_first : read (codes "129'b2") ≡ is_at BadNumber 1
form_first = refl

-- a blank stands between two numbers
blank_within : read (codes "3 'd1") ≡ are (plain 3 ∷ unsized false 1 ∷ [])
blank_within = refl

-- an apostrophe without a base is no token; the digits before it are one
no_base : read (codes "4'q1") ≡ is_at BadToken 1
no_base = refl

digits_before_it : at_most 1 (lexed (placed 1 (codes "1 4'q"))) ≡ is_at TooManyTokens 1
digits_before_it = refl

-- ---- strings

escapes : read (codes "\"a\\n\\t\\\"\\\\\\101\\0a\\377\"") ≡ are (str (codes "a\n\t\"\\A" ++ (0 ∷ 97 ∷ 255 ∷ [])) ∷ [])
escapes = refl

octal_above : read (codes "\"\\400\"") ≡ is_at BadToken 1
octal_above = refl

other_escape : read (codes "\"\\q\"") ≡ is_at BadToken 1
other_escape = refl

string_over_lines : read (codes "a\n\"b\nc\"") ≡ is_at OpenString 2
string_over_lines = refl

string_to_the_end : read (codes "\"b\\\"") ≡ is_at OpenString 1
string_to_the_end = refl

-- a backslash before the line's end is another escape
escaped_line_end : read (codes "\"b\\\nc\"") ≡ is_at BadToken 1
escaped_line_end = refl

-- CR alone is a byte of a string, and ends its line before LF
carriage_return : read (codes "\"\r\" \"\r\n\"") ≡ is_at OpenString 1
carriage_return = refl

-- ---- attributes

attribute_passed : read (codes "(* keep = \"*)\\\"\" *) reg a;") ≡ are (key k.Reg ∷ name (codes "a") ∷ mark m.Semicolon ∷ [])
attribute_passed = refl

string_of_a_line : read (codes "(* \"*)\n*) a") ≡ Ok (on 2 (name (codes "a") ∷ []))
string_of_a_line = refl

-- a backslash joins no line to a string, and a CR alone is a byte of it
ends_of_lines_in_attributes : read (codes "(* \"*)\\\n*) a (* \"*)\r\n*) b (* \"*)\r*)\" *) c") ≡ Ok (on 2 (name (codes "a") ∷ []) ++ on 3 (name (codes "b") ∷ name (codes "c") ∷ []))
ends_of_lines_in_attributes = refl

string_to_the_attributes_end : read (codes "(* \"*)") ≡ is_at BadToken 1
string_to_the_attributes_end = refl

stars_in_attributes : read (codes "(***) a (* * ) ( *) b") ≡ are (name (codes "a") ∷ name (codes "b") ∷ [])
stars_in_attributes = refl

shortest_attribute : read (codes "(**)a") ≡ are (name (codes "a") ∷ [])
shortest_attribute = refl

event_is_no_attribute : read (codes "@( * ) @(*)@(*\t)") ≡ are (let e = mark m.At ∷ mark m.OpenParen ∷ mark m.Star ∷ mark m.CloseParen ∷ [] in e ++ e ++ e)
event_is_no_attribute = refl

open_attribute : read (codes "a\n(* keep") ≡ is_at BadToken 2
open_attribute = refl

-- ---- how many

third_is_too_many : at_most 2 (lexed (placed 1 (codes "a b\nc $"))) ≡ is_at TooManyTokens 2
third_is_too_many = refl

-- a place where no token stands isn't numbered
fault_is_no_token : at_most 2 (lexed (placed 1 (codes "a b\n$"))) ≡ is_at BadToken 2
fault_is_no_token = refl

no_byte : read [] ≡ Ok []
no_byte = refl
