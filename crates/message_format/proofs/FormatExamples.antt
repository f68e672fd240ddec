-- Worked examples of formats.
use Rattle.std.proofs.Common.{◌≡◌, ◌^◌, ℕ, refl, true, false, List, [], ◌∷◌, Option, Some, None}
use Rattle.std.specs.Prelude.{codes}
use Rattle.std.specs.Fmt.{digits}
use Rattle.netlist.specs.declared.design.Base.TheVariants as b
use Rattle.message_format.specs.declared.element.Element.TheVariants as e
use Rattle.message_format.specs.Formatted.{Value, elements, formatted}

abbrev unsigned : ℕ → ℕ → Value
unsigned w n = record { width = w; signed = false; value = n }

abbrev signed : ℕ → ℕ → Value
signed w n = record { width = w; signed = true; value = n }

-- the scope of the examples
abbrev text : List ℕ → List Value → Option (List ℕ)
text = formatted (codes "top.core[1]")

-- ---- elements

hits : elements (codes "r %0d")
    ≡ Some (e.Byte 114 ∷ e.Byte 32 ∷ e.Value (record { base = b.Decimal; fewest = true }) ∷ [])
hits = refl

percent_twice : elements (codes "%%%m") ≡ Some (e.Byte 37 ∷ e.Path ∷ [])
percent_twice = refl

-- ---- texts

numbers : text (codes "%h|%h|%d|") (unsigned 8 255 ∷ unsigned 128 (2 ^ 127) ∷ unsigned 8 7 ∷ [])
    ≡ Some (codes "ff|80000000000000000000000000000000|  7|")
unfolding digits
numbers = refl

hit : text (codes "r hit %0d") (unsigned 32 4086 ∷ []) ≡ Some (codes "r hit 4086")
unfolding digits
hit = refl

letters_of_either_case : text (codes "%B%O%X%H%D%C") (unsigned 2 1 ∷ unsigned 4 9 ∷ unsigned 4 10 ∷ unsigned 4 11
    ∷ unsigned 4 12 ∷ unsigned 8 65 ∷ []) ≡ Some (codes "0111ab12A")
unfolding digits
letters_of_either_case = refl

fewest_digits : text (codes "%0b %0o %0h %0x %0d") (unsigned 8 0 ∷ unsigned 8 9 ∷ unsigned 16 10 ∷ unsigned 16 11
    ∷ unsigned 16 12 ∷ []) ≡ Some (codes "0 11 a b 12")
unfolding digits
fewest_digits = refl

signs : text (codes "%d,%0d,%d") (signed 8 254 ∷ signed 8 254 ∷ signed 8 2 ∷ []) ≡ Some (codes "  -2,-2,   2")
unfolding digits
signs = refl

path_and_percent : text (codes "100%% of %m: %M\n") [] ≡ Some (codes "100% of top.core[1]: top.core[1]\n")
path_and_percent = refl

no_text_at_all : text [] [] ≡ Some []
no_text_at_all = refl

-- ---- what is no format

percent_at_the_end : text (codes "5%") [] ≡ None
percent_at_the_end = refl

zero_at_the_end : text (codes "%0") (unsigned 8 1 ∷ []) ≡ None
zero_at_the_end = refl

width_of_an_item : text (codes "%5d") (unsigned 8 1 ∷ []) ≡ None
width_of_an_item = refl

zero_twice : text (codes "%00d") (unsigned 8 1 ∷ []) ≡ None
zero_twice = refl

other_letter : text (codes "%s") (unsigned 8 1 ∷ []) ≡ None
other_letter = refl

zero_before_a_character : text (codes "%0c") (unsigned 8 65 ∷ []) ≡ None
zero_before_a_character = refl

zero_before_the_path : text (codes "%0m") [] ≡ None
zero_before_the_path = refl

zero_before_a_percent_sign : text (codes "%0%") [] ≡ None
zero_before_a_percent_sign = refl

-- ---- another number of arguments

argument_too_few : text (codes "%d %d") (unsigned 8 1 ∷ []) ≡ None
argument_too_few = refl

argument_too_many : text (codes "%m%%") (unsigned 8 1 ∷ []) ≡ None
argument_too_many = refl
