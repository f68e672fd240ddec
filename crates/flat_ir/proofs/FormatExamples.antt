-- Worked examples of formats.
use Rattle.std.specs.Prelude.{◌≡◌, refl, [], ◌∷◌, Some, None, codes}
use Rattle.std.specs.Fmt.{digits}
use Rattle.std.proofs.Common.{inr}
use Rattle.flat_ir.specs.Format.{items, format_text}
use Rattle.flat_ir.specs.Pieces.{Spells, byte, percent_sign, item}

-- one item shows its argument, in either case of the letter
text_of_item : format_text (codes "r hit %0d") (9 ∷ []) ≡ codes "r hit 9"
unfolding digits
text_of_item = refl

text_of_great_letter : format_text (codes "%0D.") (120 ∷ []) ≡ codes "120."
unfolding digits
text_of_great_letter = refl

-- a percent sign shows no argument
text_of_percent : format_text (codes "100%%") [] ≡ codes "100%"
text_of_percent = refl

text_behind_percent : format_text (codes "%%0d %0d") (7 ∷ []) ≡ codes "%0d 7"
unfolding digits
text_behind_percent = refl

-- two items show two arguments, in order
text_of_two : format_text (codes "%0d-%0d") (1 ∷ 20 ∷ []) ≡ codes "1-20"
unfolding digits
text_of_two = refl

-- how many arguments are shown
items_one : items (codes "r hit %0d") ≡ Some 1
items_one = refl

items_great_letter : items (codes "%0D") ≡ Some 1
items_great_letter = refl

items_none : items (codes "100%%") ≡ Some 0
items_none = refl

items_two : items (codes "%0d-%0d") ≡ Some 2
items_two = refl

-- what is no item
no_width : items (codes "%d") ≡ None
no_width = refl

other_width : items (codes "%5d") ≡ None
other_width = refl

ended_early : items (codes "100%") ≡ None
ended_early = refl

ended_behind_zero : items (codes "%0") ≡ None
ended_behind_zero = refl

other_letter : items (codes "%0x") ≡ None
other_letter = refl

-- the pieces of a format
spelled : Spells (byte 114 ∷ percent_sign ∷ item ∷ []) (codes "r%%%0D")
spelled = (codes "r", codes "%%%0D", (λ e. absurd cc, refl), (codes "%%", codes "%0D", refl, (codes "%0D", [], inr refl, refl, refl), refl), refl)
