-- Worked examples of Stimulus text.
use Rattle.std.proofs.Common.{◌≡◌, ℕ, List, [], ◌∷◌, ◌++◌, codes, refl}
use Rattle.stimulus.specs.declared.refusal.Input.{Input}
use Rattle.stimulus.specs.declared.refusal.RefusalKind.{RefusalKind}
use Rattle.stimulus.specs.declared.refusal.RefusalKind.TheVariants as k
use Rattle.stimulus.specs.Stimulus.{Reading, rows, refused, stimulus}

abbrev inputs : List Input
inputs = record { name = codes "rst"; width = 1 } ∷ record { name = codes "en"; width = 1 } ∷ []

abbrev at : RefusalKind → ℕ → Reading
at kind line = refused (record { kind = kind; line = line })

abbrev head : List ℕ
head = codes "stimulus 1\ninputs rst en\n"

pub two_rows : stimulus inputs (head ++ codes "0 1\n0 01\n") ≡ rows ((0 ∷ 1 ∷ []) ∷ (0 ∷ 1 ∷ []) ∷ [])
two_rows = refl

-- names in another order, a CR, and both cases of a digit: a row is in order of the ports
pub other_order : stimulus (record { name = codes "a"; width = 4 } ∷ record { name = codes "b"; width = 8 } ∷ []) (codes "stimulus 1\r\ninputs b a\nAf 0c\r\n") ≡ rows ((12 ∷ 175 ∷ []) ∷ [])
other_order = refl

pub no_rows : stimulus inputs head ≡ rows []
no_rows = refl

-- with no inputs a row is an empty line
pub empty_rows : stimulus [] (codes "stimulus 1\ninputs\n\n\n") ≡ rows ([] ∷ [] ∷ [])
empty_rows = refl

-- and a line of one space has two empty values
pub one_space : stimulus [] (codes "stimulus 1\ninputs\n \n") ≡ at k.WrongCount 3
one_space = refl

-- 2 ^ width - 1 is accepted, and 2 ^ width is too large
pub greatest : stimulus (record { name = codes "a"; width = 128 } ∷ []) (codes "stimulus 1\ninputs a\n000ffffffffffffffffffffffffffffffff\n") ≡ rows ((340282366920938463463374607431768211455 ∷ []) ∷ [])
greatest = refl

pub too_large : stimulus (record { name = codes "a"; width = 128 } ∷ []) (codes "stimulus 1\ninputs a\n100000000000000000000000000000000\n") ≡ at k.TooLarge 3
too_large = refl

pub other_version : stimulus inputs (codes "stimulus 3\ninputs rst en\n") ≡ at k.BadHeader 1
other_version = refl

pub two_spaces : stimulus inputs (codes "stimulus 1\ninputs rst  en\n") ≡ at k.BadHeader 2
two_spaces = refl

-- the form of the whole line counts before its leftmost bad name, and a name before one that is missing
pub form_first : stimulus inputs (codes "stimulus 1\ninputs q \n") ≡ at k.BadHeader 2
form_first = refl

pub name_first : stimulus inputs (codes "stimulus 1\ninputs rst q\n") ≡ at k.UnknownInput 2
name_first = refl

pub one_twice : stimulus inputs (codes "stimulus 1\ninputs rst en en\n") ≡ at k.RepeatedInput 2
one_twice = refl

pub lacks_one : stimulus inputs (codes "stimulus 1\ninputs rst\n") ≡ at k.MissingInput 2
lacks_one = refl

-- the number of values counts before a bad one
pub one_value : stimulus inputs (head ++ codes "g\n") ≡ at k.WrongCount 3
one_value = refl

pub no_digit : stimulus inputs (head ++ codes "0 1\n0 g\n") ≡ at k.BadValue 4
no_digit = refl

pub no_value : stimulus inputs (head ++ codes " 1\n") ≡ at k.BadValue 3
no_value = refl

-- of two bad values the left one counts
pub too_wide : stimulus inputs (head ++ codes "2 g\n") ≡ at k.TooLarge 3
too_wide = refl

pub nothing : stimulus inputs [] ≡ at k.Truncated 1
nothing = refl

pub no_line_2 : stimulus inputs (codes "stimulus 1\n") ≡ at k.Truncated 2
no_line_2 = refl

pub open_line : stimulus inputs (head ++ codes "0 1\n0 1\n0 1\n0 1") ≡ at k.Truncated 6
open_line = refl

-- the first refusal in order of lines: a bad line before an open one
pub first_of_two : stimulus inputs (head ++ codes "0 2\n0 g") ≡ at k.TooLarge 3
first_of_two = refl
