-- The text that a format and its arguments give (IEEE 1364-2005, clause 17.1.1): `%0d` shows the next argument with the fewest
-- decimal digits, in either case of the letter, and `%%` is a percent sign. No other item stands here.
use Rattle.std.specs.Prelude.{ℕ, ◌+◌, ◌==◌, ◌||◌, List, [], ◌∷◌, ◌++◌, Option, Some, None, decimal, if◌then◌else◌}

-- what was read last: nothing of an item, a percent sign, or a percent sign and a 0
pub data Progress : Type 0 where
  outside : Progress
  percent : Progress
  percent_zero : Progress

-- what a byte does: it stands for itself, begins an item, goes on in one, ends one that shows an argument, or stands in no item
pub data Step : Type 0 where
  itself : Step
  into : Progress → Step
  shows : Step
  wrong : Step

abbrev pub step : Progress → ℕ → Step
step outside b = if b == 37 then into percent else itself
step percent b = if b == 37 then itself else if b == 48 then into percent_zero else wrong
step percent_zero b = if b == 100 || b == 68 then shows else wrong

-- one item more
abbrev pub one_more : Option ℕ → Option ℕ
one_more None = None
one_more (Some n) = Some (n + 1)

-- how many arguments a format shows from here on, or none where something stands in it that is no item
abbrev pub counted : Step → (Progress → Option ℕ) → Option ℕ
counted itself more = more outside
counted (into r) more = more r
counted shows more = one_more (more outside)
counted wrong more = None

abbrev pub items_from : Progress → List ℕ → Option ℕ
items_from outside [] = Some 0
items_from percent [] = None
items_from percent_zero [] = None
items_from r (b ∷ bs) = counted (step r b) (λ q. items_from q bs)

abbrev pub items : List ℕ → Option ℕ
items = items_from outside

-- the next argument's digits, if there is one, and the text after them
abbrev pub shown : List ℕ → (List ℕ → List ℕ) → List ℕ
shown [] more = more []
shown (n ∷ ns) more = decimal n ++ more ns

-- what a byte gives, and what follows it
abbrev pub written : Step → ℕ → List ℕ → (Progress → List ℕ → List ℕ) → List ℕ
written itself b ns more = b ∷ more outside ns
written (into r) b ns more = more r ns
written shows b ns more = shown ns (more outside)
written wrong b ns more = more outside ns

-- the text of a format from here on
abbrev pub text_from : Progress → List ℕ → List ℕ → List ℕ
text_from r [] ns = []
text_from r (b ∷ bs) ns = written (step r b) b ns (λ q ms. text_from q bs ms)

-- the text of a format with these arguments
abbrev pub format_text : List ℕ → List ℕ → List ℕ
format_text = text_from outside
