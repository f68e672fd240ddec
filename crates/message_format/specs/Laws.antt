-- Laws of formats.
use Rattle.std.specs.Prelude.{◌≡◌, ◌↔◌, ℕ, List, Some}
use Rattle.message_format.specs.declared.element.Element.{Element}
use Rattle.message_format.specs.Format.{Spells}
use Rattle.message_format.specs.Formatted.{elements}

-- the elements that are computed are those that the format is spelled of; there are none where it is spelled of none
abbrev pub ElementsLaw : Type 0
ElementsLaw = (format : List ℕ) (xs : List Element) → (elements format ≡ Some xs) ↔ Spells xs format
