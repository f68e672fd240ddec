-- The text of a message (IEEE 1364-2005, clause 17.1.1): the elements of its format, computed, and their texts. This
-- project's own: as many arguments stand there as the format shows.
use Rattle.std.specs.Prelude.{◌==◌, ◌||◌, ℕ, Bool, true, false, if◌then◌else◌, List, [], ◌∷◌, ◌++◌, Option, Some, None, option_map, option_and_then}
use Rattle.netlist.specs.Message.{value_text}
use Rattle.netlist.specs.declared.design.Base.{Base}
use Rattle.netlist.specs.declared.design.Base.TheVariants as b
use Rattle.message_format.specs.declared.element.Element.{Element}
use Rattle.message_format.specs.declared.element.Element.TheVariants as e
use Rattle.message_format.specs.declared.element.Progress.{Progress}
use Rattle.message_format.specs.declared.element.Progress.TheVariants as p
use Rattle.message_format.specs.declared.element.Step.{Step}
use Rattle.message_format.specs.declared.element.Step.TheVariants as s

-- ---- the elements of a format

-- the base of a letter
abbrev pub base_of : ℕ → Option Base
base_of c =
    if c == 98 || c == 66 then Some b.Binary else
    if c == 111 || c == 79 then Some b.Octal else
    if c == 100 || c == 68 then Some b.Decimal else
    if c == 104 || c == 72 || (c == 120 || c == 88) then Some b.Hexadecimal else
    if c == 99 || c == 67 then Some b.Character else None

-- an item of a base, if there is one; with the fewest digits a number alone
abbrev pub item_step : Bool → Option Base → Step
item_step fewest None = s.Wrong
item_step true (Some b.Character) = s.Wrong
item_step fewest (Some base) = s.Ends (e.Value (record { base = base; fewest = fewest }))

-- what a byte does: outside of an item, after a percent sign, and after a percent sign and a 0
abbrev pub step : Progress → ℕ → Step
step p.Outside c = if c == 37 then s.Into p.Percent else s.Ends (e.Byte c)
step p.Percent c =
    if c == 37 then s.Ends (e.Byte c) else
    if c == 48 then s.Into p.Zero else
    if c == 109 || c == 77 then s.Ends e.Path else
    item_step false (base_of c)
step p.Zero c = item_step true (base_of c)

-- an element, and those after it
abbrev pub with_more : Step → (Progress → Option (List Element)) → Option (List Element)
with_more (s.Into r) more = more r
with_more (s.Ends x) more = option_map (λ xs. x ∷ xs) (more p.Outside)
with_more s.Wrong more = None

-- the elements from here on; none where something stands there that is no element
abbrev pub elements_from : Progress → List ℕ → Option (List Element)
elements_from p.Outside [] = Some []
elements_from p.Percent [] = None
elements_from p.Zero [] = None
elements_from r (c ∷ cs) = with_more (step r c) (λ q. elements_from q cs)

abbrev pub elements : List ℕ → Option (List Element)
elements = elements_from p.Outside

-- ---- their texts

-- an argument: its width, its sign and its value
pub record Value : Type 0 where
  pub width : ℕ
  pub signed : Bool
  pub value : ℕ

-- a text, and what follows it
abbrev pub before : List ℕ → Option (List ℕ) → Option (List ℕ)
before t more = option_map (λ u. t ++ u) more

-- the texts of the elements: a byte is itself, and each item has the next argument; none where there are too few
-- arguments or too many
abbrev pub filled : List ℕ → List Element → List Value → Option (List ℕ)
filled path [] [] = Some []
filled path [] (v ∷ vs) = None
filled path (e.Byte c ∷ xs) vs = before (c ∷ []) (filled path xs vs)
filled path (e.Path ∷ xs) vs = before path (filled path xs vs)
filled path (e.Value i ∷ xs) [] = None
filled path (e.Value i ∷ xs) (v ∷ vs) =
    before (value_text i.base i.fewest v.signed v.width v.value) (filled path xs vs)

-- the text of a format in the scope of this path, with these arguments; none where the format or their number is bad
abbrev pub formatted : List ℕ → List ℕ → List Value → Option (List ℕ)
formatted path format vs = option_and_then (λ xs. filled path xs vs) (elements format)
