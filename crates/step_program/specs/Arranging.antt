-- What private functions promise each other: drafts as they are built, and programs as they are put together. This
-- project's own.
use Rattle.std.specs.Prelude.{◌≡◌, ℕ, ◌+◌, ◌-◌, ◌^◌, ◌<◌, ◌≤◌, Bool, true, false, List, [], ◌∷◌, ◌++◌, length, map, slice_index, slice_index_or, ◌⊎◌}
use Rattle.step_program.specs.Values.{Slots, slot_value, after, step_value, is_narrow}
use Rattle.step_program.specs.Fits.{IsSlot, is_narrow_slot, next_slot, narrow_one, wide_one, StepsFit}
use Rattle.step_program.specs.Draft.{Draft, IsGiven, IsPlaced, Fits, value_in, narrow_count, wide_count}
use Rattle.step_program.specs.Table.{Table, stands, IsSet, with_place}
use Rattle.step_program.specs.Plan.{Plan, narrow_front, wide_front, narrow_total, wide_total, ran}
use Rattle.step_program.specs.Renamed as names
use Rattle.step_program.specs.Running.{all_steps}
use Rattle.step_program.specs.declared.step.Slot.{Slot}
use Rattle.step_program.specs.declared.step.Slot.TheVariants as at
use Rattle.step_program.specs.declared.step.Calculation.TheVariants as c
use Rattle.step_program.specs.declared.step.Step.{Step}
use Rattle.step_program.specs.declared.step.Step.TheVariants as s
use Rattle.step_program.specs.declared.entry.Entry.{Entry}
use Rattle.step_program.specs.declared.numbers.Numbers.{Numbers}
use Rattle.step_program.specs.declared.numbers.Next.{Next}
use Rattle.step_program.specs.declared.arranger.Arranger.{Arranger}

-- ---- numbers of slots

abbrev pub slot_number : Slot → ℕ
slot_number (at.Narrow k) = k
slot_number (at.Wide k) = k

-- the slot that comes next after n narrow ones and m wide ones, and how many there are then
pub record IsNext (b : Bool) (n m : ℕ) (next : Next) : Type 0 where
  pub slot : next.slot ≡ next_slot b n m
  pub narrow : next.then.narrow ≡ n + narrow_one b
  pub wide : next.then.wide ≡ m + wide_one b
  pub room : slot_number next.slot < 2 ^ 32 - 1

-- ---- drafts

-- the step is this constant
abbrev pub IsConstant : Step → ℕ → ℕ → Type 0
IsConstant step width value = step ≡ s.Rare (record { width = width; calculation = c.Constant value })

abbrev pub steps_of : List Entry → List Step
steps_of entries = map (λ e. e.step) entries

abbrev pub draft_from : Numbers → List Entry → Draft
draft_from given entries = record { narrow = given.narrow; wide = given.wide; steps = steps_of entries }

-- the step stands among the entries, with this slot
abbrev pub IsAmong : List Entry → Step → Slot → Type 0
IsAmong entries step slot = (k : ℕ) × (k < length entries)
    × (slice_index_or entries k (record { step = step; slot = slot }) ≡ record { step = step; slot = slot })

-- each entry has the slot that comes next
abbrev pub AreNext : ℕ → ℕ → List Entry → Type 0
AreNext n m [] = Unit {0}
AreNext n m (e ∷ more) = (e.slot ≡ next_slot (is_narrow e.step) n m)
    × AreNext (n + narrow_one (is_narrow e.step)) (m + wide_one (is_narrow e.step)) more

-- the entries are those of a draft, in which there are so many slots
pub record AreEntries (given next : Numbers) (entries : List Entry) : Type 0 where
  pub fits : StepsFit given.narrow given.wide (steps_of entries)
  pub slots : AreNext given.narrow given.wide entries
  pub narrow : next.narrow ≡ narrow_count (draft_from given entries)
  pub wide : next.wide ≡ wide_count (draft_from given entries)

-- ---- tables

-- each of the first numbers is its own, and the others stand for none
pub record IsStart (given total : ℕ) (numbers : List ℕ) : Type 0 where
  pub few : given < 2 ^ 32
  pub count : length numbers ≡ total
  pub own : (k : ℕ) → k < given → k < total → slice_index numbers k ≡ k
  pub none : (k : ℕ) → given ≤ k → k < total → slice_index numbers k ≡ 2 ^ 32 - 1

pub record StartsAt (given total : Numbers) (t : Table) : Type 0 where
  pub narrow : IsStart given.narrow total.narrow t.narrow
  pub wide : IsStart given.wide total.wide t.wide

-- ---- programs

-- the program holds, in the slots that the table says, the values of the draft's slots that are set
pub record IsFaithful (d : Draft) (p : Plan) (t : Table) : Type 0 where
  pub narrow : p.narrow ≡ d.narrow
  pub wide : p.wide ≡ d.wide
  pub narrow_table : length t.narrow ≡ narrow_count d
  pub wide_table : length t.wide ≡ wide_count d
  pub fits : StepsFit (narrow_front p) (wide_front p) p.steps
  pub given : (s : Slot) → IsSlot d.narrow d.wide s → IsSet t s
  pub within : (s : Slot) → IsPlaced d s → IsSet t s → IsSlot (narrow_total p) (wide_total p) (stands t s)
  pub value : (words : List (List ℕ)) (given : Slots) (s : Slot) → IsGiven d.narrow d.wide given → IsPlaced d s
      → IsSet t s → slot_value (ran p words given) (stands t s) ≡ value_in d words given s

abbrev pub plan_so_far : Arranger → Plan
plan_so_far a = record {
  narrow = a.given.narrow;
  wide = a.given.wide;
  narrow_constants = a.narrow_constants.items;
  wide_constants = a.wide_constants.items;
  steps = all_steps a.runs.items;
}

pub record IsArranged (d : Draft) (a : Arranger) : Type 0 where
  pub faithful : IsFaithful d (plan_so_far a) a.placement
  pub narrow : a.next.narrow ≡ narrow_total (plan_so_far a)
  pub wide : a.next.wide ≡ wide_total (plan_so_far a)

-- the slot of a kind that came next was taken for this slot of the draft
pub record Takes (old new : Arranger) (slot : Slot) (b : Bool) : Type 0 where
  pub given : new.given ≡ old.given
  pub narrow : new.next.narrow ≡ old.next.narrow + narrow_one b
  pub wide : new.next.wide ≡ old.next.wide + wide_one b
  pub room : slot_number (next_slot b old.next.narrow old.next.wide) < 2 ^ 32 - 1
  pub placement : new.placement
      ≡ with_place old.placement slot (slot_number (next_slot b old.next.narrow old.next.wide))

-- and nothing else was changed
pub record TakesAlone (old new : Arranger) (slot : Slot) (b : Bool) : Type 0 where
  pub takes : Takes old new slot b
  pub narrow : new.narrow_constants.items ≡ old.narrow_constants.items
  pub wide : new.wide_constants.items ≡ old.wide_constants.items
  pub steps : new.runs.items ≡ old.runs.items

-- for a constant, which was put after the others of its kind
pub record AddsNarrow (old new : Arranger) (slot : Slot) (value : ℕ) : Type 0 where
  pub takes : Takes old new slot true
  pub narrow : new.narrow_constants.items ≡ old.narrow_constants.items ++ value ∷ []
  pub wide : new.wide_constants.items ≡ old.wide_constants.items
  pub steps : all_steps new.runs.items ≡ all_steps old.runs.items

pub record AddsWide (old new : Arranger) (slot : Slot) (value : ℕ) : Type 0 where
  pub takes : Takes old new slot false
  pub narrow : new.narrow_constants.items ≡ old.narrow_constants.items
  pub wide : new.wide_constants.items ≡ old.wide_constants.items ++ value ∷ []
  pub steps : all_steps new.runs.items ≡ all_steps old.runs.items

-- for a step, which was put after the others
pub record AddsStep (old new : Arranger) (entry : Entry) : Type 0 where
  pub takes : Takes old new entry.slot (is_narrow entry.step)
  pub narrow : new.narrow_constants.items ≡ old.narrow_constants.items
  pub wide : new.wide_constants.items ≡ old.wide_constants.items
  pub steps : all_steps new.runs.items ≡ all_steps old.runs.items ++ names.step old.placement entry.step ∷ []

-- the entry is placed already, and nothing was changed, or it is placed now
abbrev pub Places : Arranger → Arranger → Entry → Type 0
Places old new entry = (IsSet old.placement entry.slot × (new ≡ old)) ⊎ AddsStep old new entry

-- no constants and no steps yet, and only the given slots are placed
pub record IsFresh (first total : Numbers) (a : Arranger) : Type 0 where
  pub given : a.given ≡ first
  pub next : a.next ≡ first
  pub narrow : a.narrow_constants.items ≡ []
  pub wide : a.wide_constants.items ≡ []
  pub steps : a.runs.items ≡ []
  pub placement : StartsAt first total a.placement

-- the slot has the step's value in the draft
pub record Owns (d : Draft) (e : Entry) : Type 0 where
  pub placed : IsPlaced d e.slot
  pub kind : is_narrow_slot e.slot ≡ is_narrow e.step
  pub fits : Fits d e.step
  pub value : (words : List (List ℕ)) (given : Slots) → IsGiven d.narrow d.wide given
      → value_in d words given e.slot ≡ step_value words (after words given d.steps) e.step

abbrev pub AllOwn : Draft → List Entry → Type 0
AllOwn d entries = (k : ℕ) (e : Entry) → k < length entries → Owns d (slice_index_or entries k e)

-- these are the steps of a draft, with their slots
pub record HasEntries (d : Draft) (entries : List Entry) : Type 0 where
  pub steps : d.steps ≡ steps_of entries
  pub slots : AreNext d.narrow d.wide entries
  pub fits : StepsFit d.narrow d.wide (steps_of entries)
  pub owns : AllOwn d entries

-- the program has no steps yet
pub record IsOpening (d : Draft) (a : Arranger) : Type 0 where
  pub arranged : IsArranged d a
  pub steps : all_steps a.runs.items ≡ []

-- every slot of the draft is set
pub record IsWhole (d : Draft) (a : Arranger) : Type 0 where
  pub arranged : IsArranged d a
  pub all : (s : Slot) → IsPlaced d s → IsSet a.placement s
