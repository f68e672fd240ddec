-- Where a program has the slots of a draft. This project's own.
use Rattle.std.specs.Prelude.{ℕ, ◌-◌, ◌^◌, ◌<◌, List, slice_index, slice_set}
use Rattle.step_program.specs.declared.step.Slot.{Slot}
use Rattle.step_program.specs.declared.step.Slot.TheVariants as at

-- for each slot of a draft the number of the program's slot of its kind
pub record Table : Type 0 where
  pub narrow : List ℕ
  pub wide : List ℕ

-- the program's slot for a slot of the draft
abbrev pub stands : Table → Slot → Slot
stands t (at.Narrow k) = at.Narrow (slice_index t.narrow k)
stands t (at.Wide k) = at.Wide (slice_index t.wide k)

-- a slot has one: a number below 2^32 - 1, which stands for none
abbrev pub IsSet : Table → Slot → Type 0
IsSet t (at.Narrow k) = slice_index t.narrow k < 2 ^ 32 - 1
IsSet t (at.Wide k) = slice_index t.wide k < 2 ^ 32 - 1

-- a slot of the draft is given a number
abbrev pub with_place : Table → Slot → ℕ → Table
with_place t (at.Narrow k) n = record { narrow = slice_set t.narrow k n; wide = t.wide }
with_place t (at.Wide k) n = record { narrow = t.narrow; wide = slice_set t.wide k n }
