-- The turns of a loop from one on, as the program makes them. This project's own.
use Rattle.std.specs.Prelude.{◌≡◌, ℕ, zero, suc, ◌-◌, ◌<◌, true, List, [], ◌∷◌, ◌++◌, Option, Some, None}
use Rattle.std.specs.Option.{option_map}
use Rattle.vl_tree.specs.Syntax as t
use Rattle.vl_tree.specs.Syntax.{Place}
use Rattle.vl_tree.specs.declared.fault.FaultKind.TheVariants.{TooManyTurns}
use Rattle.vl_value.specs.Meaning.{assigned}
use Rattle.vl_value.specs.Order as order
use Rattle.vl_value.specs.Order.{at, least}
use Rattle.vl_found.specs.declared.Found.{Found}
use Rattle.vl_found.specs.View.{found}
use Rattle.vl_design.specs.Constants.{Worth, worth, Known, value_of, needs}
use Rattle.vl_design.specs.Generate as d
use Rattle.vl_design.specs.Generate.{Around, ended_by, one_more, turns_from, in_turn}
use Rattle.vl_frames.specs.declared.frames.Frames.{Frames}
use Rattle.vl_frames.specs.Marks.{around}
use Rattle.vl_frames.specs.Changes.{Are}
use Rattle.vl_generate.specs.declared.turning.Numbered.{Numbered}
use Rattle.vl_generate.specs.declared.turning.Turning.{Turning}
use Rattle.vl_generate.specs.declared.turning.Turning.TheVariants as c

-- ---- numbers of a genvar

pub record TakesNumber (k : Known) (e : t.Expr) (n : Option ℕ) (f : Option Found) : Type 0 where
  pub number : n ≡ option_map (assigned 32) (value_of k e)
  pub fault : option_map found f ≡ least (needs k e)

-- the number of a worth of 32 bits, whichever that is
abbrev pub IsNumber : Option Worth → Option ℕ → Type 0
IsNumber w o = (n : Option ℕ) → w ≡ option_map (worth 32 true) n → o ≡ n

abbrev pub IsNarrow : ℕ → ℕ → Option ℕ → Type 0
IsNarrow width value o = width ≡ 32 → o ≡ Some value

-- ---- turns

-- those from here on, where the genvar takes this number, or none with these faults
abbrev pub turns_left : Place → Around → t.Loop → ℕ → Option ℕ → List order.Found → d.Turns
turns_left p a l k o fs = elim o [ Some n ↦ turns_from p a l k n | None ↦ ended_by fs ]

-- what is in sight in the turn of a number
abbrev pub sight_in : Around → t.Loop → ℕ → Around
sight_in a l n = in_turn l.variable.text n a

-- the loop ends, and what is in sight stays
pub record Ends (ts : d.Turns) (was now : Frames) (f : Option Found) : Type 0 where
  pub numbers : ts.numbers ≡ []
  pub fault : option_map found f ≡ least ts.faults
  pub frames : Are now was.inner was.outer.items

-- the turn of a number is made and entered, and what the genvar takes behind it
pub record Makes (p : Place) (l : t.Loop) (k : ℕ) (ts : d.Turns) (was now : Frames) (n : ℕ) (next : Numbered) : Type 0 where
  pub some_left : 0 < k
  pub turns : ts ≡ one_more n (turns_left p (around was) l (k - 1) next.number (needs (sight_in (around was) l n).known l.step))
  pub told : option_map found next.fault ≡ least (needs (sight_in (around was) l n).known l.step)
  pub sight : around now ≡ sight_in (around was) l n
  pub outer : now.outer.items ≡ was.outer.items ++ was.inner ∷ []

abbrev pub IsNext : Place → t.Loop → ℕ → d.Turns → Frames → Frames → Turning → Type 0
IsNext p l k ts was now (c.End f) = Ends ts was now f
IsNext p l k ts was now (c.Turn n next) = Makes p l k ts was now n next

-- where the genvar takes what is said, with whichever faults that is
abbrev pub TurnsFrom : Place → t.Loop → ℕ → Numbered → Frames → Frames → Turning → Type 0
TurnsFrom p l k taken was now turning = (fs : List order.Found) → option_map found taken.fault ≡ least fs
    → IsNext p l k (turns_left p (around was) l k taken.number fs) was now turning

abbrev pub TurnsAt : Place → t.Loop → ℕ → ℕ → Frames → Frames → Turning → Type 0
TurnsAt p l k n was now = IsNext p l k (turns_from p (around was) l k n) was now

-- the turn of a number whose condition holds
abbrev pub turn_made : Place → Around → t.Loop → ℕ → ℕ → d.Turns
turn_made p a l zero n = ended_by (at p TooManyTurns ∷ [])
turn_made p a l (suc k) n = let b : Known = (sight_in a l n).known in
    one_more n (d.next_turn (turns_from p a l k) (needs b l.step) (value_of b l.step))

-- from within a turn that was entered, where the condition holds
abbrev pub TurnsWithin : Place → t.Loop → ℕ → ℕ → Frames → Frames → Turning → Type 0
TurnsWithin p l k n inside now turning = (was : Frames) → around inside ≡ sight_in (around was) l n
    → inside.outer.items ≡ was.outer.items ++ was.inner ∷ []
    → IsNext p l k (turn_made p (around was) l k n) was now turning
