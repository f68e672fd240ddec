-- The turn of a number: the loop ends where the condition doesn't hold, and else a turn is made, or is one of too many.
use Rattle.std.proofs.Common.{◌≡◌, refl, sym, ap, ◌∙◌, subst, ℕ, zero, suc, ◌-◌, ◌<◌, Bool, true, false, if◌then◌else◌, List, [], ◌∷◌, arith}
use Rattle.std.specs.Prelude.{Option, Some, None}
use Rattle.std.specs.Option.{option_map}
use Rattle.vl_tree.specs.Syntax as t
use Rattle.vl_tree.specs.Syntax.{Place}
use Rattle.vl_tree.specs.declared.fault.FaultKind.TheVariants.{TooManyTurns}
use Rattle.vl_value.specs.Meaning.{Meaning, assigned, true_of}
use Rattle.vl_value.specs.Order as order
use Rattle.vl_value.specs.Order.{at, least}
use Rattle.vl_found.specs.declared.Found.{Found}
use Rattle.vl_found.specs.View.{found}
use Rattle.vl_design.specs.Constants.{worth, Known, value_of, needs}
use Rattle.vl_design.specs.Generate as d
use Rattle.vl_design.specs.Generate.{Around, ended_by, one_more, if_holds, turns_from}
use Rattle.vl_frames.specs.declared.frames.Frames.{Frames}
use Rattle.vl_frames.specs.Marks.{around}
use Rattle.vl_frames.specs.Changes.{Leaves}
use Rattle.vl_constants.specs.Needed.{constants_of}
use Rattle.vl_turns.specs.Turns.{EntersTurn, HasTruth, genvar_worth, truth_in}
use Rattle.vl_members.proofs.Turning.{left_again}
use Rattle.vl_generate.specs.declared.turning.Numbered.{Numbered}
use Rattle.vl_generate.specs.declared.turning.Turning.{Turning}
use Rattle.vl_generate.specs.declared.turning.Turning.TheVariants as c
use Rattle.vl_generate.specs.Turning.{Ends, TakesNumber, IsNext, TurnsAt, TurnsWithin, sight_in, turn_made, turns_left}

-- ---- numbers

pub worth_is : (v : Option Meaning) → genvar_worth v ≡ option_map (worth 32 true) (option_map (assigned 32) v)
worth_is None = refl
worth_is (Some m) = refl

-- what a genvar takes from an expression is the first of the turns from there
pub next_is : (p : Place) (a : Around) (l : t.Loop) (k : ℕ) (fs : List order.Found) (v : Option Meaning)
    → d.next_turn (turns_from p a l k) fs v ≡ turns_left p a l k (option_map (assigned 32) v) fs
next_is p a l k fs None = refl
next_is p a l k fs (Some m) = refl

-- ---- by the condition

abbrev held_by : List order.Found → Option Bool → d.Turns → d.Turns
held_by fs None ts = ended_by fs
held_by fs (Some true) ts = ts
held_by fs (Some false) ts = ended_by []

by_bool : (y : Bool) (fs : List order.Found) (ts : d.Turns) → (if y then ts else ended_by []) ≡ held_by fs (Some y) ts
by_bool true fs ts = refl
by_bool false fs ts = refl

if_holds_is : (fs : List order.Found) (v : Option Meaning) (ts : d.Turns) → if_holds fs v ts ≡ held_by fs (truth_in v) ts
if_holds_is fs None ts = refl
if_holds_is fs (Some m) ts = by_bool (true_of m) fs ts

from_is : (p : Place) (a : Around) (l : t.Loop) (k n : ℕ) → let b : Known = (sight_in a l n).known in
    turns_from p a l k n ≡ if_holds (needs b l.condition) (value_of b l.condition) (turn_made p a l k n)
from_is p a l zero n = refl
from_is p a l (suc k) n = refl

module _ (p : Place) (l : t.Loop) (k n : ℕ) (was inside : Frames) (o : Option Bool) (f : Option Found)
    (e : EntersTurn l.variable.text (worth 32 true n) was inside) (h : HasTruth (constants_of inside) l.condition o f) where
  known_is : constants_of inside ≡ (sight_in (around was) l n).known
  known_is = ap (λ (a : Around). a.known) e.sight

  turns_are : (b : Option Bool) → o ≡ b
      → turns_from p (around was) l k n ≡ held_by (needs (sight_in (around was) l n).known l.condition) b (turn_made p (around was) l k n)
  turns_are b s = from_is p (around was) l k n
      ∙ if_holds_is (needs (sight_in (around was) l n).known l.condition) (value_of (sight_in (around was) l n).known l.condition) (turn_made p (around was) l k n)
      ∙ ap (λ q. held_by (needs (sight_in (around was) l n).known l.condition) q (turn_made p (around was) l k n))
      (ap (λ m. truth_in (value_of m l.condition)) (sym known_is) ∙ sym h.holds ∙ s)

  -- the condition holds
  pub holds_here : (now : Frames) (turning : Turning) → o ≡ Some true → TurnsWithin p l k n inside now turning
      → TurnsAt p l k n was now turning
  holds_here now turning s w = subst (λ ts. IsNext p l k ts was now turning) (sym (turns_are (Some true) s)) (w was e.sight e.outer)

  -- it doesn't
  pub ends_here : (now : Frames) → o ≡ Some false → Leaves inside now → Ends (turns_from p (around was) l k n) was now None
  ends_here now s v = record {
    numbers = ap (λ (ts : d.Turns). ts.numbers) (turns_are (Some false) s);
    fault = ap (λ (ts : d.Turns). least ts.faults) (sym (turns_are (Some false) s));
    frames = left_again was inside now e.outer v;
  }

  -- it is no constant
  pub fails_here : (now : Frames) → o ≡ None → Leaves inside now → Ends (turns_from p (around was) l k n) was now f
  fails_here now s v = record {
    numbers = ap (λ (ts : d.Turns). ts.numbers) (turns_are None s);
    fault = h.fault ∙ ap (λ m. least (needs m l.condition)) known_is ∙ ap (λ (ts : d.Turns). least ts.faults) (sym (turns_are None s));
    frames = left_again was inside now e.outer v;
  }

-- ---- within a turn

pub too_many_here : (p : Place) (l : t.Loop) (k n : ℕ) (inside now : Frames) (f : Found) → k ≡ 0 → Leaves inside now → found f ≡ at p TooManyTurns
    → TurnsWithin p l k n inside now (c.End (Some f))
too_many_here p l k n inside now f z v s was e o = subst (λ j. Ends (turn_made p (around was) l j n) was now (Some f)) (sym z)
    (record { numbers = refl; fault = ap (λ g. least (g ∷ [])) s; frames = left_again was inside now o v })

less_one : (k : ℕ) → 0 < k → k ≡ suc (k - 1)
less_one k h = omega (arith, h)

pub made_here : (p : Place) (l : t.Loop) (k n : ℕ) (inside : Frames) (next : Numbered) → 0 < k
    → TakesNumber (constants_of inside) l.step next.number next.fault → TurnsWithin p l k n inside inside (c.Turn n next)
made_here p l k n inside next some h was e o =
    let b : Known = (sight_in (around was) l n).known in
    let same : constants_of inside ≡ b = ap (λ (a : Around). a.known) e in
    record {
      some_left = some;
      turns = ap (λ j. turn_made p (around was) l j n) (less_one k some)
          ∙ ap (one_more n) (next_is p (around was) l (k - 1) (needs b l.step) (value_of b l.step)
          ∙ ap (λ m. turns_left p (around was) l (k - 1) m (needs b l.step)) (ap (λ m. option_map (assigned 32) (value_of m l.step)) (sym same) ∙ sym h.number));
      told = h.fault ∙ ap (λ m. least (needs m l.step)) same;
      sight = e;
      outer = o;
    }
