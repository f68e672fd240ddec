-- A loop has a turn where its condition holds for the first number; scopes that were entered and left are as before.
use Rattle.std.proofs.Common.{◌≡◌, refl, sym, ap, ◌∙◌, ℕ, Bool, true, false, if◌then◌else◌, List, [], ◌∷◌, ◌++◌, append-nil}
use Rattle.std.specs.Prelude.{Option, Some, None}
use Rattle.vl_tree.specs.Syntax as t
use Rattle.vl_tree.specs.Syntax.{Place}
use Rattle.vl_value.specs.Meaning.{Meaning, assigned, true_of}
use Rattle.vl_value.specs.Order.{Found}
use Rattle.vl_design.specs.Limits.{limits}
use Rattle.vl_design.specs.Constants.{Worth, worth, Known, nothing_known, value_of, needs}
use Rattle.vl_design.specs.Parameters.{Given}
use Rattle.vl_design.specs.Generate.{Around, Turns, ended_by, one_more, next_turn, if_holds, turns_from, in_turn, has_one_genvar, label_declared, loop_declared}
use Rattle.vl_design.specs.Scopes.{declared_by}
use Rattle.vl_frames.specs.declared.frames.Frames.{Frames}
use Rattle.vl_frames.specs.Marks.{around, known_over, known_in, genvar_over, genvar_in}
use Rattle.vl_frames.specs.Changes.{Are, Leaves, declared}
use Rattle.vl_turns.specs.Turns.{genvar_worth, truth_in}
use Rattle.vl_declares.specs.declared.declared.Declared.{Declared}
use Rattle.vl_declares.specs.Plain.{all_plain}
use Rattle.vl_members.specs.Members.{DeclaresBy, holds_at, has_turn_in, loop_members}

-- ---- scopes that were entered and left

pub left_again : (was inside now : Frames) → inside.outer.items ≡ was.outer.items ++ was.inner ∷ [] → Leaves inside now
    → Are now was.inner was.outer.items
left_again was inside now e leaves = leaves was.outer.items was.inner e

pub same_around : (was now : Frames) → Are now was.inner was.outer.items → around now ≡ around was
same_around was now a = λ i. record {
  known = known_over (a.inmost i) (known_in nothing_known (a.others i));
  is_genvar = genvar_over (a.inmost i) (genvar_in (λ x. false) (a.others i));
}

-- ---- the first turn

by_truth : (y : Bool) (n : ℕ) (ts : Turns) (b : t.GenerateBlock)
    → loop_declared (if y then one_more n ts else ended_by []) b ≡ (if y then label_declared b else [])
by_truth true n ts b = refl
by_truth false n ts b = refl

held : (fs : List Found) (v : Option Meaning) (n : ℕ) (ts : Turns) (b : t.GenerateBlock)
    → loop_declared (if_holds fs v (one_more n ts)) b
    ≡ (if (elim v [ Some m ↦ true_of m | None ↦ false ]) then label_declared b else [])
held fs None n ts b = refl
held fs (Some m) n ts b = by_truth (true_of m) n ts b

first_turn : (go : ℕ → Turns) (h : Worth → Bool) (b : t.GenerateBlock) (fs : List Found) (v : Option Meaning)
    → ((n : ℕ) → loop_declared (go n) b ≡ (if h (worth 32 true n) then label_declared b else []))
    → loop_declared (next_turn go fs v) b
    ≡ (if (elim (genvar_worth v) [ Some w ↦ h w | None ↦ false ]) then label_declared b else [])
first_turn go h b fs None e = refl
first_turn go h b fs (Some m) e = e (assigned 32 m)

turn_here : (p : Place) (a : Around) (l : t.Loop) (b : t.GenerateBlock) (n : ℕ)
    → loop_declared (turns_from p a l limits.turns n) b ≡ (if holds_at a l (worth 32 true n) then label_declared b else [])
turn_here p a l b n = let k : Known = (in_turn l.variable.text n a).known in
    held (needs k l.condition) (value_of k l.condition) n (next_turn (turns_from p a l 4095) (needs k l.step) (value_of k l.step)) b

pub loop_declares : (gs : List Given) (p : Place) (a : Around) (l : t.Loop) (b : t.GenerateBlock)
    → loop_members a l b ≡ declared_by limits gs a (t.generate_loop p l b)
loop_declares gs p a l b = ap (λ ds. if has_one_genvar a l then ds else [])
    (sym (first_turn (turns_from p a l limits.turns) (holds_at a l) b (needs a.known l.first) (value_of a.known l.first) (turn_here p a l b)))

-- ---- as the program tells it

pub number_some : (a : Around) (l : t.Loop) (w : Worth) → Some w ≡ genvar_worth (value_of a.known l.first) → holds_at a l w ≡ has_turn_in a l
number_some a l w e = ap (λ o. elim o [ Some u ↦ holds_at a l u | None ↦ false ]) e

pub number_none : (a : Around) (l : t.Loop) → None ≡ genvar_worth (value_of a.known l.first) → false ≡ has_turn_in a l
number_none a l e = ap (λ o. elim o [ Some u ↦ holds_at a l u | None ↦ false ]) e

abbrev pub held_in : Option Bool → Bool
held_in o = elim o [ Some y ↦ y | None ↦ false ]

truth_told : (v : Option Meaning)
    → held_in (truth_in v) ≡ (elim v [ Some m ↦ true_of m | None ↦ false ])
truth_told None = refl
truth_told (Some m) = refl

pub holds_is : (a b : Around) (l : t.Loop) (o : Option Bool) (w : Worth) (y : Bool) → b ≡ declared l.variable.text w a
    → o ≡ truth_in (value_of b.known l.condition) → held_in o ≡ y → y ≡ holds_at a l w
holds_is a b l o w y e h is = sym is ∙ ap held_in h
    ∙ ap (λ (c : Around). held_in (truth_in (value_of c.known l.condition))) e
    ∙ truth_told (value_of (declared l.variable.text w a).known l.condition)

-- ---- what a loop declares

module _ (was now : Frames) (l : t.Loop) (b : t.GenerateBlock) (old new : List Declared) where
  pub no_genvar : has_one_genvar (around was) l ≡ false → DeclaresBy (loop_members (around was) l b) (around was) was was old old
  no_genvar e = record {
    added = sym (append-nil (all_plain old))
        ∙ ap (λ y. all_plain old ++ (if y then (if has_turn_in (around was) l then label_declared b else []) else [])) (sym e);
    sight = refl;
    outer = refl;
  }

  in_loop : (y : Bool) → has_one_genvar (around was) l ≡ true → y ≡ has_turn_in (around was) l
      → (if y then label_declared b else []) ≡ loop_members (around was) l b
  in_loop y e h = ap (λ z. if z then label_declared b else []) h
      ∙ ap (λ z. if z then (if has_turn_in (around was) l then label_declared b else []) else []) (sym e)

  pub has_label : has_one_genvar (around was) l ≡ true → true ≡ has_turn_in (around was) l → Are now was.inner was.outer.items
      → all_plain new ≡ all_plain old ++ label_declared b → DeclaresBy (loop_members (around was) l b) (around was) was now old new
  has_label e h a n = record {
    added = n ∙ ap (λ ds. all_plain old ++ ds) (in_loop true e h);
    sight = same_around was now a;
    outer = a.others;
  }

  pub no_turn : has_one_genvar (around was) l ≡ true → false ≡ has_turn_in (around was) l → Are now was.inner was.outer.items
      → DeclaresBy (loop_members (around was) l b) (around was) was now old old
  no_turn e h a = record {
    added = sym (append-nil (all_plain old)) ∙ ap (λ ds. all_plain old ++ ds) (in_loop false e h);
    sight = same_around was now a;
    outer = a.others;
  }
