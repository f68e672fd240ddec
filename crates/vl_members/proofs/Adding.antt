-- One item's declarations before those of the rest; what is around behind a region and behind an `if`.
use Rattle.std.proofs.Common.{◌≡◌, refl, sym, ap, ◌∙◌, subst, Bool, true, false, ◌&&◌, ◌||◌, not, if◌then◌else◌, List, [], ◌++◌, append-nil, append_assoc}
use Rattle.std.specs.Prelude.{OnOk, Result, Ok, Err, Option}
use Rattle.vl_tree.specs.Syntax as t
use Rattle.vl_tree.specs.Syntax.{Place}
use Rattle.vl_design.specs.Limits.{limits}
use Rattle.vl_design.specs.Declarations.{has_name, have_name, parameter_names, known_after, all_known_after, plain_declared}
use Rattle.vl_design.specs.Parameters.{Given}
use Rattle.vl_design.specs.Generate.{Around, behind, is_if}
use Rattle.vl_design.specs.Scopes.{declared, declared_by, block_declared}
use Rattle.vl_found.specs.declared.Found.{Found}
use Rattle.vl_frames.specs.declared.frames.Frames.{Frames}
use Rattle.vl_frames.specs.Marks.{around}
use Rattle.vl_declares.specs.declared.declared.Declared.{Declared}
use Rattle.vl_declares.specs.Plain.{all_plain}
use Rattle.vl_declares.specs.Items.{DeclaresItem, holds_none}
use Rattle.vl_members.specs.Members.{DeclaresBy, all_behind, loop_members}
use Rattle.vl_members.proofs.Turning.{loop_declares}

-- ---- what is around behind a region: what is behind its items one after another

not_either : (a b g : Bool) → (not b && (not a && g)) ≡ (not (a || b) && g)
not_either true true g = refl
not_either true false g = refl
not_either false true g = refl
not_either false false g = refl

abbrev behind_all : List Given → Around → t.Items → Around
behind_all gs a is = record {
  known = all_known_after gs a.known is;
  is_genvar = λ x. not (have_name parameter_names is x) && a.is_genvar x;
}

all_behind_is : (gs : List Given) (a : Around) (is : t.Items) → all_behind gs a is ≡ behind_all gs a is
all_behind_is gs a t.no_item = refl
all_behind_is gs a (t.more_item i is) = all_behind_is gs (behind gs a i) is
    ∙ (λ j. record {
      known = all_known_after gs (known_after gs a.known i) is;
      is_genvar = λ x. not_either (has_name parameter_names i x) (have_name parameter_names is x) (a.is_genvar x) j;
    })

pub region_behind : (gs : List Given) (a : Around) (p : Place) (is : t.Items) → all_behind gs a is ≡ behind gs a (t.region p is)
region_behind gs a p is = all_behind_is gs a is

-- ---- one item before the rest

-- what was declared, what is around and which scopes there are, with what is left, since the start
pub record Since (gs : List Given) (start now : Frames) (first here : List Declared) (all left : t.Items) : Type 0 where
  pub added : all_plain here ++ declared limits gs (around now) left ≡ all_plain first ++ declared limits gs (around start) all
  pub sight : all_behind gs (around now) left ≡ all_behind gs (around start) all
  pub outer : now.outer.items ≡ start.outer.items

pub since_start : (gs : List Given) (f : Frames) (ds : List Declared) (is : t.Items) → Since gs f f ds ds is is
since_start gs f ds is = record { added = refl; sight = refl; outer = refl }

pub since_on : (gs : List Given) (start was now : Frames) (first old new : List Declared) (all : t.Items) (i : t.Item) (rest left : t.Items)
    → left ≡ t.more_item i rest
    → DeclaresBy (declared_by limits gs (around was) i) (behind gs (around was) i) was now old new
    → Since gs start was first old all left → Since gs start now first new all rest
since_on gs start was now first old new all i rest left e h s =
    let a = around was in
    record {
      added = (λ j. h.added j ++ declared limits gs (h.sight j) rest)
          ∙ append_assoc (all_plain old) (declared_by limits gs a i) (declared limits gs (behind gs a i) rest)
          ∙ ap (λ is. all_plain old ++ declared limits gs a is) (sym e) ∙ s.added;
      sight = ap (λ b. all_behind gs b rest) h.sight ∙ ap (all_behind gs a) (sym e) ∙ s.sight;
      outer = h.outer ∙ s.outer;
    }

pub since_end : (gs : List Given) (start now : Frames) (first here : List Declared) (all left : t.Items) → left ≡ t.no_item
    → Since gs start now first here all left
    → DeclaresBy (declared limits gs (around start) all) (all_behind gs (around start) all) start now first here
since_end gs start now first here all left e s = record {
  added = sym (append-nil (all_plain here)) ∙ ap (λ is. all_plain here ++ declared limits gs (around now) is) (sym e) ∙ s.added;
  sight = ap (all_behind gs (around now)) (sym e) ∙ s.sight;
  outer = s.outer;
}

-- ---- an item that holds no others

plain_is : (gs : List Given) (a : Around) (i : t.Item) → holds_none i ≡ true → declared_by limits gs a i ≡ plain_declared gs a.known i
plain_is gs a (t.region p is) e = absurd cc
plain_is gs a (t.generate_loop p l b) e = absurd cc
plain_is gs a (t.generate_if bs o) e = absurd cc
plain_is gs a (t.parameter p l s r vs) e = refl
plain_is gs a (t.directed g xs) e = refl
plain_is gs a (t.nets p s r ns) e = refl
plain_is gs a (t.registers p s r vs) e = refl
plain_is gs a (t.integer p vs) e = refl
plain_is gs a (t.genvar p xs) e = refl
plain_is gs a (t.continuous p ds) e = refl
plain_is gs a (t.always p v b) e = refl
plain_is gs a (t.initial p b) e = refl
plain_is gs a (t.function f) e = refl
plain_is gs a (t.instances m ps is) e = refl

pub declares_plain : (gs : List Given) (i : t.Item) (was now : Frames) (old new : List Declared) (f : Option Found) → holds_none i ≡ true
    → DeclaresItem gs i was now old new f
    → DeclaresBy (declared_by limits gs (around was) i) (behind gs (around was) i) was now old new
declares_plain gs i was now old new f e h = record {
  added = h.added ∙ ap (λ ds. all_plain old ++ ds) (sym (plain_is gs (around was) i e));
  sight = h.sight e;
  outer = h.outer;
}

-- ---- an `if`

pub nothing_declared : (f : Frames) (ds : List Declared) → DeclaresBy [] (around f) f f ds ds
nothing_declared f ds = record { added = sym (append-nil (all_plain ds)); sight = refl; outer = refl }

if_behind : (gs : List Given) (a : Around) (i : t.Item) → is_if i ≡ true → behind gs a i ≡ a
if_behind gs a (t.generate_if bs o) e = refl
if_behind gs a (t.region p is) e = absurd cc
if_behind gs a (t.generate_loop p l b) e = absurd cc
if_behind gs a (t.parameter p l s r vs) e = absurd cc
if_behind gs a (t.directed g xs) e = absurd cc
if_behind gs a (t.nets p s r ns) e = absurd cc
if_behind gs a (t.registers p s r vs) e = absurd cc
if_behind gs a (t.integer p vs) e = absurd cc
if_behind gs a (t.genvar p xs) e = absurd cc
if_behind gs a (t.continuous p ds) e = absurd cc
if_behind gs a (t.always p v b) e = absurd cc
if_behind gs a (t.initial p b) e = absurd cc
if_behind gs a (t.function f) e = absurd cc
if_behind gs a (t.instances m ps is) e = absurd cc

-- a branch that is an `if` itself
pub inner_if : (gs : List Given) (i : t.Item) (was now : Frames) (old new : List Declared) → is_if i ≡ true
    → DeclaresBy (declared_by limits gs (around was) i) (behind gs (around was) i) was now old new
    → DeclaresBy (block_declared limits gs (around was) (t.single i)) (around was) was now old new
inner_if gs i was now old new e h = record {
  added = h.added ∙ ap (λ y. all_plain old ++ (if y then declared_by limits gs (around was) i else [])) (sym e);
  sight = h.sight ∙ if_behind gs (around was) i e;
  outer = h.outer;
}

-- another item without `begin`, which makes a scope without a label
pub inner_other : (gs : List Given) (i : t.Item) (f : Frames) (ds : List Declared) → is_if i ≡ false
    → DeclaresBy (block_declared limits gs (around f) (t.single i)) (around f) f f ds ds
inner_other gs i f ds e = record {
  added = sym (append-nil (all_plain ds)) ∙ ap (λ y. all_plain ds ++ (if y then declared_by limits gs (around f) i else [])) (sym e);
  sight = refl;
  outer = refl;
}

-- ---- a region and a loop

pub on_ok : {A E : Type 0} {P Q : Type 0} (r : Result A E) → (P → Q) → OnOk r P → OnOk r Q
on_ok (Ok a) f p = f p
on_ok (Err e) f p = tt

pub declares_same : (i j : t.Item) (gs : List Given) (was now : Frames) (old new : List Declared) → i ≡ j
    → DeclaresBy (declared_by limits gs (around was) j) (behind gs (around was) j) was now old new
    → DeclaresBy (declared_by limits gs (around was) i) (behind gs (around was) i) was now old new
declares_same i j gs was now old new e h =
    subst (λ x. DeclaresBy (declared_by limits gs (around was) x) (behind gs (around was) x) was now old new) (sym e) h

pub region_declares : (gs : List Given) (p : Place) (is : t.Items) (was now : Frames) (old new : List Declared)
    → DeclaresBy (declared limits gs (around was) is) (all_behind gs (around was) is) was now old new
    → DeclaresBy (declared_by limits gs (around was) (t.region p is)) (behind gs (around was) (t.region p is)) was now old new
region_declares gs p is was now old new h = record {
  added = h.added;
  sight = h.sight ∙ region_behind gs (around was) p is;
  outer = h.outer;
}

pub loop_adds : (gs : List Given) (p : Place) (l : t.Loop) (b : t.GenerateBlock) (was now : Frames) (old new : List Declared)
    → DeclaresBy (loop_members (around was) l b) (around was) was now old new
    → DeclaresBy (declared_by limits gs (around was) (t.generate_loop p l b)) (behind gs (around was) (t.generate_loop p l b)) was now old new
loop_adds gs p l b was now old new h = record {
  added = h.added ∙ ap (λ ds. all_plain old ++ ds) (loop_declares gs p (around was) l b);
  sight = h.sight;
  outer = h.outer;
}
