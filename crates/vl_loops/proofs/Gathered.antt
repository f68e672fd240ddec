-- What is gathered from one part after another; and that the loops of items are those of a scope.
use Rattle.std.proofs.Common.{◌≡◌, List, [], ◌∷◌, ◌++◌, append-nil, append_assoc, refl, sym, ap, ◌∙◌}
use Rattle.std.specs.Prelude.{OnOk, Result, Ok, Err}
use Rattle.vl_tree.specs.Syntax.{Item, Items, no_item, more_item}
use Rattle.vl_tree.specs.Syntax as t
use Rattle.vl_design.specs.Lists.{each_of}
use Rattle.vl_design.specs.Scopes.{Scope}
use Rattle.vl_design.specs.LoopVariables.{looped_by, looped_in}
use Rattle.vl_loops.specs.Loops.{loops_by, loops_in, looped_by_loops}

-- what holds of an Ok
pub on_ok : {A E : Type 0} {P Q : Type 0} (r : Result A E) → (P → Q) → OnOk r P → OnOk r Q
on_ok (Ok a) f p = f p
on_ok (Err e) f p = p

-- nothing was added
pub none_added : {A : Type 0} (old some : List A) → some ≡ [] → old ≡ old ++ some
none_added old some e = sym (append-nil old) ∙ ap (λ y. old ++ y) (sym e)

-- some, and then others
pub both_added : {A : Type 0} (old mid new xs ys all : List A) → mid ≡ old ++ xs → new ≡ mid ++ ys → xs ++ ys ≡ all → new ≡ old ++ all
both_added old mid new xs ys all a b e =
    b ∙ ap (λ m. m ++ ys) a ∙ append_assoc old xs ys ∙ ap (λ y. old ++ y) e

-- so far, and what is left
pub on_added : {A : Type 0} (start old new some rest all : List A) → new ≡ old ++ some
    → old ++ (some ++ rest) ≡ start ++ all → new ++ rest ≡ start ++ all
on_added start old new some rest all e h = ap (λ l. l ++ rest) e ∙ append_assoc old some rest ∙ h

each_joined : {A B : Type 0} (f : A → List B) (xs ys : List A) → each_of f (xs ++ ys) ≡ each_of f xs ++ each_of f ys
each_joined f [] ys = refl
each_joined f (x ∷ xs) ys = ap (λ y. f x ++ y) (each_joined f xs ys) ∙ sym (append_assoc (f x) (each_of f xs) (each_of f ys))

mutual
  of_item : (s : Scope) (i : Item) → each_of (looped_by_loops s) (loops_by i) ≡ looped_by s i
  of_item s (t.always p e b) = append-nil _
  of_item s (t.initial p b) = append-nil _
  of_item s (t.function f) = append-nil _
  of_item s (t.region p is) = of_items s is
  of_item s (t.parameter p l g r vs) = refl
  of_item s (t.directed d xs) = refl
  of_item s (t.nets p g r ns) = refl
  of_item s (t.registers p g r vs) = refl
  of_item s (t.integer p vs) = refl
  of_item s (t.genvar p xs) = refl
  of_item s (t.continuous p ds) = refl
  of_item s (t.instances m ps is) = refl
  of_item s (t.generate_loop p l b) = refl
  of_item s (t.generate_if bs e) = refl

  pub of_items : (s : Scope) (is : Items) → each_of (looped_by_loops s) (loops_in is) ≡ looped_in s is
  of_items s no_item = refl
  of_items s (more_item i is) =
      each_joined (looped_by_loops s) (loops_by i) (loops_in is)
      ∙ (λ k. of_item s i k ++ of_items s is k)
