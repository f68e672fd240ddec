-- Scopes one after another.
use Rattle.std.proofs.Common.{◌≡◌, ℕ, ◌+◌, ◌<◌, List, [], ◌∷◌, ◌++◌, append-nil, append_assoc, length, drop, get_or, refl, sym, ap, ◌∙◌}
use Rattle.std.specs.Prelude.{Option, Result, Ok, Err, IfOk}
use Rattle.std.proofs.lemmas.List.{drop_more}
use Rattle.vl_value.specs.Order.{Found, lesser, least}
use Rattle.vl_value.proofs.OrderLaws.{least_joined}
use Rattle.vl_design.specs.Lists.{each_of}
use Rattle.vl_design.specs.Scopes.{Scope}
use Rattle.vl_scopes.specs.Plain.{plain_scope, scopes_after}
use Rattle.vl_scopes.specs.declared.scope.Scope as code

-- what is left, one further
pub scopes-drop : (before : List Scope) (all : List code.Scope) (k : ℕ) (s : code.Scope) → k < length all → s ≡ get_or all k s
    → scopes_after before (drop k all) ≡ scopes_after (before ++ plain_scope before s ∷ []) (drop (k + 1) all)
scopes-drop before all k s below is = ap (scopes_after before) (drop_more all k s below ∙ ap (λ y. y ∷ drop (k + 1) all) (sym is))

pub each_joined : {A B : Type 0} (f : A → List B) (xs ys : List A) → each_of f (xs ++ ys) ≡ each_of f xs ++ each_of f ys
each_joined f [] ys = refl
each_joined f (x ∷ xs) ys = ap (λ y. f x ++ y) (each_joined f xs ys) ∙ sym (append_assoc (f x) (each_of f xs) (each_of f ys))

-- those of one more behind
pub each_more : {A B : Type 0} (f : A → List B) (xs : List A) (x : A) → each_of f (xs ++ x ∷ []) ≡ each_of f xs ++ f x
each_more f xs x = each_joined f xs (x ∷ []) ∙ ap (λ y. each_of f xs ++ y) (append-nil (f x))

-- the least fault with one scope more
pub least_more : (f : Scope → List Found) (before : List Scope) (s : Scope) (old one new : Option Found)
    → old ≡ least (each_of f before) → one ≡ least (f s) → new ≡ lesser old one → new ≡ least (each_of f (before ++ s ∷ []))
least_more f before s old one new was here e =
    e ∙ (λ i. lesser (was i) (here i)) ∙ sym (least_joined (each_of f before) (f s)) ∙ ap least (sym (each_more f before s))

-- what holds of an Ok
pub if_ok : {A E : Type 0} {P Q : A → Type 0} (r : Result A E) → ((a : A) → P a → Q a) → IfOk r P → IfOk r Q
if_ok (Ok a) f p = f a p
if_ok (Err e) f p = p
