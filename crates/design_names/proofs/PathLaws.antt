-- The path of a scope, found from the scope upward.
use Rattle.std.proofs.Common.{◌≡◌, ℕ, suc, zero, ◌<◌, List, [], ◌∷◌, ◌++◌, length, reverse, get_or, refl, sym, ap, subst, ◌∙◌, arith, append_assoc}
use Rattle.std.specs.Prelude.{Option, Some, None}
use Rattle.std.specs.List.{All}
use Rattle.std.proofs.lemmas.List.{reverse-append, get_or_default}
use Rattle.std.proofs.lemmas.List.Elements.{All-push}
use Rattle.netlist.specs.Design.{Flat}
use Rattle.netlist.specs.declared.design.Scope.{Scope}
use Rattle.netlist.specs.Fits.{IsWellFormed, IsNoneOrBelow}
use Rattle.design_names.specs.Shown.{no_scope, scope_at}
use Rattle.design_names.specs.Path.{above, down_within, scopes_to}
use Rattle.design_names.proofs.WalkLaws.{parent_lower}

-- ---- enough steps are enough

above_same : (down also : ℕ → List ℕ) (o : Option ℕ) → ((p : ℕ) → o ≡ Some p → down p ≡ also p) → above down o ≡ above also o
above_same down also None h = refl
above_same down also (Some p) h = h p refl

down_same : (f : Flat) (n m k : ℕ) → IsWellFormed f → k < n → k < m → k < length f.scopes
    → down_within f n k ≡ down_within f m k
down_same f zero m k w h g t = absurd (omega arith)
down_same f (suc n) zero k w h g t = absurd (omega arith)
down_same f (suc n) (suc m) k w h g t =
    ap (λ (xs : List ℕ). xs ++ k ∷ [])
    (above_same (λ p. down_within f n p) (λ p. down_within f m p) (scope_at f k).parent (λ p e.
    let less : p < k = parent_lower f k p w t e in
    down_same f n m p w (omega arith) (omega arith) (omega arith)))

-- the scopes down to one, if there is one
abbrev pub down_to : Flat → Option ℕ → List ℕ
down_to f o = above (λ p. scopes_to f p) o

-- a scope and its parent
pub down_is : (f : Flat) (k : ℕ) → IsWellFormed f → k < length f.scopes
    → scopes_to f k ≡ down_to f (scope_at f k).parent ++ k ∷ []
down_is f k w t =
    ap (λ (xs : List ℕ). xs ++ k ∷ [])
    (above_same (λ p. down_within f k p) (λ p. scopes_to f p) (scope_at f k).parent (λ p e.
    let less : p < k = parent_lower f k p w t e in
    down_same f k (suc p) p w less (omega arith) (omega arith)))

below : (f : Flat) (k : ℕ) → IsWellFormed f → k < length f.scopes → IsNoneOrBelow (length f.scopes) (scope_at f k).parent
below f k w t = λ p e. let less : p < k = parent_lower f k p w t e in omega arith

-- ---- upward

-- the scopes that were passed upward, and those that are left
pub record Up (f : Flat) (scope : ℕ) (up : List ℕ) (next : Option ℕ) : Type 0 where
  pub there : IsNoneOrBelow (length f.scopes) next
  pub whole : down_to f next ++ reverse up ≡ scopes_to f scope

pub up_more : (f : Flat) (scope k : ℕ) (up now : List ℕ) → IsWellFormed f → now ≡ up ++ k ∷ [] → Up f scope up (Some k)
    → Up f scope now (scope_at f k).parent
up_more f scope k up now w pushed here = record {
  there = below f k w (here.there k refl);
  whole = ap (λ (xs : List ℕ). down_to f (scope_at f k).parent ++ reverse xs) pushed
      ∙ ap (λ (xs : List ℕ). down_to f (scope_at f k).parent ++ xs) (reverse-append up (k ∷ []))
      ∙ sym (append_assoc (down_to f (scope_at f k).parent) (k ∷ []) (reverse up))
      ∙ ap (λ (xs : List ℕ). xs ++ reverse up) (sym (down_is f k w (here.there k refl)))
      ∙ here.whole;
}

-- how many steps are left at most
abbrev pub steps_left : Option ℕ → ℕ
steps_left None = 0
steps_left (Some k) = suc k

pub fewer_steps : (f : Flat) (k : ℕ) (o : Option ℕ) → IsWellFormed f → k < length f.scopes → (scope_at f k).parent ≡ o
    → steps_left o < suc k
fewer_steps f k None w t e = omega arith
fewer_steps f k (Some p) w t e = let less : p < k = parent_lower f k p w t e in omega arith

-- ---- each scope of the path is there

all_above : (P : ℕ → Type 0) (down : ℕ → List ℕ) (o : Option ℕ) → ((p : ℕ) → o ≡ Some p → All P (down p)) → All P (above down o)
all_above P down None h = λ i d g. absurd (omega arith)
all_above P down (Some p) h = h p refl

pub all_down : (f : Flat) (n k : ℕ) → IsWellFormed f → k < length f.scopes → All (λ j. j < length f.scopes) (down_within f n k)
all_down f zero k w t = λ i d h. absurd (omega arith)
all_down f (suc n) k w t =
    All-push (λ j. j < length f.scopes) (above (λ p. down_within f n p) (scope_at f k).parent) k
    (all_above (λ j. j < length f.scopes) (λ p. down_within f n p) (scope_at f k).parent (λ p e.
    let less : p < k = parent_lower f k p w t e in all_down f n p w (omega arith))) t

-- the parent as it is read
pub up_read : (f : Flat) (scope k : ℕ) (up now : List ℕ) (next : Option ℕ) (scopes : List Scope) (x : Scope) → IsWellFormed f
    → next ≡ Some k → now ≡ up ++ k ∷ [] → scopes ≡ f.scopes → Up f scope up next → Up f scope now (get_or scopes k x).parent
up_read f scope k up now next scopes x w is pushed same here =
    let at : Up f scope up (Some k) = subst (Up f scope up) is here in
    let there : k < length f.scopes = at.there k refl in
    let read : get_or scopes k x ≡ scope_at f k =
    ap (λ (ss : List Scope). get_or ss k x) same ∙ get_or_default f.scopes k x no_scope there in
    subst (λ (s : Scope). Up f scope now s.parent) (sym read) (up_more f scope k up now w pushed at)

-- all scopes down to one are there
pub path_there : (f : Flat) (k : ℕ) (xs : List ℕ) → IsWellFormed f → k < length f.scopes → xs ≡ scopes_to f k
    → All (λ j. j < length f.scopes) xs
path_there f k xs w t same = subst (All (λ j. j < length f.scopes)) (sym same) (all_down f (suc k) k w t)

-- the first of them, and the others
pub first_there : (n x : ℕ) (xs ys : List ℕ) → xs ≡ x ∷ ys → All (λ j. j < n) xs → (x < n) × All (λ j. j < n) ys
first_there n x xs ys same all =
    let h : All (λ j. j < n) (x ∷ ys) = subst (All (λ j. j < n)) same all in
    (h 0 x (omega arith), λ i d g. h (suc i) d (omega arith))

-- at the end all scopes that were passed are there
pub up_end : (f : Flat) (scope : ℕ) (up xs : List ℕ) (next : Option ℕ) → IsWellFormed f → scope < length f.scopes
    → next ≡ None → xs ≡ reverse up → Up f scope up next → All (λ j. j < length f.scopes) xs
up_end f scope up xs next w t none same here =
    let at : Up f scope up None = subst (Up f scope up) none here in
    path_there f scope xs w t (same ∙ at.whole)
