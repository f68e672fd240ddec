-- What a task lists is its first entry and what the tasks behind it list.
use Rattle.std.proofs.Common.{◌≡◌, ℕ, suc, zero, ◌+◌, ◌<◌, ◌≤◌, List, [], ◌∷◌, ◌++◌, length, drop, map, get_or, refl, sym, ap, subst, ◌∙◌, arith, append_assoc, append-nil, length-append}
use Rattle.std.specs.Prelude.{Option, Some, None}
use Rattle.std.specs.List.{All}
use Rattle.std.proofs.lemmas.List.{get_or-map, length-map}
use Rattle.netlist.specs.Design.{Flat}
use Rattle.netlist.specs.Fits.{IsWellFormed, StandsRight, IsNoneOrBelow}
use Rattle.netlist.specs.declared.design.Scope as declared
use Rattle.netlist.specs.declared.design.Signal.{Signal}
use Rattle.design_names.specs.Tree.{children_from, branch_at, signals_from, signals_in}
use Rattle.design_names.specs.Shown.{no_scope, no_signal, scope_at, signal_at}
use Rattle.design_names.specs.Outline.{outline, outlines, flat_outline}
use Rattle.design_names.specs.Links.{first_from, first_beside, first_in, IsLinked}
use Rattle.design_names.specs.Walk.{branches_beside, signals_beside, todo, todo_all, entry_of, scopes_task, signals_task, tasks_after, TaskFits, HasPlace}
use Rattle.design_names.specs.declared.links.Links.{Links}
use Rattle.design_names.specs.declared.outline.Entry.{Entry}
use Rattle.design_names.specs.declared.outline.Entry.TheVariants as entry
use Rattle.design_names.specs.declared.walk.Task.{Task}
use Rattle.design_names.specs.declared.walk.Task.TheVariants as task
use Rattle.design_names.proofs.LinkLaws.{IsFirst, is_first, first_after_none}
use Rattle.design_names.proofs.TreeLaws.{parents, owners, children_end, children_begin, signals_end, signals_begin}

-- ---- stacks of tasks

-- each task fits
abbrev pub AllFit : Flat → List Task → Type 0
AllFit f [] = Unit {0}
AllFit f (t ∷ ts) = TaskFits f t × AllFit f ts

pub fit_append : (f : Flat) (as' bs : List Task) → AllFit f as' → AllFit f bs → AllFit f (as' ++ bs)
fit_append f [] bs a b = b
fit_append f (t ∷ ts) bs a b = (a.0, fit_append f ts bs a.1 b)

pub fit_front : (f : Flat) (as' : List Task) (t : Task) → AllFit f (as' ++ t ∷ []) → AllFit f as' × TaskFits f t
fit_front f [] t h = (tt, h.0)
fit_front f (x ∷ xs) t h = let p = fit_front f xs t h.1 in ((h.0, p.0), p.1)

pub fit_last : (f : Flat) (tasks front : List Task) (t : Task) → tasks ≡ front ++ t ∷ [] → AllFit f tasks → TaskFits f t
fit_last f tasks front t popped h = (fit_front f front t (subst (AllFit f) popped h)).1

pub todo_append : (f : Flat) (as' bs : List Task) → todo_all f (as' ++ bs) ≡ todo_all f bs ++ todo_all f as'
todo_append f [] bs = sym (append-nil (todo_all f bs))
todo_append f (t ∷ ts) bs =
    ap (λ (xs : List Entry). xs ++ todo f t) (todo_append f ts bs) ∙ append_assoc (todo_all f bs) (todo_all f ts) (todo f t)

-- ---- links of a design

pub record AreBothLinked (f : Flat) (scopes signals : Links) : Type 0 where
  pub scopes_are : IsLinked (parents f.scopes) (length f.scopes) scopes
  pub signals_are : IsLinked (owners f.signals) (length f.scopes) signals

-- the parent, and the scope, of what is there
pub parent_is : (f : Flat) (k : ℕ) (z : Option ℕ) → k < length f.scopes → get_or (parents f.scopes) k z ≡ (scope_at f k).parent
parent_is f k z h =
    get_or-map (λ (s : declared.Scope). s.parent) f.scopes k no_scope z h

-- scopes from j on that stand in p
scopes_listed : (f : Flat) (p j : ℕ) (o : Option ℕ) → o ≡ first_from (parents f.scopes) p j
    → todo_all f (scopes_task o) ≡ outlines f (children_from f.scopes p j)
scopes_listed f p j None e = sym (ap (outlines f) (children_end f.scopes p j (sym e)))
scopes_listed f p j (Some i) e =
    let first : IsFirst (parents f.scopes) p j i = is_first (parents f.scopes) p j i (sym e) in
    let there : i < length f.scopes = omega (arith, first.there, length-map f.scopes (λ (s : declared.Scope). s.parent)) in
    let parent : (scope_at f i).parent ≡ Some p = sym (parent_is f i None there) ∙ first.owner None in
    ap (λ (x : Option ℕ). outline f (branch_at f.scopes i) ++ outlines f (branches_beside f (i + 1) x)) parent
    ∙ sym (ap (outlines f) (children_begin f.scopes p j i (sym e)))

scopes_fit : (f : Flat) (p j : ℕ) (o : Option ℕ) → o ≡ first_from (parents f.scopes) p j → AllFit f (scopes_task o)
scopes_fit f p j None e = tt
scopes_fit f p j (Some i) e =
    let first : IsFirst (parents f.scopes) p j i = is_first (parents f.scopes) p j i (sym e) in
    let there : i < length f.scopes = omega (arith, first.there, length-map f.scopes (λ (s : declared.Scope). s.parent)) in
    (there, tt)

-- signals from j on that stand in p
owner_is : (f : Flat) (k : ℕ) (z : Option ℕ) → k < length f.signals → get_or (owners f.signals) k z ≡ (signal_at f k).scope
owner_is f k z h =
    get_or-map (λ (s : Signal). s.scope) f.signals k no_signal z h

signals_listed : (f : Flat) (p j : ℕ) (o : Option ℕ) → o ≡ first_from (owners f.signals) p j
    → todo_all f (signals_task o) ≡ map entry.Signal (signals_from p j (drop j f.signals))
signals_listed f p j None e = sym (ap (λ (xs : List ℕ). map entry.Signal xs) (signals_end f.signals p j (sym e)))
signals_listed f p j (Some i) e =
    let first : IsFirst (owners f.signals) p j i = is_first (owners f.signals) p j i (sym e) in
    let there : i < length f.signals = omega (arith, first.there, length-map f.signals (λ (s : Signal). s.scope)) in
    let owner : (signal_at f i).scope ≡ Some p = sym (owner_is f i None there) ∙ first.owner None in
    ap (λ (x : Option ℕ). map entry.Signal (i ∷ signals_beside f (i + 1) x)) owner
    ∙ sym (ap (λ (xs : List ℕ). map entry.Signal xs) (signals_begin f.signals p j i (sym e)))

signals_fit : (f : Flat) (p j : ℕ) (o : Option ℕ) → o ≡ first_from (owners f.signals) p j → AllFit f (signals_task o)
signals_fit f p j None e = tt
signals_fit f p j (Some i) e =
    let first : IsFirst (owners f.signals) p j i = is_first (owners f.signals) p j i (sym e) in
    let there : i < length f.signals = omega (arith, first.there, length-map f.signals (λ (s : Signal). s.scope)) in
    (there, tt)

-- ---- beside a scope, and beside a signal

scopes_beside : (f : Flat) (j : ℕ) (o p : Option ℕ) → o ≡ first_beside (parents f.scopes) j p
    → (todo_all f (scopes_task o) ≡ outlines f (branches_beside f j p)) × AllFit f (scopes_task o)
scopes_beside f j o None e =
    (ap (λ (x : Option ℕ). todo_all f (scopes_task x)) e, subst (λ (x : Option ℕ). AllFit f (scopes_task x)) (sym e) tt)
scopes_beside f j o (Some p) e = (scopes_listed f p j o e, scopes_fit f p j o e)

more_signals : (f : Flat) (j : ℕ) (o p : Option ℕ) → o ≡ first_beside (owners f.signals) j p
    → (todo_all f (signals_task o) ≡ map entry.Signal (signals_beside f j p)) × AllFit f (signals_task o)
more_signals f j o None e =
    (ap (λ (x : Option ℕ). todo_all f (signals_task x)) e, subst (λ (x : Option ℕ). AllFit f (signals_task x)) (sym e) tt)
more_signals f j o (Some p) e = (signals_listed f p j o e, signals_fit f p j o e)

-- ---- a scope stands in a lower one

lower : (k p : ℕ) (o : Option ℕ) → StandsRight k o → o ≡ Some p → p < k
lower zero p o right e = let none : None ≡ Some p = sym right ∙ e in absurd cc
lower (suc k) p None right e = absurd cc
lower (suc k) p (Some q) right e = let same : q ≡ p = cc in omega (arith, same, right)

pub parent_lower : (f : Flat) (k p : ℕ) → IsWellFormed f → k < length f.scopes → (scope_at f k).parent ≡ Some p → p < k
parent_lower f k p w h e = lower k p (scope_at f k).parent (w.scopes k no_scope h) e

-- parents, and the scopes of signals, are there
pub parents_low : (f : Flat) (os : List (Option ℕ)) (n : ℕ) → IsWellFormed f → os ≡ parents f.scopes → n ≡ length f.scopes
    → All (IsNoneOrBelow n) os
parents_low f os n w same size = λ k d h x e.
    let long : k < length (parents f.scopes) = omega (arith, h, ap (λ (ps : List (Option ℕ)). length ps) same) in
    let there : k < length f.scopes = omega (arith, long, length-map f.scopes (λ (s : declared.Scope). s.parent)) in
    let read : get_or os k d ≡ get_or (parents f.scopes) k d = ap (λ (ps : List (Option ℕ)). get_or ps k d) same in
    let less : x < k = parent_lower f k x w there (sym (parent_is f k d there) ∙ sym read ∙ e) in
    omega (arith, less, there, size)

pub owners_low : (f : Flat) (os : List (Option ℕ)) (n : ℕ) → IsWellFormed f → os ≡ owners f.signals → n ≡ length f.scopes
    → All (IsNoneOrBelow n) os
owners_low f os n w same size = λ k d h x e.
    let long : k < length (owners f.signals) = omega (arith, h, ap (λ (ps : List (Option ℕ)). length ps) same) in
    let there : k < length f.signals = omega (arith, long, length-map f.signals (λ (s : Signal). s.scope)) in
    let read : get_or os k d ≡ get_or (owners f.signals) k d = ap (λ (ps : List (Option ℕ)). get_or ps k d) same in
    let fits = w.signals.each k no_signal there in
    let less : x < length f.scopes = fits.0 x (sym (owner_is f k d there) ∙ sym read ∙ e) in
    omega (arith, less, size)

-- so the first scope in k comes after it
none_lower : (f : Flat) (k : ℕ) → IsWellFormed f → first_from (parents f.scopes) k 0 ≡ first_from (parents f.scopes) k (k + 1)
none_lower f k w =
    let start : 0 + (k + 1) ≡ k + 1 = omega arith in
    first_after_none (k + 1) k 0 (parents f.scopes) (λ i h g e.
    let there : i < length f.scopes = omega (arith, g, length-map f.scopes (λ (s : declared.Scope). s.parent)) in
    let less : k < i = parent_lower f i k w there (sym (parent_is f i None there) ∙ e) in
    absurd (omega arith))
    ∙ ap (λ (n : ℕ). first_in k n (drop (k + 1) (parents f.scopes))) start

-- ---- one step

pub record Steps (f : Flat) (scopes signals : Links) (t : Task) : Type 0 where
  pub is : todo f t ≡ entry_of t ∷ todo_all f (tasks_after scopes signals t)
  pub fit : AllFit f (tasks_after scopes signals t)

joined : (m o e b x y z : List Entry) → x ≡ m → y ≡ o → z ≡ b → (m ++ (o ++ e)) ++ b ≡ ((x ++ y) ++ e) ++ z
joined m o e b x y z p q r =
    let h : ((m ++ o) ++ e) ++ b ≡ ((x ++ y) ++ e) ++ z = cc in
    ap (λ (xs : List Entry). xs ++ b) (sym (append_assoc m o e)) ∙ h

pub step : (f : Flat) (scopes signals : Links) (t : Task) → IsWellFormed f → AreBothLinked f scopes signals → TaskFits f t
    → Steps f scopes signals t
step f scopes signals (task.Scopes k) w l h =
    let next : Option ℕ = get_or scopes.next.items k None in
    let first : Option ℕ = get_or scopes.first.items k None in
    let inner : Option ℕ = get_or signals.first.items k None in
    let long : k < length (parents f.scopes) = omega (arith, h, length-map f.scopes (λ (s : declared.Scope). s.parent)) in
    let zero_low : 0 ≤ k = omega arith in
    let beside = scopes_beside f (k + 1) next (scope_at f k).parent
    (l.scopes_are.goes_on k None zero_low long ∙ ap (first_beside (parents f.scopes) (k + 1)) (parent_is f k None h)) in
    let below : first ≡ first_from (parents f.scopes) k (k + 1) = l.scopes_are.begins k None h ∙ none_lower f k w in
    let own : inner ≡ first_from (owners f.signals) k 0 = l.signals_are.begins k None h in
    let tail : List Task = scopes_task first ++ signals_task inner in
    let split : todo_all f tail ≡ todo_all f (signals_task inner) ++ todo_all f (scopes_task first) =
    todo_append f (scopes_task first) (signals_task inner) in
    record {
      is = ap (λ (xs : List Entry). entry.Scope k ∷ xs)
          (joined (map entry.Signal (signals_in f k)) (outlines f (children_from f.scopes k (k + 1))) (entry.End ∷ [])
          (outlines f (branches_beside f (k + 1) (scope_at f k).parent))
          (todo_all f (signals_task inner)) (todo_all f (scopes_task first)) (todo_all f (scopes_task next))
          (signals_listed f k 0 inner own) (scopes_listed f k (k + 1) first below) beside.0
          ∙ ap (λ (xs : List Entry). (xs ++ entry.End ∷ []) ++ todo_all f (scopes_task next)) (sym split)
          ∙ sym (todo_append f (scopes_task next) (task.End ∷ tail)));
      fit = fit_append f (scopes_task next) (task.End ∷ tail) beside.1 (
        tt,
        fit_append f (scopes_task first) (signals_task inner) (scopes_fit f k (k + 1) first below)
            (signals_fit f k 0 inner own),
      );
    }
step f scopes signals (task.Signals k) w l h =
    let next : Option ℕ = get_or signals.next.items k None in
    let long : k < length (owners f.signals) = omega (arith, h, length-map f.signals (λ (s : Signal). s.scope)) in
    let zero_low : 0 ≤ k = omega arith in
    let beside = more_signals f (k + 1) next (signal_at f k).scope
    (l.signals_are.goes_on k None zero_low long ∙ ap (first_beside (owners f.signals) (k + 1)) (owner_is f k None h)) in
    record { is = ap (λ (xs : List Entry). entry.Signal k ∷ xs) (sym beside.0); fit = beside.1 }
step f scopes signals task.End w l h = record { is = refl; fit = tt }

pub has_place : (f : Flat) (scopes signals : Links) (t : Task) → AreBothLinked f scopes signals → TaskFits f t
    → HasPlace scopes signals t
has_place f scopes signals (task.Scopes k) l h =
    let size = length-map f.scopes (λ (s : declared.Scope). s.parent) in
    (omega (arith, h, l.scopes_are.nexts, size), omega (arith, h, l.scopes_are.firsts), omega (arith, h, l.signals_are.firsts))
has_place f scopes signals (task.Signals k) l h =
    omega (arith, h, l.signals_are.nexts, length-map f.signals (λ (s : Signal). s.scope))
has_place f scopes signals task.End l h = tt

-- ---- all steps

-- what was listed, and what is left
pub record Left (f : Flat) (entries : List Entry) (tasks : List Task) : Type 0 where
  pub fit : AllFit f tasks
  pub whole : entries ++ todo_all f tasks ≡ flat_outline f

top_parent : (f : Flat) → IsWellFormed f → (scope_at f 0).parent ≡ None
top_parent f w = w.scopes 0 no_scope w.top

pub left_first : (f : Flat) (entries : List Entry) (tasks : List Task) → IsWellFormed f → entries ≡ []
    → tasks ≡ task.Scopes 0 ∷ [] → Left f entries tasks
left_first f entries tasks w none one = record {
  fit = subst (AllFit f) (sym one) (w.top, tt);
  whole = ap (λ (xs : List Entry). xs ++ todo_all f tasks) none ∙ ap (todo_all f) one
      ∙ ap (λ (p : Option ℕ). flat_outline f ++ outlines f (branches_beside f 1 p)) (top_parent f w)
      ∙ append-nil (flat_outline f);
}

pub left_more : (f : Flat) (scopes signals : Links) (entries now : List Entry) (tasks front left : List Task) (t : Task)
    → IsWellFormed f → AreBothLinked f scopes signals → tasks ≡ front ++ t ∷ [] → now ≡ entries ++ entry_of t ∷ []
    → left ≡ front ++ tasks_after scopes signals t → Left f entries tasks → Left f now left
left_more f scopes signals entries now tasks front left t w l popped pushed behind here =
    let fit = fit_front f front t (subst (AllFit f) popped here.fit) in
    let s = step f scopes signals t w l fit.1 in
    let after : List Task = tasks_after scopes signals t in
    record {
      fit = subst (AllFit f) (sym behind) (fit_append f front after fit.0 s.fit);
      whole = ap (λ (xs : List Entry). xs ++ todo_all f left) pushed
          ∙ append_assoc entries (entry_of t ∷ []) (todo_all f left)
          ∙ ap (λ (xs : List Task). entries ++ (entry_of t ∷ todo_all f xs)) behind
          ∙ ap (λ (xs : List Entry). entries ++ (entry_of t ∷ xs)) (todo_append f front after)
          ∙ ap (λ (xs : List Entry). entries ++ (xs ++ todo_all f front)) (sym s.is)
          ∙ ap (λ (xs : List Entry). entries ++ xs) (sym (todo_append f front (t ∷ [])))
          ∙ ap (λ (xs : List Task). entries ++ todo_all f xs) (sym popped)
          ∙ here.whole;
    }

pub fewer_left : (f : Flat) (scopes signals : Links) (tasks front left : List Task) (t : Task)
    → IsWellFormed f → AreBothLinked f scopes signals → tasks ≡ front ++ t ∷ []
    → left ≡ front ++ tasks_after scopes signals t → AllFit f tasks
    → length (todo_all f left) < length (todo_all f tasks)
fewer_left f scopes signals tasks front left t w l popped behind fits =
    let fit = fit_front f front t (subst (AllFit f) popped fits) in
    let s = step f scopes signals t w l fit.1 in
    let after : List Task = tasks_after scopes signals t in
    let a : length (todo_all f left) ≡ length (todo_all f after) + length (todo_all f front) =
    ap (λ (xs : List Task). length (todo_all f xs)) behind ∙ ap length (todo_append f front after)
    ∙ length-append (todo_all f after) (todo_all f front) in
    let b : length (todo_all f tasks) ≡ length (todo f t) + length (todo_all f front) =
    ap (λ (xs : List Task). length (todo_all f xs)) popped ∙ ap length (todo_append f front (t ∷ []))
    ∙ length-append (todo f t) (todo_all f front) in
    let c : length (todo f t) ≡ suc (length (todo_all f after)) = ap length s.is in
    omega arith

pub left_none : (f : Flat) (entries : List Entry) (tasks : List Task) → tasks ≡ [] → Left f entries tasks
    → entries ≡ flat_outline f
left_none f entries tasks none here =
    sym (append-nil entries) ∙ ap (λ (xs : List Task). entries ++ todo_all f xs) (sym none) ∙ here.whole
