-- Where a scope stands in the list of all.
use Rattle.std.proofs.Common.{◌≡◌, ℕ, zero, suc, ◌+◌, ◌<◌, ◌≤◌, Bool, true, false, List, [], ◌∷◌, ◌++◌, length, take, drop, get_or, arith, refl, sym, ap, subst, ◌∙◌}
use Rattle.std.proofs.lemmas.Bool.Decides.{nat_tests}
use Rattle.std.proofs.lemmas.List.{drop_more, get_or_append_left, get_or_default, length-take-le, take-append-drop}
use Rattle.std.proofs.Math.Seq.{get_or-append_seam}
use Rattle.std.proofs.lemmas.Option.{slice_get_past}
use Rattle.std.specs.Prelude.{Option, Some, None, if◌then◌else◌, nat_lt, slice_get}
use Rattle.vl_design.specs.Scopes.{Level, Scope, levels}
use Rattle.vl_scopes.specs.Plain.{plain_scope, plain_scopes, scopes_after, levels_at, outer_of}
use Rattle.vl_scopes.specs.declared.scope.Scope as code
use Rattle.vl_sight.specs.Levels.{HoldNames, lower_than, own_level}
use Rattle.vl_sight.specs.Named.{HasNames}
use Rattle.vl_sight.specs.declared.names.Names.{Names}

-- ---- elements of a list with more behind

pub get_left : {A : Type 0} (xs ys : List A) (k : ℕ) → k < length xs → slice_get (xs ++ ys) k ≡ slice_get xs k
get_left [] ys k h = absurd (omega arith)
get_left (x ∷ xs) ys zero h = refl
get_left (x ∷ xs) ys (suc k) h = get_left xs ys k (omega arith)

get_last : {A : Type 0} (xs : List A) (y : A) (k : ℕ) → k ≡ length xs → slice_get (xs ++ y ∷ []) k ≡ Some y
get_last [] y zero e = refl
get_last [] y (suc k) e = absurd (omega arith)
get_last (x ∷ xs) y zero e = absurd (omega arith)
get_last (x ∷ xs) y (suc k) e = get_last xs y k (omega arith)

length_more : {A : Type 0} (xs : List A) (y : A) → length (xs ++ y ∷ []) ≡ suc (length xs)
length_more [] y = refl
length_more (x ∷ xs) y = ap suc (length_more xs y)

-- ---- scopes one after another

after_joined : (before : List Scope) (xs ys : List code.Scope) → scopes_after before (xs ++ ys) ≡ scopes_after (scopes_after before xs) ys
after_joined before [] ys = refl
after_joined before (x ∷ xs) ys = after_joined (before ++ plain_scope before x ∷ []) xs ys

after_get : (before : List Scope) (cs : List code.Scope) (k : ℕ) → k < length before → slice_get (scopes_after before cs) k ≡ slice_get before k
after_get before [] k h = refl
after_get before (c ∷ cs) k h =
    let more : length (before ++ plain_scope before c ∷ []) ≡ suc (length before) = length_more before (plain_scope before c) in
    after_get (before ++ plain_scope before c ∷ []) cs k (omega arith) ∙ get_left before (plain_scope before c ∷ []) k h

after_length : (before : List Scope) (cs : List code.Scope) → length (scopes_after before cs) ≡ length before + length cs
after_length before [] = omega arith
after_length before (c ∷ cs) =
    let more : length (before ++ plain_scope before c ∷ []) ≡ suc (length before) = length_more before (plain_scope before c) in
    let rest = after_length (before ++ plain_scope before c ∷ []) cs in
    omega arith

pub plain_count : (cs : List code.Scope) → length (plain_scopes cs) ≡ length cs
plain_count cs = let whole = after_length [] cs in omega arith

-- those before the scope of a number
abbrev pub before_scope : List code.Scope → ℕ → List Scope
before_scope cs k = plain_scopes (take k cs)

before_length : (cs : List code.Scope) (k : ℕ) → k < length cs → length (before_scope cs k) ≡ k
before_length cs k h =
    let whole = after_length [] (take k cs) in
    let few : length (take k cs) ≡ k = length-take-le k cs (omega arith) in
    omega arith

split_at : (cs : List code.Scope) (k : ℕ) (c : code.Scope) → k < length cs → c ≡ get_or cs k c
    → plain_scopes cs ≡ scopes_after (before_scope cs k ++ plain_scope (before_scope cs k) c ∷ []) (drop (k + 1) cs)
split_at cs k c h is =
    ap plain_scopes (sym (take-append-drop k cs))
    ∙ after_joined [] (take k cs) (drop k cs)
    ∙ ap (scopes_after (before_scope cs k)) (drop_more cs k c h ∙ ap (λ d. d ∷ drop (k + 1) cs) (sym is))

pub scope_is : (cs : List code.Scope) (k : ℕ) (c : code.Scope) → k < length cs → c ≡ get_or cs k c
    → slice_get (plain_scopes cs) k ≡ Some (plain_scope (before_scope cs k) c)
scope_is cs k c h is =
    let count : length (before_scope cs k) ≡ k = before_length cs k h in
    let one = plain_scope (before_scope cs k) c in
    let more : length (before_scope cs k ++ one ∷ []) ≡ suc (length (before_scope cs k)) = length_more (before_scope cs k) one in
    ap (λ ss. slice_get ss k) (split_at cs k c h is)
    ∙ after_get (before_scope cs k ++ one ∷ []) (drop (k + 1) cs) k (omega arith)
    ∙ get_last (before_scope cs k) one k (omega arith)

pub no_scope : (cs : List code.Scope) (k : ℕ) → length cs ≤ k → slice_get (plain_scopes cs) k ≡ None
no_scope cs k h =
    let whole = after_length [] cs in
    slice_get_past (plain_scopes cs) k (omega arith)

-- those before are those of all
same_before : (cs : List code.Scope) (k j : ℕ) → k < length cs → j < k → slice_get (before_scope cs k) j ≡ slice_get (plain_scopes cs) j
same_before cs k j h below =
    let count : length (before_scope cs k) ≡ k = before_length cs k h in
    sym (ap (λ ss. slice_get ss j) (ap plain_scopes (sym (take-append-drop k cs)) ∙ after_joined [] (take k cs) (drop k cs))
    ∙ after_get (before_scope cs k) (drop k cs) j (omega arith))

-- ---- levels

abbrev levels_of : Option Scope → List Level
levels_of r = elim r [ Some x ↦ levels x | None ↦ [] ]

at_lower : (cs : List code.Scope) (k j : ℕ) (b : Bool) → k < length cs → nat_lt j k ≡ b
    → levels_of (slice_get (before_scope cs k) j) ≡ levels_at (plain_scopes cs) (if b then Some j else None)
at_lower cs k j true h e =
    let below : j < k = grind (arith, nat_tests, e) in
    ap levels_of (same_before cs k j h below)
at_lower cs k j false h e =
    let count : length (before_scope cs k) ≡ k = before_length cs k h in
    let past : k ≤ j = grind (arith, nat_tests, e) in
    ap levels_of (slice_get_past (before_scope cs k) j (omega arith))

pub outer_levels : (cs : List code.Scope) (k : ℕ) (w : Option ℕ) → k < length cs
    → levels_at (before_scope cs k) w ≡ levels_at (plain_scopes cs) (lower_than k w)
outer_levels cs k None h = refl
outer_levels cs k (Some j) h = at_lower cs k j (nat_lt j k) h refl

-- the levels from a scope outward
pub levels_from : (cs : List code.Scope) (k : ℕ) (c : code.Scope) (r : Option ℕ) → k < length cs → c ≡ get_or cs k c
    → outer_of (before_scope cs k) c.within c.origin ≡ levels_at (plain_scopes cs) r
    → levels_at (plain_scopes cs) (Some k) ≡ own_level (plain_scopes cs) k ++ levels_at (plain_scopes cs) r
levels_from cs k c r h is outer =
    let s = plain_scope (before_scope cs k) c in
    let here = scope_is cs k c h is in
    ap levels_of here ∙ ap (λ ls. s.level ∷ ls) outer
    ∙ sym (ap (λ b. (elim b [ Some x ↦ x.level ∷ [] | None ↦ [] ]) ++ levels_at (plain_scopes cs) r) here)

pub levels_past : (cs : List code.Scope) (k : ℕ) (r : Option ℕ) → length cs ≤ k → r ≡ None
    → levels_at (plain_scopes cs) (Some k) ≡ own_level (plain_scopes cs) k ++ levels_at (plain_scopes cs) r
levels_past cs k r h e =
    let here = no_scope cs k h in
    ap levels_of here
    ∙ sym (ap (λ b. (elim b [ Some x ↦ x.level ∷ [] | None ↦ [] ]) ++ levels_at (plain_scopes cs) None) here)
    ∙ ap (λ q. own_level (plain_scopes cs) k ++ levels_at (plain_scopes cs) q) (sym e)

-- ---- the names of one scope more

more_names : (cs : List code.Scope) (ns new : List Names) (k : ℕ) (c : code.Scope) (n : Names) → new ≡ ns ++ n ∷ []
    → k < length cs → c ≡ get_or cs k c → HasNames c n → HoldNames cs ns k
    → (j : ℕ) (d : code.Scope) (m : Names) (b : Bool) → nat_lt j k ≡ b → j < k + 1 → d ≡ get_or cs j d → m ≡ get_or new j m → HasNames d m
more_names cs ns new k c n e below is has h j d m true lower few at_d at_m =
    let less : j < k = grind (arith, nat_tests, lower) in
    let count : length ns ≡ k = h.count_is in
    h.each j d m less at_d (at_m ∙ ap (λ l. get_or l j m) e ∙ get_or_append_left ns (n ∷ []) m j (omega arith))
more_names cs ns new k c n e below is has h j d m false lower few at_d at_m =
    let past : k ≤ j = grind (arith, nat_tests, lower) in
    let same : j ≡ k = omega arith in
    let count : length ns ≡ k = h.count_is in
    let seam : j ≡ length ns = omega arith in
    let names : m ≡ n = at_m ∙ ap (λ l. get_or l j m) e ∙ ap (λ i. get_or (ns ++ n ∷ []) i m) seam ∙ get_or-append_seam ns n [] m in
    let scope : d ≡ c = at_d ∙ ap (λ i. get_or cs i d) same ∙ get_or_default cs k d c below ∙ sym is in
    subst (λ y. HasNames y m) (sym scope) (subst (HasNames c) (sym names) has)

pub names_more : (cs : List code.Scope) (ns new : List Names) (k : ℕ) (c : code.Scope) (n : Names) → new ≡ ns ++ n ∷ []
    → k < length cs → c ≡ get_or cs k c → HasNames c n → HoldNames cs ns k → HoldNames cs new (k + 1)
names_more cs ns new k c n e below is has h =
    let grown : length (ns ++ n ∷ []) ≡ suc (length ns) = length_more ns n in
    let count : length ns ≡ k = h.count_is in
    record {
      count_is = ap length e ∙ (omega arith);
      each = λ j d m few at_d at_m. more_names cs ns new k c n e below is has h j d m (nat_lt j k) refl few at_d at_m;
    }

pub names_none : (cs : List code.Scope) (ns : List Names) → ns ≡ [] → HoldNames cs ns 0
names_none cs ns e = record { count_is = ap length e; each = λ j d m few at_d at_m. absurd (omega arith) }
