-- Scopes that are appended: those before stay where they are, and the last has their number.
use Rattle.std.proofs.Common.{◌≡◌, refl, sym, ap, ◌∙◌, ℕ, zero, suc, ◌+◌, List, [], ◌∷◌, ◌++◌, length, arith, Bool}
use Rattle.std.specs.Prelude.{Option, Some, None, slice_get}
use Rattle.vl_design.specs.Parameters.{Given}
use Rattle.vl_design.specs.Scopes.{Level, Scope, levels}
use Rattle.vl_scopes.specs.declared.scope.Scope as code
use Rattle.vl_scopes.specs.Plain.{plain_scope, plain_scopes, scopes_after}
use Rattle.vl_value.specs.Paths.{Path}
use Rattle.vl_opening.specs.Walking.{Keeps, here_in}

after_one : (before : List Scope) (cs : List code.Scope) (c : code.Scope)
    → scopes_after before (cs ++ c ∷ []) ≡ scopes_after before cs ++ plain_scope (scopes_after before cs) c ∷ []
after_one before [] c = refl
after_one before (x ∷ cs) c = after_one (before ++ plain_scope before x ∷ []) cs c

pub scopes_on : (cs : List code.Scope) (c : code.Scope) → plain_scopes (cs ++ c ∷ []) ≡ plain_scopes cs ++ plain_scope (plain_scopes cs) c ∷ []
scopes_on cs c = after_one [] cs c

length_one : (before : List Scope) (s : Scope) → length (before ++ s ∷ []) ≡ suc (length before)
length_one [] s = refl
length_one (x ∷ before) s = ap suc (length_one before s)

suc_moves : (a b : ℕ) → suc a + b ≡ a + suc b
suc_moves a b = omega arith

length_after : (before : List Scope) (cs : List code.Scope) → length (scopes_after before cs) ≡ length before + length cs
length_after before [] = omega arith
length_after before (x ∷ cs) = length_after (before ++ plain_scope before x ∷ []) cs
    ∙ ap (λ n. n + length cs) (length_one before (plain_scope before x)) ∙ suc_moves (length before) (length cs)

none_more : (n : ℕ) → 0 + n ≡ n
none_more n = omega arith

pub length_is : (cs : List code.Scope) → length (plain_scopes cs) ≡ length cs
length_is cs = length_after [] cs ∙ none_more (length cs)

pub last_there : (ss : List Scope) (s : Scope) → slice_get (ss ++ s ∷ []) (length ss) ≡ Some s
last_there [] s = refl
last_there (x ∷ ss) s = last_there ss s

pub stays : (ss more : List Scope) → Keeps ss (ss ++ more)
stays [] more k s e = absurd cc
stays (x ∷ ss) more zero s e = e
stays (x ∷ ss) more (suc k) s e = stays ss more k s e

-- ---- where an item stands, in a scope that is there

abbrev levels_in : Option Scope → List Level
levels_in o = elim o [ Some x ↦ levels x | None ↦ [] ]

abbrev path_in : Option Scope → Path
path_in o = elim o [ Some x ↦ x.level.path | None ↦ [] ]

pub here_of : (ss : List Scope) (k : ℕ) (gs : List Given) (b : Bool) (s : Scope) → slice_get ss k ≡ Some s
    → here_in ss k gs b ≡ record { given = gs; path = s.level.path; levels = levels s; in_block = b }
here_of ss k gs b s e = λ i. record { given = gs; path = path_in (e i); levels = levels_in (e i); in_block = b }

pub here_kept : (old new : List Scope) (k : ℕ) (gs : List Given) (b : Bool) (s : Scope) → slice_get old k ≡ Some s → Keeps old new
    → here_in new k gs b ≡ here_in old k gs b
here_kept old new k gs b s e keeps = here_of new k gs b s (keeps k s e) ∙ sym (here_of old k gs b s e)
