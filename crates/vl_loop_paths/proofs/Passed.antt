-- Scopes one after another.
use Rattle.std.proofs.Common.{◌≡◌, ℕ, ◌+◌, ◌<◌, List, [], ◌∷◌, ◌++◌, length, get_or, drop, Some, refl, sym, ap, subst, ◌∙◌}
use Rattle.std.specs.Prelude.{slice_get}
use Rattle.std.proofs.lemmas.List.{length_push}
use Rattle.vl_value.specs.Paths.{Path}
use Rattle.vl_design.specs.Lists.{each_of}
use Rattle.vl_design.specs.Scopes.{Scope}
use Rattle.vl_design.specs.LoopVariables.{looped_in}
use Rattle.vl_scopes.specs.Plain.{plain_scope, plain_scopes, scopes_after}
use Rattle.vl_scopes.specs.declared.scope.Scope as code
use Rattle.vl_paths.specs.declared.numbers.PathNumbers.{PathNumbers}
use Rattle.vl_paths.specs.declared.set.PathSet.{PathSet}
use Rattle.vl_paths.specs.Numbers.{AreNumbers}
use Rattle.vl_paths.specs.Sets.{HoldsPaths}
use Rattle.vl_paths.proofs.Pushed.{scopes-drop, scope_at}
use Rattle.vl_loop_paths.specs.Adding.{AddsOfScope}
use Rattle.vl_loop_paths.proofs.Added.{each_more}

-- the scopes before one of all
pub record Front (all : List code.Scope) (k : ℕ) : Type 0 where
  pub before : List Scope
  pub count : length before ≡ k
  pub rest : scopes_after before (drop k all) ≡ plain_scopes all

abbrev pub no_front : (all : List code.Scope) → Front all 0
no_front all = record { before = []; count = refl; rest = refl }

abbrev pub next_front : (all : List code.Scope) (k : ℕ) (s : code.Scope) → k < length all → s ≡ get_or all k s → Front all k → Front all (k + 1)
next_front all k s below is f = record {
  before = f.before ++ plain_scope f.before s ∷ [];
  count = length_push f.before (plain_scope f.before s) ∙ ap (λ n. n + 1) f.count;
  rest = sym (scopes-drop f.before all k s below is) ∙ f.rest;
}

-- which stands at its number
pub front_at : (all : List code.Scope) (k : ℕ) (s : code.Scope) → k < length all → s ≡ get_or all k s → (f : Front all k)
    → slice_get (plain_scopes all) k ≡ Some (plain_scope f.before s)
front_at all k s below is f =
    ap (λ ss. slice_get ss k) (sym f.rest ∙ scopes-drop f.before all k s below is)
    ∙ ap (slice_get (scopes_after (f.before ++ plain_scope f.before s ∷ []) (drop (k + 1) all))) (sym f.count)
    ∙ scope_at f.before (plain_scope f.before s) (drop (k + 1) all)

-- ---- loop variables

abbrev pub looped : Scope → List Path
looped s = looped_in s s.items

abbrev pub HoldsBefore : PathNumbers → PathSet → List Scope → List Scope → Type 0
HoldsBefore n set ss before = AreNumbers n ss → HoldsPaths n set ss (each_of looped before)

-- those of one scope more
pub more_held : (n : PathNumbers) (old new : PathSet) (all : List code.Scope) (k : ℕ) (s : code.Scope) → k < length all → s ≡ get_or all k s
    → (f : Front all k) → HoldsBefore n old (plain_scopes all) f.before → AddsOfScope n (plain_scopes all) k s old new
    → HoldsBefore n new (plain_scopes all) (f.before ++ plain_scope f.before s ∷ [])
more_held n old new all k s below is f held adds are =
    let one = plain_scope f.before s in
    subst (HoldsPaths n new (plain_scopes all)) (sym (each_more looped f.before one))
    (adds one (front_at all k s below is f) refl (each_of looped f.before) are (held are))
