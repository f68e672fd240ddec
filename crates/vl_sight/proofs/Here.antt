-- What the scope of a number has.
use Rattle.std.proofs.Common.{◌≡◌, ℕ, suc, ◌<◌, ◌≤◌, Bool, List, [], ◌∷◌, get_or, length, arith, sym, ap, ◌∙◌}
use Rattle.std.proofs.lemmas.List.{get_or_default}
use Rattle.std.specs.Option.{option_map}
use Rattle.std.specs.Prelude.{Option, Some, None, IfSome, false, option_and_then}
use Rattle.vl_value.specs.Paths.{Text}
use Rattle.vl_design.specs.Declarations.{Routine}
use Rattle.vl_design.specs.Scopes.{Scope}
use Rattle.vl_design.specs.Objects.{counted, first_named, level_thing, object_at, objects}
use Rattle.vl_design.specs.LoopVariables.{is_routine}
use Rattle.vl_design.specs.Clocks.{is_input}
use Rattle.vl_declares.specs.Plain.{all_plain}
use Rattle.vl_scopes.specs.Plain.{path_at, plain_scope, plain_scopes}
use Rattle.vl_scopes.specs.declared.scope.Scope as code
use Rattle.vl_sight.specs.Bodies.{routine_at}
use Rattle.vl_sight.specs.Levels.{HoldNames, is_input_at}
use Rattle.vl_sight.specs.Named.{HasNames, HasThing, function_by, object_by, routine_in}
use Rattle.vl_sight.specs.Seen.{plain_thing, thing_at}
use Rattle.vl_sight.specs.declared.names.Names.{Names}
use Rattle.vl_sight.specs.declared.thing.Thing.{Thing}
use Rattle.vl_sight.proofs.Naming.{function_found, object_found}
use Rattle.vl_sight.proofs.Standing.{before_scope, no_scope, scope_is}
use Rattle.vl_sight.proofs.Looking.{steps_left}

pub fewer : (r : Option ℕ) (k : ℕ) → IfSome r (λ j. j < k) → steps_left r < suc k
fewer None k h = omega arith
fewer (Some j) k h = omega arith

pub thing_here : (cs : List code.Scope) (k : ℕ) (c : code.Scope) (x : Text) (r : Option Thing) → k < length cs → c ≡ get_or cs k c
    → HasThing c x r → option_map (λ t. plain_thing (path_at (plain_scopes cs) (Some k)) x t) r ≡ thing_at (plain_scopes cs) k x
thing_here cs k c x r below is h =
    let s = plain_scope (before_scope cs k) c in
    let at = scope_is cs k c below is in
    ap (λ (o : Option Scope). option_map (λ t. plain_thing (elim o [ Some y ↦ y.level.path | None ↦ [] ]) x t) r) at
    ∙ h s.level.path
    ∙ sym (ap (λ (o : Option Scope). elim o [ Some y ↦ level_thing y.level x | None ↦ None ]) at)

pub nothing_past : (cs : List code.Scope) (k : ℕ) (x : Text) → length cs ≤ k → None ≡ thing_at (plain_scopes cs) k x
nothing_past cs k x past =
    sym (ap (λ (o : Option Scope). elim o [ Some y ↦ level_thing y.level x | None ↦ None ]) (no_scope cs k past))

abbrev routine_of : Text → Option Scope → Option Routine
routine_of f o = elim o [ Some s ↦ option_and_then routine_in (first_named is_routine f (counted s.level)) | None ↦ None ]

pub routine_here : (cs : List code.Scope) (k : ℕ) (c : code.Scope) (n : Names) (f : Text) (r : Option Routine) → k < length cs → c ≡ get_or cs k c
    → HasNames c n → r ≡ option_and_then routine_in (function_by n (all_plain c.declared.items) f) → r ≡ routine_at (plain_scopes cs) k f
routine_here cs k c n f r below is h e =
    e ∙ ap (option_and_then routine_in) (function_found c n f h)
    ∙ sym (ap (routine_of f) (scope_is cs k c below is))

pub no_routine : (cs : List code.Scope) (k : ℕ) (f : Text) → length cs ≤ k → None ≡ routine_at (plain_scopes cs) k f
no_routine cs k f past = sym (ap (routine_of f) (no_scope cs k past))

abbrev input_of : Text → Option Scope → Bool
input_of x o = elim o [ Some s ↦ is_input (object_at (objects s.level) x) | None ↦ false ]

pub input_here : (cs : List code.Scope) (k : ℕ) (c : code.Scope) (n : Names) (x : Text) (b : Bool) → k < length cs → c ≡ get_or cs k c
    → HasNames c n → b ≡ is_input (object_by n x) → b ≡ is_input_at (plain_scopes cs) k x
input_here cs k c n x b below is h e =
    e ∙ ap is_input (object_found c n x h) ∙ sym (ap (input_of x) (scope_is cs k c below is))

pub no_input : (cs : List code.Scope) (k : ℕ) (x : Text) → length cs ≤ k → false ≡ is_input_at (plain_scopes cs) k x
no_input cs k x past = sym (ap (input_of x) (no_scope cs k past))

-- among the names of all scopes
pub input_at : (cs : List code.Scope) (ns slice : List Names) (k : ℕ) (n : Names) (x : Text) (b : Bool) → slice ≡ ns → k < length slice
    → n ≡ get_or slice k n → HoldNames cs ns (length cs) → b ≡ is_input (object_by n x) → b ≡ is_input_at (plain_scopes cs) k x
input_at cs ns slice k n x b whole below is h e =
    let count : length ns ≡ length cs = h.count_is in
    let same : length slice ≡ length ns = ap length whole in
    let within : k < length cs = omega arith in
    let names : n ≡ get_or ns k n = is ∙ ap (λ l. get_or l k n) whole in
    by_scope cs k n x b within (λ c at. h.each k c n within at names) e
  where
    by_scope : (cs : List code.Scope) (k : ℕ) (n : Names) (x : Text) (b : Bool) → k < length cs
        → ((c : code.Scope) → c ≡ get_or cs k c → HasNames c n) → b ≡ is_input (object_by n x) → b ≡ is_input_at (plain_scopes cs) k x
    by_scope [] k n x b within each e = absurd (omega arith)
    by_scope (d ∷ ds) k n x b within each e =
        let c = get_or (d ∷ ds) k d in
        let at : c ≡ get_or (d ∷ ds) k c = get_or_default (d ∷ ds) k d c within in
        input_here (d ∷ ds) k c n x b within at (each c at) e

pub input_past : (cs : List code.Scope) (ns slice : List Names) (k : ℕ) (x : Text) → slice ≡ ns → length slice ≤ k
    → HoldNames cs ns (length cs) → false ≡ is_input_at (plain_scopes cs) k x
input_past cs ns slice k x whole past h =
    let count : length ns ≡ length cs = h.count_is in
    let same : length slice ≡ length ns = ap length whole in
    no_input cs k x (omega arith)
