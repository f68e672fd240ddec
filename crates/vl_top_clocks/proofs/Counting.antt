-- Data inputs, which are filtered and counted.
use Rattle.std.proofs.Common.{◌≡◌, ℕ, ◌+◌, ◌<◌, Bool, ◌&&◌, not, List, [], ◌∷◌, ◌++◌, append-nil, append_assoc, length, get_or, take, map, filter, refl, sym, ap, ◌∙◌}
use Rattle.std.specs.Prelude.{Option, Some, Result, Ok, Err, IfOk, slice_get}
use Rattle.std.proofs.lemmas.List.{map-append, map_more}
use Rattle.std.proofs.lemmas.List.Elements.{filter_agree, filter-append}
use Rattle.dt_core.specs.declared.limits.TheConstants.{MAX_INPUTS, MAX_INPUT_BITS}
use Rattle.vl_tree.specs.declared.fault.FaultKind.TheVariants.{TooManyInputs}
use Rattle.std.proofs.lemmas.Option.{same_Some}
use Rattle.vl_tree.specs.Syntax.{Place}
use Rattle.vl_value.specs.Paths.{below}
use Rattle.vl_value.specs.Things.{width_of}
use Rattle.vl_value.specs.Order.{Found, lesser, least}
use Rattle.vl_value.proofs.OrderLaws.{least_joined}
use Rattle.vl_design.specs.Scopes.{Scope}
use Rattle.vl_design.specs.Objects.{Object, counted_behind, objects, objects_of}
use Rattle.vl_design.specs.LoopVariables.{is_path_in, loop_variables, signals_of}
use Rattle.vl_design.specs.Clocks.{clocks_at_top, is_input}
use Rattle.vl_design.specs.ObjectFaults.{beyond, data_inputs, places_of, told}
use Rattle.vl_declares.specs.Plain.{all_plain}
use Rattle.vl_declares.specs.declared.declared.Declared as code_declared
use Rattle.vl_scopes.specs.Plain.{plain_scope, plain_scopes}
use Rattle.vl_scopes.specs.declared.scope.Scope as code_scope
use Rattle.vl_sight.proofs.Standing.{before_scope, scope_is}
use Rattle.vl_limits.specs.declared.limit.Limit.{Limit}
use Rattle.vl_limits.specs.Counting.{Adds, further}
use Rattle.vl_objects.specs.declared.object.Object as code
use Rattle.vl_objects.specs.Plain.{plain_object}
use Rattle.vl_paths.specs.declared.numbers.PathNumbers.{PathNumbers}
use Rattle.vl_paths.specs.declared.set.PathSet.{PathSet}
use Rattle.vl_paths.specs.Numbers.{number_of}
use Rattle.vl_loop_paths.specs.Signals.{is_signal}
use Rattle.vl_top_clocks.specs.Data.{AreKept, input_faults, is_data, kept_if}

-- ---- the data inputs of the first scope

pub of_top : (n : PathNumbers) (loops clocks : PathSet) (s : Scope) (ss : List Scope) → AreKept n loops clocks (s ∷ ss)
    → filter (is_data clocks (number_of n 0)) (filter (is_signal loops (number_of n 0)) (objects s.level)) ≡ data_inputs (s ∷ ss)
of_top n loops clocks s ss h =
    ap (filter (is_data clocks (number_of n 0)))
    (filter_agree (is_signal loops (number_of n 0)) (λ (o : Object). not (is_path_in (loop_variables (s ∷ ss)) (below s.level.path o.name.text)))
    (λ o. ap not (h.loops_are 0 o.name.text)) (objects s.level))
    ∙ filter_agree (is_data clocks (number_of n 0))
    (λ (o : Object). is_input (Some o) && not (is_path_in (clocks_at_top (s ∷ ss)) (below s.level.path o.name.text)))
    (λ o. ap (λ b. is_input (Some o) && not b) (h.clocks_are 0 o.name.text))
    (signals_of (loop_variables (s ∷ ss)) s)

by_first : (n : PathNumbers) (loops clocks : PathSet) (ss : List Scope) (s : Scope) → slice_get ss 0 ≡ Some s → AreKept n loops clocks ss
    → filter (is_data clocks (number_of n 0)) (filter (is_signal loops (number_of n 0)) (objects s.level)) ≡ data_inputs ss
by_first n loops clocks [] s e h = absurd cc
by_first n loops clocks (t ∷ ss) s e h =
    ap (λ (y : Scope). filter (is_data clocks (number_of n 0)) (filter (is_signal loops (number_of n 0)) (objects y.level))) (sym (same_Some t s e))
    ∙ of_top n loops clocks t ss h

-- the first scope, by what the program knows of it
pub of_first : (n : PathNumbers) (loops clocks : PathSet) (cs : List code_scope.Scope) (c : code_scope.Scope) (declared : List code_declared.Declared)
    (m : ℕ) (own os : List Object) → 0 < length cs → c ≡ get_or cs 0 c → declared ≡ c.declared.items → m ≡ number_of n 0
    → own ≡ filter (is_signal loops m) (objects_of (counted_behind [] (all_plain declared)) (counted_behind [] (all_plain declared)))
    → os ≡ filter (is_data clocks m) own → AreKept n loops clocks (plain_scopes cs) → os ≡ data_inputs (plain_scopes cs)
of_first n loops clocks cs c declared m own os some is are path signals_are data_are h =
    data_are ∙ ap (filter (is_data clocks m)) signals_are
    ∙ (λ i. filter (is_data clocks (path i)) (filter (is_signal loops (path i))
    (objects_of (counted_behind [] (all_plain (are i))) (counted_behind [] (all_plain (are i))))))
    ∙ by_first n loops clocks (plain_scopes cs) (plain_scope (before_scope cs 0) c) (scope_is cs 0 c some is) h

-- what holds of an Ok
pub if_ok : {A E : Type 0} {P Q : A → Type 0} (r : Result A E) → ((a : A) → P a → Q a) → IfOk r P → IfOk r Q
if_ok (Ok a) f p = f a p
if_ok (Err e) f p = p

-- ---- one object further

taken : (xs : List code.Object) (k : ℕ) (x : code.Object) → k < length xs → x ≡ get_or xs k x
    → map plain_object (take (k + 1) xs) ≡ map plain_object (take k xs) ++ plain_object x ∷ []
taken xs k x below is =
    map_more plain_object xs k x below ∙ ap (λ y. map plain_object (take k xs) ++ plain_object y ∷ []) (sym is)

one_kept : (f : Object → Bool) (o : Object) → filter f (o ∷ []) ≡ kept_if (f o) o
one_kept f o = refl

pub kept_more : (f : Object → Bool) (xs : List code.Object) (k : ℕ) (x : code.Object) (old new : List Object) → k < length xs → x ≡ get_or xs k x
    → old ≡ filter f (map plain_object (take k xs)) → new ≡ old ++ kept_if (f (plain_object x)) (plain_object x)
    → new ≡ filter f (map plain_object (take (k + 1) xs))
kept_more f xs k x old new below is was e =
    e ∙ (λ i. was i ++ sym (one_kept f (plain_object x)) i)
    ∙ sym (filter-append f (map plain_object (take k xs)) (plain_object x ∷ []))
    ∙ ap (filter f) (sym (taken xs k x below is))

-- so much was counted of objects before
abbrev pub HasCounted : Limit → ℕ → (Object → ℕ) → List Object → Type 0
HasCounted l most f os = (cs : List (Place × ℕ)) → further l cs ≡ beyond most 0 (places_of f os ++ cs)

pub counted_more : (old new : Limit) (most : ℕ) (f : Object → ℕ) (xs : List code.Object) (k : ℕ) (x : code.Object)
    → k < length xs → x ≡ get_or xs k x → Adds (((plain_object x).name.place, f (plain_object x)) ∷ []) old new
    → HasCounted old most f (map plain_object (take k xs)) → HasCounted new most f (map plain_object (take (k + 1) xs))
counted_more old new most f xs k x below is adds was cs =
    let before = map plain_object (take k xs) in
    let one : List (Place × ℕ) = ((plain_object x).name.place, f (plain_object x)) ∷ [] in
    adds cs ∙ was (one ++ cs)
    ∙ ap (beyond most 0) (sym (append_assoc (places_of f before) one cs)
    ∙ ap (λ y. y ++ cs) (sym (map-append (λ (o : Object). (o.name.place, f o)) before (plain_object x ∷ []))
    ∙ ap (places_of f) (sym (taken xs k x below is))))

-- what was counted in the end
pub least_counted : (a b : Limit) (all os : List Object) (r f g : Option Found) → os ≡ all
    → HasCounted a MAX_INPUTS (λ o. 1) os → HasCounted b MAX_INPUT_BITS (λ (o : Object). width_of o.shape) os
    → f ≡ least (told (further a []) TooManyInputs) → g ≡ least (told (further b []) TooManyInputs) → r ≡ lesser f g
    → r ≡ least (input_faults all)
least_counted a b all os r f g whole counted bits at_count at_bits e =
    let places : (Object → ℕ) → List (Place × ℕ) = λ h. places_of h os in
    let ones : further a [] ≡ beyond MAX_INPUTS 0 (places (λ o. 1)) = counted [] ∙ ap (beyond MAX_INPUTS 0) (append-nil (places (λ o. 1))) in
    let widths : further b [] ≡ beyond MAX_INPUT_BITS 0 (places (λ (o : Object). width_of o.shape)) =
    bits [] ∙ ap (beyond MAX_INPUT_BITS 0) (append-nil (places (λ (o : Object). width_of o.shape))) in
    e ∙ (λ i. lesser ((at_count ∙ ap (λ p. least (told p TooManyInputs)) ones) i) ((at_bits ∙ ap (λ p. least (told p TooManyInputs)) widths) i))
    ∙ sym (least_joined (told (beyond MAX_INPUTS 0 (places (λ o. 1))) TooManyInputs)
    (told (beyond MAX_INPUT_BITS 0 (places (λ (o : Object). width_of o.shape))) TooManyInputs))
    ∙ ap (λ l. least (input_faults l)) whole
