-- The data inputs of a design are signals of its first scope.
use Rattle.std.proofs.Common.{◌≡◌, zero, suc, Bool, true, false, ◌⊎◌, inl, inr, List, [], ◌∷◌, map, subst}
use Rattle.std.specs.Prelude.{Option, Some, None, filter, not, bytes_eq, if◌then◌else◌}
use Rattle.vl_value.specs.Paths.{Text}
use Rattle.vl_design.specs.Lists.{stands_in}
use Rattle.vl_design.specs.Scopes.{Scope}
use Rattle.vl_design.specs.Objects.{Object, object_at}
use Rattle.vl_design.specs.LoopVariables.{loop_variables, signals_of}
use Rattle.vl_design.specs.ObjectFaults.{data_inputs}
use Rattle.vl_design.specs.Design.{design_of, scopes, Signal, signal_in, signals, header_names, named_inputs, ordered_inputs, inputs}
use Rattle.vl_design_laws.specs.Laws.{StandsIn, InputsAreAmong, InputsLaw}
use Rattle.vl_design_laws.proofs.Elaborated.{is_of}
use Rattle.vl_design_laws.proofs.Members.{has_more, has_front, has_either, has_filtered, has_map, has_mapped}

-- an object that is found by name is there
here_or_on : (b : Bool) (a : Object) (os : List Object) (r : Option Object) (o : Object) → (r ≡ Some o → StandsIn os o)
    → (if b then Some a else r) ≡ Some o → StandsIn (a ∷ os) o
here_or_on true a os r o go e = (zero, e)
here_or_on false a os r o go e = has_more a os o (go e)

found_there : (os : List Object) (x : Text) (o : Object) → object_at os x ≡ Some o → StandsIn os o
found_there [] x o e = absurd cc
found_there (a ∷ os) x o e = here_or_on (bytes_eq a.name.text x) a os (object_at os x) o (found_there os x o) e

abbrev with_found : Option Object → List Object → List Object
with_found r more = elim r [ Some o ↦ o ∷ more | None ↦ more ]

found_or_on : (os more : List Object) (r : Option Object) (o : Object) → ((a : Object) → r ≡ Some a → StandsIn os a)
    → (StandsIn more o → StandsIn os o) → StandsIn (with_found r more) o → StandsIn os o
found_or_on os more None o there go h = go h
found_or_on os more (Some a) o there go (zero, e) = there o e
found_or_on os more (Some a) o there go (suc n, e) = go (n, e)

named_there : (os : List Object) (xs : List Text) (o : Object) → StandsIn (named_inputs os xs) o → StandsIn os o
named_there os [] o (n, e) = absurd cc
named_there os (x ∷ xs) o h =
    found_or_on os (named_inputs os xs) (object_at os x) o (λ a. found_there os x a) (named_there os xs o) h

abbrev not_named : List Text → Object → Bool
not_named xs a = not (stands_in xs a.name.text)

ordered_there : (xs : List Text) (os : List Object) (o : Object) → StandsIn (ordered_inputs xs os) o → StandsIn os o
ordered_there xs os o h = of_either (has_either (named_inputs os xs) (filter (not_named xs) os) o h)
  where
    of_either : StandsIn (named_inputs os xs) o ⊎ StandsIn (filter (not_named xs) os) o → StandsIn os o
    of_either (inl k) = named_there os xs o k
    of_either (inr k) = has_filtered (not_named xs) os o k

inputs_there : (ss : List Scope) (x : Signal) → StandsIn (inputs ss) x → StandsIn (signals ss) x
inputs_there [] x (n, e) = absurd cc
inputs_there (s ∷ ss) x h =
    let m = has_mapped (signal_in s) (ordered_inputs (header_names s.origin) (data_inputs (s ∷ ss))) x h in
    let own = signals_of (loop_variables (s ∷ ss)) s in
    let i = has_filtered _ own m.0 (ordered_there (header_names s.origin) (data_inputs (s ∷ ss)) m.0 m.1) in
    subst (StandsIn (signals (s ∷ ss))) m.2 (has_front (map (signal_in s) own) _ (signal_in s m.0) (has_map (signal_in s) own m.0 i))

inputs_are : (ss : List Scope) → InputsAreAmong (design_of ss)
inputs_are ss k x e = inputs_there ss x (k, e)

pub inputs_law : InputsLaw
inputs_law q src top d is = subst InputsAreAmong (is_of q src top d is) (inputs_are (scopes q src top))
