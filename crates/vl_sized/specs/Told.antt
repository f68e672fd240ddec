-- Which fault is told. This project's own.
use Rattle.std.specs.Prelude.{List, [], ◌∷◌, ◌++◌, Option, Some, None, Result, Ok, Err}
use Rattle.vl_value.specs.Order as order
use Rattle.vl_found.specs.declared.Found.{Found}
use Rattle.vl_found.specs.View.{first_of, earlier}

-- a list of the program with one more; of two faults the lesser
abbrev pub joined_to : {X : Type 0} → Result (List X) Found → Result X Found → Result (List X) Found
joined_to (Ok xs) (Ok x) = Ok (xs ++ x ∷ [])
joined_to (Ok xs) (Err g) = Err g
joined_to (Err f) (Ok x) = Err f
joined_to (Err f) (Err g) = Err (earlier f g)

-- a value, or the fault that is told in its place
abbrev pub told : {X : Type 0} → Option order.Found → X → Result X order.Found
told None x = Ok x
told (Some f) x = Err f

abbrev pub mapped : {X Y : Type 0} → (X → Y) → Result X order.Found → Result Y order.Found
mapped k (Ok x) = Ok (k x)
mapped k (Err f) = Err f

-- what is made of two values; of two faults the lesser
abbrev pub joint : {X Y Z : Type 0} → (X → Y → Z) → Result X order.Found → Result Y order.Found → Result Z order.Found
joint k (Ok x) (Ok y) = Ok (k x y)
joint k (Ok x) (Err g) = Err g
joint k (Err f) (Ok y) = Err f
joint k (Err f) (Err g) = Err (first_of f g)

-- the fault that is told in a value's place, if there is one
abbrev pub fault_in : {X : Type 0} → Result X order.Found → Option order.Found
fault_in (Ok x) = None
fault_in (Err f) = Some f
