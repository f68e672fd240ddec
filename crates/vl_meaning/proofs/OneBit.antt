-- A data input of a module without static fault has one bit: its name is no other port's, and an input is a scalar.
use Rattle.std.proofs.Common.{◌≡◌, ℕ, Bool, true, false, not, ◌&&◌, if◌then◌else◌, List, [], ◌∷◌, ◌++◌, length, map, refl, sym, ap, ◌∙◌, inl, inr}
use Rattle.std.specs.Prelude.{◌⊎◌, Some, is_some, bytes_eq, replicate}
use Rattle.std.proofs.lemmas.Slice.Eq.{bytes_eq-Decides}
use Rattle.vl_tree.specs.Tree.{Text, Port, input, output, Module}
use Rattle.vl_meaning.specs.Objects.{port_name, port_named, width_or_zero, width_of, data_inputs_of, data_inputs}
use Rattle.vl_meaning.specs.Faults.{are_distinct, are_declared, is_sound}
use Rattle.vl_meaning.specs.StandsFor.{input_widths}

-- a port of this name is among the ports
IsIn : Text → List Port → Type 0
IsIn x [] = ⊥
IsIn x (p ∷ ps) = (port_name p ≡ x) ⊎ IsIn x ps

in_named : (ps : List Port) (x : Text) → IsIn x ps → is_some (port_named ps x) ≡ true
unfolding IsIn
in_named [] x h = absurd h
in_named (p ∷ ps) x (inl e) =
    let t : bytes_eq (port_name p) x ≡ true = (bytes_eq-Decides (port_name p) x).1 e in
    ap (λ (b : Bool). is_some (if b then Some p else port_named ps x)) t
in_named (p ∷ ps) x (inr h) =
    let F : Bool → Type 0 = λ b. is_some (if b then Some p else port_named ps x) ≡ true in
    elim (bytes_eq (port_name p) x) as F [ true ↦ refl | false ↦ in_named ps x h ]

-- a port in front with another name is passed over
skip_by : (p : Port) (ps : List Port) (x : Text) (b : Bool) → bytes_eq (port_name p) x ≡ b → is_some (port_named ps (port_name p)) ≡ false → IsIn x ps
    → width_of (p ∷ ps) x ≡ width_of ps x
skip_by p ps x true e n h =
    let s : port_name p ≡ x = (bytes_eq-Decides (port_name p) x).0 e in
    let t : true ≡ false = sym (in_named ps x h) ∙ ap (λ (y : Text). is_some (port_named ps y)) (sym s) ∙ n in absurd cc
skip_by p ps x false e n h = ap (λ (b : Bool). width_or_zero (if b then Some p else port_named ps x)) e

both : (a b : Bool) → (not a && b) ≡ true → (a ≡ false) × (b ≡ true)
both true b e = absurd cc
both false b e = (refl, e)

one_bit_from : (q : Text → ℕ) (clock : Text) (ps : List Port) → ((x : Text) → IsIn x ps → q x ≡ width_of ps x) → are_distinct ps ≡ true
    → map q (data_inputs_of clock ps) ≡ replicate (length (data_inputs_of clock ps)) 1
unfolding IsIn
one_bit_from q clock [] is d = refl
one_bit_from q clock (output x l r ∷ ps) is d =
    let h = both (is_some (port_named ps x)) (are_distinct ps) d in
    one_bit_from q clock ps (λ y i. is y (inr i) ∙ skip_by (output x l r) ps y (bytes_eq x y) refl h.0 i) h.1
one_bit_from q clock (input x ∷ ps) is d =
    let h = both (is_some (port_named ps x)) (are_distinct ps) d in
    let rest = one_bit_from q clock ps (λ y i. is y (inr i) ∙ skip_by (input x) ps y (bytes_eq x y) refl h.0 i) h.1 in
    let t : bytes_eq x x ≡ true = (bytes_eq-Decides x x).1 refl in
    let one : q x ≡ 1 = is x (inl refl) ∙ ap (λ (b : Bool). width_or_zero (if b then Some (input x) else port_named ps x)) t in
    let D : List Text = data_inputs_of clock ps in
    let F : Bool → Type 0 = λ b. map q ((if b then [] else x ∷ []) ++ D) ≡ replicate (length ((if b then [] else x ∷ []) ++ D)) 1 in
    elim (bytes_eq x clock) as F [ true ↦ rest | false ↦ (λ i. one i ∷ rest i) ]

first : (a b : Bool) → (a && b) ≡ true → a ≡ true
first true b e = refl
first false b e = absurd cc

second : (a b : Bool) → (a && b) ≡ true → b ≡ true
second true b e = e
second false b e = absurd cc

distinct : (m : Module) → is_sound m ≡ true → are_distinct m.ports ≡ true
distinct m s =
    let d : are_declared m ≡ true = first _ _ (first _ _ (first _ _ s)) in second _ _ (first _ _ d)

pub one_bit : (m : Module) → is_sound m ≡ true → input_widths m ≡ replicate (length (data_inputs m)) 1
one_bit m s = one_bit_from (width_of m.ports) m.clock m.ports (λ x i. refl) (distinct m s)
