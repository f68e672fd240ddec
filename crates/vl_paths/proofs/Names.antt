-- Sets of names below paths by number.
use Rattle.std.proofs.Common.{◌≡◌, ℕ, zero, suc, ◌<◌, true, false, ◌&&◌, ◌||◌, List, [], ◌∷◌, ◌++◌, length, get_or, set, Option, Some, arith, refl, ap, ◌∙◌}
use Rattle.std.specs.Prelude.{bytes_eq, ◌==◌}
use Rattle.std.proofs.lemmas.Bool.Decides.{nat_tests}
use Rattle.vl_names.specs.declared.NameSet.{NameSet}
use Rattle.vl_names.specs.Names as names
use Rattle.vl_value.specs.Paths.{Text}
use Rattle.vl_paths.specs.Numbers.{is_one}
use Rattle.vl_paths.specs.Sets.{has_in, HaveSame, AddsIn}

-- no names below one path more
pub one_empty : (ns : List NameSet) (s : NameSet) → names.HasNone s → HaveSame ns (ns ++ s ∷ [])
one_empty [] s none zero x = none x
one_empty [] s none (suc m) x = refl
one_empty (n ∷ ns) s none zero x = refl
one_empty (n ∷ ns) s none (suc m) x = one_empty ns s none m x

pub same_on : (a b c : List NameSet) → HaveSame a b → HaveSame b c → HaveSame a c
same_on a b c f g m x = g m x ∙ f m x

unequal : (m : ℕ) → false ≡ (zero == suc m)
unequal m = grind (arith, nat_tests)

unequal_back : (m : ℕ) → false ≡ (suc m == zero)
unequal_back m = grind (arith, nat_tests)

equal : true ≡ (zero == zero)
equal = grind (arith, nat_tests)

one_down : (k m : ℕ) → (k == m) ≡ (suc k == suc m)
one_down k m = grind (arith, nat_tests)

-- a name more below the path of one number
pub one_added : (ns : List NameSet) (k : ℕ) (s : NameSet) (x : Text) → k < length ns → (t : NameSet) → t ≡ get_or ns k t
    → names.Adds x t s → AddsIn (Some k) x ns (set ns k s)
one_added [] k s x below t is adds m y = absurd (omega arith)
one_added (n ∷ ns) zero s x below t is adds zero y =
    adds y ∙ (λ i. bytes_eq x y || names.has (is i) y) ∙ ap (λ b. (b && bytes_eq x y) || names.has n y) equal
one_added (n ∷ ns) zero s x below t is adds (suc m) y =
    ap (λ b. (b && bytes_eq x y) || has_in ns m y) (unequal m)
one_added (n ∷ ns) (suc k) s x below t is adds zero y =
    ap (λ b. (b && bytes_eq x y) || names.has n y) (unequal_back k)
one_added (n ∷ ns) (suc k) s x below t is adds (suc m) y =
    one_added ns k s x (omega arith) t is adds m y
    ∙ ap (λ b. (b && bytes_eq x y) || has_in ns m y) (one_down k m)

-- after the same
pub adds_after : (a b c : List NameSet) (r : Option ℕ) (x : Text) → HaveSame a b → AddsIn r x b c → AddsIn r x a c
adds_after a b c r x f g m y = g m y ∙ ap (λ h. (is_one r m && bytes_eq x y) || h) (f m y)
