-- A path is the same as itself.
use Rattle.std.proofs.Common.{◌≡◌, ℕ, ◌==◌, Bool, true, false, ◌&&◌, List, [], ◌∷◌, refl, arith}
use Rattle.std.specs.Prelude.{ℤ, pos, negsuc, Option, Some, None, bytes_eq}
use Rattle.std.proofs.lemmas.Slice.Eq.{bytes_eq-Decides}
use Rattle.std.proofs.lemmas.Bool.{eq-eqb}
use Rattle.vl_value.specs.Paths.{Step, named, turn, unnamed, Path, same_number, same_turn, same_step, same_path}

pub both_true : (a b : Bool) → a ≡ true → b ≡ true → (a && b) ≡ true
both_true true true p q = refl
both_true true false p q = q
both_true false b p q = p

number_itself : (z : ℤ) → same_number z z ≡ true
number_itself (pos n) = grind arith
number_itself (negsuc n) = grind arith

text_itself : (x : List ℕ) → bytes_eq x x ≡ true
text_itself x = (bytes_eq-Decides x x).1 refl

turn_itself : (o : Option ℤ) → same_turn o o ≡ true
turn_itself None = refl
turn_itself (Some z) = number_itself z

step_itself : (x : Step) → same_step x x ≡ true
step_itself (named x) = text_itself x
step_itself (turn x z) = both_true (bytes_eq x x) (same_number z z) (text_itself x) (number_itself z)
step_itself (unnamed n o) = both_true (n == n) (same_turn o o) (eq-eqb n n refl) (turn_itself o)

pub path_itself : (p : Path) → same_path p p ≡ true
path_itself [] = refl
path_itself (x ∷ xs) = both_true (same_step x x) (same_path xs xs) (step_itself x) (path_itself xs)
