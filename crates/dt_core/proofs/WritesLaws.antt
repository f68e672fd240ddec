-- Texts that are written one after another.
use Rattle.std.proofs.Common.{◌≡◌, ℕ, ◌+◌, List, ◌++◌, length, take, sym, subst, ◌∙◌, arith}
use Rattle.std.specs.Prelude.{Option, min}
use Rattle.std.specs.Io.KnownBytes.{Appends}
use Rattle.std.proofs.KnownBytes.{Appends-trans}
use Rattle.std.proofs.Math.Seq.{take-append-add}
use Rattle.std.proofs.lemmas.List.{take-append-le, take_min}
use Rattle.dt_core.specs.Causes.{AppendsPart}

-- a front of a text is a front of a longer text
front_longer : (n : ℕ) (a b : List ℕ) → take (min n (length a)) (a ++ b) ≡ take n a
front_longer n a b = take-append-le (min n (length a)) a b (omega arith) ∙ take_min n a

-- a part of the first text is a part of both
pub part_first : (old new : Option (List ℕ)) (a b : List ℕ) → AppendsPart old new a → AppendsPart old new (a ++ b)
part_first old new a b p = (min p.0 (length a), subst (Appends old new) (sym (front_longer p.0 a b)) p.1)

-- the first text whole, and a part of the second
pub part_second : (old mid new : Option (List ℕ)) (a b : List ℕ) → Appends old mid a → AppendsPart mid new b → AppendsPart old new (a ++ b)
part_second old mid new a b w p =
    (length a + p.0, subst (Appends old new) (sym (take-append-add a b p.0)) (Appends-trans old mid new a (take p.0 b) w p.1))
