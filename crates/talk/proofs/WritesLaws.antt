-- Texts that are written one after another.
use Rattle.std.proofs.Common.{◌≡◌, ℕ, ◌+◌, ◌<◌, List, [], ◌∷◌, ◌++◌, drop, get_or, length, take, Ok, Err, sym, subst, ap, ◌∙◌, arith, append-nil, append_assoc, refl}
use Rattle.std.specs.Prelude.{Option, Result, min, IsErr}
use Rattle.std.specs.Io.KnownBytes.{Appends}
use Rattle.std.proofs.KnownBytes.{Appends-trans, Appends-nil}
use Rattle.std.proofs.Math.Seq.{take-append-add, take-length}
use Rattle.std.proofs.lemmas.List.{take-append-le, take_min, at_drop_more}
use Rattle.dt_core.specs.Causes.{HasCause, AppendsPart}
use Rattle.dt_core.specs.declared.fault.Failed.{Failed}
use Rattle.talk.specs.Writes.{Writes}

-- a front of a text is a front of a longer text
front_longer : (n : ℕ) (a b : List ℕ) → take (min n (length a)) (a ++ b) ≡ take n a
front_longer n a b = take-append-le (min n (length a)) a b (omega arith) ∙ take_min n a

-- a part of the first text is a part of both
pub part_first : (old new : Option (List ℕ)) (a b : List ℕ) → AppendsPart old new a → AppendsPart old new (a ++ b)
part_first old new a b p = (min p.0 (length a), subst (Appends old new) (sym (front_longer p.0 a b)) p.1)

-- the first text whole, and a part of the second
pub part_second : (old mid new : Option (List ℕ)) (a b : List ℕ) → Appends old mid a → AppendsPart mid new b → AppendsPart old new (a ++ b)
part_second old mid new a b w p =
    (length a + p.0, subst (Appends old new) (sym (take-append-add a b p.0)) (Appends-trans old mid new a (take p.0 b) w p.1))

-- a cause counted from an equal number
cause_from : (before then now : ℕ) (result : Result (Unit {0}) Failed) → then ≡ before → HasCause then now result → HasCause before now result
cause_from before then now result s h = subst (λ n. HasCause n now result) s h

-- the first text was written whole, and then the second as the result says
pub then_writes : (old mid new : Option (List ℕ)) (before then now : ℕ) (a b text : List ℕ) (result : Result (Unit {0}) Failed)
    → a ++ b ≡ text → Appends old mid a → then ≡ before → Writes b result mid new then now → Writes text result old new before now
then_writes old mid new before then now a b text (Ok t) e w s v = record {
  whole = subst (Appends old new) e (Appends-trans old mid new a b w v.whole);
  part = subst (AppendsPart old new) e (part_second old mid new a b w v.part);
  cause = cause_from before then now (Ok t) s v.cause;
}
then_writes old mid new before then now a b text (Err x) e w s v = record {
  whole = v.whole;
  part = subst (AppendsPart old new) e (part_second old mid new a b w v.part);
  cause = cause_from before then now (Err x) s v.cause;
}

-- the first text was written with an error, and no more
pub stopped_first : (old new : Option (List ℕ)) (before now : ℕ) (a b text : List ℕ) (result : Result (Unit {0}) Failed) (x : Failed) → IsErr result
    → a ++ b ≡ text → Writes a (Err x) old new before now → Writes text result old new before now
stopped_first old new before now a b text (Ok t) x r e v = absurd cc
stopped_first old new before now a b text (Err y) x r e v = record {
  whole = tt;
  part = subst (AppendsPart old new) e (part_first old new a b v.part);
  cause = record { later = v.cause.later; kept = tt; failed = v.cause.failed };
}

-- what was written so far, and what is left
pub record Leads (whole left : List ℕ) (old new : Option (List ℕ)) (before now : ℕ) : Type 0 where
  pub done : List ℕ
  pub wrote : Appends old new done
  pub same : now ≡ before
  pub rest : done ++ left ≡ whole

-- nothing was written yet
pub leads_start : (whole : List ℕ) (old : Option (List ℕ)) (before : ℕ) → Leads whole whole old old before before
leads_start whole old before = record { done = []; wrote = Appends-nil old; same = refl; rest = refl }

-- one piece more was written
pub leads_on : (whole rest piece left : List ℕ) (old mid new : Option (List ℕ)) (before then now : ℕ) (t : Unit {0}) → rest ≡ piece ++ left → Leads whole rest old mid before then
    → Writes piece (Ok t) mid new then now → Leads whole left old new before now
leads_on whole rest piece left old mid new before then now t e l v = record {
  done = l.done ++ piece;
  wrote = Appends-trans old mid new l.done piece l.wrote v.whole;
  same = v.cause.kept ∙ l.same;
  rest = append_assoc l.done piece left ∙ ap (λ (x : List ℕ). l.done ++ x) (sym e) ∙ l.rest;
}

-- a piece was written with an error
pub leads_stop : (whole rest piece left : List ℕ) (old mid new : Option (List ℕ)) (before then now : ℕ) (result : Result (Unit {0}) Failed) (x : Failed) → IsErr result
    → rest ≡ piece ++ left → Leads whole rest old mid before then
    → Writes piece (Err x) mid new then now → Writes whole result old new before now
leads_stop whole rest piece left old mid new before then now result x r e l v =
    then_writes old mid new before then now l.done rest whole result l.rest l.wrote l.same
    (stopped_first mid new then now piece left rest result x r (sym e) v)

-- all was written
pub leads_end : (whole rest : List ℕ) (old new : Option (List ℕ)) (before now : ℕ) → rest ≡ [] → Leads whole rest old new before now → Writes whole (Ok tt) old new before now
leads_end whole rest old new before now n l =
    let e : l.done ≡ whole = sym (append-nil l.done) ∙ ap (λ (x : List ℕ). l.done ++ x) (sym n) ∙ l.rest in
    let w = subst (Appends old new) e l.wrote in
    record {
      whole = w;
      part = (length whole, subst (Appends old new) (sym (take-length whole)) w);
      cause = record { later = omega (arith, l.same); kept = l.same; failed = tt };
    }

-- what is left of a list, by its next element
pub left_is : {X : Type 0} (F : List X → List ℕ) (xs : List X) (i : ℕ) (x : X) → i < length xs → x ≡ get_or xs i x → F (drop i xs) ≡ F (x ∷ drop (i + 1) xs)
left_is F xs i x h is = at_drop_more F xs i x h ∙ ap (λ y. F (y ∷ drop (i + 1) xs)) (sym is)

-- an equal text was written
pub same_text : (old new : Option (List ℕ)) (before now : ℕ) (a b : List ℕ) (result : Result (Unit {0}) Failed) → a ≡ b → Writes a result old new before now → Writes b result old new before now
same_text old new before now a b result e v = subst (λ (t : List ℕ). Writes t result old new before now) e v
