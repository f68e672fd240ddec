-- Texts that are pushed one behind another.
use Rattle.std.proofs.Common.{◌≡◌, ℕ, suc, ◌+◌, ◌*◌, ◌<◌, List, [], ◌∷◌, ◌++◌, length, take, drop, map, zero, refl, sym, ap, ◌∙◌, append_assoc, arith}
use Rattle.std.specs.Prelude.{Result, Ok, Err, OnOk}
use Rattle.std.proofs.Math.Seq.{take-length}
use Rattle.std.proofs.lemmas.List.{take-append-le}
use Rattle.design_names.specs.Variables.{Variable}
use Rattle.waveform.specs.Vcd.{Line, time, dumpvars, end, line_text, lines_text, all_values, changes, rise, risen, first_lines, later_lines}

-- what follows of a call's promise is promised too
pub on_ok : {T E A B : Type 0} → (result : Result T E) → (A → B) → OnOk result A → OnOk result B
on_ok (Ok t) f a = f a
on_ok (Err e) f a = tt

-- a second piece behind a first
pub then_pushed : (old mid new a b text : List ℕ) → mid ≡ old ++ a → new ≡ mid ++ b → text ≡ a ++ b → new ≡ old ++ text
then_pushed old mid new a b text p q e =
    q ∙ ap (λ (xs : List ℕ). xs ++ b) p ∙ append_assoc old a b ∙ ap (λ (xs : List ℕ). old ++ xs) (sym e)

-- three and five pieces
pub three_pushed : (o a b c p q r text : List ℕ) → a ≡ o ++ p → b ≡ a ++ q → c ≡ b ++ r → text ≡ p ++ (q ++ r) → c ≡ o ++ text
three_pushed o a b c p q r text i j k e = then_pushed o a c p (q ++ r) text i (then_pushed a b c q r (q ++ r) j k refl) e

pub five_pushed : (o a b c d x p q r s t text : List ℕ) → a ≡ o ++ p → b ≡ a ++ q → c ≡ b ++ r → d ≡ c ++ s → x ≡ d ++ t
    → text ≡ p ++ (q ++ (r ++ (s ++ t))) → x ≡ o ++ text
five_pushed o a b c d x p q r s t text i j k l m e =
    then_pushed o a x p (q ++ (r ++ (s ++ t))) text i
    (then_pushed a b x q (r ++ (s ++ t)) (q ++ (r ++ (s ++ t))) j (three_pushed b c d x r s t (r ++ (s ++ t)) k l m refl) refl) e

-- all of a list in front of another
pub front_whole : (xs ys : List ℕ) (n : ℕ) → length xs ≡ n → take n (xs ++ ys) ≡ xs
front_whole xs ys n e = take-append-le n xs ys (omega arith) ∙ ap (λ (k : ℕ). take k xs) (sym e) ∙ take-length xs

-- the text of lines behind lines
pub lines_text-append : (a b : List Line) → lines_text (a ++ b) ≡ lines_text a ++ lines_text b
lines_text-append [] b = refl
lines_text-append (l ∷ a) b = ap (λ (xs : List ℕ). line_text l ++ xs) (lines_text-append a b) ∙ sym (append_assoc (line_text l) (lines_text a) (lines_text b))

-- the texts of a first cycle and of a later one, by their parts
pub first_text : (variables : List Variable) (cycle : ℕ) (vs : List ℕ)
    → lines_text (first_lines variables cycle vs) ≡ line_text (time (2 * cycle)) ++ (line_text dumpvars ++ (lines_text (all_values 0 variables vs) ++ (line_text end ++ lines_text (rise variables cycle))))
first_text variables cycle vs =
    ap (λ (xs : List ℕ). line_text (time (2 * cycle)) ++ (line_text dumpvars ++ xs)) (lines_text-append (all_values 0 variables vs) (end ∷ rise variables cycle))

pub later_text : (variables : List Variable) (cycle : ℕ) (last vs : List ℕ)
    → lines_text (later_lines variables cycle last vs) ≡ line_text (time (2 * cycle)) ++ (lines_text (changes 0 variables (risen variables last) vs) ++ lines_text (rise variables cycle))
later_text variables cycle last vs =
    ap (λ (xs : List ℕ). line_text (time (2 * cycle)) ++ xs) (lines_text-append (changes 0 variables (risen variables last) vs) (rise variables cycle))
