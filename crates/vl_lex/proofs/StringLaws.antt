-- A string, as it is read.
use Rattle.std.proofs.Common.{◌≡◌, ◌+◌, ◌-◌, ◌<◌, ◌≤◌, ℕ, zero, suc, List, [], ◌∷◌, ◌++◌, refl, sym, subst, ap, ◌∙◌, arith, append_assoc, append-nil, length, drop, Some, None, length-drop}
use Rattle.std.specs.Prelude.{Result, Ok, Err}
use Rattle.vl_tree.specs.declared.fault.FaultKind.{FaultKind}
use Rattle.vl_lex.specs.Strings.{longer, character_at, string_at, string_from}

-- these bytes come before those of the answer, which has so many bytes of spelling more
abbrev pub longer_by : List ℕ → ℕ → Result (List ℕ × ℕ) FaultKind → Result (List ℕ × ℕ) FaultKind
longer_by bs n (Ok s) = Ok (bs ++ s.0, n + s.1)
longer_by bs n (Err k) = Err k

-- the whole string is what was read of it before the string that is left
abbrev pub SoFar : List ℕ → List ℕ → List ℕ → Type 0
SoFar all text rest = (n : ℕ) × (length rest < n) × (string_at all ≡ longer_by text (length all - length rest) (string_from n rest))

longer_none : (r : Result (List ℕ × ℕ) FaultKind) → longer_by [] 0 r ≡ r
longer_none (Ok s) = let e : 0 + s.1 ≡ s.1 = omega arith in rw e refl
longer_none (Err k) = refl

longer_more : (bs : List ℕ) (n b m : ℕ) (r : Result (List ℕ × ℕ) FaultKind) → longer_by bs n (longer b m r) ≡ longer_by (bs ++ b ∷ []) (n + m) r
longer_more bs n b m (Ok s) = let e : n + (m + s.1) ≡ n + m + s.1 = omega arith in rw (e, append_assoc) refl
longer_more bs n b m (Err k) = refl

-- at least one step is left
step_left : (n k : ℕ) → k < n → (m : ℕ) × (n ≡ suc m)
step_left zero k h = absurd (omega (arith, h))
step_left (suc m) k h = (m, refl)

pub string_start : (all text : List ℕ) → text ≡ [] → SoFar all text all
string_start all text e =
    let z : length all - length all ≡ 0 = omega arith in
    let f : string_at all ≡ longer_by [] (length all - length all) (string_at all) = rw z (sym (longer_none (string_at all))) in
    let P : List ℕ → Type 0 = λ x. SoFar all x all in
    subst P (sym e) (length all + 1, omega arith, f)

-- the next step, whatever the character is
next_step : (all text rest : List ℕ) (s : SoFar all text rest) → (m : ℕ) × (s.0 ≡ suc m) × (string_at all ≡ longer_by text (length all - length rest) (string_from (suc m) rest))
next_step all text rest s =
    let l = step_left s.0 (length rest) s.1 in
    (l.0, l.1, s.2 ∙ ap (λ n. longer_by text (length all - length rest) (string_from n rest)) l.1)

-- one more byte of the string
pub string_more : (all text rest : List ℕ) (b used : ℕ) → length rest ≤ length all → SoFar all text rest → character_at rest ≡ Ok (Some (b, used)) → 0 < used → used ≤ length rest
    → SoFar all (text ++ b ∷ []) (drop used rest)
string_more all text rest b used w s e some fits =
    let l = next_step all text rest s in
    let d : length (drop used rest) ≡ length rest - used = length-drop used rest in
    let n : length all - length rest + used ≡ length all - length (drop used rest) = omega (arith, d, w, fits) in
    let step : string_from (suc l.0) rest ≡ longer b used (string_from l.0 (drop used rest)) = rw e refl in
    let f : string_at all ≡ longer_by (text ++ b ∷ []) (length all - length rest + used) (string_from l.0 (drop used rest)) =
    l.2 ∙ ap (longer_by text (length all - length rest)) step ∙ longer_more text (length all - length rest) b used (string_from l.0 (drop used rest)) in
    (l.0, (let i = s.1 in let j = l.1 in omega (arith, d, i, j, some, fits)), f ∙ ap (λ x. longer_by (text ++ b ∷ []) x (string_from l.0 (drop used rest))) n)

-- the string's end
pub string_end : (all text rest : List ℕ) → SoFar all text rest → character_at rest ≡ Ok None → string_at all ≡ Ok (text, length all - length rest + 1)
string_end all text rest s e =
    let l = next_step all text rest s in
    let step : string_from (suc l.0) rest ≡ Ok ([], 1) = rw e refl in
    l.2 ∙ ap (longer_by text (length all - length rest)) step ∙ ap (λ x. Ok (x, length all - length rest + 1)) (append-nil text)

-- a fault in it
pub string_stuck : (all text rest : List ℕ) → SoFar all text rest → (k : FaultKind) → character_at rest ≡ Err k → string_at all ≡ Err k
string_stuck all text rest s k e =
    let l = next_step all text rest s in
    let step : string_from (suc l.0) rest ≡ Err k = rw e refl in
    l.2 ∙ ap (longer_by text (length all - length rest)) step
