-- The reading of a text that begins with whole lines, none of which has a fault.
use Rattle.std.proofs.Common.{◌≡◌, ℕ, suc, ◌+◌, ◌<◌, ◌≤◌, Bool, true, false, if◌then◌else◌, List, [], ◌∷◌, ◌++◌, length, drop, map, Option, Some, None, refl, sym, ap, ◌∙◌, subst, arith, append_assoc, append-nil, length-append}
use Rattle.std.specs.Prelude.{nat_lt, ◌==◌, ◌&&◌}
use Rattle.std.proofs.lemmas.Bool.Decides.{nat_tests}
use Rattle.std.proofs.lemmas.List.Splits.{slice_split_at, slice_split_none, length-slice_split}
use Rattle.stimulus.specs.declared.refusal.Input.{Input}
use Rattle.stimulus.specs.declared.refusal.RefusalKind.{RefusalKind}
use Rattle.stimulus.specs.declared.refusal.RefusalKind.TheVariants as k
use Rattle.stimulus.specs.Stimulus.{rows, refused, stimulus, pieces, is_long, line_fault, tail_fault, refusal_at, first_refusal, rows_of, row_of, second, names_of, reading_of, IsOpen, MayGoOn}
use Rattle.stimulus.specs.Lines.{IsPlain, ArePlain, text_of, HavePassed}

some_pieces : (bytes : List ℕ) → 0 < length (pieces bytes)
some_pieces bytes = let l = length-slice_split (λ b. b == 10) bytes in omega (arith, l)

-- the pieces of a text that begins with lines
pieces_lines : (lines : List (List ℕ)) (rest : List ℕ) → ArePlain lines → pieces (text_of lines ++ rest) ≡ lines ++ pieces rest
pieces_lines [] rest p = refl
pieces_lines (l ∷ ls) rest p =
    ap pieces (append_assoc l (10 ∷ text_of ls) rest) ∙ slice_split_at (λ b. b == 10) l 10 (text_of ls ++ rest) p.0 refl
    ∙ ap (λ ps. l ∷ ps) (pieces_lines ls rest p.1)

-- a line that others follow
pub step : (fault : ℕ → List ℕ → Option RefusalKind) (n : ℕ) (line : List ℕ) (ps : List (List ℕ)) → 0 < length ps
    → first_refusal fault n (line ∷ ps) ≡ refusal_at n (fault n line) (first_refusal fault (suc n) ps)
step fault n line [] l = absurd (omega arith)
step fault n line (p ∷ ps) l = refl

-- lines that have passed are passed over
walk : (fault : ℕ → List ℕ → Option RefusalKind) (n : ℕ) (lines ps : List (List ℕ)) → 0 < length ps → HavePassed fault n lines
    → first_refusal fault n (lines ++ ps) ≡ first_refusal fault (n + length lines) ps
walk fault n [] ps some h = let e : n ≡ n + 0 = omega arith in ap (λ m. first_refusal fault m ps) e
walk fault n (l ∷ ls) ps some h =
    let more : 0 < length (ls ++ ps) = omega (arith, length-append ls ps) in
    let e : suc n + length ls ≡ n + suc (length ls) = omega arith in
    step fault n l (ls ++ ps) more ∙ ap (λ o. refusal_at n o (first_refusal fault (suc n) (ls ++ ps))) h.0
    ∙ walk fault (suc n) ls ps some h.1 ∙ ap (λ m. first_refusal fault m ps) e

-- lines 1 and 2 are judged without the names
renamed : (inputs : List Input) (lines ps : List (List ℕ)) → HavePassed (line_fault inputs (names_of (second lines))) 0 lines
    → HavePassed (line_fault inputs (names_of (second (lines ++ ps)))) 0 lines
renamed inputs [] ps h = tt
renamed inputs (l ∷ []) ps h = h
renamed inputs (l ∷ m ∷ ls) ps h = h

same_fault : (inputs : List Input) (lines ps : List (List ℕ)) (line : List ℕ)
    → line_fault inputs (names_of (second (lines ++ ps))) (length lines) line ≡ line_fault inputs (names_of (second lines)) (length lines) line
same_fault inputs [] ps line = refl
same_fault inputs (l ∷ []) ps line = refl
same_fault inputs (l ∷ m ∷ ls) ps line = refl

-- the names, once line 2 is there
abbrev names_in : List (List ℕ) → List (List ℕ)
names_in lines = names_of (second lines)

reading : (inputs : List Input) (lines : List (List ℕ)) (rest : List ℕ) → ArePlain lines → HavePassed (line_fault inputs (names_in lines)) 0 lines
    → stimulus inputs (text_of lines ++ rest)
    ≡ reading_of inputs (lines ++ pieces rest) (first_refusal (line_fault inputs (names_in (lines ++ pieces rest))) (length lines) (pieces rest))
reading inputs lines rest plain passed =
    let none : 0 + length lines ≡ length lines = omega arith in
    ap (λ ps. reading_of inputs ps (first_refusal (line_fault inputs (names_in ps)) 0 ps)) (pieces_lines lines rest plain)
    ∙ ap (reading_of inputs (lines ++ pieces rest)) (walk (line_fault inputs (names_in (lines ++ pieces rest))) 0 lines (pieces rest) (some_pieces rest) (renamed inputs lines (pieces rest) passed)
    ∙ ap (λ m. first_refusal (line_fault inputs (names_in (lines ++ pieces rest))) m (pieces rest)) none)

-- a line with a fault after lines without
pub bad_line : (inputs : List Input) (lines : List (List ℕ)) (line more : List ℕ) (kind : RefusalKind) → ArePlain lines
    → HavePassed (line_fault inputs (names_in lines)) 0 lines → IsPlain line → line_fault inputs (names_in lines) (length lines) line ≡ Some kind
    → stimulus inputs (text_of lines ++ (line ++ 10 ∷ more)) ≡ refused (record { kind = kind; line = suc (length lines) })
bad_line inputs lines line more kind plain passed p e =
    let split : pieces (line ++ 10 ∷ more) ≡ line ∷ pieces more = slice_split_at (λ b. b == 10) line 10 more p refl in
    let ps = lines ++ line ∷ pieces more in
    reading inputs lines (line ++ 10 ∷ more) plain passed
    ∙ ap (λ q. reading_of inputs (lines ++ q) (first_refusal (line_fault inputs (names_in (lines ++ q))) (length lines) q)) split
    ∙ ap (reading_of inputs ps) (step (line_fault inputs (names_in ps)) (length lines) line (pieces more) (some_pieces more)
    ∙ ap (λ o. refusal_at (length lines) o (first_refusal (line_fault inputs (names_in ps)) (suc (length lines)) (pieces more))) (same_fault inputs lines (line ∷ pieces more) line ∙ e))

-- what stands after the last LF
tail_reading : (inputs : List Input) (lines : List (List ℕ)) (tail : List ℕ) → ArePlain lines → HavePassed (line_fault inputs (names_in lines)) 0 lines
    → IsPlain tail
    → stimulus inputs (text_of lines ++ tail) ≡ reading_of inputs (lines ++ tail ∷ []) (refusal_at (length lines) (tail_fault (length lines) tail) None)
tail_reading inputs lines tail plain passed p =
    reading inputs lines tail plain passed
    ∙ ap (λ q. reading_of inputs (lines ++ q) (first_refusal (line_fault inputs (names_in (lines ++ q))) (length lines) q)) (slice_split_none (λ b. b == 10) tail p)

pub bad_tail : (inputs : List Input) (lines : List (List ℕ)) (tail : List ℕ) (kind : RefusalKind) → ArePlain lines
    → HavePassed (line_fault inputs (names_in lines)) 0 lines → IsPlain tail → tail_fault (length lines) tail ≡ Some kind
    → stimulus inputs (text_of lines ++ tail) ≡ refused (record { kind = kind; line = suc (length lines) })
bad_tail inputs lines tail kind plain passed p e =
    tail_reading inputs lines tail plain passed p ∙ ap (λ o. reading_of inputs (lines ++ tail ∷ []) (refusal_at (length lines) o None)) e

open_if : (inputs : List Input) (ps : List (List ℕ)) (n : ℕ) (b : Bool)
    → IsOpen (reading_of inputs ps (refusal_at n (if b then None else Some k.Truncated) None))
open_if inputs ps n true = tt
open_if inputs ps n false = refl

-- bytes after lines without a fault, with no LF, and not too many
pub open_tail : (inputs : List Input) (lines : List (List ℕ)) (tail : List ℕ) → ArePlain lines → HavePassed (line_fault inputs (names_in lines)) 0 lines
    → IsPlain tail → is_long tail ≡ false → MayGoOn inputs (text_of lines ++ tail)
open_tail inputs lines tail plain passed p short =
    let ps = lines ++ tail ∷ [] in
    let n = length lines in
    let e : tail_fault n tail ≡ (if nat_lt 1 n && (length tail == 0) then None else Some k.Truncated) =
    ap (λ b. if b then Some k.LineTooLong else (if nat_lt 1 n && (length tail == 0) then None else Some k.Truncated)) short in
    subst IsOpen (sym (tail_reading inputs lines tail plain passed p ∙ ap (λ o. reading_of inputs ps (refusal_at n o None)) e))
    (open_if inputs ps n (nat_lt 1 n && (length tail == 0)))

rows_passed : (inputs : List Input) (names lines : List (List ℕ)) (tail : List ℕ) → rows_of inputs names (lines ++ tail ∷ []) ≡ map (row_of inputs names) lines
rows_passed inputs names [] tail = refl
rows_passed inputs names (l ∷ []) tail = refl
rows_passed inputs names (l ∷ m ∷ ls) tail = ap (λ rs. row_of inputs names l ∷ rs) (rows_passed inputs names (m ∷ ls) tail)

more_than_one : (n : ℕ) → nat_lt 1 (suc (suc n)) ≡ true
more_than_one n = grind (arith, nat_tests)

-- a whole text
pub whole : (inputs : List Input) (lines : List (List ℕ)) → ArePlain lines → HavePassed (line_fault inputs (names_in lines)) 0 lines → 2 ≤ length lines
    → stimulus inputs (text_of lines) ≡ rows (map (row_of inputs (names_in lines)) (drop 2 lines))
whole inputs [] plain passed two = absurd (omega arith)
whole inputs (l ∷ []) plain passed two = absurd (omega arith)
whole inputs (l ∷ m ∷ ls) plain passed two =
    ap (stimulus inputs) (sym (append-nil (text_of (l ∷ m ∷ ls))))
    ∙ tail_reading inputs (l ∷ m ∷ ls) [] plain passed (λ j d less. absurd (omega arith))
    ∙ ap (λ b. reading_of inputs ((l ∷ m ∷ ls) ++ [] ∷ []) (refusal_at (length (l ∷ m ∷ ls)) (if b && true then None else Some k.Truncated) None)) (more_than_one (length ls))
    ∙ ap rows (rows_passed inputs (names_of m) ls [])
