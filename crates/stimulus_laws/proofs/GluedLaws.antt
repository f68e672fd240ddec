-- What more bytes do to a refused text: nothing, but for Truncated.
use Rattle.std.proofs.Common.{◌≡◌, ◌≢◌, ℕ, suc, ◌<◌, Bool, true, false, cond, if◌then◌else◌, List, [], ◌∷◌, ◌++◌, length, Some, None, refl, sym, ap, ◌∙◌, arith, inl, inr, ◌⊎◌, length-append}
use Rattle.std.specs.Prelude.{Option, nat_lt, ◌==◌, ◌&&◌}
use Rattle.std.specs.Str.Lines.{strip_carriage_return}
use Rattle.std.specs.List.{slice_split, onto_first}
use Rattle.std.proofs.lemmas.List.Splits.{length-slice_split}
use Rattle.std.proofs.lemmas.Bool.Decides.{nat_tests}
use Rattle.stimulus.specs.declared.refusal.Input.{Input}
use Rattle.stimulus.specs.declared.refusal.Refusal.{Refusal}
use Rattle.stimulus.specs.declared.refusal.RefusalKind.{RefusalKind}
use Rattle.stimulus.specs.declared.refusal.RefusalKind.TheVariants as k
use Rattle.stimulus.specs.Stimulus.{Reading, rows, refused, stimulus, pieces, is_long, first_refusal, refusal_at, line_fault, content_fault, names_of, second, reading_of, IsOpen, MayGoOn}
use Rattle.stimulus.proofs.LineLaws.{step}

-- ---- pieces of a longer text

-- the pieces of a text and of more bytes behind it: the last piece goes on in the first of the others
abbrev glued : {X : Type 0} → List (List X) → List (List X) → List (List X)
glued [] qs = qs
glued (tail ∷ []) [] = tail ∷ []
glued (tail ∷ []) (q ∷ qs) = (tail ++ q) ∷ qs
glued (line ∷ next ∷ ps) qs = line ∷ glued (next ∷ ps) qs

glued_nil : {X : Type 0} → (qs : List (List X)) → 0 < length qs → glued ([] ∷ []) qs ≡ qs
glued_nil [] l = absurd (omega arith)
glued_nil (q ∷ qs) l = refl

glued_cond : {X : Type 0} (x : X) (b : Bool) (ps qs : List (List X)) → 0 < length ps
    → cond b ([] ∷ glued ps qs) (onto_first x (glued ps qs)) ≡ glued (cond b ([] ∷ ps) (onto_first x ps)) qs
glued_cond x b [] qs l = absurd (omega arith)
glued_cond x true (p ∷ ps) qs l = refl
glued_cond x false (p ∷ []) [] l = refl
glued_cond x false (p ∷ []) (q ∷ qs) l = refl
glued_cond x false (p ∷ next ∷ ps) qs l = refl

split_append : {X : Type 0} (p : X → Bool) (xs ys : List X) → slice_split p (xs ++ ys) ≡ glued (slice_split p xs) (slice_split p ys)
split_append p [] ys = sym (glued_nil (slice_split p ys) (omega (arith, length-slice_split p ys)))
split_append p (x ∷ xs) ys =
    ap (λ s. cond (p x) ([] ∷ s) (onto_first x s)) (split_append p xs ys)
    ∙ glued_cond x (p x) (slice_split p xs) (slice_split p ys) (omega (arith, length-slice_split p xs))

-- ---- a refusal stays

abbrev Longs : (ℕ → List ℕ → Option RefusalKind) → Type 0
Longs fault = (n : ℕ) (line : List ℕ) → is_long line ≡ true → fault n line ≡ Some k.LineTooLong

long_more : (tail more : List ℕ) → is_long tail ≡ true → is_long (tail ++ more) ≡ true
long_more tail more e = let l = length-append tail more in grind (arith, nat_tests, l)

glued_some : (p : List ℕ) (ps qs : List (List ℕ)) → 0 < length (glued (p ∷ ps) qs)
glued_some p [] [] = omega arith
glued_some p [] (q ∷ qs) = omega arith
glued_some p (next ∷ ps) qs = omega arith

kept : (n : ℕ) (o : Option RefusalKind) (x y : Option Refusal) (r : Refusal) → refusal_at n o x ≡ Some r → (x ≡ Some r → y ≡ Some r) → refusal_at n o y ≡ Some r
kept n (Some kind) x y r e f = e
kept n None x y r e f = f e

-- what stands behind the last LF is too long, and stays so
tail_long : (n : ℕ) (tail : List ℕ) (b last : Bool) (r : Refusal)
    → refusal_at n (if b then Some k.LineTooLong else (if last then None else Some k.Truncated)) None ≡ Some r → r.kind ≢ k.Truncated
    → (b ≡ true) × (refusal_at n (Some k.LineTooLong) None ≡ Some r)
tail_long n tail true last r e h = (refl, e)
tail_long n tail false true r e h = absurd cc
tail_long n tail false false r e h = let x : (record { kind = k.Truncated; line = suc n }) ≡ r = cc in absurd (h (ap (λ (y : Refusal). y.kind) (sym x)))

long_refused : (fault : ℕ → List ℕ → Option RefusalKind) (n : ℕ) (tail : List ℕ) (qs : List (List ℕ)) → Longs fault → is_long tail ≡ true
    → first_refusal fault n (tail ∷ qs) ≡ refusal_at n (Some k.LineTooLong) None
long_refused fault n tail [] longs e = ap (λ b. refusal_at n (if b then Some k.LineTooLong else (if nat_lt 1 n && (length tail == 0) then None else Some k.Truncated)) None) e
long_refused fault n tail (q ∷ qs) longs e = ap (λ o. refusal_at n o (first_refusal fault (suc n) (q ∷ qs))) (longs n tail e)

stays : (fault : ℕ → List ℕ → Option RefusalKind) → Longs fault → (n : ℕ) (ps qs : List (List ℕ)) (r : Refusal)
    → first_refusal fault n ps ≡ Some r → r.kind ≢ k.Truncated → first_refusal fault n (glued ps qs) ≡ Some r
stays fault longs n [] qs r e h = absurd cc
stays fault longs n (tail ∷ []) [] r e h = e
stays fault longs n (tail ∷ []) (q ∷ qs) r e h =
    let t = tail_long n tail (is_long tail) _ r e h in long_refused fault n (tail ++ q) qs longs (long_more tail q t.0) ∙ t.1
stays fault longs n (line ∷ next ∷ ps) qs r e h =
    step fault n line (glued (next ∷ ps) qs) (glued_some next ps qs)
    ∙ kept n (fault n line) (first_refusal fault (suc n) (next ∷ ps)) (first_refusal fault (suc n) (glued (next ∷ ps) qs)) r e (λ f. stays fault longs (suc n) (next ∷ ps) qs r f h)

line_longs : (inputs : List Input) (names : List (List ℕ)) → Longs (line_fault inputs names)
line_longs inputs names n line e = ap (λ b. if b then Some k.LineTooLong else content_fault inputs names n (strip_carriage_return line)) e

-- line 2 is judged before it is known whether more of it comes, only where an LF ends it
with_names : (inputs : List Input) (ps qs : List (List ℕ)) (r : Refusal)
    → first_refusal (line_fault inputs (names_of (second ps))) 0 ps ≡ Some r → r.kind ≢ k.Truncated
    → first_refusal (line_fault inputs (names_of (second (glued ps qs)))) 0 (glued ps qs) ≡ Some r
with_names inputs [] qs r e h = absurd cc
with_names inputs (tail ∷ []) qs r e h = stays (line_fault inputs (names_of (second (glued (tail ∷ []) qs)))) (line_longs inputs _) 0 (tail ∷ []) qs r e h
with_names inputs (line ∷ tail ∷ []) qs r e h =
    stays (line_fault inputs (names_of (second (glued (line ∷ tail ∷ []) qs)))) (line_longs inputs _) 0 (line ∷ tail ∷ []) qs r e h
with_names inputs (line ∷ next ∷ third ∷ ps) qs r e h = stays (line_fault inputs (names_of next)) (line_longs inputs _) 0 (line ∷ next ∷ third ∷ ps) qs r e h

refusal_is : (inputs : List Input) (ps : List (List ℕ)) (o : Option Refusal) (r : Refusal) → reading_of inputs ps o ≡ refused r → o ≡ Some r
refusal_is inputs ps (Some s) r e = cc
refusal_is inputs ps None r e = absurd cc

-- a refusal other than Truncated stays, whatever comes behind the bytes
pub stays_refused : (inputs : List Input) (bytes more : List ℕ) (r : Refusal) → stimulus inputs bytes ≡ refused r → r.kind ≢ k.Truncated
    → stimulus inputs (bytes ++ more) ≡ refused r
stays_refused inputs bytes more r e h =
    let g : pieces (bytes ++ more) ≡ glued (pieces bytes) (pieces more) = split_append (λ b. b == 10) bytes more in
    let f = with_names inputs (pieces bytes) (pieces more) r (refusal_is inputs (pieces bytes) _ r e) h in
    ap (λ ps. reading_of inputs ps (first_refusal (line_fault inputs (names_of (second ps))) 0 ps)) g ∙ ap (reading_of inputs (glued (pieces bytes) (pieces more))) f

is_truncated : (kind : RefusalKind) → (kind ≡ k.Truncated) ⊎ (kind ≢ k.Truncated)
is_truncated k.Truncated = inl refl
is_truncated k.LineTooLong = inr (λ e. absurd cc)
is_truncated k.BadHeader = inr (λ e. absurd cc)
is_truncated k.UnknownInput = inr (λ e. absurd cc)
is_truncated k.RepeatedInput = inr (λ e. absurd cc)
is_truncated k.MissingInput = inr (λ e. absurd cc)
is_truncated k.TooManyRows = inr (λ e. absurd cc)
is_truncated k.WrongCount = inr (λ e. absurd cc)
is_truncated k.BadValue = inr (λ e. absurd cc)
is_truncated k.TooLarge = inr (λ e. absurd cc)

open_or : (inputs : List Input) (taken rest : List ℕ) (x : Reading) (rs : List (List ℕ)) → stimulus inputs taken ≡ x → stimulus inputs (taken ++ rest) ≡ rows rs → IsOpen x
open_or inputs taken rest (rows qs) rs e f = tt
open_or inputs taken rest (refused r) rs e f = elim (is_truncated r.kind) [ inl t ↦ t | inr n ↦ let s = stays_refused inputs taken rest r e n in absurd cc ]

-- the front of an accepted text may go on
pub may_go_on : (inputs : List Input) (taken rest : List ℕ) (rs : List (List ℕ)) → stimulus inputs (taken ++ rest) ≡ rows rs → MayGoOn inputs taken
may_go_on inputs taken rest rs f = open_or inputs taken rest (stimulus inputs taken) rs refl f
