-- Lines and gaps, one piece on; pieces by what they begin with.
use Rattle.std.proofs.Common.{◌≡◌, ℕ, zero, suc, ◌-◌, ◌<◌, Bool, true, false, List, [], ◌∷◌, drop, length, refl, ap, sym, subst, ◌∙◌, arith, if◌then◌else◌}
use Rattle.std.specs.Prelude.{Option, Some, None, Result, Ok, Err, codes}
use Rattle.std.proofs.lemmas.List.{length-map}
use Rattle.vl_pre.specs.declared.pieces.First.{First}
use Rattle.vl_pre.specs.declared.pieces.First.TheVariants.{LineComment, BlockComment, Quote, Backslash, Tick, Plain}
use Rattle.vl_tree.specs.declared.fault.StaticFault.{StaticFault}
use Rattle.vl_pre.specs.declared.lines.InLine as next
use Rattle.vl_pre.specs.declared.names.Ticked as tick
use Rattle.vl_pre.specs.declared.names.Ticked.TheVariants as v
use Rattle.vl_pre.specs.Bytes.{Text, Placed, bytes, begins, name_at}
use Rattle.vl_tree.specs.declared.fault.FaultKind.TheVariants.{BadDirective}
use Rattle.vl_pre.specs.Pieces.{line_comment, block_comment, continued, inside, Part, Fault, fault, gives, stops, go_on, and_then, from_stop, after_block, blank, in_line, kept, kept_length, rest_of_line}
use Rattle.vl_pre.specs.Directives.{Ticked, no_name, a_directive, a_macro, ticked, at_gap, after_one, after_gap, macro_name, name_of}
use Rattle.vl_pre.specs.Calls.Views.{head_of, in_line_of, ticked_of}
use Rattle.vl_pre.specs.Calls.Reading.{HasFault, PartHasFault, Keeps, next_in_line, piece_at, piece_in_line, head_line}
use Rattle.vl_pre.specs.Bytes.{ends_line}

pub length-bytes : (ts : Text) → length (bytes ts) ≡ length ts
length-bytes ts = length-map ts (λ (c : Placed). c.byte)

pub some_left : (ts : Text) → ends_line (bytes ts) ≡ false → 0 < length ts
some_left [] e = absurd cc
some_left (c ∷ ts) e = omega arith

-- ---- the rest of a line

pub rest_more : (n : ℕ) (k : Bool) (ts : Text) → 0 < n → ends_line (bytes ts) ≡ false → rest_of_line n k ts ≡ go_on (next_in_line k ts) (rest_of_line (n - 1) k)
rest_more zero k ts some e = absurd (omega (arith, some))
rest_more (suc m) k [] some e = absurd cc
rest_more (suc m) k (c ∷ ts) some e = let less : suc m - 1 ≡ m = omega arith in rw (e, less) refl

pub rest_ended : (n : ℕ) (k : Bool) (ts : Text) → ends_line (bytes ts) ≡ true → rest_of_line n k ts ≡ gives [] ts
rest_ended zero k [] e = refl
rest_ended zero k (c ∷ ts) e = refl
rest_ended (suc m) k [] e = refl
rest_ended (suc m) k (c ∷ ts) e = rw e refl

-- ---- gaps

pub gap_more : (n : ℕ) (ts us : Text) → 0 < n → at_gap (bytes ts) ≡ true → after_one (begins (codes "/*") (bytes ts)) ts ≡ Ok us → after_gap n ts ≡ after_gap (n - 1) us
gap_more zero ts us some e h = absurd (omega (arith, some))
gap_more (suc m) [] us some e h = absurd cc
gap_more (suc m) (c ∷ ts) us some e h =
    let less : suc m - 1 ≡ m = omega arith in
    let next : after_gap (suc m) (c ∷ ts) ≡ and_then (after_one (begins (codes "/*") (bytes (c ∷ ts))) (c ∷ ts)) (after_gap m) = rw e refl in
    next ∙ ap (λ r. and_then r (after_gap m)) h ∙ ap (λ x. after_gap x us) (sym less)

pub gap_fault : (n : ℕ) (ts : Text) (o : Option Fault) → 0 < n → at_gap (bytes ts) ≡ true → HasFault (after_one (begins (codes "/*") (bytes ts)) ts) o → HasFault (after_gap n ts) o
gap_fault n ts None some e h = tt
gap_fault zero ts (Some f) some e h = absurd (omega (arith, some))
gap_fault (suc m) [] (Some f) some e h = absurd cc
gap_fault (suc m) (c ∷ ts) (Some f) some e h =
    let next : after_gap (suc m) (c ∷ ts) ≡ and_then (after_one (begins (codes "/*") (bytes (c ∷ ts))) (c ∷ ts)) (after_gap m) = rw e refl in
    next ∙ ap (λ r. and_then r (after_gap m)) h

pub gap_ended : (n : ℕ) (ts : Text) → at_gap (bytes ts) ≡ false → after_gap n ts ≡ Ok ts
gap_ended zero [] e = refl
gap_ended zero (c ∷ ts) e = refl
gap_ended (suc m) [] e = refl
gap_ended (suc m) (c ∷ ts) e = rw e refl

-- ---- faults of what comes first

pub fault_then : {X Y : Type 0} (r : Result X Fault) (more : X → Result Y Fault) (o : Option Fault) → HasFault r o → HasFault (and_then r more) o
fault_then r more None h = tt
fault_then r more (Some f) h = ap (λ x. and_then x more) h

-- ---- the NAME of a directive

-- a use of a macro by the code's word and by the definition's
pub macro_tick : (t : tick.Ticked) (x : Ticked) → ticked_of t ≡ x → t ≡ v.Macro → x ≡ a_macro
macro_tick t x e is = sym e ∙ ap ticked_of is

pub no_macro_tick : (t : tick.Ticked) (x : Ticked) → ticked_of t ≡ x → (t ≡ v.Macro → ⊥) → x ≡ a_macro → ⊥
no_macro_tick v.NoName x e other is = let f : no_name ≡ a_macro = e ∙ is in cc
no_macro_tick (v.Named d) x e other is = let f : a_directive _ ≡ a_macro = e ∙ is in cc
no_macro_tick v.Macro x e other is = other refl

pub name_found : (line : ℕ) (ts rest new : Text) (name : List ℕ) (t : tick.Ticked) → after_gap (length ts) ts ≡ Ok rest → name ≡ name_at rest → ticked_of t ≡ ticked name → t ≡ v.Macro → new ≡ drop (length name) rest
    → name_of line ts ≡ Ok (name, new)
name_found line ts rest new name t gap is found macro left =
    let found_macro : ticked (name_at rest) ≡ a_macro = ap ticked (sym is) ∙ macro_tick t (ticked name) found macro in
    ap (λ r. and_then r (λ (us : Text). macro_name line (ticked (name_at us)) us)) gap ∙ ap (λ t. macro_name line t rest) found_macro
    ∙ (λ i. Ok (sym is i, (ap (λ n. drop (length n) rest) (sym is) ∙ sym left) i))

no_macro : (line : ℕ) (t : Ticked) (ts : Text) → (t ≡ a_macro → ⊥) → macro_name line t ts ≡ Err (fault BadDirective line)
no_macro line no_name ts other = refl
no_macro line (a_directive d) ts other = refl
no_macro line a_macro ts other = absurd (other refl)

pub name_missing : (line : ℕ) (ts rest : Text) (name : List ℕ) (t : tick.Ticked) → after_gap (length ts) ts ≡ Ok rest → name ≡ name_at rest → ticked_of t ≡ ticked name → (t ≡ v.Macro → ⊥)
    → name_of line ts ≡ Err (fault BadDirective line)
name_missing line ts rest name t gap is found other =
    ap (λ r. and_then r (λ (us : Text). macro_name line (ticked (name_at us)) us)) gap
    ∙ no_macro line (ticked (name_at rest)) rest (λ e. no_macro_tick t (ticked name) found other (ap ticked is ∙ e))

-- ---- pieces

pub keeps_as : (old new : List ℕ) (rest : Text) (p q : Part) (r : Result (Unit {0}) StaticFault) → p ≡ q → Keeps old new rest q r → Keeps old new rest p r
keeps_as old new rest p q r e k = let P : Part → Type 0 = λ x. Keeps old new rest x r in subst P (sym e) k

-- a backslash that continues a line
pub continued_piece : (k : Bool) (ts us new : Text) (c : Placed) → ts ≡ c ∷ us → new ≡ drop (if begins (10 ∷ []) (bytes us) then 1 else 2) us → piece_in_line continued k ts ≡ gives (blank c.line) new
continued_piece k ts us new c e left = ap (piece_in_line continued k) e ∙ ap (gives (blank c.line)) (sym left)

-- a comment to the end of a line is no part of it, and else a blank
pub line_comment_piece : (k : Bool) (ts new : Text) → 0 < length ts → new ≡ from_stop k (drop 1 ts) → piece_in_line (inside line_comment) k ts ≡ gives [] new
line_comment_piece k [] new some e = absurd (omega (arith, some))
line_comment_piece k (c ∷ ts) new some e = ap (gives []) (sym e)

pub line_comment_blank : (k : Bool) (ts us new : Text) (c : Placed) → ts ≡ c ∷ us → new ≡ from_stop k us → piece_at k line_comment ts ≡ gives (blank c.line) new
line_comment_blank k ts us new c is e = ap (piece_at k line_comment) is ∙ ap (gives (blank c.line)) (sym e)

-- any other comment is a blank
pub block_blank : (k : Bool) (ts new : Text) (line : ℕ) → 0 < length ts → after_block ts ≡ Ok new → line ≡ head_line ts → piece_at k block_comment ts ≡ gives (blank line) new
block_blank k [] new line some e l = absurd (omega (arith, some))
block_blank k (c ∷ ts) new line some e l = rw e (ap (λ x. gives (blank x) new) (sym l))

pub block_open : (k : Bool) (ts : Text) (f : Fault) → 0 < length ts → after_block ts ≡ Err f → piece_at k block_comment ts ≡ stops f
block_open k [] f some e = absurd (omega (arith, some))
block_open k (c ∷ ts) f some e = rw e refl

-- all else is kept
pub kept_piece : (k : Bool) (f : First) (ts : Text) → 0 < length ts → (f ≡ LineComment → ⊥) → (f ≡ BlockComment → ⊥) → piece_at k (head_of f) ts ≡ kept (kept_length k (head_of f) (bytes ts)) ts
kept_piece k f [] some a b = absurd (omega (arith, some))
kept_piece k LineComment (c ∷ ts) some a b = absurd (a refl)
kept_piece k BlockComment (c ∷ ts) some a b = absurd (b refl)
kept_piece k Quote (c ∷ ts) some a b = refl
kept_piece k Backslash (c ∷ ts) some a b = refl
kept_piece k Tick (c ∷ ts) some a b = refl
kept_piece k Plain (c ∷ ts) some a b = refl

-- in a line it is the same
pub same_piece : (k : Bool) (f : First) (ts : Text) → (f ≡ LineComment → ⊥) → piece_in_line (inside (head_of f)) k ts ≡ piece_at k (head_of f) ts
same_piece k f [] a = refl
same_piece k LineComment (c ∷ ts) a = absurd (a refl)
same_piece k BlockComment (c ∷ ts) a = refl
same_piece k Quote (c ∷ ts) a = refl
same_piece k Backslash (c ∷ ts) a = refl
same_piece k Tick (c ∷ ts) a = refl
same_piece k Plain (c ∷ ts) a = refl

pub block_in_line_open : (k : Bool) (ts : Text) (o : Option Fault) → 0 < length ts → HasFault (after_block ts) o → PartHasFault (piece_in_line (inside block_comment) k ts) o
block_in_line_open k ts None some h = tt
block_in_line_open k [] (Some f) some h = absurd (omega (arith, some))
block_in_line_open k (c ∷ ts) (Some f) some h = rw h refl

pub next_piece : (k : Bool) (ts : Text) (i : next.InLine) → in_line_of i ≡ in_line k (bytes ts) → next_in_line k ts ≡ piece_in_line (in_line_of i) k ts
next_piece k [] i e = refl
next_piece k (c ∷ ts) i e = ap (λ x. piece_in_line x k (c ∷ ts)) (sym e)
