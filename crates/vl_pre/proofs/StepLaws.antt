-- Each step takes a byte at least.
use Rattle.std.proofs.Common.{◌≡◌, ◌≤◌, ◌<◌, ◌-◌, ℕ, zero, suc, Bool, true, false, List, [], ◌∷◌, take, drop, length, refl, sym, subst, ap, ◌∙◌, arith, if◌then◌else◌}
use Rattle.std.specs.Prelude.{Option, Some, None, Result, Ok, Err, codes}
use Rattle.std.proofs.lemmas.List.{length-drop}
use Rattle.vl_pre.specs.Bytes.{Text, Placed, bytes, begins, at_line_end, is_allowed, name_at}
use Rattle.vl_tree.specs.declared.fault.FaultKind.TheVariants.{BadByte}
use Rattle.vl_pre.specs.Pieces.{Head, line_comment, block_comment, a_string, escaped_name, a_backtick, any_other, InLine, continued, inside, Part, Fault, fault, before, go_on, and_then, stops_line, from_stop, after_close, closed, after_block, string_length, escaped_length, as_it_stands, kept, blank_before, piece, first, in_line, line_piece, rest_of_line}
use Rattle.vl_pre.specs.Directives.{Directive, define, undef, ifdef, ifndef, elsif, otherwise, endif, passed_over, include, Ticked, no_name, a_directive, a_macro, Condition, Context, After, went, is_read, at_gap, after_one, after_gap, ticked, macro_name, name_of, whole_by, line_of, define_by, branch_by, branch_step, may_turn, elsif_by, close_step, directive_step, is_conditional}
use Rattle.vl_pre.specs.CleanText.{reading_from, body_tick, body_piece, body_reading, nothing, tick_step, read_step, skipped_directive, skipped_tick, skipped_step, step}
use Rattle.vl_pre.specs.Calls.Reading.{HasFault, PartHasFault, Kept, Wrote, next_in_line, step_at, body_piece_at}
use Rattle.vl_pre.specs.Bytes.{ends_line}
use Rattle.vl_pre.proofs.CursorLaws.{at_close, close_here, close_next}
use Rattle.vl_pre.proofs.LineLaws.{gap_ended, gap_more, gap_fault, some_left, rest_more}
use Rattle.vl_pre.proofs.BlankLaws.{sound_parts}
use Rattle.vl_pre.proofs.WriteLaws.{Leads, leads_as, leads_more, Collects, collects_as, collects_more, collects_stop, fault_first, goes}
use Rattle.vl_pre.proofs.MacroLaws.{body_more}
use Rattle.vl_pre.proofs.ReadingLaws.{reading_more}

-- ---- pieces

stop_by : (k : Bool) (c : Placed) (ts : Text) (b : Bool) → stops_line k (bytes (c ∷ ts)) ≡ b → length (from_stop k ts) ≤ length ts → length (from_stop k (c ∷ ts)) ≤ suc (length ts)
stop_by k c ts true e h = rw e (omega arith)
stop_by k c ts false e h = rw e (omega (arith, h))

stop_length : (k : Bool) (ts : Text) → length (from_stop k ts) ≤ length ts
stop_length k [] = omega arith
stop_length k (c ∷ ts) = stop_by k c ts (stops_line k (bytes (c ∷ ts))) refl (stop_length k ts)

some_is : (x y : Text) → Some x ≡ Some y → x ≡ y
some_is x y e = cc

ok_is : {X : Type 0} (x y : X) → (let a : Result X Fault = Ok x in a) ≡ Ok y → x ≡ y
ok_is x y e = cc

close_by : (c : Placed) (ts us : Text) (b : Bool) → at_close (c ∷ ts) ≡ b → after_close (c ∷ ts) ≡ Some us → (after_close ts ≡ Some us → length us ≤ length ts) → length us ≤ suc (length ts)
close_by c ts us true h e ih = let i = ap length (some_is (drop 2 (c ∷ ts)) us (sym (close_here (c ∷ ts) h) ∙ e)) in let d = length-drop 1 ts in omega (arith, i, d)
close_by c ts us false h e ih = let i = ih (sym (close_next (c ∷ ts) ts c refl h) ∙ e) in omega (arith, i)

close_length : (ts us : Text) → after_close ts ≡ Some us → length us ≤ length ts
close_length [] us e = absurd cc
close_length (c ∷ ts) us e = close_by c ts us (at_close (c ∷ ts)) refl e (close_length ts us)

block_by : (c : Placed) (ts us : Text) (o : Option Text) → after_close (drop 1 ts) ≡ o → closed c.line o ≡ Ok us → length us ≤ length ts
block_by c ts us None h e = absurd cc
block_by c ts us (Some vs) h e = let i = ap length (ok_is vs us e) in let j = close_length (drop 1 ts) vs h in let d = length-drop 1 ts in omega (arith, i, j, d)

pub block_length : (c : Placed) (ts us : Text) → after_block (c ∷ ts) ≡ Ok us → length us ≤ length ts
block_length c ts us e = block_by c ts us (after_close (drop 1 ts)) refl e

stands_by : (c : Placed) (xs rest : Text) (b : Bool) → is_allowed c.byte ≡ b → (as_it_stands (c ∷ xs) rest).fault ≡ None → ((as_it_stands xs rest).fault ≡ None → (as_it_stands xs rest).rest ≡ rest)
    → (as_it_stands (c ∷ xs) rest).rest ≡ rest
stands_by c xs rest true e h ih = let one : as_it_stands (c ∷ xs) rest ≡ before (c ∷ []) (as_it_stands xs rest) = rw e refl in
    ap (λ (p : Part). p.rest) one ∙ ih (ap (λ (p : Part). p.fault) (sym one) ∙ h)
stands_by c xs rest false e h ih = let one : (as_it_stands (c ∷ xs) rest).fault ≡ Some (fault BadByte c.line) = rw e refl in absurd (let x = sym one ∙ h in cc)

stands_rest : (xs rest : Text) → (as_it_stands xs rest).fault ≡ None → (as_it_stands xs rest).rest ≡ rest
stands_rest [] rest h = refl
stands_rest (c ∷ xs) rest h = stands_by c xs rest (is_allowed c.byte) refl h (stands_rest xs rest)

kept_shorter : (j : ℕ) (c : Placed) (ts : Text) → (kept (suc j) (c ∷ ts)).fault ≡ None → length (kept (suc j) (c ∷ ts)).rest ≤ length ts
kept_shorter j c ts h = let r = ap length (stands_rest (take (suc j) (c ∷ ts)) (drop (suc j) (c ∷ ts)) h) in let d = length-drop j ts in omega (arith, r, d)

blank_length : (c : Placed) (ts : Text) (r : Result Text Fault) → after_block (c ∷ ts) ≡ r → (blank_before c.line r).fault ≡ None → length (blank_before c.line r).rest ≤ length ts
blank_length c ts (Ok us) e h = block_length c ts us e
blank_length c ts (Err f) e h = absurd cc

pub piece_length : (k : Bool) (f : Head) (c : Placed) (ts : Text) → (piece k f c ts).fault ≡ None → length (piece k f c ts).rest ≤ length ts
piece_length k line_comment c ts h = stop_length k ts
piece_length k block_comment c ts h = blank_length c ts (after_block (c ∷ ts)) refl h
piece_length k a_string c ts h = kept_shorter (string_length k false (bytes ts)) c ts h
piece_length k escaped_name c ts h = kept_shorter (escaped_length k (bytes ts)) c ts h
piece_length k a_backtick c ts h = kept_shorter 0 c ts h
piece_length k any_other c ts h = kept_shorter 0 c ts h

-- ---- lines

in_line_length : (i : InLine) (k : Bool) (c : Placed) (ts : Text) → (line_piece i k c ts).fault ≡ None → length (line_piece i k c ts).rest ≤ length ts
in_line_length continued k c ts h = let d = length-drop (if begins (10 ∷ []) (bytes ts) then 1 else 2) ts in omega (arith, d)
in_line_length (inside line_comment) k c ts h = stop_length k ts
in_line_length (inside block_comment) k c ts h = piece_length k block_comment c ts h
in_line_length (inside a_string) k c ts h = piece_length k a_string c ts h
in_line_length (inside escaped_name) k c ts h = piece_length k escaped_name c ts h
in_line_length (inside a_backtick) k c ts h = piece_length k a_backtick c ts h
in_line_length (inside any_other) k c ts h = piece_length k any_other c ts h

rest_by : (n : ℕ) (k : Bool) (c : Placed) (ts : Text) (b : Bool) → at_line_end (bytes (c ∷ ts)) ≡ b → (rest_of_line (suc n) k (c ∷ ts)).fault ≡ None
    → ((us : Text) → (rest_of_line n k us).fault ≡ None → length (rest_of_line n k us).rest ≤ length us) → length (rest_of_line (suc n) k (c ∷ ts)).rest ≤ suc (length ts)
rest_by n k c ts true e h ih = rw e (omega arith)
rest_by n k c ts false e h ih =
    let p : Part = line_piece (in_line k (bytes (c ∷ ts))) k c ts in
    let one : rest_of_line (suc n) k (c ∷ ts) ≡ go_on p (rest_of_line n k) = rw e refl in
    let both = sound_parts p (rest_of_line n k) (ap (λ (x : Part). x.fault) (sym one) ∙ h) in
    let whole = ap (λ (x : Part). length x.rest) (one ∙ goes p (rest_of_line n k) both.0) in
    let i = in_line_length (in_line k (bytes (c ∷ ts))) k c ts both.0 in
    let j = ih p.rest both.1 in
    omega (arith, whole, i, j)

rest_length : (n : ℕ) (k : Bool) (ts : Text) → (rest_of_line n k ts).fault ≡ None → length (rest_of_line n k ts).rest ≤ length ts
rest_length zero k [] h = omega arith
rest_length zero k (c ∷ ts) h = omega arith
rest_length (suc n) k [] h = omega arith
rest_length (suc n) k (c ∷ ts) h = rest_by n k c ts (at_line_end (bytes (c ∷ ts))) refl h (λ us g. rest_length n k us g)

line_by : (p : Part) (o : Option Fault) (x : List ℕ × Text) → p.fault ≡ o → whole_by o p ≡ Ok x → (p.fault ≡ None) × (p.rest ≡ x.1)
line_by p None x e h = (e, let y : (bytes p.given, p.rest) ≡ x = cc in ap (λ (z : List ℕ × Text). z.1) y)
line_by p (Some f) x e h = absurd cc

line_length : (k : Bool) (ts : Text) (x : List ℕ × Text) → line_of k ts ≡ Ok x → length x.1 ≤ length ts
line_length k ts x e =
    let p : Part = rest_of_line (length ts) k ts in
    let b = line_by p p.fault x refl e in
    let i = rest_length (length ts) k ts b.0 in
    let j = ap length b.1 in omega (arith, i, j)

-- ---- names

then_ok : {X Y : Type 0} (r : Result X Fault) (more : X → Result Y Fault) (y : Y) → and_then r more ≡ Ok y → (x : X) × (r ≡ Ok x) × (more x ≡ Ok y)
then_ok (Ok x) more y e = (x, refl, e)
then_ok (Err f) more y e = absurd cc

one_length : (b : Bool) (c : Placed) (ts us : Text) → after_one b (c ∷ ts) ≡ Ok us → length us ≤ length ts
one_length true c ts us e = block_length c ts us e
one_length false c ts us e = let i = ap length (ok_is ts us e) in omega (arith, i)

gap_by : (n : ℕ) (c : Placed) (ts us : Text) (b : Bool) → at_gap (bytes (c ∷ ts)) ≡ b → after_gap (suc n) (c ∷ ts) ≡ Ok us → ((vs : Text) → after_gap n vs ≡ Ok us → length us ≤ length vs) → length us ≤ suc (length ts)
gap_by n c ts us false e h ih = let i = ap length (ok_is (c ∷ ts) us (sym (gap_ended (suc n) (c ∷ ts) e) ∙ h)) in omega (arith, i)
gap_by n c ts us true e h ih =
    let one : after_gap (suc n) (c ∷ ts) ≡ and_then (after_one (begins (codes "/*") (bytes (c ∷ ts))) (c ∷ ts)) (after_gap n) = rw e refl in
    let t = then_ok (after_one (begins (codes "/*") (bytes (c ∷ ts))) (c ∷ ts)) (after_gap n) us (sym one ∙ h) in
    let i = one_length (begins (codes "/*") (bytes (c ∷ ts))) c ts t.0 t.1 in
    let j = ih t.0 t.2 in omega (arith, i, j)

gap_length : (n : ℕ) (ts us : Text) → after_gap n ts ≡ Ok us → length us ≤ length ts
gap_length zero [] us e = let i = ap length (ok_is [] us e) in omega (arith, i)
gap_length zero (c ∷ ts) us e = let i = ap length (ok_is (c ∷ ts) us e) in omega (arith, i)
gap_length (suc n) [] us e = let i = ap length (ok_is [] us e) in omega (arith, i)
gap_length (suc n) (c ∷ ts) us e = gap_by n c ts us (at_gap (bytes (c ∷ ts))) refl e (λ vs g. gap_length n vs us g)

macro_length : (line : ℕ) (t : Ticked) (ts : Text) (n : List ℕ × Text) → macro_name line t ts ≡ Ok n → length n.1 ≤ length ts
macro_length line no_name ts n e = absurd cc
macro_length line (a_directive d) ts n e = absurd cc
macro_length line a_macro ts n e =
    let i = ap (λ (x : List ℕ × Text). length x.1) (ok_is (name_at ts, drop (length (name_at ts)) ts) n e) in let d = length-drop (length (name_at ts)) ts in omega (arith, i, d)

name_length : (line : ℕ) (ts : Text) (n : List ℕ × Text) → name_of line ts ≡ Ok n → length n.1 ≤ length ts
name_length line ts n e =
    let t = then_ok (after_gap (length ts) ts) (λ (rest : Text). macro_name line (ticked (name_at rest)) rest) n e in
    let i = gap_length (length ts) ts t.0 t.1 in
    let j = macro_length line (ticked (name_at t.0)) t.0 n t.2 in omega (arith, i, j)

-- ---- directives

went_rest : (context : Context) (rest : Text) (a : After) → went context rest ≡ Ok a → a.rest ≡ rest
went_rest context rest a e = let i = ok_is (record { context = context; rest = rest }) a e in ap (λ (x : After). x.rest) (sym i)

define_length : (b : Bool) (line : ℕ) (context : Context) (name : List ℕ) (ts : Text) (a : After) → define_by b line context name ts ≡ Ok a → length a.rest ≤ length ts
define_length true line context name ts a e = absurd cc
define_length false line context name ts a e =
    let t = then_ok (line_of true ts) _ a e in
    let i = ap length (went_rest _ t.0.1 a t.2) in
    let j = line_length true ts t.0 t.1 in omega (arith, i, j)

branch_by_rest : (b : Bool) (line : ℕ) (context : Context) (c : Condition) (cs : List Condition) (holds last : Bool) (rest : Text) (a : After) → branch_by b line context c cs holds last rest ≡ Ok a → a.rest ≡ rest
branch_by_rest true line context c cs holds last rest a e = absurd cc
branch_by_rest false line context c cs holds last rest a e = went_rest _ rest a e

branch_rest : (line : ℕ) (context : Context) (cs : List Condition) (holds last : Bool) (rest : Text) (a : After) → branch_step line context cs holds last rest ≡ Ok a → a.rest ≡ rest
branch_rest line context [] holds last rest a e = absurd cc
branch_rest line context (c ∷ cs) holds last rest a e = branch_by_rest c.had_else line context c cs holds last rest a e

close_rest : (line : ℕ) (context : Context) (cs : List Condition) (rest : Text) (a : After) → close_step line context cs rest ≡ Ok a → a.rest ≡ rest
close_rest line context [] rest a e = absurd cc
close_rest line context (c ∷ cs) rest a e = went_rest _ rest a e

-- after a NAME
named_length : (line : ℕ) (ts : Text) (more : List ℕ × Text → Result After Fault) (a : After) → and_then (name_of line ts) more ≡ Ok a
    → ((n : List ℕ × Text) → more n ≡ Ok a → length a.rest ≤ length n.1) → length a.rest ≤ length ts
named_length line ts more a e f =
    let t = then_ok (name_of line ts) more a e in
    let i = name_length line ts t.0 t.1 in
    let j = f t.0 t.2 in omega (arith, i, j)

same_length : (a : After) (ts : Text) → a.rest ≡ ts → length a.rest ≤ length ts
same_length a ts e = let i = ap length e in omega (arith, i)

elsif_length : (b : Bool) (line : ℕ) (context : Context) (ts : Text) (a : After) → elsif_by b line context ts ≡ Ok a → length a.rest ≤ length ts
elsif_length false line context ts a e = absurd cc
elsif_length true line context ts a e = named_length line ts _ a e (λ n h. same_length a n.1 (branch_rest line context context.conditions _ false n.1 a h))

pub directive_length : (d : Directive) (line : ℕ) (context : Context) (ts : Text) (a : After) → directive_step d line context ts ≡ Ok a → length a.rest ≤ length ts
directive_length define line context ts a e = named_length line ts _ a e (λ n h. define_length _ line context n.0 n.1 a h)
directive_length undef line context ts a e = named_length line ts _ a e (λ n h. same_length a n.1 (went_rest _ n.1 a h))
directive_length ifdef line context ts a e = named_length line ts _ a e (λ n h. same_length a n.1 (went_rest _ n.1 a h))
directive_length ifndef line context ts a e = named_length line ts _ a e (λ n h. same_length a n.1 (went_rest _ n.1 a h))
directive_length elsif line context ts a e = elsif_length (may_turn context.conditions) line context ts a e
directive_length otherwise line context ts a e = same_length a ts (branch_rest line context context.conditions true true ts a e)
directive_length endif line context ts a e = same_length a ts (close_rest line context context.conditions ts a e)
directive_length passed_over line context ts a e =
    let t = then_ok (line_of false ts) (λ (passed : List ℕ × Text). went context passed.1) a e in
    let i = ap length (went_rest context t.0.1 a t.2) in
    let j = line_length false ts t.0 t.1 in omega (arith, i, j)
directive_length include line context ts a e = absurd cc

-- ---- steps

nothing_length : (context : Context) (ts : Text) (r : Result After Fault) → ((a : After) → r ≡ Ok a → length a.rest ≤ length ts) → (nothing context r).part.fault ≡ None → length (nothing context r).part.rest ≤ length ts
nothing_length context ts (Ok a) f h = f a refl
nothing_length context ts (Err x) f h = absurd cc

ticked_length : (d : Directive) (line : ℕ) (context : Context) (ts : Text) (a : After) → directive_step d line context (drop (length (name_at ts)) ts) ≡ Ok a → length a.rest ≤ length ts
ticked_length d line context ts a e =
    let i = directive_length d line context (drop (length (name_at ts)) ts) a e in let j = length-drop (length (name_at ts)) ts in omega (arith, i, j)

tick_length : (t : Ticked) (line : ℕ) (context : Context) (ts : Text) → (tick_step t line context ts).part.fault ≡ None → length (tick_step t line context ts).part.rest ≤ length ts
tick_length no_name line context ts h = absurd cc
tick_length (a_directive d) line context ts h = nothing_length context ts (directive_step d line context (drop (length (name_at ts)) ts)) (ticked_length d line context ts) h
tick_length a_macro line context ts h = let d = length-drop (length (name_at ts)) ts in omega (arith, d)

read_length : (f : Head) (context : Context) (c : Placed) (ts : Text) → (read_step f context c ts).part.fault ≡ None → length (read_step f context c ts).part.rest ≤ length ts
read_length a_backtick context c ts h = tick_length (ticked (name_at ts)) c.line context ts h
read_length line_comment context c ts h = piece_length false line_comment c ts h
read_length block_comment context c ts h = piece_length false block_comment c ts h
read_length a_string context c ts h = piece_length false a_string c ts h
read_length escaped_name context c ts h = piece_length false escaped_name c ts h
read_length any_other context c ts h = piece_length false any_other c ts h

skipped_by : (b : Bool) (d : Directive) (line : ℕ) (context : Context) (ts : Text) (a : After) → skipped_directive b d line context ts ≡ Ok a → length a.rest ≤ length ts
skipped_by true d line context ts a e = ticked_length d line context ts a e
skipped_by false d line context ts a e = same_length a ts (went_rest context ts a e)

skipped_tick_length : (t : Ticked) (line : ℕ) (context : Context) (ts : Text) (a : After) → skipped_tick t line context ts ≡ Ok a → length a.rest ≤ length ts
skipped_tick_length (a_directive d) line context ts a e = skipped_by (is_conditional d) d line context ts a e
skipped_tick_length no_name line context ts a e = same_length a ts (went_rest context ts a e)
skipped_tick_length a_macro line context ts a e = same_length a ts (went_rest context ts a e)

skipped_length : (f : Head) (context : Context) (c : Placed) (ts : Text) (a : After) → skipped_step f context c ts ≡ Ok a → length a.rest ≤ length ts
skipped_length line_comment context c ts a e = let i = ap length (went_rest context (from_stop false ts) a e) in let j = stop_length false ts in omega (arith, i, j)
skipped_length block_comment context c ts a e =
    let t = then_ok (after_block (c ∷ ts)) (went context) a e in let i = ap length (went_rest context t.0 a t.2) in let j = block_length c ts t.0 t.1 in omega (arith, i, j)
skipped_length a_string context c ts a e =
    let n = string_length false false (bytes ts) in
    let i = ap length (went_rest context (drop n ts) a e) in let j = length-drop n ts in omega (arith, i, j)
skipped_length a_backtick context c ts a e = skipped_tick_length (ticked (name_at ts)) c.line context ts a e
skipped_length escaped_name context c ts a e = same_length a ts (went_rest context ts a e)
skipped_length any_other context c ts a e = same_length a ts (went_rest context ts a e)

pub step_length : (b : Bool) (context : Context) (c : Placed) (ts : Text) → (step b context c ts).part.fault ≡ None → length (step b context c ts).part.rest ≤ length ts
step_length true context c ts h = read_length (first (bytes (c ∷ ts))) context c ts h
step_length false context c ts h = nothing_length context ts (skipped_step (first (bytes (c ∷ ts))) context c ts) (skipped_length (first (bytes (c ∷ ts))) context c ts) h

-- ---- the loop

pub step_at_length : (b : Bool) (context : Context) (ts : Text) → 0 < length ts → (step_at b context ts).part.fault ≡ None → length (step_at b context ts).part.rest < length ts
step_at_length b context [] some h = absurd (omega (arith, some))
step_at_length b context (c ∷ ts) some h = let i = step_length b context c ts h in omega (arith, i)

-- what was read, and the steps that are left, one for each byte at least
abbrev pub Reads : Text → Part → Text → Context → Text → Type 0
Reads old p now context ts = (n : ℕ) × (length ts ≤ n) × Leads old p now (reading_from n context ts)

pub reads_more : (old now new rest : Text) (p : Part) (context next : Context) (ts : Text) → Reads old p now context ts → 0 < length ts → Wrote now new rest (step_at (is_read context.conditions) context ts).part
    → next ≡ (step_at (is_read context.conditions) context ts).context → Reads old p new next rest
reads_more old now new rest p context next ts r some w e =
    let s = step_at (is_read context.conditions) context ts in
    let n = r.0 in
    let fits : length rest ≤ n - 1 = let i = step_at_length (is_read context.conditions) context ts some w.sound in let j = ap length w.left in let k = r.1 in omega (arith, i, j, k) in
    (n - 1, fits, leads_as (leads_more s.part (reading_from (n - 1) s.context) r.2 (reading_more n context ts (let k = r.1 in omega (arith, k, some)) some) w) (ap (λ (q : Context). reading_from (n - 1) q rest) (sym e)))

-- ---- bodies

body_tick_length : (expand : List ℕ → Part) (line : ℕ) (t : Ticked) (ts : Text) → (body_tick expand line t ts).fault ≡ None → length (body_tick expand line t ts).rest ≤ length ts
body_tick_length expand line no_name ts h = absurd cc
body_tick_length expand line (a_directive d) ts h = absurd cc
body_tick_length expand line a_macro ts h = let d = length-drop (length (name_at ts)) ts in omega (arith, d)

body_piece_length : (expand : List ℕ → Part) (line : ℕ) (f : Head) (c : Placed) (ts : Text) → (body_piece expand line f c ts).fault ≡ None → length (body_piece expand line f c ts).rest ≤ length ts
body_piece_length expand line a_backtick c ts h = body_tick_length expand line (ticked (name_at ts)) ts h
body_piece_length expand line line_comment c ts h = piece_length false line_comment c ts h
body_piece_length expand line block_comment c ts h = piece_length false block_comment c ts h
body_piece_length expand line a_string c ts h = piece_length false a_string c ts h
body_piece_length expand line escaped_name c ts h = piece_length false escaped_name c ts h
body_piece_length expand line any_other c ts h = piece_length false any_other c ts h

pub body_at_length : (expand : List ℕ → Part) (line : ℕ) (ts : Text) → 0 < length ts → (body_piece_at expand line ts).fault ≡ None → length (body_piece_at expand line ts).rest < length ts
body_at_length expand line [] some h = absurd (omega (arith, some))
body_at_length expand line (c ∷ ts) some h = let i = body_piece_length expand line (first (bytes (c ∷ ts))) c ts h in omega (arith, i)

-- what was read of a body, and the pieces that are left, one for each byte at least
abbrev pub ReadsBody : Text → Part → Text → (List ℕ → Part) → ℕ → Text → Type 0
ReadsBody old p now expand line ts = (n : ℕ) × (length ts ≤ n) × Leads old p now (body_reading expand line n ts)

pub body_reads_more : (old now new rest : Text) (p : Part) (expand : List ℕ → Part) (line : ℕ) (ts : Text) → ReadsBody old p now expand line ts → 0 < length ts → Wrote now new rest (body_piece_at expand line ts)
    → ReadsBody old p new expand line rest
body_reads_more old now new rest p expand line ts r some w =
    let n = r.0 in
    let fits : length rest ≤ n - 1 = let i = body_at_length expand line ts some w.sound in let j = ap length w.left in let k = r.1 in omega (arith, i, j, k) in
    (n - 1, fits, leads_more (body_piece_at expand line ts) (body_reading expand line (n - 1)) r.2 (body_more expand line n ts (let k = r.1 in omega (arith, k, some)) some) w)

-- ---- lines and gaps

pub in_line_shorter : (k : Bool) (ts : Text) → 0 < length ts → (next_in_line k ts).fault ≡ None → length (next_in_line k ts).rest < length ts
in_line_shorter k [] some h = absurd (omega (arith, some))
in_line_shorter k (c ∷ ts) some h = let i = in_line_length (in_line k (bytes (c ∷ ts))) k c ts h in omega (arith, i)

-- what was read of a line, and the pieces that are left, one for each byte at least
abbrev pub ReadsLine : Part → List ℕ → Bool → Text → Type 0
ReadsLine p body k ts = (n : ℕ) × (length ts ≤ n) × Collects [] p body (rest_of_line n k ts)

pub line_reads_more : (p : Part) (body new : List ℕ) (k : Bool) (ts rest : Text) → ReadsLine p body k ts → ends_line (bytes ts) ≡ false → Kept body new rest (next_in_line k ts) → ReadsLine p new k rest
line_reads_more p body new k ts rest r on w =
    let n = r.0 in
    let some = some_left ts on in
    let fits : length rest ≤ n - 1 = let i = in_line_shorter k ts some w.sound in let j = ap length w.left in let m = r.1 in omega (arith, i, j, m) in
    (n - 1, fits, collects_more (next_in_line k ts) (rest_of_line (n - 1) k) r.2 (rest_more n k ts (let m = r.1 in omega (arith, m, some)) on) w)

pub line_reads_fault : (p : Part) (body : List ℕ) (k : Bool) (ts : Text) (o : Option Fault) → ReadsLine p body k ts → ends_line (bytes ts) ≡ false → PartHasFault (next_in_line k ts) o → PartHasFault p o
line_reads_fault p body k ts o r on h =
    let n = r.0 in
    let some = some_left ts on in
    collects_stop o (collects_as r.2 (rest_more n k ts (let m = r.1 in omega (arith, m, some)) on)) (fault_first (next_in_line k ts) (rest_of_line (n - 1) k) o h)

pub one_shorter : (ts us : Text) → at_gap (bytes ts) ≡ true → after_one (begins (codes "/*") (bytes ts)) ts ≡ Ok us → length us < length ts
one_shorter [] us gap e = absurd cc
one_shorter (c ∷ ts) us gap e = let i = one_length (begins (codes "/*") (bytes (c ∷ ts))) c ts us e in omega (arith, i)

-- what is after a gap, and the pieces of it that are left, one for each byte at least
abbrev pub SkipsGap : Result Text Fault → Text → Type 0
SkipsGap r ts = (n : ℕ) × (length ts ≤ n) × (after_gap n ts ≡ r)

some_gap : (ts : Text) → at_gap (bytes ts) ≡ true → 0 < length ts
some_gap [] gap = absurd cc
some_gap (c ∷ ts) gap = omega arith

pub gap_skips_more : (r : Result Text Fault) (ts us : Text) → SkipsGap r ts → at_gap (bytes ts) ≡ true → after_one (begins (codes "/*") (bytes ts)) ts ≡ Ok us → SkipsGap r us
gap_skips_more r ts us s gap e =
    let n = s.0 in
    let some = some_gap ts gap in
    let fits : length us ≤ n - 1 = let i = one_shorter ts us gap e in let m = s.1 in omega (arith, i, m) in
    (n - 1, fits, sym (gap_more n ts us (let m = s.1 in omega (arith, m, some)) gap e) ∙ s.2)

pub gap_skips_fault : (r : Result Text Fault) (ts : Text) (o : Option Fault) → SkipsGap r ts → at_gap (bytes ts) ≡ true → HasFault (after_one (begins (codes "/*") (bytes ts)) ts) o → HasFault r o
gap_skips_fault r ts o s gap h =
    let some = some_gap ts gap in
    let P : Result Text Fault → Type 0 = λ x. HasFault x o in
    subst P s.2 (gap_fault s.0 ts o (let m = s.1 in omega (arith, m, some)) gap h)
