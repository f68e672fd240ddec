-- The text, one step on.
use Rattle.std.proofs.Common.{◌≡◌, ℕ, zero, suc, ◌-◌, ◌<◌, ◌≤◌, true, false, List, [], ◌∷◌, ◌++◌, drop, length, refl, ap, sym, subst, ◌∙◌, arith, append-nil}
use Rattle.std.specs.Prelude.{Option, Some, None, Result, Ok, Err}
use Rattle.std.proofs.Math.ListN.{drop_of_length-le}
use Rattle.vl_pre.specs.declared.pieces.First.{First}
use Rattle.vl_pre.specs.declared.pieces.First.TheVariants.{LineComment, BlockComment, Quote, Backslash, Tick, Plain}
use Rattle.vl_pre.specs.declared.names.Directive as word
use Rattle.vl_pre.specs.declared.names.Ticked as tick
use Rattle.vl_pre.specs.declared.names.Ticked.TheVariants as v
use Rattle.vl_tree.specs.declared.fault.StaticFault.{StaticFault}
use Rattle.vl_pre.specs.declared.context.Context as code
use Rattle.vl_pre.specs.Bytes.{Text, Placed, bytes, placed, line_after, name_at, most_clean}
use Rattle.vl_pre.specs.Pieces.{Part, Fault, gives, go_on, and_then, first, from_stop, after_block, kept_length}
use Rattle.vl_pre.specs.Directives.{Ticked, Condition, Context, After, went, is_read, ticked, is_conditional, directive_step}
use Rattle.vl_pre.specs.CleanText.{Step, nothing, tick_step, skipped_tick, at_end, reading_from, reading, start, answer, within, clean_text}
use Rattle.vl_pre.specs.Calls.Views.{head_of, ticked_of, directive_of}
use Rattle.vl_pre.specs.Calls.Reading.{fault_of, HasFault, PartHasFault, EndsWith, Wrote, Writes, Gives, Goes, Finishes, Steps, context_of, piece_at, step_at, tick_at, skipped_at, skipped_tick_at}
use Rattle.vl_pre.proofs.WriteLaws.{Leads, leads_as, leads_ends, leads_done, ends_stop, ends_anywhere, ends_fails}

-- ---- the loop

pub reading_more : (n : ℕ) (context : Context) (ts : Text) → 0 < n → 0 < length ts
    → reading_from n context ts ≡ go_on (step_at (is_read context.conditions) context ts).part (reading_from (n - 1) (step_at (is_read context.conditions) context ts).context)
reading_more zero context ts some left = absurd (omega (arith, some))
reading_more (suc m) context [] some left = absurd (omega (arith, left))
reading_more (suc m) context (c ∷ ts) some left = let less : suc m - 1 ≡ m = omega arith in rw less refl

pub reading_ended : (n : ℕ) (context : Context) (ts : Text) → ts ≡ [] → reading_from n context ts ≡ at_end context.conditions
reading_ended zero context [] e = refl
reading_ended (suc n) context [] e = refl
reading_ended n context (c ∷ ts) e = absurd cc

end_gives : (cs : List Condition) → (at_end cs).given ≡ []
end_gives [] = refl
end_gives (c ∷ cs) = refl

has_fault : (p : Part) (o : Option Fault) → p.fault ≡ o → PartHasFault p o
has_fault p None e = tt
has_fault p (Some f) e = e

-- at the end of the text an open condition is the fault
pub finish_gives : (old now : Text) (p q : Part) (cs : List Condition) (r : Result (Unit {0}) StaticFault) → Leads old p now q → q ≡ at_end cs → length now ≤ most_clean → Finishes cs r → Gives old now p r
finish_gives old now p q cs (Ok u) l e room f =
    let w : Wrote old now [] p = leads_done l (e ∙ ap at_end f) room in record { sound = w.sound; all = w.all; fits = w.fits; left = refl }
finish_gives old now p q cs (Err x) l e room f = leads_ends (fault_of x) (leads_as l e) (ends_stop now (at_end cs) (fault_of x) room (end_gives cs) (has_fault (at_end cs) (fault_of x) f))

-- ---- steps

pub steps_as : (old new rest : Text) (context : code.Context) (s s' : Step) (r : Result (Unit {0}) StaticFault) → s ≡ s' → Steps old new rest context s' r → Steps old new rest context s r
steps_as old new rest context s s' r e h = let P : Step → Type 0 = λ x. Steps old new rest context x r in subst P (sym e) h

wrote_nothing : (old rest : Text) → length old ≤ most_clean → Wrote old old rest (gives [] rest)
wrote_nothing old rest room = record { sound = refl; all = sym (append-nil old); fits = room; left = refl }

nothing_ends : (old : Text) (context : Context) (res : Result After Fault) (o : Option Fault) → length old ≤ most_clean → HasFault res o → EndsWith old (nothing context res).part o
nothing_ends old context res None room h = tt
nothing_ends old context res (Some f) room h = ends_fails old (nothing context res).part f room (ap (λ x. (nothing context x).part) h)

-- what gives nothing
pub nothing_steps : (old rest : Text) (context : Context) (new : code.Context) (res : Result After Fault) (r : Result (Unit {0}) StaticFault) → length old ≤ most_clean → Goes rest new res r
    → Steps old old rest new (nothing context res) r
nothing_steps old rest context new res (Ok u) room h =
    let P : Result After Fault → Type 0 = λ x. Steps old old rest new (nothing context x) (Ok u) in
    subst P (sym h) (wrote_nothing old rest room, refl)
nothing_steps old rest context new res (Err f) room h = nothing_ends old context res (fault_of f) room h

-- what leaves the place as it is
pub part_steps : (old new rest : Text) (context : code.Context) (p : Part) (r : Result (Unit {0}) StaticFault) → Writes old new rest p r → Steps old new rest context (record { part = p; context = context_of context }) r
part_steps old new rest context p (Ok u) w = (w, refl)
part_steps old new rest context p (Err f) w = w

-- an expansion, after which the text goes on
pub use_steps : (old new rest : Text) (context : code.Context) (p : Part) (r : Result (Unit {0}) StaticFault) → Gives old new p r
    → Steps old new rest context (record { part = record p { rest = rest }; context = context_of context }) r
use_steps old new rest context p (Ok u) w = (record { sound = w.sound; all = w.all; fits = w.fits; left = refl }, refl)
use_steps old new rest context p (Err f) w = ends_anywhere old rest p (fault_of f) w

-- ---- text that is read

pub own_step : (context : Context) (ts : Text) (f : First) → head_of f ≡ first (bytes ts) → (f ≡ Tick → ⊥) → step_at true context ts ≡ record { part = piece_at false (head_of f) ts; context = context }
own_step context [] f e other = refl
own_step context (c ∷ ts) Tick e other = absurd (other refl)
own_step context (c ∷ ts) LineComment e other = let h = sym e in rw h refl
own_step context (c ∷ ts) BlockComment e other = let h = sym e in rw h refl
own_step context (c ∷ ts) Quote e other = let h = sym e in rw h refl
own_step context (c ∷ ts) Backslash e other = let h = sym e in rw h refl
own_step context (c ∷ ts) Plain e other = let h = sym e in rw h refl

pub ticked_step : (context : Context) (ts : Text) (f : First) → head_of f ≡ first (bytes ts) → f ≡ Tick → step_at true context ts ≡ tick_at context ts
ticked_step context [] f e is = refl
ticked_step context (c ∷ ts) f e is = let h = sym e ∙ ap head_of is in rw h refl

pub tick_of : (context : Context) (ts us : Text) (c : Placed) (name : List ℕ) (t : Ticked) → ts ≡ c ∷ us → name ≡ name_at us → ticked name ≡ t → tick_at context ts ≡ tick_step t c.line context us
tick_of context ts us c name t e is found = ap (tick_at context) e ∙ ap (λ x. tick_step x c.line context us) (ap ticked (sym is) ∙ found)

-- ---- text that is skipped

pub skipped_text : (context : Context) (ts : Text) → 0 < length ts → step_at false context ts ≡ nothing context (skipped_at context ts)
skipped_text context [] some = absurd (omega (arith, some))
skipped_text context (c ∷ ts) some = refl

pub skipped_line : (context : Context) (ts new : Text) (f : First) → 0 < length ts → head_of f ≡ first (bytes ts) → f ≡ LineComment → new ≡ from_stop false (drop 1 ts) → skipped_at context ts ≡ went context new
skipped_line context [] new f some e is h = absurd (omega (arith, some))
skipped_line context (c ∷ ts) new f some e is h = let k = sym e ∙ ap head_of is in rw k (ap (went context) (sym h))

pub skipped_block : (context : Context) (ts : Text) (f : First) → head_of f ≡ first (bytes ts) → f ≡ BlockComment → skipped_at context ts ≡ and_then (after_block ts) (went context)
skipped_block context [] f e is = refl
skipped_block context (c ∷ ts) f e is = let k = sym e ∙ ap head_of is in rw k refl

pub skipped_string : (context : Context) (ts new : Text) (f : First) → 0 < length ts → head_of f ≡ first (bytes ts) → f ≡ Quote → new ≡ drop (kept_length false (head_of f) (bytes ts)) ts → skipped_at context ts ≡ went context new
skipped_string context [] new f some e is h = absurd (omega (arith, some))
skipped_string context (c ∷ ts) new f some e is h =
    let k = sym e ∙ ap head_of is in
    let left = h ∙ ap (λ x. drop (kept_length false (head_of x) (bytes (c ∷ ts))) (c ∷ ts)) is in rw k (ap (went context) (sym left))

pub skipped_ticked : (context : Context) (ts : Text) (f : First) → head_of f ≡ first (bytes ts) → f ≡ Tick → skipped_at context ts ≡ skipped_tick_at context ts
skipped_ticked context [] f e is = refl
skipped_ticked context (c ∷ ts) f e is = let k = sym e ∙ ap head_of is in rw k refl

pub skipped_other : (context : Context) (ts new : Text) (f : First) → 0 < length ts → head_of f ≡ first (bytes ts) → (f ≡ LineComment → ⊥) → (f ≡ BlockComment → ⊥) → (f ≡ Quote → ⊥) → (f ≡ Tick → ⊥) → new ≡ drop 1 ts
    → skipped_at context ts ≡ went context new
skipped_other context [] new f some e a b q t h = absurd (omega (arith, some))
skipped_other context (c ∷ ts) new LineComment some e a b q t h = absurd (a refl)
skipped_other context (c ∷ ts) new BlockComment some e a b q t h = absurd (b refl)
skipped_other context (c ∷ ts) new Quote some e a b q t h = absurd (q refl)
skipped_other context (c ∷ ts) new Tick some e a b q t h = absurd (t refl)
skipped_other context (c ∷ ts) new Backslash some e a b q t h = let k = sym e in rw k (ap (went context) (sym h))
skipped_other context (c ∷ ts) new Plain some e a b q t h = let k = sym e in rw k (ap (went context) (sym h))

pub skipped_tick_of : (context : Context) (ts us : Text) (c : Placed) (name : List ℕ) (t : tick.Ticked) → ts ≡ c ∷ us → name ≡ name_at us → ticked_of t ≡ ticked name
    → skipped_tick_at context ts ≡ skipped_tick (ticked_of t) c.line context us
skipped_tick_of context ts us c name t e is found = ap (skipped_tick_at context) e ∙ ap (λ x. skipped_tick x c.line context us) (ap ticked (sym is) ∙ sym found)

pub no_directive : (t : tick.Ticked) (line : ℕ) (context : Context) (ts : Text) → ((d : word.Directive) → t ≡ v.Named d → ⊥) → skipped_tick (ticked_of t) line context ts ≡ went context ts
no_directive v.NoName line context ts other = refl
no_directive v.Macro line context ts other = refl
no_directive (v.Named d) line context ts other = absurd (other d refl)

pub no_conditional : (d : word.Directive) (line : ℕ) (context : Context) (ts : Text) → is_conditional (directive_of d) ≡ false → skipped_tick (ticked_of (v.Named d)) line context ts ≡ went context ts
no_conditional d line context ts e = rw e refl

pub conditional : (d : word.Directive) (line : ℕ) (context : Context) (ts new : Text) (name : List ℕ) → is_conditional (directive_of d) ≡ true → name ≡ name_at ts → new ≡ drop (length name) ts
    → skipped_tick (ticked_of (v.Named d)) line context ts ≡ directive_step (directive_of d) line context new
conditional d line context ts new name e is h = rw e (ap (directive_step (directive_of d) line context) (ap (λ x. drop (length x) ts) (sym is) ∙ sym h))

-- ---- the whole text

pub length-placed : (line : ℕ) (bs : List ℕ) → length (placed line bs) ≡ length bs
length-placed line [] = refl
length-placed line (b ∷ bs) = ap suc (length-placed (line_after line b) bs)

pub whole_reading : (bs : List ℕ) (ts : Text) (context : Context) → ts ≡ placed 1 bs → context ≡ start → reading_from (length ts) context ts ≡ reading bs
whole_reading bs ts context e s =
    (λ i. reading_from (length (e i)) (s i) (e i)) ∙ ap (λ n. reading_from n start (placed 1 bs)) (length-placed 1 bs)

-- what was written from nothing on is the clean text
pub all_written : (bs : List ℕ) (old out rest : Text) (p : Part) → old ≡ [] → p ≡ reading bs → Wrote old out rest p → clean_text bs ≡ Ok out
all_written bs old out rest p none e w =
    let all : out ≡ p.given = w.all ∙ ap (λ x. x ++ p.given) none in
    let room : length p.given ≤ most_clean = let a = ap length all in let b = w.fits in omega (arith, a, b) in
    ap (within most_clean) (sym e) ∙ (λ i. answer (drop_of_length-le p.given room i) (w.sound i) p.given) ∙ ap Ok (sym all)

pub all_ended : (bs : List ℕ) (old : Text) (p : Part) (o : Option Fault) → old ≡ [] → p ≡ reading bs → EndsWith old p o → HasFault (clean_text bs) o
all_ended bs old p None none e h = tt
all_ended bs old p (Some f) none e h =
    let F : Text → Result Text Fault = λ x. answer (drop most_clean (x ++ p.given)) p.fault (x ++ p.given) in
    ap (within most_clean) (sym e) ∙ ap F (sym none) ∙ h

pub empty_text : (ts : Text) → bytes ts ≡ [] → ts ≡ []
empty_text [] e = refl
empty_text (c ∷ ts) e = absurd cc
