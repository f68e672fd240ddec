-- What a text with conditions selects is computed: one step, one directive, and the derivation by its rules.
use Rattle.std.proofs.Common.{◌≡◌, ◌≤◌, ℕ, zero, suc, Bool, true, false, not, ◌&&◌, ◌||◌, List, [], ◌∷◌, ◌++◌, drop, length, refl, sym, subst, ap, ◌∙◌, arith, append-nil}
use Rattle.std.specs.Prelude.{None, is_some}
use Rattle.vl_pre.specs.Bytes.{Placed, Text, placed, bytes, name_at}
use Rattle.vl_pre.specs.Pieces.{a_backtick, Part, gives, before, first, go_on, and_then}
use Rattle.vl_pre.specs.Directives.{Directive, ifdef, ifndef, elsif, otherwise, endif, a_directive, ticked, holds, Macros, no_macros, Condition, Context, went, is_read, is_conditional, first_branch, opened, branch_step, directive_step}
use Rattle.vl_pre.specs.CleanText.{Step, step, nothing, reading_from, reading}
use Rattle.vl_pre.specs.Laws.Selects.{within, Begins, opening, BeginsNamed, Skips, Passes, Reads, Chooses, SelectsCleanText}
use Rattle.vl_pre.proofs.WriteLaws.{before_more}
use Rattle.vl_pre.proofs.StepLaws.{step_length}
use Rattle.vl_pre.proofs.ReadingLaws.{length-placed, reading_ended, all_written}

-- from one context and text to another, these bytes are given
record Goes (a : Context) (ts given : Text) (b : Context) (us : Text) : Type 0 where
  at : (k : ℕ) → length ts ≤ k → (j : ℕ) × (length us ≤ j) × (reading_from k a ts ≡ before given (reading_from j b us))

goes_none : (a : Context) (ts : Text) → Goes a ts [] a ts
goes_none a ts = record { at = λ k h. (k, h, refl) }

goes_then : {a b c : Context} {ts us vs given more : Text} → Goes a ts given b us → Goes b us more c vs → Goes a ts (given ++ more) c vs
goes_then {c = c} {vs = vs} {given = given} {more = more} f g = record {
  at = λ k h.
      let x = f.at k h in
      let y = g.at x.0 x.1 in
      (y.0, y.1, x.2 ∙ ap (before given) y.2 ∙ before_more given more (reading_from y.0 c vs));
}

given_only : {a b : Context} {ts us given : Text} → Goes a ts (given ++ []) b us → Goes a ts given b us
given_only {a = a} {b = b} {ts = ts} {us = us} {given = given} g = subst (λ (x : Text). Goes a ts x b us) (append-nil given) g

goes_one : (b : Bool) (x y : Context) (c : Placed) (ts us given : Text) → is_read x.conditions ≡ b → step b x c ts ≡ record { part = gives given us; context = y } → (k : ℕ) → length (c ∷ ts) ≤ k
    → (j : ℕ) × (length us ≤ j) × (reading_from k x (c ∷ ts) ≡ before given (reading_from j y us))
goes_one b x y c ts us given r e zero h = absurd (omega (arith, h))
goes_one b x y c ts us given r e (suc k) h =
    let sound : (step b x c ts).part.fault ≡ None = ap (λ (t : Step). t.part.fault) e in
    let l = step_length b x c ts sound in
    let n = ap (λ (t : Step). length t.part.rest) e in
    let F : Step → Part = λ t. go_on t.part (reading_from k t.context) in
    (k, omega (arith, l, n, h), ap (λ z. F (step z x c ts)) r ∙ ap F e)

goes_step : (b : Bool) (x y : Context) (c : Placed) (ts us given : Text) → is_read x.conditions ≡ b → step b x c ts ≡ record { part = gives given us; context = y } → Goes x (c ∷ ts) given y us
goes_step b x y c ts us given r e = record { at = goes_one b x y c ts us given r e }

-- a directive that gives nothing
direct_by : (b : Bool) (d : Directive) (x : Context) (c : Placed) (ts : Text) → is_conditional d ≡ true → first (bytes (c ∷ ts)) ≡ a_backtick → ticked (name_at ts) ≡ a_directive d
    → step b x c ts ≡ nothing x (directive_step d c.line x (drop (length (name_at ts)) ts))
direct_by true d x c ts cond f t = rw (f, t) refl
direct_by false d x c ts cond f t = rw (f, t, cond) refl

direct : (d : Directive) (x y : Context) (line : ℕ) (ts rest us : Text) → is_conditional d ≡ true → Begins d line ts rest → directive_step d line x rest ≡ went y us → Goes x ts [] y us
direct d x y line [] rest us cond h e = absurd h
direct d x y line (c ∷ ts) rest us cond h e =
    let b = is_read x.conditions in
    let l = h.0 in
    let r = h.3 in
    let e' : directive_step d c.line x (drop (length (name_at ts)) ts) ≡ went y us = (λ i. directive_step d (sym l i) x (sym r i)) ∙ e in
    goes_step b x y c ts us [] refl (direct_by b d x c ts cond h.1 h.2 ∙ ap (nothing x) e')

-- a condition that hasn't come to its `else`
abbrev open_at : ℕ → Bool → Bool → Condition
open_at line settled reading = record { line = line; settled = settled; reading = reading; had_else = false }

opens : (wanted : Bool) (m : Macros) (cs : List Condition) (b : Bool) (line : ℕ) (name : List ℕ) (ts body : Text) → is_read cs ≡ b → BeginsNamed (opening wanted) line name ts body
    → Goes (within m cs) ts [] (within m (first_branch b line (holds wanted (is_some (m name))) ∷ cs)) body
opens true m cs b line name ts body r h =
    direct ifdef (within m cs) _ line ts h.0 body refl h.1
    (ap (λ x. and_then x (λ (n : List ℕ × Text). went (opened line (holds true (is_some (m n.0))) (within m cs)) n.1)) h.2
    ∙ ap (λ x. went (within m (first_branch x line (holds true (is_some (m name))) ∷ cs)) body) r)
opens false m cs b line name ts body r h =
    direct ifndef (within m cs) _ line ts h.0 body refl h.1
    (ap (λ x. and_then x (λ (n : List ℕ × Text). went (opened line (holds false (is_some (m n.0))) (within m cs)) n.1)) h.2
    ∙ ap (λ x. went (within m (first_branch x line (holds false (is_some (m name))) ∷ cs)) body) r)

-- one that has
abbrev last_at : ℕ → Bool → Condition
last_at line reading = record { line = line; settled = true; reading = reading; had_else = true }

closes : (m : Macros) (c : Condition) (cs : List Condition) (line : ℕ) (ts there : Text) → Begins endif line ts there → Goes (within m (c ∷ cs)) ts [] (within m cs) there
closes m c cs line ts there h = direct endif (within m (c ∷ cs)) (within m cs) line ts there there refl h refl

turns_else : (m : Macros) (at : ℕ) (a b : Bool) (cs : List Condition) (line : ℕ) (ts body : Text) → Begins otherwise line ts body → Goes (within m (open_at at a b ∷ cs)) ts [] (within m (last_at at (not a) ∷ cs)) body
turns_else m at true b cs line ts body h = direct otherwise (within m (open_at at true b ∷ cs)) (within m (last_at at false ∷ cs)) line ts body body refl h refl
turns_else m at false b cs line ts body h = direct otherwise (within m (open_at at false b ∷ cs)) (within m (last_at at true ∷ cs)) line ts body body refl h refl

turns_elsif : (m : Macros) (at : ℕ) (a b : Bool) (cs : List Condition) (line : ℕ) (name : List ℕ) (ts body : Text) → BeginsNamed elsif line name ts body
    → Goes (within m (open_at at a b ∷ cs)) ts [] (within m (open_at at (a || is_some (m name)) (not a && is_some (m name)) ∷ cs)) body
turns_elsif m at a b cs line name ts body h =
    direct elsif (within m (open_at at a b ∷ cs)) _ line ts h.0 body refl h.1
    (ap (λ x. and_then x (λ (n : List ℕ × Text). branch_step line (within m (open_at at a b ∷ cs)) (open_at at a b ∷ cs) (is_some (m n.0)) false n.1)) h.2)

mutual
  skips : (m : Macros) (cs : List Condition) (ts there : Text) → is_read cs ≡ false → Skips ts there → Goes (within m cs) ts [] (within m cs) there
  skips m cs ts there r Skips.at_once = goes_none (within m cs) ts
  skips m cs ts there r (Skips.a_piece p more) = goes_then (goes_step false (within m cs) (within m cs) _ _ _ [] r (ap (nothing (within m cs)) (p (within m cs)))) (skips m cs _ there r more)
  skips m cs ts there r (Skips.a_condition wanted line name o inner ps more) =
      goes_then (opens wanted m cs false line name ts _ r o)
      (goes_then (skips m (open_at line true false ∷ cs) _ _ refl inner) (goes_then (passes m line false cs _ _ ps) (skips m cs _ there r more)))

  -- after a branch that was read, or in a condition that is skipped
  passes : (m : Macros) (at : ℕ) (b : Bool) (cs : List Condition) (ts there : Text) → Passes ts there → Goes (within m (open_at at true b ∷ cs)) ts [] (within m cs) there
  passes m at b cs ts there (Passes.at_endif line h) = closes m (open_at at true b) cs line ts there h
  passes m at b cs ts there (Passes.at_else line l h inner e) =
      goes_then (turns_else m at true b cs line ts _ h) (goes_then (skips m (last_at at false ∷ cs) _ _ refl inner) (closes m (last_at at false) cs l _ there e))
  passes m at b cs ts there (Passes.at_elsif line name h inner more) =
      goes_then (turns_elsif m at true b cs line name ts _ h) (goes_then (skips m (open_at at true false ∷ cs) _ _ refl inner) (passes m at false cs _ there more))

mutual
  reads : (m n : Macros) (cs : List Condition) (ts there given : Text) → is_read cs ≡ true → Reads m ts there given n → Goes (within m cs) ts given (within n cs) there
  reads m n cs ts there given r Reads.at_once = goes_none (within m cs) ts
  reads m n cs ts there given r (Reads.a_piece p more) = goes_then (goes_step true (within m cs) (within _ cs) _ _ _ _ r (p cs)) (reads _ n cs _ there _ r more)
  reads m n cs ts there given r (Reads.a_condition wanted line name o choice more) =
      goes_then (goes_then (opens wanted m cs true line name ts _ r o) (chooses m _ line (holds wanted (is_some (m name))) cs _ _ _ choice)) (reads _ n cs _ there _ r more)

  chooses : (m n : Macros) (at : ℕ) (b : Bool) (cs : List Condition) (ts there given : Text) → Chooses b m ts there given n → Goes (within m (open_at at b b ∷ cs)) ts given (within n cs) there
  chooses m n at b cs ts there given (Chooses.this_one r ps) = given_only (goes_then (reads m n (open_at at true true ∷ cs) ts _ given refl r) (passes n at true cs _ there ps))
  chooses m n at b cs ts there given (Chooses.by_elsif line name k h more) =
      goes_then (skips m (open_at at false false ∷ cs) ts _ refl k)
      (goes_then (turns_elsif m at false false cs line name _ _ h) (chooses m n at (is_some (m name)) cs _ there given more))
  chooses m n at b cs ts there given (Chooses.by_else line l k h r e) =
      goes_then (skips m (open_at at false false ∷ cs) ts _ refl k)
      (goes_then (turns_else m at false false cs line _ _ h)
      (given_only (goes_then (reads m n (last_at at true ∷ cs) _ _ given refl r) (closes n (last_at at true) cs l _ there e))))
  chooses m n at b cs ts there given (Chooses.none line k e) =
      goes_then (skips m (open_at at false false ∷ cs) ts _ refl k) (closes m (open_at at false false) cs line _ there e)

pub selects_clean_text : SelectsCleanText
selects_clean_text text given m r short =
    let g = (reads no_macros m [] (placed 1 text) [] given refl r).at (length text) (let l = length-placed 1 text in omega (arith, l)) in
    let all : reading text ≡ gives (given ++ []) [] = g.2 ∙ ap (before given) (reading_ended g.0 (within m []) [] refl) in
    let whole : reading text ≡ gives given [] = all ∙ ap (λ x. gives x []) (append-nil given) in
    all_written text [] given [] (reading text) refl refl
    (record { sound = ap (λ (p : Part). p.fault) whole; all = ap (λ (p : Part). p.given) (sym whole); fits = short; left = ap (λ (p : Part). p.rest) (sym whole) })
