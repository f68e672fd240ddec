-- Uses that give nothing: at a depth, and so at each greater one.
use Rattle.std.proofs.Common.{◌≡◌, ◌≤◌, ◌+◌, ◌-◌, ℕ, zero, suc, Bool, true, false, List, [], ◌∷◌, ◌++◌, cond, drop, length, refl, sym, subst, ap, ◌∙◌, arith, nat_eq, append-nil, length-append}
use Rattle.std.proofs.lemmas.List.{nil_from_length}
use Rattle.std.specs.Prelude.{Option, Some, None, Result, Ok, Err}
use Rattle.std.specs.Cmp.Lexicographic.{pointwise}
use Rattle.indexmap.specs.IndexMap.{IndexMap, get}
use Rattle.vl_pre.specs.Bytes.{Text, Placed, bytes, name_at, all_at, most_clean}
use Rattle.vl_tree.specs.declared.fault.FaultKind.TheVariants.{UnknownMacro, MacroDepth}
use Rattle.vl_pre.specs.Pieces.{Head, line_comment, block_comment, a_string, escaped_name, a_backtick, any_other, Part, Fault, fault, fails, before, go_on, go_by, first}
use Rattle.vl_pre.specs.Directives.{Ticked, no_name, a_directive, a_macro, Macros, ticked}
use Rattle.vl_pre.specs.CleanText.{body_tick, body_piece, body_reading, whole_body, expanded, use_of}
use Rattle.vl_pre.specs.Calls.Reading.{IsBlank, is_from, KnowsBlanks, Notes, Wrote, Gives, EndsWith}
use Rattle.std.proofs.lemmas.Bool.{leb-true}
use Rattle.std.proofs.lemmas.Slice.Eq.{bytes_eq-Decides}
use Rattle.vl_tree.specs.declared.fault.StaticFault.{StaticFault}
use Rattle.vl_pre.proofs.WriteLaws.{goes}

-- what is without fault has a first part without fault
sound_by : (o : Option Fault) (p : Part) (more : Text → Part) → p.fault ≡ o → (go_by o p more).fault ≡ None → (p.fault ≡ None) × ((more p.rest).fault ≡ None)
sound_by None p more e h = (e, h)
sound_by (Some f) p more e h = absurd (let x : Some f ≡ None = sym e ∙ h in cc)

pub sound_parts : (p : Part) (more : Text → Part) → (go_on p more).fault ≡ None → (p.fault ≡ None) × ((more p.rest).fault ≡ None)
sound_parts p more h = sound_by p.fault p more refl h

tick_steady : (e f : List ℕ → Part) (line : ℕ) (t : Ticked) (ts : Text) → ((n : List ℕ) → (e n).fault ≡ None → f n ≡ e n) → (body_tick e line t ts).fault ≡ None → body_tick f line t ts ≡ body_tick e line t ts
tick_steady e f line no_name ts same h = refl
tick_steady e f line (a_directive d) ts same h = refl
tick_steady e f line a_macro ts same h = ap (λ (p : Part). record p { rest = drop (length (name_at ts)) ts }) (same (name_at ts) h)

piece_steady : (e f : List ℕ → Part) (line : ℕ) (x : Head) (c : Placed) (ts : Text) → ((n : List ℕ) → (e n).fault ≡ None → f n ≡ e n) → (body_piece e line x c ts).fault ≡ None
    → body_piece f line x c ts ≡ body_piece e line x c ts
piece_steady e f line a_backtick c ts same h = tick_steady e f line (ticked (name_at ts)) ts same h
piece_steady e f line line_comment c ts same h = refl
piece_steady e f line block_comment c ts same h = refl
piece_steady e f line a_string c ts same h = refl
piece_steady e f line escaped_name c ts same h = refl
piece_steady e f line any_other c ts same h = refl

-- a body reads the same where each use without fault gives the same
body_steady : (e f : List ℕ → Part) (line n : ℕ) (ts : Text) → ((x : List ℕ) → (e x).fault ≡ None → f x ≡ e x) → (body_reading e line n ts).fault ≡ None → body_reading f line n ts ≡ body_reading e line n ts
body_steady e f line zero [] same h = refl
body_steady e f line zero (c ∷ ts) same h = refl
body_steady e f line (suc n) [] same h = refl
body_steady e f line (suc n) (c ∷ ts) same h =
    let p : Part = body_piece e line (first (bytes (c ∷ ts))) c ts in
    let both = sound_parts p (body_reading e line n) h in
    ap (λ (q : Part). go_on q (body_reading f line n)) (piece_steady e f line (first (bytes (c ∷ ts))) c ts same both.0)
    ∙ goes p (body_reading f line n) both.0 ∙ ap (before p.given) (body_steady e f line n p.rest same both.1) ∙ sym (goes p (body_reading e line n) both.0)

no_fault : (f : Fault) (p : Part) → p.fault ≡ Some f → p.fault ≡ None → ⊥
no_fault f p e h = let x : Some f ≡ None = sym e ∙ h in cc

steady_zero : (m : Macros) (line : ℕ) (o : Option (List ℕ)) (name : List ℕ) → m name ≡ o → (use_of zero m line name).fault ≡ None → use_of (suc zero) m line name ≡ use_of zero m line name
steady_zero m line None name e h = absurd (no_fault (fault UnknownMacro line) (use_of zero m line name) (ap (λ x. (expanded line (λ body. fails MacroDepth line) x).fault) e) h)
steady_zero m line (Some body) name e h = absurd (no_fault (fault MacroDepth line) (use_of zero m line name) (ap (λ x. (expanded line (λ body. fails MacroDepth line) x).fault) e) h)

steady_suc : (k : ℕ) (m : Macros) (line : ℕ) (o : Option (List ℕ)) (name : List ℕ) → ((x : List ℕ) → (use_of k m line x).fault ≡ None → use_of (suc k) m line x ≡ use_of k m line x) → m name ≡ o
    → (use_of (suc k) m line name).fault ≡ None → use_of (suc (suc k)) m line name ≡ use_of (suc k) m line name
steady_suc k m line None name same e h =
    absurd (no_fault (fault UnknownMacro line) (use_of (suc k) m line name) (ap (λ x. (expanded line (whole_body (use_of k m line) line) x).fault) e) h)
steady_suc k m line (Some body) name same e h =
    let h' : (whole_body (use_of k m line) line body).fault ≡ None = ap (λ x. (expanded line (whole_body (use_of k m line) line) x).fault) (sym e) ∙ h in
    ap (expanded line (whole_body (use_of (suc k) m line) line)) e ∙ body_steady (use_of k m line) (use_of (suc k) m line) line (length body) (all_at line body) same h' ∙ ap (expanded line (whole_body (use_of k m line) line)) (sym e)

-- a use without fault gives the same at the next depth
steady : (depth : ℕ) (m : Macros) (line : ℕ) (name : List ℕ) → (use_of depth m line name).fault ≡ None → use_of (suc depth) m line name ≡ use_of depth m line name
steady zero m line name h = steady_zero m line (m name) name refl h
steady (suc k) m line name h = steady_suc k m line (m name) name (λ x f. steady k m line x f) refl h

-- so many steps above a depth
abbrev up : ℕ → ℕ → ℕ
up zero least = least
up (suc j) least = suc (up j least)

up_is : (j least : ℕ) → up j least ≡ j + least
up_is zero least = omega arith
up_is (suc j) least = let e = up_is j least in omega (arith, e)

rises : (j least : ℕ) (m : Macros) (line : ℕ) (name : List ℕ) → IsBlank (use_of least m line name) → IsBlank (use_of (up j least) m line name)
rises zero least m line name b = b
rises (suc j) least m line name b =
    let r : IsBlank (use_of (up j least) m line name) = rises j least m line name b in
    subst IsBlank (sym (steady (up j least) m line name r.sound)) r

pub blank_above : (least depth : ℕ) (m : Macros) (line : ℕ) (name : List ℕ) → least ≤ depth → IsBlank (use_of least m line name) → IsBlank (use_of depth m line name)
blank_above least depth m line name h b =
    let e : up (depth - least) least ≡ depth = let i = up_is (depth - least) least in omega (arith, i, h) in
    let P : ℕ → Type 0 = λ d. IsBlank (use_of d m line name) in
    subst P e (rises (depth - least) least m line name b)

-- ---- what is written

pub blank_wrote : (old : Text) (p : Part) → length old ≤ most_clean → IsBlank p → Wrote old old p.rest p
blank_wrote old p room b = record { sound = b.sound; all = sym (append-nil old) ∙ ap (λ x. old ++ x) (sym b.none); fits = room; left = refl }

pub wrote_blank : (old new rest : Text) (p : Part) → Wrote old new rest p → length new ≡ length old → IsBlank p
wrote_blank old new rest p w e =
    let all = ap length w.all in let sum = length-append old p.given in
    record { none = nil_from_length p.given (omega (arith, all, sum, e)); sound = w.sound }

-- ---- what is noted

pub noted_from : (found : Option ℕ) (depth : ℕ) → is_from found depth ≡ true → (least : ℕ) × (found ≡ Some least) × (least ≤ depth)
noted_from None depth e = absurd cc
noted_from (Some least) depth e = (least, refl, leb-true least depth e)

same_name : {S : Type 0} (m : Macros) (line : ℕ) (old : IndexMap (List ℕ) ℕ S) (name x : List ℕ) (depth least d : ℕ) (b : Bool) (found : Option ℕ) → pointwise nat_eq name x ≡ b → get (pointwise nat_eq) old x ≡ found
    → cond b (Some depth) found ≡ Some least → least ≤ d → IsBlank (use_of depth m line name) → (found ≡ Some least → IsBlank (use_of d m line x)) → IsBlank (use_of d m line x)
same_name m line old name x depth least d true found same is e h blank known =
    let is_name : name ≡ x = (bytes_eq-Decides name x).0 same in
    let is_depth : depth ≡ least = cc in
    let P : List ℕ → Type 0 = λ n. IsBlank (use_of d m line n) in
    subst P is_name (blank_above depth d m line name (omega (arith, is_depth, h)) blank)
same_name m line old name x depth least d false found same is e h blank known = known e

pub knows_noted : {S : Type 0} (m : Macros) (line : ℕ) (old new : IndexMap (List ℕ) ℕ S) (name : List ℕ) (depth : ℕ) (is_due : Bool) (r : Result (Unit {0}) StaticFault) → KnowsBlanks m line old
    → (is_due ≡ true → IsBlank (use_of depth m line name)) → Notes old new name depth is_due r → KnowsBlanks m line new
knows_noted m line old new name depth is_due (Err f) known blank notes x least e d h = known x least (sym (notes.1 x) ∙ e) d h
knows_noted m line old new name depth false (Ok u) known blank notes x least e d h = known x least (sym (notes x) ∙ e) d h
knows_noted m line old new name depth true (Ok u) known blank notes x least e d h =
    same_name m line old name x depth least d (pointwise nat_eq name x) (get (pointwise nat_eq) old x) refl refl (sym (notes x) ∙ e) h (blank refl) (λ f. known x least f d h)

-- what was written is the answer, but for out of memory
pub gives_noted : {S : Type 0} (old new : Text) (p : Part) (from to : IndexMap (List ℕ) ℕ S) (name : List ℕ) (depth : ℕ) (is_due : Bool) (r : Result (Unit {0}) StaticFault) → Wrote old new p.rest p
    → Notes from to name depth is_due r → Gives old new p r
gives_noted old new p from to name depth is_due (Ok u) w n = w
gives_noted old new p from to name depth is_due (Err f) w n = let P : Option Fault → Type 0 = λ o. EndsWith old p o in subst P (sym n.0) tt
