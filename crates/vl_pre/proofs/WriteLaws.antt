-- Writers and readers of bodies: one piece after another.
use Rattle.std.proofs.Common.{◌≡◌, ◌≤◌, ℕ, List, [], ◌∷◌, ◌++◌, refl, sym, subst, ap, ◌∙◌, arith, append_assoc, append-nil, drop, length, None, Some, inl, inr}
use Rattle.std.specs.Prelude.{Option, Err, Result}
use Rattle.std.proofs.Math.ListN.{drop_of_length-le}
use Rattle.std.proofs.lemmas.Bool.Decides.{leb_tells}
use Rattle.std.proofs.lemmas.List.{drop-append-le, drop_at, map-append}
use Rattle.vl_pre.specs.Bytes.{Placed, Text, bytes, most_clean}
use Rattle.vl_tree.specs.declared.fault.FaultKind.TheVariants.{TooLong}
use Rattle.vl_pre.specs.Pieces.{Part, Fault, fault, gives, before, stops, go_on, go_by}
use Rattle.vl_pre.specs.CleanText.{answer}
use Rattle.vl_pre.specs.Calls.Reading.{EndsWith, Wrote, Writes, Gives, PartHasFault, Kept}
use Rattle.vl_tree.specs.declared.fault.StaticFault.{StaticFault}

-- after a part without fault the next is read
pub goes : (p : Part) (more : Text → Part) → p.fault ≡ None → go_on p more ≡ before p.given (more p.rest)
goes p more e = ap (λ f. go_by f p more) e

-- a part with a fault is all
pub stays : (p : Part) (f : Fault) (more : Text → Part) → p.fault ≡ Some f → go_on p more ≡ p
stays p f more e = ap (λ x. go_by x p more) e

pub before_more : (a b : Text) (p : Part) → before a (before b p) ≡ before (a ++ b) p
before_more a b p = ap (λ x. record p { given = x }) (sym (append_assoc a b p.given))

-- ---- the end of what is written

-- a fault after bytes that are written is the fault of the whole
ends_before : (old done : Text) (p : Part) (f : Fault) → EndsWith (old ++ done) p (Some f) → EndsWith old (before done p) (Some f)
ends_before old done p f e =
    let F : Text → Result Text Fault = λ x. answer (drop most_clean x) p.fault x in
    ap F (sym (append_assoc old done p.given)) ∙ e

-- a fault at once, where what is written is within the limit
pub ends_at_once : (now : Text) (p : Part) (f : Fault) → length now ≤ most_clean → p.given ≡ [] → p.fault ≡ Some f → EndsWith now p (Some f)
ends_at_once now p f h none e =
    let whole : now ++ p.given ≡ now = ap (λ x. now ++ x) none ∙ append-nil now in
    let beyond : drop most_clean (now ++ p.given) ≡ [] = ap (λ x. drop most_clean x) whole ∙ drop_of_length-le now h in
    (λ i. answer (beyond i) (e i) (now ++ p.given))

-- one more byte where the limit is reached
pub ends_full : (now : Text) (c : Placed) (p : Part) → length now ≡ most_clean → EndsWith now (before (c ∷ []) p) (Some (fault TooLong c.line))
ends_full now c p h =
    let e : drop most_clean (now ++ c ∷ p.given) ≡ c ∷ p.given = drop_at now (c ∷ p.given) most_clean h in
    let F : Text → Result Text Fault = λ x. answer x p.fault (now ++ c ∷ p.given) in
    ap F e

-- what is after the limit stays there when more is written
after_limit : (xs ys : Text) (c : Placed) (cs : Text) → drop most_clean xs ≡ c ∷ cs → drop most_clean (xs ++ ys) ≡ c ∷ (cs ++ ys)
after_limit xs ys c cs e =
    elim (leb_tells (length xs) most_clean) [
      | inl h ↦ absurd (let f : [] ≡ c ∷ cs = sym (drop_of_length-le xs h.1) ∙ e in cc)
      | inr h ↦ drop-append-le most_clean xs ys (let i = h.1 in omega (arith, i)) ∙ ap (λ x. x ++ ys) e
    ]

-- a part that passes the limit passes it with more after it
limit_first : (old : Text) (p q : Part) (f : Fault) (d : Text) → drop most_clean (old ++ p.given) ≡ d → answer d None (old ++ p.given) ≡ Err f → EndsWith old (before p.given q) (Some f)
limit_first old p q f [] e h = absurd cc
limit_first old p q f (c ∷ cs) e h =
    let g : drop most_clean (old ++ (p.given ++ q.given)) ≡ c ∷ (cs ++ q.given) =
    ap (λ x. drop most_clean x) (sym (append_assoc old p.given q.given)) ∙ after_limit (old ++ p.given) q.given c cs e in
    let F : Text → Result Text Fault = λ x. answer x q.fault (old ++ (p.given ++ q.given)) in
    ap F g ∙ h

first_by : (x : Option Fault) (old : Text) (p : Part) (more : Text → Part) (f : Fault) → p.fault ≡ x → EndsWith old p (Some f) → EndsWith old (go_on p more) (Some f)
first_by (Some g) old p more f e h = let P : Part → Type 0 = λ x. EndsWith old x (Some f) in subst P (sym (stays p g more e)) h
first_by None old p more f e h =
    let P : Part → Type 0 = λ x. EndsWith old x (Some f) in
    let h' : answer (drop most_clean (old ++ p.given)) None (old ++ p.given) ≡ Err f = ap (λ x. answer (drop most_clean (old ++ p.given)) x (old ++ p.given)) (sym e) ∙ h in
    subst P (sym (goes p more e)) (limit_first old p (more p.rest) f (drop most_clean (old ++ p.given)) refl h')

-- a fault of the first of two parts, the limit among them, is that of both
pub ends_first : (old : Text) (p : Part) (more : Text → Part) (o : Option Fault) → EndsWith old p o → EndsWith old (go_on p more) o
ends_first old p more None h = tt
ends_first old p more (Some f) h = first_by p.fault old p more f refl h

-- ---- writing on

-- what was given so far makes the one part of the other
pub record Leads (old : Text) (p : Part) (now : Text) (q : Part) : Type 0 where
  pub given : Text
  pub so_far : now ≡ old ++ given
  pub all : p ≡ before given q

pub leads_here : (old : Text) (p : Part) → Leads old p old p
leads_here old p = record { given = []; so_far = sym (append-nil old); all = refl }

pub leads_as : {old now : Text} {p q r : Part} → Leads old p now q → q ≡ r → Leads old p now r
leads_as {old = old} {now = now} {p = p} l e = let P : Part → Type 0 = λ x. Leads old p now x in subst P e l

-- one part more
pub leads_more : {old now new rest : Text} {p q : Part} (part : Part) (more : Text → Part) → Leads old p now q → q ≡ go_on part more → Wrote now new rest part → Leads old p new (more rest)
leads_more {old = old} {now = now} {new = new} {rest = rest} {p = p} part more l e w = record {
  given = l.given ++ part.given;
  so_far = w.all ∙ ap (λ x. x ++ part.given) l.so_far ∙ append_assoc old l.given part.given;
  all =
      l.all ∙ ap (before l.given) (e ∙ goes part more w.sound) ∙ before_more l.given part.given (more part.rest) ∙ ap (λ x. before (l.given ++ part.given) (more x)) (sym w.left);
}

pub leads_ends : {old now : Text} {p q : Part} (o : Option Fault) → Leads old p now q → EndsWith now q o → EndsWith old p o
leads_ends None l h = tt
leads_ends {old = old} {now = now} {p = p} {q = q} (Some f) l h =
    let P : Text → Type 0 = λ x. EndsWith x q (Some f) in
    let Q : Part → Type 0 = λ x. EndsWith old x (Some f) in
    subst Q (sym l.all) (ends_before old l.given q f (subst P l.so_far h))

-- a fault of the part that comes next
pub leads_stop : {old now : Text} {p q : Part} (part : Part) (more : Text → Part) (o : Option Fault) → Leads old p now q → q ≡ go_on part more → EndsWith now part o → EndsWith old p o
leads_stop {now = now} part more o l e h = leads_ends o (leads_as l e) (ends_first now part more o h)

-- nothing more
pub leads_done : {old now rest : Text} {p q : Part} → Leads old p now q → q ≡ gives [] rest → length now ≤ most_clean → Wrote old now rest p
leads_done {old = old} {now = now} {rest = rest} {p = p} l e fits =
    let whole : p ≡ gives (l.given ++ []) rest = l.all ∙ ap (before l.given) e in
    record {
      sound = ap (λ (x : Part). x.fault) whole;
      all = l.so_far ∙ ap (λ x. old ++ x) (sym (append-nil l.given)) ∙ ap (λ (x : Part). old ++ x.given) (sym whole);
      fits = fits;
      left = ap (λ (x : Part). x.rest) (sym whole);
    }

-- ---- bodies

pub record Collects (old : List ℕ) (p : Part) (now : List ℕ) (q : Part) : Type 0 where
  pub given : Text
  pub so_far : now ≡ old ++ bytes given
  pub all : p ≡ before given q

pub collects_here : (old : List ℕ) (p : Part) → Collects old p old p
collects_here old p = record { given = []; so_far = sym (append-nil old); all = refl }

pub collects_as : {old now : List ℕ} {p q r : Part} → Collects old p now q → q ≡ r → Collects old p now r
collects_as {old = old} {now = now} {p = p} l e = let P : Part → Type 0 = λ x. Collects old p now x in subst P e l

pub collects_more : {old now new : List ℕ} {rest : Text} {p q : Part} (part : Part) (more : Text → Part) → Collects old p now q → q ≡ go_on part more → Kept now new rest part → Collects old p new (more rest)
collects_more {old = old} {now = now} {new = new} {rest = rest} {p = p} part more l e w = record {
  given = l.given ++ part.given;
  so_far =
      w.all ∙ ap (λ x. x ++ bytes part.given) l.so_far ∙ append_assoc old (bytes l.given) (bytes part.given)
      ∙ ap (λ x. old ++ x) (sym (map-append (λ (c : Placed). c.byte) l.given part.given));
  all =
      l.all ∙ ap (before l.given) (e ∙ goes part more w.sound) ∙ before_more l.given part.given (more part.rest) ∙ ap (λ x. before (l.given ++ part.given) (more x)) (sym w.left);
}

pub collects_done : {old now : List ℕ} {rest : Text} {p q : Part} → Collects old p now q → q ≡ gives [] rest → Kept old now rest p
collects_done {old = old} {now = now} {rest = rest} {p = p} l e =
    let whole : p ≡ gives (l.given ++ []) rest = l.all ∙ ap (before l.given) e in
    record {
      sound = ap (λ (x : Part). x.fault) whole;
      all = l.so_far ∙ ap (λ x. old ++ bytes x) (sym (append-nil l.given)) ∙ ap (λ (x : Part). old ++ bytes x.given) (sym whole);
      left = ap (λ (x : Part). x.rest) (sym whole);
    }

pub collects_stop : {old now : List ℕ} {p q : Part} (o : Option Fault) → Collects old p now q → PartHasFault q o → PartHasFault p o
collects_stop None l h = tt
collects_stop (Some f) l h = ap (λ (x : Part). x.fault) l.all ∙ h

pub fault_first : (p : Part) (more : Text → Part) (o : Option Fault) → PartHasFault p o → PartHasFault (go_on p more) o
fault_first p more None h = tt
fault_first p more (Some f) h = ap (λ (x : Part). x.fault) (stays p f more h) ∙ h

-- ---- the same part by another name

pub writes_as : (old new rest : Text) (p q : Part) (r : Result (Unit {0}) StaticFault) → p ≡ q → Writes old new rest q r → Writes old new rest p r
writes_as old new rest p q r e w = let P : Part → Type 0 = λ x. Writes old new rest x r in subst P (sym e) w

-- a fault at once, or none that is named
pub ends_stop : (now : Text) (p : Part) (o : Option Fault) → length now ≤ most_clean → p.given ≡ [] → PartHasFault p o → EndsWith now p o
ends_stop now p None h none e = tt
ends_stop now p (Some f) h none e = ends_at_once now p f h none e

pub gives_as : (old new : Text) (p q : Part) (r : Result (Unit {0}) StaticFault) → p ≡ q → Gives old new q r → Gives old new p r
gives_as old new p q r e w = let P : Part → Type 0 = λ x. Gives old new x r in subst P (sym e) w

-- what is left after a part doesn't matter to its end
pub ends_anywhere : (old rest : Text) (p : Part) (o : Option Fault) → EndsWith old p o → EndsWith old (record p { rest = rest }) o
ends_anywhere old rest p None h = tt
ends_anywhere old rest p (Some f) h = h

pub ends_as : (old : Text) (p q : Part) (o : Option Fault) → p ≡ q → EndsWith old q o → EndsWith old p o
ends_as old p q o e h = let P : Part → Type 0 = λ x. EndsWith old x o in subst P (sym e) h

pub ends_fails : (old : Text) (p : Part) (f : Fault) → length old ≤ most_clean → p ≡ stops f → EndsWith old p (Some f)
ends_fails old p f h e = ends_at_once old p f h (ap (λ (x : Part). x.given) e) (ap (λ (x : Part). x.fault) e)

pub wrote_as : (old new : Text) (p q : Part) → p ≡ q → Wrote old new q.rest q → Wrote old new p.rest p
wrote_as old new p q e w = let P : Part → Type 0 = λ x. Wrote old new x.rest x in subst P (sym e) w
