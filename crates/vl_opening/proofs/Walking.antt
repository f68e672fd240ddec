-- One list of requests and then another, nothing behind the end, and each request by itself.
use Rattle.std.proofs.Common.{◌≡◌, refl, sym, ap, ◌∙◌, subst, ℕ, suc, ◌+◌, Bool, true, false, ◌&&◌, if◌then◌else◌, List, [], ◌∷◌, ◌++◌, length}
use Rattle.std.specs.Prelude.{Some, None, slice_get, nat_lt}
use Rattle.vl_tree.specs.Syntax.{Place}
use Rattle.vl_tree.specs.SyntaxView as view
use Rattle.vl_tree.specs.declared.fault.FaultKind.TheVariants.{TooManyInstances, Expanded}
use Rattle.vl_value.specs.Order as order
use Rattle.vl_value.specs.Order.{at}
use Rattle.vl_design.specs.Limits.{limits}
use Rattle.vl_design.specs.Scopes.{Scope, Request, instance_begins, expands, opens, fails, failing}
use Rattle.vl_design.specs.Walk.{Built, ended_with, built, heard, all_heard}
use Rattle.vl_design.proofs.HeardLaws.{heard_joined, heard_ended}
use Rattle.vl_build.specs.declared.progress.Progress.{Progress}
use Rattle.vl_build.specs.Heard.{Hears, Tells}
use Rattle.vl_build.proofs.Hearing.{still}
use Rattle.vl_scopes.specs.declared.scope.Scope as code
use Rattle.vl_scopes.specs.Plain.{plain_scope, plain_scopes}
use Rattle.vl_opening.specs.declared.walk.Walk.{Walk}
use Rattle.vl_opening.specs.Walking.{IsOpen, Keeps, Opens, Walks, scopes_of}
use Rattle.vl_opening.proofs.Placing.{scopes_on, length_is, last_there, stays}

-- ---- one list and then another

keeps_all : (ss : List Scope) → Keeps ss ss
keeps_all ss k s e = e

pub walks_none : (w : Walk) → Walks [] w w
walks_none w = record {
  hears = record { top = refl; tells = λ b t. t };
  scopes = λ b t e. e;
  kept = keeps_all (scopes_of w);
}

module _ (rs more : List Request) (p q r : Walk) (g : Walks rs p q) (h : Walks more q r) where
  abbrev between : Built → Built
  between b = all_heard limits (view.place p.progress.top) rs b

  joined : (b : Built) → all_heard limits (view.place q.progress.top) more (between b) ≡ all_heard limits (view.place p.progress.top) (rs ++ more) b
  joined b = ap (λ top. all_heard limits (view.place top) more (between b)) g.hears.top
      ∙ sym (heard_joined limits (view.place p.progress.top) rs more b)

  pub walks_on : Walks (rs ++ more) p r
  walks_on = record {
    hears = record {
      top = h.hears.top ∙ g.hears.top;
      tells = λ b t. subst (Tells r.progress) (joined b) (h.hears.tells (between b) (g.hears.tells b t));
    };
    scopes = λ b t e. ap (λ (c : Built). c.scopes) (sym (joined b)) ∙ h.scopes (between b) (g.hears.tells b t) (g.scopes b t e);
    kept = λ k s e. h.kept k s (g.kept k s e);
  }

-- the requests as others have them
pub walks_as : (rs more : List Request) (p q : Walk) → rs ≡ more → Walks rs p q → Walks more p q
walks_as rs more p q e w = subst (λ x. Walks x p q) e w

-- behind the end nothing is heard
pub walks_still : (w : Walk) (rs : List Request) → w.progress.ended ≡ true → Walks rs w w
walks_still w rs e = record {
  hears = still w.progress rs e;
  scopes = λ b t s. ap (λ (c : Built). c.scopes) (heard_ended limits (view.place w.progress.top) rs b (sym t.ended ∙ e)) ∙ s;
  kept = keeps_all (scopes_of w);
}

pub walks_ended : (rs more : List Request) (p q : Walk) → Walks rs p q → q.progress.ended ≡ true → Walks (rs ++ more) p q
walks_ended rs more p q w e = walks_on rs more p q q w (walks_still q more e)

-- ---- requests that open no scope

abbrev pub is_quiet : Request → Bool
is_quiet (opens s) = false
is_quiet _ = true

abbrev pub are_quiet : List Request → Bool
are_quiet [] = true
are_quiet (r ∷ rs) = is_quiet r && are_quiet rs

either : (y : Bool) (b c : Built) (ss : List Scope) → b.scopes ≡ ss → c.scopes ≡ ss → (if y then b else c).scopes ≡ ss
either true b c ss e f = e
either false b c ss e f = f

built_quiet : (top : Place) (r : Request) (b : Built) → is_quiet r ≡ true → (built limits top r b).scopes ≡ b.scopes
built_quiet top (instance_begins p) b e = let c : Built = record b { instances = suc b.instances } in
    either (nat_lt limits.instances c.instances) (ended_with (at p TooManyInstances) c) c b.scopes refl refl
built_quiet top (expands n) b e = let c : Built = record b { tokens = b.tokens + n } in
    either (nat_lt limits.tokens c.tokens) (ended_with (at top Expanded) c) c b.scopes refl refl
built_quiet top (opens s) b e = absurd cc
built_quiet top (fails f) b e = refl

heard_quiet : (top : Place) (r : Request) (b : Built) → is_quiet r ≡ true → (heard limits top r b).scopes ≡ b.scopes
heard_quiet top r b e = either b.ended b (built limits top r b) b.scopes refl (built_quiet top r b e)

and_first : (a b : Bool) → (a && b) ≡ true → a ≡ true
and_first true b e = refl
and_first false b e = absurd cc

and_second : (a b : Bool) → (a && b) ≡ true → b ≡ true
and_second true b e = e
and_second false b e = absurd cc

all_quiet : (top : Place) (rs : List Request) (b : Built) → are_quiet rs ≡ true → (all_heard limits top rs b).scopes ≡ b.scopes
all_quiet top [] b e = refl
all_quiet top (r ∷ rs) b e = all_quiet top rs (heard limits top r b) (and_second (is_quiet r) (are_quiet rs) e)
    ∙ heard_quiet top r b (and_first (is_quiet r) (are_quiet rs) e)

pub walks_quiet : (rs : List Request) (old new : Walk) → are_quiet rs ≡ true → new.scopes ≡ old.scopes
    → Hears old.progress new.progress rs → Walks rs old new
walks_quiet rs old new y same h =
    let e : scopes_of old ≡ scopes_of new = ap (λ v. plain_scopes v.items) (sym same) in
    record {
      hears = h;
      scopes = λ b t s. all_quiet (view.place old.progress.top) rs b y ∙ s ∙ e;
      kept = subst (λ ss. Keeps (scopes_of old) ss) e (keeps_all (scopes_of old));
    }

pub failing_quiet : (fs : List order.Found) → are_quiet (failing fs) ≡ true
failing_quiet [] = refl
failing_quiet (f ∷ fs) = failing_quiet fs

-- faults of one list and then of another
pub failing_joined : (fs gs : List order.Found) → failing fs ++ failing gs ≡ failing (fs ++ gs)
failing_joined [] gs = refl
failing_joined (f ∷ fs) gs = ap (λ rs. fails f ∷ rs) (failing_joined fs gs)

-- ---- a scope is opened

opened : (top : Place) (s : Scope) (b : Built) → b.ended ≡ false → all_heard limits top (opens s ∷ []) b ≡ record b { scopes = b.scopes ++ s ∷ [] }
opened top s b e = ap (λ y. if y then b else built limits top (opens s) b) e

with_scope : (p : Progress) (b : Built) (ss : List Scope) → Tells p b → Tells p (record b { scopes = ss })
with_scope p b ss t = record {
  ended = t.ended;
  fault = t.fault;
  counts = λ n. record {
    instances = (t.counts n).instances;
    tokens = (t.counts n).tokens;
    few_instances = (t.counts n).few_instances;
    few_tokens = (t.counts n).few_tokens;
  };
}

module _ (old new : Walk) (c : code.Scope) (go : old.progress.ended ≡ false) (same : new.progress ≡ old.progress)
    (one : new.scopes.items ≡ old.scopes.items ++ c ∷ []) where
  abbrev s : Scope
  s = plain_scope (scopes_of old) c

  scopes_are : scopes_of old ++ s ∷ [] ≡ scopes_of new
  scopes_are = sym (scopes_on old.scopes.items c) ∙ ap plain_scopes (sym one)

  opens_one : Walks (opens s ∷ []) old new
  opens_one = record {
    hears = record {
      top = ap (λ (p : Progress). p.top) same;
      tells = λ b t. subst (Tells new.progress) (sym (opened (view.place old.progress.top) s b (sym t.ended ∙ go)))
          (with_scope new.progress b (b.scopes ++ s ∷ []) (subst (λ p. Tells p b) (sym same) t));
    };
    scopes = λ b t e. ap (λ (x : Built). x.scopes) (opened (view.place old.progress.top) s b (sym t.ended ∙ go))
        ∙ ap (λ ss. ss ++ s ∷ []) e ∙ scopes_are;
    kept = subst (λ ss. Keeps (scopes_of old) ss) scopes_are (stays (scopes_of old) (s ∷ []));
  }

  pub opens_scope : (n : ℕ) → n ≡ length old.scopes.items → Opens c old new (Some n)
  opens_scope n e = record {
    walks = opens_one;
    number = ap (slice_get (scopes_of new)) (e ∙ sym (length_is old.scopes.items))
        ∙ ap (λ ss. slice_get ss (length (scopes_of old))) (sym scopes_are) ∙ last_there (scopes_of old) s;
  }

pub opens_nothing : (old : Walk) (c : code.Scope) → old.progress.ended ≡ true → Opens c old old None
opens_nothing old c e = record { walks = walks_still old (opens (plain_scope (scopes_of old) c) ∷ []) e; number = e }

-- ---- a scope that is there stays

pub open_on : (rs : List Request) (old new : Walk) (k : ℕ) → Walks rs old new → IsOpen old k → IsOpen new k
open_on rs old new k w o = (o.0, w.kept k o.0 o.1)
