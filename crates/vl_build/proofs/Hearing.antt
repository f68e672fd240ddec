-- What is heard of a list of requests: nothing behind the end; of too many instances or tokens the end; of faults all.
use Rattle.std.proofs.Common.{◌≡◌, refl, sym, ap, ◌∙◌, subst, ℕ, suc, ◌+◌, ◌<◌, ◌≤◌, Bool, true, false, if◌then◌else◌, List, [], ◌∷◌, ◌++◌, append-nil, append_assoc, arith}
use Rattle.std.proofs.lemmas.Bool.{lt-ltb}
use Rattle.std.specs.Prelude.{Option, Some}
use Rattle.std.specs.Option.{option_map}
use Rattle.vl_tree.specs.Syntax.{Place}
use Rattle.vl_tree.specs.SyntaxView as view
use Rattle.vl_tree.specs.declared.fault.FaultKind.{FaultKind}
use Rattle.vl_tree.specs.declared.fault.FaultKind.TheVariants.{TooManyInstances, Expanded}
use Rattle.vl_value.specs.Order as order
use Rattle.vl_value.specs.Order.{at, lesser, least}
use Rattle.vl_value.proofs.OrderLaws.{least_joined}
use Rattle.vl_found.specs.declared.Found.{Found}
use Rattle.vl_found.specs.View.{found}
use Rattle.vl_design.specs.Limits.{limits}
use Rattle.vl_design.specs.Scopes.{Request, instance_begins, expands, fails, failing}
use Rattle.vl_design.specs.Walk.{Built, ended_with, built, heard, all_heard}
use Rattle.vl_design.proofs.HeardLaws.{heard_ended}
use Rattle.vl_tokens.specs.Counted.{capped}
use Rattle.vl_build.specs.declared.progress.Progress.{Progress}
use Rattle.vl_build.specs.Heard.{Tells, Hears, HearsBegin, HearsExpand, HearsFaults, HearsEnd}

-- behind the end nothing is heard
pub still : (p : Progress) (rs : List Request) → p.ended ≡ true → Hears p p rs
still p rs e = record {
  top = refl;
  tells = λ b h. subst (Tells p) (sym (heard_ended limits (view.place p.top) rs b (sym h.ended ∙ e))) h;
}

-- before the end a request is heard
open_heard : (top : Place) (r : Request) (b : Built) → b.ended ≡ false → heard limits top r b ≡ built limits top r b
open_heard top r b e = ap (λ y. if y then b else built limits top r b) e

both_ways : {A : Type 0} → (y : Bool) → y ≡ true → y ≡ false → A
both_ways true e f = absurd cc
both_ways false e f = absurd cc

-- an end with a fault
ends : (old new : Progress) (p : Place) (k : FaultKind) (b c : Built) → HearsEnd old new p k → Tells old b → c.faults ≡ b.faults
    → Tells new (ended_with (at p k) c)
ends old new p k b c h t e = record {
  ended = h.ended;
  fault = h.fault ∙ ap (λ o. lesser o (Some (at p k))) t.fault ∙ sym (least_joined b.faults (at p k ∷ []))
      ∙ ap (λ fs. least (fs ++ at p k ∷ [])) (sym e);
  counts = λ n. both_ways new.ended h.ended n;
}

-- an instance of too many
pub too_many : (old new : Progress) (p : Place) → old.ended ≡ false → limits.instances ≤ old.instances → HearsEnd old new p TooManyInstances
    → HearsBegin old new p
too_many old new p o many h = record {
  top = h.top;
  tells = λ b t.
      let c : Built = record b { instances = suc b.instances } in
      let n = (t.counts o).instances in
      let past : limits.instances < suc b.instances = omega (arith, many, n) in
      subst (Tells new)
      (sym (open_heard (view.place old.top) (instance_begins p) b (sym t.ended ∙ o)
      ∙ ap (λ y. if y then ended_with (at p TooManyInstances) c else c) (lt-ltb limits.instances (suc b.instances) past)))
      (ends old new p TooManyInstances b c h t refl);
}

-- more tokens than there may be
pub too_much : (old new : Progress) (tokens sum : ℕ) → old.ended ≡ false → sum ≡ capped (old.tokens + tokens) → limits.tokens < sum
    → HearsEnd old new (view.place old.top) Expanded → HearsExpand old new tokens
too_much old new tokens sum o is past h n e = record {
  top = h.top;
  tells = λ b t.
      let c : Built = record b { tokens = b.tokens + n } in
      let m = (t.counts o).tokens in
      let over : limits.tokens < b.tokens + n = omega (arith, is, past, e, m) in
      subst (Tells new)
      (sym (open_heard (view.place old.top) (expands n) b (sym t.ended ∙ o)
      ∙ ap (λ y. if y then ended_with (at (view.place old.top) Expanded) c else c) (lt-ltb limits.tokens (b.tokens + n) over)))
      (ends old new (view.place old.top) Expanded b c h t refl);
}

-- faults are added to those before
failing_heard : (top : Place) (fs : List order.Found) (b : Built) → b.ended ≡ false
    → all_heard limits top (failing fs) b ≡ record b { faults = b.faults ++ fs }
failing_heard top [] b e = ap (λ gs. record b { faults = gs }) (sym (append-nil b.faults))
failing_heard top (f ∷ fs) b e =
    ap (all_heard limits top (failing fs)) (open_heard top (fails f) b e)
    ∙ failing_heard top fs (record b { faults = b.faults ++ f ∷ [] }) e
    ∙ ap (λ gs. record b { faults = gs }) (append_assoc b.faults (f ∷ []) fs)

pub failed : (old : Progress) (f now : Option Found) → old.ended ≡ false
    → option_map found now ≡ lesser (option_map found old.fault) (option_map found f)
    → HearsFaults old (record old { fault = now }) f
failed old f now o is fs e = record {
  top = refl;
  tells = λ b t. subst (Tells (record old { fault = now })) (sym (failing_heard (view.place old.top) fs b (sym t.ended ∙ o)))
      (record {
        ended = t.ended;
        fault = is ∙ (λ i. lesser (t.fault i) (e i)) ∙ sym (least_joined b.faults fs);
        counts = λ n. record {
          instances = (t.counts n).instances;
          tokens = (t.counts n).tokens;
          few_instances = (t.counts n).few_instances;
          few_tokens = (t.counts n).few_tokens;
        };
      });
}
