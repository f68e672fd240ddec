-- What is built by one list of requests and then another; that nothing is built behind the end; and that of the faults the
-- least tells all that building asks of them.
use Rattle.std.proofs.Common.{◌≡◌, refl, sym, ap, ◌∙◌, ℕ, suc, ◌+◌, Bool, true, false, if◌then◌else◌, List, [], ◌∷◌, ◌++◌, Option}
use Rattle.std.specs.Prelude.{nat_lt}
use Rattle.vl_tree.specs.declared.fault.FaultKind.TheVariants.{TooManyInstances, Expanded}
use Rattle.vl_tree.specs.Syntax.{Place}
use Rattle.vl_value.specs.Order.{Found, at, lesser, least}
use Rattle.vl_value.proofs.OrderLaws.{least_joined}
use Rattle.vl_design.specs.Limits.{Limits}
use Rattle.vl_design.specs.Scopes.{Scope, Request, instance_begins, expands, opens, fails}
use Rattle.vl_design.specs.Walk.{Built, ended_with, built, heard, all_heard}

-- one list and then another
pub heard_joined : (q : Limits) (top : Place) (rs more : List Request) (b : Built)
    → all_heard q top (rs ++ more) b ≡ all_heard q top more (all_heard q top rs b)
heard_joined q top [] more b = refl
heard_joined q top (r ∷ rs) more b = heard_joined q top rs more (heard q top r b)

-- behind the end nothing is built
one_ended : (q : Limits) (top : Place) (r : Request) (b : Built) → b.ended ≡ true → heard q top r b ≡ b
one_ended q top r b e = ap (λ y. if y then b else built q top r b) e

pub heard_ended : (q : Limits) (top : Place) (rs : List Request) (b : Built) → b.ended ≡ true → all_heard q top rs b ≡ b
heard_ended q top [] b e = refl
heard_ended q top (r ∷ rs) b e = ap (all_heard q top rs) (one_ended q top r b e) ∙ heard_ended q top rs b e

-- ---- the least fault in place of all

pub record Brief : Type 0 where
  pub instances : ℕ
  pub tokens : ℕ
  pub ended : Bool
  pub fault : Option Found
  pub scopes : List Scope

abbrev pub brief : Built → Brief
brief b = record { instances = b.instances; tokens = b.tokens; ended = b.ended; fault = least b.faults; scopes = b.scopes }

abbrev pub failed : Found → Brief → Brief
failed f b = record b { fault = lesser b.fault (least (f ∷ [])) }

abbrev pub ended_by : Found → Brief → Brief
ended_by f b = record b { ended = true; fault = lesser b.fault (least (f ∷ [])) }

abbrev pub briefly : Limits → Place → Request → Brief → Brief
briefly q top (instance_begins p) b = let c : Brief = record b { instances = suc b.instances } in
    if nat_lt q.instances c.instances then ended_by (at p TooManyInstances) c else c
briefly q top (expands n) b = let c : Brief = record b { tokens = b.tokens + n } in
    if nat_lt q.tokens c.tokens then ended_by (at top Expanded) c else c
briefly q top (opens s) b = record b { scopes = b.scopes ++ s ∷ [] }
briefly q top (fails f) b = failed f b

ends_brief : (f : Found) (b : Built) → brief (ended_with f b) ≡ ended_by f (brief b)
ends_brief f b = ap (λ o. record (brief b) { ended = true; fault = o }) (least_joined b.faults (f ∷ []))

by_limit : (y : Bool) (f : Found) (b : Built) → brief (if y then ended_with f b else b) ≡ (if y then ended_by f (brief b) else brief b)
by_limit true f b = ends_brief f b
by_limit false f b = refl

pub built_brief : (q : Limits) (top : Place) (r : Request) (b : Built) → brief (built q top r b) ≡ briefly q top r (brief b)
built_brief q top (instance_begins p) b =
    by_limit (nat_lt q.instances (suc b.instances)) (at p TooManyInstances) (record b { instances = suc b.instances })
built_brief q top (expands n) b =
    by_limit (nat_lt q.tokens (b.tokens + n)) (at top Expanded) (record b { tokens = b.tokens + n })
built_brief q top (opens s) b = refl
built_brief q top (fails f) b = ap (λ o. record (brief b) { fault = o }) (least_joined b.faults (f ∷ []))
