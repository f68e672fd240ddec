-- How far a design is built, as the program has it: the least fault in place of all, and behind the end no counts. This project's own.
use Rattle.std.specs.Prelude.{◌≡◌, ℕ, ◌≤◌, true, false, List, [], ◌∷◌, Option, Some}
use Rattle.std.specs.Option.{option_map}
use Rattle.vl_tree.specs.Syntax.{Place}
use Rattle.vl_tree.specs.SyntaxView as view
use Rattle.vl_tree.specs.declared.fault.FaultKind.{FaultKind}
use Rattle.vl_value.specs.Order as order
use Rattle.vl_value.specs.Order.{at, least}
use Rattle.vl_found.specs.declared.Found.{Found}
use Rattle.vl_found.specs.View.{found}
use Rattle.vl_design.specs.Limits.{limits}
use Rattle.vl_design.specs.Scopes.{Request, instance_begins, expands, failing}
use Rattle.vl_design.specs.Walk.{Built, all_heard}
use Rattle.vl_tokens.specs.Counted.{capped}
use Rattle.vl_build.specs.declared.progress.Progress.{Progress}

-- how many there are, within the limits
pub record Counts (p : Progress) (b : Built) : Type 0 where
  pub instances : p.instances ≡ b.instances
  pub tokens : p.tokens ≡ b.tokens
  pub few_instances : p.instances ≤ limits.instances
  pub few_tokens : p.tokens ≤ limits.tokens

-- the program's counts and fault are those of what was built
pub record Tells (p : Progress) (b : Built) : Type 0 where
  pub ended : p.ended ≡ b.ended
  pub fault : option_map found p.fault ≡ least b.faults
  pub counts : p.ended ≡ false → Counts p b

-- requests are heard
pub record Hears (old new : Progress) (rs : List Request) : Type 0 where
  pub top : new.top ≡ old.top
  pub tells : (b : Built) → Tells old b → Tells new (all_heard limits (view.place old.top) rs b)

abbrev pub HearsBegin : Progress → Progress → Place → Type 0
HearsBegin old new p = Hears old new (instance_begins p ∷ [])

abbrev pub HearsExpand : Progress → Progress → ℕ → Type 0
HearsExpand old new tokens = (n : ℕ) → tokens ≡ capped n → Hears old new (expands n ∷ [])

abbrev pub HearsFaults : Progress → Progress → Option Found → Type 0
HearsFaults old new f = (fs : List order.Found) → option_map found f ≡ least fs → Hears old new (failing fs)

-- it ends with a fault, where it hadn't ended
pub record HearsEnd (old new : Progress) (p : Place) (k : FaultKind) : Type 0 where
  pub top : new.top ≡ old.top
  pub ended : new.ended ≡ true
  pub fault : option_map found new.fault ≡ order.lesser (option_map found old.fault) (Some (at p k))
