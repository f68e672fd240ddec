-- Branches one after another, and what an `if` asks for by the block that is taken.
use Rattle.std.proofs.Common.{◌≡◌, refl, sym, ap, ◌∙◌, Bool, true, false, if◌then◌else◌, List, [], ◌++◌, append-nil}
use Rattle.std.specs.Prelude.{ℕ, Option, Some, None}
use Rattle.std.specs.Option.{option_map}
use Rattle.std.specs.Borrow.{Bor}
use Rattle.vl_tree.specs.Syntax as t
use Rattle.vl_tree.specs.Syntax.{Place, Source}
use Rattle.vl_tree.specs.declared.item.Item.{Item}
use Rattle.vl_tree.specs.declared.item.GenerateBlock.{GenerateBlock}
use Rattle.vl_value.specs.Meaning.{Meaning, true_of}
use Rattle.vl_value.specs.Order as order
use Rattle.vl_value.specs.Order.{least}
use Rattle.vl_found.specs.declared.Found.{Found}
use Rattle.vl_design.specs.Limits.{Limits}
use Rattle.vl_design.specs.Constants.{Known, value_of, needs}
use Rattle.vl_design.specs.Generate.{Around}
use Rattle.vl_design.specs.Scopes.{Maker, Here, Request, failing, taken, block_requests, branch_requests, else_requests}
use Rattle.vl_turns.specs.Turns.{HasTruth, truth_in}
use Rattle.vl_views.specs.Blocks.{block_of, else_of}
use Rattle.vl_generate.specs.Choices.{Taken, HasTaken, block_tree, by_condition, last_taken, taken_of, takes}

-- ---- one branch

-- what is taken by whether a condition holds
abbrev by_truth : Option Bool → List order.Found → t.GenerateBlock → Taken → Taken
by_truth None fs b later = record { block = None; faults = fs }
by_truth (Some true) fs b later = takes (Some b)
by_truth (Some false) fs b later = later

by_bool : (y : Bool) (fs : List order.Found) (b : t.GenerateBlock) (later : Taken)
    → (if y then takes (Some b) else later) ≡ by_truth (Some y) fs b later
by_bool true fs b later = refl
by_bool false fs b later = refl

by_condition_is : (v : Option Meaning) (fs : List order.Found) (b : t.GenerateBlock) (later : Taken)
    → by_condition v fs b later ≡ by_truth (truth_in v) fs b later
by_condition_is None fs b later = refl
by_condition_is (Some m) fs b later = by_bool (true_of m) fs b later

module _ (k : Known) (left rest : t.GenerateBranches) (last : t.GenerateElse) (p : Place) (e : t.Expr) (b : t.GenerateBlock) (whole : Taken)
    (o : Option Bool) (f : Option Found)
    (is : left ≡ t.more_generate_branch p e b rest) (c : taken_of k left last ≡ whole) (h : HasTruth k e o f) where
  first : by_truth o (needs k e) b (taken_of k rest last) ≡ whole
  first = ap (λ q. by_truth q (needs k e) b (taken_of k rest last)) h.holds
      ∙ sym (by_condition_is (value_of k e) (needs k e) b (taken_of k rest last))
      ∙ ap (λ bs. taken_of k bs last) (sym is) ∙ c

  -- the condition is faulty
  pub none_is : o ≡ None → HasTaken whole None f
  none_is n =
      let w : record { block = None; faults = needs k e } ≡ whole = ap (λ q. by_truth q (needs k e) b (taken_of k rest last)) (sym n) ∙ first in
      record { block = ap (λ (x : Taken). x.block) w; fault = h.fault ∙ ap (λ (x : Taken). least x.faults) w }

  -- this branch is taken
  pub here_is : o ≡ Some true → (block : Option (Bor (GenerateBlock Item))) → option_map block_tree block ≡ Some b → HasTaken whole block None
  here_is n block s =
      let w : takes (Some b) ≡ whole = ap (λ q. by_truth q (needs k e) b (taken_of k rest last)) (sym n) ∙ first in
      record { block = s ∙ ap (λ (x : Taken). x.block) w; fault = ap (λ (x : Taken). least x.faults) w }

  -- it isn't
  pub there_is : o ≡ Some false → taken_of k rest last ≡ whole
  there_is n = ap (λ q. by_truth q (needs k e) b (taken_of k rest last)) (sym n) ∙ first

-- no branch is left
last_block : (o : Option (GenerateBlock Item)) → option_map block_of o ≡ (last_taken (else_of o)).block
last_block None = refl
last_block (Some b) = refl

last_faults : (o : Option (GenerateBlock Item)) → None ≡ least ((last_taken (else_of o)).faults)
last_faults None = refl
last_faults (Some b) = refl

pub last_is : (k : Known) (left : t.GenerateBranches) (o : Option (GenerateBlock Item)) (block : Option (Bor (GenerateBlock Item))) (whole : Taken)
    → left ≡ t.no_generate_branch → taken_of k left (else_of o) ≡ whole → option_map block_tree block ≡ option_map block_of o
    → HasTaken whole block None
last_is k left o block whole none c s =
    let w : last_taken (else_of o) ≡ whole = ap (λ bs. taken_of k bs (else_of o)) (sym none) ∙ c in
    record {
      block = s ∙ last_block o ∙ ap (λ (x : Taken). x.block) w;
      fault = last_faults o ∙ ap (λ (x : Taken). least x.faults) w;
    }

-- ---- what an `if` asks for

-- what is taken asks for this
abbrev pub taken_requests : (t.GenerateBlock → List Request) → Taken → List Request
taken_requests f c = failing c.faults ++ elim c.block [ Some b ↦ f b | None ↦ [] ]

module _ (make : Maker) (src : Source) (q : Limits) (h : Here) (n : ℕ) (a : Around) where
  by_holds : (y : Bool) (b : t.GenerateBlock) (later : Taken) (rs : List Request)
      → rs ≡ taken_requests (block_requests make src q h n a) later
      → (if y then block_requests make src q h n a b else rs)
      ≡ taken_requests (block_requests make src q h n a) (if y then takes (Some b) else later)
  by_holds true b later rs e = refl
  by_holds false b later rs e = e

  by_value : (v : Option Meaning) (fs : List order.Found) (b : t.GenerateBlock) (later : Taken) (rs : List Request)
      → rs ≡ taken_requests (block_requests make src q h n a) later
      → taken v (failing fs) (block_requests make src q h n a b) rs ≡ taken_requests (block_requests make src q h n a) (by_condition v fs b later)
  by_value None fs b later rs e = sym (append-nil (failing fs))
  by_value (Some m) fs b later rs e = by_holds (true_of m) b later rs e

  pub branches_ask : (bs : t.GenerateBranches) (last : t.GenerateElse)
      → branch_requests make src q h n a bs (else_requests make src q h n a last)
      ≡ taken_requests (block_requests make src q h n a) (taken_of a.known bs last)
  branches_ask t.no_generate_branch t.no_generate_else = refl
  branches_ask t.no_generate_branch (t.generate_else b) = refl
  branches_ask (t.more_generate_branch p e b bs) last = by_value (value_of a.known e) (needs a.known e) b (taken_of a.known bs last)
      (branch_requests make src q h n a bs (else_requests make src q h n a last)) (branches_ask bs last)
