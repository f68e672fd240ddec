-- A plain item is passed; one after another of what is left.
use Rattle.std.proofs.Common.{◌≡◌, refl, sym, Bool, true, List, [], ◌++◌}
use Rattle.std.specs.Prelude.{Option}
use Rattle.std.specs.Option.{option_map}
use Rattle.vl_tree.specs.Syntax as t
use Rattle.vl_value.specs.Order.{least}
use Rattle.vl_found.specs.declared.Found.{Found}
use Rattle.vl_found.specs.View.{found}
use Rattle.vl_design.specs.Declarations.{item_needs}
use Rattle.vl_design.specs.Parameters.{Given}
use Rattle.vl_design.specs.Scopes.{Request, failing, misplaced}
use Rattle.vl_frames.specs.declared.frames.Frames.{Frames}
use Rattle.vl_frames.specs.Marks.{around}
use Rattle.vl_build.specs.Heard.{HearsFaults}
use Rattle.vl_declares.specs.declared.declared.Declared.{Declared}
use Rattle.vl_declares.specs.Items.{DeclaresItem, holds_none}
use Rattle.vl_generate.specs.Forms.{is_plain}
use Rattle.vl_opening.specs.declared.walk.Walk.{Walk}
use Rattle.vl_opening.specs.Walking.{Walks}
use Rattle.vl_opening.specs.Passing.{PassesPlain}
use Rattle.vl_opening.proofs.Walking.{walks_as, walks_on, walks_none, walks_still, failing_joined}
use Rattle.vl_opening.proofs.Entering.{walks_fail}

plain_holds : (i : t.Item) → is_plain i ≡ true → holds_none i ≡ true
plain_holds (t.region p is) e = absurd cc
plain_holds (t.generate_loop p l b) e = absurd cc
plain_holds (t.generate_if bs o) e = absurd cc
plain_holds (t.instances m ps is) e = absurd cc
plain_holds (t.parameter p l s r vs) e = refl
plain_holds (t.directed g xs) e = refl
plain_holds (t.nets p s r ns) e = refl
plain_holds (t.registers p s r vs) e = refl
plain_holds (t.integer p vs) e = refl
plain_holds (t.genvar p xs) e = refl
plain_holds (t.continuous p ds) e = refl
plain_holds (t.always p v b) e = refl
plain_holds (t.initial p b) e = refl
plain_holds (t.function f) e = refl

pub passes_plain : (gs : List Given) (y : Bool) (i : t.Item) (was now : Frames) (ds es : List Declared) (a b c : Walk) (f g : Option Found)
    → option_map found f ≡ least (misplaced y i) → b.scopes ≡ a.scopes → HearsFaults a.progress b.progress f
    → DeclaresItem gs i was now ds es g → c.scopes ≡ b.scopes → HearsFaults b.progress c.progress g
    → PassesPlain gs y i was now a c
passes_plain gs y i was now ds es a b c f g ef eb hf h ec hg is =
    let fs = misplaced y i in let ns = item_needs gs (around was).known i in
    record {
      walks = walks_as (failing fs ++ failing ns) (failing (fs ++ ns)) a c (failing_joined fs ns)
          (walks_on (failing fs) (failing ns) a b c (walks_fail f fs a b eb ef hf) (walks_fail g ns b c ec h.fault hg));
      sight = λ e. h.sight (plain_holds i is);
      outer = h.outer;
    }

-- ---- what is left

-- whatever is walked of what is left, all was walked from the start
pub record Leads (all left : List Request) (start now : Walk) : Type 0 where
  pub leads : (end : Walk) → Walks left now end → Walks all start end

pub leads_start : (all : List Request) (w : Walk) → Leads all all w w
leads_start all w = record { leads = λ end h. h }

pub leads_on : (all left one rest : List Request) (start now next : Walk) → left ≡ one ++ rest → Walks one now next → Leads all left start now
    → Leads all rest start next
leads_on all left one rest start now next e w h = record {
  leads = λ end v. h.leads end (walks_as (one ++ rest) left now end (sym e) (walks_on one rest now next end w v));
}

pub leads_end : (all left : List Request) (start now : Walk) → left ≡ [] → Leads all left start now → Walks all start now
leads_end all left start now e h = h.leads now (walks_as [] left now now (sym e) (walks_none now))

-- the walk ended here
pub leads_ended : (all left : List Request) (start now : Walk) → now.progress.ended ≡ true → Leads all left start now → Walks all start now
leads_ended all left start now e h = h.leads now (walks_still now left e)
