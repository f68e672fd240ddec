-- Items one after another; a block, a module and its instances from their parts.
use Rattle.std.proofs.Common.{◌≡◌, refl, sym, ap, ◌∙◌, subst, ℕ, ◌+◌, ◌-◌, ◌<◌, Bool, true, false, List, [], ◌∷◌, ◌++◌, append-nil}
use Rattle.std.specs.Prelude.{Option, Some, None}
use Rattle.vl_tree.specs.Syntax as t
use Rattle.vl_tree.specs.Syntax.{Place, Source}
use Rattle.vl_design.specs.Limits.{limits}
use Rattle.vl_design.specs.Parameters.{Given}
use Rattle.vl_design.specs.Generate.{behind, constructs_of}
use Rattle.vl_design.specs.Scopes as d
use Rattle.vl_design.specs.Scopes.{Scope, Request, Use, opens, failing, within, inside, body_around, body_items, at_entry, module_scope}
use Rattle.vl_frames.specs.declared.frames.Frames.{Frames}
use Rattle.vl_frames.specs.Marks.{around}
use Rattle.vl_frames.specs.Changes.{Leaves}
use Rattle.vl_members.specs.Members.{all_behind}
use Rattle.vl_members.proofs.Turning.{left_again, same_around}
use Rattle.vl_members.proofs.Adding.{region_behind}
use Rattle.vl_generate.specs.Choices.{taken_of}
use Rattle.vl_generate.proofs.Choosing.{branches_ask}
use Rattle.vl_opening.specs.declared.walk.Walk.{Walk}
use Rattle.vl_opening.specs.declared.block.BlockSite.{BlockSite}
use Rattle.vl_opening.specs.declared.instance.Site.{Site}
use Rattle.vl_opening.specs.declared.instance.Entered.{Entered}
use Rattle.vl_opening.specs.Walking.{IsOpen, Walks, here_in, scopes_of}
use Rattle.vl_opening.specs.Entering.{EntersBody, EntersUse, IsUse, entry_requests, scope_at}
use Rattle.vl_opening.specs.Passing.{Passes}
use Rattle.vl_opening.proofs.Walking.{walks_as, walks_on, walks_ended, open_on}
use Rattle.vl_opening.proofs.Passing.{Leads, leads_start, leads_on, leads_end}
use Rattle.vl_walk.specs.declared.modules.Modules.{Modules}
use Rattle.vl_walk.specs.declared.walking.Here.{Here}
use Rattle.vl_walk.specs.Library.{source_of, maker_of}
use Rattle.vl_walk.specs.Asked.{HearsModule, PassesItem, PassesItems, PassesScope, asks_item, asks_items, place_of}
use Rattle.vl_walk.proofs.Asking.{place_on, inside_is, within_is, module_asks}

both : (y : Bool) → y ≡ true → y ≡ false → ⊥
both true e f = absurd cc
both false e f = absurd cc

-- ---- items one after another

-- what was walked since the start, and what is left
pub record Since (m : Modules) (here : Here) (gs : List Given) (was frames : Frames) (start now : Walk) (first n : ℕ) (all left : t.Items) : Type 0 where
  pub leads : Leads (asks_items m here.depth (place_of start here gs) first (around was) all)
      (asks_items m here.depth (place_of start here gs) n (around frames) left) start now
  pub is_open : IsOpen now here.scope
  pub place : place_of now here gs ≡ place_of start here gs
  pub sight : all_behind gs (around frames) left ≡ all_behind gs (around was) all
  pub outer : frames.outer.items ≡ was.outer.items

pub since_start : (m : Modules) (here : Here) (gs : List Given) (f : Frames) (w : Walk) (n : ℕ) (all : t.Items) → IsOpen w here.scope
    → Since m here gs f f w w n n all all
since_start m here gs f w n all o = record {
  leads = leads_start (asks_items m here.depth (place_of w here gs) n (around f) all) w;
  is_open = o;
  place = refl;
  sight = refl;
  outer = refl;
}

module _ (m : Modules) (here : Here) (gs : List Given) (was frames now_frames : Frames) (start now next : Walk) (first n : ℕ)
    (all left rest : t.Items) (i : t.Item) (e : left ≡ t.more_item i rest) (h : PassesItem m here gs n i frames now_frames now next)
    (s : Since m here gs was frames start now first n all left) where
  abbrev h0 : d.Here
  h0 = place_of start here gs

  one : Walks (asks_item m here.depth h0 n (around frames) i) now next
  one = subst (λ p. Walks (asks_item m here.depth p n (around frames) i) now next) s.place h.walks

  pub since_on : (k : ℕ) → k ≡ n + constructs_of i → next.progress.ended ≡ false → Since m here gs was now_frames start next first k all rest
  since_on k ek go = record {
    leads = leads_on (asks_items m here.depth h0 first (around was) all) (asks_items m here.depth h0 n (around frames) left)
        (asks_item m here.depth h0 n (around frames) i) (asks_items m here.depth h0 k (around now_frames) rest) start now next
        (ap (asks_items m here.depth h0 n (around frames)) e
        ∙ (λ j. asks_item m here.depth h0 n (around frames) i ++ asks_items m here.depth h0 (sym ek j) (sym (h.sight go) j) rest)) one s.leads;
    is_open = open_on _ now next here.scope h.walks s.is_open;
    place = place_on _ now next here gs h.walks s.is_open ∙ s.place;
    sight = ap (λ a. all_behind gs a rest) (h.sight go) ∙ ap (all_behind gs (around frames)) (sym e) ∙ s.sight;
    outer = h.outer ∙ s.outer;
  }

  -- the walk ended in this item
  pub since_ended : next.progress.ended ≡ true → PassesItems m here gs first all was now_frames start next
  since_ended stop = record {
    walks = s.leads.leads next (walks_as (asks_item m here.depth h0 n (around frames) i ++ asks_items m here.depth h0 (n + constructs_of i) (behind gs (around frames) i) rest)
        (asks_items m here.depth h0 n (around frames) left) now next (ap (asks_items m here.depth h0 n (around frames)) (sym e))
        (walks_ended (asks_item m here.depth h0 n (around frames) i) _ now next one stop));
    sight = λ go. absurd (both next.progress.ended stop go);
    outer = h.outer ∙ s.outer;
  }

pub since_end : (m : Modules) (here : Here) (gs : List Given) (was frames : Frames) (start now : Walk) (first n : ℕ) (all left : t.Items)
    → left ≡ t.no_item → Since m here gs was frames start now first n all left → PassesItems m here gs first all was frames start now
since_end m here gs was frames start now first n all left e s = record {
  walks = leads_end (asks_items m here.depth (place_of start here gs) first (around was) all)
      (asks_items m here.depth (place_of start here gs) n (around frames) left) start now
      (ap (asks_items m here.depth (place_of start here gs) n (around frames)) e) s.leads;
  sight = λ go. ap (all_behind gs (around frames)) (sym e) ∙ s.sight;
  outer = s.outer;
}

-- ---- an item

-- the item is another one
pub passes_same : (m : Modules) (here : Here) (gs : List Given) (n : ℕ) (i j : t.Item) (was now : Frames) (old new : Walk) → i ≡ j
    → PassesItem m here gs n j was now old new → PassesItem m here gs n i was now old new
passes_same m here gs n i j was now old new e h = subst (λ x. PassesItem m here gs n x was now old new) (sym e) h

pub passes_region : (m : Modules) (here : Here) (gs : List Given) (n : ℕ) (p : Place) (is : t.Items) (was now : Frames) (old new : Walk)
    → PassesItems m here gs n is was now old new → PassesItem m here gs n (t.region p is) was now old new
passes_region m here gs n p is was now old new h = record {
  walks = h.walks;
  sight = λ go. h.sight go ∙ region_behind gs (around was) p is;
  outer = h.outer;
}

-- what is around stays
pub passes_quietly : (rs : List Request) (f : Frames) (old new : Walk) → Walks rs old new → Passes rs (around f) f f old new
passes_quietly rs f old new w = record { walks = w; sight = λ go. refl; outer = refl }

-- ---- an `if`

module _ (m : Modules) (here : Here) (gs : List Given) (n : ℕ) (bs : t.GenerateBranches) (e : t.GenerateElse) (was now : Frames) (a b c : Walk)
    (one : Walks (failing (taken_of (around was).known bs e).faults) a b) (open_here : IsOpen a here.scope) where
  abbrev asks_block : t.GenerateBlock → List Request
  asks_block = d.block_requests (maker_of m here.depth) (source_of m) limits (place_of a here gs) n (around was)

  all_of : (o : Option t.GenerateBlock) → o ≡ (taken_of (around was).known bs e).block
      → failing (taken_of (around was).known bs e).faults ++ elim o [ Some x ↦ asks_block x | None ↦ [] ]
      ≡ asks_item m here.depth (place_of a here gs) n (around was) (t.generate_if bs e)
  all_of o is = ap (λ x. failing (taken_of (around was).known bs e).faults ++ elim x [ Some y ↦ asks_block y | None ↦ [] ]) is
      ∙ sym (branches_ask (maker_of m here.depth) (source_of m) limits (place_of a here gs) n (around was) bs e)

  pub passes_taken : (x : t.GenerateBlock) → Some x ≡ (taken_of (around was).known bs e).block
      → Passes (d.block_requests (maker_of m here.depth) (source_of m) limits (place_of b here gs) n (around was) x) (around was) was now b c
      → PassesItem m here gs n (t.generate_if bs e) was now a c
  passes_taken x is h = record {
    walks = walks_as (failing (taken_of (around was).known bs e).faults ++ asks_block x) _ a c (all_of (Some x) is)
        (walks_on (failing (taken_of (around was).known bs e).faults) (asks_block x) a b c one
        (subst (λ p. Walks (d.block_requests (maker_of m here.depth) (source_of m) limits p n (around was) x) b c)
        (place_on _ a b here gs one open_here) h.walks));
    sight = h.sight;
    outer = h.outer;
  }

  pub passes_none : None ≡ (taken_of (around was).known bs e).block → PassesItem m here gs n (t.generate_if bs e) was was a b
  passes_none is = passes_quietly _ was a b (walks_as (failing (taken_of (around was).known bs e).faults ++ []) _ a b (all_of None is)
      (walks_as (failing (taken_of (around was).known bs e).faults) _ a b (sym (append-nil (failing (taken_of (around was).known bs e).faults))) one))

-- ---- a block that makes a scope

module _ (m : Modules) (depth : ℕ) (site : BlockSite) (b : t.GenerateBlock) (was inside_frames : Frames) (old mid : Walk) where
  abbrev scope_here : Scope
  scope_here = scope_at (scopes_of old) site (around was) b

  -- its items were walked through, and it is left
  pub scope_made : (behind_frames now : Frames) (new : Walk) (here : Here) (is : t.Items) → EntersBody site b was inside_frames old mid (Some here.scope)
      → here.depth ≡ depth → here.in_block ≡ true → is ≡ body_items b → PassesItems m here [] 1 is inside_frames behind_frames mid new
      → Leaves behind_frames now → PassesScope m depth site b was now old new
  scope_made behind_frames now new here is e ed ei es h leaves =
      let r : List Request = asks_items m depth (within scope_here) 1 (body_around b (around was)) (body_items b) in
      let where_is : place_of mid here [] ≡ within scope_here = ap (λ y. here_in (scopes_of mid) here.scope [] y) ei
      ∙ within_is mid here.scope scope_here e.number in
      let left = left_again was behind_frames now (h.outer ∙ e.outer) leaves in
      record {
        walks = walks_on (opens scope_here ∷ []) r old mid new e.walks
            (walks_as _ r mid new (λ j. asks_items m (ed j) (where_is j) 1 (e.sight j) (es j)) h.walks);
        sight = λ go. same_around was now left;
        outer = left.others;
      }

  -- the walk had ended
  pub scope_none : (now : Frames) → EntersBody site b was inside_frames old mid None → Leaves inside_frames now → PassesScope m depth site b was now old mid
  scope_none now e leaves =
      let left = left_again was inside_frames now e.outer leaves in
      record {
        walks = walks_ended (opens scope_here ∷ []) _ old mid e.walks e.number;
        sight = λ go. same_around was now left;
        outer = left.others;
      }

-- ---- a module

module _ (m : Modules) (depth : ℕ) (site : Site) (gs : List Given) (parent : t.Module) (old mid : Walk) (some_left : 0 < depth) where
  pub module_made : (here : Here) (frames now : Frames) (new : Walk) (is : t.Items) (e : Entered)
      → ((u : Use) → IsUse (scopes_of old) site gs u parent → EntersUse u parent old mid (Some e))
      → here.scope ≡ e.scope → here.depth ≡ depth - 1 → here.in_block ≡ false → frames ≡ e.frames → is ≡ parent.items
      → PassesItems m here gs 1 is frames now mid new → HearsModule m depth site gs parent old new
  module_made here frames now new is e enters ek ed ei ef es h u of_use =
      let x = enters u of_use in
      let s = module_scope limits u parent in
      let where_is : place_of mid here gs ≡ inside u s = (λ j. here_in (scopes_of mid) (ek j) gs (ei j))
      ∙ inside_is mid e.scope gs u parent x.entered.0 of_use.given in
      let sight : around frames ≡ at_entry u parent = ap around ef ∙ x.entered.1 in
      walks_as (entry_requests u parent ++ asks_items m (depth - 1) (inside u s) 1 (at_entry u parent) parent.items) _ old new
      (module_asks m depth u parent some_left)
      (walks_on (entry_requests u parent) _ old mid new x.walks
      (walks_as _ (asks_items m (depth - 1) (inside u s) 1 (at_entry u parent) parent.items) mid new
      (λ j. asks_items m (ed j) (where_is j) 1 (sight j) (es j)) h.walks))

  pub module_none : ((u : Use) → IsUse (scopes_of old) site gs u parent → EntersUse u parent old mid None) → HearsModule m depth site gs parent old mid
  module_none enters u of_use =
      let x = enters u of_use in
      walks_as (entry_requests u parent ++ asks_items m (depth - 1) (inside u (module_scope limits u parent)) 1 (at_entry u parent) parent.items) _ old mid
      (module_asks m depth u parent some_left)
      (walks_ended (entry_requests u parent) _ old mid x.walks x.entered)
