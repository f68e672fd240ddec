-- The turns of a loop one after another, and the block of a turn and of a branch.
use Rattle.std.proofs.Common.{◌≡◌, refl, sym, ap, ◌∙◌, ℕ, ◌-◌, true, false, if◌then◌else◌, List, [], ◌∷◌, ◌++◌, append_assoc}
use Rattle.std.specs.Prelude.{Option, Some, None}
use Rattle.std.specs.Option.{option_map}
use Rattle.vl_tree.specs.Syntax as t
use Rattle.vl_tree.specs.Syntax.{Place}
use Rattle.vl_tree.specs.declared.fault.FaultKind.TheVariants.{Misplaced}
use Rattle.vl_value.specs.Order as order
use Rattle.vl_value.specs.Order.{at, least}
use Rattle.vl_found.specs.declared.Found.{Found}
use Rattle.vl_found.specs.View.{found}
use Rattle.vl_design.specs.Limits.{limits}
use Rattle.vl_design.specs.Lists.{each_of}
use Rattle.vl_design.specs.Constants.{value_of, needs}
use Rattle.vl_design.specs.Parameters.{Given}
use Rattle.vl_design.specs.Generate as g
use Rattle.vl_design.specs.Generate.{Around, has_one_genvar, one_more, in_turn, turns_of, turns_from, turn_tokens, step_of, label_of, turn_number}
use Rattle.vl_design.specs.Scopes as d
use Rattle.vl_design.specs.Scopes.{Request, expands, fails, failing}
use Rattle.vl_frames.specs.declared.frames.Frames.{Frames}
use Rattle.vl_frames.specs.Marks.{around}
use Rattle.vl_frames.specs.Changes.{Are, Leaves}
use Rattle.vl_constants.specs.Needed.{constants_of}
use Rattle.vl_members.proofs.Turning.{left_again, same_around}
use Rattle.vl_scopes.specs.Plain.{plain_scopes, plain_step, plain_turn}
use Rattle.vl_generate.specs.declared.turning.Numbered.{Numbered}
use Rattle.vl_generate.specs.declared.turning.Turning.TheVariants as c
use Rattle.vl_generate.specs.Forms.{is_inner_if}
use Rattle.vl_generate.specs.Turning.{Ends, TakesNumber, Makes, TurnsFrom, sight_in, turns_left}
use Rattle.vl_generate.proofs.NextTurns.{next_is}
use Rattle.vl_opening.specs.declared.walk.Walk.{Walk}
use Rattle.vl_opening.specs.declared.block.BlockSite.{BlockSite}
use Rattle.vl_opening.specs.Walking.{IsOpen, Walks, here_in, scopes_of}
use Rattle.vl_opening.specs.Passing.{Passes}
use Rattle.vl_opening.proofs.Walking.{walks_as, walks_on, open_on}
use Rattle.vl_opening.proofs.Passing.{Leads, leads_on, leads_ended}
use Rattle.vl_walk.specs.declared.modules.Modules.{Modules}
use Rattle.vl_walk.specs.declared.walking.Here.{Here}
use Rattle.vl_walk.specs.Library.{source_of, maker_of}
use Rattle.vl_walk.specs.Asked.{PassesBlock, PassesLoop, PassesScope, PassesTurn, asks_item, asks_scope, asks_turn, place_of}
use Rattle.vl_walk.proofs.Asking.{place_on, scope_asks, other_asks, inner_asks}

-- ---- a block in a turn, and that of a branch

pub passes_turn : (m : Modules) (here : Here) (n : ℕ) (l : t.Loop) (b : t.GenerateBlock) (k : ℕ) (site : BlockSite) (was now : Frames) (old mid new : Walk)
    → mid.scopes ≡ old.scopes → Walks (expands (turn_tokens b) ∷ []) old mid → site.within ≡ here.scope
    → plain_step site.step ≡ step_of n (label_of b) (Some (turn_number k)) → option_map plain_turn site.turn ≡ Some (l.variable.text, k)
    → PassesScope m here.depth site b was now mid new → PassesTurn m here n l b k was now old new
passes_turn m here n l b k site was now old mid new same one ek es et h gs =
    let r : List Request = d.scope_requests (maker_of m here.depth) (source_of m) limits (place_of old here gs) (d.turn_step n b k) (Some (l.variable.text, k)) (around was) b in
    record {
      walks = walks_on (expands (turn_tokens b) ∷ []) r old mid new one
          (walks_as (asks_scope m here.depth (scopes_of mid) site (around was) b) r mid new
          (scope_asks m here.depth here.scope (scopes_of mid) gs here.in_block site (d.turn_step n b k) (Some (l.variable.text, k)) (around was) b ek es et
          ∙ ap (λ v. d.scope_requests (maker_of m here.depth) (source_of m) limits (here_in (plain_scopes v.items) here.scope gs here.in_block) (d.turn_step n b k) (Some (l.variable.text, k)) (around was) b) same)
          h.walks);
      sight = h.sight;
      outer = h.outer;
    }

pub passes_other : (m : Modules) (here : Here) (gs : List Given) (n : ℕ) (b : t.GenerateBlock) (site : BlockSite) (was now : Frames) (old new : Walk)
    → is_inner_if b ≡ false → site.within ≡ here.scope → plain_step site.step ≡ step_of n (label_of b) None → option_map plain_turn site.turn ≡ None
    → PassesScope m here.depth site b was now old new → PassesBlock m here gs n b was now old new
passes_other m here gs n b site was now old new is ek es et h = record {
  walks = walks_as (asks_scope m here.depth (scopes_of old) site (around was) b) _ old new
      (scope_asks m here.depth here.scope (scopes_of old) gs here.in_block site (step_of n (label_of b) None) None (around was) b ek es et
      ∙ other_asks (maker_of m here.depth) (source_of m) (place_of old here gs) n (around was) b is) h.walks;
  sight = h.sight;
  outer = h.outer;
}

if_behind : (gs : List Given) (a : Around) (i : t.Item) → g.is_if i ≡ true → g.behind gs a i ≡ a
if_behind gs a (t.generate_if bs o) e = refl
if_behind gs a (t.region p is) e = absurd cc
if_behind gs a (t.generate_loop p l b) e = absurd cc
if_behind gs a (t.parameter p l s r vs) e = absurd cc
if_behind gs a (t.directed d xs) e = absurd cc
if_behind gs a (t.nets p s r ns) e = absurd cc
if_behind gs a (t.registers p s r vs) e = absurd cc
if_behind gs a (t.integer p vs) e = absurd cc
if_behind gs a (t.genvar p xs) e = absurd cc
if_behind gs a (t.continuous p ds) e = absurd cc
if_behind gs a (t.always p v b) e = absurd cc
if_behind gs a (t.initial p b) e = absurd cc
if_behind gs a (t.function f) e = absurd cc
if_behind gs a (t.instances m ps is) e = absurd cc

pub passes_inner : (m : Modules) (here : Here) (gs : List Given) (n : ℕ) (b : t.GenerateBlock) (i : t.Item) (was now : Frames) (old new : Walk)
    → b ≡ t.single i → g.is_if i ≡ true → Passes (asks_item m here.depth (place_of old here gs) n (around was) i) (g.behind gs (around was) i) was now old new
    → PassesBlock m here gs n b was now old new
passes_inner m here gs n b i was now old new e is h = record {
  walks = walks_as _ _ old new (inner_asks (maker_of m here.depth) (source_of m) (place_of old here gs) n (around was) b i e is) h.walks;
  sight = λ go. h.sight go ∙ if_behind gs (around was) i is;
  outer = h.outer;
}

-- ---- the turns

abbrev pub loop_asks : Modules → ℕ → d.Here → ℕ → t.Loop → t.GenerateBlock → Around → g.Turns → List Request
loop_asks m depth h n l b a ts =
    each_of (λ k. asks_turn m depth h n l b k (in_turn l.variable.text k a)) ts.numbers ++ failing ts.faults

-- what was walked since the start, and the turns that are left
pub record InLoop (m : Modules) (here : Here) (n : ℕ) (p : Place) (l : t.Loop) (b : t.GenerateBlock) (was frames : Frames) (start now : Walk)
    (left : ℕ) (taken : Numbered) : Type 0 where
  pub faults : List order.Found
  pub told : option_map found taken.fault ≡ least faults
  pub leads : (gs : List Given) → Leads (asks_item m here.depth (place_of start here gs) n (around was) (t.generate_loop p l b))
      (loop_asks m here.depth (place_of start here gs) n l b (around was) (turns_left p (around was) l left taken.number faults)) start now
  pub is_open : IsOpen now here.scope
  pub place : (gs : List Given) → place_of now here gs ≡ place_of start here gs
  pub same_frames : Are frames was.inner was.outer.items

module _ (m : Modules) (here : Here) (n : ℕ) (p : Place) (l : t.Loop) (b : t.GenerateBlock) where
  abbrev asks_loop : Walk → List Given → Around → List Request
  asks_loop w gs a = asks_item m here.depth (place_of w here gs) n a (t.generate_loop p l b)

  -- no loop over one genvar
  pub loop_misplaced : (was : Frames) (old new : Walk) → false ≡ has_one_genvar (around was) l → Walks (fails (at p Misplaced) ∷ []) old new
      → PassesLoop m here n p l b was was old new
  loop_misplaced was old new e w gs = record {
    walks = walks_as (fails (at p Misplaced) ∷ []) (asks_loop old gs (around was)) old new
        (ap (λ y. if y then loop_asks m here.depth (place_of old here gs) n l b (around was) (turns_of limits p (around was) l) else fails (at p Misplaced) ∷ []) e) w;
    sight = λ go. refl;
    outer = refl;
  }

  pub loop_start : (was : Frames) (w : Walk) (left : ℕ) (taken : Numbered) → true ≡ has_one_genvar (around was) l → IsOpen w here.scope
      → left ≡ limits.turns → TakesNumber (constants_of was) l.first taken.number taken.fault → InLoop m here n p l b was was w w left taken
  loop_start was w left taken e o el h =
      let a = around was in let fs = needs a.known l.first in
      let turns : turns_of limits p a l ≡ turns_left p a l left taken.number fs = next_is p a l limits.turns fs (value_of a.known l.first)
      ∙ (λ j. turns_left p a l (sym el j) (sym h.number j) fs) in
      record {
        faults = fs;
        told = h.fault;
        leads = λ gs. record {
          leads = λ end v. walks_as (loop_asks m here.depth (place_of w here gs) n l b a (turns_left p a l left taken.number fs)) (asks_loop w gs a) w end
              (ap (loop_asks m here.depth (place_of w here gs) n l b a) (sym turns)
              ∙ ap (λ y. if y then loop_asks m here.depth (place_of w here gs) n l b a (turns_of limits p a l) else fails (at p Misplaced) ∷ []) e) v;
        };
        is_open = o;
        place = λ gs. refl;
        same_frames = record { inmost = refl; others = refl };
      }

  module _ (was f : Frames) (start now : Walk) (left : ℕ) (taken : Numbered) (s : InLoop m here n p l b was f start now left taken) where
    same : around f ≡ around was
    same = same_around was f s.same_frames

    abbrev turns_here : g.Turns
    turns_here = turns_left p (around was) l left taken.number s.faults

    turns_in : turns_here ≡ turns_left p (around f) l left taken.number s.faults
    turns_in = ap (λ a. turns_left p a l left taken.number s.faults) (sym same)

    -- the walk has ended
    pub loop_ended : now.progress.ended ≡ true → PassesLoop m here n p l b was f start now
    loop_ended stop gs = record {
      walks = leads_ended (asks_loop start gs (around was)) (loop_asks m here.depth (place_of start here gs) n l b (around was) turns_here) start now stop (s.leads gs);
      sight = λ go. same;
      outer = s.same_frames.others;
    }

    -- no turn is left
    pub loop_end : (h : Frames) (next : Walk) (fault : Option Found) → TurnsFrom p l left taken f h (c.End fault)
        → ((fs : List order.Found) → option_map found fault ≡ least fs → Walks (failing fs) now next) → PassesLoop m here n p l b was h start next
    loop_end h next fault t w gs =
        let e : Ends (turns_left p (around f) l left taken.number s.faults) f h fault = t s.faults s.told in
        let fs : List order.Found = turns_here.faults in
        let told : option_map found fault ≡ least fs = e.fault ∙ ap (λ (ts : g.Turns). least ts.faults) (sym turns_in) in
        let none : turns_here.numbers ≡ [] = ap (λ (ts : g.Turns). ts.numbers) turns_in ∙ e.numbers in
        record {
          walks = (s.leads gs).leads next (walks_as (failing fs) (loop_asks m here.depth (place_of start here gs) n l b (around was) turns_here) now next
              (ap (λ ks. each_of (λ k. asks_turn m here.depth (place_of start here gs) n l b k (in_turn l.variable.text k (around was))) ks ++ failing fs) (sym none))
              (w fs told));
          sight = λ go. same_around f h e.frames ∙ same;
          outer = e.frames.others ∙ s.same_frames.others;
        }

    -- a turn more
    pub loop_on : (h k z : Frames) (next : Walk) (number : ℕ) (following : Numbered) → TurnsFrom p l left taken f h (c.Turn number following)
        → PassesTurn m here n l b number h k now next → Leaves k z → InLoop m here n p l b was z start next (left - 1) following
    loop_on h k z next number following t w leaves =
        let e : Makes p l left (turns_left p (around f) l left taken.number s.faults) f h number following = t s.faults s.told in
        let fs : List order.Found = needs (sight_in (around was) l number).known l.step in
        let rest : g.Turns = turns_left p (around was) l (left - 1) following.number fs in
        let turns : turns_here ≡ one_more number rest = turns_in ∙ e.turns
        ∙ ap (λ a. one_more number (turns_left p a l (left - 1) following.number (needs (sight_in a l number).known l.step))) same in
        let sight : around h ≡ sight_in (around was) l number = e.sight ∙ ap (λ a. sight_in a l number) same in
        let again : Are z f.inner f.outer.items = left_again f k z ((w []).outer ∙ e.outer) leaves in
        record {
          faults = fs;
          told = e.told ∙ ap (λ a. least (needs (sight_in a l number).known l.step)) same;
          leads = λ gs.
              let h0 : d.Here = place_of start here gs in
              let one : List Request = asks_turn m here.depth h0 n l b number (sight_in (around was) l number) in
              leads_on (asks_loop start gs (around was)) (loop_asks m here.depth h0 n l b (around was) turns_here) one
              (loop_asks m here.depth h0 n l b (around was) rest) start now next
              (ap (loop_asks m here.depth h0 n l b (around was)) turns
              ∙ append_assoc one (each_of (λ x. asks_turn m here.depth h0 n l b x (in_turn l.variable.text x (around was))) rest.numbers) (failing rest.faults))
              (walks_as (asks_turn m here.depth (place_of now here gs) n l b number (around h)) one now next
              (λ j. asks_turn m here.depth (s.place gs j) n l b number (sight j)) (w gs).walks)
              (s.leads gs);
          is_open = open_on _ now next here.scope (w []).walks s.is_open;
          place = λ gs. place_on _ now next here gs (w gs).walks s.is_open ∙ s.place gs;
          same_frames = record { inmost = again.inmost ∙ s.same_frames.inmost; others = again.others ∙ s.same_frames.others };
        }
