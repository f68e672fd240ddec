-- What every step on the board rests on: others keep what they know, and a step under the run that the seat names is
-- a step under the rule.
use Rattle.std.proofs.Common.{◌≡◌, ◌≢◌, ℕ, ◌<◌, List, set, sym, ◌∙◌, subst, ⊎_elim}
use mathlib.Core.Option.{some}
use lib.ListN.{get_elem?}
use Rattle.atomic_table.specs.Table.{State, Me, Allows}
use Rattle.atomic_table.proofs.Lists.{at_set}
use Rattle.token_net.specs.Posts.{Posts, PostsHold}
use Rattle.board_rule.specs.Views.{Named, HeldLeader, HeldLagger, course}
use Rattle.board_rule.specs.Rule.{HasLeader, HasLagger, Knows, IsCoded, Kept, Ruled}
use Rattle.board_rule.specs.Plays.{Stood}
use Rattle.board_rule.specs.declared.view.View.{View}
use Rattle.board_rule.proofs.Lists.{each_map}

-- a seat with another number knows the posts as they are then, where its own are as they were
pub others_know : (a b : ℕ → ℕ) (n : Named) (c d : Posts) (id j : ℕ) (u : View) → ((p : ℕ) → a p ≢ id → d.leader p ≡ c.leader p)
    → ((q : ℕ) → b q ≢ id → d.lagger q ≡ c.lagger q) → j ≢ id → Knows a b n c j u → Knows a b n d j u
others_know a b n c d id j u leaders laggers ne k = record {
  leaders = each_map (HasLeader a n c j u.named) (HasLeader a n d j u.named)
      (λ (x : HeldLeader) (h : HasLeader a n c j u.named x). (h.0, h.1, h.2 ∙ sym (leaders x.number (λ t. ne (sym h.1 ∙ t))), h.3)) u.leaders k.leaders;
  laggers = each_map (HasLagger b n c j u.named) (HasLagger b n d j u.named)
      (λ (x : HeldLagger) (h : HasLagger b n c j u.named x). (h.0, h.1, h.2 ∙ sym (laggers x.number (λ t. ne (sym h.1 ∙ t))), h.3)) u.laggers k.laggers;
  leaders_apart = k.leaders_apart;
  laggers_apart = k.laggers_apart;
}

module _ (n : Named) (s : State ℕ View) (h : Kept n s) (id : ℕ) (v : View) (at : get_elem? s.views id ≡ some v) where
  -- the board after a step of the seat id, with other posts and another view of its own
  abbrev pub stepped_kept : (words : List ℕ) (d : Posts) (w : View) → PostsHold (course n) d → IsCoded n.parts words d
      → ((p : ℕ) → h.home_leader p ≢ id → d.leader p ≡ h.posts.leader p)
      → ((q : ℕ) → h.home_lagger q ≢ id → d.lagger q ≡ h.posts.lagger q)
      → Knows h.home_leader h.home_lagger n d id w
      → Kept n record { words = words; homes = s.homes; views = set s.views id w }
  stepped_kept words d w holds coded leaders laggers mine = record {
    posts = d;
    home_leader = h.home_leader;
    home_lagger = h.home_lagger;
    holds = holds;
    coded = coded;
    knows = λ j u e. ⊎_elim
        (λ (x : (j ≡ id) × (w ≡ u)). subst (λ (y : ℕ × View). Knows h.home_leader h.home_lagger n d y.0 y.1) (λ i. (sym x.0 i, x.1 i)) mine)
        (λ (x : (j ≢ id) × (get_elem? s.views j ≡ some u)). others_know h.home_leader h.home_lagger n h.posts d id j u leaders laggers x.0 (h.knows j u x.1))
        (at_set s.views id j w u e);
  }

-- what a seat that names the run knows, as a fact of plain data
abbrev pub stood : (a b : ℕ → ℕ) (n : Named) (c : Posts) (j : ℕ) (leaders : List HeldLeader) (laggers : List HeldLagger) → PostsHold (course n) c
    → Knows a b n c j record { named = n; leaders = leaders; laggers = laggers } → Stood record { named = n; leaders = leaders; laggers = laggers }
stood a b n c j leaders laggers holds k = record {
  posts = c;
  holds = holds;
  leaders = each_map (HasLeader a n c j n) (λ (x : HeldLeader). (x.number < n.parts) × (x.post ≡ c.leader x.number)) (λ (x : HeldLeader) (h : HasLeader a n c j n x). (h.0, h.2)) leaders k.leaders;
  laggers = each_map (HasLagger b n c j n) (λ (x : HeldLagger). (x.number < n.parts) × (x.post ≡ c.lagger x.number)) (λ (x : HeldLagger) (h : HasLagger b n c j n x). (h.0, h.2)) laggers k.laggers;
}

-- a step under the run that the seat names is a step under the rule, where the seat has a post
pub lifted : (n : Named) (slots id : ℕ) (me : Me ℕ View) (i : ℕ) (f : ℕ → ℕ) (then : ℕ → Me ℕ View → Type 0)
    → ((s : State ℕ View) (h : Ruled s) → get_elem? s.views id ≡ some me.0 → n ≡ h.named)
    → Allows (Kept n) slots id me i f then → Allows Ruled slots id me i f then
lifted n slots id me i f then same step s h sized at room =
    let o = step s (subst (λ (m : Named). Kept m s) (sym (same s h at)) h.kept) sized at room in
    (o.0, o.1, o.2, record { named = n; kept = o.3 }, o.4)
