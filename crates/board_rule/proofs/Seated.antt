-- Seats that are split and joined keep the rule of the board.
use Rattle.std.proofs.Common.{◌≡◌, ◌≢◌, ℕ, ◌==◌, if◌then◌else◌, List, [], ◌∷◌, length, set, refl, sym, ap, ◌∙◌, subst, ⊎_elim}
use Rattle.std.proofs.lemmas.List.{map-append}
use mathlib.Core.Option.{some}
use lib.ListN.{get_elem?}
use Rattle.atomic_table.specs.Table.{Splits, Joins}
use Rattle.atomic_table.proofs.Lists.{at_set, set_again}
use Rattle.token_net.specs.Families.{put}
use Rattle.token_net.specs.Posts.{Posts}
use Rattle.token_net.proofs.Places.{choose, put_same, put_other}
use Rattle.board_rule.specs.Views.{Named, HeldLeader, HeldLagger, no_name, rested_leader, rested_lagger}
use Rattle.board_rule.specs.Rule.{Each, Apart, leader_numbers, lagger_numbers, HasLeader, HasLagger, Knows, Ruled}
use Rattle.board_rule.specs.Plays.{both, no_posts}
use Rattle.board_rule.specs.declared.view.View.{View}
use Rattle.board_rule.proofs.Lists.{each_map, each_both, each_append, at_end, apart_append, apart_by}

-- ---- two seats' posts at one

-- where a post has gone: from the other seat to this one
abbrev pub moved : ℕ → ℕ → (ℕ → ℕ) → ℕ → ℕ
moved id other home p = if home p == other then id else home p

pub moved_here : (id other : ℕ) (home : ℕ → ℕ) (p : ℕ) → home p ≡ other → moved id other home p ≡ id
moved_here id other home p e = choose (λ (x : ℕ). x ≡ id) (home p) other id (home p) (λ _. refl) (λ ne. absurd (ne e))

pub moved_not : (id other : ℕ) (home : ℕ → ℕ) (p j : ℕ) → home p ≡ j → j ≢ other → moved id other home p ≡ j
moved_not id other home p j e ne =
    choose (λ (x : ℕ). x ≡ j) (home p) other id (home p) (λ t. absurd (ne (sym e ∙ t))) (λ _. e)

unfoldable pub join_keeps : (id : ℕ) (v : View) (other : ℕ) (w : View) → w.named ≡ v.named → Joins Ruled id v other w (both v w) (no_posts no_name)
join_keeps id v other w named s rule at apart at' =
    let n : Named = rule.named in let h = rule.kept in let c : Posts = h.posts in
    let vs : List View = set s.views id (both v w) in
    let was : get_elem? s.views other ≡ some w = ⊎_elim (λ (x : (other ≡ id) × (both v w ≡ w)). absurd (apart x.0))
    (λ (x : (other ≢ id) × (get_elem? s.views other ≡ some w)). x.1) (at_set s.views id other (both v w) w at') in
    let a = h.knows id v at in let b = h.knows other w was in
    let hl : ℕ → ℕ = moved id other h.home_leader in let hg : ℕ → ℕ = moved id other h.home_lagger in
    record {
      named = n;
      kept = record {
        posts = c;
        home_leader = hl;
        home_lagger = hg;
        holds = h.holds;
        coded = h.coded;
        knows = λ j u e. ⊎_elim
            (λ (x : (j ≡ other) × (no_posts no_name ≡ u)). subst (λ (y : View). Knows hl hg n c j y) x.1 record { leaders = tt; laggers = tt; leaders_apart = tt; laggers_apart = tt })
            (λ (x : (j ≢ other) × (get_elem? vs j ≡ some u)). ⊎_elim
            (λ (y : (j ≡ id) × (both v w ≡ u)). subst (λ (z : ℕ × View). Knows hl hg n c z.0 z.1) (λ i. (sym y.0 i, y.1 i)) record {
              leaders = each_append (HasLeader hl n c id v.named) w.leaders v.leaders
                  (each_map (HasLeader h.home_leader n c other w.named) (HasLeader hl n c id v.named)
                  (λ (k : HeldLeader) (o : HasLeader h.home_leader n c other w.named k). (o.0, moved_here id other h.home_leader k.number o.1, o.2, sym named ∙ o.3)) w.leaders b.leaders)
                  (each_map (HasLeader h.home_leader n c id v.named) (HasLeader hl n c id v.named)
                  (λ (k : HeldLeader) (o : HasLeader h.home_leader n c id v.named k). (o.0, moved_not id other h.home_leader k.number id o.1 (λ t. apart (sym t)), o.2, o.3)) v.leaders a.leaders);
              laggers = each_append (HasLagger hg n c id v.named) w.laggers v.laggers
                  (each_map (HasLagger h.home_lagger n c other w.named) (HasLagger hg n c id v.named)
                  (λ (k : HeldLagger) (o : HasLagger h.home_lagger n c other w.named k). (o.0, moved_here id other h.home_lagger k.number o.1, o.2, sym named ∙ o.3)) w.laggers b.laggers)
                  (each_map (HasLagger h.home_lagger n c id v.named) (HasLagger hg n c id v.named)
                  (λ (k : HeldLagger) (o : HasLagger h.home_lagger n c id v.named k). (o.0, moved_not id other h.home_lagger k.number id o.1 (λ t. apart (sym t)), o.2, o.3)) v.laggers a.laggers);
              leaders_apart = subst Apart (sym (map-append (λ (k : HeldLeader). k.number) w.leaders v.leaders))
                  (apart_append (leader_numbers w.leaders) (leader_numbers v.leaders) b.leaders_apart a.leaders_apart
                  (apart_by (λ (k : HeldLeader). k.number) h.home_leader other id apart w.leaders v.leaders
                  (each_map (HasLeader h.home_leader n c other w.named) (λ (k : HeldLeader). h.home_leader k.number ≡ other) (λ (k : HeldLeader) (o : HasLeader h.home_leader n c other w.named k). o.1) w.leaders b.leaders)
                  (each_map (HasLeader h.home_leader n c id v.named) (λ (k : HeldLeader). h.home_leader k.number ≡ id) (λ (k : HeldLeader) (o : HasLeader h.home_leader n c id v.named k). o.1) v.leaders a.leaders)));
              laggers_apart = subst Apart (sym (map-append (λ (k : HeldLagger). k.number) w.laggers v.laggers))
                  (apart_append (lagger_numbers w.laggers) (lagger_numbers v.laggers) b.laggers_apart a.laggers_apart
                  (apart_by (λ (k : HeldLagger). k.number) h.home_lagger other id apart w.laggers v.laggers
                  (each_map (HasLagger h.home_lagger n c other w.named) (λ (k : HeldLagger). h.home_lagger k.number ≡ other) (λ (k : HeldLagger) (o : HasLagger h.home_lagger n c other w.named k). o.1) w.laggers b.laggers)
                  (each_map (HasLagger h.home_lagger n c id v.named) (λ (k : HeldLagger). h.home_lagger k.number ≡ id) (λ (k : HeldLagger) (o : HasLagger h.home_lagger n c id v.named k). o.1) v.laggers a.laggers)));
            })
            (λ (y : (j ≢ id) × (get_elem? s.views j ≡ some u)). let o = h.knows j u y.1 in record {
              leaders = each_map (HasLeader h.home_leader n c j u.named) (HasLeader hl n c j u.named)
                  (λ (k : HeldLeader) (q : HasLeader h.home_leader n c j u.named k). (q.0, moved_not id other h.home_leader k.number j q.1 x.0, q.2, q.3)) u.leaders o.leaders;
              laggers = each_map (HasLagger h.home_lagger n c j u.named) (HasLagger hg n c j u.named)
                  (λ (k : HeldLagger) (q : HasLagger h.home_lagger n c j u.named k). (q.0, moved_not id other h.home_lagger k.number j q.1 x.0, q.2, q.3)) u.laggers o.laggers;
              leaders_apart = o.leaders_apart;
              laggers_apart = o.laggers_apart;
            })
            (at_set s.views id j (both v w) u x.1))
            (at_set vs other j (no_posts no_name) u e);
      };
    }

-- ---- a seat without posts is split off

unfoldable pub empty_seat_keeps : (id : ℕ) (v : View) → Splits Ruled id v v (no_posts v.named)
empty_seat_keeps id v s rule at =
    let n : Named = rule.named in let h = rule.kept in
    let same : set s.views id v ≡ s.views = set_again s.views id v at in
    record {
      named = n;
      kept = record {
        posts = h.posts;
        home_leader = h.home_leader;
        home_lagger = h.home_lagger;
        holds = h.holds;
        coded = h.coded;
        knows = λ j u e. ⊎_elim (λ (x : get_elem? (set s.views id v) j ≡ some u). h.knows j u (ap (λ (l : List View). get_elem? l j) (sym same) ∙ x))
            (λ (x : (j ≡ length (set s.views id v)) × (no_posts v.named ≡ u)). subst (λ (y : View). Knows h.home_leader h.home_lagger n h.posts j y) x.1 record { leaders = tt; laggers = tt; leaders_apart = tt; laggers_apart = tt })
            (at_end (set s.views id v) (no_posts v.named) u j e);
      };
    }

-- ---- the first post gets a seat of its own

module _ (n : Named) (id : ℕ) where
  -- a post that isn't the one with this number has its seat as before
  pub kept_home : (home : ℕ → ℕ) (number fresh p j : ℕ) → p ≢ number → home p ≡ j → put number fresh home p ≡ j
  kept_home home number fresh p j ne e = put_other number fresh home p ne ∙ e

  -- a post at another seat isn't this one, which is here
  pub elsewhere : (home : ℕ → ℕ) (number p j : ℕ) → home number ≡ id → home p ≡ j → j ≢ id → p ≢ number
  elsewhere home number p j here e ne t = ne (sym e ∙ ap home t ∙ here)

  unfoldable pub leader_split : (k : HeldLeader) (ks : List HeldLeader) (ls : List HeldLagger) → Each (λ (x : HeldLeader). x.number ≢ k.number) ks
      → Splits Ruled id record { named = n; leaders = k ∷ ks; laggers = ls } record { named = n; leaders = ks; laggers = ls }
      record { named = n; leaders = rested_leader k ∷ []; laggers = [] }
  leader_split k ks ls apart s rule at =
      let m : Named = rule.named in let h = rule.kept in let c : Posts = h.posts in
      let l : View = record { named = n; leaders = ks; laggers = ls } in
      let r : View = record { named = n; leaders = rested_leader k ∷ []; laggers = [] } in
      let vs : List View = set s.views id l in let fresh : ℕ = length vs in
      let mine = h.knows id record { named = n; leaders = k ∷ ks; laggers = ls } at in
      let home : ℕ → ℕ = put k.number fresh h.home_leader in
      record {
        named = m;
        kept = record {
          posts = c;
          home_leader = home;
          home_lagger = h.home_lagger;
          holds = h.holds;
          coded = h.coded;
          knows = λ j u e. ⊎_elim
              (λ (x : get_elem? vs j ≡ some u). ⊎_elim
              (λ (y : (j ≡ id) × (l ≡ u)). subst (λ (z : ℕ × View). Knows home h.home_lagger m c z.0 z.1) (λ i. (sym y.0 i, y.1 i)) record {
                leaders = each_both (HasLeader h.home_leader m c id n) (λ (x : HeldLeader). x.number ≢ k.number) (HasLeader home m c id n)
                    (λ (x : HeldLeader) (o : HasLeader h.home_leader m c id n x) (ne : x.number ≢ k.number). (o.0, kept_home h.home_leader k.number fresh x.number id ne o.1, o.2, o.3)) ks mine.leaders.1 apart;
                laggers = mine.laggers;
                leaders_apart = mine.leaders_apart.1;
                laggers_apart = mine.laggers_apart;
              })
              (λ (y : (j ≢ id) × (get_elem? s.views j ≡ some u)). let o = h.knows j u y.1 in record {
                leaders = each_map (HasLeader h.home_leader m c j u.named) (HasLeader home m c j u.named)
                    (λ (x : HeldLeader) (q : HasLeader h.home_leader m c j u.named x).
                    (q.0, kept_home h.home_leader k.number fresh x.number j (elsewhere h.home_leader k.number x.number j mine.leaders.0.1 q.1 y.0) q.1, q.2, q.3)) u.leaders o.leaders;
                laggers = o.laggers;
                leaders_apart = o.leaders_apart;
                laggers_apart = o.laggers_apart;
              })
              (at_set s.views id j l u x))
              (λ (x : (j ≡ fresh) × (r ≡ u)). subst (λ (z : ℕ × View). Knows home h.home_lagger m c z.0 z.1) (λ i. (sym x.0 i, x.1 i))
              record { leaders = ((mine.leaders.0.0, put_same k.number fresh h.home_leader, mine.leaders.0.2, mine.leaders.0.3), tt); laggers = tt; leaders_apart = (tt, tt); laggers_apart = tt })
              (at_end vs r u j e);
        };
      }

  unfoldable pub lagger_split : (k : HeldLagger) (ks : List HeldLeader) (ls : List HeldLagger) → Each (λ (x : HeldLagger). x.number ≢ k.number) ls
      → Splits Ruled id record { named = n; leaders = ks; laggers = k ∷ ls } record { named = n; leaders = ks; laggers = ls }
      record { named = n; leaders = []; laggers = rested_lagger n.parts k ∷ [] }
  lagger_split k ks ls apart s rule at =
      let m : Named = rule.named in let h = rule.kept in let c : Posts = h.posts in
      let l : View = record { named = n; leaders = ks; laggers = ls } in
      let r : View = record { named = n; leaders = []; laggers = rested_lagger n.parts k ∷ [] } in
      let vs : List View = set s.views id l in let fresh : ℕ = length vs in
      let mine = h.knows id record { named = n; leaders = ks; laggers = k ∷ ls } at in
      let home : ℕ → ℕ = put k.number fresh h.home_lagger in
      record {
        named = m;
        kept = record {
          posts = c;
          home_leader = h.home_leader;
          home_lagger = home;
          holds = h.holds;
          coded = h.coded;
          knows = λ j u e. ⊎_elim
              (λ (x : get_elem? vs j ≡ some u). ⊎_elim
              (λ (y : (j ≡ id) × (l ≡ u)). subst (λ (z : ℕ × View). Knows h.home_leader home m c z.0 z.1) (λ i. (sym y.0 i, y.1 i)) record {
                leaders = mine.leaders;
                laggers = each_both (HasLagger h.home_lagger m c id n) (λ (x : HeldLagger). x.number ≢ k.number) (HasLagger home m c id n)
                    (λ (x : HeldLagger) (o : HasLagger h.home_lagger m c id n x) (ne : x.number ≢ k.number). (o.0, kept_home h.home_lagger k.number fresh x.number id ne o.1, o.2, o.3)) ls mine.laggers.1 apart;
                leaders_apart = mine.leaders_apart;
                laggers_apart = mine.laggers_apart.1;
              })
              (λ (y : (j ≢ id) × (get_elem? s.views j ≡ some u)). let o = h.knows j u y.1 in record {
                leaders = o.leaders;
                laggers = each_map (HasLagger h.home_lagger m c j u.named) (HasLagger home m c j u.named)
                    (λ (x : HeldLagger) (q : HasLagger h.home_lagger m c j u.named x).
                    (q.0, kept_home h.home_lagger k.number fresh x.number j (elsewhere h.home_lagger k.number x.number j mine.laggers.0.1 q.1 y.0) q.1, q.2, q.3)) u.laggers o.laggers;
                leaders_apart = o.leaders_apart;
                laggers_apart = o.laggers_apart;
              })
              (at_set s.views id j l u x))
              (λ (x : (j ≡ fresh) × (r ≡ u)). subst (λ (z : ℕ × View). Knows h.home_leader home m c z.0 z.1) (λ i. (sym x.0 i, x.1 i))
              record { leaders = tt; laggers = ((mine.laggers.0.0, put_same k.number fresh h.home_lagger, mine.laggers.0.2, mine.laggers.0.3), tt); leaders_apart = tt; laggers_apart = (tt, tt) })
              (at_end vs r u j e);
        };
      }
