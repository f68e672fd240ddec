-- Events keep what holds of posts, and what looks by several posts at once make of them.
use Rattle.std.proofs.Common.{◌≡◌, ◌≢◌, ℕ, ◌<◌, List, [], ◌∷◌, refl, sym, ap, ◌∙◌}
use Rattle.token_net.specs.Shape.{Shape}
use Rattle.token_net.specs.Posts.{Sight, Leader, Lagger, Posts, Course, present, with_sight, PostsHold, after_see_fire, after_see}
use Rattle.token_net.specs.Network.{Config, leading, lagging, after, Event, take, evaluate, give, raise, halt, fire, see, lag_raise, see_fire}
use Rattle.token_net.proofs.Places.{put_cases, put_same, put_other}
use Rattle.token_net.proofs.PostsEnd.{posts_laws}
use Rattle.board_rule.specs.Views.{HeldLeader, HeldLagger}
use Rattle.board_rule.specs.Rule.{Each, Apart, leader_numbers, lagger_numbers, leader_code}
use Rattle.board_rule.specs.Events.{posts_after, all_after, PostsAllow, AllAllowed}
use Rattle.board_rule.specs.Plays.{by_leaders, by_laggers}
use Rattle.board_rule.proofs.Lists.{each_map, each_both, each_of_map}

-- what an event makes of the posts is what it makes of them in the network
pub network_posts : {S V : Type 0} (n : Shape S V) (c : Config S V) (e : Event) → (after n c e).posts ≡ posts_after e c.posts
network_posts n c (take leading ch) = refl
network_posts n c (take lagging ch) = refl
network_posts n c (evaluate leading p) = refl
network_posts n c (evaluate lagging p) = refl
network_posts n c (give leading ch) = refl
network_posts n c (give lagging ch) = refl
network_posts n c (raise p) = refl
network_posts n c (halt p) = refl
network_posts n c (fire p) = refl
network_posts n c (see q p) = refl
network_posts n c (lag_raise q) = refl
network_posts n c (see_fire p) = refl

module _ (n : Course) where
  pub event_holds : (c : Posts) (e : Event) → PostsHold n c → PostsAllow n e c → PostsHold n (posts_after e c)
  event_holds c (take s ch) h a = absurd a
  event_holds c (evaluate s p) h a = absurd a
  event_holds c (give s ch) h a = absurd a
  event_holds c (raise p) h a = (posts_laws n).raise c p h a.0 a.1
  event_holds c (halt p) h a = (posts_laws n).halt c p h a.0 a.1
  event_holds c (fire p) h a = (posts_laws n).report c p h a.0 a.1
  event_holds c (see q p) h a = (posts_laws n).see c q p h a.0 a.1
  event_holds c (lag_raise q) h a = (posts_laws n).lag_raise c q h a.0 a.1
  event_holds c (see_fire p) h a = (posts_laws n).see_fire c p h a

  pub events_hold : (es : List Event) (c : Posts) → PostsHold n c → AllAllowed n es c → PostsHold n (all_after es c)
  events_hold [] c h a = h
  events_hold (e ∷ es) c h a = events_hold es (posts_after e c) (event_holds c e h a.0) a.1

  -- ---- looks at the fire word by several leaders

  pub fire_looks_allowed : (ks : List HeldLeader) (c : Posts) → Each (λ (k : HeldLeader). k.number < n.parts) ks
      → AllAllowed n (by_leaders see_fire ks) c
  fire_looks_allowed [] c e = tt
  fire_looks_allowed (k ∷ ks) c e = (e.0, fire_looks_allowed ks (after_see_fire k.number c) e.1)

  pub leader_looks_allowed : (p : ℕ) → p < n.parts → (ks : List HeldLagger) (c : Posts) → Each (λ (k : HeldLagger). k.number < n.parts) ks
      → AllAllowed n (by_laggers (λ q. see q p) ks) c
  leader_looks_allowed p l [] c e = tt
  leader_looks_allowed p l (k ∷ ks) c e = ((e.0, l), leader_looks_allowed p l ks (after_see k.number p c) e.1)

abbrev fire_looked : List HeldLeader → Posts → Posts
fire_looked ks c = all_after (by_leaders see_fire ks) c

pub fire_looks_fire : (ks : List HeldLeader) (c : Posts) → (fire_looked ks c).fire ≡ c.fire
fire_looks_fire [] c = refl
fire_looks_fire (k ∷ ks) c = fire_looks_fire ks (after_see_fire k.number c)

pub fire_looks_laggers : (ks : List HeldLeader) (c : Posts) → (fire_looked ks c).lagger ≡ c.lagger
fire_looks_laggers [] c = refl
fire_looks_laggers (k ∷ ks) c = fire_looks_laggers ks (after_see_fire k.number c)

-- positions and halts stay
pub fire_looks_code : (ks : List HeldLeader) (c : Posts) (p : ℕ) → leader_code (c.leader p) ≡ leader_code ((fire_looked ks c).leader p)
fire_looks_code [] c p = refl
fire_looks_code (k ∷ ks) c p =
    put_cases (λ (z : Leader). leader_code (c.leader p) ≡ leader_code z) k.number (record (c.leader k.number) { seen = c.fire }) c.leader p
    (λ e. ap (λ (z : ℕ). leader_code (c.leader z)) e) (λ _. refl)
    ∙ fire_looks_code ks (after_see_fire k.number c) p

-- another leader's post stays
pub fire_looks_other : (ks : List HeldLeader) (c : Posts) (p : ℕ) → Each (λ (k : HeldLeader). p ≢ k.number) ks
    → (fire_looked ks c).leader p ≡ c.leader p
fire_looks_other [] c p e = refl
fire_looks_other (k ∷ ks) c p e = fire_looks_other ks (after_see_fire k.number c) p e.1
    ∙ put_other k.number (record (c.leader k.number) { seen = c.fire }) c.leader p e.0

-- the leaders that looked have seen the fire word
pub fire_looks_seen : (ks : List HeldLeader) (c : Posts) → Apart (leader_numbers ks)
    → Each (λ (k : HeldLeader). (fire_looked ks c).leader k.number ≡ record (c.leader k.number) { seen = c.fire }) ks
fire_looks_seen [] c a = tt
fire_looks_seen (k ∷ ks) c a =
    let d : Posts = after_see_fire k.number c in
    let apart : Each (λ (x : HeldLeader). x.number ≢ k.number) ks = each_of_map (λ (q : ℕ). q ≢ k.number) (λ (x : HeldLeader). x.number) ks a.0 in (
      fire_looks_other ks d k.number (each_map (λ (x : HeldLeader). x.number ≢ k.number) (λ (x : HeldLeader). k.number ≢ x.number) (λ x ne e. ne (sym e)) ks apart)
          ∙ put_same k.number (record (c.leader k.number) { seen = c.fire }) c.leader,
      each_both (λ (x : HeldLeader). (fire_looked ks d).leader x.number ≡ record (d.leader x.number) { seen = d.fire }) (λ (x : HeldLeader). x.number ≢ k.number)
          (λ (x : HeldLeader). (fire_looked ks d).leader x.number ≡ record (c.leader x.number) { seen = c.fire })
          (λ x h ne. h ∙ ap (λ (z : Leader). record z { seen = c.fire }) (put_other k.number (record (c.leader k.number) { seen = c.fire }) c.leader x.number ne))
          ks (fire_looks_seen ks d a.1) apart,
    )

-- ---- looks at the leader p by several laggers

module _ (p : ℕ) where
  abbrev leader_looked : List HeldLagger → Posts → Posts
  leader_looked ks c = all_after (by_laggers (λ q. see q p) ks) c

  pub leader_looks_fire : (ks : List HeldLagger) (c : Posts) → (leader_looked ks c).fire ≡ c.fire
  leader_looks_fire [] c = refl
  leader_looks_fire (k ∷ ks) c = leader_looks_fire ks (after_see k.number p c)

  pub leader_looks_leaders : (ks : List HeldLagger) (c : Posts) → (leader_looked ks c).leader ≡ c.leader
  leader_looks_leaders [] c = refl
  leader_looks_leaders (k ∷ ks) c = leader_looks_leaders ks (after_see k.number p c)

  -- positions stay
  pub leader_looks_at : (ks : List HeldLagger) (c : Posts) (q : ℕ) → (c.lagger q).at ≡ ((leader_looked ks c).lagger q).at
  leader_looks_at [] c q = refl
  leader_looks_at (k ∷ ks) c q =
      put_cases (λ (z : Lagger). (c.lagger q).at ≡ z.at) k.number (with_sight p (present (c.leader p)) (c.lagger k.number)) c.lagger q
      (λ e. ap (λ (z : ℕ). (c.lagger z).at) e) (λ _. refl)
      ∙ leader_looks_at ks (after_see k.number p c) q

  -- another lagger's post stays
  pub leader_looks_other : (ks : List HeldLagger) (c : Posts) (q : ℕ) → Each (λ (k : HeldLagger). q ≢ k.number) ks
      → (leader_looked ks c).lagger q ≡ c.lagger q
  leader_looks_other [] c q e = refl
  leader_looks_other (k ∷ ks) c q e = leader_looks_other ks (after_see k.number p c) q e.1
      ∙ put_other k.number (with_sight p (present (c.leader p)) (c.lagger k.number)) c.lagger q e.0

  -- the laggers that looked have seen the leader
  pub leader_looks_seen : (ks : List HeldLagger) (c : Posts) → Apart (lagger_numbers ks)
      → Each (λ (k : HeldLagger). (leader_looked ks c).lagger k.number ≡ with_sight p (present (c.leader p)) (c.lagger k.number)) ks
  leader_looks_seen [] c a = tt
  leader_looks_seen (k ∷ ks) c a =
      let d : Posts = after_see k.number p c in let s : Sight = present (c.leader p) in
      let apart : Each (λ (x : HeldLagger). x.number ≢ k.number) ks = each_of_map (λ (q : ℕ). q ≢ k.number) (λ (x : HeldLagger). x.number) ks a.0 in (
        leader_looks_other ks d k.number (each_map (λ (x : HeldLagger). x.number ≢ k.number) (λ (x : HeldLagger). k.number ≢ x.number) (λ x ne e. ne (sym e)) ks apart)
            ∙ put_same k.number (with_sight p s (c.lagger k.number)) c.lagger,
        each_both (λ (x : HeldLagger). (leader_looked ks d).lagger x.number ≡ with_sight p s (d.lagger x.number)) (λ (x : HeldLagger). x.number ≢ k.number)
            (λ (x : HeldLagger). (leader_looked ks d).lagger x.number ≡ with_sight p s (c.lagger x.number))
            (λ x h ne. h ∙ ap (with_sight p s) (put_other k.number (with_sight p s (c.lagger k.number)) c.lagger x.number ne))
            ks (leader_looks_seen ks d a.1) apart,
      )
