-- Posts allow what the network enables, and the other way round where the partition is ready.
use Rattle.std.proofs.Common.{◌≡◌, ◌≢◌, ◌⊎◌, ℕ, ◌<◌, ◌≤◌, Bool, true, false, true≢false, List, refl, sym, ap, ◌∙◌, inl, inr, ⊎_elim, arith}
use Rattle.std.proofs.lemmas.Bool.{cases_eq, cases_lt}
use Rattle.token_net.specs.Families.{put}
use Rattle.token_net.specs.Shape.{Shape, Run}
use Rattle.token_net.specs.Posts.{Sight, Leader, Lagger, LeaderRuns, present, sight, with_sight}
use Rattle.token_net.specs.Network.{Config, Enabled, raise, fire, see, see_fire}
use Rattle.token_net.specs.Holds.{Holds}
use Rattle.token_net.proofs.Places.{put_cases}
use Rattle.token_net.proofs.SideKeeps.{evaluated_not_idle}
use Rattle.token_net.proofs.NetworkKeeps.{quiet_not_fired, firing_fired}
use Rattle.board_rule.specs.Events.{posts_after}
use Rattle.board_rule.specs.Allowed.{Allowed, AllowedLaws}
use Rattle.board_rule.proofs.Lists.{set_again}

-- ---- what was seen already, seen again

put_again : {A : Type 0} (k : ℕ) (v : A) (f : ℕ → A) → v ≡ f k → put k v f ≡ f
put_again k v f is = λ i x. put_cases (λ y. y ≡ f x) k v f x (λ e. is ∙ ap f (sym e)) (λ _. refl) i

seen_again : (p : ℕ) (s : Sight) (y : Lagger) → sight y p ≡ s → with_sight p s y ≡ y
seen_again p s y e = ap (λ (z : Sight). with_sight p z y) (sym e)
    ∙ ap (λ (l : List Sight). record y { sights = l }) (set_again y.sights p (record { at = 0; halted = false }))

-- ---- tests

same_halts : (a b : Bool) → (a ≡ b) ⊎ (a ≢ b)
same_halts true true = inl refl
same_halts true false = inr true≢false
same_halts false true = inr (λ e. true≢false (sym e))
same_halts false false = inl refl

same_sights : (a b : Sight) → (a ≡ b) ⊎ (a ≢ b)
same_sights a b = ⊎_elim
    (λ (at : a.at ≡ b.at). ⊎_elim
    (λ (halted : a.halted ≡ b.halted). inl (λ i. record { at = at i; halted = halted i }))
    (λ (ne : a.halted ≢ b.halted). inr (λ e. ne (ap (λ (s : Sight). s.halted) e)))
    (same_halts a.halted b.halted))
    (λ (ne : a.at ≢ b.at). inr (λ e. ne (ap (λ (s : Sight). s.at) e)))
    (cases_eq a.at b.at)

runs_or_not : (x : Leader) → LeaderRuns x ⊎ (¬ LeaderRuns x)
runs_or_not x = ⊎_elim
    (λ (going : x.halted ≡ false). ⊎_elim
    (λ (l : x.seen < x.at). inr (λ (h : LeaderRuns x). let c = h.clear in absurd (omega (arith, l, c))))
    (λ (clear : x.at ≤ x.seen). inl record { going = going; clear = clear })
    (cases_lt x.seen x.at))
    (λ (ne : x.halted ≢ false). inr (λ (h : LeaderRuns x). ne h.going))
    (same_halts x.halted false)

module _ {S V : Type 0} (n : Shape S V) (r : Run S V) (c : Config S V) (h : Holds n r c) where
  raise_allowed : (p : ℕ) → Enabled n c (raise p) → Allowed n r c (raise p)
  raise_allowed p en =
      let mine = h.leaders.part p en.2.there in (
        en.2.there,
        record {
          runs = en.0;
          below = mine.below (evaluated_not_idle (c.leaders.phase p) en.2.evaluated);
          quiet = quiet_not_fired (r.fired p (c.posts.leader p).at) (sym en.1 ∙ mine.right en.2.evaluated);
        },
      )

  fire_allowed : (p : ℕ) → Enabled n c (fire p) → Allowed n r c (fire p)
  fire_allowed p en =
      let mine = h.leaders.part p en.0 in (
        en.0,
        record {
          runs = en.1;
          new = en.3;
          below = mine.below (evaluated_not_idle (c.leaders.phase p) (inr en.2));
          fires = firing_fired (r.fired p (c.posts.leader p).at) (sym en.2 ∙ mine.right (inr en.2));
        },
      )

  look_again : (q p : ℕ) → sight (c.posts.lagger q) p ≡ present (c.posts.leader p) → posts_after (see q p) c.posts ≡ c.posts
  look_again q p e =
      let s : Sight = present (c.posts.leader p) in
      let same = put_again q (with_sight p s (c.posts.lagger q)) c.posts.lagger (seen_again p s (c.posts.lagger q) e) in
      ap (λ (f : ℕ → Lagger). record c.posts { lagger = f }) same

  fire_look_again : (p : ℕ) → c.posts.fire ≡ (c.posts.leader p).seen → posts_after (see_fire p) c.posts ≡ c.posts
  fire_look_again p e =
      let same = put_again p (record (c.posts.leader p) { seen = c.posts.fire }) c.posts.leader
      (ap (λ (f : ℕ). record (c.posts.leader p) { seen = f }) e) in
      ap (λ (f : ℕ → Leader). record c.posts { leader = f }) same

  pub allowed_laws : AllowedLaws n r c
  allowed_laws = record {
    raises = λ p. ((λ en. (raise_allowed p en, en.1, en.2)), (λ a. (a.0.1.runs, a.1, a.2)));
    halts = λ p. ((λ en. en), (λ a. a));
    reports = λ p. ((λ en. (fire_allowed p en, en.2)), (λ a. (a.0.0, a.0.1.runs, a.1, a.0.1.new)));
    lag_raises = λ q. (
      (λ en. ((en.there, h.begun q en.there (evaluated_not_idle (c.laggers.phase q) en.evaluated)), en)),
      (λ a. a.1),
    );
    sees = λ q p. ((λ en. ((en.0, en.1), en.2)), (λ a. (a.0.0, a.0.1, a.1)));
    sees_fire = λ p. ((λ en. en), (λ a. a));
    looks = λ q p a. ⊎_elim
        (λ (e : sight (c.posts.lagger q) p ≡ present (c.posts.leader p)). inr (look_again q p e))
        (λ (ne : sight (c.posts.lagger q) p ≢ present (c.posts.leader p)). inl (a.0, a.1, ne))
        (same_sights (sight (c.posts.lagger q) p) (present (c.posts.leader p)));
    fire_looks = λ p a. ⊎_elim
        (λ (runs : LeaderRuns (c.posts.leader p)). ⊎_elim
        (λ (e : c.posts.fire ≡ (c.posts.leader p).seen). inr (inl (fire_look_again p e)))
        (λ (ne : c.posts.fire ≢ (c.posts.leader p).seen). inl (a, runs, ne))
        (cases_eq c.posts.fire (c.posts.leader p).seen))
        (λ (not : ¬ LeaderRuns (c.posts.leader p)). inr (inr not))
        (runs_or_not (c.posts.leader p));
  }
