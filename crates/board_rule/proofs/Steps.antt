-- The six calls on the board are events of the network, and keep its rule.
use Rattle.std.proofs.Common.{◌≡◌, ◌≢◌, ℕ, ◌+◌, ◌%◌, ◌^◌, ◌<◌, ◌≤◌, min, true, List, [], ◌∷◌, map}
use Rattle.std.proofs.Common.{set, get_or, refl, sym, ap, ◌∙◌, subst, arith}
use mathlib.Core.Option.{some}
use lib.ListN.{get_elem?}
use Rattle.atomic_table.specs.Table.{State, Step, keeps, Allows}
use Rattle.named_run.specs.Named.{end_of}
use Rattle.token_net.specs.Families.{put, one_if}
use Rattle.token_net.specs.Posts.{Sight, Leader, Lagger, Posts, MayRaise, MayHalt, MayReport, HasSeenFar, present, sight, with_sight, most_rows, PostsHold}
use Rattle.token_net.specs.Network.{Event, raise, halt, fire, see, lag_raise, see_fire}
use Rattle.token_net.proofs.Places.{put_cases, put_same, put_other}
use Rattle.board_rule.specs.Views.{Named, HeldLeader, HeldLagger, course}
use Rattle.board_rule.specs.Events.{all_after, AllAllowed}
use Rattle.board_rule.specs.Rule.{Each, Apart, HasLeader, HasLagger, Knows, leader_word, lagger_word, fire_word, leader_code, IsCoded, Kept, Ruled}
use Rattle.board_rule.specs.Plays.{Happened, posts_view, leader_view, lagger_view, sight_in, number_at, raised_leader, halted_leader, reported_leader, saw_fire, saw_leader, raised_lagger}
use Rattle.board_rule.specs.Plays.{by_leaders, by_laggers, raises, halts, reports, sees_fire, FindsLeader, sees_leader, lag_raises, Grows}
use Rattle.board_rule.specs.Laws.{stepped}
use Rattle.board_rule.specs.declared.view.View.{View}
use Rattle.board_rule.proofs.Lists.{each_map, each_both, each_changed, same_numbers, set_at}
use Rattle.board_rule.proofs.Words.{code_leader, code_lagger, code_fire, code_read, sight_in_is}
use Rattle.board_rule.proofs.PostsSteps.{events_hold, fire_looks_allowed, fire_looks_fire, fire_looks_laggers, fire_looks_code, fire_looks_other, fire_looks_seen}
use Rattle.board_rule.proofs.PostsSteps.{leader_looks_allowed, leader_looks_fire, leader_looks_leaders, leader_looks_at, leader_looks_other, leader_looks_seen}
use Rattle.board_rule.proofs.Keeps.{stepped_kept, stood, lifted}

-- a seat with a leader's post names the board's run, and so does one with a lagger's
leader_names : (n : Named) (k : HeldLeader) (ks : List HeldLeader) (ls : List HeldLagger) (id : ℕ) (s : State ℕ View) (h : Ruled s)
    → get_elem? s.views id ≡ some (posts_view n (k ∷ ks) ls) → n ≡ h.named
leader_names n k ks ls id s h at = (h.kept.knows id (posts_view n (k ∷ ks) ls) at).leaders.0.3

lagger_names : (n : Named) (ks : List HeldLeader) (l : HeldLagger) (ls : List HeldLagger) (id : ℕ) (s : State ℕ View) (h : Ruled s)
    → get_elem? s.views id ≡ some (posts_view n ks (l ∷ ls)) → n ≡ h.named
lagger_names n ks l ls id s h at = (h.kept.knows id (posts_view n ks (l ∷ ls)) at).laggers.0.3

-- ---- each call is events on the posts that the board keeps

module _ (n : Named) (s : State ℕ View) (id : ℕ) (h : Kept n s) where
  -- the board keeps the posts that these events make of those that it kept, each allowed at its turn
  abbrev Led : List Event → State ℕ View → Type 0
  Led es t = (k : Kept n t) × AllAllowed (course n) es h.posts × (k.posts ≡ all_after es h.posts)

  -- ---- one leader's post

  module _ (k : HeldLeader) (at : get_elem? s.views id ≡ some (leader_view n k)) where
    abbrev mine : HasLeader h.home_leader n h.posts id n k
    mine = (h.knows id (leader_view n k) at).leaders.0

    -- the seat's own post changes, and with it the word at a place
    leader_led : (y : HeldLeader) → y.number ≡ k.number → (i word f : ℕ) (es : List Event) → AllAllowed (course n) es h.posts
        → record { leader = put k.number y.post h.posts.leader; lagger = h.posts.lagger; fire = f } ≡ all_after es h.posts
        → IsCoded n.parts (set s.words i word) record { leader = put k.number y.post h.posts.leader; lagger = h.posts.lagger; fire = f }
        → Led es (stepped s id i word (leader_view n y))
    leader_led y same i word f es allowed made coded =
        let d : Posts = record { leader = put k.number y.post h.posts.leader; lagger = h.posts.lagger; fire = f } in (
          stepped_kept n s h id (leader_view n k) at (set s.words i word) d (leader_view n y)
              (subst (PostsHold (course n)) (sym made) (events_hold (course n) es h.posts h.holds allowed)) coded
              (λ p ne. put_other k.number y.post h.posts.leader p (λ e. ne (ap h.home_leader e ∙ mine.1))) (λ q ne. refl)
              record {
                leaders = (
                  (
                    subst (λ (p : ℕ). p < n.parts) (sym same) mine.0,
                    ap h.home_leader same ∙ mine.1,
                    sym (put_same k.number y.post h.posts.leader) ∙ ap (put k.number y.post h.posts.leader) (sym same),
                    refl,
                  ),
                  tt,
                );
                laggers = tt;
                leaders_apart = (tt, tt);
                laggers_apart = tt;
              },
          allowed,
          made,
        )

    pub raise_leads : end_of n.run ≤ most_rows → MayRaise (course n) k.number k.post
        → Led (raise k.number ∷ []) (stepped s id (leader_word k.number) ((get_or s.words (leader_word k.number) 0 + 2) % 2 ^ 64) (leader_view n (raised_leader k)))
    raise_leads bound may =
        let c : Posts = h.posts in let p : ℕ = k.number in let is = mine.2 in
        let word = h.coded.leader p mine.0 ∙ ap leader_code (sym is) in
        let small = may.below in
        let z : one_if k.post.halted ≡ 0 = ap one_if may.runs.going in
        leader_led (raised_leader k) refl (leader_word p) ((get_or s.words (leader_word p) 0 + 2) % 2 ^ 64) c.fire (raise p ∷ [])
        ((mine.0, subst (MayRaise (course n) p) is may), tt)
        (λ i. record { leader = put p (record (is i) { at = (is i).at + 1 }) c.leader; lagger = c.lagger; fire = c.fire })
        (code_leader n.parts s.words c h.coded p ((get_or s.words (leader_word p) 0 + 2) % 2 ^ 64) (raised_leader k).post mine.0
        (omega (arith, word, z, small, bound)))

    pub halt_leads : end_of n.run ≤ most_rows → MayHalt (end_of n.run) k.post
        → Led (halt k.number ∷ []) (stepped s id (leader_word k.number) ((get_or s.words (leader_word k.number) 0 + 1) % 2 ^ 64) (leader_view n (halted_leader k)))
    halt_leads bound may =
        let c : Posts = h.posts in let p : ℕ = k.number in let is = mine.2 in
        let word = h.coded.leader p mine.0 ∙ ap leader_code (sym is) in
        let within = (h.holds.leader p mine.0).within in
        let here : k.post.at ≡ (c.leader p).at = ap (λ (x : Leader). x.at) is in
        let z : one_if k.post.halted ≡ 0 = ap one_if may.going in
        leader_led (halted_leader k) refl (leader_word p) ((get_or s.words (leader_word p) 0 + 1) % 2 ^ 64) c.fire (halt p ∷ [])
        ((mine.0, subst (MayHalt (end_of n.run)) is may), tt)
        (λ i. record { leader = put p (record (is i) { halted = true }) c.leader; lagger = c.lagger; fire = c.fire })
        (code_leader n.parts s.words c h.coded p ((get_or s.words (leader_word p) 0 + 1) % 2 ^ 64) (halted_leader k).post mine.0
        (omega (arith, word, z, within, here, bound)))

    pub report_leads : MayReport (course n) k.number k.post
        → Led (fire k.number ∷ []) (stepped s id fire_word (min (get_or s.words fire_word 0) k.post.at) (leader_view n (reported_leader k)))
    report_leads may =
        let c : Posts = h.posts in let p : ℕ = k.number in let is = mine.2 in
        let y : HeldLeader = reported_leader k in
        let f : ℕ = min (get_or s.words fire_word 0) k.post.at in
        let e = h.coded.fire in let l = mine.0 in
        leader_led y refl fire_word f f (fire p ∷ []) ((mine.0, subst (MayReport (course n) p) is may), tt)
        (λ i. record { leader = put p (record (is i) { reported = true }) c.leader; lagger = c.lagger; fire = min (e i) ((is i).at) })
        (code_fire n.parts s.words c h.coded f (put p y.post c.leader)
        (λ q _. put_cases (λ (x : Leader). leader_code (c.leader q) ≡ leader_code x) p y.post c.leader q
        (λ e. ap (λ (z : ℕ). leader_code (c.leader z)) e ∙ ap leader_code (sym is)) (λ _. refl))
        (omega (arith, l)))

  -- ---- one lagger's post

  pub lag_raise_leads : (k : HeldLagger) → get_elem? s.views id ≡ some (lagger_view n k) → end_of n.run ≤ most_rows → HasSeenFar n.parts n.lag k.post
      → Led (lag_raise k.number ∷ []) (stepped s id (lagger_word k.number) ((get_or s.words (lagger_word k.number) 0 + 1) % 2 ^ 64) (lagger_view n (raised_lagger k)))
  lag_raise_leads k at bound far =
      let c : Posts = h.posts in let q : ℕ = k.number in
      let mine = (h.knows id (lagger_view n k) at).laggers.0 in let is = mine.2 in
      let y : HeldLagger = raised_lagger k in
      let word = h.coded.lagger q mine.0 ∙ ap (λ (z : Lagger). z.at) (sym is) in
      let seen = far q mine.0 in
      let behind = (h.holds.sight q q mine.0 mine.0).no_further in
      let within = (h.holds.leader q mine.0).within in
      let same = ap (λ (z : Lagger). (sight z q).at) is in
      let d : Posts = record { leader = c.leader; lagger = put q y.post c.lagger; fire = c.fire } in
      let allowed : AllAllowed (course n) (lag_raise q ∷ []) c = ((mine.0, subst (HasSeenFar n.parts n.lag) is far), tt) in
      let made : d ≡ all_after (lag_raise q ∷ []) c =
      λ i. record { leader = c.leader; lagger = put q (record (is i) { at = (is i).at + 1 }) c.lagger; fire = c.fire } in (
        stepped_kept n s h id (lagger_view n k) at (set s.words (lagger_word q) ((get_or s.words (lagger_word q) 0 + 1) % 2 ^ 64)) d (lagger_view n y)
            (subst (PostsHold (course n)) (sym made) (events_hold (course n) (lag_raise q ∷ []) c h.holds allowed))
            (code_lagger n.parts s.words c h.coded q ((get_or s.words (lagger_word q) 0 + 1) % 2 ^ 64) y.post mine.0
            (omega (arith, word, seen, behind, within, same, bound)))
            (λ p ne. refl) (λ x ne. put_other q y.post c.lagger x (λ e. ne (ap h.home_lagger e ∙ mine.1)))
            record {
              leaders = tt;
              laggers = ((mine.0, mine.1, sym (put_same q y.post c.lagger), refl), tt);
              leaders_apart = tt;
              laggers_apart = (tt, tt);
            },
        allowed,
        made,
      )

  -- ---- looks, by all posts of the seat

  module _ (ks : List HeldLeader) (ls : List HeldLagger) (at : get_elem? s.views id ≡ some (posts_view n ks ls)) where
    abbrev all_mine : Knows h.home_leader h.home_lagger n h.posts id (posts_view n ks ls)
    all_mine = h.knows id (posts_view n ks ls) at

    pub see_fire_leads : Led (by_leaders see_fire ks) (stepped s id fire_word (get_or s.words fire_word 0) (posts_view n (map (saw_fire (get_or s.words fire_word 0)) ks) ls))
    see_fire_leads =
        let c : Posts = h.posts in let f : ℕ = get_or s.words fire_word 0 in
        let fire : f ≡ c.fire = h.coded.fire in
        let d : Posts = all_after (by_leaders see_fire ks) c in
        let w : View = posts_view n (map (saw_fire f) ks) ls in
        let allowed = fire_looks_allowed (course n) ks c
        (each_map (HasLeader h.home_leader n c id n) (λ (x : HeldLeader). x.number < n.parts) (λ (x : HeldLeader) (o : HasLeader h.home_leader n c id n x). o.0) ks all_mine.leaders) in
        let now : Each (λ (x : HeldLeader). HasLeader h.home_leader n d id n (saw_fire f x)) ks =
        each_both (HasLeader h.home_leader n c id n) (λ (x : HeldLeader). d.leader x.number ≡ record (c.leader x.number) { seen = c.fire })
        (λ (x : HeldLeader). HasLeader h.home_leader n d id n (saw_fire f x))
        (λ (x : HeldLeader) (o : HasLeader h.home_leader n c id n x) (saw : d.leader x.number ≡ record (c.leader x.number) { seen = c.fire }).
        (o.0, o.1, (λ i. record (o.2 i) { seen = fire i }) ∙ sym saw, o.3))
        ks all_mine.leaders (fire_looks_seen ks c all_mine.leaders_apart) in (
          stepped_kept n s h id (posts_view n ks ls) at (set s.words fire_word f) d w
              (events_hold (course n) (by_leaders see_fire ks) c h.holds allowed)
              (code_read n.parts s.words c h.coded fire_word d.fire d.leader d.lagger (fire_looks_fire ks c)
              (λ p l. fire_looks_code ks c p)
              (λ q l. sym (ap (λ (g : ℕ → Lagger). (g q).at) (fire_looks_laggers ks c))))
              (λ p ne. fire_looks_other ks c p
              (each_map (HasLeader h.home_leader n c id n) (λ (x : HeldLeader). p ≢ x.number)
              (λ (x : HeldLeader) (o : HasLeader h.home_leader n c id n x) (e : p ≡ x.number). ne (ap h.home_leader e ∙ o.1)) ks all_mine.leaders))
              (λ q ne. ap (λ (g : ℕ → Lagger). g q) (fire_looks_laggers ks c))
              record {
                leaders = each_changed (λ (x : HeldLeader). HasLeader h.home_leader n d id n (saw_fire f x)) (HasLeader h.home_leader n d id n) (saw_fire f) (λ x o. o) ks now;
                laggers = each_map (HasLagger h.home_lagger n c id n) (HasLagger h.home_lagger n d id n)
                    (λ (x : HeldLagger) (o : HasLagger h.home_lagger n c id n x). (o.0, o.1, o.2 ∙ sym (ap (λ (g : ℕ → Lagger). g x.number) (fire_looks_laggers ks c)), o.3)) ls all_mine.laggers;
                leaders_apart = subst Apart (sym (same_numbers (λ (x : HeldLeader). x.number) (saw_fire f) (λ _. refl) ks)) all_mine.leaders_apart;
                laggers_apart = all_mine.laggers_apart;
              },
          allowed,
          refl {a = d},
        )

    pub see_leader_leads : (p : ℕ) → p < n.parts
        → Led (by_laggers (λ q. see q p) ls)
        (stepped s id (leader_word p) (get_or s.words (leader_word p) 0) (posts_view n ks (map (saw_leader p (sight_in (get_or s.words (leader_word p) 0))) ls)))
    see_leader_leads p pl =
        let c : Posts = h.posts in let f : ℕ = get_or s.words (leader_word p) 0 in
        let saw : sight_in f ≡ present (c.leader p) = sight_in_is f (c.leader p) (h.coded.leader p pl) in
        let es : List Event = by_laggers (λ q. see q p) ls in
        let d : Posts = all_after es c in
        let w : View = posts_view n ks (map (saw_leader p (sight_in f)) ls) in
        let leaders = leader_looks_leaders p ls c in
        let allowed = leader_looks_allowed (course n) p pl ls c
        (each_map (HasLagger h.home_lagger n c id n) (λ (x : HeldLagger). x.number < n.parts) (λ (x : HeldLagger) (o : HasLagger h.home_lagger n c id n x). o.0) ls all_mine.laggers) in
        let now : Each (λ (x : HeldLagger). HasLagger h.home_lagger n d id n (saw_leader p (sight_in f) x)) ls =
        each_both (HasLagger h.home_lagger n c id n) (λ (x : HeldLagger). d.lagger x.number ≡ with_sight p (present (c.leader p)) (c.lagger x.number))
        (λ (x : HeldLagger). HasLagger h.home_lagger n d id n (saw_leader p (sight_in f) x))
        (λ (x : HeldLagger) (o : HasLagger h.home_lagger n c id n x) (it : d.lagger x.number ≡ with_sight p (present (c.leader p)) (c.lagger x.number)).
        (o.0, o.1, (λ i. with_sight p (saw i) (o.2 i)) ∙ sym it, o.3))
        ls all_mine.laggers (leader_looks_seen p ls c all_mine.laggers_apart) in (
          stepped_kept n s h id (posts_view n ks ls) at (set s.words (leader_word p) f) d w
              (events_hold (course n) es c h.holds allowed)
              (code_read n.parts s.words c h.coded (leader_word p) d.fire d.leader d.lagger (leader_looks_fire p ls c)
              (λ x l. sym (ap (λ (g : ℕ → Leader). leader_code (g x)) leaders))
              (λ q l. leader_looks_at p ls c q))
              (λ x ne. ap (λ (g : ℕ → Leader). g x) leaders)
              (λ q ne. leader_looks_other p ls c q
              (each_map (HasLagger h.home_lagger n c id n) (λ (x : HeldLagger). q ≢ x.number)
              (λ (x : HeldLagger) (o : HasLagger h.home_lagger n c id n x) (e : q ≡ x.number). ne (ap h.home_lagger e ∙ o.1)) ls all_mine.laggers))
              record {
                leaders = each_map (HasLeader h.home_leader n c id n) (HasLeader h.home_leader n d id n)
                    (λ (x : HeldLeader) (o : HasLeader h.home_leader n c id n x). (o.0, o.1, o.2 ∙ sym (ap (λ (g : ℕ → Leader). g x.number) leaders), o.3)) ks all_mine.leaders;
                laggers = each_changed (λ (x : HeldLagger). HasLagger h.home_lagger n d id n (saw_leader p (sight_in f) x)) (HasLagger h.home_lagger n d id n) (saw_leader p (sight_in f)) (λ x o. o) ls now;
                leaders_apart = all_mine.leaders_apart;
                laggers_apart = subst Apart (sym (same_numbers (λ (x : HeldLagger). x.number) (saw_leader p (sight_in f)) (λ _. refl) ls)) all_mine.laggers_apart;
              },
          allowed,
          refl {a = d},
        )

  -- what the seat knows of events that led to another table
  happened : (ks ks' : List HeldLeader) (ls ls' : List HeldLagger) → get_elem? s.views id ≡ some (posts_view n ks ls) → (i word : ℕ) (es : List Event)
      → Led es (stepped s id i word (posts_view n ks' ls')) → Happened es (posts_view n ks ls) (posts_view n ks' ls')
  happened ks ks' ls ls' at i word es o = record {
    before = stood h.home_leader h.home_lagger n h.posts id ks ls h.holds (h.knows id (posts_view n ks ls) at);
    allowed = o.1;
    now = stood o.0.home_leader o.0.home_lagger n o.0.posts id ks' ls' o.0.holds
        (o.0.knows id (posts_view n ks' ls') (set_at s.views id (posts_view n ks ls) (posts_view n ks' ls') at));
    made = o.2;
  }

-- ---- so each call keeps the rule

module _ (n : Named) (slots id : ℕ) (st : Step ℕ) where
  module _ (k : HeldLeader) where
    pub raise_keeps : MayRaise (course n) k.number k.post → end_of n.run ≤ most_rows
        → Allows Ruled slots id (leader_view n k, []) (leader_word k.number) (λ w. (w + 2) % 2 ^ 64) (raises st (leader_view n k, []))
    raise_keeps may bound = lifted n slots id (leader_view n k, []) (leader_word k.number) (λ w. (w + 2) % 2 ^ 64) (raises st (leader_view n k, []))
        (leader_names n k [] [] id)
        (λ s h _ at room. let o = raise_leads n s id h k at bound may in
        (leader_view n (raised_leader k), keeps, tt, o.0, (refl, happened n s id h (k ∷ []) (raised_leader k ∷ []) [] [] at _ _ (raise k.number ∷ []) o)))

    pub halt_keeps : MayHalt (end_of n.run) k.post → end_of n.run ≤ most_rows
        → Allows Ruled slots id (leader_view n k, []) (leader_word k.number) (λ w. (w + 1) % 2 ^ 64) (halts st (leader_view n k, []))
    halt_keeps may bound = lifted n slots id (leader_view n k, []) (leader_word k.number) (λ w. (w + 1) % 2 ^ 64) (halts st (leader_view n k, []))
        (leader_names n k [] [] id)
        (λ s h _ at room. let o = halt_leads n s id h k at bound may in
        (leader_view n (halted_leader k), keeps, tt, o.0, (refl, happened n s id h (k ∷ []) (halted_leader k ∷ []) [] [] at _ _ (halt k.number ∷ []) o)))

    pub report_keeps : (t : ℕ) → t ≡ k.post.at → MayReport (course n) k.number k.post
        → Allows Ruled slots id (leader_view n k, []) fire_word (λ w. min w t) (reports st (leader_view n k, []))
    report_keeps t cycle may = subst (λ (x : ℕ). Allows Ruled slots id (leader_view n k, []) fire_word (λ w. min w x) (reports st (leader_view n k, []))) (sym cycle)
        (lifted n slots id (leader_view n k, []) fire_word (λ w. min w k.post.at) (reports st (leader_view n k, []))
        (leader_names n k [] [] id)
        (λ s h _ at room. let o = report_leads n s id h k at may in
        (leader_view n (reported_leader k), keeps, tt, o.0, (refl, happened n s id h (k ∷ []) (reported_leader k ∷ []) [] [] at _ _ (fire k.number ∷ []) o))))

  pub lag_raise_keeps : (k : HeldLagger) → HasSeenFar n.parts n.lag k.post → end_of n.run ≤ most_rows
      → Allows Ruled slots id (lagger_view n k, []) (lagger_word k.number) (λ w. (w + 1) % 2 ^ 64) (lag_raises st (lagger_view n k, []))
  lag_raise_keeps k far bound = lifted n slots id (lagger_view n k, []) (lagger_word k.number) (λ w. (w + 1) % 2 ^ 64) (lag_raises st (lagger_view n k, []))
      (lagger_names n [] k [] id)
      (λ s h _ at room. let o = lag_raise_leads n s id h k at bound far in
      (lagger_view n (raised_lagger k), keeps, tt, o.0, (refl, happened n s id h [] [] (k ∷ []) (raised_lagger k ∷ []) at _ _ (lag_raise k.number ∷ []) o)))

  module _ (k : HeldLeader) (ks : List HeldLeader) (ls : List HeldLagger) where
    pub see_fire_keeps : Allows Ruled slots id (posts_view n (k ∷ ks) ls, []) fire_word (λ w. w) (sees_fire st (posts_view n (k ∷ ks) ls, []))
    unfolding happened see_fire_leads
    see_fire_keeps = lifted n slots id (posts_view n (k ∷ ks) ls, []) fire_word (λ w. w) (sees_fire st (posts_view n (k ∷ ks) ls, []))
        (leader_names n k ks ls id)
        (λ s h _ at room. let f : ℕ = get_or s.words fire_word 0 in let c : Posts = h.posts in
        let o = see_fire_leads n s id h (k ∷ ks) ls at in
        let fire = h.coded.fire in (
          posts_view n (map (saw_fire f) (k ∷ ks)) ls,
          keeps,
          tt,
          o.0,
          (
            refl,
            (
              happened n s id h (k ∷ ks) (map (saw_fire f) (k ∷ ks)) ls ls at _ _ (by_leaders see_fire (k ∷ ks)) o,
              fire_looks_fire (k ∷ ks) c ∙ sym fire,
              each_map (HasLeader h.home_leader n c id n) (λ (x : HeldLeader). f ≤ x.post.seen)
                  (λ (x : HeldLeader) (o : HasLeader h.home_leader n c id n x). let later = (h.holds.leader x.number o.0).later in
                  let seen = ap (λ (z : Leader). z.seen) o.2 in omega (arith, fire, later, seen)) (k ∷ ks) (h.knows id (posts_view n (k ∷ ks) ls) at).leaders,
            ),
          ),
        ))

  module _ (ks : List HeldLeader) (l : HeldLagger) (ls : List HeldLagger) where
    pub see_leader_keeps : (p : ℕ) → p < n.parts → number_at st.word ≡ p
        → Allows Ruled slots id (posts_view n ks (l ∷ ls), []) (leader_word p) (λ w. w) (sees_leader st (posts_view n ks (l ∷ ls), []))
    unfolding happened see_leader_leads
    see_leader_keeps p pl number = lifted n slots id (posts_view n ks (l ∷ ls), []) (leader_word p) (λ w. w) (sees_leader st (posts_view n ks (l ∷ ls), []))
        (lagger_names n ks l ls id)
        (subst (λ (x : ℕ). Allows (Kept n) slots id (posts_view n ks (l ∷ ls), []) (leader_word p) (λ w. w)
        (λ found now. FindsLeader x found (posts_view n ks (l ∷ ls), []) now)) (sym number)
        (λ s h _ at room. let f : ℕ = get_or s.words (leader_word p) 0 in let c : Posts = h.posts in
        let mine = h.knows id (posts_view n ks (l ∷ ls)) at in
        let o = see_leader_leads n s id h ks (l ∷ ls) at p pl in
        let saw : sight_in f ≡ present (c.leader p) = sight_in_is f (c.leader p) (h.coded.leader p pl) in (
          posts_view n ks (map (saw_leader p (sight_in f)) (l ∷ ls)),
          keeps,
          tt,
          o.0,
          (
            refl,
            (
              happened n s id h ks ks (l ∷ ls) (map (saw_leader p (sight_in f)) (l ∷ ls)) at _ _ (by_laggers (λ q. see q p) (l ∷ ls)) o,
              saw ∙ sym (ap (λ (g : ℕ → Leader). present (g p)) (leader_looks_leaders p (l ∷ ls) c)),
              each_map (HasLagger h.home_lagger n c id n) (λ (x : HeldLagger). Grows (sight x.post p) (sight_in f))
                  (λ (x : HeldLagger) (o : HasLagger h.home_lagger n c id n x). let m = h.holds.sight x.number p o.0 pl in
                  subst (λ (z : Sight × Lagger). Grows (sight z.1 p) z.0) (λ i. (sym saw i, sym o.2 i))
                  record { further = m.no_further; last = λ e. sym (m.last e) }) (l ∷ ls) mine.laggers,
              each_map (HasLeader h.home_leader n c id n) (λ (y : HeldLeader). y.number ≡ p → sight_in f ≡ present y.post)
                  (λ (y : HeldLeader) (o : HasLeader h.home_leader n c id n y) (e : y.number ≡ p). saw ∙ ap present (ap c.leader (sym e) ∙ sym o.2)) ks mine.leaders,
            ),
          ),
        )))
