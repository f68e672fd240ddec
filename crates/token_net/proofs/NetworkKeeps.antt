-- Each kind of event and each extension keeps what holds of the network, the lag rule among it; and it holds at the
-- start.
use Rattle.std.proofs.Common.{◌≡◌, ◌≢◌, ℕ, ◌+◌, ◌<◌, ◌≤◌, ◌==◌, Bool, true, false, true≢false}
use Rattle.std.proofs.Common.{refl, sym, ap, ◌∙◌, subst, inl, inr, ⊎_elim, arith, eq-eqb}
use Rattle.std.proofs.lemmas.Bool.{ne_eqb, cases_eq}
use Rattle.token_net.specs.Families.{put}
use Rattle.token_net.specs.Shape.{Shape, IsShape, Run, IsRun}
use Rattle.token_net.specs.SideState.{Phase, idle, taking, quiet, firing, SideState, verdict}
use Rattle.token_net.specs.SideState.{HasNotEvaluated, SideHolds}
use Rattle.token_net.specs.SideState.{HasTakenAll, HasNoInput}
use Rattle.token_net.specs.SideState.{after_take, after_evaluate, after_give}
use Rattle.token_net.specs.Posts.{with_sight}
use Rattle.token_net.specs.Posts.{Sight, Leader, Lagger, Posts, present, sight, after_halt, after_fire, after_see_fire}
use Rattle.token_net.specs.Posts.{after_see, PostsHold}
use Rattle.token_net.specs.Network.{Side, leading, lagging, Config, position, side_state, Event, Enabled, after, start}
use Rattle.token_net.specs.Network.{MayStart}
use Rattle.token_net.specs.Network.{take, evaluate, give, raise, halt, fire, see, lag_raise, see_fire}
use Rattle.token_net.specs.Holds.{course, Holds}
use Rattle.token_net.specs.Extension.{extended}
use Rattle.token_net.proofs.Places.{put_cases, put_read, put_keeps}
use Rattle.token_net.proofs.SideKeeps.{evaluated_not_idle, not_both_phases, Takes, Evaluates, takes, evaluates}
use Rattle.token_net.proofs.SideKeeps.{taking_not_idle}
use Rattle.token_net.proofs.SideKeeps.{take_keeps, evaluate_keeps, give_keeps, close_keeps, at_equal, side_extends}
use Rattle.token_net.proofs.SideKeeps.{side_starts}
use Rattle.token_net.proofs.PostsKeep.{raises, halts, reports, sees_fire, sees, sees_further, lag_raises, posts_start}
use Rattle.token_net.proofs.PostsKeep.{posts_extend}
use Rattle.token_net.proofs.PostsKeep.{extended_sight, extended_leader_at, extended_lagger_at, extended_reported}

pub firing_begun : (p : Phase) → HasNotEvaluated p → p ≡ firing → ⊥
firing_begun p o e = not_both_phases p o (inr e)

pub quiet_not_firing : (p : Phase) → p ≡ quiet → p ≡ firing → ⊥
quiet_not_firing p a b = let w : quiet ≡ firing = sym a ∙ b in absurd cc

pub quiet_not_fired : (b : Bool) → quiet ≡ verdict b → b ≡ false
quiet_not_fired true e = absurd cc
quiet_not_fired false e = refl

pub firing_fired : (b : Bool) → firing ≡ verdict b → b ≡ true
firing_fired true e = refl
firing_fired false e = absurd cc

module _ {S V : Type 0} (n : Shape S V) (r : Run S V) (shape : IsShape n) where
  -- a lagger that may start has a row, as no leader is past the rows
  pub lag_small : (c : Config S V) (q : ℕ) → Holds n r c → q < n.parts → MayStart n lagging c q
      → (c.posts.lagger q).at < c.rows
  lag_small c q old ql may =
      let a = may 0 shape.some in
      let b = (old.posts.sight q 0 ql shape.some).no_further in
      let w = (old.posts.leader 0 shape.some).within in
      omega (arith, a, b, w)

  pub small_start : (s : Side) (c : Config S V) (p : ℕ) → Holds n r c → p < n.parts → MayStart n s c p
      → position s c p < c.rows
  small_start leading c p old l may = may
  small_start lagging c p old l may = lag_small c p old l may

  pub side_holds : (s : Side) (c : Config S V) → Holds n r c → SideHolds n r c.rows (position s c) (side_state s c)
  side_holds leading c old = old.leaders
  side_holds lagging c old = old.laggers

  -- what an enabled take and an enabled evaluation rest on
  pub take_rests : (s : Side) (c : Config S V) (ch : ℕ) → Holds n r c → Enabled n c (take s ch)
      → Takes n c.rows (position s c) (side_state s c) ch
  take_rests s c ch old en = takes n r c.rows (position s c) (MayStart n s c) (side_state s c) ch shape
      (side_holds s c old)
      (λ may. small_start s c (n.to ch) old (shape.to ch en.1.there) may) en.1

  pub evaluate_rests : (s : Side) (c : Config S V) (p : ℕ) → Holds n r c → Enabled n c (evaluate s p)
      → Evaluates n c.rows (position s c) (side_state s c) p
  evaluate_rests s c p old en = evaluates n r c.rows (position s c) (MayStart n s c) (side_state s c) p
      (side_holds s c old)
      (λ may. small_start s c p old en.1.there may) en.1

  -- a lagger that is ready has seen each leader far enough ahead
  take_far : (c : Config S V) (ch : ℕ) → Holds n r c → Enabled n c (take lagging ch) → MayStart n lagging c (n.to ch)
  take_far c ch old en = ⊎_elim
      (λ (i : (c.laggers.phase (n.to ch) ≡ idle) × MayStart n lagging c (n.to ch)). i.1)
      (λ (t : (c.laggers.phase (n.to ch) ≡ taking) × (c.laggers.taken ch ≡ false)).
      old.begun (n.to ch) (shape.to ch en.1.there) (taking_not_idle (c.laggers.phase (n.to ch)) t.0))
      en.1.ready

  evaluate_far : (c : Config S V) (q : ℕ) → Holds n r c → Enabled n c (evaluate lagging q) → MayStart n lagging c q
  evaluate_far c q old en = ⊎_elim
      (λ (t : (c.laggers.phase q ≡ taking) × HasTakenAll n c.laggers q).
      old.begun q en.1.there (taking_not_idle (c.laggers.phase q) t.0))
      (λ (i : (c.laggers.phase q ≡ idle) × HasNoInput n q × MayStart n lagging c q). i.2)
      en.1.ready

  -- ---- what changes in one of the three parts alone

  -- what the leaders hold, where a reported leader still fires, and one that fires has given nothing
  leaders_step : (c : Config S V) (h : SideState S V) → Holds n r c → SideHolds n r c.rows (position leading c) h
      → ((p : ℕ) → p < n.parts → (c.posts.leader p).reported ≡ true → h.phase p ≡ firing)
      → ((ch : ℕ) → ch < n.channels → h.phase (n.from ch) ≡ firing → h.given ch ≡ false)
      → Holds n r (record c { leaders = h })
  leaders_step c h old new still back = record {
    leaders = new;
    laggers = old.laggers;
    posts = old.posts;
    reported = still;
    begun = old.begun;
    kept_back = back;
  }

  -- what the laggers hold, where one that isn't idle has seen each leader far enough ahead
  laggers_step : (c : Config S V) (h : SideState S V) → Holds n r c → SideHolds n r c.rows (position lagging c) h
      → ((q : ℕ) → q < n.parts → h.phase q ≢ idle → MayStart n lagging c q) → Holds n r (record c { laggers = h })
  laggers_step c h old new far = record {
    leaders = old.leaders;
    laggers = new;
    posts = old.posts;
    reported = old.reported;
    begun = far;
    kept_back = old.kept_back;
  }

  -- the posts, where positions stay and no sight is lost
  posts_step : (c : Config S V) (d : Posts) → Holds n r c → PostsHold (course n r c) d
      → ((p : ℕ) → (c.posts.leader p).at ≡ (d.leader p).at) → ((q : ℕ) → (c.posts.lagger q).at ≡ (d.lagger q).at)
      → ((p : ℕ) → p < n.parts → (d.leader p).reported ≡ true → c.leaders.phase p ≡ firing)
      → ((q p : ℕ) → (sight (c.posts.lagger q) p).at ≤ (sight (d.lagger q) p).at)
      → Holds n r (record c { posts = d })
  posts_step c d old new leaders laggers firing_still further = record {
    leaders = at_equal n r c.rows (position leading c)
        (position leading (record c { posts = d })) c.leaders leaders old.leaders;
    laggers = at_equal n r c.rows (position lagging c)
        (position lagging (record c { posts = d })) c.laggers laggers old.laggers;
    posts = new;
    reported = firing_still;
    begun = λ q ql b p pl.
        let a = old.begun q ql b p pl in let f = further q p in let e = laggers q in omega (arith, a, f, e);
    kept_back = old.kept_back;
  }

  -- ---- take, evaluate, give

  keeps_take : (s : Side) (ch : ℕ) (c : Config S V) → Holds n r c → Enabled n c (take s ch)
      → Holds n r (after n c (take s ch))
  keeps_take leading ch c old en =
      let t = take_rests leading c ch old en in
      leaders_step c (after_take n ch c.leaders) old
      (take_keeps n r c.rows (position leading c) c.leaders ch t old.leaders)
      (λ p l rep. put_cases (λ x. x ≡ firing) (n.to ch) taking c.leaders.phase p
      (λ e. absurd (firing_begun (c.leaders.phase (n.to ch)) t.begun
      (ap c.leaders.phase (sym e) ∙ old.reported p l rep)))
      (λ _. old.reported p l rep))
      (λ k l. put_cases (λ x. x ≡ firing → c.leaders.given k ≡ false) (n.to ch) taking c.leaders.phase (n.from k)
      (λ _ f. absurd cc) (λ _ f. old.kept_back k l f))
  keeps_take lagging ch c old en =
      let t = take_rests lagging c ch old en in
      laggers_step c (after_take n ch c.laggers) old
      (take_keeps n r c.rows (position lagging c) c.laggers ch t old.laggers)
      (λ q ql. put_cases (λ x. x ≢ idle → MayStart n lagging c q) (n.to ch) taking c.laggers.phase q
      (λ e _. subst (MayStart n lagging c) (sym e) (take_far c ch old en)) (λ _ b. old.begun q ql b))

  keeps_evaluate : (s : Side) (p : ℕ) (c : Config S V) → IsRun n c.rows r → Holds n r c → Enabled n c (evaluate s p)
      → Holds n r (after n c (evaluate s p))
  keeps_evaluate leading p c is old en =
      let b : Bool = n.fires p (c.posts.leader p).at (c.leaders.own p) c.leaders.copy in
      let t = evaluate_rests leading c p old en in
      leaders_step c (after_evaluate n p (c.posts.leader p).at c.leaders) old
      (evaluate_keeps n r c.rows (position leading c) c.leaders p is t old.leaders)
      (λ x l rep. put_cases (λ y. y ≡ firing) p (verdict b) c.leaders.phase x
      (λ e. absurd (firing_begun (c.leaders.phase p) t.begun (ap c.leaders.phase (sym e) ∙ old.reported x l rep)))
      (λ _. old.reported x l rep))
      (λ k l. put_cases (λ y. y ≡ firing → c.leaders.given k ≡ false) p (verdict b) c.leaders.phase (n.from k)
      (λ e _. (old.leaders.channel k l).giver.gave_none_yet
      (subst (λ (x : ℕ). HasNotEvaluated (c.leaders.phase x)) (sym e) t.begun))
      (λ _ f. old.kept_back k l f))
  keeps_evaluate lagging p c is old en =
      let b : Bool = n.fires p (c.posts.lagger p).at (c.laggers.own p) c.laggers.copy in
      let t = evaluate_rests lagging c p old en in
      laggers_step c (after_evaluate n p (c.posts.lagger p).at c.laggers) old
      (evaluate_keeps n r c.rows (position lagging c) c.laggers p is t old.laggers)
      (λ q ql. put_cases (λ x. x ≢ idle → MayStart n lagging c q) p (verdict b) c.laggers.phase q
      (λ e _. subst (MayStart n lagging c) (sym e) (evaluate_far c p old en)) (λ _ v. old.begun q ql v))

  keeps_give : (s : Side) (ch : ℕ) (c : Config S V) → IsRun n c.rows r → Holds n r c → Enabled n c (give s ch)
      → Holds n r (after n c (give s ch))
  keeps_give leading ch c is old en =
      leaders_step c (after_give n ch (c.posts.leader (n.from ch)).at c.leaders) old
      (give_keeps n r c.rows (position leading c) c.leaders ch shape is en.2 old.leaders) old.reported
      (λ k l f. put_cases (λ x. x ≡ false) ch true c.leaders.given k
      (λ e. absurd (quiet_not_firing (c.leaders.phase (n.from ch)) en.1
      (ap (λ (x : ℕ). c.leaders.phase (n.from x)) (sym e) ∙ f)))
      (λ _. old.kept_back k l f))
  keeps_give lagging ch c is old en =
      laggers_step c (after_give n ch (c.posts.lagger (n.from ch)).at c.laggers) old
      (give_keeps n r c.rows (position lagging c) c.laggers ch shape is en.2 old.laggers) old.begun

  -- ---- raise, lag_raise

  keeps_raise : (p : ℕ) (c : Config S V) → Holds n r c → Enabled n c (raise p) → Holds n r (after n c (raise p))
  keeps_raise p c old en =
      let d : Config S V = after n c (raise p) in
      let new : Leader = record (c.posts.leader p) { at = (c.posts.leader p).at + 1 } in
      let mine = old.leaders.part p en.2.there in
      let small = mine.below (evaluated_not_idle (c.leaders.phase p) en.2.evaluated) in
      let calm : r.fired p (c.posts.leader p).at ≡ false =
      quiet_not_fired (r.fired p (c.posts.leader p).at) (sym en.1 ∙ mine.right en.2.evaluated) in
      record {
        leaders = at_equal n r c.rows (put p ((c.posts.leader p).at + 1) (position leading c))
            (position leading d) d.leaders
            (λ x. sym (put_read (λ (z : Leader). z.at) p new c.posts.leader x))
            (close_keeps n r c.rows (position leading c) c.leaders p en.2 old.leaders);
        laggers = old.laggers;
        posts = raises (course n r c) c.posts p old.posts en.2.there
            record { runs = en.0; below = small; quiet = calm };
        reported = λ x l rep.
            let s : (d.posts.leader x).reported ≡ (c.posts.leader x).reported =
            put_keeps (λ (z : Leader). z.reported) p new c.posts.leader x refl in
            let f : c.leaders.phase x ≡ firing = old.reported x l (sym s ∙ rep) in
            put_cases (λ y. y ≡ firing) p idle c.leaders.phase x
            (λ e. absurd (quiet_not_firing (c.leaders.phase p) en.1 (ap c.leaders.phase (sym e) ∙ f))) (λ _. f);
        begun = old.begun;
        kept_back = λ k l. ⊎_elim
            (λ (e : n.from k ≡ p). let t : (n.from k == p) ≡ true = eq-eqb (n.from k) p e in rw t (λ _. refl))
            (λ (ne : n.from k ≢ p).
            let f : (n.from k == p) ≡ false = ne_eqb (n.from k) p ne in rw f (old.kept_back k l))
            (cases_eq (n.from k) p);
      }

  keeps_lag_raise : (q : ℕ) (c : Config S V) → Holds n r c → Enabled n c (lag_raise q)
      → Holds n r (after n c (lag_raise q))
  keeps_lag_raise q c old en =
      let d : Config S V = after n c (lag_raise q) in
      let new : Lagger = record (c.posts.lagger q) { at = (c.posts.lagger q).at + 1 } in
      record {
        leaders = old.leaders;
        laggers = at_equal n r c.rows (put q ((c.posts.lagger q).at + 1) (position lagging c))
            (position lagging d) d.laggers
            (λ x. sym (put_read (λ (z : Lagger). z.at) q new c.posts.lagger x))
            (close_keeps n r c.rows (position lagging c) c.laggers q en old.laggers);
        posts = lag_raises (course n r c) c.posts q old.posts en.there
            (old.begun q en.there (evaluated_not_idle (c.laggers.phase q) en.evaluated));
        reported = old.reported;
        begun = λ x xl. ⊎_elim
            (λ (e : x ≡ q). let t : (x == q) ≡ true = eq-eqb x q e in rw t (λ (ne : idle ≢ idle). absurd (ne refl)))
            (λ (ne : x ≢ q). let f : (x == q) ≡ false = ne_eqb x q ne in rw f (old.begun x xl))
            (cases_eq x q);
        kept_back = old.kept_back;
      }

  -- ---- halt, fire, see_fire, see

  keeps_halt : (p : ℕ) (c : Config S V) → Holds n r c → Enabled n c (halt p) → Holds n r (after n c (halt p))
  keeps_halt p c old en =
      let new : Leader = record (c.posts.leader p) { halted = true } in
      posts_step c (after_halt p c.posts) old (halts (course n r c) c.posts p old.posts en.0 en.1)
      (λ x. sym (put_keeps (λ (z : Leader). z.at) p new c.posts.leader x refl)) (λ q. refl)
      (λ x l rep. old.reported x l (sym (put_keeps (λ (z : Leader). z.reported) p new c.posts.leader x refl) ∙ rep))
      (λ q x. omega arith)

  keeps_fire : (p : ℕ) (c : Config S V) → Holds n r c → Enabled n c (fire p) → Holds n r (after n c (fire p))
  keeps_fire p c old en =
      let new : Leader = record (c.posts.leader p) { reported = true } in
      let mine = old.leaders.part p en.0 in
      let fires : r.fired p (c.posts.leader p).at ≡ true =
      firing_fired (r.fired p (c.posts.leader p).at) (sym en.2 ∙ mine.right (inr en.2)) in
      let small = mine.below (evaluated_not_idle (c.leaders.phase p) (inr en.2)) in
      posts_step c (after_fire p c.posts) old (reports (course n r c) c.posts p old.posts en.0
      record { runs = en.1; new = en.3; below = small; fires = fires })
      (λ x. sym (put_keeps (λ (z : Leader). z.at) p new c.posts.leader x refl)) (λ q. refl)
      (λ x l. put_cases (λ (z : Leader). z.reported ≡ true → c.leaders.phase x ≡ firing) p new c.posts.leader x
      (λ e _. ap c.leaders.phase e ∙ en.2) (λ _ rep. old.reported x l rep))
      (λ q x. omega arith)

  keeps_see_fire : (p : ℕ) (c : Config S V) → Holds n r c → Enabled n c (see_fire p)
      → Holds n r (after n c (see_fire p))
  keeps_see_fire p c old en =
      let new : Leader = record (c.posts.leader p) { seen = c.posts.fire } in
      posts_step c (after_see_fire p c.posts) old (sees_fire (course n r c) c.posts p old.posts en.0)
      (λ x. sym (put_keeps (λ (z : Leader). z.at) p new c.posts.leader x refl)) (λ q. refl)
      (λ x l rep. old.reported x l (sym (put_keeps (λ (z : Leader). z.reported) p new c.posts.leader x refl) ∙ rep))
      (λ q x. omega arith)

  keeps_see : (q p : ℕ) (c : Config S V) → Holds n r c → Enabled n c (see q p) → Holds n r (after n c (see q p))
  keeps_see q p c old en =
      let new : Lagger = with_sight p (present (c.posts.leader p)) (c.posts.lagger q) in
      posts_step c (after_see q p c.posts) old (sees (course n r c) c.posts q p old.posts en.0 en.1) (λ x. refl)
      (λ x. sym (put_keeps (λ (z : Lagger). z.at) q new c.posts.lagger x refl))
      old.reported (λ x y. sees_further (course n r c) c.posts q p x y old.posts en.0 en.1)

  -- ---- every event, the start, more rows

  pub keeps_event : (c : Config S V) (e : Event) → IsRun n c.rows r → Holds n r c → Enabled n c e
      → Holds n r (after n c e)
  keeps_event c (take s ch) is old en = keeps_take s ch c old en
  keeps_event c (evaluate s p) is old en = keeps_evaluate s p c is old en
  keeps_event c (give s ch) is old en = keeps_give s ch c is old en
  keeps_event c (raise p) is old en = keeps_raise p c old en
  keeps_event c (halt p) is old en = keeps_halt p c old en
  keeps_event c (fire p) is old en = keeps_fire p c old en
  keeps_event c (see q p) is old en = keeps_see q p c old en
  keeps_event c (lag_raise q) is old en = keeps_lag_raise q c old en
  keeps_event c (see_fire p) is old en = keeps_see_fire p c old en

  pub start_holds : (rows : ℕ) → Holds n r (start n r rows)
  start_holds rows = record {
    leaders = side_starts n r rows (λ _. 0) shape (λ _. refl);
    laggers = side_starts n r rows (λ _. 0) shape (λ _. refl);
    posts = posts_start (course n r (start n r rows)) 0 0 (omega arith) (λ p t l b.
        absurd (omega (arith, b))) (inl refl);
    reported = λ p l rep. absurd (true≢false (sym rep));
    begun = λ q ql (ne : idle ≢ idle). absurd (ne refl);
    kept_back = λ ch l f. refl;
  }

  pub keeps_extension : (c : Config S V) (k : ℕ) → Holds n r c → Holds n r (extended n k c)
  keeps_extension c k old =
      let d : Config S V = extended n k c in
      record {
        leaders = at_equal n r d.rows (position leading c) (position leading d) c.leaders
            (λ x. sym (extended_leader_at n.parts c.posts x))
            (side_extends n r c.rows (position leading c) c.leaders k old.leaders);
        laggers = at_equal n r d.rows (position lagging c) (position lagging d) c.laggers
            (λ x. sym (extended_lagger_at n.parts c.posts x))
            (side_extends n r c.rows (position lagging c) c.laggers k old.laggers);
        posts = posts_extend (course n r c) c.posts k old.posts;
        reported = λ p l rep. old.reported p l (sym (extended_reported n.parts c.posts p) ∙ rep);
        begun = λ q ql b p pl.
            let a = old.begun q ql b p pl in
            let w = (old.posts.sight q p ql pl).no_further in
            let s = ap (λ (z : Sight). z.at) (extended_sight n.parts c.posts q p ql pl) in
            let e = extended_lagger_at n.parts c.posts q in
            omega (arith, a, w, s, e);
        kept_back = old.kept_back;
      }
