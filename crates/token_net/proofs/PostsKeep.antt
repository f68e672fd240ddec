-- The six steps and the extension keep what holds of the posts; the posts' part of the end.
use Rattle.std.proofs.Common.{◌≡◌, ◌≢◌, ◌⊎◌, ℕ, ◌+◌, ◌-◌, ◌<◌, ◌≤◌, min, true, false, true≢false, List, length, map}
use Rattle.std.specs.List.{range_with_len}
use Rattle.std.proofs.Common.{set, get_or, replicate, refl, sym, ap, ◌∙◌, subst, inl, inr, ⊎_elim, arith}
use Rattle.std.proofs.lemmas.Bool.{cases_lt, cases_eq}
use Rattle.std.proofs.lemmas.List.{length-set, get_or-set_same, get_or-set_other, length-replicate, get_or-replicate}
use Rattle.std.proofs.lemmas.List.FromFn.{length-map-range_with_len, get_or-map-range_with_len}
use Rattle.token_net.specs.Families.{put}
use Rattle.token_net.specs.Posts.{with_sight, MayRaise, MayHalt, MayReport, HasSeenFar}
use Rattle.token_net.specs.Posts.{Sight, Leader, Lagger, Posts, none_yet, present, going_on, sight, after_raise}
use Rattle.token_net.specs.Posts.{after_halt}
use Rattle.token_net.specs.Posts.{after_fire, after_see_fire, after_see, after_lag_raise, first_posts, after_extension}
use Rattle.token_net.specs.Posts.{Course, IsFire, LeaderHolds, SightHolds, PostsHold}
use Rattle.token_net.specs.Posts.{with_rows}
use Rattle.token_net.proofs.Places.{put_cases, put_same, put_other, put_below_cases, put_below_here, put_below_keeps}

-- what is read of a sight that was never written
abbrev pub unseen : Sight
unseen = record { at = 0; halted = false }

-- the lag rule as one bound
pub within_lag : (a b lag : ℕ) → (a ≡ 0) ⊎ (a + lag ≤ b) → a ≤ b - lag
within_lag a b lag (inl z) = omega (arith, z)
within_lag a b lag (inr l) = omega (arith, l)

module _ (n : Course) where
  -- ---- one post changes

  -- another post of one leader: what must hold of it
  pub leader_step : (c : Posts) (p : ℕ) (x : Leader) (f : ℕ) → PostsHold n c → p < n.parts → f ≤ c.fire → IsFire n f
      → LeaderHolds n f p x → (c.leader p).at ≤ x.at → ((s : Sight) → SightHolds n (c.leader p) s → SightHolds n x s)
      → PostsHold n record { leader = put p x c.leader; lagger = c.lagger; fire = f }
  leader_step c p x f old l lower is new up sights = record {
    fire = is;
    leader = λ y yl. ⊎_elim
        (λ (e : y ≡ p). subst (λ (z : ℕ). LeaderHolds n f z (put p x c.leader z)) (sym e)
        (let s = put_same p x c.leader in subst (LeaderHolds n f p) (sym s) new))
        (λ (ne : y ≢ p).
        let s = put_other p x c.leader y ne in
        let m = old.leader y yl in
        subst (LeaderHolds n f y) (sym s) record {
          within = m.within;
          clear = m.clear;
          reports = λ rep. let r = m.reports rep in let w = r.2 in (r.0, r.1, omega (arith, w, lower));
          stopped = λ h b. ⊎_elim (λ (rep : (c.leader y).reported ≡ true). inl rep)
              (λ (w : c.fire < (c.leader y).at). inr (omega (arith, w, lower))) (m.stopped h b);
          saw = m.saw;
          later = (let o = m.later in omega (arith, o, lower));
        })
        (cases_eq y p);
    sight = λ q y ql yl. put_cases (λ z. SightHolds n z (sight (c.lagger q) y)) p x c.leader y
        (λ e. sights (sight (c.lagger q) y)
        (subst (λ (z : ℕ). SightHolds n (c.leader z) (sight (c.lagger q) y)) e (old.sight q y ql yl)))
        (λ _. old.sight q y ql yl);
    lag = λ q y ql yl. ⊎_elim (λ (z : (c.lagger q).at ≡ 0). inl z)
        (λ (b : (c.lagger q).at + n.lag ≤ (c.leader y).at).
        inr (put_cases (λ z. (c.lagger q).at + n.lag ≤ z.at) p x c.leader y
        (λ e. let s : (c.leader y).at ≡ (c.leader p).at = ap (λ (z : ℕ). (c.leader z).at) e in omega (arith, b, s, up))
        (λ _. b)))
        (old.lag q y ql yl);
    sized = old.sized;
  }

  -- another post of one lagger: what must hold of it
  pub lagger_step : (c : Posts) (q : ℕ) (y : Lagger) → PostsHold n c → length y.sights ≡ n.parts
      → ((p : ℕ) → p < n.parts → SightHolds n (c.leader p) (sight y p))
      → ((p : ℕ) → p < n.parts → (y.at ≡ 0) ⊎ (y.at + n.lag ≤ (c.leader p).at))
      → PostsHold n (record c { lagger = put q y c.lagger })
  lagger_step c q y old size sights rule = record {
    fire = old.fire;
    leader = old.leader;
    sight = λ x p xl pl. put_cases (λ z. SightHolds n (c.leader p) (sight z p)) q y c.lagger x
        (λ _. sights p pl) (λ _. old.sight x p xl pl);
    lag = λ x p xl pl. put_cases (λ z. (z.at ≡ 0) ⊎ (z.at + n.lag ≤ (c.leader p).at)) q y c.lagger x
        (λ _. rule p pl) (λ _. old.lag x p xl pl);
    sized = λ x xl. put_cases (λ z. length z.sights ≡ n.parts) q y c.lagger x (λ _. size) (λ _. old.sized x xl);
  }

  -- a leader of which no halt was seen, at the same position or further
  unhalted : (x z : Leader) (s : Sight) → x.halted ≡ false → x.at ≤ z.at → SightHolds n x s → SightHolds n z s
  unhalted x z s going up o = record {
    no_further = (let b = o.no_further in omega (arith, b, up));
    last = λ h. absurd (true≢false (sym h ∙ ap (λ (y : Sight). y.halted) (o.last h) ∙ going));
  }

  -- ---- the steps of a leader

  pub raises : (c : Posts) (p : ℕ) → PostsHold n c → p < n.parts → MayRaise n p (c.leader p)
      → PostsHold n (after_raise p c)
  raises c p old l may =
      let m = old.leader p l in
      let going : (c.leader p).halted ≡ false = may.runs.going in
      leader_step c p (record (c.leader p) { at = (c.leader p).at + 1 }) c.fire old l (omega arith) old.fire
      record {
        within = (let small = may.below in omega (arith, small));
        clear = λ t b. ⊎_elim (λ (w : t < (c.leader p).at). m.clear t w)
            (λ (g : (c.leader p).at ≤ t).
            let s : t ≡ (c.leader p).at = omega (arith, b, g) in ap (n.fired p) s ∙ may.quiet)
            (cases_lt t (c.leader p).at);
        reports = λ rep. absurd (true≢false (sym (m.reports rep).1 ∙ may.quiet));
        stopped = λ h. absurd (true≢false (sym h ∙ going));
        saw = m.saw;
        later = m.later;
      }
      (omega arith)
      (λ s o. unhalted (c.leader p) (record (c.leader p) { at = (c.leader p).at + 1 }) s going (omega arith) o)

  pub halts : (c : Posts) (p : ℕ) → PostsHold n c → p < n.parts → MayHalt n.rows (c.leader p)
      → PostsHold n (after_halt p c)
  halts c p old l may =
      let m = old.leader p l in
      leader_step c p (record (c.leader p) { halted = true }) c.fire old l (omega arith) old.fire
      record {
        within = m.within;
        clear = m.clear;
        reports = m.reports;
        stopped = λ h b. ⊎_elim (λ (e : (c.leader p).at ≡ n.rows). absurd (omega (arith, e, b)))
            (λ w. ⊎_elim (λ (rep : (c.leader p).reported ≡ true). inl rep)
            (λ (past : (c.leader p).seen < (c.leader p).at). inr (let o = m.later in omega (arith, o, past))) w)
            may.why;
        saw = m.saw;
        later = m.later;
      }
      (omega arith)
      (λ s o. unhalted (c.leader p) (record (c.leader p) { halted = true }) s may.going (omega arith) o)

  pub reports : (c : Posts) (p : ℕ) → PostsHold n c → p < n.parts → MayReport n p (c.leader p)
      → PostsHold n (after_fire p c)
  reports c p old l may =
      let m = old.leader p l in
      leader_step c p (record (c.leader p) { reported = true }) (min c.fire (c.leader p).at) old l (omega arith)
      (⊎_elim
      (λ (g : c.fire < (c.leader p).at).
      let e : c.fire ≡ min c.fire (c.leader p).at = omega (arith, g) in subst (IsFire n) e old.fire)
      (λ (g : (c.leader p).at ≤ c.fire).
      let e : (c.leader p).at ≡ min c.fire (c.leader p).at = omega (arith, g) in
      subst (IsFire n) e (inr (may.below, (p, l, may.fires))))
      (cases_lt c.fire (c.leader p).at))
      record {
        within = m.within;
        clear = m.clear;
        reports = λ _. (may.below, may.fires, omega arith);
        stopped = λ _ _. inl refl;
        saw = m.saw;
        later = (let o = m.later in omega (arith, o));
      }
      (omega arith)
      (λ s o. record { no_further = o.no_further; last = o.last })

  pub sees_fire : (c : Posts) (p : ℕ) → PostsHold n c → p < n.parts → PostsHold n (after_see_fire p c)
  sees_fire c p old l =
      let m = old.leader p l in
      leader_step c p (record (c.leader p) { seen = c.fire }) c.fire old l (omega arith) old.fire
      record {
        within = m.within;
        clear = m.clear;
        reports = m.reports;
        stopped = m.stopped;
        saw = old.fire;
        later = omega arith;
      }
      (omega arith)
      (λ s o. record { no_further = o.no_further; last = o.last })

  -- ---- the steps of a lagger

  pub sees : (c : Posts) (q p : ℕ) → PostsHold n c → q < n.parts → p < n.parts → PostsHold n (after_see q p c)
  sees c q p old ql pl =
      let ys : List Sight = (c.lagger q).sights in
      let new : Sight = present (c.leader p) in
      let size = old.sized q ql in
      lagger_step c q (with_sight p new (c.lagger q)) old (length-set ys p new ∙ size)
      (λ x xl. ⊎_elim
      (λ (e : x ≡ p). subst (λ (z : ℕ). SightHolds n (c.leader z) (get_or (set ys p new) z unseen)) (sym e)
      (let s : get_or (set ys p new) p unseen ≡ new = get_or-set_same ys p new unseen (omega (arith, pl, size)) in
      subst (SightHolds n (c.leader p)) (sym s) record { no_further = omega arith; last = λ _. refl }))
      (λ (ne : x ≢ p).
      let s : get_or (set ys p new) x unseen ≡ get_or ys x unseen = get_or-set_other ys p x new unseen ne in
      subst (SightHolds n (c.leader x)) (sym s) (old.sight q x ql xl))
      (cases_eq x p))
      (λ x xl. old.lag q x ql xl)

  -- what was seen now, what was seen before, and that no sight goes back
  pub sees_here : (c : Posts) (q p : ℕ) → PostsHold n c → q < n.parts → p < n.parts
      → sight ((after_see q p c).lagger q) p ≡ present (c.leader p)
  sees_here c q p old ql pl =
      let ys : List Sight = (c.lagger q).sights in
      let new : Lagger = with_sight p (present (c.leader p)) (c.lagger q) in
      ap (λ (y : Lagger). sight y p) (put_same q new c.lagger)
      ∙ get_or-set_same ys p (present (c.leader p)) unseen (let z = old.sized q ql in omega (arith, pl, z))

  pub sees_there : (c : Posts) (q p x y : ℕ) → (x ≡ q → y ≢ p)
      → sight ((after_see q p c).lagger x) y ≡ sight (c.lagger x) y
  sees_there c q p x y other =
      let ys : List Sight = (c.lagger q).sights in
      let new : Sight = present (c.leader p) in
      put_cases (λ (z : Lagger). sight z y ≡ sight (c.lagger x) y) q
      (with_sight p new (c.lagger q)) c.lagger x
      (λ e. get_or-set_other ys p y new unseen (other e) ∙ ap (λ (z : ℕ). sight (c.lagger z) y) (sym e)) (λ _. refl)

  pub sees_further : (c : Posts) (q p x y : ℕ) → PostsHold n c → q < n.parts → p < n.parts
      → (sight (c.lagger x) y).at ≤ (sight ((after_see q p c).lagger x) y).at
  sees_further c q p x y old ql pl = ⊎_elim
      (λ (f : y ≡ p). ⊎_elim
      (λ (e : x ≡ q).
      let s = ap (λ (z : Sight). z.at) (sees_here c q p old ql pl) in
      let was : (sight (c.lagger x) y).at ≡ (sight (c.lagger q) p).at = λ i. (sight (c.lagger (e i)) (f i)).at in
      let now : (sight ((after_see q p c).lagger x) y).at ≡ (sight ((after_see q p c).lagger q) p).at =
      λ i. (sight ((after_see q p c).lagger (e i)) (f i)).at in
      let b = (old.sight q p ql pl).no_further in
      omega (arith, s, was, now, b))
      (λ (ne : x ≢ q). let s = ap (λ (z : Sight). z.at) (sees_there c q p x y (λ e. absurd (ne e))) in omega (arith, s))
      (cases_eq x q))
      (λ (ne : y ≢ p). let s = ap (λ (z : Sight). z.at) (sees_there c q p x y (λ _. ne)) in omega (arith, s))
      (cases_eq y p)

  pub lag_raises : (c : Posts) (q : ℕ) → PostsHold n c → q < n.parts
      → HasSeenFar n.parts n.lag (c.lagger q)
      → PostsHold n (after_lag_raise q c)
  lag_raises c q old ql far =
      lagger_step c q (record (c.lagger q) { at = (c.lagger q).at + 1 }) old (old.sized q ql) (λ x xl.
      old.sight q x ql xl)
      (λ x xl. inr (let a = far x xl in let b = (old.sight q x ql xl).no_further in omega (arith, a, b)))

  -- ---- the start

  -- leaders at a and laggers at b may start where no assertion fires below a
  pub posts_start : (a b : ℕ) → a ≤ n.rows → ((p t : ℕ) → p < n.parts → t < a → n.fired p t ≡ false)
      → (b ≡ 0) ⊎ (b + n.lag ≤ a) → PostsHold n (first_posts n.parts a b)
  posts_start a b within clear rule = record {
    fire = inl refl;
    leader = λ p l. record {
      within = within;
      clear = λ t. clear p t l;
      reports = λ rep. absurd (true≢false (sym rep));
      stopped = λ halt. absurd (true≢false (sym halt));
      saw = inl refl;
      later = omega arith;
    };
    sight = λ q p ql pl.
        let s : get_or (replicate n.parts record { at = a; halted = false }) p unseen
        ≡ record { at = a; halted = false } =
        get_or-replicate n.parts p record { at = a; halted = false } unseen pl in
        subst (SightHolds n record { at = a; halted = false; reported = false; seen = none_yet }) (sym s) record {
          no_further = omega arith;
          last = λ halt. absurd (true≢false (sym halt));
        };
    lag = λ q p ql pl. rule;
    sized = λ q ql. length-replicate n.parts record { at = a; halted = false };
  }

-- ---- more rows

-- what is seen of each leader after an extension
pub extended_sight : (parts : ℕ) (c : Posts) (q p : ℕ) → q < parts → p < parts
    → sight ((after_extension parts c).lagger q) p ≡ going_on (c.leader p)
extended_sight parts c q p ql pl =
    ap (λ (y : Lagger). sight y p)
    (put_below_here parts
    (λ x. record (c.lagger x) { sights = map (λ y. going_on (c.leader y)) (range_with_len 0 parts) }) c.lagger q ql)
    ∙ get_or-map-range_with_len (λ (x : ℕ). going_on (c.leader x)) 0 parts p p unseen pl (omega arith)

-- positions and reports stay
pub extended_leader_at : (parts : ℕ) (c : Posts) (p : ℕ) → ((after_extension parts c).leader p).at ≡ (c.leader p).at
extended_leader_at parts c p = put_below_keeps (λ (x : Leader). x.at) parts
    (λ y. record (c.leader y) { halted = false }) c.leader p refl

pub extended_reported : (parts : ℕ) (c : Posts) (p : ℕ)
    → ((after_extension parts c).leader p).reported ≡ (c.leader p).reported
extended_reported parts c p = put_below_keeps (λ (x : Leader). x.reported) parts
    (λ y. record (c.leader y) { halted = false }) c.leader p refl

pub extended_lagger_at : (parts : ℕ) (c : Posts) (q : ℕ) → ((after_extension parts c).lagger q).at ≡ (c.lagger q).at
extended_lagger_at parts c q = put_below_keeps (λ (y : Lagger). y.at) parts
    (λ x. record (c.lagger x) { sights = map (λ y. going_on (c.leader y)) (range_with_len 0 parts) }) c.lagger q refl

more_fire : (n : Course) (k f : ℕ) → IsFire n f → IsFire (with_rows n k) f
more_fire n k f (inl e) = inl e
more_fire n k f (inr h) = inr (let a = h.0 in omega (arith, a), h.1)

pub posts_extend : (n : Course) (c : Posts) (k : ℕ) → PostsHold n c
    → PostsHold (with_rows n k) (after_extension n.parts c)
posts_extend n c k old =
    let going : ℕ → Leader = λ p. record (c.leader p) { halted = false } in
    let saw : ℕ → Lagger = λ q.
    record (c.lagger q) { sights = map (λ p. going_on (c.leader p)) (range_with_len 0 n.parts) } in
    record {
      fire = more_fire n k c.fire old.fire;
      leader = λ p l.
          let m = old.leader p l in
          subst (LeaderHolds (with_rows n k) c.fire p) (sym (put_below_here n.parts going c.leader p l)) record {
            within = (let a = m.within in omega (arith, a));
            clear = m.clear;
            reports = λ rep. let a = m.reports rep in let b = a.0 in (omega (arith, b), a.1, a.2);
            stopped = λ halt. absurd (true≢false (sym halt));
            saw = more_fire n k (c.leader p).seen m.saw;
            later = m.later;
          };
      sight = λ q p ql pl.
          subst (λ (x : Leader). SightHolds (with_rows n k) x (sight ((after_extension n.parts c).lagger q) p))
          (sym (put_below_here n.parts going c.leader p pl))
          (subst (SightHolds (with_rows n k) (going p)) (sym (extended_sight n.parts c q p ql pl)) record {
            no_further = omega arith;
            last = λ halt. absurd (true≢false (sym halt));
          });
      lag = λ q p ql pl.
          put_below_cases
          (λ (y : Lagger). (y.at ≡ 0) ⊎ (y.at + n.lag ≤ ((after_extension n.parts c).leader p).at)) n.parts saw
          c.lagger q
          (λ _. put_below_cases (λ (x : Leader). ((c.lagger q).at ≡ 0) ⊎ ((c.lagger q).at + n.lag ≤ x.at)) n.parts going
          c.leader p
          (λ _. old.lag q p ql pl) (λ _. old.lag q p ql pl))
          (λ b. absurd (omega (arith, b, ql)));
      sized = λ q ql.
          ap (λ (y : Lagger). length y.sights) (put_below_here n.parts saw c.lagger q ql)
          ∙ length-map-range_with_len (λ (x : ℕ). going_on (c.leader x)) 0 n.parts;
    }
