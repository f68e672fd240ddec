-- Where the network isn't finished some event is enabled, and where it is finished none is.
use Rattle.std.proofs.Common.{◌≡◌, ◌≢◌, ◌⊎◌, ℕ, zero, suc, ◌+◌, ◌<◌, ◌≤◌, ◌==◌, ◌&&◌, not, Bool, true, false}
use Rattle.std.proofs.Common.{true≢false, [], length}
use Rattle.std.proofs.Common.{refl, sym, ap, ◌∙◌, subst, inl, inr, ⊎_elim, arith, eqb-true, eq-eqb}
use Rattle.std.proofs.lemmas.Bool.{cases_lt, cases_eq}
use Rattle.token_net.specs.Families.{one_if}
use Rattle.token_net.specs.Shape.{Shape, IsShape, Run}
use Rattle.token_net.specs.SideState.{Phase, idle, taking, quiet, firing, SideState}
use Rattle.token_net.specs.SideState.{HasNotEvaluated, HasEvaluated, HasTakenAll}
use Rattle.token_net.specs.SideState.{HasNoInput}
use Rattle.token_net.specs.SideState.{MayTake, MayEvaluate, MayGive, MayClose, SideHolds}
use Rattle.token_net.specs.Posts.{LeaderRuns}
use Rattle.token_net.specs.Posts.{Sight, present, sight}
use Rattle.token_net.specs.Network.{leading, lagging, Config, position, Event, Enabled, MayStart}
use Rattle.token_net.specs.Network.{take, evaluate, give, raise, halt, fire, see, lag_raise, see_fire}
use Rattle.token_net.specs.Holds.{Holds}
use Rattle.std.specs.Bool.{beq}
use Rattle.token_net.specs.Left.{differs}
use Rattle.token_net.specs.End.{Finished}
use Rattle.token_net.proofs.Places.{search_for, IsLeast, least_of, least_place}
use Rattle.token_net.proofs.SideKeeps.{evaluated_not_idle, taking_not_idle}

-- ---- bits and sights

both : (a b : Bool) → (a && b) ≡ true → (a ≡ true) × (b ≡ true)
both true true e = (refl, refl)
both true false e = absurd (true≢false (sym e))
both false b e = absurd (true≢false (sym e))

not_both : (a b : Bool) → (a && not b) ≡ false → a ≡ true → b ≡ true
not_both true true e t = refl
not_both true false e t = absurd (true≢false e)
not_both false b e t = absurd (true≢false (sym t))

pub is_false : (b : Bool) → not b ≡ true → b ≡ false
is_false true e = absurd (true≢false (sym e))
is_false false e = refl

pub is_true : (b : Bool) → not b ≡ false → b ≡ true
is_true true e = refl
is_true false e = absurd (true≢false e)

pub true_or_false : (b : Bool) → (b ≡ true) ⊎ (b ≡ false)
true_or_false true = inl refl
true_or_false false = inr refl

equal_bits : (a b : Bool) → beq a b ≡ true → a ≡ b
equal_bits true true e = refl
equal_bits true false e = absurd (true≢false (sym e))
equal_bits false true e = absurd (true≢false (sym e))
equal_bits false false e = refl

bit_as_itself : (b : Bool) → beq b b ≡ true
bit_as_itself true = refl
bit_as_itself false = refl

pub equal_sights : (a b : Sight) → differs a b ≡ false → a ≡ b
equal_sights a b e =
    let t = both (a.at == b.at) (beq a.halted b.halted)
    (is_true ((a.at == b.at) && beq a.halted b.halted) e) in
    let x : a.at ≡ b.at = eqb-true a.at b.at t.0 in
    let y : a.halted ≡ b.halted = equal_bits a.halted b.halted t.1 in
    (λ i. record { at = x i; halted = y i })

pub no_difference : (a : Sight) → differs a a ≡ false
no_difference a = rw (eq-eqb a.at a.at refl, bit_as_itself a.halted) refl

pub some_difference : (a b : Sight) → a ≢ b → differs a b ≡ true
some_difference a b ne = ⊎_elim (λ (t : differs a b ≡ true). t)
    (λ (f : differs a b ≡ false). absurd (ne (equal_sights a b f))) (true_or_false (differs a b))

other_sight : (a b : Sight) → differs a b ≡ true → a ≢ b
other_sight a b e s = true≢false (sym e ∙ ap (λ x. differs x b) s ∙ no_difference b)

any_phase : (p : Phase) → HasNotEvaluated p ⊎ HasEvaluated p
any_phase idle = inl (inl refl)
any_phase taking = inl (inr refl)
any_phase quiet = inr (inl refl)
any_phase firing = inr (inr refl)

firing_or_not : (p : Phase) → (p ≡ firing) ⊎ (p ≢ firing)
firing_or_not idle = inr (λ e. absurd cc)
firing_or_not taking = inr (λ e. absurd cc)
firing_or_not quiet = inr (λ e. absurd cc)
firing_or_not firing = inl refl

module _ {S V : Type 0} (n : Shape S V) (r : Run S V) (shape : IsShape n) where
  -- ---- one side: the partition that is furthest back may move

  abbrev Moves : (ℕ → Type 0) → SideState S V → ℕ → Type 0
  Moves starts h p =
      ((ch : ℕ) × MayTake n starts h ch × (n.to ch ≡ p))
      ⊎ (MayEvaluate n starts h p ⊎ (((ch : ℕ) × MayGive n h ch × (n.from ch ≡ p)) ⊎ MayClose n h p))

  module _ (starts : ℕ → Type 0) (rows : ℕ) (at : ℕ → ℕ) (h : SideState S V) (p : ℕ) (holds : SideHolds n r rows at h)
      (l : p < n.parts)
      (least : (q : ℕ) → q < n.parts → at p ≤ at q) where
    -- an input that wasn't taken holds a token
    unevaluated_moves : starts p → HasNotEvaluated (h.phase p) → Moves starts h p
    unevaluated_moves may o = ⊎_elim
        (λ (f : (ch : ℕ) × (ch < n.channels) × (((n.to ch == p) && not (h.taken ch)) ≡ true)).
        let b = both (n.to f.0 == p) (not (h.taken f.0)) f.2 in
        let e : n.to f.0 ≡ p = eqb-true (n.to f.0) p b.0 in
        let new : h.taken f.0 ≡ false = is_false (h.taken f.0) b.1 in
        let channel = holds.channel f.0 f.1 in
        let order = least (n.from f.0) (shape.from f.0 f.1) in
        let here : at (n.to f.0) ≡ at p = ap at e in
        let z : one_if (h.taken f.0) ≡ 0 = ap one_if new in
        inl (
          f.0,
          record {
            there = f.1;
            ready = ⊎_elim
                (λ (i : h.phase p ≡ idle). inl (ap h.phase e ∙ i, subst starts (sym e) may))
                (λ (t : h.phase p ≡ taking). inr (ap h.phase e ∙ t, new)) o;
            some = λ (none : h.held f.0 ≡ []).
                let bare : length (h.held f.0) ≡ 0 = ap length none in
                omega (arith, channel.queue.count, order, here, z, bare);
          },
          e,
        ))
        (λ (none : (ch : ℕ) → ch < n.channels → ((n.to ch == p) && not (h.taken ch)) ≡ false).
        let all : HasTakenAll n h p = λ ch b e.
        not_both (n.to ch == p) (h.taken ch) (none ch b) (eq-eqb (n.to ch) p e) in
        inr (inl record {
          there = l;
          ready = ⊎_elim
              (λ (i : h.phase p ≡ idle). inr (
                i,
                (λ ch b e. true≢false (sym (all ch b e)
                    ∙ (holds.channel ch b).taker.idle_took_none (ap h.phase e ∙ i))),
                may,
              ))
              (λ (t : h.phase p ≡ taking). inl (t, all)) o;
        }))
        (search_for n.channels (λ ch. (n.to ch == p) && not (h.taken ch)))

    -- an output that wasn't given has room
    evaluated_moves : HasEvaluated (h.phase p) → Moves starts h p
    evaluated_moves v = ⊎_elim
        (λ (f : (ch : ℕ) × (ch < n.channels) × (((n.from ch == p) && not (h.given ch)) ≡ true)).
        let b = both (n.from f.0 == p) (not (h.given f.0)) f.2 in
        let e : n.from f.0 ≡ p = eqb-true (n.from f.0) p b.0 in
        let new : h.given f.0 ≡ false = is_false (h.given f.0) b.1 in
        let channel = holds.channel f.0 f.1 in
        let order = least (n.to f.0) (shape.to f.0 f.1) in
        let here : at (n.from f.0) ≡ at p = ap at e in
        let z : one_if (h.given f.0) ≡ 0 = ap one_if new in
        inr (inr (inl (
          f.0,
          record {
            there = f.1;
            evaluated = subst (λ (q : ℕ). HasEvaluated (h.phase q)) (sym e) v;
            new = new;
            room = omega (arith, channel.queue.count, order, here, z, shape.deep);
          },
          e,
        ))))
        (λ (none : (ch : ℕ) → ch < n.channels → ((n.from ch == p) && not (h.given ch)) ≡ false).
        inr (inr (inr record {
          there = l;
          evaluated = v;
          all = λ ch b e. not_both (n.from ch == p) (h.given ch) (none ch b) (eq-eqb (n.from ch) p e);
        })))
        (search_for n.channels (λ ch. (n.from ch == p) && not (h.given ch)))

    last_moves : starts p → Moves starts h p
    last_moves may = ⊎_elim (unevaluated_moves may) evaluated_moves (any_phase (h.phase p))

  -- ---- leaders

  abbrev Some : Config S V → Type 0
  Some c = (e : Event) × Enabled n c e

  -- where no running leader is further back than p, and p is at most at the fire word, no leader at all is further back
  last_of_all : (c : Config S V) (p : ℕ) → Holds n r c → (c.posts.leader p).at < c.rows
      → (c.posts.leader p).at ≤ c.posts.fire
      → ((q : ℕ) → q < n.parts → not (c.posts.leader q).halted ≡ true → (c.posts.leader p).at ≤ (c.posts.leader q).at)
      → (q : ℕ) → q < n.parts → (c.posts.leader p).at ≤ (c.posts.leader q).at
  last_of_all c p holds small clear least q l = ⊎_elim
      (λ (h : (c.posts.leader q).halted ≡ true). ⊎_elim
      (λ (b : (c.posts.leader q).at < (c.posts.leader p).at).
      let m = holds.posts.leader q l in
      ⊎_elim (λ (rep : (c.posts.leader q).reported ≡ true).
      let w = (m.reports rep).2 in absurd (omega (arith, w, b, clear)))
      (λ (w : c.posts.fire < (c.posts.leader q).at). absurd (omega (arith, w, b, clear)))
      (m.stopped h (omega (arith, b, small))))
      (λ (g : (c.posts.leader p).at ≤ (c.posts.leader q).at). g) (cases_lt (c.posts.leader q).at (c.posts.leader p).at))
      (λ (h : (c.posts.leader q).halted ≡ false). least q l (ap not h)) (true_or_false (c.posts.leader q).halted)

  leader_moves : (c : Config S V) (p : ℕ) → LeaderRuns (c.posts.leader p) → c.leaders.phase p ≢ firing
      → Moves (MayStart n leading c) c.leaders p → Some c
  leader_moves c p runs calm (inl m) =
      (take leading m.0, (subst (λ (q : ℕ). LeaderRuns (c.posts.leader q)) (sym m.2) runs, m.1))
  leader_moves c p runs calm (inr (inl m)) = (evaluate leading p, (runs, m))
  leader_moves c p runs calm (inr (inr (inl m))) = (
    give leading m.0,
    (
      subst (λ (q : ℕ). LeaderRuns (c.posts.leader q)) (sym m.2) runs,
      ⊎_elim
          (λ (q : c.leaders.phase (n.from m.0) ≡ quiet). q)
          (λ (f : c.leaders.phase (n.from m.0) ≡ firing). absurd (calm (ap c.leaders.phase (sym m.2) ∙ f)))
          m.1.evaluated,
      m.1,
    ),
  )
  leader_moves c p runs calm (inr (inr (inr m))) = (
    raise p,
    (
      runs,
      ⊎_elim
          (λ (q : c.leaders.phase p ≡ quiet). q) (λ (f : c.leaders.phase p ≡ firing). absurd (calm f)) m.evaluated,
      m,
    ),
  )

  -- the running leader that is furthest back halts, reports, sees the fire word or moves
  leaders_go : (c : Config S V) (p : ℕ) → Holds n r c → p < n.parts → not (c.posts.leader p).halted ≡ true
      → ((q : ℕ) → q < n.parts → not (c.posts.leader q).halted ≡ true → (c.posts.leader p).at ≤ (c.posts.leader q).at)
      → Some c
  leaders_go c p holds l going least =
      let up : (c.posts.leader p).halted ≡ false = is_false (c.posts.leader p).halted going in
      ⊎_elim (λ (e : (c.posts.leader p).at ≡ c.rows). (halt p, (l, record { going = up; why = inl e })))
      (λ (ne : (c.posts.leader p).at ≢ c.rows). ⊎_elim
      (λ (rep : (c.posts.leader p).reported ≡ true). (halt p, (l, record { going = up; why = inr (inl rep) })))
      (λ (rep : (c.posts.leader p).reported ≡ false). ⊎_elim
      (λ (past : (c.posts.leader p).seen < (c.posts.leader p).at).
      (halt p, (l, record { going = up; why = inr (inr past) })))
      (λ (clear : (c.posts.leader p).at ≤ (c.posts.leader p).seen).
      let runs : LeaderRuns (c.posts.leader p) = record { going = up; clear = clear } in
      let within = (holds.posts.leader p l).within in
      let small : (c.posts.leader p).at < c.rows = omega (arith, within, ne) in
      ⊎_elim
      (λ (same : c.posts.fire ≡ (c.posts.leader p).seen). ⊎_elim
      (λ (f : c.leaders.phase p ≡ firing). (fire p, (l, runs, f, rep)))
      (λ (calm : c.leaders.phase p ≢ firing). leader_moves c p runs calm
      (last_moves (MayStart n leading c) c.rows (position leading c) c.leaders p holds.leaders l
      (last_of_all c p holds small (omega (arith, clear, same)) least) small))
      (firing_or_not (c.leaders.phase p)))
      (λ (new : c.posts.fire ≢ (c.posts.leader p).seen). (see_fire p, (l, runs, new)))
      (cases_eq c.posts.fire (c.posts.leader p).seen))
      (cases_lt (c.posts.leader p).seen (c.posts.leader p).at))
      (true_or_false (c.posts.leader p).reported))
      (cases_eq (c.posts.leader p).at c.rows)

  -- ---- laggers

  abbrev IsSeen : Config S V → ℕ → ℕ → Type 0
  IsSeen c q p = sight (c.posts.lagger q) p ≡ present (c.posts.leader p)

  -- of one lagger, and of those below m
  sights_of : (c : Config S V) (q : ℕ) → q < n.parts → Some c ⊎ ((p : ℕ) → p < n.parts → IsSeen c q p)
  sights_of c q l = ⊎_elim
      (λ (g : (p : ℕ) × (p < n.parts) × (differs (sight (c.posts.lagger q) p) (present (c.posts.leader p)) ≡ true)).
      inl (see q g.0, (l, g.1, other_sight (sight (c.posts.lagger q) g.0) (present (c.posts.leader g.0)) g.2)))
      (λ (none : (p : ℕ) → p < n.parts → differs (sight (c.posts.lagger q) p) (present (c.posts.leader p)) ≡ false).
      inr (λ p b. equal_sights (sight (c.posts.lagger q) p) (present (c.posts.leader p)) (none p b)))
      (search_for n.parts (λ p. differs (sight (c.posts.lagger q) p) (present (c.posts.leader p))))

  sights_below : (c : Config S V) (m : ℕ) → m ≤ n.parts → Some c ⊎ ((q p : ℕ) → q < m → p < n.parts → IsSeen c q p)
  sights_below c zero l = inr (λ q p a b. absurd (omega arith))
  sights_below c (suc m) l = ⊎_elim (λ (s : Some c). inl s)
      (λ (old : (q p : ℕ) → q < m → p < n.parts → IsSeen c q p). ⊎_elim (λ (s : Some c). inl s)
      (λ (new : (p : ℕ) → p < n.parts → IsSeen c m p). inr (λ q p a b. ⊎_elim
      (λ (e : q ≡ m). subst (λ (x : ℕ). IsSeen c x p) (sym e) (new p b))
      (λ (ne : q ≢ m). old q p (omega (arith, a, ne)) b) (cases_eq q m)))
      (sights_of c m (omega (arith, l))))
      (sights_below c m (omega (arith, l)))

  lagger_moves : (c : Config S V) (q : ℕ) → Moves (MayStart n lagging c) c.laggers q → Some c
  lagger_moves c q (inl m) = (take lagging m.0, (tt, m.1))
  lagger_moves c q (inr (inl m)) = (evaluate lagging q, (tt, m))
  lagger_moves c q (inr (inr (inl m))) = (give lagging m.0, (tt, tt, m.1))
  lagger_moves c q (inr (inr (inr m))) = (lag_raise q, m)

  -- where every halt is seen, the lagger that is furthest back moves, or each is done
  all_seen : (c : Config S V) → Holds n r c → ((p : ℕ) → p < n.parts → (c.posts.leader p).halted ≡ true)
      → ((q p : ℕ) → q < n.parts → p < n.parts → IsSeen c q p)
      → (k : ℕ) → k < n.parts → ((j : ℕ) → j < n.parts → (c.posts.leader k).at ≤ (c.posts.leader j).at)
      → (q : ℕ) → q < n.parts → ((j : ℕ) → j < n.parts → (c.posts.lagger q).at ≤ (c.posts.lagger j).at)
      → Some c ⊎ Finished n c
  all_seen c holds halts saw k kl k_least q ql q_least = ⊎_elim
      (λ (done : (c.posts.leader k).at < (c.posts.lagger q).at + 1 + n.lag). inr record {
        leaders = halts;
        laggers = λ x l. record {
          halts = λ p b. ap (λ (s : Sight). s.halted) (saw x p l b) ∙ halts p b;
          near = (
            k,
            kl,
            let e : (sight (c.posts.lagger x) k).at ≡ (c.posts.leader k).at = ap (λ (s : Sight). s.at) (saw x k l kl) in
                let o = q_least x l in
                omega (arith, e, o, done),
          );
        };
      })
      (λ (more : (c.posts.lagger q).at + 1 + n.lag ≤ (c.posts.leader k).at). inl (lagger_moves c q
      (last_moves (MayStart n lagging c) c.rows (position lagging c) c.laggers q holds.laggers ql q_least
      (λ p l.
      let e : (sight (c.posts.lagger q) p).at ≡ (c.posts.leader p).at = ap (λ (s : Sight). s.at) (saw q p ql l) in
      let o = k_least p l in
      omega (arith, e, o, more)))))
      (cases_lt (c.posts.leader k).at ((c.posts.lagger q).at + 1 + n.lag))

  laggers_go : (c : Config S V) → Holds n r c → ((p : ℕ) → p < n.parts → (c.posts.leader p).halted ≡ true)
      → Some c ⊎ Finished n c
  laggers_go c holds halts = ⊎_elim (λ (s : Some c). inl s)
      (λ (saw : (q p : ℕ) → q < n.parts → p < n.parts → IsSeen c q p).
      let k = least_place n.parts (position leading c) shape.some in
      let q = least_place n.parts (position lagging c) shape.some in
      all_seen c holds halts saw k.0 k.1 k.2 q.0 q.1 q.2)
      (sights_below c n.parts (omega arith))

  -- ---- the laws

  pub goes_or_is_finished : (c : Config S V) → Holds n r c → ((e : Event) × Enabled n c e) ⊎ Finished n c
  goes_or_is_finished c holds = ⊎_elim
      (λ (p : (k : ℕ) × IsLeast n.parts (λ p. not (c.posts.leader p).halted) (position leading c) k).
      inl (leaders_go c p.0 holds p.1.0 p.1.1 p.1.2))
      (λ (none : (p : ℕ) → p < n.parts → not (c.posts.leader p).halted ≡ false).
      laggers_go c holds (λ p l. is_true (c.posts.leader p).halted (none p l)))
      (least_of n.parts (λ p. not (c.posts.leader p).halted) (position leading c))

  module _ (c : Config S V) (holds : Holds n r c) (done : Finished n c) where
    no_leader_runs : (p : ℕ) → p < n.parts → LeaderRuns (c.posts.leader p) → ⊥
    no_leader_runs p l runs = true≢false (sym (done.leaders p l) ∙ runs.going)

    no_lagger_starts : (q : ℕ) → q < n.parts → MayStart n lagging c q → ⊥
    no_lagger_starts q l may =
        let d = (done.laggers q l).near in let a = may d.0 d.1 in let b = d.2 in absurd (omega (arith, a, b))

    pub each_lagger_idle : (q : ℕ) → q < n.parts → c.laggers.phase q ≢ idle → ⊥
    each_lagger_idle q l ne = no_lagger_starts q l (holds.begun q l ne)

    pub rests_where_finished : (e : Event) → Enabled n c e → ⊥
    rests_where_finished (take leading ch) en = no_leader_runs (n.to ch) (shape.to ch en.1.there) en.0
    rests_where_finished (take lagging ch) en = ⊎_elim
        (λ (i : (c.laggers.phase (n.to ch) ≡ idle) × MayStart n lagging c (n.to ch)).
        no_lagger_starts (n.to ch) (shape.to ch en.1.there) i.1)
        (λ (t : (c.laggers.phase (n.to ch) ≡ taking) × (c.laggers.taken ch ≡ false)).
        each_lagger_idle (n.to ch) (shape.to ch en.1.there) (taking_not_idle (c.laggers.phase (n.to ch)) t.0))
        en.1.ready
    rests_where_finished (evaluate leading p) en = no_leader_runs p en.1.there en.0
    rests_where_finished (evaluate lagging q) en = ⊎_elim
        (λ (t : (c.laggers.phase q ≡ taking) × HasTakenAll n c.laggers q).
        each_lagger_idle q en.1.there (taking_not_idle (c.laggers.phase q) t.0))
        (λ (i : (c.laggers.phase q ≡ idle) × HasNoInput n q × MayStart n lagging c q).
        no_lagger_starts q en.1.there i.2) en.1.ready
    rests_where_finished (give leading ch) en = no_leader_runs (n.from ch) (shape.from ch en.2.there) en.0
    rests_where_finished (give lagging ch) en =
        each_lagger_idle (n.from ch) (shape.from ch en.2.there)
        (evaluated_not_idle (c.laggers.phase (n.from ch)) en.2.evaluated)
    rests_where_finished (raise p) en = no_leader_runs p en.2.there en.0
    rests_where_finished (halt p) en = true≢false (sym (done.leaders p en.0) ∙ en.1.going)
    rests_where_finished (fire p) en = no_leader_runs p en.0 en.1
    rests_where_finished (see q p) en = en.2
        ((holds.posts.sight q p en.0 en.1).last ((done.laggers q en.0).halts p en.1))
    rests_where_finished (lag_raise q) en = each_lagger_idle q en.there
        (evaluated_not_idle (c.laggers.phase q) en.evaluated)
    rests_where_finished (see_fire p) en = no_leader_runs p en.0 en.1
