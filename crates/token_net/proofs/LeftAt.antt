-- What is left at the start, and what an extension adds to it.
use Rattle.std.proofs.Common.{◌≡◌, ◌≢◌, ℕ, ◌+◌, ◌-◌, ◌*◌, ◌<◌, ◌≤◌, ◌==◌, ◌&&◌, not, Bool, true, false, true≢false}
use Rattle.std.proofs.Common.{refl, sym, ap, ◌∙◌, inl, ⊎_elim, arith, eq-eqb}
use Rattle.std.proofs.lemmas.Bool.{ne_eqb, lt-ltb, cases_lt, cases_eq}
use Rattle.std.proofs.lemmas.List.{get_or-replicate}
use Rattle.token_net.specs.Families.{one_if, total}
use Rattle.token_net.specs.Shape.{Shape, IsShape, Run}
use Rattle.token_net.specs.Posts.{most_rows}
use Rattle.token_net.specs.SideState.{Phase, idle, taking, quiet, firing, SideState, SideHolds}
use Rattle.token_net.specs.Posts.{Sight, present, going_on, sight, none_yet}
use Rattle.token_net.specs.Network.{leading, lagging, Config, position, start}
use Rattle.token_net.specs.Holds.{Holds}
use Rattle.token_net.specs.Left.{differs, made, cycles_left, unreported, leader_left, lagger_left, sight_left, left}
use Rattle.token_net.specs.Extension.{MayExtend, extended}
use Rattle.token_net.specs.Laws.{for_rows, for_none}
use Rattle.token_net.proofs.Places.{total_raised, total_same}
use Rattle.token_net.proofs.PostsKeep.{unseen, extended_sight, extended_reported}
use Rattle.token_net.proofs.NetworkKeeps.{start_holds}
use Rattle.token_net.proofs.NeverStuck.{true_or_false, no_difference, each_lagger_idle}
use Rattle.token_net.proofs.Falls.{one_off}

idle_unless : (p : Phase) → (p ≢ idle → ⊥) → p ≡ idle
idle_unless idle not = refl
idle_unless taking not = absurd (not (λ e. absurd cc))
idle_unless quiet not = absurd (not (λ e. absurd cc))
idle_unless firing not = absurd (not (λ e. absurd cc))

module _ {S V : Type 0} (n : Shape S V) (r : Run S V) (shape : IsShape n) where
  -- ---- what an idle partition has made

  nothing_made : (rows : ℕ) (at : ℕ → ℕ) (h : SideState S V) (p : ℕ) → SideHolds n r rows at h → h.phase p ≡ idle
      → made n h p ≡ 0
  nothing_made rows at h p old i =
      let x = total_same n.channels (λ ch. one_if ((n.to ch == p) && h.taken ch)) 0 (λ k l. ⊎_elim
      (λ (e : n.to k ≡ p).
      let z : h.taken k ≡ false = (old.channel k l).taker.idle_took_none (ap h.phase e ∙ i) in
      ap (λ (y : Bool). one_if ((n.to k == p) && y)) z ∙ one_off (n.to k == p))
      (λ (ne : n.to k ≢ p). ap (λ (y : Bool). one_if (y && h.taken k)) (ne_eqb (n.to k) p ne)) (cases_eq (n.to k) p)) in
      let y = total_same n.channels (λ ch. one_if ((n.from ch == p) && h.given ch)) 0 (λ k l. ⊎_elim
      (λ (e : n.from k ≡ p).
      let z : h.given k ≡ false = (old.channel k l).giver.gave_none_yet (inl (ap h.phase e ∙ i)) in
      ap (λ (y : Bool). one_if ((n.from k == p) && y)) z ∙ one_off (n.from k == p))
      (λ (ne : n.from k ≢ p). ap (λ (y : Bool). one_if (y && h.given k)) (ne_eqb (n.from k) p ne))
      (cases_eq (n.from k) p)) in
      rw i (omega (arith, x, y))

  -- an idle partition's cycles
  cycles_whole : (rows : ℕ) (at : ℕ → ℕ) (h : SideState S V) (p more t : ℕ) → SideHolds n r rows at h → h.phase p ≡ idle
      → cycles_left n more h p t ≡ 2 * n.parts * (more - t)
  cycles_whole rows at h p more t old i = let a = nothing_made rows at h p old i in omega (arith, a)

  -- ---- the start

  pub left_at_start : (rows : ℕ) → left n (start n r rows) ≡ for_rows n rows + for_none n
  left_at_start rows =
      let c : Config S V = start n r rows in
      let old = start_holds n r shape rows in
      let all : rows - 0 ≡ rows = omega arith in
      let whole : 2 * n.parts * (rows - 0) ≡ 2 * n.parts * rows = ap (λ (k : ℕ). 2 * n.parts * k) all in
      let leaders : (p : ℕ) → cycles_left n rows c.leaders p 0 ≡ 2 * n.parts * rows =
      λ p. cycles_whole rows (position leading c) c.leaders p rows 0 old.leaders refl ∙ whole in
      let laggers : (p : ℕ) → cycles_left n rows c.laggers p 0 ≡ 2 * n.parts * rows =
      λ p. cycles_whole rows (position lagging c) c.laggers p rows 0 old.laggers refl ∙ whole in
      let u : unreported n c ≡ n.parts * 1 =
      total_same n.parts (λ p. one_if (not (c.posts.leader p).reported)) 1 (λ _ _. refl) in
      let a : total n.parts (leader_left n c) ≡ n.parts * (2 + 2 * n.parts * rows + n.parts) =
      total_same n.parts (leader_left n c) (2 + 2 * n.parts * rows + n.parts) (λ p l.
      let b = leaders p in omega (arith, b, u)) in
      let b : total n.parts (lagger_left n c) ≡ n.parts * (2 * n.parts * rows) =
      total_same n.parts (lagger_left n c) (2 * n.parts * rows) (λ q l. laggers q) in
      let d : total n.parts (λ q. total n.parts (sight_left n c q)) ≡ n.parts * (n.parts * (rows + 1)) =
      total_same n.parts (λ q. total n.parts (sight_left n c q)) (n.parts * (rows + 1)) (λ q ql.
      total_same n.parts (sight_left n c q) (rows + 1) (λ p pl.
      let first : Sight = record { at = 0; halted = false } in
      let s : sight (c.posts.lagger q) p ≡ first = get_or-replicate n.parts p first unseen pl in
      let e : one_if (differs (sight (c.posts.lagger q) p) first) ≡ 0 =
      ap (λ (x : Sight). one_if (differs x first)) s in
      omega (arith, all, e))) in
      omega (arith, a, b, d)

  -- ---- more rows

  module _ (c : Config S V) (few : c.rows ≤ most_rows) (old : Holds n r c) (may : MayExtend n c) where
    -- where no leader has reported, each has come to the end of the rows, and sees that none has reported
    none_reported : (p : ℕ) → p < n.parts → (c.posts.leader p).reported ≡ false
    none_reported p l = ⊎_elim
        (λ (rep : (c.posts.leader p).reported ≡ true).
        let m = old.posts.leader p l in
        let a = (m.reports rep).2 in
        let b = m.within in
        let none = may.no_fire in
        absurd (omega (arith, a, b, none, few)))
        (λ (no : (c.posts.leader p).reported ≡ false). no) (true_or_false (c.posts.leader p).reported)

    at_the_end : (p : ℕ) → p < n.parts → (c.posts.leader p).at ≡ c.rows
    at_the_end p l =
        let m = old.posts.leader p l in
        let b = m.within in
        let none = may.no_fire in
        ⊎_elim
        (λ (small : (c.posts.leader p).at < c.rows). ⊎_elim
        (λ (rep : (c.posts.leader p).reported ≡ true). absurd (true≢false (sym rep ∙ none_reported p l)))
        (λ (w : c.posts.fire < (c.posts.leader p).at). absurd (omega (arith, w, b, none, few)))
        (m.stopped (may.finished.leaders p l) small))
        (λ (g : c.rows ≤ (c.posts.leader p).at). omega (arith, g, b)) (cases_lt (c.posts.leader p).at c.rows)

    none_seen : (p : ℕ) → p < n.parts → (c.posts.leader p).seen ≡ c.posts.fire
    none_seen p l =
        let m = old.posts.leader p l in
        ⊎_elim
        (λ (e : (c.posts.leader p).seen ≡ none_yet). e ∙ sym may.no_fire)
        (λ (f : ((c.posts.leader p).seen < c.rows)
        × ((q : ℕ) × (q < n.parts) × (r.fired q (c.posts.leader p).seen ≡ true))).
        let a = m.later in let b = f.0 in let none = may.no_fire in absurd (omega (arith, a, b, none, few)))
        m.saw

    leader_idle : (p : ℕ) → p < n.parts → c.leaders.phase p ≡ idle
    leader_idle p l = idle_unless (c.leaders.phase p)
        (λ ne. let a = (old.leaders.part p l).below ne in let b = at_the_end p l in absurd (omega (arith, a, b)))

    lagger_idle : (q : ℕ) → q < n.parts → c.laggers.phase q ≡ idle
    lagger_idle q l = idle_unless (c.laggers.phase q) (each_lagger_idle n r shape c old may.finished q l)

    pub left_extends : (k : ℕ) → left n (extended n k c) ≡ left n c + for_rows n k + for_none n
    left_extends k =
        let d : Config S V = extended n k c in
        let was : total n.parts (leader_left n c) ≡ n.parts * 0 =
        total_same n.parts (leader_left n c) 0 (λ p l. rw (may.finished.leaders p l) refl) in
        let u : unreported n d ≡ n.parts * 1 =
        total_same n.parts (λ p. one_if (not (d.posts.leader p).reported)) 1 (λ p l.
        ap (λ (b : Bool). one_if (not b)) (extended_reported n.parts c.posts p ∙ none_reported p l)) in
        let leaders : total n.parts (leader_left n d) ≡ n.parts * (2 + 2 * n.parts * k + n.parts) =
        total_same n.parts (leader_left n d) (2 + 2 * n.parts * k + n.parts) (λ p l.
        let a : one_if (not (c.posts.leader p).reported) ≡ 1 = ap (λ (b : Bool). one_if (not b)) (none_reported p l) in
        let b : one_if (not ((c.posts.leader p).seen == c.posts.fire)) ≡ 0 =
        ap (λ (x : Bool). one_if (not x)) (eq-eqb (c.posts.leader p).seen c.posts.fire (none_seen p l)) in
        let z = at_the_end p l in
        let rest : (c.rows + k) - (c.posts.leader p).at ≡ k = omega (arith, z) in
        let e : cycles_left n (c.rows + k) c.leaders p (c.posts.leader p).at ≡ 2 * n.parts * k =
        cycles_whole c.rows (position leading c) c.leaders p (c.rows + k) (c.posts.leader p).at old.leaders
        (leader_idle p l)
        ∙ ap (λ (x : ℕ). 2 * n.parts * x) rest in
        rw (lt-ltb p n.parts l) (omega (arith, a, b, e, u))) in
        let laggers : total n.parts (lagger_left n d) ≡ total n.parts (lagger_left n c) + n.parts * (2 * n.parts * k) =
        total_raised n.parts (lagger_left n d) (lagger_left n c) (2 * n.parts * k) (λ q l.
        let t : ℕ = (c.posts.lagger q).at in
        let w = (old.laggers.part q l).within in
        let rest : (c.rows + k) - t ≡ (c.rows - t) + k = omega (arith, w) in
        let a = cycles_whole c.rows (position lagging c) c.laggers q (c.rows + k) t old.laggers (lagger_idle q l) in
        let b = cycles_whole c.rows (position lagging c) c.laggers q c.rows t old.laggers (lagger_idle q l) in
        let e : 2 * n.parts * ((c.rows + k) - t) ≡ 2 * n.parts * ((c.rows - t) + k) =
        ap (λ (x : ℕ). 2 * n.parts * x) rest in
        rw (lt-ltb q n.parts l) (omega (arith, a, b, e))) in
        let sights : total n.parts (λ q. total n.parts (sight_left n d q))
        ≡ total n.parts (λ q. total n.parts (sight_left n c q)) + n.parts * (n.parts * (k + 1)) =
        total_raised n.parts (λ q. total n.parts (sight_left n d q)) (λ q. total n.parts (sight_left n c q))
        (n.parts * (k + 1)) (λ q ql.
        total_raised n.parts (sight_left n d q) (sight_left n c q) (k + 1) (λ p pl.
        let z = at_the_end p pl in
        let seen = (old.posts.sight q p ql pl).last ((may.finished.laggers q ql).halts p pl) in
        let now : one_if (differs (sight (d.posts.lagger q) p) (going_on (c.posts.leader p))) ≡ 0 =
        ap (λ (s : Sight). one_if (differs s (going_on (c.posts.leader p)))) (extended_sight n.parts c.posts q p ql pl)
        ∙ ap one_if (no_difference (going_on (c.posts.leader p))) in
        let before : one_if (differs (sight (c.posts.lagger q) p) (present (c.posts.leader p))) ≡ 0 =
        ap (λ (s : Sight). one_if (differs s (present (c.posts.leader p)))) seen
        ∙ ap one_if (no_difference (present (c.posts.leader p))) in
        let h : one_if (not (c.posts.leader p).halted) ≡ 0 =
        ap (λ (b : Bool). one_if (not b)) (may.finished.leaders p pl) in
        rw (lt-ltb p n.parts pl) (omega (arith, z, now, before, h)))) in
        omega (arith, was, leaders, laggers, sights)
