-- The end, from what holds of the posts alone; and the laws of posts.
use Rattle.std.proofs.Common.{◌≡◌, ℕ, ◌+◌, ◌<◌, ◌≤◌, true, true≢false, sym, ap, ◌∙◌, ⊎_elim, arith, refl}
use Rattle.std.proofs.lemmas.Bool.{cases_lt}
use Rattle.token_net.specs.Posts.{Sight, Posts, none_yet, most_rows, sight, Course, PostsHold}
use Rattle.token_net.specs.End.{AllDone, IsFirstFailure, IsEnd}
use Rattle.token_net.specs.Laws.{PostsLaws}
use Rattle.token_net.proofs.Places.{least_place}
use Rattle.token_net.proofs.PostsKeep.{raises, halts, reports, sees_fire, sees, lag_raises, posts_start, posts_extend}

module _ (n : Course) (c : Posts) (some : 1 ≤ n.parts) (few : n.rows ≤ most_rows) (holds : PostsHold n c)
    (done : AllDone n.parts n.lag c) where
  -- the fire word isn't below the least position
  not_below : (p : ℕ) → p < n.parts → ((q : ℕ) → q < n.parts → (c.leader p).at ≤ (c.leader q).at)
      → c.fire < (c.leader p).at → ⊥
  not_below p l least w = ⊎_elim
      (λ (none : c.fire ≡ none_yet). let b = (holds.leader p l).within in absurd (omega (arith, none, w, few, b)))
      (λ (f : (c.fire < n.rows) × ((q : ℕ) × (q < n.parts) × (n.fired q c.fire ≡ true))).
      let o = least f.1.0 f.1.1 in
      absurd (true≢false (sym f.1.2 ∙ (holds.leader f.1.0 f.1.1).clear c.fire (omega (arith, o, w)))))
      holds.fire

  -- where it is below the number of rows, its leader has reported
  reported : (p : ℕ) → p < n.parts → ((q : ℕ) → q < n.parts → (c.leader p).at ≤ (c.leader q).at)
      → (c.leader p).at < n.rows → (c.leader p).reported ≡ true
  reported p l least small = ⊎_elim
      (λ (rep : (c.leader p).reported ≡ true). rep)
      (λ (w : c.fire < (c.leader p).at). absurd (not_below p l least w))
      ((holds.leader p l).stopped (done.leaders p l) small)

  -- the leader that is furthest back is at the first failure, or at the end of the rows
  first_failure : (p : ℕ) → p < n.parts → ((q : ℕ) → q < n.parts → (c.leader p).at ≤ (c.leader q).at)
      → IsFirstFailure n (c.leader p).at
  first_failure p l least = record {
    within = (holds.leader p l).within;
    none = λ q t ql b. (holds.leader q ql).clear t (let o = least q ql in omega (arith, o, b));
    fires = λ small. (p, l, ((holds.leader p l).reports (reported p l least small)).1);
  }

  pub posts_end : IsEnd n c
  posts_end =
      let p = least_place n.parts (λ q. (c.leader q).at) some in
      record {
        k = (c.leader p.0).at;
        first = first_failure p.0 p.1 p.2;
        least = p.2;
        reached = (p.0, p.1, refl);
        laggers = λ q l.
            let d = done.laggers q l in
            let s = (holds.sight q d.near.0 l d.near.1).last (d.halts d.near.0 d.near.1) in
            let e : (sight (c.lagger q) d.near.0).at ≡ (c.leader d.near.0).at = ap (λ (x : Sight). x.at) s in
            let o = p.2 d.near.0 d.near.1 in
            let g = d.near.2 in
            ⊎_elim
            (λ (z : (c.lagger q).at ≡ 0). omega (arith, z, o, g, e))
            (λ (b : (c.lagger q).at + n.lag ≤ (c.leader p.0).at). omega (arith, b, o, g, e))
            (holds.lag q p.0 l p.1);
        word = λ small. ⊎_elim
            (λ (w : c.fire < (c.leader p.0).at). absurd (not_below p.0 p.1 p.2 w))
            (λ (g : (c.leader p.0).at ≤ c.fire).
            let a = ((holds.leader p.0 p.1).reports (reported p.0 p.1 p.2 small)).2 in omega (arith, a, g))
            (cases_lt c.fire (c.leader p.0).at);
        no_word = λ e. ⊎_elim
            (λ (none : c.fire ≡ none_yet). none)
            (λ (f : (c.fire < n.rows) × ((q : ℕ) × (q < n.parts) × (n.fired q c.fire ≡ true))).
            absurd (not_below p.0 p.1 p.2 (let b = f.0 in omega (arith, b, e))))
            holds.fire;
      }

-- ---- the laws of posts

pub posts_laws : (n : Course) → PostsLaws n
posts_laws n = record {
  begins = λ a b within clear rule. posts_start n a b within clear rule;
  raise = λ c p old l may. raises n c p old l may;
  halt = λ c p old l may. halts n c p old l may;
  report = λ c p old l may. reports n c p old l may;
  see_fire = λ c p old l. sees_fire n c p old l;
  see = λ c q p old ql pl. sees n c q p old ql pl;
  lag_raise = λ c q old ql far. lag_raises n c q old ql far;
  extends = λ c k old. posts_extend n c k old;
  end = λ c some few old done. posts_end n c some few old done;
}
