-- Each event lowers what is left.
use Rattle.std.proofs.Common.{◌≡◌, ◌≢◌, ℕ, ◌+◌, ◌-◌, ◌*◌, ◌<◌, ◌≤◌, ◌==◌, ◌&&◌, not, Bool, true, false, true≢false}
use Rattle.std.proofs.Common.{if◌then◌else◌, refl, sym, ap, ◌∙◌, subst, inl, inr, ⊎_elim, arith, eq-eqb}
use Rattle.std.proofs.lemmas.Bool.{ne_eqb, cases_eq}
use Rattle.token_net.specs.Families.{put, one_if, total}
use Rattle.token_net.specs.Shape.{Shape, IsShape, Run}
use Rattle.token_net.specs.SideState.{Phase, idle, taking, quiet, firing, SideState, verdict}
use Rattle.token_net.specs.SideState.{HasNotEvaluated, HasEvaluated}
use Rattle.token_net.specs.SideState.{MayGive, MayClose}
use Rattle.token_net.specs.SideState.{after_take, after_evaluate, after_give, after_close}
use Rattle.token_net.specs.Posts.{with_sight}
use Rattle.token_net.specs.Posts.{Sight, Leader, Lagger, present, sight}
use Rattle.token_net.specs.Network.{Side, leading, lagging, Config, position, side_state, Event, Enabled, after}
use Rattle.token_net.specs.Network.{take, evaluate, give, raise, halt, fire, see, lag_raise, see_fire}
use Rattle.token_net.specs.Holds.{course, Holds}
use Rattle.token_net.specs.Left.{evaluations, differs, made, cycles_left, unreported, leader_left, lagger_left}
use Rattle.token_net.specs.Left.{going_left, sight_left, left}
use Rattle.token_net.proofs.Places.{put_cases, put_same, put_other, put_read, put_keeps, total_le, total_less}
use Rattle.token_net.proofs.Narrow.{narrow}
use Rattle.token_net.proofs.SideKeeps.{Takes, Evaluates, evaluated_not_idle}
use Rattle.token_net.proofs.NetworkKeeps.{take_rests, evaluate_rests, side_holds}
use Rattle.token_net.proofs.NeverStuck.{true_or_false, no_difference, some_difference}
use Rattle.token_net.proofs.PostsKeep.{sees_here, sees_there}

one_and : (a b : Bool) → one_if (a && b) ≤ one_if a
one_and true true = omega arith
one_and true false = omega arith
one_and false b = omega arith

pub one_off : (a : Bool) → one_if (a && false) ≡ 0
one_off true = refl
one_off false = refl

one_most : (a : Bool) → one_if a ≤ 1
one_most true = omega arith
one_most false = omega arith

evaluations_most : (p : Phase) → evaluations p ≤ 1
evaluations_most idle = omega arith
evaluations_most taking = omega arith
evaluations_most quiet = omega arith
evaluations_most firing = omega arith

evaluations_none : (p : Phase) → HasNotEvaluated p → evaluations p ≡ 0
evaluations_none p (inl e) = ap evaluations e
evaluations_none p (inr e) = ap evaluations e

evaluations_verdict : (b : Bool) → evaluations (verdict b) ≡ 1
evaluations_verdict true = refl
evaluations_verdict false = refl

-- one more of those that pass
module _ (m : ℕ) (ends : ℕ → ℕ) (old : ℕ → Bool) (ch : ℕ) (there : ch < m) (new : old ch ≡ false) where
  more_each : (x k : ℕ) → one_if ((ends k == x) && old k) ≤ one_if ((ends k == x) && put ch true old k)
  more_each x k = put_cases (λ (b : Bool). one_if ((ends k == x) && old k) ≤ one_if ((ends k == x) && b)) ch true old k
      (λ (e : k ≡ ch). let z : old k ≡ false = ap old e ∙ new in
      rw z (let w = one_off (ends k == x) in omega (arith, w)))
      (λ _. omega arith)

  more_all : (x : ℕ) → total m (λ k. one_if ((ends k == x) && old k))
      ≤ total m (λ k. one_if ((ends k == x) && put ch true old k))
  more_all x = total_le m (λ k. one_if ((ends k == x) && old k)) (λ k. one_if ((ends k == x) && put ch true old k))
      (λ k l. more_each x k)

  more_here : total m (λ k. one_if ((ends k == ends ch) && old k))
      < total m (λ k. one_if ((ends k == ends ch) && put ch true old k))
  more_here = total_less m (λ k. one_if ((ends k == ends ch) && old k)) (λ k.
      one_if ((ends k == ends ch) && put ch true old k)) ch there
      (let t : (ends ch == ends ch) ≡ true = eq-eqb (ends ch) (ends ch) refl in
      let u : (ch == ch) ≡ true = eq-eqb ch ch refl in
      rw (t, u, new) (omega arith))
      (λ k l. more_each (ends ch) k)

module _ {S V : Type 0} (n : Shape S V) (shape : IsShape n) (rows : ℕ) where
  -- ---- one side

  made_most : (h : SideState S V) (p : ℕ) → p < n.parts → made n h p + 1 ≤ 2 * n.parts
  made_most h p l =
      let a = total_le n.channels (λ ch. one_if ((n.to ch == p) && h.taken ch)) (λ ch. one_if (n.to ch == p))
      (λ ch b. one_and (n.to ch == p) (h.taken ch)) in
      let b = total_le n.channels (λ ch. one_if ((n.from ch == p) && h.given ch)) (λ ch. one_if (n.from ch == p))
      (λ ch b. one_and (n.from ch == p) (h.given ch)) in
      let c = evaluations_most (h.phase p) in
      let d = narrow n shape p l in
      omega (arith, a, b, c, d)

  -- a cycle's share stands for each cycle that is left
  share : (t : ℕ) → t < rows → 2 * n.parts * (rows - t) ≡ 2 * n.parts * (rows - (t + 1)) + 2 * n.parts
  share t l = let e : rows - t ≡ (rows - (t + 1)) + 1 = omega (arith, l) in
      ap (λ (k : ℕ). 2 * n.parts * k) e ∙ omega arith

  -- the cycles that are left fall for p, and rise for nobody
  record Lower (h g : SideState S V) (a b : ℕ → ℕ) (p : ℕ) : Type 0 where
    all : (x : ℕ) → x < n.parts → cycles_left n rows g x (b x) ≤ cycles_left n rows h x (a x)
    less : cycles_left n rows g p (b p) < cycles_left n rows h p (a p)

  module _ (at : ℕ → ℕ) (h : SideState S V) where
    -- where each has made as much as before, and more by one that has a cycle left
    lower : (g : SideState S V) (p : ℕ) → p < n.parts → at p < rows → ((x : ℕ) → x < n.parts → made n h x ≤ made n g x)
        → made n h p < made n g p → Lower h g at at p
    lower g p l small more strict = record {
      all = λ x b. let m = more x b in omega (arith, m);
      less = (let m = made_most h p l in let s = share (at p) small in omega (arith, m, s, strict));
    }

    take_lower : (ch : ℕ) → Takes n rows at h ch → Lower h (after_take n ch h) at at (n.to ch)
    take_lower ch may =
        let p : ℕ = n.to ch in
        let ev : (x : ℕ) → evaluations (h.phase x) ≡ evaluations ((after_take n ch h).phase x) =
        λ x. put_cases (λ y. evaluations (h.phase x) ≡ evaluations y) p taking h.phase x
        (λ e. ap (λ (q : ℕ). evaluations (h.phase q)) e ∙ evaluations_none (h.phase p) may.begun) (λ _. refl) in
        lower (after_take n ch h) p (shape.to ch may.there) may.small
        (λ x l. let a = more_all n.channels n.to h.taken ch may.there may.new x in let b = ev x in omega (arith, a, b))
        (let a = more_here n.channels n.to h.taken ch may.there may.new in let b = ev p in omega (arith, a, b))

    evaluate_lower : (p : ℕ) → Evaluates n rows at h p → Lower h (after_evaluate n p (at p) h) at at p
    evaluate_lower p may =
        let v : Bool = n.fires p (at p) (h.own p) h.copy in
        let g : SideState S V = after_evaluate n p (at p) h in
        let z = evaluations_none (h.phase p) may.begun in
        let w = evaluations_verdict v in
        lower g p may.there may.small
        (λ x l.
        let a : evaluations (h.phase x) ≤ evaluations (g.phase x) =
        put_cases (λ y. evaluations (h.phase x) ≤ evaluations y) p (verdict v) h.phase x
        (λ e. let q : evaluations (h.phase x) ≡ evaluations (h.phase p) = ap (λ (k : ℕ). evaluations (h.phase k)) e in
        omega (arith, q, z))
        (λ _. omega arith) in
        omega (arith, a))
        (let a : evaluations (g.phase p) ≡ 1 = ap evaluations (put_same p (verdict v) h.phase) ∙ w in
        omega (arith, a, z))

    give_lower : (ch : ℕ) → MayGive n h ch → at (n.from ch) < rows
        → Lower h (after_give n ch (at (n.from ch)) h) at at (n.from ch)
    give_lower ch may small =
        lower (after_give n ch (at (n.from ch)) h) (n.from ch) (shape.from ch may.there) small
        (λ x l. let a = more_all n.channels n.from h.given ch may.there may.new x in omega (arith, a))
        (let a = more_here n.channels n.from h.given ch may.there may.new in omega (arith, a))

    -- what is reset for one partition stays for the others
    reset : (ends : ℕ → ℕ) (b : ℕ → Bool) (p x : ℕ) → x ≢ p → total n.channels (λ k. one_if ((ends k == x) && b k))
        ≤ total n.channels (λ k. one_if ((ends k == x) && (if ends k == p then false else b k)))
    reset ends b p x ne = total_le n.channels (λ k. one_if ((ends k == x) && b k))
        (λ k. one_if ((ends k == x) && (if ends k == p then false else b k)))
        (λ k l. ⊎_elim
        (λ (e : ends k ≡ p). let f : (ends k == x) ≡ false = ne_eqb (ends k) x (λ g. ne (sym g ∙ e)) in
        rw f (omega arith))
        (λ (o : ends k ≢ p). let f : (ends k == p) ≡ false = ne_eqb (ends k) p o in rw f (omega arith))
        (cases_eq (ends k) p))

    -- a position that is raised
    raise_lower : (b : ℕ → ℕ) (p : ℕ) → MayClose n h p → at p < rows → ((x : ℕ) → b x ≡ put p (at p + 1) at x)
        → Lower h (after_close n p h) at b p
    raise_lower b p may small raised =
        let g : SideState S V = after_close n p h in
        let here : cycles_left n rows g p (b p) < cycles_left n rows h p (at p) = (
        let m = made_most h p may.there in
        let s = share (at p) small in
        let e : 2 * n.parts * (rows - b p) ≡ 2 * n.parts * (rows - (at p + 1)) =
        ap (λ (k : ℕ). 2 * n.parts * (rows - k)) (raised p ∙ put_same p (at p + 1) at) in
        omega (arith, m, s, e)) in
        record {
          all = λ x l. ⊎_elim
              (λ (e : x ≡ p). subst (λ (q : ℕ). cycles_left n rows g q (b q) ≤ cycles_left n rows h q (at q)) (sym e)
              (omega (arith, here)))
              (λ (ne : x ≢ p).
              let u = reset n.to h.taken p x ne in
              let v = reset n.from h.given p x ne in
              let d : evaluations (g.phase x) ≡ evaluations (h.phase x) =
              ap evaluations (put_other p idle h.phase x ne) in
              let e : 2 * n.parts * (rows - b x) ≡ 2 * n.parts * (rows - at x) =
              ap (λ (k : ℕ). 2 * n.parts * (rows - k)) (raised x ∙ put_other p (at p + 1) at x ne) in
              omega (arith, u, v, d, e)) (cases_eq x p);
          less = here;
        }

module _ {S V : Type 0} (n : Shape S V) (r : Run S V) (shape : IsShape n) where
  -- ---- sums over leaders, laggers and sights

  leader_le : (c d : Config S V) (p : ℕ) → ((c.posts.leader p).halted ≡ true → (d.posts.leader p).halted ≡ true)
      → going_left n d p ≤ going_left n c p → leader_left n d p ≤ leader_left n c p
  leader_le c d p stays l = ⊎_elim (λ (e : (d.posts.leader p).halted ≡ true). rw e (omega arith))
      (λ (e : (d.posts.leader p).halted ≡ false). ⊎_elim
      (λ (f : (c.posts.leader p).halted ≡ true). absurd (true≢false (sym (stays f) ∙ e)))
      (λ (f : (c.posts.leader p).halted ≡ false). rw (e, f) (omega (arith, l)))
      (true_or_false (c.posts.leader p).halted))
      (true_or_false (d.posts.leader p).halted)

  leader_less : (c d : Config S V) (p : ℕ) → (c.posts.leader p).halted ≡ false → going_left n d p < going_left n c p
      → leader_left n d p < leader_left n c p
  leader_less c d p f l = ⊎_elim (λ (e : (d.posts.leader p).halted ≡ true). rw (e, f) (omega arith))
      (λ (e : (d.posts.leader p).halted ≡ false).
      rw (e, f) (omega (arith, l))) (true_or_false (d.posts.leader p).halted)

  sights_le : (c d : Config S V) → ((q p : ℕ) → q < n.parts → p < n.parts → sight_left n d q p ≤ sight_left n c q p)
      → total n.parts (λ q. total n.parts (sight_left n d q)) ≤ total n.parts (λ q. total n.parts (sight_left n c q))
  sights_le c d f = total_le n.parts (λ q. total n.parts (sight_left n d q)) (λ q. total n.parts (sight_left n c q))
      (λ q ql. total_le n.parts (sight_left n d q) (sight_left n c q) (λ p pl. f q p ql pl))

  sights_less : (c d : Config S V) (q p : ℕ) → q < n.parts → p < n.parts → sight_left n d q p < sight_left n c q p
      → ((x y : ℕ) → x < n.parts → y < n.parts → sight_left n d x y ≤ sight_left n c x y)
      → total n.parts (λ q. total n.parts (sight_left n d q)) < total n.parts (λ q. total n.parts (sight_left n c q))
  sights_less c d q p ql pl strict f =
      total_less n.parts (λ q. total n.parts (sight_left n d q)) (λ q. total n.parts (sight_left n c q)) q ql
      (total_less n.parts (sight_left n d q) (sight_left n c q) p pl strict (λ y yl. f q y ql yl))
      (λ x xl. total_le n.parts (sight_left n d x) (sight_left n c x) (λ y yl. f x y xl yl))

  -- a leader's part falls, and nothing rises
  leader_falls : (c d : Config S V) (p : ℕ) → p < n.parts → (c.posts.leader p).halted ≡ false
      → ((x : ℕ) → x < n.parts → leader_left n d x ≤ leader_left n c x) → leader_left n d p < leader_left n c p
      → ((q : ℕ) → q < n.parts → lagger_left n d q ≤ lagger_left n c q)
      → ((q x : ℕ) → q < n.parts → x < n.parts → sight_left n d q x ≤ sight_left n c q x) → left n d < left n c
  leader_falls c d p l going leaders here laggers sights =
      let a = total_less n.parts (leader_left n d) (leader_left n c) p l here leaders in
      let b = total_le n.parts (lagger_left n d) (lagger_left n c) laggers in
      let e = sights_le c d sights in
      omega (arith, a, b, e)

  -- ---- takes, evaluations and gives

  leaders_fall : (c : Config S V) (h : SideState S V) (p : ℕ) → p < n.parts → (c.posts.leader p).halted ≡ false
      → Lower n shape c.rows c.leaders h (position leading c) (position leading c) p
      → left n (record c { leaders = h }) < left n c
  leaders_fall c h p l going low =
      let d : Config S V = record c { leaders = h } in
      leader_falls c d p l going
      (λ x xl. leader_le c d x (λ e. e) (let a = low.all x xl in omega (arith, a)))
      (leader_less c d p going (let a = low.less in omega (arith, a)))
      (λ q ql. omega arith) (λ q x ql xl. omega arith)

  laggers_fall : (c : Config S V) (h : SideState S V) (q : ℕ) → q < n.parts
      → Lower n shape c.rows c.laggers h (position lagging c) (position lagging c) q
      → left n (record c { laggers = h }) < left n c
  laggers_fall c h q l low =
      let d : Config S V = record c { laggers = h } in
      let a = total_less n.parts (lagger_left n d) (lagger_left n c) q l low.less low.all in
      omega (arith, a)

  -- a partition that has evaluated has a row
  small_evaluated : (s : Side) (c : Config S V) (p : ℕ) → Holds n r c → p < n.parts
      → HasEvaluated ((side_state s c).phase p) → position s c p < c.rows
  small_evaluated s c p old l v = ((side_holds n r shape s c old).part p l).below
      (evaluated_not_idle ((side_state s c).phase p) v)

  -- ---- raises

  raise_falls : (c : Config S V) (p : ℕ) → Holds n r c → Enabled n c (raise p) → left n (after n c (raise p)) < left n c
  raise_falls c p old en =
      let d : Config S V = after n c (raise p) in
      let l = en.2.there in
      let new : Leader = record (c.posts.leader p) { at = (c.posts.leader p).at + 1 } in
      let small = small_evaluated leading c p old l en.2.evaluated in
      let low = raise_lower n shape c.rows (position leading c) c.leaders (position leading d) p en.2 small
      (λ x. put_read (λ (z : Leader). z.at) p new c.posts.leader x) in
      let halts : (x : ℕ) → (d.posts.leader x).halted ≡ (c.posts.leader x).halted = λ x.
      put_keeps (λ (z : Leader). z.halted) p new c.posts.leader x refl in
      let reports : (x : ℕ) → (d.posts.leader x).reported ≡ (c.posts.leader x).reported =
      λ x. put_keeps (λ (z : Leader). z.reported) p new c.posts.leader x refl in
      let seen : (x : ℕ) → (d.posts.leader x).seen ≡ (c.posts.leader x).seen = λ x.
      put_keeps (λ (z : Leader). z.seen) p new c.posts.leader x refl in
      let all : unreported n d ≡ unreported n c = ap (total n.parts) (λ i x. one_if (not (reports x i))) in
      let first : (x : ℕ) → one_if (not (d.posts.leader x).reported) ≡ one_if (not (c.posts.leader x).reported) =
      λ x. ap (λ (b : Bool). one_if (not b)) (reports x) in
      let last : (x : ℕ) → one_if (not ((d.posts.leader x).seen == c.posts.fire))
      ≡ one_if (not ((c.posts.leader x).seen == c.posts.fire)) =
      λ x. ap (λ (k : ℕ). one_if (not (k == c.posts.fire))) (seen x) in
      leader_falls c d p l en.0.going
      (λ x xl. leader_le c d x (λ e. halts x ∙ e)
      (let a = low.all x xl in let u = first x in let v = last x in omega (arith, a, all, u, v)))
      (leader_less c d p en.0.going
      (let a = low.less in let u = first p in let v = last p in omega (arith, a, all, u, v)))
      (λ q ql. omega arith)
      (λ q x ql xl. ⊎_elim
      (λ (e : x ≡ p). subst (λ (y : ℕ). sight_left n d q y ≤ sight_left n c q y) (sym e) (
      let m = one_most (differs (sight (c.posts.lagger q) p) (present (d.posts.leader p))) in
      let h : one_if (not (d.posts.leader p).halted) ≡ one_if (not (c.posts.leader p).halted) =
      ap (λ (b : Bool). one_if (not b)) (halts p) in
      let w : (c.rows - (d.posts.leader p).at) + 1 ≡ c.rows - (c.posts.leader p).at = (
      let a : (d.posts.leader p).at ≡ (c.posts.leader p).at + 1 =
      ap (λ (z : Leader). z.at) (put_same p new c.posts.leader) in
      omega (arith, a, small)) in
      omega (arith, m, h, w)))
      (λ (ne : x ≢ p). let f : (x == p) ≡ false = ne_eqb x p ne in rw f (omega arith))
      (cases_eq x p))

  lag_raise_falls : (c : Config S V) (q : ℕ) → Holds n r c → Enabled n c (lag_raise q)
      → left n (after n c (lag_raise q)) < left n c
  lag_raise_falls c q old en =
      let d : Config S V = after n c (lag_raise q) in
      let new : Lagger = record (c.posts.lagger q) { at = (c.posts.lagger q).at + 1 } in
      let small = small_evaluated lagging c q old en.there en.evaluated in
      let low = raise_lower n shape c.rows (position lagging c) c.laggers (position lagging d) q en small
      (λ x. put_read (λ (z : Lagger). z.at) q new c.posts.lagger x) in
      let a = total_less n.parts (lagger_left n d) (lagger_left n c) q en.there low.less low.all in
      let b = sights_le c d (λ x p xl pl.
      let s : sight (d.posts.lagger x) p ≡ sight (c.posts.lagger x) p =
      put_keeps (λ (z : Lagger). sight z p) q new c.posts.lagger x refl in
      let e : one_if (differs (sight (d.posts.lagger x) p) (present (c.posts.leader p)))
      ≡ one_if (differs (sight (c.posts.lagger x) p) (present (c.posts.leader p))) =
      ap (λ (y : Sight). one_if (differs y (present (c.posts.leader p)))) s in
      omega (arith, e)) in
      let t : total n.parts (leader_left n d) ≤ total n.parts (leader_left n c) = omega arith in
      omega (arith, a, b, t)

  -- ---- halts, reports and sights

  halt_falls : (c : Config S V) (p : ℕ) → Enabled n c (halt p) → left n (after n c (halt p)) < left n c
  halt_falls c p en =
      let d : Config S V = after n c (halt p) in
      let new : Leader = record (c.posts.leader p) { halted = true } in
      let here : (d.posts.leader p).halted ≡ true = ap (λ (z : Leader). z.halted) (put_same p new c.posts.leader) in
      let reports : (x : ℕ) → (d.posts.leader x).reported ≡ (c.posts.leader x).reported =
      λ x. put_keeps (λ (z : Leader). z.reported) p new c.posts.leader x refl in
      let all : unreported n d ≡ unreported n c = ap (total n.parts) (λ i x. one_if (not (reports x i))) in
      leader_falls c d p en.0 en.1.going
      (λ x xl. ⊎_elim
      (λ (e : x ≡ p). let s : (d.posts.leader x).halted ≡ true = ap (λ (y : ℕ). (d.posts.leader y).halted) e ∙ here in
      rw s (omega arith))
      (λ (ne : x ≢ p). let f : (x == p) ≡ false = ne_eqb x p ne in
      leader_le c d x (rw f (λ e. e)) (rw f (omega (arith, all))))
      (cases_eq x p))
      (let u = en.1.going in rw (here, u) (omega arith))
      (λ q ql. omega arith)
      (λ q x ql xl. ⊎_elim
      (λ (e : x ≡ p). subst (λ (y : ℕ). sight_left n d q y ≤ sight_left n c q y) (sym e) (
      let m = one_most (differs (sight (c.posts.lagger q) p) (present (d.posts.leader p))) in
      let z : one_if (not (d.posts.leader p).halted) ≡ 0 = ap (λ (b : Bool). one_if (not b)) here in
      let w : one_if (not (c.posts.leader p).halted) ≡ 1 = ap (λ (b : Bool). one_if (not b)) en.1.going in
      let a : c.rows - (d.posts.leader p).at ≡ c.rows - (c.posts.leader p).at =
      ap (λ (z : Leader). c.rows - z.at) (put_same p new c.posts.leader) in
      omega (arith, m, z, w, a)))
      (λ (ne : x ≢ p). let f : (x == p) ≡ false = ne_eqb x p ne in rw f (omega arith)) (cases_eq x p))

  -- a report pays for each leader that now may see the fire word, as the leaders that haven't reported are one fewer
  fire_falls : (c : Config S V) (p : ℕ) → Enabled n c (fire p) → left n (after n c (fire p)) < left n c
  fire_falls c p en =
      let d : Config S V = after n c (fire p) in
      let new : Leader = record (c.posts.leader p) { reported = true } in
      let each : (x : ℕ) → one_if (not (d.posts.leader x).reported) ≤ one_if (not (c.posts.leader x).reported) =
      λ x. put_cases (λ (z : Leader).
      one_if (not z.reported) ≤ one_if (not (c.posts.leader x).reported)) p new c.posts.leader x
      (λ _. omega arith) (λ _. omega arith) in
      let mine : one_if (not (d.posts.leader p).reported) ≡ 0 =
      ap (λ (z : Leader). one_if (not z.reported)) (put_same p new c.posts.leader) in
      let was : one_if (not (c.posts.leader p).reported) ≡ 1 = ap (λ (b : Bool). one_if (not b)) en.3 in
      let fewer : unreported n d < unreported n c =
      total_less n.parts (λ x. one_if (not (d.posts.leader x).reported)) (λ x.
      one_if (not (c.posts.leader x).reported)) p en.0
      (omega (arith, mine, was)) (λ x l. each x) in
      let at : (x : ℕ) → (d.posts.leader x).at ≡ (c.posts.leader x).at = λ x.
      put_keeps (λ (z : Leader). z.at) p new c.posts.leader x refl in
      let halts : (x : ℕ) → (d.posts.leader x).halted ≡ (c.posts.leader x).halted = λ x.
      put_keeps (λ (z : Leader). z.halted) p new c.posts.leader x refl in
      let cycles : (x : ℕ) → cycles_left n c.rows c.leaders x (d.posts.leader x).at
      ≡ cycles_left n c.rows c.leaders x (c.posts.leader x).at =
      λ x. ap (cycles_left n c.rows c.leaders x) (at x) in
      leader_falls c d p en.0 en.1.going
      (λ x xl. leader_le c d x (λ e. halts x ∙ e) (
      let m = one_most (not ((d.posts.leader x).seen == d.posts.fire)) in
      let a = each x in
      let b = cycles x in
      omega (arith, fewer, m, a, b)))
      (leader_less c d p en.1.going (
      let m = one_most (not ((d.posts.leader p).seen == d.posts.fire)) in
      let b = cycles p in
      omega (arith, fewer, m, mine, was, b)))
      (λ q ql. omega arith)
      (λ q x ql xl.
      let same : sight_left n d q x ≡ sight_left n c q x =
      put_keeps (λ (z : Leader).
      (c.rows - z.at) + one_if (not z.halted) + one_if (differs (sight (c.posts.lagger q) x) (present z)))
      p new c.posts.leader x refl in
      omega (arith, same))

  see_fire_falls : (c : Config S V) (p : ℕ) → Enabled n c (see_fire p) → left n (after n c (see_fire p)) < left n c
  see_fire_falls c p en =
      let d : Config S V = after n c (see_fire p) in
      let new : Leader = record (c.posts.leader p) { seen = c.posts.fire } in
      let reports : (x : ℕ) → (d.posts.leader x).reported ≡ (c.posts.leader x).reported =
      λ x. put_keeps (λ (z : Leader). z.reported) p new c.posts.leader x refl in
      let all : unreported n d ≡ unreported n c = ap (total n.parts) (λ i x. one_if (not (reports x i))) in
      let first : (x : ℕ) → one_if (not (d.posts.leader x).reported) ≡ one_if (not (c.posts.leader x).reported) =
      λ x. ap (λ (b : Bool). one_if (not b)) (reports x) in
      let halts : (x : ℕ) → (d.posts.leader x).halted ≡ (c.posts.leader x).halted = λ x.
      put_keeps (λ (z : Leader). z.halted) p new c.posts.leader x refl in
      let cycles : (x : ℕ) → cycles_left n c.rows c.leaders x (d.posts.leader x).at
      ≡ cycles_left n c.rows c.leaders x (c.posts.leader x).at =
      λ x. ap (cycles_left n c.rows c.leaders x) (put_keeps (λ (z : Leader). z.at) p new c.posts.leader x refl) in
      let same : (k : ℕ) → k ≡ c.posts.fire → one_if (not (k == c.posts.fire)) ≡ 0 =
      λ k e. ap (λ (b : Bool). one_if (not b)) (eq-eqb k c.posts.fire e) in
      leader_falls c d p en.0 en.1.going
      (λ x xl. leader_le c d x (λ e. halts x ∙ e) (
      let u = first x in
      let b = cycles x in
      let w : one_if (not ((d.posts.leader x).seen == c.posts.fire))
      ≤ one_if (not ((c.posts.leader x).seen == c.posts.fire)) =
      put_cases (λ (z : Leader).
      one_if (not (z.seen == c.posts.fire)) ≤ one_if (not ((c.posts.leader x).seen == c.posts.fire))) p new
      c.posts.leader x
      (λ _. let z = same c.posts.fire refl in omega (arith, z)) (λ _. omega arith) in
      omega (arith, all, u, b, w)))
      (leader_less c d p en.1.going (
      let u = first p in
      let b = cycles p in
      let z = same (d.posts.leader p).seen (ap (λ (y : Leader). y.seen) (put_same p new c.posts.leader)) in
      let w : one_if (not ((c.posts.leader p).seen == c.posts.fire)) ≡ 1 =
      ap (λ (b : Bool). one_if (not b)) (ne_eqb (c.posts.leader p).seen c.posts.fire (λ e. en.2 (sym e))) in
      omega (arith, all, u, b, z, w)))
      (λ q ql. omega arith)
      (λ q x ql xl.
      let same : sight_left n d q x ≡ sight_left n c q x =
      put_keeps (λ (z : Leader).
      (c.rows - z.at) + one_if (not z.halted) + one_if (differs (sight (c.posts.lagger q) x) (present z)))
      p new c.posts.leader x refl in
      omega (arith, same))

  see_falls : (c : Config S V) (q p : ℕ) → Holds n r c → Enabled n c (see q p) → left n (after n c (see q p)) < left n c
  see_falls c q p old en =
      let d : Config S V = after n c (see q p) in
      let new : Lagger = with_sight p (present (c.posts.leader p)) (c.posts.lagger q) in
      let now : one_if (differs (sight (d.posts.lagger q) p) (present (c.posts.leader p))) ≡ 0 =
      ap (λ (s : Sight). one_if (differs s (present (c.posts.leader p))))
      (sees_here (course n r c) c.posts q p old.posts en.0 en.1)
      ∙ ap one_if (no_difference (present (c.posts.leader p))) in
      let was : one_if (differs (sight (c.posts.lagger q) p) (present (c.posts.leader p))) ≡ 1 =
      ap one_if (some_difference (sight (c.posts.lagger q) p) (present (c.posts.leader p)) en.2) in
      let strict : sight_left n d q p < sight_left n c q p = omega (arith, now, was) in
      let other : (x y : ℕ) → (x ≡ q → y ≢ p) → sight_left n d x y ≤ sight_left n c x y = λ x y o.
      let e : one_if (differs (sight (d.posts.lagger x) y) (present (c.posts.leader y)))
      ≡ one_if (differs (sight (c.posts.lagger x) y) (present (c.posts.leader y))) =
      ap (λ (s : Sight). one_if (differs s (present (c.posts.leader y))))
      (sees_there (course n r c) c.posts q p x y o) in
      omega (arith, e) in
      let a = sights_less c d q p en.0 en.1 strict (λ x y xl yl. ⊎_elim
      (λ (f : y ≡ p). ⊎_elim
      (λ (e : x ≡ q). let s : sight_left n d x y < sight_left n c x y =
      subst (λ (z : ℕ × ℕ). sight_left n d z.0 z.1 < sight_left n c z.0 z.1) (λ i. (sym e i, sym f i)) strict in
      omega (arith, s))
      (λ (ne : x ≢ q). other x y (λ e. absurd (ne e))) (cases_eq x q))
      (λ (ne : y ≢ p). other x y (λ _. ne)) (cases_eq y p)) in
      let b = total_le n.parts (lagger_left n d) (lagger_left n c) (λ x xl.
      let e : cycles_left n c.rows c.laggers x (d.posts.lagger x).at
      ≡ cycles_left n c.rows c.laggers x (c.posts.lagger x).at =
      ap (cycles_left n c.rows c.laggers x) (put_keeps (λ (z : Lagger). z.at) q new c.posts.lagger x refl) in
      omega (arith, e)) in
      let t : total n.parts (leader_left n d) ≤ total n.parts (leader_left n c) = omega arith in
      omega (arith, a, b, t)

  -- ---- every event

  pub event_falls : (c : Config S V) (e : Event) → Holds n r c → Enabled n c e → left n (after n c e) < left n c
  event_falls c (take leading ch) old en = leaders_fall c (after_take n ch c.leaders) (n.to ch)
      (shape.to ch en.1.there) en.0.going
      (take_lower n shape c.rows (position leading c) c.leaders ch (take_rests n r shape leading c ch old en))
  event_falls c (take lagging ch) old en = laggers_fall c (after_take n ch c.laggers) (n.to ch) (shape.to ch en.1.there)
      (take_lower n shape c.rows (position lagging c) c.laggers ch (take_rests n r shape lagging c ch old en))
  event_falls c (evaluate leading p) old en = leaders_fall c
      (after_evaluate n p (c.posts.leader p).at c.leaders) p en.1.there en.0.going
      (evaluate_lower n shape c.rows (position leading c) c.leaders p (evaluate_rests n r shape leading c p old en))
  event_falls c (evaluate lagging q) old en = laggers_fall c
      (after_evaluate n q (c.posts.lagger q).at c.laggers) q en.1.there
      (evaluate_lower n shape c.rows (position lagging c) c.laggers q (evaluate_rests n r shape lagging c q old en))
  event_falls c (give leading ch) old en =
      leaders_fall c (after_give n ch (c.posts.leader (n.from ch)).at c.leaders) (n.from ch)
      (shape.from ch en.2.there) en.0.going
      (give_lower n shape c.rows (position leading c) c.leaders ch en.2
      (small_evaluated leading c (n.from ch) old (shape.from ch en.2.there) en.2.evaluated))
  event_falls c (give lagging ch) old en =
      laggers_fall c (after_give n ch (c.posts.lagger (n.from ch)).at c.laggers) (n.from ch) (shape.from ch en.2.there)
      (give_lower n shape c.rows (position lagging c) c.laggers ch en.2
      (small_evaluated lagging c (n.from ch) old (shape.from ch en.2.there) en.2.evaluated))
  event_falls c (raise p) old en = raise_falls c p old en
  event_falls c (halt p) old en = halt_falls c p en
  event_falls c (fire p) old en = fire_falls c p en
  event_falls c (see q p) old en = see_falls c q p old en
  event_falls c (lag_raise q) old en = lag_raise_falls c q old en
  event_falls c (see_fire p) old en = see_fire_falls c p en
