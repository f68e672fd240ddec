-- Lists of steps: what holds after them, the pieces of a cut, and how long a list may be.
use Rattle.std.proofs.Common.{◌≡◌, ◌≢◌, ℕ, zero, suc, ◌+◌, ◌*◌, ◌<◌, ◌≤◌, ◌==◌, Bool, true, false, List, [], ◌∷◌}
use Rattle.std.proofs.Common.{length}
use Rattle.std.proofs.Common.{refl, sym, ap, ◌∙◌, subst, ⊎_elim, arith, eq-eqb}
use Rattle.std.proofs.lemmas.Bool.{ne_eqb, cases_eq}
use Rattle.token_net.specs.Families.{one_if, put}
use Rattle.token_net.specs.Shape.{Shape, IsShape, Run, IsRun}
use Rattle.token_net.specs.Posts.{most_rows}
use Rattle.token_net.specs.Posts.{with_sight}
use Rattle.token_net.specs.Posts.{Lagger, present}
use Rattle.token_net.specs.Network.{leading, lagging, Config, Event, after, start}
use Rattle.token_net.specs.Network.{take, evaluate, give, raise, halt, fire, see, lag_raise, see_fire}
use Rattle.token_net.specs.Holds.{Holds}
use Rattle.token_net.specs.Left.{left}
use Rattle.token_net.specs.Extension.{Step, event, extension, extensions, raises_event, raises, extended, MayStep}
use Rattle.token_net.specs.Extension.{after_step, Leads, piece}
use Rattle.token_net.specs.Laws.{for_rows, for_none, IsCut, Laws}
use Rattle.token_net.proofs.Places.{put_same, put_other, put_keeps}
use Rattle.token_net.proofs.PostsKeep.{within_lag, extended_lagger_at}
use Rattle.token_net.proofs.NetworkKeeps.{keeps_event, keeps_extension, start_holds}
use Rattle.token_net.proofs.NeverStuck.{true_or_false, goes_or_is_finished, rests_where_finished}
use Rattle.token_net.proofs.Falls.{event_falls}
use Rattle.token_net.proofs.PostsEnd.{posts_end}
use Rattle.token_net.proofs.LeftAt.{left_at_start, left_extends}
use Rattle.token_net.specs.Holds.{course}

module _ {S V : Type 0} (n : Shape S V) (r : Run S V) (shape : IsShape n) where
  -- ---- rows and runs

  rows_stay : (c : Config S V) (e : Event) → (after n c e).rows ≡ c.rows
  rows_stay c (take leading ch) = refl
  rows_stay c (take lagging ch) = refl
  rows_stay c (evaluate leading p) = refl
  rows_stay c (evaluate lagging p) = refl
  rows_stay c (give leading ch) = refl
  rows_stay c (give lagging ch) = refl
  rows_stay c (raise p) = refl
  rows_stay c (halt p) = refl
  rows_stay c (fire p) = refl
  rows_stay c (see q p) = refl
  rows_stay c (lag_raise q) = refl
  rows_stay c (see_fire p) = refl

  rows_grow : (steps : List Step) (c d : Config S V) → Leads n steps c d → c.rows ≤ d.rows
  rows_grow [] c d e = let a = ap (λ (x : Config S V). x.rows) e in omega (arith, a)
  rows_grow (event e ∷ steps) c d l = let a = rows_grow steps (after n c e) d l.1 in let b = rows_stay c e in
      omega (arith, a, b)
  rows_grow (extension k ∷ steps) c d l = let a = rows_grow steps (extended n k c) d l.1 in omega (arith, a)

  fewer_rows : (a b : ℕ) → a ≤ b → IsRun n b r → IsRun n a r
  fewer_rows a b l is = record {
    next = λ p t copy pl tl same. is.next p t copy pl (omega (arith, l, tl)) same;
    fires = λ p t copy pl tl same. is.fires p t copy pl (omega (arith, l, tl)) same;
    send = λ ch t cl tl. is.send ch t cl (omega (arith, l, tl));
  }

  -- ---- what holds

  keeps_step : (c : Config S V) (s : Step) → IsRun n c.rows r → Holds n r c → MayStep n c s
      → Holds n r (after_step n c s)
  keeps_step c (event e) is old may = keeps_event n r shape c e is old may
  keeps_step c (extension k) is old may = keeps_extension n r shape c k old

  keeps_steps : (steps : List Step) (c d : Config S V) → Holds n r c → Leads n steps c d → IsRun n d.rows r
      → Holds n r d
  keeps_steps [] c d old e is = subst (Holds n r) e old
  keeps_steps (s ∷ steps) c d old l is =
      keeps_steps steps (after_step n c s) d
      (keeps_step c s (fewer_rows c.rows d.rows (rows_grow (s ∷ steps) c d l) is) old l.0) l.1 is

  -- ---- pieces

  lagger_after : (c : Config S V) (e : Event) (q : ℕ)
      → ((after n c e).posts.lagger q).at ≡ (c.posts.lagger q).at + one_if (raises_event q e)
  lagger_after c (take leading ch) q = omega arith
  lagger_after c (take lagging ch) q = omega arith
  lagger_after c (evaluate leading p) q = omega arith
  lagger_after c (evaluate lagging p) q = omega arith
  lagger_after c (give leading ch) q = omega arith
  lagger_after c (give lagging ch) q = omega arith
  lagger_after c (raise p) q = omega arith
  lagger_after c (halt p) q = omega arith
  lagger_after c (fire p) q = omega arith
  lagger_after c (see x p) q =
      let new : Lagger = with_sight p (present (c.posts.leader p)) (c.posts.lagger x) in
      let a = put_keeps (λ (z : Lagger). z.at) x new c.posts.lagger q refl in
      omega (arith, a)
  lagger_after c (lag_raise x) q =
      let new : Lagger = record (c.posts.lagger x) { at = (c.posts.lagger x).at + 1 } in
      ⊎_elim
      (λ (e : q ≡ x).
      let a : (put x new c.posts.lagger q).at ≡ (c.posts.lagger x).at + 1 =
      ap (λ (y : ℕ). (put x new c.posts.lagger y).at) e ∙ ap (λ (z : Lagger). z.at) (put_same x new c.posts.lagger) in
      let b : (c.posts.lagger q).at ≡ (c.posts.lagger x).at = ap (λ (y : ℕ). (c.posts.lagger y).at) e in
      let t : one_if (x == q) ≡ 1 = ap one_if (eq-eqb x q (sym e)) in
      omega (arith, a, b, t))
      (λ (ne : q ≢ x).
      let a : (put x new c.posts.lagger q).at ≡ (c.posts.lagger q).at =
      ap (λ (z : Lagger). z.at) (put_other x new c.posts.lagger q ne) in
      let t : one_if (x == q) ≡ 0 = ap one_if (ne_eqb x q (λ e. ne (sym e))) in
      omega (arith, a, t))
      (cases_eq q x)
  lagger_after c (see_fire p) q = omega arith

  lagger_after_step : (c : Config S V) (s : Step) (q : ℕ)
      → ((after_step n c s).posts.lagger q).at ≡ (c.posts.lagger q).at + one_if (raises q s)
  lagger_after_step c (event e) q = lagger_after c e q
  lagger_after_step c (extension k) q = let e = extended_lagger_at n.parts c.posts q in omega (arith, e)

  -- a piece is the run's state at the position that the lagger had then
  piece_is : (steps : List Step) (c d : Config S V) (q k : ℕ) → Holds n r c → Leads n steps c d → IsRun n d.rows r
      → q < n.parts
      → (c.posts.lagger q).at + k ≤ (d.posts.lagger q).at → piece n c steps q k ≡ r.part q ((c.posts.lagger q).at + k)
  piece_is [] c d q zero old e is l b = (old.laggers.part q l).own ∙ ap (r.part q) (omega arith)
  piece_is [] c d q (suc k) old e is l b = absurd
      (let s : (c.posts.lagger q).at ≡ (d.posts.lagger q).at = ap (λ (x : Config S V). (x.posts.lagger q).at) e in
      omega (arith, b, s))
  piece_is (s ∷ steps) c d q zero old e is l b = (old.laggers.part q l).own ∙ ap (r.part q) (omega arith)
  piece_is (s ∷ steps) c d q (suc k) old e is l b =
      let next : Config S V = after_step n c s in
      let new = keeps_step c s (fewer_rows c.rows d.rows (rows_grow (s ∷ steps) c d e) is) old e.0 in
      let at = lagger_after_step c s q in
      ⊎_elim
      (λ (t : raises q s ≡ true).
      let a : (next.posts.lagger q).at ≡ (c.posts.lagger q).at + 1 =
      at ∙ ap (λ (x : Bool). (c.posts.lagger q).at + one_if x) t in
      rw t (piece_is steps next d q k new e.1 is l (omega (arith, a, b)) ∙ ap (r.part q) (omega (arith, a))))
      (λ (f : raises q s ≡ false).
      let a : (next.posts.lagger q).at ≡ (c.posts.lagger q).at + 0 =
      at ∙ ap (λ (x : Bool). (c.posts.lagger q).at + one_if x) f in
      rw f (piece_is steps next d q (suc k) new e.1 is l (omega (arith, a, b)) ∙ ap (r.part q) (omega (arith, a))))
      (true_or_false (raises q s))

  pub cuts : (rows : ℕ) (steps : List Step) (d : Config S V) → Leads n steps (start n r rows) d → IsRun n d.rows r
      → IsCut n r steps (start n r rows) d
  cuts rows steps d l is =
      let c : Config S V = start n r rows in
      let old = start_holds n r shape rows in
      let new = keeps_steps steps c d old l is in
      record {
        holds = new;
        pieces = λ k reached q ql.
            piece_is steps c d q k old l is ql (let b = reached q ql in omega (arith, b)) ∙ ap (r.part q) (omega arith);
        lag = λ q p ql pl. within_lag (d.posts.lagger q).at (d.posts.leader p).at n.lag (new.posts.lag q p ql pl);
      }

  -- ---- how long a list is

  length_most : (steps : List Step) (c d : Config S V) → Holds n r c → Leads n steps c d → IsRun n d.rows r
      → d.rows ≤ most_rows
      → length steps + left n d + for_rows n c.rows ≤ left n c + for_rows n d.rows + extensions steps * for_none n
      + extensions steps
  length_most [] c d old e is few =
      let a = ap (left n) e in let b = ap (λ (x : Config S V). for_rows n x.rows) e in omega (arith, a, b)
  length_most (event e ∷ steps) c d old l is few =
      let new = keeps_step c (event e) (fewer_rows c.rows d.rows (rows_grow (event e ∷ steps) c d l) is) old l.0 in
      let a = length_most steps (after n c e) d new l.1 is few in
      let b = event_falls n r shape c e old l.0 in
      let f = ap (for_rows n) (rows_stay c e) in
      omega (arith, a, b, f)
  length_most (extension k ∷ steps) c d old l is few =
      let grow = rows_grow (extension k ∷ steps) c d l in
      let new = keeps_extension n r shape c k old in
      let a = length_most steps (extended n k c) d new l.1 is few in
      let b = left_extends n r shape c (omega (arith, grow, few)) old l.0 k in
      omega (arith, a, b)

  pub most_steps : (rows : ℕ) (steps : List Step) (d : Config S V) → Leads n steps (start n r rows) d
      → IsRun n d.rows r → d.rows ≤ most_rows
      → length steps ≤ for_rows n d.rows + (extensions steps + 1) * for_none n + extensions steps
  most_steps rows steps d l is few =
      let a = length_most steps (start n r rows) d (start_holds n r shape rows) l is few in
      let b = left_at_start n r shape rows in
      omega (arith, a, b)

pub laws : {S V : Type 0} (n : Shape S V) → Laws n
laws n = record {
  begins = λ r rows shape. (start_holds n r shape rows, left_at_start n r shape rows);
  keeps = λ r c e shape is old en. keeps_event n r shape c e is old en;
  cut = λ r rows steps d shape l is. cuts n r shape rows steps d l is;
  goes = λ r c shape old. goes_or_is_finished n r shape c old;
  rests = λ r c e shape old done en. rests_where_finished n r shape c old done e en;
  falls = λ r c e shape old en. event_falls n r shape c e old en;
  most = λ r rows steps d shape l is few. most_steps n r shape rows steps d l is few;
  end = λ r c shape few old done. posts_end (course n r c) c.posts shape.some few old done;
  extends = λ r c k shape few old may. record {
    holds = keeps_extension n r shape c k old;
    more = left_extends n r shape c few old may k;
  };
}
