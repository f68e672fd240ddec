-- Each step keeps the rule of a channel's tokens.
use Rattle.std.proofs.Common.{◌≡◌, ◌≢◌, ℕ, zero, suc, ◌+◌, ◌<◌, true, true≢false, List, [], ◌∷◌, ◌++◌, length, set}
use Rattle.std.proofs.Common.{refl, sym, ap, ◌∙◌, subst, ⊎_elim, arith}
use Rattle.std.proofs.lemmas.List.{length-append}
use mathlib.Core.Option.{some}
use lib.ListN.{get_elem?}
use Rattle.crossbeam_queue.specs.Fifo.{Pushes, Pops, Forks, Merges, Learns}
use Rattle.atomic_table.proofs.Lists.{at_set, set_again}
use Rattle.named_run.specs.Named.{token_of}
use Rattle.named_run.specs.declared.token.Token.{Token}
use Rattle.token_chan.specs.Names.{Name, no_name}
use Rattle.token_chan.specs.TokenRule.{tokens, giver_view, taker_view, whole_view, joined_view, idle_view, Fits, Holds}
use Rattle.token_chan.specs.TokenRule.{names, gives, takes, full_then, empty_then, counted, stands}
use Rattle.token_chan.specs.declared.view.TokenView.{TokenView}
use Rattle.token_chan.proofs.Views.{All, all_set, all_more, all_first}

-- a pass that neither gives nor takes fits anything
idle_fits : (giver taker given taken : ℕ) (x : Name) (j : ℕ) → Fits giver taker given taken x j idle_view
idle_fits giver taker given taken x j = record { gives = λ p. absurd (true≢false (sym p)); takes = λ p. absurd (true≢false (sym p)) }

pub begins : Holds [] (whole_view no_name 0 0 ∷ [])
begins = record {
  giver = 0;
  taker = 0;
  given = 0;
  taken = 0;
  name = no_name;
  fits = all_first (Fits 0 0 0 0 no_name) (whole_view no_name 0 0) record { gives = λ _. (refl, refl, omega arith, refl); takes = λ _. (refl, refl, omega arith, refl) };
  count = refl;
  in_order = refl;
  room = omega arith;
}

-- one more token at the end
tokens_more : (x : Name) (a n : ℕ) → tokens x a n ++ token_of x.run x.channel (a + n) ∷ [] ≡ tokens x a (suc n)
tokens_more x a zero = ap (λ (k : ℕ). token_of x.run x.channel k ∷ []) (omega arith)
tokens_more x a (suc n) = ap (λ (l : List Token). token_of x.run x.channel a ∷ l)
    (ap (λ (k : ℕ). tokens x (suc a) n ++ token_of x.run x.channel k ∷ []) (omega arith) ∙ tokens_more x (suc a) n)

empty : (items : List Token) → length items ≡ 0 → items ≡ []
empty [] e = refl
empty (x ∷ xs) e = absurd (omega (arith, e))

abbrev head_or : Token → List Token → Token
head_or d [] = d
head_or d (x ∷ xs) = x

abbrev tail_of : List Token → List Token
tail_of [] = []
tail_of (x ∷ xs) = xs

-- the giver gives the next token
pub sends : (n id : ℕ) (v : TokenView) (t : Token) → v.gives ≡ true → v.name.depth ≡ n → t ≡ token_of v.name.run v.name.channel v.given
    → Pushes Holds n id v t (gives v t)
sends n id v t may deep is items views small h at =
    let mine = h.fits id v at in let m = mine.gives may in
    let w : TokenView = record {
      gives = v.gives;
      takes = v.takes;
      name = v.name;
      given = v.given + 1;
      taken = v.taken;
      knows_given = v.knows_given;
      knows_taken = h.taken;
    } in
    let more : length (items ++ t ∷ []) ≡ suc (length items) = (let l = length-append items (t ∷ []) in omega (arith, l)) in
    let count = h.count in
    let next : t ≡ token_of h.name.run h.name.channel (h.taken + length items) =
    is ∙ (λ i. token_of (m.3 i).run (m.3 i).channel ((m.1 ∙ sym count) i)) in (
      w,
      record {
        giver = h.giver;
        taker = h.taker;
        given = h.given + 1;
        taken = h.taken;
        name = h.name;
        fits = all_set (Fits h.giver h.taker h.given h.taken h.name) (Fits h.giver h.taker (h.given + 1) h.taken h.name) views id w h.fits
            record {
              gives = λ _. (m.0, (let a = m.1 in omega (arith, a)), omega arith, m.3);
              takes = λ p. let k = mine.takes p in (k.0, k.1, (let a = k.2 in omega (arith, a)), k.3);
            }
            (λ j u other f. record {
              gives = λ p. absurd (other ((f.gives p).0 ∙ sym m.0));
              takes = λ p. let k = f.takes p in (k.0, k.1, (let a = k.2 in omega (arith, a)), k.3);
            });
        count = omega (arith, more, count);
        in_order = (λ i. h.in_order i ++ next i ∷ []) ∙ tokens_more h.name h.taken (length items) ∙ ap (tokens h.name h.taken) (sym more);
        room = (let d : h.name.depth ≡ n = ap (λ (x : Name). x.depth) (sym m.3) ∙ deep in omega (arith, more, small, d));
      },
      (h.taken, m.2, refl),
    )

-- where the channel is full, as the giver knows it
pub learns_full : (id : ℕ) (v : TokenView) → v.gives ≡ true → Learns Holds id v (full_then v)
learns_full id v may items views h at =
    let m = (h.fits id v at).gives may in
    let a = m.1 in let c = h.count in (h.taken, m.2, omega (arith, a, c))

-- the first push names the channel
pub starts : (x : Name) (n id : ℕ) (v : TokenView) (t : Token) → v ≡ whole_view no_name 0 0 → 0 < n → x.depth ≡ n → t ≡ token_of x.run x.channel t.cycle
    → Pushes Holds n id v t (names x v t)
starts x n id v t is deep_enough deep first items views small h at =
    let w : TokenView = whole_view x (t.cycle + 1) t.cycle in
    let mine = h.fits id v at in
    let g = mine.gives (ap (λ (y : TokenView). y.gives) is) in let k = mine.takes (ap (λ (y : TokenView). y.takes) is) in
    let none_given : h.given ≡ 0 = sym g.1 ∙ ap (λ (y : TokenView). y.given) is in
    let c = h.count in
    let bare : items ≡ [] = empty items (omega (arith, c, none_given)) in
    let one : length (items ++ t ∷ []) ≡ 1 = ap (λ (l : List Token). length (l ++ t ∷ [])) bare in (
      w,
      record {
        giver = h.giver;
        taker = h.taker;
        given = t.cycle + 1;
        taken = t.cycle;
        name = x;
        fits = all_set (Fits h.giver h.taker h.given h.taken h.name) (Fits h.giver h.taker (t.cycle + 1) t.cycle x) views id w h.fits
            record { gives = λ _. (g.0, refl, omega arith, refl); takes = λ _. (k.0, refl, omega arith, refl) }
            (λ j u other f. record { gives = λ p. absurd (other ((f.gives p).0 ∙ sym g.0)); takes = λ p. absurd (other ((f.takes p).0 ∙ sym k.0)) });
        count = omega (arith, one);
        in_order = (λ i. bare i ++ first i ∷ []) ∙ ap (tokens x t.cycle) (sym one);
        room = omega (arith, one, deep_enough, deep);
      },
      refl,
    )

-- one pass that gives and takes knows how many tokens there are
pub learns_count : (id : ℕ) (v : TokenView) → v.gives ≡ true → v.takes ≡ true → Learns Holds id v (counted v)
learns_count id v a b items views h at =
    let mine = h.fits id v at in let g = (mine.gives a).1 in let k = (mine.takes b).1 in let c = h.count in omega (arith, g, k, c)

-- and how many at most, and that it knew no more than was so
pub learns_all : (id : ℕ) (v : TokenView) → v.gives ≡ true → v.takes ≡ true → Learns Holds id v (stands v)
learns_all id v a b items views h at =
    let mine = h.fits id v at in let g = mine.gives a in let k = mine.takes b in
    let d : v.name.depth ≡ h.name.depth = ap (λ (x : Name). x.depth) g.3 in
    let room = h.room in let given = g.1 in let taken = k.1 in let knows_taken = g.2 in let knows_given = k.2 in (
      learns_count id v a b items views h at,
      omega (arith, room, d),
      omega (arith, knows_taken, taken),
      omega (arith, knows_given, given),
    )

-- the taker takes the oldest token
pub receives : (id : ℕ) (v : TokenView) → v.takes ≡ true → Pops Holds id v (takes v)
receives id v may t items views h at =
    let mine = h.fits id v at in let m = mine.takes may in
    let w : TokenView = record {
      gives = v.gives;
      takes = v.takes;
      name = v.name;
      given = v.given;
      taken = v.taken + 1;
      knows_given = h.given;
      knows_taken = v.knows_taken;
    } in
    let count = h.count in let room = h.room in
    let next : suc h.taken ≡ h.taken + 1 = omega arith in (
      w,
      record {
        giver = h.giver;
        taker = h.taker;
        given = h.given;
        taken = h.taken + 1;
        name = h.name;
        fits = all_set (Fits h.giver h.taker h.given h.taken h.name) (Fits h.giver h.taker h.given (h.taken + 1) h.name) views id w h.fits
            record {
              gives = λ p. let k = mine.gives p in (k.0, k.1, (let a = k.2 in omega (arith, a)), k.3);
              takes = λ _. (m.0, (let a = m.1 in omega (arith, a)), omega arith, m.3);
            }
            (λ j u other f. record {
              gives = λ p. let k = f.gives p in (k.0, k.1, (let a = k.2 in omega (arith, a)), k.3);
              takes = λ p. absurd (other ((f.takes p).0 ∙ sym m.0));
            });
        count = omega (arith, count);
        in_order = ap (λ (l : List Token). tail_of l) h.in_order ∙ ap (λ (k : ℕ). tokens h.name k (length items)) next;
        room = omega (arith, room);
      },
      (
        ap (λ (l : List Token). head_or t l) h.in_order ∙ (λ i. token_of (sym m.3 i).run (sym m.3 i).channel (sym m.1 i)),
        (λ p. let k = (mine.gives p).1 in let a = m.1 in omega (arith, k, a, count)),
        (h.given, m.2, refl),
      ),
    )

-- where the channel is empty, as the taker knows it
pub learns_empty : (id : ℕ) (v : TokenView) → v.takes ≡ true → Learns Holds id v (empty_then v)
learns_empty id v may items views h at =
    let m = (h.fits id v at).takes may in let a = m.1 in let c = h.count in (h.given, m.2, omega (arith, a, c))

-- ---- passes

-- the two ends get a pass each
pub parts : (id : ℕ) (v : TokenView) → v.gives ≡ true → v.takes ≡ true → Forks Holds id v (giver_view v.name v.given v.taken) (taker_view v.name v.taken v.given)
parts id v a b items views h at =
    let l : TokenView = giver_view v.name v.given v.taken in let r : TokenView = taker_view v.name v.taken v.given in
    let mine = h.fits id v at in let g = mine.gives a in let k = mine.takes b in
    let vs : List TokenView = set views id l in
    let F : ℕ → TokenView → Type 0 = Fits h.giver (length vs) h.given h.taken h.name in
    let old : All F vs = all_set (Fits h.giver h.taker h.given h.taken h.name) F views id l h.fits
    record { gives = λ _. (g.0, g.1, (let c = k.1 in omega (arith, c)), g.3); takes = λ p. absurd (true≢false (sym p)) }
    (λ j u other f. record { gives = f.gives; takes = λ p. absurd (other ((f.takes p).0 ∙ sym k.0)) }) in
    record {
      giver = h.giver;
      taker = length vs;
      given = h.given;
      taken = h.taken;
      name = h.name;
      fits = all_more F vs r old record { gives = λ p. absurd (true≢false (sym p)); takes = λ _. (refl, k.1, (let c = g.1 in omega (arith, c)), k.3) };
      count = h.count;
      in_order = h.in_order;
      room = h.room;
    }

-- a pass that knows nothing is cut off
pub idles : (id : ℕ) (v : TokenView) → Forks Holds id v v idle_view
idles id v items views h at =
    let same : set views id v ≡ views = set_again views id v at in
    let F : ℕ → TokenView → Type 0 = Fits h.giver h.taker h.given h.taken h.name in
    record {
      giver = h.giver;
      taker = h.taker;
      given = h.given;
      taken = h.taken;
      name = h.name;
      fits = all_more F (set views id v) idle_view (subst (All F) (sym same) h.fits) (idle_fits h.giver h.taker h.given h.taken h.name (length (set views id v)));
      count = h.count;
      in_order = h.in_order;
      room = h.room;
    }

-- the giver's pass takes in the taker's
pub merges : (id : ℕ) (v : TokenView) (other : ℕ) (u : TokenView) → v.gives ≡ true → u.takes ≡ true
    → Merges Holds id v other u (joined_view v.name v.given u.taken u.knows_given v.knows_taken) idle_view
merges id v other u a b items views h at two at' =
    let w : TokenView = joined_view v.name v.given u.taken u.knows_given v.knows_taken in
    let g = (h.fits id v at).gives a in let vs : List TokenView = set views id w in
    let was : get_elem? views other ≡ some u = ⊎_elim (λ (x : (other ≡ id) × (w ≡ u)). absurd (two x.0)) (λ (x : (other ≢ id) × (get_elem? views other ≡ some u)). x.1) (at_set views id other w u at') in
    let k = (h.fits other u was).takes b in
    let F : ℕ → TokenView → Type 0 = Fits h.giver h.taker h.given h.taken h.name in
    let G : ℕ → TokenView → Type 0 = Fits h.giver id h.given h.taken h.name in
    let Now : ℕ → TokenView → Type 0 = λ j y. j ≢ other → G j y in
    let now : All Now vs = all_set F Now views id w h.fits
    (λ _. record { gives = λ _. g; takes = λ _. (refl, k.1, k.2, g.3) })
    (λ j y _ f apart. record { gives = f.gives; takes = λ p. absurd (apart ((f.takes p).0 ∙ sym k.0)) }) in
    record {
      giver = h.giver;
      taker = id;
      given = h.given;
      taken = h.taken;
      name = h.name;
      fits = all_set Now G vs other idle_view now (idle_fits h.giver id h.given h.taken h.name other) (λ j y apart f. f apart);
      count = h.count;
      in_order = h.in_order;
      room = h.room;
    }
