-- Each step keeps the rule of a channel's returned tokens.
use Rattle.std.proofs.Common.{◌≡◌, ◌≢◌, ℕ, ◌+◌, true, true≢false, List, [], ◌∷◌, ◌++◌, length, set, append_assoc}
use Rattle.std.proofs.Common.{refl, sym, ap, ◌∙◌, subst, ⊎_elim, arith}
use Rattle.std.proofs.lemmas.List.{length-append}
use mathlib.Core.Option.{some}
use lib.ListN.{get_elem?}
use Rattle.crossbeam_queue.specs.Fifo.{Pushes, Pops, Forks, Merges, Learns}
use Rattle.atomic_table.proofs.Lists.{at_set, set_again}
use Rattle.named_run.specs.Named.{HasShape}
use Rattle.named_run.specs.declared.token.Token.{Token}
use Rattle.token_chan.specs.Names.{Name, no_name}
use Rattle.token_chan.specs.ReturnRule.{AreShaped, giver_return_view, taker_return_view, both_view, idle_return, ReturnFits, ReturnsHold}
use Rattle.token_chan.specs.ReturnRule.{hands_back, reuses, no_room_then, none_returned_then, returns_stand, IsFilled}
use Rattle.token_chan.specs.declared.view.ReturnView.{ReturnView}
use Rattle.token_chan.proofs.Views.{All, all_set, all_more, all_first}

-- a pass that neither reuses nor hands_back fits anything
idle_fits : (giver taker : ℕ) (reused returned : List Token) (x : Name) (j : ℕ) → ReturnFits giver taker reused returned x j idle_return
idle_fits giver taker reused returned x j = record { reuses = λ p. absurd (true≢false (sym p)); hands_back = λ p. absurd (true≢false (sym p)) }

pub begins : ReturnsHold [] (both_view no_name [] [] 0 0 ∷ [])
begins = record {
  giver = 0;
  taker = 0;
  reused = [];
  returned = [];
  name = no_name;
  fits = all_first (ReturnFits 0 0 [] [] no_name) (both_view no_name [] [] 0 0)
      record { reuses = λ _. (refl, refl, omega arith, refl); hands_back = λ _. (refl, refl, omega arith, refl) };
  in_order = refl;
  room = omega arith;
  shaped = tt;
}

shaped_more : (x : Name) (ts : List Token) (t : Token) → AreShaped x ts → HasShape x.run x.channel t → AreShaped x (ts ++ t ∷ [])
shaped_more x [] t old new = (new, tt)
shaped_more x (y ∷ ys) t old new = (old.0, shaped_more x ys t old.1 new)

-- as many are returned as are reused and held
counts : (reused items returned : List Token) → reused ++ items ≡ returned → length reused + length items ≡ length returned
counts reused items returned e = sym (length-append reused items) ∙ ap (λ (l : List Token). length l) e

longer : (ts : List Token) (t : Token) → length (ts ++ t ∷ []) ≡ length ts + 1
longer ts t = length-append ts (t ∷ [])

-- ---- steps

-- a returned token is returned in
pub sends : (n id : ℕ) (v : ReturnView) (t : Token) → v.hands_back ≡ true → v.name.depth ≡ n → HasShape v.name.run v.name.channel t
    → Pushes ReturnsHold n id v t (hands_back v t)
sends n id v t may deep new items views small h at =
    let mine = h.fits id v at in let m = mine.hands_back may in
    let w : ReturnView = record {
      reuses = v.reuses;
      hands_back = v.hands_back;
      name = v.name;
      reused = v.reused;
      returned = v.returned ++ t ∷ [];
      knows_returned = v.knows_returned;
      knows_reused = length h.reused;
    } in
    let more : length (items ++ t ∷ []) ≡ length items + 1 = longer items t in
    let returned_more : length (h.returned ++ t ∷ []) ≡ length h.returned + 1 = longer h.returned t in (
      w,
      record {
        giver = h.giver;
        taker = h.taker;
        reused = h.reused;
        returned = h.returned ++ t ∷ [];
        name = h.name;
        fits = all_set (ReturnFits h.giver h.taker h.reused h.returned h.name) (ReturnFits h.giver h.taker h.reused (h.returned ++ t ∷ []) h.name) views id w h.fits
            record {
              reuses = λ p. let k = mine.reuses p in (k.0, k.1, (let a = k.2 in omega (arith, a, returned_more)), k.3);
              hands_back = λ _. (m.0, ap (λ (l : List Token). l ++ t ∷ []) m.1, omega arith, m.3);
            }
            (λ j u other f. record {
              reuses = λ p. let k = f.reuses p in (k.0, k.1, (let a = k.2 in omega (arith, a, returned_more)), k.3);
              hands_back = λ p. absurd (other ((f.hands_back p).0 ∙ sym m.0));
            });
        in_order = sym (append_assoc h.reused items (t ∷ [])) ∙ ap (λ (l : List Token). l ++ t ∷ []) h.in_order;
        room = (let d : h.name.depth ≡ n = ap (λ (x : Name). x.depth) (sym m.3) ∙ deep in omega (arith, more, small, d));
        shaped = shaped_more h.name items t h.shaped (subst (λ (x : Name). HasShape x.run x.channel t) m.3 new);
      },
      (length h.reused, m.2, refl),
    )

-- where there is no room, as the taker knows it
pub learns_no_room : (id : ℕ) (v : ReturnView) → v.hands_back ≡ true → Learns ReturnsHold id v (no_room_then v)
learns_no_room id v may items views h at =
    let m = (h.fits id v at).hands_back may in
    (length h.reused, m.2, counts h.reused items h.returned h.in_order ∙ ap (λ (l : List Token). length l) (sym m.1))

-- the oldest returned token is reused out
pub takes : (id : ℕ) (v : ReturnView) → v.reuses ≡ true → Pops ReturnsHold id v (reuses v)
takes id v may t items views h at =
    let mine = h.fits id v at in let m = mine.reuses may in
    let w : ReturnView = record {
      reuses = v.reuses;
      hands_back = v.hands_back;
      name = v.name;
      reused = v.reused ++ t ∷ [];
      returned = v.returned;
      knows_returned = length h.returned;
      knows_reused = v.knows_reused;
    } in
    let reused_more : length (h.reused ++ t ∷ []) ≡ length h.reused + 1 = longer h.reused t in
    let all : length h.reused + length (t ∷ items) ≡ length h.returned = counts h.reused (t ∷ items) h.returned h.in_order in
    let room = h.room in (
      w,
      record {
        giver = h.giver;
        taker = h.taker;
        reused = h.reused ++ t ∷ [];
        returned = h.returned;
        name = h.name;
        fits = all_set (ReturnFits h.giver h.taker h.reused h.returned h.name) (ReturnFits h.giver h.taker (h.reused ++ t ∷ []) h.returned h.name) views id w h.fits
            record {
              reuses = λ _. (m.0, ap (λ (l : List Token). l ++ t ∷ []) m.1, omega arith, m.3);
              hands_back = λ p. let k = mine.hands_back p in (k.0, k.1, (let a = k.2 in omega (arith, a, reused_more)), k.3);
            }
            (λ j u other f. record {
              reuses = λ p. absurd (other ((f.reuses p).0 ∙ sym m.0));
              hands_back = λ p. let k = f.hands_back p in (k.0, k.1, (let a = k.2 in omega (arith, a, reused_more)), k.3);
            });
        in_order = append_assoc h.reused (t ∷ []) items ∙ h.in_order;
        room = omega (arith, room);
        shaped = h.shaped.1;
      },
      (
        subst (λ (x : Name). HasShape x.run x.channel t) (sym m.3) h.shaped.0,
        (λ p. let a = ap (λ (l : List Token). length l) m.1 in
            let b = ap (λ (l : List Token). length l) (mine.hands_back p).1 in omega (arith, all, a, b)),
        (length h.returned, m.2, refl),
      ),
    )

-- where there is none, as the giver knows it
pub learns_none_returned : (id : ℕ) (v : ReturnView) → v.reuses ≡ true → Learns ReturnsHold id v (none_returned_then v)
learns_none_returned id v may items views h at =
    let m = (h.fits id v at).reuses may in
    (length h.returned, m.2, ap (λ (l : List Token). length l + length items) m.1 ∙ counts h.reused items h.returned h.in_order)

-- one pass that reuses and hands_back knows which there are
pub learns_all : (id : ℕ) (v : ReturnView) → v.reuses ≡ true → v.hands_back ≡ true → Learns ReturnsHold id v (returns_stand v)
learns_all id v a b items views h at =
    let g = (h.fits id v at).reuses a in let p = (h.fits id v at).hands_back b in
    let room = h.room in let d : v.name.depth ≡ h.name.depth = ap (λ (x : Name). x.depth) g.3 in
    let returned_same : length v.returned ≡ length h.returned = ap (λ (l : List Token). length l) p.1 in
    let reused_same : length v.reused ≡ length h.reused = ap (λ (l : List Token). length l) g.1 in
    let knows_returned = g.2 in let knows_reused = p.2 in (
      ap (λ (l : List Token). l ++ items) g.1 ∙ h.in_order ∙ sym p.1,
      omega (arith, room, d),
      omega (arith, knows_returned, returned_same),
      omega (arith, knows_reused, reused_same),
    )

-- ---- passes

-- the channel is named, while there is no returned token
pub names : (x : Name) (id : ℕ) (v : ReturnView) → v ≡ both_view no_name [] [] 0 0
    → Forks ReturnsHold id v (both_view x [] [] 0 0) idle_return
names x id v is items views h at =
    let mine = h.fits id v at in let w : ReturnView = both_view x [] [] 0 0 in
    let g = mine.reuses (ap (λ (y : ReturnView). y.reuses) is) in let p = mine.hands_back (ap (λ (y : ReturnView). y.hands_back) is) in
    let none_reused : h.reused ≡ [] = sym g.1 ∙ ap (λ (y : ReturnView). y.reused) is in
    let none_returned : h.returned ≡ [] = sym p.1 ∙ ap (λ (y : ReturnView). y.returned) is in
    let bare : items ≡ [] = ap (λ (l : List Token). l ++ items) (sym none_reused) ∙ h.in_order ∙ none_returned in
    let vs : List ReturnView = set views id w in
    let F : ℕ → ReturnView → Type 0 = ReturnFits h.giver h.taker [] [] x in
    let old : All F vs = all_set (ReturnFits h.giver h.taker h.reused h.returned h.name) F views id w h.fits
    record { reuses = λ _. (g.0, refl, omega arith, refl); hands_back = λ _. (p.0, refl, omega arith, refl) }
    (λ j u other f. record {
      reuses = λ q. absurd (other ((f.reuses q).0 ∙ sym g.0));
      hands_back = λ q. absurd (other ((f.hands_back q).0 ∙ sym p.0));
    }) in
    record {
      giver = h.giver;
      taker = h.taker;
      reused = [];
      returned = [];
      name = x;
      fits = all_more F vs idle_return old (idle_fits h.giver h.taker [] [] x (length vs));
      in_order = bare;
      room = (let e = ap (λ (l : List Token). length l) bare in omega (arith, e));
      shaped = subst (AreShaped x) (sym bare) tt;
    }

-- the two ends get a pass each
pub parts : (id : ℕ) (v : ReturnView) → v.reuses ≡ true → v.hands_back ≡ true
    → Forks ReturnsHold id v (giver_return_view v.name v.reused (length v.returned)) (taker_return_view v.name v.returned (length v.reused))
parts id v a b items views h at =
    let l : ReturnView = giver_return_view v.name v.reused (length v.returned) in let r : ReturnView = taker_return_view v.name v.returned (length v.reused) in
    let mine = h.fits id v at in let g = mine.reuses a in let p = mine.hands_back b in
    let all_returned : length v.returned ≡ length h.returned = ap (λ (l : List Token). length l) p.1 in
    let all_reused : length v.reused ≡ length h.reused = ap (λ (l : List Token). length l) g.1 in
    let vs : List ReturnView = set views id l in
    let F : ℕ → ReturnView → Type 0 = ReturnFits h.giver (length vs) h.reused h.returned h.name in
    let old : All F vs = all_set (ReturnFits h.giver h.taker h.reused h.returned h.name) F views id l h.fits
    record { reuses = λ _. (g.0, g.1, omega (arith, all_returned), g.3); hands_back = λ q. absurd (true≢false (sym q)) }
    (λ j u other f. record { reuses = f.reuses; hands_back = λ q. absurd (other ((f.hands_back q).0 ∙ sym p.0)) }) in
    record {
      giver = h.giver;
      taker = length vs;
      reused = h.reused;
      returned = h.returned;
      name = h.name;
      fits = all_more F vs r old record { reuses = λ q. absurd (true≢false (sym q)); hands_back = λ _. (refl, p.1, omega (arith, all_reused), p.3) };
      in_order = h.in_order;
      room = h.room;
      shaped = h.shaped;
    }

-- a pass that knows nothing is cut off
pub idles : (id : ℕ) (v : ReturnView) → Forks ReturnsHold id v v idle_return
idles id v items views h at =
    let same : set views id v ≡ views = set_again views id v at in
    let F : ℕ → ReturnView → Type 0 = ReturnFits h.giver h.taker h.reused h.returned h.name in
    record {
      giver = h.giver;
      taker = h.taker;
      reused = h.reused;
      returned = h.returned;
      name = h.name;
      fits = all_more F (set views id v) idle_return (subst (All F) (sym same) h.fits)
          (idle_fits h.giver h.taker h.reused h.returned h.name (length (set views id v)));
      in_order = h.in_order;
      room = h.room;
      shaped = h.shaped;
    }

-- the giver's pass takes in the taker's
pub merges : (id : ℕ) (v : ReturnView) (other : ℕ) (u : ReturnView) → v.reuses ≡ true → u.hands_back ≡ true
    → Merges ReturnsHold id v other u (both_view v.name v.reused u.returned v.knows_returned u.knows_reused) idle_return
merges id v other u a b items views h at two at' =
    let w : ReturnView = both_view v.name v.reused u.returned v.knows_returned u.knows_reused in
    let g = (h.fits id v at).reuses a in let vs : List ReturnView = set views id w in
    let was : get_elem? views other ≡ some u = ⊎_elim (λ (x : (other ≡ id) × (w ≡ u)). absurd (two x.0))
    (λ (x : (other ≢ id) × (get_elem? views other ≡ some u)). x.1) (at_set views id other w u at') in
    let k = (h.fits other u was).hands_back b in
    let F : ℕ → ReturnView → Type 0 = ReturnFits h.giver h.taker h.reused h.returned h.name in
    let G : ℕ → ReturnView → Type 0 = ReturnFits h.giver id h.reused h.returned h.name in
    let Now : ℕ → ReturnView → Type 0 = λ j y. j ≢ other → G j y in
    let now : All Now vs = all_set F Now views id w h.fits
    (λ _. record { reuses = λ _. g; hands_back = λ _. (refl, k.1, k.2, g.3) })
    (λ j y _ f apart. record { reuses = f.reuses; hands_back = λ p. absurd (apart ((f.hands_back p).0 ∙ sym k.0)) }) in
    record {
      giver = h.giver;
      taker = id;
      reused = h.reused;
      returned = h.returned;
      name = h.name;
      fits = all_set Now G vs other idle_return now (idle_fits h.giver id h.reused h.returned h.name other) (λ j y apart f. f apart);
      in_order = h.in_order;
      room = h.room;
      shaped = h.shaped;
    }

-- what a pass that does both has returned, after one more
pub is_filled_more : (x : Name) (ts : List Token) (v : ReturnView) (t : Token) (w : ReturnView) → IsFilled x ts v → hands_back v t w → IsFilled x (ts ++ t ∷ []) w
is_filled_more x ts v t w old new =
    let is = new.2 in
    record {
      reuses = ap (λ (y : ReturnView). y.reuses) is ∙ old.reuses;
      hands_back = ap (λ (y : ReturnView). y.hands_back) is ∙ old.hands_back;
      name = ap (λ (y : ReturnView). y.name) is ∙ old.name;
      reused = ap (λ (y : ReturnView). y.reused) is ∙ old.reused;
      returned = ap (λ (y : ReturnView). y.returned) is ∙ ap (λ (l : List Token). l ++ t ∷ []) old.returned;
    }
