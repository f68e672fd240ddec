-- The board at its start, and the step that names the run.
use Rattle.std.proofs.Common.{◌≡◌, ◌≢◌, ◌⊎◌, ℕ, zero, suc, ◌+◌, ◌-◌, ◌*◌, ◌%◌, ◌<◌, ◌≤◌, true, true≢false, [], ◌∷◌}
use Rattle.std.proofs.Common.{map, get_or, refl, sym, ap, ◌∙◌, subst, inl, inr, ⊎_elim, arith, eq-eqb}
use Rattle.std.specs.List.{range_with_len}
use Rattle.std.proofs.lemmas.Bool.{ne_eqb, cases_eq}
use Rattle.std.proofs.lemmas.List.FromFn.{length-map-range_with_len, get_or-map-range_with_len}
use mathlib.Core.Option.{some, some-injective, some-ne-none}
use lib.ListN.{get_elem?}
use Rattle.atomic_table.specs.Table.{Step, keeps, opening, Allows}
use Rattle.atomic_table.proofs.Lists.{at_set}
use Rattle.named_run.specs.Named.{RunData, end_of, fires, no_run}
use Rattle.named_run.proofs.RunLaws.{no_run_fires}
use Rattle.token_net.specs.Posts.{Lagger, Posts, first_posts, none_yet, PostsHold}
use Rattle.token_net.proofs.PostsEnd.{posts_laws}
use Rattle.board_rule.specs.Views.{Named, HeldLeader, HeldLagger, course, first_leader, first_lagger, leaders_from, laggers_from}
use Rattle.board_rule.specs.Rule.{Each, Apart, leader_numbers, lagger_numbers, HasLeader, HasLagger, Knows, fire_word, leader_word, lagger_word, word_count, leader_code, IsCoded, Kept, Ruled}
use Rattle.board_rule.specs.Plays.{all_posts, names}
use Rattle.gang_board.specs.Begins.{first_word, Begins}
use Rattle.board_rule.specs.declared.view.View.{View}
use Rattle.board_rule.specs.declared.setup.Setup.{Setup}
use Rattle.board_rule.proofs.Lists.{each_map, each_of_list}
use Rattle.board_rule.proofs.Words.{code_read}
use Rattle.board_rule.proofs.Keeps.{stood}

-- ---- the first posts, by number

module _ (P : HeldLeader → Type 0) (a : ℕ) where
  pub each_leader : (k m : ℕ) → ((j : ℕ) → k ≤ j → j < k + m → P (first_leader a j)) → Each P (leaders_from a k m)
  each_leader k zero f = tt
  each_leader k (suc m) f = (f k (omega arith) (omega arith), each_leader (suc k) m (λ j l u. f j (omega (arith, l)) (omega (arith, u))))

  pub leader_there : (k m j : ℕ) → k ≤ j → j < k + m → Each P (leaders_from a k m) → P (first_leader a j)
  leader_there k zero j l u e = absurd (omega (arith, l, u))
  leader_there k (suc m) j l u e = ⊎_elim (λ (s : j ≡ k). subst (λ (z : ℕ). P (first_leader a z)) (sym s) e.0)
      (λ (ne : j ≢ k). leader_there (suc k) m j (omega (arith, l, ne)) (omega (arith, u)) e.1) (cases_eq j k)

module _ (P : HeldLagger → Type 0) (parts a b : ℕ) where
  pub each_lagger : (k m : ℕ) → ((j : ℕ) → k ≤ j → j < k + m → P (first_lagger parts a b j)) → Each P (laggers_from parts a b k m)
  each_lagger k zero f = tt
  each_lagger k (suc m) f = (f k (omega arith) (omega arith), each_lagger (suc k) m (λ j l u. f j (omega (arith, l)) (omega (arith, u))))

  pub lagger_there : (k m j : ℕ) → k ≤ j → j < k + m → Each P (laggers_from parts a b k m) → P (first_lagger parts a b j)
  lagger_there k zero j l u e = absurd (omega (arith, l, u))
  lagger_there k (suc m) j l u e = ⊎_elim (λ (s : j ≡ k). subst (λ (z : ℕ). P (first_lagger parts a b z)) (sym s) e.0)
      (λ (ne : j ≢ k). lagger_there (suc k) m j (omega (arith, l, ne)) (omega (arith, u)) e.1) (cases_eq j k)

-- no post stands among them twice
first_leaders : (a k m : ℕ) → Apart (leader_numbers (leaders_from a k m))
first_leaders a k zero = tt
first_leaders a k (suc m) = (
  each_of_list (λ (q : ℕ). q ≢ k) (λ (x : HeldLeader). x.number) (leaders_from a (suc k) m)
      (each_leader (λ (x : HeldLeader). x.number ≢ k) a (suc k) m (λ j l u e. omega (arith, l, e))),
  first_leaders a (suc k) m,
)

first_laggers : (parts a b k m : ℕ) → Apart (lagger_numbers (laggers_from parts a b k m))
first_laggers parts a b k zero = tt
first_laggers parts a b k (suc m) = (
  each_of_list (λ (q : ℕ). q ≢ k) (λ (x : HeldLagger). x.number) (laggers_from parts a b (suc k) m)
      (each_lagger (λ (x : HeldLagger). x.number ≢ k) parts a b (suc k) m (λ j l u e. omega (arith, l, e))),
  first_laggers parts a b (suc k) m,
)

-- ---- the first words

module _ (s : Setup) where
  abbrev start : Posts
  start = first_posts s.leaders s.leader_at s.lagger_at

  word_is : (k : ℕ) → k < word_count s.leaders → get_or (map (first_word s) (range_with_len 0 (word_count s.leaders))) k 0 ≡ first_word s k
  word_is k l = get_or-map-range_with_len (first_word s) 0 (word_count s.leaders) k k 0 l (omega arith)

  at_leader : (p : ℕ) → first_word s (leader_word p) ≡ 2 * s.leader_at
  at_leader p = rw (ne_eqb (leader_word p) 0 (λ e. omega (arith, e))) rw (eq-eqb (leader_word p % 16) 8 (omega arith)) refl

  at_lagger : (q : ℕ) → first_word s (lagger_word q) ≡ s.lagger_at
  at_lagger q = rw (ne_eqb (lagger_word q) 0 (λ e. omega (arith, e))) rw (ne_eqb (lagger_word q % 16) 8 (λ e. omega (arith, e))) refl

  pub coded : 1 ≤ s.leaders → IsCoded s.leaders (map (first_word s) (range_with_len 0 (word_count s.leaders))) start
  coded nonempty = record {
    wide = length-map-range_with_len (first_word s) 0 (word_count s.leaders);
    fire = word_is 0 (omega (arith, nonempty));
    leader = λ p l. word_is (leader_word p) (omega (arith, l)) ∙ at_leader p ∙ omega arith;
    lagger = λ q l. word_is (lagger_word q) (omega (arith, l)) ∙ at_lagger q;
  }

  abbrev unnamed : Named
  unnamed = record { run = no_run s.leader_at; parts = s.leaders; lag = s.lag }

  -- a lagger at the leaders' position less the lag keeps the lag
  keeps_lag : (a b lag : ℕ) → b ≡ a - lag → (b ≡ 0) ⊎ (b + lag ≤ a)
  keeps_lag a b lag e = ⊎_elim (λ (z : b ≡ 0). inl z) (λ (ne : b ≢ 0). inr (omega (arith, e, ne))) (cases_eq b 0)

  knows_all : (n : Named) → n.parts ≡ s.leaders → (home_leader home_lagger : ℕ → ℕ) (j : ℕ) → ((p : ℕ) → p < s.leaders → home_leader p ≡ j) → ((q : ℕ) → q < s.leaders → home_lagger q ≡ j)
      → Knows home_leader home_lagger n start j record {
        named = n;
        leaders = leaders_from s.leader_at 0 s.leaders;
        laggers = laggers_from s.leaders s.leader_at s.lagger_at 0 s.leaders;
      }
  knows_all n parts hl hg j leaders laggers = record {
    leaders = each_leader (HasLeader hl n start j n) s.leader_at 0 s.leaders (λ p _ l. (omega (arith, l, parts), leaders p (omega (arith, l)), refl, refl));
    laggers = each_lagger (HasLagger hg n start j n) s.leaders s.leader_at s.lagger_at 0 s.leaders (λ q _ l. (omega (arith, l, parts), laggers q (omega (arith, l)), refl, refl));
    leaders_apart = first_leaders s.leader_at 0 s.leaders;
    laggers_apart = first_laggers s.leaders s.leader_at s.lagger_at 0 s.leaders;
  }

  pub opens : 1 ≤ s.leaders → s.lagger_at ≡ s.leader_at - s.lag → Ruled (opening (map (first_word s) (range_with_len 0 (word_count s.leaders))) [] (all_posts s))
  opens nonempty behind = record {
    named = unnamed;
    kept = record {
      posts = start;
      home_leader = λ _. 0;
      home_lagger = λ _. 0;
      holds = (posts_laws (course unnamed)).begins s.leader_at s.lagger_at (omega arith) (λ p t _ _. no_run_fires s.leader_at p t) (keeps_lag s.leader_at s.lagger_at s.lag behind);
      coded = coded nonempty;
      knows = first_knows;
    };
  } where
    first_knows : (j : ℕ) (v : View) → get_elem? (all_posts s ∷ []) j ≡ some v → Knows (λ _. 0) (λ _. 0) unnamed start j v
    first_knows zero v e = subst (Knows (λ _. 0) (λ _. 0) unnamed start 0) (some-injective (all_posts s) v e) (knows_all unnamed refl (λ _. 0) (λ _. 0) 0 (λ _ _. refl) (λ _ _. refl))
    first_knows (suc j) v e = absurd (some-ne-none v (sym e))

  -- ---- the run is named

  module _ (r : RunData) (nonempty : 1 ≤ s.leaders) (begins : Begins r s.leaders s.lag s.leader_at s.lagger_at) where
    abbrev named : Named
    named = record { run = r; parts = s.leaders; lag = s.lag }

    pub start_holds : PostsHold (course named) start
    start_holds = (posts_laws (course named)).begins s.leader_at s.lagger_at begins.within begins.clear (keeps_lag s.leader_at s.lagger_at s.lag begins.behind)

    pub names_keeps : (slots id : ℕ) (st : Step ℕ) → Allows Ruled slots id (all_posts s, []) fire_word (λ w. w) (names r st (all_posts s, []))
    names_keeps slots id st t rule sized at room =
        let old = rule.kept.knows id (all_posts s) at in
        let same : unnamed ≡ rule.named = (leader_there (HasLeader rule.kept.home_leader rule.named rule.kept.posts id unnamed) s.leader_at 0 s.leaders 0 (omega arith) (omega (arith, nonempty)) old.leaders).3 in
        let h : Kept unnamed t = subst (λ (m : Named). Kept m t) (sym same) rule.kept in
        let c : Posts = h.posts in
        let mine = h.knows id (all_posts s) at in
        let leader_is : (p : ℕ) → p < s.leaders → HasLeader h.home_leader unnamed c id unnamed (first_leader s.leader_at p) =
        λ p l. leader_there (HasLeader h.home_leader unnamed c id unnamed) s.leader_at 0 s.leaders p (omega arith) (omega (arith, l)) mine.leaders in
        let lagger_is : (q : ℕ) → q < s.leaders → HasLagger h.home_lagger unnamed c id unnamed (first_lagger s.leaders s.leader_at s.lagger_at q) =
        λ q l. lagger_there (HasLagger h.home_lagger unnamed c id unnamed) s.leaders s.leader_at s.lagger_at 0 s.leaders q (omega arith) (omega (arith, l)) mine.laggers in
        let no_fire : none_yet ≡ c.fire = ⊎_elim (λ (e : c.fire ≡ none_yet). sym e)
        (λ (f : (c.fire < end_of (no_run s.leader_at)) × ((p : ℕ) × (p < s.leaders) × (fires (no_run s.leader_at) p c.fire ≡ true))).
        absurd (true≢false (sym f.1.2 ∙ no_run_fires s.leader_at f.1.0 c.fire))) h.holds.fire in
        let w : View = record {
          named = named;
          leaders = leaders_from s.leader_at 0 s.leaders;
          laggers = laggers_from s.leaders s.leader_at s.lagger_at 0 s.leaders;
        } in
        let knows : Knows h.home_leader h.home_lagger named start id w =
        knows_all named refl h.home_leader h.home_lagger id (λ p l. (leader_is p l).1) (λ q l. (lagger_is q l).1) in (
          w,
          keeps,
          tt,
          record {
            named = named;
            kept = record {
              posts = start;
              home_leader = h.home_leader;
              home_lagger = h.home_lagger;
              holds = start_holds;
              coded = code_read s.leaders t.words c h.coded fire_word none_yet start.leader start.lagger no_fire
                  (λ p l. ap leader_code (sym (leader_is p l).2)) (λ q l. ap (λ (y : Lagger). y.at) (sym (lagger_is q l).2));
              knows = λ j u e. ⊎_elim
                  (λ (x : (j ≡ id) × (w ≡ u)). subst (λ (y : ℕ × View). Knows h.home_leader h.home_lagger named start y.0 y.1) (λ i. (sym x.0 i, x.1 i)) knows)
                  (λ (x : (j ≢ id) × (get_elem? t.views j ≡ some u)). let o = h.knows j u x.1 in record {
                    leaders = each_map (HasLeader h.home_leader unnamed c j u.named) (HasLeader h.home_leader named start j u.named)
                        (λ (k : HeldLeader) (q : HasLeader h.home_leader unnamed c j u.named k). absurd (x.0 (sym q.1 ∙ (leader_is k.number q.0).1))) u.leaders o.leaders;
                    laggers = each_map (HasLagger h.home_lagger unnamed c j u.named) (HasLagger h.home_lagger named start j u.named)
                        (λ (k : HeldLagger) (q : HasLagger h.home_lagger unnamed c j u.named k). absurd (x.0 (sym q.1 ∙ (lagger_is k.number q.0).1))) u.laggers o.laggers;
                    leaders_apart = o.leaders_apart;
                    laggers_apart = o.laggers_apart;
                  })
                  (at_set t.views id j w u e);
            };
          },
          (refl, stood h.home_leader h.home_lagger named start id w.leaders w.laggers start_holds knows),
        )
