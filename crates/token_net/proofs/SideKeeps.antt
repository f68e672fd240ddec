-- Each of the four moves keeps what holds of a side.
use Rattle.std.proofs.Common.{◌≡◌, ◌≢◌, ℕ, zero, suc, ◌+◌, ◌<◌, ◌≤◌, ◌==◌, Bool, true, false, true≢false}
use Rattle.std.proofs.Common.{List, [], ◌∷◌, ◌++◌, drop}
use Rattle.std.proofs.Common.{if◌then◌else◌, length, refl, sym, ap, ◌∙◌, subst, inl, inr, ⊎_elim, arith, eq-eqb}
use Rattle.std.proofs.lemmas.Bool.{ne_eqb, cases_eq}
use Rattle.std.proofs.lemmas.List.{length-append}
use Rattle.token_net.specs.Families.{put, one_if}
use Rattle.token_net.specs.Shape.{Shape, IsShape, Run, IsRun}
use Rattle.token_net.specs.SideState.{Phase, idle, taking, Token, SideState, verdict}
use Rattle.token_net.specs.SideState.{HasNotEvaluated, HasEvaluated, HasTakenAll}
use Rattle.token_net.specs.SideState.{MayTake, MayEvaluate, MayGive, MayClose}
use Rattle.token_net.specs.SideState.{after_take, after_evaluate, after_give, after_close, first_side_state}
use Rattle.token_net.specs.SideState.{oldest_values}
use Rattle.token_net.specs.SideState.{tokens}
use Rattle.token_net.specs.SideState.{PartHolds, ChannelHolds, SideHolds}
use Rattle.token_net.proofs.Places.{put_cases, put_same}

-- ---- phases

pub taking_not : HasEvaluated taking → ⊥
taking_not (inl e) = absurd cc
taking_not (inr e) = absurd cc

pub idle_not : HasEvaluated idle → ⊥
idle_not (inl e) = absurd cc
idle_not (inr e) = absurd cc

pub verdict_evaluated : (b : Bool) → HasEvaluated (verdict b)
verdict_evaluated true = inr refl
verdict_evaluated false = inl refl

pub not_both_phases : (p : Phase) → HasNotEvaluated p → HasEvaluated p → ⊥
not_both_phases p (inl e) v = idle_not (subst HasEvaluated e v)
not_both_phases p (inr e) v = taking_not (subst HasEvaluated e v)

verdict_begun : (b : Bool) → HasNotEvaluated (verdict b) → ⊥
verdict_begun b o = not_both_phases (verdict b) o (verdict_evaluated b)

verdict_idle : (b : Bool) → verdict b ≡ idle → ⊥
verdict_idle b e = verdict_begun b (inl e)

pub evaluated_not_idle : (p : Phase) → HasEvaluated p → p ≢ idle
evaluated_not_idle p v e = not_both_phases p (inl e) v

pub taking_not_idle : (p : Phase) → p ≡ taking → p ≢ idle
taking_not_idle p t i = let s : taking ≡ idle = sym t ∙ i in absurd cc

-- where a partition is idle, has evaluated or hasn't, it was so before
abbrev SoBefore : (ℕ → Phase) → (ℕ → Phase) → ℕ → Type 0
SoBefore old new x =
    (new x ≡ idle → old x ≡ idle) × (HasEvaluated (new x) → HasEvaluated (old x)) × (HasNotEvaluated (new x)
    → HasNotEvaluated (old x))

module _ {S V : Type 0} (n : Shape S V) where
  -- ---- what a move rests on, of a side for which all holds

  -- a take: the taker hasn't evaluated, hasn't taken from the channel, and has a row
  pub record Takes (rows : ℕ) (at : ℕ → ℕ) (h : SideState S V) (ch : ℕ) : Type 0 where
    pub there : ch < n.channels
    pub begun : HasNotEvaluated (h.phase (n.to ch))
    pub new : h.taken ch ≡ false
    pub some : h.held ch ≢ []
    pub small : at (n.to ch) < rows

  -- an evaluation: the partition hasn't evaluated, has taken all its inputs, and has a row
  pub record Evaluates (rows : ℕ) (at : ℕ → ℕ) (h : SideState S V) (p : ℕ) : Type 0 where
    pub there : p < n.parts
    pub begun : HasNotEvaluated (h.phase p)
    pub all : HasTakenAll n h p
    pub small : at p < rows

module _ {S V : Type 0} (n : Shape S V) (r : Run S V) (rows : ℕ) (at : ℕ → ℕ) where
  pub takes : (starts : ℕ → Type 0) (h : SideState S V) (ch : ℕ) → IsShape n → SideHolds n r rows at h
      → (starts (n.to ch) → at (n.to ch) < rows)
      → MayTake n starts h ch → Takes n rows at h ch
  takes starts h ch shape old small may = ⊎_elim
      (λ (i : (h.phase (n.to ch) ≡ idle) × starts (n.to ch)). record {
        there = may.there;
        begun = inl i.0;
        new = (old.channel ch may.there).taker.idle_took_none i.0;
        some = may.some;
        small = small i.1;
      })
      (λ (t : (h.phase (n.to ch) ≡ taking) × (h.taken ch ≡ false)). record {
        there = may.there;
        begun = inr t.0;
        new = t.1;
        some = may.some;
        small = (old.part (n.to ch) (shape.to ch may.there)).below (taking_not_idle (h.phase (n.to ch)) t.0);
      })
      may.ready

  pub evaluates : (starts : ℕ → Type 0) (h : SideState S V) (p : ℕ) → SideHolds n r rows at h → (starts p → at p < rows)
      → MayEvaluate n starts h p → Evaluates n rows at h p
  evaluates starts h p old small may = ⊎_elim
      (λ (t : (h.phase p ≡ taking) × HasTakenAll n h p). record {
        there = may.there;
        begun = inr t.0;
        all = t.1;
        small = (old.part p may.there).below (taking_not_idle (h.phase p) t.0);
      })
      (λ (i : (h.phase p ≡ idle) × ((ch : ℕ) → ch < n.channels → n.to ch ≢ p) × starts p). record {
        there = may.there;
        begun = inl i.0;
        all = λ ch l e. absurd (i.1 ch l e);
        small = small i.2;
      })
      may.ready

  -- ---- tokens

  front : (ch a : ℕ) (v : V) (l : List (Token V)) → l ≢ [] → l ≡ tokens r ch a (length l)
      → (length l ≡ suc (length (drop 1 l))) × (oldest_values v l ≡ r.token ch a)
      × (drop 1 l ≡ tokens r ch (suc a) (length (drop 1 l)))
  front ch a v [] ne k = absurd (ne refl)
  front ch a v (x ∷ xs) ne k = (refl, ap (oldest_values v) k, ap (λ (y : List (Token V)). drop 1 y) k)

  tokens-snoc : (ch a k : ℕ)
      → tokens r ch a k ++ record { cycle = a + k; values = r.token ch (a + k) } ∷ [] ≡ tokens r ch a (suc k)
  tokens-snoc ch a zero = ap (λ (q : ℕ). record { cycle = q; values = r.token ch q } ∷ []) (omega arith)
  tokens-snoc ch a (suc k) =
      let e : a + suc k ≡ suc a + k = omega arith in
      ap (λ l. record { cycle = a; values = r.token ch a } ∷ l)
      (ap (λ (q : ℕ). tokens r ch (suc a) k ++ record { cycle = q; values = r.token ch q } ∷ []) e
      ∙ tokens-snoc ch (suc a) k)

  -- ---- take

  take_before : (h : SideState S V) (ch : ℕ) → HasNotEvaluated (h.phase (n.to ch)) → (x : ℕ)
      → SoBefore h.phase (after_take n ch h).phase x
  take_before h ch o x = put_cases
      (λ p. (p ≡ idle → h.phase x ≡ idle) × (HasEvaluated p → HasEvaluated (h.phase x)) × (HasNotEvaluated p
      → HasNotEvaluated (h.phase x)))
      (n.to ch) taking h.phase x
      (λ e. (
        (λ (i : taking ≡ idle). absurd cc),
        (λ v. absurd (taking_not v)),
        λ _.
            subst (λ (q : ℕ). HasNotEvaluated (h.phase q)) (sym e) o,
      ))
      (λ _. ((λ i. i), (λ v. v), λ v. v))

  take_part : (h : SideState S V) (ch p : ℕ) → Takes n rows at h ch → PartHolds r rows h p (at p)
      → PartHolds r rows (after_take n ch h) p (at p)
  take_part h ch p may old = record {
    own = old.own;
    within = old.within;
    below = put_cases (λ ph. ph ≢ idle → at p < rows) (n.to ch) taking h.phase p
        (λ e _. subst (λ (q : ℕ). at q < rows) (sym e) may.small) (λ _ ne. old.below ne);
    next = put_cases (λ ph. HasEvaluated ph → h.next p ≡ r.part p (at p + 1)) (n.to ch) taking h.phase p
        (λ _ v. absurd (taking_not v)) (λ _ v. old.next v);
    right = put_cases (λ ph. HasEvaluated ph → ph ≡ verdict (r.fired p (at p))) (n.to ch) taking h.phase p
        (λ _ v. absurd (taking_not v)) (λ _ v. old.right v);
  }

  take_here : (h : SideState S V) (ch : ℕ) → Takes n rows at h ch → ChannelHolds n r at h ch
      → ChannelHolds n r at (after_take n ch h) ch
  take_here h ch may old =
      let t : (ch == ch) ≡ true = eq-eqb ch ch refl in
      let f = front ch (at (n.to ch) + one_if (h.taken ch)) (h.copy ch) (h.held ch) may.some old.queue.in_order in
      let z : one_if (h.taken ch) ≡ 0 = ap one_if may.new in
      let before = take_before h ch may.begun in
      record {
        queue = record {
          count = rw t (omega (arith, old.queue.count, f.0, z));
          in_order = rw t (f.2 ∙ ap (λ (q : ℕ). tokens r ch q (length (drop 1 (h.held ch)))) (omega (arith, z)));
          room = rw t (omega (arith, old.queue.room, f.0));
        };
        taker = record {
          copied = rw t (λ _. f.1 ∙ ap (r.token ch) (omega (arith, z)));
          idle_took_none = λ i. absurd (let b : taking ≡ idle = sym (put_same (n.to ch) taking h.phase) ∙ i in cc);
          evaluated_took_all = rw t (λ _. refl);
        };
        giver = record {
          gave_none_yet = λ o. old.giver.gave_none_yet ((before (n.from ch)).2 o);
        };
      }

  take_there : (h : SideState S V) (ch k : ℕ) → Takes n rows at h ch → k ≢ ch → ChannelHolds n r at h k
      → ChannelHolds n r at (after_take n ch h) k
  take_there h ch k may ne old =
      let f : (k == ch) ≡ false = ne_eqb k ch ne in
      let before = take_before h ch may.begun in
      record {
        queue = record {
          count = rw f old.queue.count;
          in_order = rw f old.queue.in_order;
          room = rw f old.queue.room;
        };
        taker = record {
          copied = rw f old.taker.copied;
          idle_took_none = rw f (λ i. old.taker.idle_took_none ((before (n.to k)).0 i));
          evaluated_took_all = rw f (λ v. old.taker.evaluated_took_all ((before (n.to k)).1 v));
        };
        giver = record {
          gave_none_yet = λ o. old.giver.gave_none_yet ((before (n.from k)).2 o);
        };
      }

  pub take_keeps : (h : SideState S V) (ch : ℕ) → Takes n rows at h ch → SideHolds n r rows at h
      → SideHolds n r rows at (after_take n ch h)
  take_keeps h ch may old = record {
    part = λ p l. take_part h ch p may (old.part p l);
    channel = λ k l. ⊎_elim
        (λ (e : k ≡ ch). subst (ChannelHolds n r at (after_take n ch h)) (sym e)
        (take_here h ch may (old.channel ch may.there)))
        (λ (ne : k ≢ ch). take_there h ch k may ne (old.channel k l)) (cases_eq k ch);
  }

  -- ---- evaluate

  -- the copies are the tokens of the cycle
  copies : (h : SideState S V) (p : ℕ) → Evaluates n rows at h p → SideHolds n r rows at h → (ch : ℕ) → ch < n.channels
      → n.to ch ≡ p
      → h.copy ch ≡ r.token ch (at p)
  copies h p may old ch l e = (old.channel ch l).taker.copied (may.all ch l e) ∙ ap (λ (q : ℕ). r.token ch (at q)) e

  next_right : (h : SideState S V) (p : ℕ) → IsRun n rows r → Evaluates n rows at h p → SideHolds n r rows at h
      → n.next p (at p) (h.own p) h.copy ≡ r.part p (at p + 1)
  next_right h p is may old =
      ap (λ s. n.next p (at p) s h.copy) (old.part p may.there).own
      ∙ is.next p (at p) h.copy may.there may.small (copies h p may old)

  fires_right : (h : SideState S V) (p : ℕ) → IsRun n rows r → Evaluates n rows at h p → SideHolds n r rows at h
      → n.fires p (at p) (h.own p) h.copy ≡ r.fired p (at p)
  fires_right h p is may old =
      ap (λ s. n.fires p (at p) s h.copy) (old.part p may.there).own
      ∙ is.fires p (at p) h.copy may.there may.small (copies h p may old)

  evaluate_part : (h : SideState S V) (p x : ℕ) → IsRun n rows r → Evaluates n rows at h p → SideHolds n r rows at h
      → PartHolds r rows h x (at x)
      → PartHolds r rows (after_evaluate n p (at p) h) x (at x)
  evaluate_part h p x is may all old =
      let b : Bool = n.fires p (at p) (h.own p) h.copy in
      let new : SideState S V = after_evaluate n p (at p) h in
      record {
        own = old.own;
        within = old.within;
        below = put_cases (λ ph. ph ≢ idle → at x < rows) p (verdict b) h.phase x
            (λ e _. subst (λ (q : ℕ). at q < rows) (sym e) may.small) (λ _ ne. old.below ne);
        next = ⊎_elim
            (λ (e : x ≡ p). subst (λ (q : ℕ). HasEvaluated (new.phase q) → new.next q ≡ r.part q (at q + 1)) (sym e)
            (λ _. put_same p (n.next p (at p) (h.own p) h.copy) h.next ∙ next_right h p is may all))
            (λ (ne : x ≢ p). let f : (x == p) ≡ false = ne_eqb x p ne in rw f (λ v. old.next v)) (cases_eq x p);
        right = put_cases (λ ph. HasEvaluated ph → ph ≡ verdict (r.fired x (at x))) p (verdict b) h.phase x
            (λ e _. ap verdict (fires_right h p is may all) ∙ ap (λ (q : ℕ). verdict (r.fired q (at q))) (sym e))
            (λ _ v. old.right v);
      }

  evaluate_channel : (h : SideState S V) (p k : ℕ) → Evaluates n rows at h p → k < n.channels → ChannelHolds n r at h k
      → ChannelHolds n r at (after_evaluate n p (at p) h) k
  evaluate_channel h p k may l old =
      let b : Bool = n.fires p (at p) (h.own p) h.copy in
      record {
        queue = record {
          count = old.queue.count;
          in_order = old.queue.in_order;
          room = old.queue.room;
        };
        taker = record {
          copied = old.taker.copied;
          idle_took_none = put_cases (λ ph. ph ≡ idle → h.taken k ≡ false) p (verdict b) h.phase (n.to k)
              (λ _ i. absurd (verdict_idle b i)) (λ _ i. old.taker.idle_took_none i);
          evaluated_took_all = put_cases (λ ph. HasEvaluated ph → h.taken k ≡ true) p (verdict b) h.phase (n.to k)
              (λ e _. may.all k l e) (λ _ v. old.taker.evaluated_took_all v);
        };
        giver = record {
          gave_none_yet = put_cases (λ ph. HasNotEvaluated ph → h.given k ≡ false) p (verdict b) h.phase (n.from k)
              (λ _ o. absurd (verdict_begun b o)) (λ _ o. old.giver.gave_none_yet o);
        };
      }

  pub evaluate_keeps : (h : SideState S V) (p : ℕ) → IsRun n rows r → Evaluates n rows at h p → SideHolds n r rows at h
      → SideHolds n r rows at (after_evaluate n p (at p) h)
  evaluate_keeps h p is may old = record {
    part = λ x b. evaluate_part h p x is may old (old.part x b);
    channel = λ k b. evaluate_channel h p k may b (old.channel k b);
  }

  -- ---- give

  give_here : (h : SideState S V) (ch : ℕ) → IsRun n rows r → MayGive n h ch
      → PartHolds r rows h (n.from ch) (at (n.from ch)) → ChannelHolds n r at h ch
      → ChannelHolds n r at (after_give n ch (at (n.from ch)) h) ch
  give_here h ch is may giver old =
      let t : (ch == ch) ≡ true = eq-eqb ch ch refl in
      let z : one_if (h.given ch) ≡ 0 = ap one_if may.new in
      let x : Token V = record { cycle = at (n.from ch) + 1; values = n.send ch (h.next (n.from ch)) } in
      let a : ℕ = at (n.to ch) + one_if (h.taken ch) in
      let m : ℕ = length (h.held ch) in
      let more : length (h.held ch ++ x ∷ []) ≡ suc m = omega (arith, length-append (h.held ch) (x ∷ [])) in
      let below = giver.below (evaluated_not_idle (h.phase (n.from ch)) may.evaluated) in
      let small : at (n.from ch) + 1 ≤ rows = omega (arith, below) in
      let turn : at (n.from ch) + 1 ≡ a + m = omega (arith, old.queue.count, z) in
      let sent : n.send ch (h.next (n.from ch)) ≡ r.token ch (at (n.from ch) + 1) =
      ap (n.send ch) (giver.next may.evaluated) ∙ is.send ch (at (n.from ch) + 1) may.there small in
      let same : x ≡ record { cycle = a + m; values = r.token ch (a + m) } =
      (λ i. record { cycle = turn i; values = (sent ∙ ap (r.token ch) turn) i }) in
      record {
        queue = record {
          count = rw t (omega (arith, old.queue.count, more, z));
          in_order = rw t
              ((λ i. old.queue.in_order i ++ same i ∷ []) ∙ tokens-snoc ch a m ∙ ap (tokens r ch a) (sym more));
          room = rw t (omega (arith, may.room, more));
        };
        taker = record {
          copied = old.taker.copied;
          idle_took_none = old.taker.idle_took_none;
          evaluated_took_all = old.taker.evaluated_took_all;
        };
        giver = record {
          gave_none_yet = λ o. absurd (not_both_phases (h.phase (n.from ch)) o may.evaluated);
        };
      }

  give_there : (h : SideState S V) (ch k : ℕ) → k ≢ ch → ChannelHolds n r at h k
      → ChannelHolds n r at (after_give n ch (at (n.from ch)) h) k
  give_there h ch k ne old =
      let f : (k == ch) ≡ false = ne_eqb k ch ne in
      record {
        queue = record {
          count = rw f old.queue.count;
          in_order = rw f old.queue.in_order;
          room = rw f old.queue.room;
        };
        taker = record {
          copied = old.taker.copied;
          idle_took_none = old.taker.idle_took_none;
          evaluated_took_all = old.taker.evaluated_took_all;
        };
        giver = record {
          gave_none_yet = rw f old.giver.gave_none_yet;
        };
      }

  pub give_keeps : (h : SideState S V) (ch : ℕ) → IsShape n → IsRun n rows r → MayGive n h ch → SideHolds n r rows at h
      → SideHolds n r rows at (after_give n ch (at (n.from ch)) h)
  give_keeps h ch shape is may old = record {
    part = λ p l. let o = old.part p l in
        record { own = o.own; within = o.within; below = o.below; next = o.next; right = o.right };
    channel = λ k l. ⊎_elim
        (λ (e : k ≡ ch). subst (ChannelHolds n r at (after_give n ch (at (n.from ch)) h)) (sym e)
        (give_here h ch is may (old.part (n.from ch) (shape.from ch may.there)) (old.channel ch may.there)))
        (λ (ne : k ≢ ch). give_there h ch k ne (old.channel k l)) (cases_eq k ch);
  }

  -- ---- close, which raises the position

  close_part : (h : SideState S V) (p x : ℕ) → MayClose n h p → PartHolds r rows h p (at p)
      → PartHolds r rows h x (at x)
      → PartHolds r rows (after_close n p h) x (put p (at p + 1) at x)
  close_part h p x may mine old = ⊎_elim
      (λ (e : x ≡ p). subst (λ (q : ℕ). PartHolds r rows (after_close n p h) q (put p (at p + 1) at q)) (sym e) (
      let t : (p == p) ≡ true = eq-eqb p p refl in
      let b = mine.below (evaluated_not_idle (h.phase p) may.evaluated) in
      record {
        own = rw t (mine.next may.evaluated);
        within = rw t (omega (arith, b));
        below = rw t (λ (ne : idle ≢ idle). absurd (ne refl));
        next = rw t (λ v. absurd (idle_not v));
        right = rw t (λ v. absurd (idle_not v));
      }))
      (λ (ne : x ≢ p).
      let f : (x == p) ≡ false = ne_eqb x p ne in
      record {
        own = rw f old.own;
        within = rw f old.within;
        below = rw f old.below;
        next = rw f old.next;
        right = rw f old.right;
      })
      (cases_eq x p)

  -- a count goes on as the position does
  counts_on : (p x : ℕ) (b : Bool) → (x ≡ p → b ≡ true)
      → put p (at p + 1) at x + one_if (if x == p then false else b) ≡ at x + one_if b
  counts_on p x b all = ⊎_elim
      (λ (e : x ≡ p).
      let t : (x == p) ≡ true = eq-eqb x p e in
      let y : one_if b ≡ 1 = ap one_if (all e) in
      rw t (let s : at p ≡ at x = ap at (sym e) in omega (arith, s, y)))
      (λ (ne : x ≢ p). let f : (x == p) ≡ false = ne_eqb x p ne in rw f refl)
      (cases_eq x p)

  close_channel : (h : SideState S V) (p k : ℕ) → MayClose n h p → k < n.channels → ChannelHolds n r at h k
      → ChannelHolds n r (put p (at p + 1) at) (after_close n p h) k
  close_channel h p k may l old =
      let took_all : n.to k ≡ p → h.taken k ≡ true =
      λ e. old.taker.evaluated_took_all (subst (λ (q : ℕ). HasEvaluated (h.phase q)) (sym e) may.evaluated) in
      let a = counts_on p (n.to k) (h.taken k) took_all in
      let b = counts_on p (n.from k) (h.given k) (may.all k l) in
      let same_to : (e : n.to k ≡ p) → (n.to k == p) ≡ true = λ e. eq-eqb (n.to k) p e in
      let other_to : (ne : n.to k ≢ p) → (n.to k == p) ≡ false = λ ne. ne_eqb (n.to k) p ne in
      record {
        queue = record {
          count = omega (arith, old.queue.count, a, b);
          in_order = old.queue.in_order ∙ ap (λ (q : ℕ). tokens r k q (length (h.held k))) (sym a);
          room = old.queue.room;
        };
        taker = record {
          copied = ⊎_elim (λ (e : n.to k ≡ p). rw (same_to e) (λ (c : false ≡ true). absurd (true≢false (sym c))))
              (λ (ne : n.to k ≢ p). rw (other_to ne) old.taker.copied) (cases_eq (n.to k) p);
          idle_took_none = ⊎_elim (λ (e : n.to k ≡ p). rw (same_to e) (λ _. refl))
              (λ (ne : n.to k ≢ p). rw (other_to ne) old.taker.idle_took_none) (cases_eq (n.to k) p);
          evaluated_took_all = ⊎_elim (λ (e : n.to k ≡ p). rw (same_to e) (λ v. absurd (idle_not v)))
              (λ (ne : n.to k ≢ p). rw (other_to ne) old.taker.evaluated_took_all) (cases_eq (n.to k) p);
        };
        giver = record {
          gave_none_yet = ⊎_elim
              (λ (e : n.from k ≡ p). let t : (n.from k == p) ≡ true = eq-eqb (n.from k) p e in rw t (λ _. refl))
              (λ (ne : n.from k ≢ p).
              let f : (n.from k == p) ≡ false = ne_eqb (n.from k) p ne in rw f old.giver.gave_none_yet)
              (cases_eq (n.from k) p);
        };
      }

  pub close_keeps : (h : SideState S V) (p : ℕ) → MayClose n h p → SideHolds n r rows at h
      → SideHolds n r rows (put p (at p + 1) at) (after_close n p h)
  close_keeps h p may old = record {
    part = λ x l. close_part h p x may (old.part p may.there) (old.part x l);
    channel = λ k l. close_channel h p k may l (old.channel k l);
  }

module _ {S V : Type 0} (n : Shape S V) (r : Run S V) (rows : ℕ) where
  -- ---- positions, more rows, the start

  -- the same at equal positions
  pub at_equal : (a b : ℕ → ℕ) (h : SideState S V) → ((x : ℕ) → a x ≡ b x) → SideHolds n r rows a h
      → SideHolds n r rows b h
  at_equal a b h same old = subst (λ (at : ℕ → ℕ). SideHolds n r rows at h) (λ i x. same x i) old

  pub side_extends : (at : ℕ → ℕ) (h : SideState S V) (k : ℕ) → SideHolds n r rows at h → SideHolds n r (rows + k) at h
  side_extends at h k old = record {
    part = λ p l. let m = old.part p l in record {
      own = m.own;
      within = (let a = m.within in omega (arith, a));
      below = λ ne. (let a = m.below ne in omega (arith, a));
      next = m.next;
      right = m.right;
    };
    channel = old.channel;
  }

  pub side_starts : (at : ℕ → ℕ) → IsShape n → ((x : ℕ) → at x ≡ 0) → SideHolds n r rows at (first_side_state n r)
  side_starts at shape zeros = at_equal (λ _. 0) at (first_side_state n r) (λ x. sym (zeros x)) record {
    part = λ p l. record {
      own = refl;
      within = omega arith;
      below = λ (ne : idle ≢ idle). absurd (ne refl);
      next = λ v. absurd (idle_not v);
      right = λ v. absurd (idle_not v);
    };
    channel = λ k l. record {
      queue = record {
        count = refl;
        in_order = refl;
        room = omega (arith, shape.deep);
      };
      taker = record {
        copied = λ c. absurd (true≢false (sym c));
        idle_took_none = λ _. refl;
        evaluated_took_all = λ v. absurd (idle_not v);
      };
      giver = record {
        gave_none_yet = λ _. refl;
      };
    };
  }
