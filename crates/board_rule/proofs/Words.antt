-- The words after a step are those of the posts after it.
use Rattle.std.proofs.Common.{◌≡◌, ◌≢◌, ℕ, ◌+◌, ◌*◌, ◌<◌, ◌/◌, ◌%◌, ◌==◌, Bool, true, false, List, set, get_or}
use Rattle.std.proofs.Common.{sym, ap, ◌∙◌, subst, ⊎_elim, arith, eq-eqb}
use Rattle.std.proofs.lemmas.Bool.{ne_eqb, cases_eq}
use Rattle.std.proofs.lemmas.List.{length-set, get_or-set_same, get_or-set_other, set-get_or}
use Rattle.token_net.specs.Families.{put, one_if}
use Rattle.token_net.specs.Posts.{Leader, Lagger, Posts, present}
use Rattle.token_net.proofs.Places.{put_same, put_other}
use Rattle.board_rule.specs.Rule.{fire_word, leader_word, lagger_word, leader_code, IsCoded}
use Rattle.board_rule.specs.Plays.{sight_in}

module _ (parts : ℕ) (words : List ℕ) (c : Posts) (old : IsCoded parts words c) where
  -- a leader's word, and its post
  pub code_leader : (p w : ℕ) (x : Leader) → p < parts → w ≡ leader_code x
      → IsCoded parts (set words (leader_word p) w) record { leader = put p x c.leader; lagger = c.lagger; fire = c.fire }
  code_leader p w x l is = record {
    wide = length-set words (leader_word p) w ∙ old.wide;
    fire = get_or-set_other words (leader_word p) fire_word w 0 (λ e. omega (arith, e)) ∙ old.fire;
    leader = λ y yl. ⊎_elim
        (λ (e : y ≡ p).
        subst (λ (z : ℕ). get_or (set words (leader_word p) w) (leader_word z) 0 ≡ leader_code (put p x c.leader z)) (sym e)
        (let k = old.wide in
        let a : get_or (set words (leader_word p) w) (leader_word p) 0 ≡ w =
        get_or-set_same words (leader_word p) w 0 (omega (arith, k, l)) in
        a ∙ is ∙ ap leader_code (sym (put_same p x c.leader))))
        (λ (ne : y ≢ p).
        get_or-set_other words (leader_word p) (leader_word y) w 0 (λ e. ne (omega (arith, e))) ∙ old.leader y yl
        ∙ ap leader_code (sym (put_other p x c.leader y ne)))
        (cases_eq y p);
    lagger = λ q ql. get_or-set_other words (leader_word p) (lagger_word q) w 0 (λ e. omega (arith, e)) ∙ old.lagger q ql;
  }

  -- a lagger's word, and its post
  pub code_lagger : (q w : ℕ) (y : Lagger) → q < parts → w ≡ y.at
      → IsCoded parts (set words (lagger_word q) w) record { leader = c.leader; lagger = put q y c.lagger; fire = c.fire }
  code_lagger q w y l is = record {
    wide = length-set words (lagger_word q) w ∙ old.wide;
    fire = get_or-set_other words (lagger_word q) fire_word w 0 (λ e. omega (arith, e)) ∙ old.fire;
    leader = λ x xl. get_or-set_other words (lagger_word q) (leader_word x) w 0 (λ e. omega (arith, e)) ∙ old.leader x xl;
    lagger = λ x xl. ⊎_elim
        (λ (e : x ≡ q).
        subst (λ (z : ℕ). get_or (set words (lagger_word q) w) (lagger_word z) 0 ≡ (put q y c.lagger z).at) (sym e)
        (let k = old.wide in
        let a : get_or (set words (lagger_word q) w) (lagger_word q) 0 ≡ w =
        get_or-set_same words (lagger_word q) w 0 (omega (arith, k, l)) in
        a ∙ is ∙ ap (λ (z : Lagger). z.at) (sym (put_same q y c.lagger))))
        (λ (ne : x ≢ q).
        get_or-set_other words (lagger_word q) (lagger_word x) w 0 (λ e. ne (omega (arith, e))) ∙ old.lagger x xl
        ∙ ap (λ (z : Lagger). z.at) (sym (put_other q y c.lagger x ne)))
        (cases_eq x q);
  }

  -- the fire word, where each leader's position and halt stay
  pub code_fire : (f : ℕ) (leaders : ℕ → Leader) → ((p : ℕ) → p < parts → leader_code (c.leader p) ≡ leader_code (leaders p))
      → (0 < parts)
      → IsCoded parts (set words fire_word f) record { leader = leaders; lagger = c.lagger; fire = f }
  code_fire f leaders same some = record {
    wide = length-set words fire_word f ∙ old.wide;
    fire = (let k = old.wide in get_or-set_same words fire_word f 0 (omega (arith, k)));
    leader = λ p l. get_or-set_other words fire_word (leader_word p) f 0 (λ e. omega (arith, e)) ∙ old.leader p l ∙ same p l;
    lagger = λ q l. get_or-set_other words fire_word (lagger_word q) f 0 (λ e. omega (arith, e)) ∙ old.lagger q l;
  }

  -- a word that is only read, where positions and halts stay
  pub code_read : (i f : ℕ) (leaders : ℕ → Leader) (laggers : ℕ → Lagger) → f ≡ c.fire
      → ((p : ℕ) → p < parts → leader_code (c.leader p) ≡ leader_code (leaders p))
      → ((q : ℕ) → q < parts → (c.lagger q).at ≡ (laggers q).at)
      → IsCoded parts (set words i (get_or words i 0)) record { leader = leaders; lagger = laggers; fire = f }
  code_read i f leaders laggers e same at =
      subst (λ ws. IsCoded parts ws record { leader = leaders; lagger = laggers; fire = f }) (sym (set-get_or words i 0)) record {
        wide = old.wide;
        fire = old.fire ∙ sym e;
        leader = λ p l. old.leader p l ∙ same p l;
        lagger = λ q l. old.lagger q l ∙ at q l;
      }

-- ---- what a leader's word tells

halved : (a : ℕ) (b : Bool) → ((2 * a + one_if b) / 2 ≡ a) × (((2 * a + one_if b) % 2 == 1) ≡ b)
halved a true = (omega arith, eq-eqb ((2 * a + 1) % 2) 1 (omega arith))
halved a false = (omega arith, ne_eqb ((2 * a + 0) % 2) 1 (λ e. omega (arith, e)))

pub sight_in_is : (w : ℕ) (x : Leader) → w ≡ leader_code x → sight_in w ≡ present x
sight_in_is w x e = let h = halved x.at x.halted in ap sight_in e ∙ (λ i. record { at = h.0 i; halted = h.1 i })
