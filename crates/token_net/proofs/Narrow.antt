-- How many channels a partition has: at most one from each other partition, and one to each.
use Rattle.std.proofs.Common.{◌≡◌, ◌≢◌, ℕ, zero, suc, ◌+◌, ◌*◌, ◌<◌, ◌≤◌, ◌==◌, ◌&&◌, Bool, true, false, true≢false}
use Rattle.std.proofs.Common.{if◌then◌else◌, refl, sym, ap, ◌∙◌, ⊎_elim, arith, eqb-true, eq-eqb}
use Rattle.std.proofs.lemmas.Bool.{ne_eqb, cases_eq}
use Rattle.token_net.specs.Families.{total, one_if, put}
use Rattle.token_net.specs.Shape.{Shape, IsShape}
use Rattle.token_net.proofs.Places.{put_cases, put_other, search_for, total_le, total_none}

both : (a b : Bool) → (a && b) ≡ true → (a ≡ true) × (b ≡ true)
both true b e = (refl, e)
both false b e = absurd (true≢false (sym e))

not_second : (a b : Bool) → (a && b) ≡ false → a ≡ true → b ≡ true → ⊥
not_second true b e t u = true≢false (sym u ∙ e)
not_second false b e t u = true≢false (sym t)

none_or_one : (b : Bool) → (b ≡ true → ⊥) → one_if b ≤ 0
none_or_one true f = absurd (f refl)
none_or_one false f = omega arith

one_most : (b : Bool) → one_if b ≤ 1
one_most true = omega arith
one_most false = omega arith

-- without one place a count falls by one at most
removed : (m : ℕ) (pass : ℕ → Bool) (k : ℕ)
    → total m (λ j. one_if (pass j)) ≤ total m (λ j. one_if (put k false pass j)) + 1
removed zero pass k = omega arith
removed (suc m) pass k = ⊎_elim
    (λ (e : m ≡ k).
    let a = one_most (pass m) in
    let b = total_le m (λ j. one_if (pass j)) (λ j. one_if (put k false pass j)) (λ j l.
    let same = put_other k false pass j (omega (arith, e, l)) in
    let s = ap one_if same in
    omega (arith, s)) in
    omega (arith, a, b))
    (λ (ne : m ≢ k).
    let a = ap one_if (put_other k false pass m ne) in
    let b = removed m pass k in
    omega (arith, a, b))
    (cases_eq m k)

still_passes : (pass : ℕ → Bool) (k j : ℕ) → put k false pass j ≡ true → (j ≢ k) × (pass j ≡ true)
still_passes pass k j = put_cases (λ b. b ≡ true → (j ≢ k) × (pass j ≡ true)) k false pass j
    (λ _ t. absurd (true≢false (sym t))) (λ ne t. (ne, t))

-- those that pass have different numbers below b, so they are b at most
different : (b m : ℕ) (pass : ℕ → Bool) (f : ℕ → ℕ) → ((j : ℕ) → j < m → pass j ≡ true → f j < b)
    → ((j k : ℕ) → j < m → k < m → pass j ≡ true → pass k ≡ true → f j ≡ f k → j ≡ k)
    → total m (λ j. one_if (pass j)) ≤ b
different zero m pass f below apart =
    let a = total_le m (λ j. one_if (pass j)) (λ _. 0) (λ j l.
    none_or_one (pass j) (λ t. let w = below j l t in absurd (omega (arith, w)))) in
    let b = total_none m in
    omega (arith, a, b)
different (suc b) m pass f below apart = ⊎_elim
    (λ (found : (k : ℕ) × (k < m) × ((pass k && (f k == b)) ≡ true)).
    let t = both (pass found.0) (f found.0 == b) found.2 in
    let here : f found.0 ≡ b = eqb-true (f found.0) b t.1 in
    let a = removed m pass found.0 in
    let c = different b m (put found.0 false pass) f
    (λ j l e.
    let s = still_passes pass found.0 j e in
    let w = below j l s.1 in
    let ne : f j ≢ b = λ q. s.0 (apart j found.0 l found.1 s.1 t.0 (q ∙ sym here)) in
    omega (arith, w, ne))
    (λ j k jl kl e g. apart j k jl kl (still_passes pass found.0 j e).1 (still_passes pass found.0 k g).1) in
    omega (arith, a, c))
    (λ (none : (k : ℕ) → k < m → (pass k && (f k == b)) ≡ false).
    let c = different b m pass f
    (λ j l e.
    let w = below j l e in
    let ne : f j ≢ b = λ q. not_second (pass j) (f j == b) (none j l) e (eq-eqb (f j) b q) in
    omega (arith, w, ne))
    apart in
    omega (arith, c))
    (search_for m (λ j. pass j && (f j == b)))

-- where none has the number p, they are one fewer
different_but : (b m : ℕ) (pass : ℕ → Bool) (f : ℕ → ℕ) (p : ℕ) → p < b → ((j : ℕ) → j < m → pass j ≡ true → f j < b)
    → ((j : ℕ) → j < m → pass j ≡ true → f j ≢ p)
    → ((j k : ℕ) → j < m → k < m → pass j ≡ true → pass k ≡ true → f j ≡ f k → j ≡ k)
    → total m (λ j. one_if (pass j)) + 1 ≤ b
different_but zero m pass f p pl below not_p apart = absurd (omega (arith, pl))
different_but (suc b) m pass f p pl below not_p apart =
    -- p stands for the number b
    let g : ℕ → ℕ = λ j. if f j == b then p else f j in
    let same : (j : ℕ) → f j ≡ b → g j ≡ p = λ j e. (let t : (f j == b) ≡ true = eq-eqb (f j) b e in rw t refl) in
    let other : (j : ℕ) → f j ≢ b → g j ≡ f j = λ j ne. (let t : (f j == b) ≡ false = ne_eqb (f j) b ne in rw t refl) in
    let c = different b m pass g
    (λ j l e. ⊎_elim
    (λ (s : f j ≡ b). let u = same j s in let ne : b ≢ p = λ q. not_p j l e (s ∙ q) in omega (arith, u, ne, pl))
    (λ (o : f j ≢ b). let u = other j o in let w = below j l e in omega (arith, u, w, o)) (cases_eq (f j) b))
    (λ j k jl kl e h q. ⊎_elim
    (λ (s : f j ≡ b). ⊎_elim (λ (u : f k ≡ b). apart j k jl kl e h (s ∙ sym u))
    (λ (o : f k ≢ b). absurd (not_p k kl h (sym (other k o) ∙ sym q ∙ same j s))) (cases_eq (f k) b))
    (λ (o : f j ≢ b). ⊎_elim (λ (u : f k ≡ b). absurd (not_p j jl e (sym (other j o) ∙ q ∙ same k u)))
    (λ (v : f k ≢ b). apart j k jl kl e h (sym (other j o) ∙ q ∙ other k v)) (cases_eq (f k) b))
    (cases_eq (f j) b)) in
    omega (arith, c)

module _ {S V : Type 0} (n : Shape S V) (shape : IsShape n) where
  inputs : (p : ℕ) → p < n.parts → total n.channels (λ ch. one_if (n.to ch == p)) + 1 ≤ n.parts
  inputs p l = different_but n.parts n.channels (λ ch. n.to ch == p) n.from p l (λ ch cl _. shape.from ch cl)
      (λ ch cl t e. shape.apart ch cl (e ∙ sym (eqb-true (n.to ch) p t)))
      (λ ch k cl kl t u e. shape.single ch k cl kl e (eqb-true (n.to ch) p t ∙ sym (eqb-true (n.to k) p u)))

  outputs : (p : ℕ) → p < n.parts → total n.channels (λ ch. one_if (n.from ch == p)) + 1 ≤ n.parts
  outputs p l = different_but n.parts n.channels (λ ch. n.from ch == p) n.to p l (λ ch cl _. shape.to ch cl)
      (λ ch cl t e. shape.apart ch cl (eqb-true (n.from ch) p t ∙ sym e))
      (λ ch k cl kl t u e. shape.single ch k cl kl (eqb-true (n.from ch) p t ∙ sym (eqb-true (n.from k) p u)) e)

  pub narrow : (p : ℕ) → p < n.parts
      → total n.channels (λ ch. one_if (n.to ch == p)) + total n.channels (λ ch. one_if (n.from ch == p)) + 2
      ≤ 2 * n.parts
  narrow p l = let a = inputs p l in let b = outputs p l in omega (arith, a, b)
