-- Each line of the text of a design is the line of the file that its spot names.
use Rattle.std.proofs.Common.{◌≡◌, ℕ, zero, suc, ◌+◌, ◌-◌, ◌==◌, ◌≤◌, Bool, true, false, cond, List, [], ◌∷◌, ◌++◌, take, refl, sym, ap, subst, ◌∙◌, arith, append-nil}
use Rattle.std.specs.Prelude.{nat_le}
use Rattle.std.specs.List.{count_by}
use Rattle.std.proofs.lemmas.List.Sums.{sum_by-cons, sum_by-append}
use Rattle.std.proofs.lemmas.Bool.Decides.{nat_tests}
use Rattle.dessert.specs.Sources.{ends_line, closed, design_text, line_count, Spot, origins_of, spot_in, line_at, IsSpot, SpotsAreRight}

-- how many lines a text has: one for each LF
abbrev ends : List ℕ → ℕ
ends = count_by (λ b. b == 10)

ends_more : (b : ℕ) (bs : List ℕ) (t : Bool) → (b == 10) ≡ t → ends (b ∷ bs) ≡ cond t 1 0 + ends bs
ends_more b bs t e = sum_by-cons (λ y. cond (y == 10) 1 0) b bs ∙ ap (λ (u : Bool). cond u 1 0 + ends bs) e

ends_joined : (xs ys : List ℕ) → ends (xs ++ ys) ≡ ends xs + ends ys
ends_joined = sum_by-append (λ y. cond (y == 10) 1 0)

-- ---- a line of the first text

front_by : (b : ℕ) (bs ys : List ℕ) (n : ℕ) (t : Bool) → (b == 10) ≡ t → 1 ≤ n → n ≤ ends (b ∷ bs) → ((m : ℕ) → 1 ≤ m → m ≤ ends bs → line_at m (bs ++ ys) ≡ line_at m bs)
    → line_at n (b ∷ bs ++ ys) ≡ line_at n (b ∷ bs)
front_by b bs ys zero t e h k more = absurd (omega (arith, h))
front_by b bs ys (suc zero) true e h k more = rw e refl
front_by b bs ys (suc zero) false e h k more = let c = ends_more b bs _ e in rw e (λ i. b ∷ more 1 (omega arith) (omega (arith, c, k)) i)
front_by b bs ys (suc (suc n)) true e h k more = let c = ends_more b bs _ e in rw e (more (suc n) (omega arith) (omega (arith, c, k)))
front_by b bs ys (suc (suc n)) false e h k more = let c = ends_more b bs _ e in rw e (more (suc (suc n)) (omega arith) (omega (arith, c, k)))

-- a line that ends in the first text is a line of it
front_line : (xs ys : List ℕ) (n : ℕ) → 1 ≤ n → n ≤ ends xs → line_at n (xs ++ ys) ≡ line_at n xs
front_line [] ys n h k = absurd (omega (arith, h, k))
front_line (b ∷ bs) ys n h k = front_by b bs ys n (b == 10) refl h k (front_line bs ys)

-- ---- a line of the second text

-- the text ends with LF
abbrev IsEnded : List ℕ → Type 0
IsEnded [] = ⊥
IsEnded (b ∷ []) = (b == 10) ≡ true
IsEnded (b ∷ c ∷ bs) = IsEnded (c ∷ bs)

ended_some : (xs : List ℕ) → IsEnded xs → 1 ≤ ends xs
ended_some [] e = absurd e
ended_some (b ∷ []) e = let c = ends_more b [] _ e in omega (arith, c)
ended_some (b ∷ c ∷ bs) e = let d = ends_more b (c ∷ bs) (b == 10) refl in let s = ended_some (c ∷ bs) e in omega (arith, d, s)

behind_by : (b c : ℕ) (bs ys : List ℕ) (n m : ℕ) (t : Bool) → (b == 10) ≡ t → 1 ≤ m → n ≡ ends (b ∷ c ∷ bs) + m → 1 ≤ ends (c ∷ bs)
    → ((k : ℕ) → k ≡ ends (c ∷ bs) + m → line_at k ((c ∷ bs) ++ ys) ≡ line_at m ys) → line_at n (b ∷ (c ∷ bs) ++ ys) ≡ line_at m ys
behind_by b c bs ys zero m t e h k s more = absurd (omega (arith, h, k))
behind_by b c bs ys (suc zero) m t e h k s more = let d = ends_more b (c ∷ bs) t e in absurd (omega (arith, h, k, s, d))
behind_by b c bs ys (suc (suc n)) m true e h k s more = let d = ends_more b (c ∷ bs) _ e in rw e (more (suc n) (omega (arith, d, k)))
behind_by b c bs ys (suc (suc n)) m false e h k s more = let d = ends_more b (c ∷ bs) _ e in rw e (more (suc (suc n)) (omega (arith, d, k)))

behind_one : (b : ℕ) (ys : List ℕ) (n m : ℕ) → (b == 10) ≡ true → 1 ≤ m → n ≡ ends (b ∷ []) + m → line_at n (b ∷ ys) ≡ line_at m ys
behind_one b ys zero m e h k = absurd (omega (arith, h, k))
behind_one b ys (suc zero) m e h k = let d = ends_more b [] _ e in absurd (omega (arith, h, k, d))
behind_one b ys (suc (suc n)) m e h k = let d = ends_more b [] _ e in let s : suc n ≡ m = omega (arith, d, k) in rw e (ap (λ (x : ℕ). line_at x ys) s)

-- a line that begins after the first text is a line of the second
behind_line : (xs ys : List ℕ) (n m : ℕ) → IsEnded xs → 1 ≤ m → n ≡ ends xs + m → line_at n (xs ++ ys) ≡ line_at m ys
behind_line [] ys n m e h k = absurd e
behind_line (b ∷ []) ys n m e h k = behind_one b ys n m e h k
behind_line (b ∷ c ∷ bs) ys n m e h k = behind_by b c bs ys n m (b == 10) refl h k (ended_some (c ∷ bs) e) (λ i. behind_line (c ∷ bs) ys i m e h)

-- ---- files

ended_by : (bs : List ℕ) → ends_line bs ≡ true → IsEnded bs
ended_by [] e = absurd cc
ended_by (b ∷ []) e = e
ended_by (b ∷ c ∷ bs) e = ended_by (c ∷ bs) e

ended_behind : (bs : List ℕ) → IsEnded (bs ++ 10 ∷ [])
ended_behind [] = refl
ended_behind (b ∷ []) = refl
ended_behind (b ∷ c ∷ bs) = ended_behind (c ∷ bs)

closed_by : (file : List ℕ) (t : Bool) → ends_line file ≡ t → IsEnded (closed file)
closed_by file true e = rw e (ended_by file e)
closed_by file false e = rw e (ended_behind file)

module _ (name other : List ℕ) (names : List (List ℕ)) (file next : List ℕ) (files : List (List ℕ)) (line : ℕ) (h : 1 ≤ line) where
  -- the line is among those of the first file, or after them
  spot_by : (t : Bool) → nat_le line (line_count file) ≡ t → line ≤ ends (design_text (file ∷ next ∷ files))
      → ((left : ℕ) → 1 ≤ left → left ≤ ends (design_text (next ∷ files)) → (k : ℕ) × IsSpot (other ∷ names) (next ∷ files) left k (spot_in (origins_of (other ∷ names) (next ∷ files)) left))
      → (k : ℕ) × IsSpot (name ∷ other ∷ names) (file ∷ next ∷ files) line k (spot_in (origins_of (name ∷ other ∷ names) (file ∷ next ∷ files)) line)
  spot_by true e k more =
      let l : line ≤ line_count file = grind (arith, nat_tests, e) in
      (0, subst (λ (s : Spot). IsSpot (name ∷ other ∷ names) (file ∷ next ∷ files) line 0 s) (rw e refl) (record { there = omega arith; place = omega arith; named = refl; within = (h, l); same = sym (front_line (closed file) (design_text (next ∷ files)) line h l) }))
  spot_by false e k more =
      let l : line_count file + 1 ≤ line = grind (arith, nat_tests, e) in
      let j = ends_joined (closed file) (design_text (next ∷ files)) in
      let r = more (line - line_count file) (omega (arith, l)) (omega (arith, l, j, k)) in (
        suc r.0,
        subst (λ (s : Spot). IsSpot (name ∷ other ∷ names) (file ∷ next ∷ files) line (suc r.0) s) (rw e refl) (record {
          there = omega (arith, r.1.there);
          place = let p = ends_joined (closed file) (design_text (take r.0 (next ∷ files))) in omega (arith, p, r.1.place, l);
          named = r.1.named;
          within = r.1.within;
          same = r.1.same ∙ sym (behind_line (closed file) (design_text (next ∷ files)) line (line - line_count file) (closed_by file (ends_line file) refl) (omega (arith, l)) (omega (arith, l)));
        }),
      )

pub spots_are_right : SpotsAreRight
spots_are_right [] [] line e h k = absurd (omega (arith, h, k))
spots_are_right [] (file ∷ files) line e h k = absurd (omega (arith, e))
spots_are_right (name ∷ names) [] line e h k = absurd (omega (arith, e))
spots_are_right (name ∷ []) (file ∷ []) line e h k =
    let n = append-nil (closed file) in
    (0, record { there = omega arith; place = omega arith; named = refl; within = (h, subst (λ (x : List ℕ). line ≤ ends x) n k); same = ap (line_at line) (sym n) })
spots_are_right (name ∷ []) (file ∷ next ∷ files) line e h k = absurd (omega (arith, e))
spots_are_right (name ∷ other ∷ names) (file ∷ []) line e h k = absurd (omega (arith, e))
spots_are_right (name ∷ other ∷ names) (file ∷ next ∷ files) line e h k =
    spot_by name other names file next files line h (nat_le line (line_count file)) refl k
    (λ left i j. spots_are_right (other ∷ names) (next ∷ files) left (omega (arith, e)) i j)
