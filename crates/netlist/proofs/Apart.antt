-- Ranges in order, and two lists of parts that share no bit.
use Rattle.std.proofs.Common.{◌≡◌, ℕ, zero, suc, ◌+◌, ◌-◌, ◌<◌, ◌≤◌, inl, inr, List, length, get_or, refl, sym, subst, arith}
use Rattle.std.proofs.Math.Logic.{⊎_elim}
use Rattle.std.proofs.lemmas.Bool.{cases_lt}
use Rattle.netlist.specs.Fits.{IsBefore, AreInOrder, AreApart, StandBefore, IsBeforePart, DrivenInOrder, RegistersInOrder}
use Rattle.netlist.specs.declared.design.Range.{Range}
use Rattle.netlist.specs.declared.design.DrivenPart.{DrivenPart}
use Rattle.netlist.specs.declared.design.RegisterPart.{RegisterPart}

pub before_trans : (a b c : Range) → IsBefore a b → IsBefore b c → IsBefore a c
before_trans a b c p q = grind arith

-- neighbours in order are all in order: n elements stand between the two
between : {X : Type 0} (range : X → Range) (xs : List X) → AreInOrder range xs → (i n j : ℕ) (d : X)
    → j ≡ suc (i + n) → j < length xs
    → IsBefore (range (get_or xs i d)) (range (get_or xs j d))
between range xs h i zero j d e l =
    let next : suc i ≡ j = omega arith in
    subst (λ k. IsBefore (range (get_or xs i d)) (range (get_or xs k d))) next (h i d (omega arith))
between range xs h i (suc n) j d e l =
    let m : ℕ = suc (i + n) in
    let next : suc m ≡ j = omega arith in
    before_trans (range (get_or xs i d)) (range (get_or xs m d)) (range (get_or xs j d))
    (between range xs h i n m d refl (omega arith))
    (subst (λ k. IsBefore (range (get_or xs m d)) (range (get_or xs k d))) next (h m d (omega arith)))

pub all_before : {X : Type 0} (range : X → Range) (xs : List X) → AreInOrder range xs → (i j : ℕ) (d : X) → i < j
    → j < length xs
    → IsBefore (range (get_or xs i d)) (range (get_or xs j d))
all_before range xs h i j d l w = between range xs h i (j - suc i) j d (omega arith) w

-- ---- a register part further

blank_register : RegisterPart
blank_register = record { range = record { signal = 0; low = 0; width = 0 }; block = 0; next = 0; initial = 0 }

-- the driven parts up to m stand before the register part i, so before each later one
pub still_before : (driven : List DrivenPart) (registers : List RegisterPart) (i n m : ℕ) (r : Range)
    → RegistersInOrder registers
    → ((e : RegisterPart) → i < length registers → (get_or registers i e).range ≡ r)
    → ((j : ℕ) (e : RegisterPart) → i ≤ j → j < length registers
    → StandBefore driven 0 n (get_or registers j e).range) → StandBefore driven n m r
    → (j : ℕ) (e : RegisterPart) → i + 1 ≤ j → j < length registers
    → StandBefore driven 0 m (get_or registers j e).range
still_before driven registers i n m r o is old new j e l w k d from to =
    ⊎_elim (λ (p : k < n). old j e (omega arith) w k d from p)
    (λ (p : n ≤ k). before_trans (get_or driven k d).range r (get_or registers j e).range (new k d p to)
    (subst (λ q. IsBefore q (get_or registers j e).range) (is e (omega arith)) (all_before
    (λ x. x.range) registers o i j e (omega arith) w))) (cases_lt k n)

-- the driven parts before m stand before the register part i, and it before all others
pub one_more_apart : (driven : List DrivenPart) (registers : List RegisterPart) (i m : ℕ) (r : Range)
    → DrivenInOrder driven
    → ((e : RegisterPart) → i < length registers → (get_or registers i e).range ≡ r) → i < length registers
    → StandBefore driven 0 m r
    → ((d : DrivenPart) → m < length driven → IsBefore r (get_or driven m d).range)
    → ((k j : ℕ) (d : DrivenPart) (e : RegisterPart) → k < length driven → j < i
    → AreApart (get_or driven k d).range (get_or registers j e).range)
    → (k j : ℕ) (d : DrivenPart) (e : RegisterPart) → k < length driven → j < i + 1
    → AreApart (get_or driven k d).range (get_or registers j e).range
one_more_apart driven registers i m r o is there before after old k j d e w l =
    ⊎_elim (λ (p : j < i). old k j d e w p)
    (λ (p : i ≤ j).
    let same : i ≡ j = omega arith in
    let own : AreApart (get_or driven k d).range r =
    ⊎_elim (λ (q : k < m). inl (before k d (omega arith) q))
    (λ (q : m ≤ k). ⊎_elim (λ (z : m < k). inr (before_trans r (get_or driven m d).range (get_or driven k d).range
    (after d (omega arith)) (all_before (λ x. x.range) driven o m k d z w)))
    (λ (z : k ≤ m). let at : m ≡ k = omega arith in inr (subst (λ x. IsBefore r (get_or driven x d).range) at
    (after d (omega arith)))) (cases_lt m k)) (cases_lt k m) in
    subst (λ x. AreApart (get_or driven k d).range (get_or registers x e).range) same
    (subst (λ x. AreApart (get_or driven k d).range x) (sym (is e there)) own)) (cases_lt j i)

-- the driven parts up to m stand before a range: those up to n did, and the next ones do
passed : (driven : List DrivenPart) (n m : ℕ) (r : Range) → StandBefore driven 0 n r → StandBefore driven n m r
    → StandBefore driven 0 m r
passed driven n m r old new k d from to = ⊎_elim (λ (p : k < n). old k d from p) (λ (p : n ≤ k). new k d p to)
    (cases_lt k n)

-- both of these, from what is known of the register part at i
pub a_part_further : (driven : List DrivenPart) (registers : List RegisterPart) (i n m : ℕ) (r : Range)
    → DrivenInOrder driven → RegistersInOrder registers
    → i < length registers
    → ((j : ℕ) (e : RegisterPart) → i ≤ j → j < length registers → StandBefore driven 0 n (get_or registers j e).range)
    → ((k j : ℕ) (d : DrivenPart) (e : RegisterPart) → k < length driven → j < i
    → AreApart (get_or driven k d).range (get_or registers j e).range)
    → StandBefore driven n m r → IsBeforePart r driven m → ((e : RegisterPart) → (get_or registers i e).range ≡ r)
    → ((j : ℕ) (e : RegisterPart) → i + 1 ≤ j → j < length registers
    → StandBefore driven 0 m (get_or registers j e).range)
    × ((k j : ℕ) (d : DrivenPart) (e : RegisterPart) → k < length driven → j < i + 1
    → AreApart (get_or driven k d).range (get_or registers j e).range)
a_part_further driven registers i n m r o w there before apart new after is = (
  still_before driven registers i n m r w (λ e _. is e) before new,
  one_more_apart driven registers i m r o (λ e _. is e) there
      (passed driven n m r (λ k d from to.
      let e : RegisterPart = blank_register in
      subst (λ q. IsBefore (get_or driven k d).range q) (is e) (before i e
      (omega arith) there k d from to)) new) after apart,
)
