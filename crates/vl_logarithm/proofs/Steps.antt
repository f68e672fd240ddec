-- The least power of 2 that reaches a number, from the highest one down.
use Rattle.std.proofs.Common.{◌≡◌, ℕ, zero, suc, ◌+◌, ◌-◌, ◌*◌, ◌%◌, ◌^◌, ◌<◌, ◌≤◌, ◌||◌, Bool, true, false, if◌then◌else◌, List, refl, sym, ap, subst, ◌∙◌, arith, inl, inr}
use Rattle.std.specs.Prelude.{Result, Ok, IfOk, nat_le}
use Rattle.std.specs.Option.{unwrap_or}
use Rattle.std.proofs.lemmas.Bool.{cases_lt, le-leb, lt-leb}
use Rattle.std.proofs.lemmas.Bool.Decides.{leb_tells}
use Rattle.std.proofs.lemmas.Nat.{pow_pos}
use Rattle.std.proofs.Math.Nat.{mod-eq_of_lt, pow-suc}
use Rattle.std.proofs.Math.Pow.{pow_mono}
use Rattle.bit_ops.specs.Operators.{bit}
use Rattle.bit_ops.specs.Applied as applied
use Rattle.bit_ops.specs.declared.operator.Binary.TheVariants as two
use Rattle.dt_core.specs.Least.{least}
use Rattle.dt_core.proofs.LeastLaws.{least_some}
use Rattle.netlist.specs.declared.node.Node.{Node}
use Rattle.vl_value.specs.Meaning.{logarithm}
use Rattle.vl_nodes.specs.declared.made.Made.{Made}
use Rattle.vl_nodes.specs.Sense.{Sense, Ground, number, chosen, on_one, on_two}
use Rattle.vl_nodes.specs.Nodes.{Is}
use Rattle.vl_nodes.specs.Calls.{MakesAt, IsNumber}
use Rattle.vl_nodes.proofs.Making.{is_kept, is_as}
use Rattle.vl_vectors.proofs.Joining.{then}
use Rattle.vl_logarithm.specs.Logarithm.{least_or, IsStep}

-- ---- on numbers

-- the least number from k on, of d that are left before w, whose power of 2 is at least n; w where there is none
abbrev pub reached : ℕ → ℕ → ℕ → ℕ
reached n zero k = k
reached n (suc d) k = least_or k n (reached n d (suc k))

pub record IsLeast (n w k r : ℕ) : Type 0 where
  pub from : k ≤ r
  pub most : r ≤ w
  pub reaches : n ≤ 2 ^ r
  pub before : (j : ℕ) → k ≤ j → j < r → 2 ^ j < n

is_least : (n w d k : ℕ) → n < 2 ^ w → k + d ≡ w → IsLeast n w k (reached n d k)
is_least n w zero k l e =
    let same : k ≡ w = omega (arith, e) in
    record {
      from = omega arith;
      most = omega (arith, same);
      reaches = (let below : n < 2 ^ k = subst (λ j. n < 2 ^ j) (sym same) l in omega (arith, below));
      before = λ j a b. absurd (omega (arith, a, b));
    }
is_least n w (suc d) k l e =
    let rest = is_least n w d (suc k) l (omega (arith, e)) in
    elim (leb_tells n (2 ^ k)) [
      | inl here ↦ subst (IsLeast n w k) (ap (λ b. if b then k else reached n d (suc k)) (sym here.0)) (record {
        from = omega arith;
        most = omega (arith, e);
        reaches = here.1;
        before = λ j a b. absurd (omega (arith, a, b));
      })
      | inr later ↦ subst (IsLeast n w k) (ap (λ b. if b then k else reached n d (suc k)) (sym later.0)) (record {
        from = omega (arith, rest.from);
        most = rest.most;
        reaches = rest.reaches;
        before = λ j a b. elim (cases_lt k j) [
          | inl above ↦ rest.before j (omega (arith, above)) b
          | inr last ↦ (let same : k ≡ j = omega (arith, a, last) in subst (λ i. 2 ^ i < n) same later.1)
        ];
      })
    ]

pub reached_all : (n w : ℕ) → n < 2 ^ w → reached n w 0 ≡ logarithm w n
reached_all n w l =
    let r = is_least n w w 0 l (omega arith) in
    ap (λ o. unwrap_or o 0) (least_some (λ k. nat_le n (2 ^ k)) (suc w) (reached n w 0) (omega (arith, r.most))
    (le-leb n (2 ^ reached n w 0) r.reaches) (λ k b. lt-leb n (2 ^ k) (r.before k (omega arith) b)))

-- ---- on nodes

-- nothing is read before the first step
abbrev reads_after : ℕ → Bool → Bool
reads_after zero b = false
reads_after (suc d) b = b

abbrev pub so_far : ℕ → ℕ → Sense → Sense
so_far w k x = record { value = λ v. reached (x.value v) (w - k) k; reads = λ q. reads_after (w - k) (x.reads q) }

-- a node that is worth the least number from k on whose power of 2 is at least the other's value
pub record Reached (from now : List Node) (of least : Made) (k : ℕ) : Type 0 where
  pub most : k ≤ of.width
  pub width : least.width ≡ 32
  pub made : (g : Ground) (x : Sense) → Is g from of x → MakesAt g from now 32 (so_far of.width k x) least

pub reached_first : {E : Type 0} (from now : List Node) (of m : Made) (r : Result Made E) → r ≡ Ok m → m.width ≡ 32
    → IsNumber from now 32 of.width r → Reached from now of m of.width
reached_first from now of m r ok wide made =
    let none : of.width - of.width ≡ 0 = omega arith in
    record {
      most = omega arith;
      width = wide;
      made = λ g x i.
          let a : MakesAt g from now 32 (number of.width) m = subst (λ s. IfOk s (MakesAt g from now 32 (number of.width))) ok (made g) in (
            a.0,
            record {
              grown = a.1.grown;
              is = is_as g now m (number of.width) (so_far of.width of.width x) a.1.is
                  (λ v fit. ap (λ d. reached (x.value v) d of.width) (sym none)) (λ q some. ap (λ d. reads_after d (x.reads q)) (sym none));
            },
          );
    }

once : (d : ℕ) (b : Bool) → b || reads_after d b ≡ b
once zero true = refl
once zero false = refl
once (suc d) true = refl
once (suc d) false = refl

pub reached_more : {E : Type 0} (from now next : List Node) (of least m : Made) (k j : ℕ) (r : Result Made E) → r ≡ Ok m
    → suc j ≡ k → m.width ≡ 32 → Reached from now of least k → IsStep now next of j least r → Reached from next of m j
reached_more from now next of least m k j r ok e wide so made = record {
  most = omega (arith, e, so.most);
  width = wide;
  made = λ g x i.
      let b = so.made g x i in let y : Sense = so_far of.width k x in let w : ℕ = of.width in
      let d : w - j ≡ suc (w - k) = omega (arith, e, so.most) in
      let z : Sense = so_far w j x in
      let step = made g x y (is_kept g from now of x b.1.grown i) b.1.is in
      let all = (then) g from now next 32 (on_two (least_or j) x y) z r b.1.grown step
      (λ v fit. ap (λ i. least_or j (x.value v) (reached (x.value v) (w - k) i)) (sym e)
      ∙ ap (λ i. reached (x.value v) i j) (sym d))
      (λ q some. once (w - k) (x.reads q) ∙ ap (λ i. reads_after i (x.reads q)) (sym d)) in
      subst (λ s. IfOk s (MakesAt g from next 32 z)) ok all;
}

pub reached_whole : (from now : List Node) (of m : Made) (k : ℕ) → 1 ≤ of.width → k ≡ 0 → Reached from now of m k
    → (g : Ground) (x : Sense) → Is g from of x → MakesAt g from now 32 (on_one (logarithm of.width) x) m
reached_whole from now of m k some none so g x i =
    let a = so.made g x i in let w : ℕ = of.width in
    let d : w - k ≡ w = omega (arith, none) in
    let more : w ≡ suc (w - 1) = omega (arith, some) in (
      a.0,
      record {
        grown = a.1.grown;
        is = is_as g now m (so_far w k x) (on_one (logarithm w) x) a.1.is
            (λ v fit. ap (λ i. reached (x.value v) i k) d ∙ ap (λ i. reached (x.value v) w i) none ∙ reached_all (x.value v) w (i.fits v fit))
            (λ q b. ap (λ i. reads_after i (x.reads q)) (d ∙ more));
      },
    )

-- ---- one step

by_test : (b : Bool) (k above : ℕ) → chosen (bit b) k above ≡ (if b then k else above)
by_test true k above = refl
by_test false k above = refl

pub chosen_least : (w n k above : ℕ) → chosen (applied.binary two.Le false w n (2 ^ k)) k above ≡ least_or k n above
chosen_least w n k above = by_test (nat_le n (2 ^ k)) k above

pub some_read : (a b : Bool) → (a || false) || (false || b) ≡ a || b
some_read true b = refl
some_read false b = refl

pub power_small : (k w : ℕ) → k < w → w ≤ 128 → 1 * 2 ^ k % 2 ^ 128 ≡ 2 ^ k
power_small k w less most =
    let one : 1 * 2 ^ k ≡ 2 ^ k = omega arith in
    let more : 2 ^ suc k ≤ 2 ^ 128 = pow_mono {j = 128} (omega (arith, less, most)) in
    ap (λ n. n % 2 ^ 128) one ∙ mod-eq_of_lt (omega (arith, more, pow-suc 2 k, pow_pos k))

pub power_below : (k w : ℕ) → k < w → 2 ^ k < 2 ^ w
power_below k w less =
    let more : 2 ^ suc k ≤ 2 ^ w = pow_mono {j = w} (omega (arith, less)) in omega (arith, more, pow-suc 2 k, pow_pos k)
