-- Copies of a node, one after another.
use Rattle.std.proofs.Common.{◌≡◌, ℕ, suc, ◌+◌, ◌*◌, ◌<◌, ◌≤◌, ◌||◌, Bool, true, false, List, refl, sym, ap, subst, arith}
use Rattle.std.specs.Prelude.{Result, Ok, IfOk}
use Rattle.std.proofs.Math.Nat.{mul-le-mul_right}
use Rattle.dt_core.specs.declared.limits.TheConstants.{MAX_WIDTH}
use Rattle.bit_ops.specs.Operators.{concat}
use Rattle.netlist.specs.declared.node.Node.{Node}
use Rattle.vl_value.specs.Meaning.{repeated}
use Rattle.vl_nodes.specs.declared.made.Made.{Made}
use Rattle.vl_nodes.specs.Sense.{Sense, Ground, on_one, on_two}
use Rattle.vl_nodes.specs.Nodes.{Is}
use Rattle.vl_nodes.specs.Calls.{MakesAt, IsOfTwo}
use Rattle.vl_nodes.proofs.Making.{grows_none, is_kept, is_as}
use Rattle.vl_vectors.proofs.Joining.{then}

-- a node that is worth so many copies of another, and reads what it reads
abbrev pub AreCopies : List Node → List Node → Made → ℕ → Made → Type 0
AreCopies from now of n all = (g : Ground) (x : Sense) → Is g from of x → MakesAt g from now (n * of.width) (on_one (repeated n of.width) x) all

pub record Copied (from now : List Node) (of all : Made) (count n : ℕ) : Type 0 where
  pub some : 1 ≤ n
  pub most : n ≤ count
  pub width : all.width ≡ n * of.width
  pub made : AreCopies from now of n all

one_copy : (w a : ℕ) → a ≡ repeated 1 w a
one_copy w a = omega arith

pub copied_once : (from : List Node) (of : Made) (count : ℕ) → 1 ≤ count → Copied from from of of count 1
copied_once from of count h = record {
  some = omega arith;
  most = h;
  width = omega arith;
  made = λ g x i. (
    omega arith,
    record {
      grown = grows_none g from;
      is = is_as g from of x (on_one (repeated 1 of.width) x) i (λ v fit. one_copy of.width (x.value v)) (λ q some. refl);
    },
  );
}

pub fits_more : (n count w : ℕ) → n < count → count * w ≤ MAX_WIDTH → n * w + w ≤ MAX_WIDTH
fits_more n count w less fit =
    let more : suc n * w ≤ count * w = mul-le-mul_right w less in omega (arith, more, fit)

same_twice : (b : Bool) → b || b ≡ b
same_twice true = refl
same_twice false = refl

-- one copy more
pub copied_more : {E : Type 0} (from now next : List Node) (of all : Made) (count n : ℕ) (r : Result Made E) (m : Made) → r ≡ Ok m
    → n < count → Copied from now of all count n → m.width ≡ all.width + of.width
    → IsOfTwo now next all of (all.width + of.width) (concat of.width) r → Copied from next of m count (n + 1)
copied_more from now next of all count n r m ok less c wide joined = record {
  some = omega arith;
  most = omega (arith, less);
  width = omega (arith, wide, c.width);
  made = λ g x i.
      let k = c.made g x i in let w : ℕ = of.width in let y : Sense = on_one (repeated n w) x in
      let here = is_kept g from now of x k.1.grown i in
      let z : Sense = on_one (repeated (n + 1) w) x in
      let whole : all.width + w ≡ (n + 1) * w = omega (arith, c.width) in
      let sum : n + 1 ≡ suc n = omega arith in
      let all_made = then g from now next (all.width + w) (on_two (concat w) y x) z r k.1.grown (joined g y x k.1.is here)
      (λ v fit. ap (λ j. repeated j w (x.value v)) (sym sum)) (λ q some. same_twice (x.reads q)) in
      subst (λ u. MakesAt g from next u z m) whole (subst (λ s. IfOk s (MakesAt g from next (all.width + w) z)) ok all_made);
}

pub copied_all : (from now : List Node) (of all : Made) (count n : ℕ) → n ≡ count → Copied from now of all count n
    → AreCopies from now of count all
copied_all from now of all count n e c = subst (λ k. AreCopies from now of k all) e c.made
