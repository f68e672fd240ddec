-- Choices from the last to the first.
use Rattle.std.proofs.Common.{◌≡◌, ℕ, zero, suc, ◌≤◌, List, [], ◌∷◌, length, drop, refl, sym, ap, subst, ◌∙◌, arith}
use Rattle.std.specs.Prelude.{Result, Ok, IfOk, Some, slice_get}
use Rattle.netlist.specs.declared.node.Node.{Node}
use Rattle.vl_nodes.specs.declared.made.Made.{Made}
use Rattle.vl_nodes.specs.Sense.{Sense, Ground, chosen, on_three}
use Rattle.vl_nodes.specs.Nodes.{Is}
use Rattle.vl_nodes.specs.Calls.{MakesAt, IsOfThree}
use Rattle.vl_nodes.proofs.Making.{grows_none, is_kept}
use Rattle.vl_vectors.proofs.Joining as joining
use Rattle.vl_choices.specs.declared.choices.Choice.{Choice}
use Rattle.vl_choices.specs.Choices.{among, AreAll}

-- ---- one of them

record OneOf (g : Ground) (nodes : List Node) (k : Choice) (cs : List (Sense × Sense)) (j : ℕ) : Type 0 where
  pair : Sense × Sense
  at : drop j cs ≡ pair ∷ drop (suc j) cs
  condition : Is g nodes k.condition pair.0
  value : Is g nodes k.value pair.1

one_of : (g : Ground) (nodes : List Node) (ks : List Choice) (cs : List (Sense × Sense)) (j : ℕ) (k : Choice) → AreAll g nodes ks cs
    → slice_get ks j ≡ Some k → OneOf g nodes k cs j
one_of g nodes [] cs j k are at = absurd cc
one_of g nodes (x ∷ ks) [] j k are at = absurd are
one_of g nodes (x ∷ ks) (c ∷ cs) zero k are at =
    let same : x ≡ k = cc in
    record {
      pair = c;
      at = refl;
      condition = subst (λ (z : Choice). Is g nodes z.condition c.0) same are.0;
      value = subst (λ (z : Choice). Is g nodes z.value c.1) same are.1;
    }
one_of g nodes (x ∷ ks) (c ∷ cs) (suc j) k are at =
    let o = one_of g nodes ks cs j k are.2 at in
    record { pair = o.pair; at = o.at; condition = o.condition; value = o.value }

same_length : (g : Ground) (nodes : List Node) (ks : List Choice) (cs : List (Sense × Sense)) → AreAll g nodes ks cs → length cs ≡ length ks
same_length g nodes [] [] are = refl
same_length g nodes [] (c ∷ cs) are = absurd are
same_length g nodes (k ∷ ks) [] are = absurd are
same_length g nodes (k ∷ ks) (c ∷ cs) are = ap suc (same_length g nodes ks cs are.2)

dropped_all : {X : Type 0} (xs : List X) (n : ℕ) → length xs ≡ n → drop n xs ≡ []
dropped_all [] zero e = refl
dropped_all [] (suc n) e = refl
dropped_all (x ∷ xs) zero e = absurd (omega (arith, e))
dropped_all (x ∷ xs) (suc n) e = dropped_all xs n (omega (arith, e))

-- ---- from the last to the first

-- a node that is worth the choices from the k-th on
pub record From (from now : List Node) (ks : List Choice) (last all : Made) (k : ℕ) : Type 0 where
  pub most : k ≤ length ks
  pub width : all.width ≡ last.width
  pub made : (g : Ground) (cs : List (Sense × Sense)) (y : Sense) → AreAll g from ks cs → Is g from last y
      → MakesAt g from now last.width (among (drop k cs) y) all

pub from_last : (from : List Node) (ks : List Choice) (last : Made) → From from from ks last last (length ks)
from_last from ks last = record {
  most = omega arith;
  width = refl;
  made = λ g cs y are i.
      let none : drop (length ks) cs ≡ [] = dropped_all cs (length ks) (same_length g from ks cs are) in (
        refl,
        record {
          grown = grows_none g from;
          is = subst (λ ds. Is g from last (among ds y)) (sym none) i;
        },
      );
}

pub from_more : {E : Type 0} (from now next : List Node) (ks : List Choice) (last all m : Made) (k : Choice) (n j : ℕ)
    (r : Result Made E) → r ≡ Ok m → suc j ≡ n → slice_get ks j ≡ Some k → k.value.width ≡ last.width → m.width ≡ k.value.width
    → From from now ks last all n → IsOfThree now next k.condition k.value all k.value.width chosen r
    → From from next ks last m j
from_more from now next ks last all m k n j r ok e at wide width so made = record {
  most = omega (arith, e, so.most);
  width = width ∙ wide;
  made = λ g cs y are i.
      let a = so.made g cs y are i in
      let o = one_of g from ks cs j k are at in
      let rest : Sense = among (drop n cs) y in
      let z : Sense = on_three chosen o.pair.0 o.pair.1 rest in
      let step = made g o.pair.0 o.pair.1 rest (is_kept g from now k.condition o.pair.0 a.1.grown o.condition)
      (is_kept g from now k.value o.pair.1 a.1.grown o.value) a.1.is in
      let whole : z ≡ among (drop j cs) y =
      ap (λ i. on_three chosen o.pair.0 o.pair.1 (among (drop i cs) y)) (sym e) ∙ ap (λ ds. among ds y) (sym o.at) in
      let done = joining.then g from now next k.value.width z z r a.1.grown step (λ v fit. refl) (λ q some. refl) in
      subst (λ s. MakesAt g from next last.width s m) whole
      (subst (λ w. MakesAt g from next w z m) wide (subst (λ s. IfOk s (MakesAt g from next k.value.width z)) ok done));
}

pub from_first : (from now : List Node) (ks : List Choice) (last all : Made) (k : ℕ) → k ≡ 0 → From from now ks last all k
    → (g : Ground) (cs : List (Sense × Sense)) (y : Sense) → AreAll g from ks cs → Is g from last y
    → MakesAt g from now last.width (among cs y) all
from_first from now ks last all k none so g cs y are i =
    subst (λ n. MakesAt g from now last.width (among (drop n cs) y) all) none (so.made g cs y are i)
