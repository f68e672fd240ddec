-- Nodes side by side, one after another.
use Rattle.std.proofs.Common.{◌≡◌, ℕ, ◌+◌, ◌*◌, ◌^◌, ◌||◌, Bool, true, false, List, [], ◌∷◌, refl, sym, ap, ◌∙◌, subst, arith}
use Rattle.std.specs.Prelude.{Result, Ok, IfOk}
use Rattle.std.proofs.lemmas.Nat.{pow-add}
use Rattle.bit_ops.specs.Operators.{concat}
use Rattle.netlist.specs.Values.{Values}
use Rattle.netlist.specs.declared.design.Range.{Range}
use Rattle.netlist.specs.declared.node.Node.{Node}
use Rattle.vl_nodes.specs.declared.made.Made.{Made}
use Rattle.vl_nodes.specs.Sense.{Sense, Ground, on_two}
use Rattle.vl_nodes.specs.Nodes.{Is, Grows}
use Rattle.vl_nodes.specs.Calls.{MakesAt, IsOfTwo}
use Rattle.vl_nodes.proofs.Making.{grows_none, is_kept, is_as, or_none}
use Rattle.vl_vectors.proofs.Joining.{then}
use Rattle.vl_braces.specs.Braces.{widths, joined, some_reads, beside, AreAll}

-- what stands so far, and what is left, are the whole
pub record Rest (g : Ground) (from now : List Node) (all : Made) (rest left : List Made) (x : Sense) (xs : List Sense) : Type 0 where
  pub so_far : Sense
  pub others : List Sense
  pub are : AreAll g from left others
  pub made : MakesAt g from now all.width so_far all
  pub value : (v : Values) → concat (widths left) (so_far.value v) (joined left others v) ≡ concat (widths rest) (x.value v) (joined rest xs v)
  pub reads : (q : Range) → so_far.reads q || some_reads others q ≡ x.reads q || some_reads xs q

pub record Front (from now : List Node) (first all : Made) (rest left : List Made) : Type 0 where
  pub width : all.width + widths left ≡ first.width + widths rest
  pub made : (g : Ground) (x : Sense) (xs : List Sense) → Is g from first x → AreAll g from rest xs → Rest g from now all rest left x xs

pub front_first : (from : List Node) (first : Made) (rest : List Made) → Front from from first first rest rest
front_first from first rest = record {
  width = refl;
  made = λ g x xs i are. record {
    so_far = x;
    others = xs;
    are = are;
    made = (refl, record { grown = grows_none g from; is = i });
    value = λ v. refl;
    reads = λ q. refl;
  };
}

or_assoc : (a b c : Bool) → (a || b) || c ≡ a || (b || c)
or_assoc true b c = refl
or_assoc false b c = refl

-- what is put beside is put beside the rest
concat_more : (r w a y j : ℕ) → concat r (concat w a y) j ≡ concat (w + r) a (concat r y j)
concat_more r w a y j =
    let split : 2 ^ (w + r) ≡ 2 ^ w * 2 ^ r = pow-add 2 w r in
    let moved : (a * 2 ^ w + y) * 2 ^ r + j ≡ a * (2 ^ w * 2 ^ r) + (y * 2 ^ r + j) = omega arith in
    moved ∙ ap (λ k. a * k + (y * 2 ^ r + j)) (sym split)

grown_all : (g : Ground) (from to : List Node) (ms : List Made) (xs : List Sense) → Grows g from to → AreAll g from ms xs → AreAll g to ms xs
grown_all g from to [] [] h a = tt
grown_all g from to [] (x ∷ xs) h a = absurd a
grown_all g from to (m ∷ ms) [] h a = absurd a
grown_all g from to (m ∷ ms) (x ∷ xs) h a = (is_kept g from to m x h a.0, grown_all g from to ms xs h a.1)

rest_more : {E : Type 0} (g : Ground) (from now next : List Node) (all new part : Made) (rest more : List Made) (x : Sense)
    (xs ys : List Sense) (a : Sense) (r : Result Made E) → r ≡ Ok new → new.width ≡ all.width + part.width
    → IsOfTwo now next all part (all.width + part.width) (concat part.width) r
    → AreAll g from (part ∷ more) ys → MakesAt g from now all.width a all
    → ((v : Values) → concat (part.width + widths more) (a.value v) (joined (part ∷ more) ys v) ≡ concat (widths rest) (x.value v) (joined rest xs v))
    → ((q : Range) → a.reads q || some_reads ys q ≡ x.reads q || some_reads xs q)
    → Rest g from next new rest more x xs
rest_more g from now next all new part rest more x xs [] a r ok wide two are made value reads = absurd are
rest_more g from now next all new part rest more x xs (y ∷ ys) a r ok wide two are made value reads =
    let here = is_kept g from now part y made.1.grown are.0 in
    let z : Sense = on_two (concat part.width) a y in
    let step = then g from now next (all.width + part.width) z z r made.1.grown (two g a y made.1.is here) (λ v fit. refl) (λ q some. refl) in
    let done : MakesAt g from next (all.width + part.width) z new = subst (λ s. IfOk s (MakesAt g from next (all.width + part.width) z)) ok step in
    record {
      so_far = z;
      others = ys;
      are = are.1;
      made = subst (λ w. MakesAt g from next w z new) (sym wide) done;
      value = λ v. concat_more (widths more) part.width (a.value v) (y.value v) (joined more ys v) ∙ value v;
      reads = λ q. or_assoc (a.reads q) (y.reads q) (some_reads ys q) ∙ reads q;
    }

-- one node more
pub front_more : {E : Type 0} (from now next : List Node) (first all new part : Made) (rest left more : List Made) (r : Result Made E)
    → left ≡ part ∷ more → r ≡ Ok new → new.width ≡ all.width + part.width
    → IsOfTwo now next all part (all.width + part.width) (concat part.width) r → Front from now first all rest left
    → Front from next first new rest more
front_more from now next first all new part rest left more r e ok wide two f =
    let f2 = subst (Front from now first all rest) e f in
    record {
      width = omega (arith, wide, f2.width);
      made = λ g x xs i are.
          let k = f2.made g x xs i are in
          rest_more g from now next all new part rest more x xs k.others k.so_far r ok wide two k.are k.made k.value k.reads;
    }

-- all of them
pub front_whole : (from now : List Node) (first all : Made) (rest left : List Made) → left ≡ [] → Front from now first all rest left
    → (g : Ground) (xs : List Sense) → AreAll g from (first ∷ rest) xs
    → MakesAt g from now (first.width + widths rest) (beside (first ∷ rest) xs) all
front_whole from now first all rest left e f g [] are = absurd are
front_whole from now first all rest left e f g (x ∷ xs) are =
    let f2 = subst (Front from now first all rest) e f in
    whole g from now first all rest x xs f2.width (f2.made g x xs are.0 are.1)
  where
    no_more : (a : ℕ) → a ≡ a * 2 ^ 0 + 0
    no_more a = omega arith

    end : (ys : List Sense) (g : Ground) (from : List Node) → AreAll g from [] ys → ys ≡ []
    end [] g from are = refl
    end (y ∷ ys) g from are = absurd are

    whole : (g : Ground) (from now : List Node) (first all : Made) (rest : List Made) (x : Sense) (xs : List Sense)
        → all.width + 0 ≡ first.width + widths rest → Rest g from now all rest [] x xs
        → MakesAt g from now (first.width + widths rest) (beside (first ∷ rest) (x ∷ xs)) all
    whole g from now first all rest x xs wide k =
        let none = end k.others g from k.are in (
          omega (arith, wide),
          record {
            grown = k.made.1.grown;
            is = is_as g now all k.so_far (beside (first ∷ rest) (x ∷ xs)) k.made.1.is
                (λ v fit. no_more (k.so_far.value v) ∙ sym (ap (λ l. concat 0 (k.so_far.value v) (joined [] l v)) none) ∙ k.value v)
                (λ q some. sym (or_none (k.so_far.reads q)) ∙ ap (λ l. k.so_far.reads q || some_reads l q) (sym none) ∙ k.reads q);
          },
        )
