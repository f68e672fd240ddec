-- What a node reads first, from what its operands do.
use Rattle.std.proofs.Common.{◌≡◌, ℕ, suc, ◌<◌, ◌⊎◌, ◌||◌, inl, inr, Bool, true, false, List, [], ◌∷◌, length, refl, sym, ap, ◌∙◌, ◌+◌, ◌++◌, get_or, subst, arith}
use Rattle.std.specs.Prelude.{Option, None, Some, slice_get, slice_index, slice_index_or, IsSomeAnd}
use Rattle.std.proofs.lemmas.Bool.{or_cases, cases_lt}
use Rattle.std.proofs.lemmas.List.{get_or_append_left, get_or_push}
use Rattle.std.proofs.lemmas.List.Elements.{All-get_or}
use Rattle.std.proofs.lemmas.Option.{slice_get-get_or, slice_get_within}
use Rattle.netlist.specs.Design.{Flat}
use Rattle.netlist.specs.Fits.{IsWellFormed, DrivenFits}
use Rattle.netlist.specs.Graph.{operands, reads, reads_bits, some_reads, nodes_read, ReadsPart}
use Rattle.netlist.specs.Laws.{ReadsLaw, OperandsLaw}
use Rattle.netlist.specs.declared.design.Range.{Range}
use Rattle.netlist.specs.declared.design.DrivenPart.{DrivenPart}
use Rattle.netlist.specs.declared.node.Node.{Node}
use Rattle.netlist.specs.declared.node.Operation.{Operation}
use Rattle.netlist.specs.declared.node.Operation.TheVariants as o
use Rattle.comb_order.specs.First.{IsFirst, NodeReads, NodesFirst, Touches, first_of, first_among}
use Rattle.comb_order.proofs.First.{first_of_both, first_same}

-- ---- an operation that isn't a leaf touches no part

not_touched : (driven : List DrivenPart) (q : ℕ) (x : Option DrivenPart) → IsSomeAnd x (λ y. false ≡ true) → ⊥
not_touched driven q None h = h
not_touched driven q (Some y) h = absurd cc

pub touches_none : (driven : List DrivenPart) (ranks : List ℕ) (x : Operation)
    → ((r : Range) → x ≡ o.Bits r → ⊥) → IsFirst ranks (Touches driven x) None
touches_none driven ranks (o.Bits range) h q t = h range refl
touches_none driven ranks (o.Constant value) h q t = not_touched driven q (slice_get driven q) t
touches_none driven ranks (o.Word memory index) h q t = not_touched driven q (slice_get driven q) t
touches_none driven ranks (o.Unary operator a) h q t = not_touched driven q (slice_get driven q) t
touches_none driven ranks (o.Binary operator signed a b) h q t = not_touched driven q (slice_get driven q) t
touches_none driven ranks (o.Extend signed a) h q t = not_touched driven q (slice_get driven q) t
touches_none driven ranks (o.Cut a) h q t = not_touched driven q (slice_get driven q) t
touches_none driven ranks (o.Select a place) h q t = not_touched driven q (slice_get driven q) t
touches_none driven ranks (o.Insert a place b) h q t = not_touched driven q (slice_get driven q) t
touches_none driven ranks (o.Concat a b) h q t = not_touched driven q (slice_get driven q) t
touches_none driven ranks (o.Choose c a b) h q t = not_touched driven q (slice_get driven q) t
touches_none driven ranks (o.Keep a b) h q t = not_touched driven q (slice_get driven q) t

-- ---- some of these nodes reads a part

abbrev pub AnyReads : Flat → List ℕ → ℕ → Type 0
AnyReads f [] q = ⊥
AnyReads f (a ∷ as') q = NodeReads f a q ⊎ AnyReads f as' q

abbrev AllKnown : Flat → List ℕ → List (Option ℕ) → List ℕ → Type 0
AllKnown f ranks firsts [] = Unit {0}
AllKnown f ranks firsts (a ∷ as') = IsFirst ranks (NodeReads f a) (slice_index_or firsts a None)
    × AllKnown f ranks firsts as'

among : (f : Flat) (ranks : List ℕ) (firsts : List (Option ℕ)) (P : ℕ → Type 0) (best : Option ℕ) (as' : List ℕ)
    → AllKnown f ranks firsts as' → IsFirst ranks P best
    → IsFirst ranks (λ q. P q ⊎ AnyReads f as' q) (first_among ranks firsts best as')
among f ranks firsts P best [] known h =
    first_same ranks P (λ q. P q ⊎ ⊥) best (λ q p. inl p) (λ q e. elim e [ inl p ↦ p | inr n ↦ absurd n ]) h
among f ranks firsts P best (a ∷ as') known h =
    first_same ranks (λ q. (P q ⊎ NodeReads f a q) ⊎ AnyReads f as' q)
    (λ q. P q ⊎ (NodeReads f a q ⊎ AnyReads f as' q))
    (first_among ranks firsts (first_of ranks best (slice_index_or firsts a None)) as')
    (λ q e. elim e [ inl p ↦ elim p [ inl x ↦ inl x | inr x ↦ inr (inl x) ] | inr x ↦ inr (inr x) ])
    (λ q e. elim e [ inl x ↦ inl (inl x) | inr p ↦ elim p [ inl x ↦ inl (inr x) | inr x ↦ inr x ] ])
    (among f ranks firsts (λ q. P q ⊎ NodeReads f a q)
    (first_of ranks best (slice_index_or firsts a None)) as' known.1
    (first_of_both ranks P (NodeReads f a) best (slice_index_or firsts a None) h known.0))

-- ---- a node reads what its operation touches, and what its operands read

abbrev AnyOf : Flat → List ℕ → Option DrivenPart → Type 0
AnyOf f [] x = ⊥
AnyOf f (a ∷ as') x = IsSomeAnd x (λ y. reads f a y ≡ true) ⊎ AnyOf f as' x

any_of : (f : Flat) (as' : List ℕ) (q : ℕ) → AnyReads f as' q → AnyOf f as' (slice_get f.driven q)
any_of f [] q h = h
any_of f (a ∷ as') q h = elim h [ inl x ↦ inl x | inr x ↦ inr (any_of f as' q x) ]

of_any : (f : Flat) (as' : List ℕ) (q : ℕ) → AnyOf f as' (slice_get f.driven q) → AnyReads f as' q
of_any f [] q h = h
of_any f (a ∷ as') q h = elim h [ inl x ↦ inl x | inr x ↦ inr (of_any f as' q x) ]

none_of : (f : Flat) (as' : List ℕ) → AnyOf f as' None → ⊥
none_of f [] h = h
none_of f (a ∷ as') h = elim h [ inl x ↦ x | inr x ↦ none_of f as' x ]

true_or : (a b : Bool) → a ≡ true → (a || b) ≡ true
true_or a b h = ap (λ x. x || b) h

or_true : (a b : Bool) → b ≡ true → (a || b) ≡ true
or_true true b h = refl
or_true false b h = h

any_some : (f : Flat) (as' : List ℕ) (y : DrivenPart) → AnyOf f as' (Some y)
    → some_reads (nodes_read y.range [] f.nodes) as' ≡ true
any_some f [] y h = absurd h
any_some f (a ∷ as') y h = elim h [
  | inl x ↦ true_or (slice_index_or (nodes_read y.range [] f.nodes) a false)
      (some_reads (nodes_read y.range [] f.nodes) as') x
  | inr x ↦ or_true (slice_index_or (nodes_read y.range [] f.nodes) a false)
      (some_reads (nodes_read y.range [] f.nodes) as') (any_some f as' y x)
]

some_any : (f : Flat) (as' : List ℕ) (y : DrivenPart) → some_reads (nodes_read y.range [] f.nodes) as' ≡ true
    → AnyOf f as' (Some y)
some_any f [] y h = absurd cc
some_any f (a ∷ as') y h = elim (or_cases (slice_index_or (nodes_read y.range [] f.nodes) a false)
    (some_reads (nodes_read y.range [] f.nodes) as') h) [
      | inl x ↦ inl x
      | inr x ↦ inr (some_any f as' y x)
    ]

node_reads_to : (f : Flat) → IsWellFormed f → ReadsLaw → (n : ℕ) (x : Node) → slice_get f.nodes n ≡ Some x
    → (p : Option DrivenPart) → (IsSomeAnd p (λ y. reads_bits y.range x.operation ≡ true)
    ⊎ AnyOf f (operands x.operation) p) → IsSomeAnd p (λ y. reads f n y ≡ true)
node_reads_to f w law n x at None h = elim h [ inl a ↦ a | inr a ↦ none_of f (operands x.operation) a ]
node_reads_to f w law n x at (Some y) h =
    (law f y.range w).each n x at ∙ elim h [
      | inl a ↦ true_or (reads_bits y.range x.operation)
          (some_reads (nodes_read y.range [] f.nodes) (operands x.operation)) a
      | inr a ↦ or_true (reads_bits y.range x.operation)
          (some_reads (nodes_read y.range [] f.nodes) (operands x.operation)) (any_some f (operands x.operation) y a)
    ]

node_reads_from : (f : Flat) → IsWellFormed f → ReadsLaw → (n : ℕ) (x : Node) → slice_get f.nodes n ≡ Some x
    → (p : Option DrivenPart) → IsSomeAnd p (λ y. reads f n y ≡ true)
    → IsSomeAnd p (λ y. reads_bits y.range x.operation ≡ true) ⊎ AnyOf f (operands x.operation) p
node_reads_from f w law n x at None h = absurd h
node_reads_from f w law n x at (Some y) h =
    elim (or_cases (reads_bits y.range x.operation)
    (some_reads (nodes_read y.range [] f.nodes) (operands x.operation)) (sym ((law f y.range w).each n x at) ∙ h)) [
      | inl a ↦ inl a
      | inr a ↦ inr (some_any f (operands x.operation) y a)
    ]

all_known : (f : Flat) (ranks : List ℕ) (firsts : List (Option ℕ)) → NodesFirst f ranks firsts → (as' : List ℕ)
    → ((i : ℕ) → i < length as' → slice_index as' i < length firsts) → AllKnown f ranks firsts as'
all_known f ranks firsts known [] l = tt
all_known f ranks firsts known (a ∷ as') l =
    (known a (l 0 (omega arith)), all_known f ranks firsts known as' (λ i b. l (suc i) (omega (arith, b))))

-- the first of what it touches and of what its operands read first
pub node_first : (f : Flat) → IsWellFormed f → ReadsLaw → OperandsLaw → (ranks : List ℕ) (firsts : List (Option ℕ))
    → (n : ℕ) (x : Node) (own : Option ℕ) → slice_get f.nodes n ≡ Some x → length firsts ≡ n
    → NodesFirst f ranks firsts → IsFirst ranks (Touches f.driven x.operation) own
    → IsFirst ranks (NodeReads f n)
    (first_of ranks own (first_among ranks firsts None (operands x.operation)))
node_first f w reads_law lower ranks firsts n x own at count known h =
    let as' : List ℕ = operands x.operation in
    let through : Option ℕ = first_among ranks firsts None as' in
    let below : IsFirst ranks (λ q. ⊥ ⊎ AnyReads f as' q) through =
    among f ranks firsts (λ q. ⊥) None as' (all_known f ranks firsts known as'
    (λ i l. subst (λ m. slice_index as' i < m) (sym count) (lower f n x i w at l))) (λ q e. e) in
    first_same ranks (λ q. Touches f.driven x.operation q ⊎ (⊥ ⊎ AnyReads f as' q)) (NodeReads f n)
    (first_of ranks own through)
    (λ q e. node_reads_to f w reads_law n x at (slice_get f.driven q) (elim e [
      | inl a ↦ inl a
      | inr a ↦ elim a [ inl b ↦ absurd b | inr b ↦ inr (any_of f as' q b) ]
    ]))
    (λ q e. elim (node_reads_from f w reads_law n x at (slice_get f.driven q) e) [
      | inl a ↦ inl a
      | inr a ↦ inr (inr (of_any f as' q a))
    ])
    (first_of_both ranks (Touches f.driven x.operation) (λ q. ⊥ ⊎ AnyReads f as' q) own through h below)

-- what a part reads first is what its node does
pub part_first : (f : Flat) (ranks : List ℕ) (p : ℕ) (x : DrivenPart) (found : Option ℕ)
    → slice_get f.driven p ≡ Some x → IsFirst ranks (NodeReads f x.node) found → IsFirst ranks (ReadsPart f p) found
part_first f ranks p x found at h =
    first_same ranks (NodeReads f x.node) (ReadsPart f p) found
    (λ q r. subst (λ (o : Option DrivenPart). IsSomeAnd o (λ y. NodeReads f y.node q)) (sym at) r)
    (λ q r. subst (λ (o : Option DrivenPart). IsSomeAnd o (λ y. NodeReads f y.node q)) at r) h

-- ---- as the code reads them

pub node_first_of : (f : Flat) → IsWellFormed f → ReadsLaw → OperandsLaw → (ranks : List ℕ)
    → (firsts : List (Option ℕ)) (n : ℕ) (nodes : List Node) (driven : List DrivenPart) (d : Node)
    → (own through result : Option ℕ) → n < length f.nodes → length firsts ≡ n → NodesFirst f ranks firsts
    → nodes ≡ f.nodes → driven ≡ f.driven → IsFirst ranks (Touches driven (get_or nodes n d).operation) own
    → through ≡ first_among ranks firsts None (operands (get_or nodes n d).operation)
    → result ≡ first_of ranks own through → IsFirst ranks (NodeReads f n) result
node_first_of f w reads_law lower ranks firsts n nodes driven d own through result l count known same parts h t r =
    let x : Node = get_or nodes n d in
    let at : slice_get f.nodes n ≡ Some x =
    slice_get-get_or f.nodes n d l ∙ ap (λ (ns : List Node). Some (get_or ns n d)) (sym same) in
    subst (λ (o : Option ℕ). IsFirst ranks (NodeReads f n) o) (sym (r ∙ ap (first_of ranks own) t))
    (node_first f w reads_law lower ranks firsts n x own at count known
    (subst (λ (ds : List DrivenPart). IsFirst ranks (Touches ds x.operation) own) parts h))

some_within : (nodes : List Node) (k : ℕ) (P : Node → Type 0) (x : Option Node) → slice_get nodes k ≡ x
    → IsSomeAnd x P → k < length nodes
some_within nodes k P None at h = absurd h
some_within nodes k P (Some x) at h = slice_get_within nodes k x at

pub part_first_of : (f : Flat) → IsWellFormed f → (ranks : List ℕ) (nodes vs : List (Option ℕ))
    → (driven : List DrivenPart) (i : ℕ) (d : DrivenPart) (found : Option ℕ) → length nodes ≡ length f.nodes
    → NodesFirst f ranks nodes → driven ≡ f.driven → i < length driven → vs ≡ nodes
    → found ≡ slice_index_or vs (get_or driven i d).node None → IsFirst ranks (ReadsPart f i) found
part_first_of f w ranks nodes vs driven i d found count known same l values h =
    let x : DrivenPart = get_or driven i d in
    let there : i < length f.driven = subst (λ (ds : List DrivenPart). i < length ds) same l in
    let at : slice_get f.driven i ≡ Some x =
    slice_get-get_or f.driven i d there ∙ ap (λ (ds : List DrivenPart). Some (get_or ds i d)) (sym same) in
    let fits : DrivenFits f.signals f.nodes x =
    subst (DrivenFits f.signals f.nodes) (ap (λ (ds : List DrivenPart). get_or ds i d) (sym same))
    (All-get_or (DrivenFits f.signals f.nodes) f.driven i d there w.parts.driven) in
    let node : x.node < length f.nodes =
    some_within f.nodes x.node (λ y. y.width ≡ x.range.width) (slice_get f.nodes x.node) refl fits.1 in
    part_first f ranks i x found at
    (subst (λ (o : Option ℕ). IsFirst ranks (NodeReads f x.node) o)
    (sym (h ∙ ap (λ (v : List (Option ℕ)). slice_index_or v x.node None) values))
    (known x.node (omega (arith, node, count))))

pub one_more_part : (f : Flat) (ranks : List ℕ) (done : List (Option ℕ)) (i : ℕ) (found : Option ℕ) → length done ≡ i
    → ((p : ℕ) → p < i → IsFirst ranks (ReadsPart f p) (get_or done p None)) → IsFirst ranks (ReadsPart f i) found
    → (p : ℕ) → p < i + 1 → IsFirst ranks (ReadsPart f p) (get_or (done ++ found ∷ []) p None)
one_more_part f ranks done i found count old new p l = elim (cases_lt p i) [
  | inl less ↦ subst (λ (o : Option ℕ). IsFirst ranks (ReadsPart f p) o)
      (sym (get_or_append_left done (found ∷ []) None p (omega (arith, count)))) (old p less)
  | inr same ↦ (let e : i ≡ p = omega arith in
      subst (λ k. IsFirst ranks (ReadsPart f k) (get_or (done ++ found ∷ []) k None)) e
      (subst (λ (o : Option ℕ). IsFirst ranks (ReadsPart f i) o) (sym (get_or_push done found None i count)) new))
]
