-- What is computed of one node after another, whether it reads bits of a range, is what the graph says of each.
use Rattle.std.proofs.Common.{◌≡◌, ℕ, zero, suc, ◌+◌, ◌<◌, ◌||◌, Bool, false, List, [], ◌∷◌, ◌++◌, length, refl, sym, ap, ◌∙◌, subst, arith, append_assoc}
use Rattle.std.specs.Prelude.{slice_get, slice_index, slice_index_or, Some}
use Rattle.std.proofs.Math.Seq.{get_or-append_seam}
use Rattle.std.proofs.lemmas.List.{get_or_append_left, length_push, append-nil}
use Rattle.netlist.specs.Graph.{operands, some_reads, node_reads, nodes_read, reads_bits}
use Rattle.netlist.specs.Laws.{ReadsLaw, OperandsLaw}
use Rattle.netlist.specs.declared.design.Range.{Range}
use Rattle.netlist.specs.declared.node.Node.{Node}
use Rattle.netlist.specs.declared.node.Operation.{Operation}
use Rattle.netlist.specs.declared.node.Operation.TheVariants as o
use Rattle.netlist.proofs.ValuesLaw.{Reads, AllRead, read_first, read_rest, all_read}

-- each number of a list is below n
abbrev pub AreBelow : ℕ → List ℕ → Type 0
AreBelow n [] = Unit {0}
AreBelow n (a ∷ as') = (a < n) × AreBelow n as'

pub operands_below : (n : ℕ) (x : Operation) → Reads n x → AreBelow n (operands x)
operands_below n (o.Constant value) r = tt
operands_below n (o.Bits range) r = tt
operands_below n (o.Word memory index) r = (r, tt)
operands_below n (o.Unary operator a) r = (r, tt)
operands_below n (o.Binary operator signed a b) r = (r.0, (r.1, tt))
operands_below n (o.Extend signed a) r = (r, tt)
operands_below n (o.Cut a) r = (r, tt)
operands_below n (o.Select a place) r = (r.0, (r.1, tt))
operands_below n (o.Insert a place b) r = (r.0, (r.1, (r.2, tt)))
operands_below n (o.Concat a b) r = (r.0, (r.1, tt))
operands_below n (o.Choose c a b) r = (r.0, (r.1, (r.2, tt)))
operands_below n (o.Keep a b) r = (r.0, (r.1, tt))

-- more answers after those of lower nodes change nothing
some_kept : (done more : List Bool) (as' : List ℕ) → AreBelow (length done) as'
    → some_reads (done ++ more) as' ≡ some_reads done as'
some_kept done more [] l = refl
some_kept done more (a ∷ as') l =
    ap (λ b. b || some_reads (done ++ more) as') (get_or_append_left done more false a l.0)
    ∙ ap (λ b. slice_index_or done a false || b) (some_kept done more as' l.1)

kept : (q : Range) (done more : List Bool) (x : Node) → Reads (length done) x.operation
    → node_reads q (done ++ more) x ≡ node_reads q done x
kept q done more x r =
    ap (λ b. reads_bits q x.operation || b)
    (some_kept done more (operands x.operation) (operands_below (length done) x.operation r))

-- what is computed stands after what was given, one answer for each node
record Grows (q : Range) (done : List Bool) (xs : List Node) : Type 0 where
  more : List Bool
  whole : nodes_read q done xs ≡ done ++ more
  count : length more ≡ length xs

grows : (q : Range) (done : List Bool) (xs : List Node) → Grows q done xs
grows q done [] = record { more = []; whole = sym (append-nil done); count = refl }
grows q done (x ∷ xs) =
    let b : Bool = node_reads q done x in
    let g = grows q (done ++ b ∷ []) xs in
    record {
      more = b ∷ g.more;
      whole = g.whole ∙ append_assoc done (b ∷ []) g.more;
      count = ap (λ (k : ℕ). suc k) g.count;
    }

abbrev Answers : Range → ℕ → List Bool → List Node → Type 0
Answers q d rs xs = (k : ℕ) (x : Node) → slice_get xs k ≡ Some x → slice_index_or rs (d + k) false ≡ node_reads q rs x

answers : (q : Range) (done : List Bool) (xs : List Node) → AllRead (length done) xs
    → Answers q (length done) (nodes_read q done xs) xs
answers q done [] r k y at = absurd cc
answers q done (x ∷ xs) r zero y at =
    let b : Bool = node_reads q done x in
    let rs : List Bool = nodes_read q (done ++ b ∷ []) xs in
    let g = grows q (done ++ b ∷ []) xs in
    let whole : rs ≡ done ++ (b ∷ g.more) = g.whole ∙ append_assoc done (b ∷ []) g.more in
    let e : length done + 0 ≡ length done = omega arith in
    let same : x ≡ y = cc in
    ap (λ p. slice_index_or rs p false) e ∙ ap (λ ws. slice_index_or ws (length done) false) whole
    ∙ get_or-append_seam done b g.more false
    ∙ sym (kept q done (b ∷ g.more) x (read_first (length done) x xs r))
    ∙ ap (λ ws. node_reads q ws x) (sym whole) ∙ ap (λ (z : Node). node_reads q rs z) same
answers q done (x ∷ xs) r (suc k) y at =
    let b : Bool = node_reads q done x in
    let e : length done + suc k ≡ length (done ++ b ∷ []) + k = omega (arith, length_push done b) in
    ap (λ p. slice_index_or (nodes_read q (done ++ b ∷ []) xs) p false) e
    ∙ answers q (done ++ b ∷ []) xs (read_rest done b x xs r) k y at

pub zero_more : (k : ℕ) → 0 + k ≡ k
zero_more k = omega arith

pub reads_law : ReadsLaw
reads_law f q w = record {
  count = (let g = grows q [] f.nodes in ap length g.whole ∙ g.count);
  each = λ k x at. ap (λ p. slice_index_or (nodes_read q [] f.nodes) p false) (sym (zero_more k))
      ∙ answers q [] f.nodes (all_read f w) k x at;
}

below_at : (n : ℕ) (as' : List ℕ) (i : ℕ) → AreBelow n as' → i < length as' → slice_index as' i < n
below_at n [] i h l = absurd (omega arith)
below_at n (a ∷ as') zero h l = h.0
below_at n (a ∷ as') (suc i) h l = below_at n as' i h.1 (omega arith)

pub operands_law : OperandsLaw
operands_law f k x i w at l =
    below_at k (operands x.operation) i (operands_below k x.operation
    (subst (λ n. Reads n x.operation) (zero_more k) (all_read f w k x at))) l
