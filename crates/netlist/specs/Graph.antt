-- What the nodes and the driven parts of a design read. This project's own.
use Rattle.std.specs.Prelude.{◌≡◌, ℕ, zero, suc, ◌+◌, ◌==◌, ◌&&◌, ◌||◌, Bool, false, nat_lt, List, [], ◌∷◌, ◌++◌, slice_index_or, slice_get, Option, Some, None, IsSomeAnd, IsTrue}
use Rattle.netlist.specs.Design.{Flat}
use Rattle.netlist.specs.declared.design.Range.{Range}
use Rattle.netlist.specs.declared.design.DrivenPart.{DrivenPart}
use Rattle.netlist.specs.declared.node.Node.{Node}
use Rattle.netlist.specs.declared.node.Operation.{Operation}
use Rattle.netlist.specs.declared.node.Operation.TheVariants as o

-- the lower nodes that an operation reads
abbrev pub operands : Operation → List ℕ
operands (o.Constant value) = []
operands (o.Bits range) = []
operands (o.Word memory index) = index.node ∷ []
operands (o.Unary operator a) = a ∷ []
operands (o.Binary operator signed a b) = a ∷ b ∷ []
operands (o.Extend signed a) = a ∷ []
operands (o.Cut a) = a ∷ []
operands (o.Select a place) = a ∷ place.node ∷ []
operands (o.Insert a place b) = a ∷ place.node ∷ b ∷ []
operands (o.Concat a b) = a ∷ b ∷ []
operands (o.Choose c a b) = c ∷ a ∷ b ∷ []
operands (o.Keep a b) = a ∷ b ∷ []

-- the numbers that are there
abbrev pub somes : List (Option ℕ) → List ℕ
somes [] = []
somes (None ∷ more) = somes more
somes (Some n ∷ more) = n ∷ somes more

-- two ranges have a bit in common
abbrev pub overlap : Range → Range → Bool
overlap r q = (r.signal == q.signal) && (nat_lt r.low (q.low + q.width) && nat_lt q.low (r.low + r.width))

-- an operation reads bits of this range itself
abbrev pub reads_bits : Range → Operation → Bool
reads_bits q (o.Bits range) = overlap range q
reads_bits q _ = false

-- some of these nodes reads bits of the range, where the list says it of each node below
abbrev pub some_reads : List Bool → List ℕ → Bool
some_reads below [] = false
some_reads below (a ∷ as') = slice_index_or below a false || some_reads below as'

-- whether a node reads bits of the range, itself or through lower nodes, where the list says it of each node below
abbrev pub node_reads : Range → List Bool → Node → Bool
node_reads q below x = reads_bits q x.operation || some_reads below (operands x.operation)

-- the same for all nodes, behind those of the list
abbrev pub nodes_read : Range → List Bool → List Node → List Bool
nodes_read q below [] = below
nodes_read q below (x ∷ xs) = nodes_read q (below ++ node_reads q below x ∷ []) xs

-- whether a node of a design reads a bit of a driven part
abbrev pub reads : Flat → ℕ → DrivenPart → Bool
reads f n q = slice_index_or (nodes_read q.range [] f.nodes) n false

-- driven part p reads driven part q: a bit of the one reads a bit of the other (debugger's cut and order; not through
-- a third part)
abbrev pub ReadsPart : Flat → ℕ → ℕ → Type 0
ReadsPart f p q = IsSomeAnd (slice_get f.driven p) (λ x. IsSomeAnd (slice_get f.driven q) (λ y. IsTrue
    (reads f x.node y)))

-- driven part p comes to part q in so many reads, each from a part to one that it reads
abbrev pub ReadsIn : Flat → ℕ → ℕ → ℕ → Type 0
ReadsIn f zero p q = p ≡ q
ReadsIn f (suc n) p q = (r : ℕ) × ReadsPart f p r × ReadsIn f n r q
