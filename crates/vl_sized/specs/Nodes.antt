-- What a sized node is worth at the size at which it is evaluated (IEEE 1364-2005, 5.5.2), and what it reads. This project's
-- own: objects are told by numbers.
use Rattle.std.specs.Prelude.{ℕ, Bool, true, false, if◌then◌else◌, List, [], ◌∷◌, ◌++◌, map, ℤ, pos, ◌-ℤ◌, ◌+ℤ◌, None}
use Rattle.bit_ops.specs.Operators as ops
use Rattle.bit_ops.specs.Applied as applied
use Rattle.vl_value.specs.Paths.{Path}
use Rattle.vl_value.specs.Things.{distance, word_place, width_of}
use Rattle.vl_value.specs.Things as things
use Rattle.vl_value.specs.Meaning as m
use Rattle.vl_value.specs.Meaning.{Meaning, Picked}
use Rattle.vl_value.specs.Reads.{Reading, bit, words, places}
use Rattle.vl_width.specs.declared.number.Constant.{Constant}
use Rattle.vl_width.specs.Objects.{Numbering, plain_shape}
use Rattle.vl_width.specs.Terms.{At, number_at, shift_at}
use Rattle.vl_sized.specs.declared.node.SizedNode.{SizedNode}
use Rattle.vl_sized.specs.declared.node.Source.{Source}
use Rattle.vl_sized.specs.declared.node.Source.TheVariants as source
use Rattle.vl_sized.specs.declared.node.Index.{Index}
use Rattle.vl_sized.specs.declared.node.Index.TheVariants as index
use Rattle.vl_sized.specs.declared.node.Part.{Part}
use Rattle.vl_sized.specs.declared.node.Part.TheVariants as part
use Rattle.vl_sized.specs.declared.node.Test.{Test}
use Rattle.vl_sized.specs.declared.node.Step.{Step}
use Rattle.vl_sized.specs.declared.node.Step.TheVariants as step
use Rattle.vl_sized.specs.declared.node.Case.{Case}
use Rattle.vl_sized.specs.declared.node.Node.{Node}
use Rattle.vl_sized.specs.declared.node.Node.TheOpen.{Node-F}
use Rattle.vl_sized.specs.declared.node.Node.TheFolds.{fold-Node}
use Rattle.vl_sized.specs.Moments.{Moment, in_sight}

-- ---- values

-- what a node at its size means
abbrev pub worth : SizedNode At → Meaning
worth x = record { width = x.size.width; signed = x.size.signed; at = x.node }

abbrev pub whole_of : Constant → ℤ
whole_of c = ops.integer c.signed c.bits.width c.bits.value

abbrev pub index_value : Index At → ℤ
index_value (index.Fixed c) = whole_of c
index_value (index.Varying x) = m.whole (worth x)

-- which indices a part covers
abbrev pub picks : Part At → List Picked
picks part.Whole = []
picks (part.Upward i n) = record { from = index_value i; count = n } ∷ []
picks (part.Downward i n) = record { from = (index_value i -ℤ pos n) +ℤ pos 1; count = n } ∷ []

abbrev pub source_value : Numbering → Moment → Source At → ℕ
source_value ns t (source.Signal k) = t.word (ns.signals k) 0
source_value ns t (source.Local k) = t.word (ns.locals k) 0
source_value ns t (source.Function k) = t.word (ns.functions k) 0
source_value ns t (source.Word k first last i) =
    m.word_at (in_sight (λ x. None) t) (ns.memories k) (distance first last) (word_place first last (index_value i))

-- what a step makes of a value at a width and a sign; what is no shift doesn't shift
abbrev pub stepped : ℕ → Bool → ℕ → Step At → ℕ
stepped w s n (step.Alike f b) = applied.binary f s w n (b w s)
stepped w s n (step.Shift f x) = shift_at f s w n (m.own (worth x))

abbrev pub run : ℕ → Bool → ℕ → List (Step At) → ℕ
run w s n [] = n
run w s n (k ∷ ks) = run w s (stepped w s n k) ks

-- whether an operator takes its right operand by itself
abbrev pub takes_own : m.Operands → Bool
takes_own m.alike = false
takes_own m.compared = false
takes_own m.shifted = true
takes_own m.judged = true

-- the right operand of a test, at the left one's size where it isn't taken by itself
abbrev pub right_of : Test At → ℕ
right_of t = if takes_own (m.operands_of t.operator) then m.own (worth t.right) else t.right.node t.left.width t.left.signed

-- the bit that a test gives
abbrev pub tested_bit : At → Test At → Meaning
tested_bit a t = m.unsigned 1 (applied.binary t.operator t.left.signed t.left.width (a t.left.width t.left.signed) (right_of t))

abbrev pub tested : At → List (Test At) → At
tested a [] = a
tested a (t ∷ ts) = tested (tested_bit a t).at ts

abbrev pub among : List (Case At) → At → At
among [] b = b
among (k ∷ ks) b = λ w s. if m.true_of (worth k.condition) then k.value.node w s else among ks b w s

abbrev pub layer : Numbering → Moment → Node-F At → At
layer ns t (Node-F.Number c) = number_at c
layer ns t (Node-F.Read sh x p) = (m.selected (plain_shape sh) (source_value ns t x) (picks p)).at
layer ns t (Node-F.Call k sh xs shs) =
    (m.operand (width_of (plain_shape sh)) sh.signed (t.calls (ns.functions k) (m.arguments (map plain_shape shs) (map worth xs)))).at
layer ns t (Node-F.Cast s x) = (m.operand x.size.width s (m.own (worth x))).at
layer ns t (Node-F.Logarithm x) = (m.operand 32 true (m.logarithm x.size.width (m.own (worth x)))).at
layer ns t (Node-F.Concat xs) = (m.braces (map worth xs)).at
layer ns t (Node-F.Copies n xs) = (m.copies n (m.braces (map worth xs))).at
layer ns t (Node-F.Reduced f x) = (m.unsigned 1 (applied.unary f x.size.width (m.own (worth x)))).at
layer ns t (Node-F.Tests a ts) = tested a ts
layer ns t (Node-F.Unary f a) = λ w s. applied.unary f w (a w s)
layer ns t (Node-F.Chain a ks) = λ w s. run w s (a w s) ks
layer ns t (Node-F.Choose ks b) = among ks b

-- a node's value at each size, in a moment
abbrev pub at_of : Numbering → Moment → Node → At
at_of ns t = fold-Node At (layer ns t)

-- ---- reads

abbrev pub index_reads : Index (List Reading) → List Reading
index_reads (index.Fixed c) = []
index_reads (index.Varying x) = x.node

abbrev pub part_reads : Part (List Reading) → List Reading
part_reads part.Whole = []
part_reads (part.Upward i n) = index_reads i
part_reads (part.Downward i n) = index_reads i

-- whether a part covers the same bits in each moment, and which indices if it does
abbrev pub index_fixed : Index (List Reading) → Bool
index_fixed (index.Fixed c) = true
index_fixed (index.Varying x) = false

abbrev pub is_fixed : Part (List Reading) → Bool
is_fixed part.Whole = true
is_fixed (part.Upward i n) = index_fixed i
is_fixed (part.Downward i n) = index_fixed i

abbrev pub fixed_value : Index (List Reading) → ℤ
fixed_value (index.Fixed c) = whole_of c
fixed_value (index.Varying x) = pos 0

abbrev pub fixed_picks : Part (List Reading) → List Picked
fixed_picks part.Whole = []
fixed_picks (part.Upward i n) = record { from = fixed_value i; count = n } ∷ []
fixed_picks (part.Downward i n) = record { from = (fixed_value i -ℤ pos n) +ℤ pos 1; count = n } ∷ []

abbrev pub bits_by : things.Shape → Path → Bool → List Picked → List Reading
bits_by sh p same ks = map (bit p) (places sh same ks)

abbrev pub bits_read : things.Shape → Path → Part (List Reading) → List Reading
bits_read sh p k = bits_by sh p (is_fixed k) (fixed_picks k)

-- a memory's word, by an index that reads this, and some of its bits, by one that reads that
abbrev pub memory_read : Numbering → ℕ → List Reading → List Reading → List Reading
memory_read ns k xs ys = words (ns.memories k) ∷ (xs ++ ys)

abbrev pub source_reads : Numbering → things.Shape → Source (List Reading) → Part (List Reading) → List Reading
source_reads ns sh (source.Signal k) p = bits_read sh (ns.signals k) p ++ part_reads p
source_reads ns sh (source.Local k) p = bits_read sh (ns.locals k) p ++ part_reads p
source_reads ns sh (source.Function k) p = bits_read sh (ns.functions k) p ++ part_reads p
source_reads ns sh (source.Word k first last i) p = memory_read ns k (index_reads i) (part_reads p)

abbrev pub nodes_read : List (SizedNode (List Reading)) → List Reading
nodes_read [] = []
nodes_read (x ∷ xs) = x.node ++ nodes_read xs

abbrev pub tests_read : List (Test (List Reading)) → List Reading
tests_read [] = []
tests_read (t ∷ ts) = t.right.node ++ tests_read ts

abbrev pub step_reads : Step (List Reading) → List Reading
step_reads (step.Alike f b) = b
step_reads (step.Shift f x) = x.node

abbrev pub steps_read : List (Step (List Reading)) → List Reading
steps_read [] = []
steps_read (k ∷ ks) = step_reads k ++ steps_read ks

abbrev pub cases_read : List (Case (List Reading)) → List Reading
cases_read [] = []
cases_read (k ∷ ks) = k.condition.node ++ (k.value.node ++ cases_read ks)

abbrev pub reads_layer : Numbering → Node-F (List Reading) → List Reading
reads_layer ns (Node-F.Number c) = []
reads_layer ns (Node-F.Read sh x p) = source_reads ns (plain_shape sh) x p
reads_layer ns (Node-F.Call k sh xs shs) = nodes_read xs
reads_layer ns (Node-F.Cast s x) = x.node
reads_layer ns (Node-F.Logarithm x) = x.node
reads_layer ns (Node-F.Concat xs) = nodes_read xs
reads_layer ns (Node-F.Copies n xs) = nodes_read xs
reads_layer ns (Node-F.Reduced f x) = x.node
reads_layer ns (Node-F.Tests a ts) = a ++ tests_read ts
reads_layer ns (Node-F.Unary f a) = a
reads_layer ns (Node-F.Chain a ks) = a ++ steps_read ks
reads_layer ns (Node-F.Choose ks b) = cases_read ks ++ b

-- what a node reads
abbrev pub reads_of : Numbering → Node → List Reading
reads_of ns = fold-Node (List Reading) (reads_layer ns)
