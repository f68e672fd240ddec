-- The values of a design's nodes over the values of its signals and memories. This project's own.
use Rattle.std.specs.Prelude.{ℕ, if◌then◌else◌, List, [], ◌∷◌, ◌++◌, min, slice_index, slice_index_or, slice_get, ℤ, pos, negsuc, ◌-ℤ◌}
use Rattle.std.specs.Option.{option_map, unwrap_or}
use Rattle.bit_ops.specs.Operators as ops
use Rattle.bit_ops.specs.Applied as applied
use Rattle.netlist.specs.Plain.{PlainMemory}
use Rattle.netlist.specs.Design.{Flat}
use Rattle.netlist.specs.declared.design.Index.{Index}
use Rattle.netlist.specs.declared.node.Node.{Node}
use Rattle.netlist.specs.declared.node.Operation.{Operation}
use Rattle.netlist.specs.declared.node.Operation.TheVariants as o

-- the values of a cycle: of each signal a number, of each memory its words from the least index on
pub record Values : Type 0 where
  pub signals : List ℕ
  pub memories : List (List ℕ)

-- a node's width; 0 where it isn't there
abbrev pub width_at : List Node → ℕ → ℕ
width_at nodes k = unwrap_or (option_map (λ x. x.width) (slice_get nodes k)) 0

-- the whole number that an index stands for, where these are the values of the nodes
abbrev pub index_at : List Node → List ℕ → Index → ℤ
index_at nodes xs i = ops.integer i.signed (width_at nodes i.node) (slice_index xs i.node)

-- the place of a memory's word among its words: the index less the least one
abbrev pub least_index : PlainMemory → ℕ
least_index m = min m.first m.last

abbrev pub word_place : List PlainMemory → ℕ → ℤ → ℤ
word_place memories m i = i -ℤ pos (unwrap_or (option_map least_index (slice_get memories m)) 0)

-- the word at a place; 0 outside
abbrev pub word_at : List ℕ → ℤ → ℕ
word_at words (pos k) = slice_index words k
word_at words (negsuc k) = 0

-- the value of an operation at a width, where v are the values of the cycle and xs those of the lower nodes
abbrev pub operation_value : Flat → Values → List ℕ → ℕ → Operation → ℕ
operation_value f v xs w (o.Constant value) = value
operation_value f v xs w (o.Bits range) = ops.select (pos range.low) w (slice_index v.signals range.signal)
operation_value f v xs w (o.Word memory index) =
    word_at (slice_index_or v.memories memory []) (word_place f.memories memory (index_at f.nodes xs index))
operation_value f v xs w (o.Unary operator a) = applied.unary operator (width_at f.nodes a) (slice_index xs a)
operation_value f v xs w (o.Binary operator signed a b) =
    applied.binary operator signed (width_at f.nodes a) (slice_index xs a) (slice_index xs b)
operation_value f v xs w (o.Extend signed a) = ops.extend signed (width_at f.nodes a) w (slice_index xs a)
operation_value f v xs w (o.Cut a) = ops.low w (slice_index xs a)
operation_value f v xs w (o.Select a place) = ops.select (index_at f.nodes xs place) w (slice_index xs a)
operation_value f v xs w (o.Insert a place b) =
    ops.insert w (index_at f.nodes xs place) (width_at f.nodes b) (slice_index xs b) (slice_index xs a)
operation_value f v xs w (o.Concat a b) = ops.concat (width_at f.nodes b) (slice_index xs a) (slice_index xs b)
operation_value f v xs w (o.Choose c a b) = if ops.holds (slice_index xs c) then slice_index xs a else slice_index xs b
operation_value f v xs w (o.Keep a b) = slice_index xs a

abbrev pub node_value : Flat → Values → List ℕ → Node → ℕ
node_value f v xs x = operation_value f v xs x.width x.operation

-- the values of these nodes, behind those of the lower ones
abbrev pub values_from : Flat → Values → List ℕ → List Node → List ℕ
values_from f v xs [] = xs
values_from f v xs (x ∷ more) = values_from f v (xs ++ node_value f v xs x ∷ []) more

-- the values of all nodes
abbrev pub node_values : Flat → Values → List ℕ
node_values f v = values_from f v [] f.nodes
