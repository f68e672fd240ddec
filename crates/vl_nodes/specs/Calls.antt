-- What a call makes of nodes that are worth something. This project's own.
use Rattle.std.specs.Prelude.{◌≡◌, ℕ, Bool, List, Result, IfOk}
use Rattle.netlist.specs.declared.design.Range.{Range}
use Rattle.netlist.specs.declared.node.Node.{Node}
use Rattle.vl_nodes.specs.declared.made.Made.{Made}
use Rattle.vl_nodes.specs.Sense.{Sense, Ground, number, bits, on_one, on_two, on_three, word_of}
use Rattle.vl_nodes.specs.Nodes.{HasRange, HasMemory, Is, Makes}

-- nodes were added, and the one that is answered has this width and is worth this
abbrev pub MakesAt : Ground → List Node → List Node → ℕ → Sense → Made → Type 0
MakesAt g from to width x m = (m.width ≡ width) × Makes g from to m x

-- a number, and bits that the ground has
abbrev pub IsNumber : {E : Type 0} → List Node → List Node → ℕ → ℕ → Result Made E → Type 0
IsNumber from to width n result = (g : Ground) → IfOk result (MakesAt g from to width (number n))

abbrev pub IsBits : {E : Type 0} → List Node → List Node → Range → Result Made E → Type 0
IsBits from to r result = (g : Ground) → HasRange g r → IfOk result (MakesAt g from to r.width (bits r))

-- the word of a memory that the ground has, at the index that a node tells
abbrev pub IsWord : {E : Type 0} → List Node → List Node → ℕ → ℕ → Made → Bool → Result Made E → Type 0
IsWord from to k width i s result = (g : Ground) (a : Sense) → HasMemory g k width → Is g from i a
    → IfOk result (MakesAt g from to width (word_of g k s i.width a))

-- a function of the value of one node, of two, or of three, which reads what they read
abbrev pub IsOfOne : {E : Type 0} → List Node → List Node → Made → ℕ → (ℕ → ℕ) → Result Made E → Type 0
IsOfOne from to a width f result = (g : Ground) (x : Sense) → Is g from a x
    → IfOk result (MakesAt g from to width (on_one f x))

abbrev pub IsOfTwo : {E : Type 0} → List Node → List Node → Made → Made → ℕ → (ℕ → ℕ → ℕ) → Result Made E → Type 0
IsOfTwo from to a b width f result = (g : Ground) (x y : Sense) → Is g from a x → Is g from b y
    → IfOk result (MakesAt g from to width (on_two f x y))

abbrev pub IsOfThree : {E : Type 0} → List Node → List Node → Made → Made → Made → ℕ → (ℕ → ℕ → ℕ → ℕ) → Result Made E
    → Type 0
IsOfThree from to a b c width f result = (g : Ground) (x y z : Sense) → Is g from a x → Is g from b y → Is g from c z
    → IfOk result (MakesAt g from to width (on_three f x y z))
