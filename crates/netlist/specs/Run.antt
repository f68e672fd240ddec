-- The run of a numbered design: what settles in a cycle, the next state, and what fires. This project's own.
use Rattle.std.specs.Prelude.{◌≡◌, ℕ, suc, ◌+◌, Bool, true, false, if◌then◌else◌, List, [], ◌∷◌, ◌++◌, map, drop, slice_index, slice_index_or, slice_set, slice_get, is_some, ℤ, pos, negsuc}
use Rattle.std.specs.Option.{option_map, unwrap_or}
use Rattle.bit_ops.specs.Operators as ops
use Rattle.netlist.specs.Plain.{PlainMemory, PlainBlock}
use Rattle.netlist.specs.Design.{Flat}
use Rattle.netlist.specs.Values.{Values, width_at, index_at, word_place, node_values}
use Rattle.netlist.specs.Message.{value_text}
use Rattle.netlist.specs.declared.design.Role.{Role}
use Rattle.netlist.specs.declared.design.Role.TheVariants as role
use Rattle.netlist.specs.declared.design.Signal.{Signal}
use Rattle.netlist.specs.declared.design.Range.{Range}
use Rattle.netlist.specs.declared.design.DrivenPart.{DrivenPart}
use Rattle.netlist.specs.declared.design.RegisterPart.{RegisterPart}
use Rattle.netlist.specs.declared.design.MemoryWrite.{MemoryWrite}
use Rattle.netlist.specs.declared.design.Effect.{Effect}
use Rattle.netlist.specs.declared.design.Effect.TheVariants as e
use Rattle.netlist.specs.declared.design.Event.{Event}
use Rattle.netlist.specs.declared.node.Node.{Node}

-- ---- states

-- the values of the register parts, and the words of the memories that some block writes; of each other memory no
-- words, since it is constant
pub record State : Type 0 where
  pub registers : List ℕ
  pub memories : List (List ℕ)

abbrev pub written_words : PlainMemory → List ℕ
written_words m = if is_some m.writer then m.words else []

-- the state of the first cycle
abbrev pub flat_start : Flat → State
flat_start f = record { registers = map (λ p. p.initial) f.registers; memories = map written_words f.memories }

-- the words of all memories: the state's of those that are written, and those that the others have always
abbrev pub all_words : List PlainMemory → List (List ℕ) → List (List ℕ)
all_words [] state = []
all_words (m ∷ ms) state = (if is_some m.writer then slice_index_or state 0 [] else m.words)
    ∷ all_words ms (drop 1 state)

-- ---- what settles

-- a signal's value where no part gives it bits: a data input's is in the row, a clock name is 0 while a cycle
-- settles, another keeps its bits
abbrev pub role_value : List ℕ → ℕ → Role → ℕ
role_value row kept role.Clock = 0
role_value row kept (role.Input k) = slice_index row k
role_value row kept role.Inner = kept

-- the values of the signals, with other bits in a range
abbrev pub put : List Signal → Range → ℕ → List ℕ → List ℕ
put signals r n values = let w : ℕ = unwrap_or (option_map (λ s. s.width) (slice_get signals r.signal)) 0 in
    slice_set values r.signal (ops.insert_at w r.low r.width n (slice_index values r.signal))

-- the same for each of the register parts, which have the state's values in their order
abbrev pub put_registers : List Signal → List RegisterPart → List ℕ → List ℕ → List ℕ
put_registers signals [] state values = values
put_registers signals (p ∷ ps) state values = put_registers signals ps (drop 1 state) (put signals p.range
    (slice_index state 0) values)

-- the same for each of the driven parts, which have their nodes' values
abbrev pub put_driven : List Signal → List DrivenPart → List ℕ → List ℕ → List ℕ
put_driven signals [] xs values = values
put_driven signals (p ∷ ps) xs values = put_driven signals ps xs (put signals p.range (slice_index xs p.node) values)

-- what the state and the row say of the signals
abbrev pub given : Flat → State → List ℕ → List ℕ
given f s row = put_registers f.signals f.registers s.registers (map (λ x. role_value row x.kept x.role) f.signals)

-- what the state and the row say, with each driven part at its node's value over v
abbrev pub redriven : Flat → State → List ℕ → Values → Values
redriven f s row v = record {
  signals = put_driven f.signals f.driven (node_values f v) (given f s row);
  memories = all_words f.memories s.memories;
}

-- v settles with a state and a row: each driven part has its node's value in v, all at once, and all else is the
-- state's or the row's
abbrev pub FlatSettles : Flat → State → List ℕ → Values → Type 0
FlatSettles f s row v = v ≡ redriven f s row v

-- ---- the next state

-- the words of a memory after a write at a place: bits of one word change, and none outside
abbrev pub write_word : ℕ → ℤ → ℕ → ℕ → List ℕ → ℤ → List ℕ
write_word whole place width n words (pos k) = slice_set words k (ops.insert whole place width n (slice_index words k))
write_word whole place width n words (negsuc k) = words

-- the memories after a write that is done
abbrev pub written : Flat → List ℕ → MemoryWrite → List (List ℕ) → List (List ℕ)
written f xs w memories =
    let whole : ℕ = unwrap_or (option_map (λ m. m.width) (slice_get f.memories w.memory)) 0 in
    slice_set memories w.memory (write_word whole (index_at f.nodes xs w.place) w.width (slice_index xs w.value)
    (slice_index_or memories w.memory []) (word_place f.memories w.memory (index_at f.nodes xs w.index)))

-- the memories after all writes in order: the last write to a place wins
abbrev pub after_writes : Flat → List ℕ → List MemoryWrite → List (List ℕ) → List (List ℕ)
after_writes f xs [] memories = memories
after_writes f xs (w ∷ ws) memories =
    after_writes f xs ws (if ops.holds (slice_index xs w.condition) then written f xs w memories else memories)

-- the state after a cycle that settled at v: each register part takes its next node's value
abbrev pub flat_next : Flat → State → Values → State
flat_next f s v = record {
  registers = map (λ p. slice_index (node_values f v) p.next) f.registers;
  memories = after_writes f (node_values f v) f.writes s.memories;
}

-- ---- what fires

-- an assertion that fired: its number among the stops of all blocks, and the texts since the one before it in the
-- same block
pub record Fired : Type 0 where
  pub stop : ℕ
  pub message : List ℕ

-- whether the event is a stop
abbrev pub is_stop : Effect → Bool
is_stop (e.Said text) = false
is_stop (e.Showed shown) = false
is_stop (e.Stopped place fatal) = true

-- the number of a block's stops
abbrev pub stop_count : List Event → ℕ
stop_count [] = 0
stop_count (x ∷ xs) = (if is_stop x.effect then 1 else 0) + stop_count xs

-- the message after an effect
abbrev pub said_more : List Node → List ℕ → List ℕ → Effect → List ℕ
said_more nodes xs text (e.Said more) = text ++ more
said_more nodes xs text (e.Showed s) = text ++ value_text s.base s.fewest s.signed (width_at nodes s.node)
    (slice_index xs s.node)
said_more nodes xs text (e.Stopped place fatal) = []

-- what fires of a block, whose first stop has the number n, with the text so far
abbrev pub block_fired : List Node → List ℕ → ℕ → List ℕ → List Event → List Fired
block_fired nodes xs n text [] = []
block_fired nodes xs n text (x ∷ more) =
    let done : Bool = ops.holds (slice_index xs x.condition) in
    let stops : Bool = is_stop x.effect in
    (if done then (if stops then record { stop = n; message = text } ∷ [] else []) else [])
    ++ block_fired nodes xs (if stops then suc n else n) (if done then said_more nodes xs text x.effect else text) more

-- what fires of these blocks, in order
abbrev pub blocks_fired : List Node → List ℕ → ℕ → List PlainBlock → List Fired
blocks_fired nodes xs n [] = []
blocks_fired nodes xs n (b ∷ bs) = block_fired nodes xs n [] b.events ++ blocks_fired nodes xs
    (n + stop_count b.events) bs

-- the assertions that fire in a cycle that settled at v
abbrev pub flat_fired : Flat → Values → List Fired
flat_fired f v = blocks_fired f.nodes (node_values f v) 0 f.blocks
