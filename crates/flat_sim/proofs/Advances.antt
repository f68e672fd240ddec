-- The state of the next cycle.
use Rattle.std.proofs.Common.{◌≡◌, ℕ, ◌^◌, ◌<◌, List, [], ◌∷◌, length, refl, sym, ap, ◌∙◌, subst}
use Rattle.std.specs.Prelude.{map, slice_index, Bool, true, false, if◌then◌else◌, Some, None, IsSome}
use Rattle.std.specs.List.{All, AllByRecursion}
use Rattle.std.proofs.lemmas.List.{length-map}
use Rattle.std.proofs.lemmas.List.Elements.{recursion_from_All}
use Rattle.netlist.specs.Design.{Flat}
use Rattle.netlist.specs.Fits.{IsWellFormed, RegisterFits, WriteFits}
use Rattle.netlist.specs.Run.{State, flat_next, after_writes}
use Rattle.netlist.specs.Values.{Values, width_at, node_values}
use Rattle.netlist.specs.declared.design.Signal.{Signal}
use Rattle.netlist.specs.declared.design.RegisterPart.{RegisterPart}
use Rattle.netlist.specs.declared.node.Node.{Node}
use Rattle.net_compile.proofs.Fitting.{some_width}
use Rattle.step_program.specs.Values.{Slots, slot_value, contents}
use Rattle.net_compile.specs.Compiles.{Machine, Compiles}
use Rattle.step_program.specs.declared.words.MemoryWords.{MemoryWords}
use Rattle.held_state.specs.Kept.{AllKept, state_words}
use Rattle.held_state.specs.Slots.{numbers}
use Rattle.held_state.specs.Moves.{next_numbers, register_numbers}
use Rattle.held_state.specs.States.{RegistersFit}
use Rattle.held_state.proofs.InPlace.{state_after}
use Rattle.held_state.proofs.Words.{kept_count}
use Rattle.flat_sim.proofs.Ran.{state_in}
use Rattle.held_state.proofs.Taken.{next_there}

-- the values of nodes fit register parts of their widths
parts_fit : (blocks : ℕ) (ss : List Signal) (nodes : List Node) (xs : List ℕ) (ps : List RegisterPart)
    → ((k : ℕ) → k < length xs → slice_index xs k < 2 ^ width_at nodes k)
    → AllByRecursion (λ (p : RegisterPart). p.next < length xs) ps → AllByRecursion (RegisterFits blocks ss nodes) ps
    → RegistersFit ps (map (λ (p : RegisterPart). slice_index xs p.next) ps)
parts_fit blocks ss nodes xs [] fit there h = tt
parts_fit blocks ss nodes xs (p ∷ ps) fit there h = (
  subst (λ w. slice_index xs p.next < 2 ^ w) (some_width nodes p.next (λ v. v ≡ p.range.width) h.0.2)
      (fit p.next there.0),
  parts_fit blocks ss nodes xs ps fit there.1 h.1,
)

pub next_registers_fit : (f : Flat) (xs : List ℕ) → IsWellFormed f
    → ((k : ℕ) → k < length xs → slice_index xs k < 2 ^ width_at f.nodes k)
    → All (λ (p : RegisterPart). p.next < length xs) f.registers → RegistersFit f.registers (next_numbers f xs)
next_registers_fit f xs w fit there =
    parts_fit (length f.blocks) f.signals f.nodes xs f.registers fit
    (recursion_from_All (λ (p : RegisterPart). p.next < length xs) f.registers there)
    (recursion_from_All (RegisterFits (length f.blocks) f.signals f.nodes) f.registers w.parts.registers)

-- the words that are written are those of the next state
pub next_words : (f : Flat) (xs : List ℕ) (ws out : List MemoryWords) → IsWellFormed f → AllKept f.memories ws
    → map contents out ≡ after_writes f xs f.writes (map contents ws)
    → state_words f.memories (map contents out) ≡ after_writes f xs f.writes (state_words f.memories (map contents ws))
next_words f xs ws out w kept e =
    ap (λ (all : List (List ℕ)). state_words f.memories all) e
    ∙ state_after f xs f.writes (map contents ws) (length-map ws contents ∙ kept_count f.memories ws kept)
    (recursion_from_All (WriteFits (length f.blocks) f.memories f.nodes) f.writes w.memories.writes)

-- the state is the next one
pub next_state : (f : Flat) (s t : State) (v : Values) (xs : List ℕ) → xs ≡ node_values f v
    → t.registers ≡ next_numbers f xs → t.memories ≡ after_writes f xs f.writes s.memories → t ≡ flat_next f s v
next_state f s t v xs e registers memories =
    let a : t.registers ≡ (flat_next f s v).registers = registers ∙ ap (λ (ys : List ℕ). next_numbers f ys) e in
    let b : t.memories ≡ (flat_next f s v).memories = memories ∙ ap (λ (ys : List ℕ). after_writes f ys f.writes s.memories) e in
    λ i. record { registers = a i; memories = b i }

-- the program's slots and the words of memories after a commit and the writes of a cycle
pub record Advanced (f : Flat) (m : Machine) (ws out : List MemoryWords) (x y : Slots) (v : Values) : Type 0 where
  pub fits : RegistersFit f.registers (register_numbers f m y)
  pub state : state_in f m out y ≡ flat_next f (state_in f m ws x) v

pub advanced : (f : Flat) (m : Machine) (ws out : List MemoryWords) (x y : Slots) (v : Values) → IsWellFormed f
    → Compiles f m → AllKept f.memories ws → numbers x m.nodes ≡ node_values f v
    → ((k : ℕ) → k < length (numbers x m.nodes) → slice_index (numbers x m.nodes) k < 2 ^ width_at f.nodes k)
    → register_numbers f m y ≡ next_numbers f (numbers x m.nodes)
    → map contents out ≡ after_writes f (numbers x m.nodes) f.writes (map contents ws) → Advanced f m ws out x y v
advanced f m ws out x y v w c kept nodes fit registers words =
    let xs : List ℕ = numbers x m.nodes in
    let count : length xs ≡ length f.nodes = length-map m.nodes (λ s. slot_value x s) ∙ c.count in
    let there : All (λ (p : RegisterPart). p.next < length xs) f.registers =
    subst (λ n. All (λ (p : RegisterPart). p.next < n) f.registers) (sym count) (next_there f w) in
    record {
      fits = subst (λ ns. RegistersFit f.registers ns) (sym registers) (next_registers_fit f xs w fit there);
      state = next_state f (state_in f m ws x) (state_in f m out y) v xs nodes registers
          (next_words f xs ws out w kept words);
    }

pub was_settled : (b : Bool) (v : Values) → IsSome (if b then Some v else None) → b ≡ true
was_settled true v h = refl
was_settled false v h = h
