-- States that fit a numbered design. This project's own.
use Rattle.std.specs.Prelude.{◌≡◌, ℕ, ◌^◌, ◌<◌, Bool, true, false, List, [], ◌∷◌, length, is_some}
use Rattle.std.specs.List.{All}
use Rattle.netlist.specs.Plain.{PlainMemory}
use Rattle.netlist.specs.Design.{Flat}
use Rattle.netlist.specs.Run.{State}
use Rattle.netlist.specs.declared.design.RegisterPart.{RegisterPart}

-- a number below 2^width for each register part
abbrev pub RegistersFit : List RegisterPart → List ℕ → Type 0
RegistersFit [] [] = Unit {0}
RegistersFit [] (n ∷ ns) = ⊥
RegistersFit (p ∷ ps) [] = ⊥
RegistersFit (p ∷ ps) (n ∷ ns) = (n < 2 ^ p.range.width) × RegistersFit ps ns

-- as many words as the memory has, each below 2^width, where some block writes it; else none
abbrev pub WordsFit : Bool → PlainMemory → List ℕ → Type 0
WordsFit true m words = (length words ≡ length m.words) × All (λ x. x < 2 ^ m.width) words
WordsFit false m words = words ≡ []

abbrev pub MemoriesFit : List PlainMemory → List (List ℕ) → Type 0
MemoriesFit [] [] = Unit {0}
MemoriesFit [] (w ∷ ws) = ⊥
MemoriesFit (m ∷ ms) [] = ⊥
MemoriesFit (m ∷ ms) (w ∷ ws) = WordsFit (is_some m.writer) m w × MemoriesFit ms ws

-- the state is one of the design
abbrev pub IsStateOf : Flat → State → Type 0
IsStateOf f s = RegistersFit f.registers s.registers × MemoriesFit f.memories s.memories
