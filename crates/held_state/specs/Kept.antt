-- The words of all memories, as a run keeps them. This project's own.
use Rattle.std.specs.Prelude.{◌≡◌, ℕ, ◌^◌, ◌<◌, Bool, true, false, if◌then◌else◌, List, [], ◌∷◌, length, drop, slice_index_or, is_some}
use Rattle.std.specs.List.{All}
use Rattle.netlist.specs.Plain.{PlainMemory}
use Rattle.step_program.specs.Values.{contents, is_narrow_width}
use Rattle.step_program.specs.declared.words.MemoryWords.{MemoryWords}
use Rattle.step_program.specs.declared.words.MemoryWords.TheVariants as m

abbrev pub is_narrow_words : MemoryWords → Bool
is_narrow_words (m.Narrow words) = true
is_narrow_words (m.Wide words) = false

-- words of a width: narrow ones where it is at most 64, each below 2^width
pub record AreWords (width : ℕ) (w : MemoryWords) : Type 0 where
  pub kind : is_narrow_words w ≡ is_narrow_width width
  pub fit : All (λ x. x < 2 ^ width) (contents w)

-- they are so many as the memory has, and its own where no block writes it
pub record IsKept (memory : PlainMemory) (w : MemoryWords) : Type 0 where
  pub words : AreWords memory.width w
  pub count : length (contents w) ≡ length memory.words
  pub same : is_some memory.writer ≡ false → contents w ≡ memory.words

-- the same of all memories
abbrev pub AllKept : List PlainMemory → List MemoryWords → Type 0
AllKept [] [] = Unit {0}
AllKept [] (w ∷ ws) = ⊥
AllKept (m ∷ ms) [] = ⊥
AllKept (m ∷ ms) (w ∷ ws) = IsKept m w × AllKept ms ws

-- of the words of all memories those of the memories that some block writes, and of each other one none
abbrev pub state_words : List PlainMemory → List (List ℕ) → List (List ℕ)
state_words [] words = []
state_words (m ∷ ms) words = (if is_some m.writer then slice_index_or words 0 [] else [])
    ∷ state_words ms (drop 1 words)
