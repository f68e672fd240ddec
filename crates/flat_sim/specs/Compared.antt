-- What comparing the numbers between which moves go promises. This project's own.
use Rattle.std.specs.Prelude.{ℕ, List, map, slice_index}
use Rattle.held_state.specs.declared.commits.Move.{Move}

-- the numbers in the slots to which moves go
abbrev pub to_numbers : List ℕ → List Move → List ℕ
to_numbers xs ms = map (λ m. slice_index xs m.to) ms
