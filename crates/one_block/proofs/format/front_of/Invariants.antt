use Rattle.std.proofs.Common.{◌≡◌, ℕ, [], ◌∷◌, ◌++◌, drop}
use Rattle.flat_ir.specs.Format.{format_text, text_from}
use Rattle.flat_ir.specs.FormatView.{progress_of}
use Rattle.one_block.proofs.format.front_of.Given as goal

-- what is written, and what stands behind, is the whole
abbrev pub invariant-loop-place : goal.invariant-loop-place
invariant-loop-place l = (n : ℕ)
    → l.text.items ++ text_from (progress_of l.progress) (drop l.place l.format) (n ∷ []) ≡ format_text l.format (n ∷ [])
