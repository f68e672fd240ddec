use Rattle.std.proofs.Common.{◌≡◌, ◌++◌, drop}
use Rattle.std.specs.Prelude.{option_map}
use Rattle.message_format.specs.Draft.{IsDraft, said}
use Rattle.message_format.specs.Formatted.{elements, elements_from}
use Rattle.message_format.proofs.split.split.Given as goal

-- the elements so far, and those from here on, are those of the format
abbrev pub invariant-loop-byte : goal.invariant-loop-byte
invariant-loop-byte l = record {
  kept : IsDraft l.draft;
  whole : option_map (λ xs. said l.draft ++ xs) (elements_from l.progress (drop l.byte-index l.format))
      ≡ elements l.format;
}
