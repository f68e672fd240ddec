use Rattle.std.proofs.Common.{◌≡◌, ◌++◌, drop}
use Rattle.std.specs.Prelude.{option_to_list}
use Rattle.flat_ir.specs.Format.{format_text, text_from}
use Rattle.flat_ir.specs.FormatView.{progress_of}
use Rattle.flat_ir.proofs.format.write_format.Given as goal

-- what is written, and what stands behind, is the whole
abbrev pub invariant-loop-byte : goal.invariant-loop-byte
invariant-loop-byte l =
    l.into.items ++ text_from (progress_of l.progress) (drop l.byte-index l.format) (option_to_list l.left) ≡ l.initial.into.items ++ format_text l.format (option_to_list l.fn.argument)
