-- The header's lines of scopes and variables, one after another as the outline of a design has them. This project's
-- own.
use Rattle.std.specs.Prelude.{ℕ, ◌+◌, List, [], ◌∷◌, ◌++◌, codes}
use Rattle.netlist.specs.Design.{Flat}
use Rattle.design_names.specs.Shown.{is_instance, scope_at, variable_at}
use Rattle.design_names.specs.declared.outline.Entry.{Entry}
use Rattle.design_names.specs.declared.outline.Entry.TheVariants as entry
use Rattle.waveform.specs.Vcd.{scope_word, variable_line}

-- the line of an entry, where n variables stand before it
abbrev pub entry_text : Flat → ℕ → Entry → List ℕ
entry_text f n (entry.Scope k) =
    scope_word (is_instance (scope_at f k).kind) ++ ((scope_at f k).name ++ codes " $end\n")
entry_text f n (entry.Signal k) = variable_line n (variable_at f k)
entry_text f n entry.End = codes "$upscope $end\n"

-- how many variables stand before what comes after it
abbrev pub number_after : ℕ → Entry → ℕ
number_after n (entry.Scope k) = n
number_after n (entry.Signal k) = n + 1
number_after n entry.End = n

abbrev pub entries_text : Flat → ℕ → List Entry → List ℕ
entries_text f n [] = []
entries_text f n (x ∷ xs) = entry_text f n x ++ entries_text f (number_after n x) xs
