-- The law of lines. This project's own.
use Rattle.std.specs.Prelude.{ℕ, ◌≡◌, map, Option, Some, None, slice_get}
use Rattle.vl_tree.specs.Token.{Token, token, Tokens, kind_of}
use Rattle.vl_tree.specs.Syntax.{Place, Source}
use Rattle.vl_tree.specs.Placed.{placed}
use Rattle.vl_tree.specs.Derives.{IsSource}
use Rattle.line_laws.specs.Moved.{move_source}

-- the line of a token, if there is one; a line of its own where there is none
abbrev pub line_or : ℕ → Option Token → ℕ
line_or line None = line
line_or line (Some (token other a)) = other

-- a token's place, on the line where these tokens have it
abbrev pub on_lines : Tokens → Place → Place
on_lines ts p = record { token = p.token; line = line_or p.line (slice_get ts p.token) }

-- A law: where tokens are a source, those of the same kinds on other lines are that source, with each place on its line.
abbrev pub LinesLaw : Type 0
LinesLaw = (ts us : Tokens) (s : Source) → map kind_of ts ≡ map kind_of us → IsSource (placed 0 ts) s
    → IsSource (placed 0 us) (move_source (on_lines us) s)
