-- What `parse_source` answers: the source that the tokens are, all of them; or why they are none. This project's own.
use Rattle.std.specs.Prelude.{◌≡◌, [], Result, Ok, Err}
use Rattle.vl_tree.specs.declared.item.Source as code
use Rattle.vl_tree.specs.Token.{Tokens}
use Rattle.vl_tree.specs.Syntax.{Source}
use Rattle.vl_tree.specs.SyntaxView.{source}
use Rattle.vl_tree.specs.Placed.{placed}
use Rattle.vl_tree.specs.Modules.{source_at}
use Rattle.vl_tree.specs.Derives.{IsSource, IsSyntax, IsDeep}
use Rattle.vl_read.specs.declared.fault.SynFault.{SynFault}
use Rattle.vl_read.specs.declared.fault.SynFault.TheVariants as s

-- why the tokens are no source; want of memory says nothing
abbrev pub IsRefused : Tokens → SynFault → Type 0
IsRefused ts (s.At k) = IsSyntax (placed 0 ts) k
IsRefused ts (s.Deep k) = IsDeep (placed 0 ts) k
IsRefused ts s.Memory = Unit {0}

-- the source, or why there is none
abbrev pub Parses : Tokens → Result code.Source SynFault → Type 0
Parses ts (Ok x) = IsSource (placed 0 ts) (source x)
Parses ts (Err e) = IsRefused ts e

-- the tokens are those of no other source
abbrev pub IsOnly : Tokens → code.Source → Type 0
IsOnly ts s = (t : Source) → source_at t (placed 0 ts) [] → t ≡ source s
