-- What a statement begins with (IEEE 1364-2005, A.6.4, cut down).
use Rattle.std.specs.Prelude.{◌≡◌, Bool, true, false, Option, Some, None}
use Rattle.vl_tree.specs.declared.token.Key.{Key}
use Rattle.vl_tree.specs.declared.token.Key.TheVariants as w
use Rattle.vl_tree.specs.declared.token.Mark.{Mark}
use Rattle.vl_tree.specs.declared.token.Mark.TheVariants as m
use Rattle.vl_tree.specs.declared.token.System.{System}
use Rattle.vl_tree.specs.declared.token.System.TheVariants as s
use Rattle.vl_tree.specs.Token.{Kind}
use Rattle.vl_tree.specs.Token as k
use Rattle.vl_tree.specs.SyntaxView.{print}
use Rattle.vl_tree.specs.Statements.{case_word, print_name}
use Rattle.vl_simple.specs.declared.start.Start.{Start}
use Rattle.vl_simple.specs.declared.start.Start.TheVariants as start

-- a target begins with this mark
abbrev pub mark_aims : Mark → Bool
mark_aims m.OpenBrace = true
mark_aims a = false

-- a target begins with a token of this kind
abbrev pub aims : Kind → Bool
aims (k.name n) = true
aims (k.mark a) = mark_aims a
aims (k.number l) = false
aims (k.system s) = false
aims (k.str s) = false
aims (k.key w) = false

-- a token of this kind begins this sort of statement
abbrev pub IsStart : Kind → Start → Type 0
IsStart a start.Empty = a ≡ k.mark m.Semicolon
IsStart a start.Block = a ≡ k.key w.Begin
IsStart a start.Conditional = a ≡ k.key w.If
IsStart a (start.Select z) = a ≡ k.key (case_word z)
IsStart a start.Loop = a ≡ k.key w.For
IsStart a start.Assign = aims a ≡ true
IsStart a (start.Print p) = a ≡ k.system (print_name (print p))
IsStart a start.FilePrint = a ≡ k.system s.Fwrite
IsStart a start.Stop = a ≡ k.system s.Stop
IsStart a start.Fatal = a ≡ k.system s.Fatal

-- a statement begins with this keyword
abbrev pub key_starts : Key → Bool
key_starts w.Begin = true
key_starts w.If = true
key_starts w.Case = true
key_starts w.Casez = true
key_starts w.For = true
key_starts a = false

-- a statement begins with this mark
abbrev pub mark_starts : Mark → Bool
mark_starts m.Semicolon = true
mark_starts m.OpenBrace = true
mark_starts a = false

-- a statement begins with this system name
abbrev pub system_starts : System → Bool
system_starts s.Display = true
system_starts s.Write = true
system_starts s.Fwrite = true
system_starts s.Stop = true
system_starts s.Fatal = true
system_starts a = false

-- a statement begins with a token of this kind
abbrev pub starts : Kind → Bool
starts (k.name n) = true
starts (k.key w) = key_starts w
starts (k.mark a) = mark_starts a
starts (k.system s) = system_starts s
starts (k.number l) = false
starts (k.str s) = false

-- what a token of this kind begins, or that no statement begins with it
abbrev pub BeginsStatement : Kind → Option Start → Type 0
BeginsStatement a (Some s) = IsStart a s
BeginsStatement a None = starts a ≡ false
