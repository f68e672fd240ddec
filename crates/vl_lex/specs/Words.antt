-- Keywords, marks and system names (IEEE 1364-2005, 3.4, 3.7.2, 3.7.3 and annex B).
use Rattle.std.specs.Prelude.{ℕ, List, [], ◌∷◌, ◌++◌, codes}
use Rattle.vl_tree.specs.declared.token.Key.{Key}
use Rattle.vl_tree.specs.declared.token.Key.TheVariants as k
use Rattle.vl_tree.specs.declared.token.Mark.{Mark}
use Rattle.vl_tree.specs.declared.token.Mark.TheVariants as m
use Rattle.vl_tree.specs.declared.token.System.{System}
use Rattle.vl_tree.specs.declared.token.System.TheVariants as s

-- the keywords that the grammar quotes
abbrev pub grammar_keys : List (List ℕ × Key)
grammar_keys =
    (codes "always", k.Always) ∷ (codes "assign", k.Assign) ∷ (codes "automatic", k.Automatic) ∷ (codes "begin", k.Begin) ∷
    (codes "case", k.Case) ∷ (codes "casez", k.Casez) ∷ (codes "default", k.Default) ∷ (codes "else", k.Else) ∷ (codes "end", k.End) ∷
    (codes "endcase", k.Endcase) ∷ (codes "endfunction", k.Endfunction) ∷ (codes "endgenerate", k.Endgenerate) ∷
    (codes "endmodule", k.Endmodule) ∷ (codes "for", k.For) ∷ (codes "function", k.Function) ∷ (codes "generate", k.Generate) ∷
    (codes "genvar", k.Genvar) ∷ (codes "if", k.If) ∷ (codes "initial", k.Initial) ∷ (codes "input", k.Input) ∷
    (codes "integer", k.Integer) ∷ (codes "localparam", k.Localparam) ∷ (codes "module", k.Module) ∷ (codes "negedge", k.Negedge) ∷
    (codes "or", k.Or) ∷ (codes "output", k.Output) ∷ (codes "parameter", k.Parameter) ∷ (codes "posedge", k.Posedge) ∷
    (codes "reg", k.Reg) ∷ (codes "signed", k.Signed) ∷ (codes "wire", k.Wire) ∷ []

-- the keywords that no rule of the grammar uses
abbrev pub unused_keys : List (List ℕ × Key)
unused_keys =
    (codes "inout", k.Inout) ∷ (codes "casex", k.Casex) ∷ (codes "task", k.Task) ∷ (codes "fork", k.Fork) ∷ (codes "join", k.Join) ∷
    (codes "wait", k.Wait) ∷ (codes "force", k.Force) ∷ (codes "release", k.Release) ∷ (codes "deassign", k.Deassign) ∷
    (codes "while", k.While) ∷ (codes "repeat", k.Repeat) ∷ (codes "forever", k.Forever) ∷ (codes "real", k.Real) ∷
    (codes "realtime", k.Realtime) ∷ (codes "time", k.Time) ∷ (codes "event", k.Event) ∷ (codes "tri", k.Tri) ∷ (codes "wand", k.Wand) ∷
    (codes "wor", k.Wor) ∷ (codes "supply0", k.Supply0) ∷ (codes "supply1", k.Supply1) ∷ (codes "defparam", k.Defparam) ∷
    (codes "specify", k.Specify) ∷ (codes "primitive", k.Primitive) ∷ (codes "disable", k.Disable) ∷ []

-- all keywords
abbrev pub keys : List (List ℕ × Key)
keys = grammar_keys ++ unused_keys

-- the marks, longer ones before those that they begin with
abbrev pub marks : List (List ℕ × Mark)
marks =
    (codes "(", m.OpenParen) ∷ (codes ")", m.CloseParen) ∷ (codes ";", m.Semicolon) ∷ (codes ",", m.Comma) ∷ (codes "[", m.OpenBracket) ∷
    (codes "]", m.CloseBracket) ∷ (codes "{", m.OpenBrace) ∷ (codes "}", m.CloseBrace) ∷ (codes ".", m.Dot) ∷ (codes ":", m.Colon) ∷
    (codes "#", m.Hash) ∷ (codes "@", m.At) ∷ (codes "?", m.Question) ∷ (codes "*", m.Star) ∷ (codes "/", m.Slash) ∷
    (codes "%", m.Percent) ∷ (codes "<<<", m.ArithmeticLeft) ∷ (codes ">>>", m.ArithmeticRight) ∷ (codes "===", m.CaseEqual) ∷
    (codes "!==", m.CaseNotEqual) ∷ (codes "<<", m.ShiftLeft) ∷ (codes ">>", m.ShiftRight) ∷ (codes "<=", m.LessEqual) ∷
    (codes ">=", m.GreaterEqual) ∷ (codes "==", m.EqualEqual) ∷ (codes "!=", m.NotEqual) ∷ (codes "&&", m.AndAnd) ∷ (codes "||", m.OrOr) ∷
    (codes "~&", m.Nand) ∷ (codes "~|", m.Nor) ∷ (codes "~^", m.Xnor) ∷ (codes "^~", m.Xnor) ∷ (codes "+:", m.PlusColon) ∷
    (codes "-:", m.MinusColon) ∷ (codes "=", m.Equals) ∷ (codes "+", m.Plus) ∷ (codes "-", m.Minus) ∷ (codes "<", m.Less) ∷
    (codes ">", m.Greater) ∷ (codes "&", m.And) ∷ (codes "|", m.Or) ∷ (codes "^", m.Xor) ∷ (codes "!", m.Not) ∷ (codes "~", m.Tilde) ∷ []

-- the system names that a rule uses, without their `$`
abbrev pub systems : List (List ℕ × System)
systems =
    (codes "display", s.Display) ∷ (codes "write", s.Write) ∷ (codes "fwrite", s.Fwrite) ∷ (codes "stop", s.Stop) ∷
    (codes "fatal", s.Fatal) ∷ (codes "signed", s.Signed) ∷ (codes "unsigned", s.Unsigned) ∷ (codes "clog2", s.Clog2) ∷ []
