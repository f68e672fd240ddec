-- What is left of a rule after its first parts.
use Rattle.std.proofs.Common.{◌+◌, ℕ, List}
use Rattle.std.specs.Prelude.{Option}
use Rattle.vl_tree.specs.declared.token.Key.TheVariants as w
use Rattle.vl_tree.specs.declared.token.Mark.TheVariants as m
use Rattle.vl_tree.specs.Token.{Tokens, Literal}
use Rattle.vl_tree.specs.Token as k
use Rattle.vl_tree.specs.Tree.{Text, Expr, Port}
use Rattle.vl_tree.specs.Grammar.{kind, word, mark, name_at, expr_at}
use Rattle.vl_module.specs.Rules.{shown_end, range_at, list_at}
use Rattle.vl_module.proofs.Pieces.{lead, trail, pair}

abbrev pub string_at : ℕ → Text → Tokens → Tokens → Type 0
string_at d s = kind d (k.str s)

abbrev pub number_at : ℕ → Literal → Tokens → Tokens → Type 0
number_at d l = kind d (k.number l)

-- target `<=` value `;`
abbrev pub assign_value : ℕ → Expr → Tokens → Tokens → Type 0
assign_value d = trail (expr_at d) (mark d m.Semicolon)

abbrev pub assign_arrow : ℕ → Expr → Tokens → Tokens → Type 0
assign_arrow d = lead (mark d m.LessEqual) (assign_value d)

-- `$display` `(` format shown `)` `;`
abbrev pub display_format : ℕ → Text × Option Text → Tokens → Tokens → Type 0
display_format d = pair (string_at (d + 1)) (shown_end d)

abbrev pub display_open : ℕ → Text × Option Text → Tokens → Tokens → Type 0
display_open d = lead (mark d m.OpenParen) (display_format d)

-- `[` left `:` right `]`
abbrev pub range_right : ℕ → Literal → Tokens → Tokens → Type 0
range_right d = trail (number_at (d + 1)) (mark d m.CloseBracket)

abbrev pub range_colon : ℕ → Literal → Tokens → Tokens → Type 0
range_colon d = lead (mark (d + 1) m.Colon) (range_right d)

abbrev pub range_left : ℕ → Literal × Literal → Tokens → Tokens → Type 0
range_left d = pair (number_at (d + 1)) (range_colon d)

-- `output` `reg` range name
abbrev pub output_range : ℕ → (Literal × Literal) × Text → Tokens → Tokens → Type 0
output_range d = pair (range_at d) (name_at d)

abbrev pub output_reg : ℕ → (Literal × Literal) × Text → Tokens → Tokens → Type 0
output_reg d = lead (word d w.Reg) (output_range d)

-- `module` name ports
abbrev pub header_name : Text × List Port → Tokens → Tokens → Type 0
header_name = pair (name_at 0) list_at

-- `always` `@` `(` `posedge` clock `)`
abbrev pub clock_name : ℕ → Text → Tokens → Tokens → Type 0
clock_name d = trail (name_at (d + 1)) (mark d m.CloseParen)

abbrev pub clock_edge : ℕ → Text → Tokens → Tokens → Type 0
clock_edge d = lead (word (d + 1) w.Posedge) (clock_name d)

abbrev pub clock_open : ℕ → Text → Tokens → Tokens → Type 0
clock_open d = lead (mark d m.OpenParen) (clock_edge d)

abbrev pub clock_mark : ℕ → Text → Tokens → Tokens → Type 0
clock_mark d = lead (mark d m.At) (clock_open d)
