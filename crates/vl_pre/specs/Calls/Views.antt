-- What the code's kinds, conditions and tables stand for in the words of the definitions. This project's own.
use Rattle.std.specs.Prelude.{ℕ, Bool, true, false, List, map, reverse, nat_eq}
use Rattle.std.specs.Cmp.Lexicographic.{pointwise}
use Rattle.indexmap.specs.IndexMap.{IndexMap, get}
use Rattle.vl_pre.specs.declared.pieces.First.{First}
use Rattle.vl_pre.specs.declared.pieces.First.TheVariants as f
use Rattle.vl_pre.specs.declared.lines.InLine as next
use Rattle.vl_pre.specs.declared.lines.InLine.TheVariants as l
use Rattle.vl_pre.specs.declared.names.Directive as word
use Rattle.vl_pre.specs.declared.names.Directive.TheVariants as n
use Rattle.vl_pre.specs.declared.names.Ticked as tick
use Rattle.vl_pre.specs.declared.names.Ticked.TheVariants as t
use Rattle.vl_pre.specs.declared.conditions.Branch.{Branch}
use Rattle.vl_pre.specs.declared.conditions.Branch.TheVariants as b
use Rattle.vl_pre.specs.declared.conditions.Condition as held
use Rattle.vl_pre.specs.declared.context.Context as code
use Rattle.vl_pre.specs.Pieces.{Head, line_comment, block_comment, a_string, escaped_name, a_backtick, any_other, InLine, continued, inside}
use Rattle.vl_pre.specs.Directives.{Directive, define, undef, ifdef, ifndef, elsif, otherwise, endif, passed_over, include, Ticked, no_name, a_directive, a_macro, Condition, Macros, Context}

-- what begins at a place
abbrev pub head_of : First → Head
head_of f.LineComment = line_comment
head_of f.BlockComment = block_comment
head_of f.Quote = a_string
head_of f.Backslash = escaped_name
head_of f.Tick = a_backtick
head_of f.Plain = any_other

-- what stands next in a line
abbrev pub in_line_of : next.InLine → InLine
in_line_of l.Continued = continued
in_line_of (l.Inside first) = inside (head_of first)

-- a directive
abbrev pub directive_of : word.Directive → Directive
directive_of n.Define = define
directive_of n.Undef = undef
directive_of n.Ifdef = ifdef
directive_of n.Ifndef = ifndef
directive_of n.Elsif = elsif
directive_of n.Else = otherwise
directive_of n.Endif = endif
directive_of n.Passed = passed_over
directive_of n.Include = include

-- what a backtick is
abbrev pub ticked_of : tick.Ticked → Ticked
ticked_of t.NoName = no_name
ticked_of (t.Named d) = a_directive (directive_of d)
ticked_of t.Macro = a_macro

-- none of the later branches is read
abbrev pub is_settled : Branch → Bool
is_settled b.Waiting = false
is_settled _ = true

-- this branch is read
abbrev pub is_reading : Branch → Bool
is_reading b.Reading = true
is_reading _ = false

-- an open condition
abbrev pub condition_of : held.Condition → Condition
condition_of c = record { line = c.line; settled = is_settled c.branch; reading = is_reading c.branch; had_else = c.last }

-- the body of each name in the table of macros
abbrev pub macros_of : {S : Type 0} → IndexMap (List ℕ) (List ℕ) S → Macros
macros_of m name = get (pointwise nat_eq) m name

-- what is defined and open; the code keeps the innermost condition last
abbrev pub context_of : code.Context → Context
context_of p = record { macros = macros_of p.macros; conditions = map condition_of (reverse p.conditions.items) }
