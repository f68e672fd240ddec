-- Directives: definitions, conditions, and what is passed over (IEEE 1364-2005, 19).
use Rattle.std.specs.Prelude.{ℕ, zero, suc, Bool, true, false, not, ◌&&◌, ◌||◌, if◌then◌else◌, List, [], ◌∷◌, drop, length, reverse, Option, Some, None, Result, Ok, Err, is_some, codes, bytes_eq}
use Rattle.std.specs.List.{prefix_len}
use Rattle.vl_pre.specs.Tables.{entry}
use Rattle.vl_pre.specs.Bytes.{Text, bytes, begins, at_line_end, is_white, name_at}
use Rattle.vl_tree.specs.declared.fault.FaultKind.TheVariants.{BadDirective, Unbalanced}
use Rattle.vl_pre.specs.Pieces.{Fault, fault, Part, and_then, after_block, rest_of_line}

-- ---- names after backticks

-- the directives that are known, those five that are passed over as one
pub data Directive : Type 0 where
  define : Directive
  undef : Directive
  ifdef : Directive
  ifndef : Directive
  elsif : Directive
  otherwise : Directive
  endif : Directive
  passed_over : Directive
  include : Directive

-- what a backtick is by the name after it: one without a name, a directive, or the use of a macro
pub data Ticked : Type 0 where
  no_name : Ticked
  a_directive : Directive → Ticked
  a_macro : Ticked

-- the directives by their names; a name that isn't here is a macro's
abbrev pub directives : List (List ℕ × Directive)
directives =
    (codes "define", define) ∷ (codes "undef", undef) ∷
    (codes "ifdef", ifdef) ∷ (codes "ifndef", ifndef) ∷ (codes "elsif", elsif) ∷ (codes "else", otherwise) ∷ (codes "endif", endif) ∷
    (codes "timescale", passed_over) ∷ (codes "default_nettype", passed_over) ∷ (codes "resetall", passed_over) ∷
    (codes "celldefine", passed_over) ∷ (codes "endcelldefine", passed_over) ∷
    (codes "include", include) ∷ []

-- the five that are recognised in skipped text too (19.4)
abbrev pub is_conditional : Directive → Bool
is_conditional ifdef = true
is_conditional ifndef = true
is_conditional elsif = true
is_conditional otherwise = true
is_conditional endif = true
is_conditional _ = false

-- a name in the table is a directive's
abbrev pub named : Option Directive → Ticked
named None = a_macro
named (Some d) = a_directive d

-- what the name after a backtick makes it
abbrev pub ticked : List ℕ → Ticked
ticked [] = no_name
ticked (b ∷ bs) = named (entry directives (b ∷ bs))

-- ---- what is defined, and which conditions are open

-- the body of each name that is defined
abbrev pub Macros : Type 0
Macros = List ℕ → Option (List ℕ)

-- nothing is defined
abbrev pub no_macros : Macros
no_macros name = None

-- a later definition takes an earlier one's place (19.3.1)
abbrev pub defined : List ℕ → List ℕ → Macros → Macros
defined name body macros x = if bytes_eq name x then Some body else macros x

-- without this name (19.3.2)
abbrev pub undefined : List ℕ → Macros → Macros
undefined name macros x = if bytes_eq name x then None else macros x

-- an open condition: the line of its `ifdef` or `ifndef`; whether none of its later branches is read, since one
-- was taken or the text round it is skipped; whether its present branch is read; whether its `else` has come
pub record Condition : Type 0 where
  pub line : ℕ
  pub settled : Bool
  pub reading : Bool
  pub had_else : Bool

-- the macros, and the open conditions from the innermost
pub record Context : Type 0 where
  pub macros : Macros
  pub conditions : List Condition

-- with these macros
abbrev pub with_macros : Macros → Context → Context
with_macros macros context = record context { macros = macros }

-- text is read, and not skipped: a condition in skipped text reads no branch, so the innermost tells
abbrev pub is_read : List Condition → Bool
is_read [] = true
is_read (c ∷ cs) = c.reading

-- a condition that opens on this line, by whether the text round it is read and whether it holds (19.4)
abbrev pub first_branch : Bool → ℕ → Bool → Condition
first_branch around line holds = record { line = line; settled = not around || holds; reading = around && holds; had_else = false }

-- a condition in its next branch, by whether that one holds and whether it is the one of `else` (19.4)
abbrev pub next_branch : Bool → Bool → Condition → Condition
next_branch holds is_else c = record c { settled = c.settled || holds; reading = not c.settled && holds; had_else = is_else }

-- ---- the NAME of a directive

-- white space, and no line's end
abbrev pub at_blank : List ℕ → Bool
at_blank [] = false
at_blank (b ∷ bs) = is_white b && not (at_line_end (b ∷ bs))

-- between a directive and its NAME: a comment from `/*`, which is a blank, or a blank
abbrev pub at_gap : List ℕ → Bool
at_gap bs = begins (codes "/*") bs || at_blank bs

-- what is after the comment (true) or the blank at the head
abbrev pub after_one : Bool → Text → Result Text Fault
after_one true ts = after_block ts
after_one false ts = Ok (drop 1 ts)

-- whether the gap goes on, where `more` reads on
abbrev pub gap_from : Bool → Text → (Text → Result Text Fault) → Result Text Fault
gap_from true ts more = and_then (after_one (begins (codes "/*") (bytes ts)) ts) more
gap_from false ts more = Ok ts

-- what is after the gap at the head of a text, in at most n pieces
abbrev pub after_gap : ℕ → Text → Result Text Fault
after_gap n [] = Ok []
after_gap zero (c ∷ ts) = Ok (c ∷ ts)
after_gap (suc n) (c ∷ ts) = gap_from (at_gap (bytes (c ∷ ts))) (c ∷ ts) (after_gap n)

-- a name that is a macro's, and the text after it; any other is a fault of the directive on this line
abbrev pub macro_name : ℕ → Ticked → Text → Result (List ℕ × Text) Fault
macro_name line a_macro ts = Ok (name_at ts, drop (length (name_at ts)) ts)
macro_name line _ ts = Err (fault BadDirective line)

-- the NAME of the directive on this line, and the text after it
abbrev pub name_of : ℕ → Text → Result (List ℕ × Text) Fault
name_of line ts = and_then (after_gap (length ts) ts) (λ rest. macro_name line (ticked (name_at rest)) rest)

-- ---- what a directive does

-- where the text goes on, and what is defined and open there. A directive gives no bytes
pub record After : Type 0 where
  pub context : Context
  pub rest : Text

-- the text goes on from this place
abbrev pub went : Context → Text → Result After Fault
went context rest = Ok (record { context = context; rest = rest })

-- white space at the head is no part of these bytes
abbrev pub without_blanks : List ℕ → List ℕ
without_blanks bs = drop (prefix_len is_white bs) bs

-- white space at either end is no part of a body (19.3.1)
abbrev pub trimmed : List ℕ → List ℕ
trimmed bs = reverse (without_blanks (reverse (without_blanks bs)))

-- the bytes of a part and what is left after it, or its fault
abbrev pub whole_by : Option Fault → Part → Result (List ℕ × Text) Fault
whole_by None p = Ok (bytes p.given, p.rest)
whole_by (Some f) p = Err f

-- the rest of a line and what is left after it: the line's end
abbrev pub line_of : Bool → Text → Result (List ℕ × Text) Fault
line_of continues ts = let p = rest_of_line (length ts) continues ts in whole_by p.fault p

-- `define` after its NAME, and whether `(` stands there: the body is the rest of the line (19.3.1)
abbrev pub define_by : Bool → ℕ → Context → List ℕ → Text → Result After Fault
define_by true line context name ts = Err (fault BadDirective line)
define_by false line context name ts =
    and_then (line_of true ts) (λ body. went (with_macros (defined name (trimmed body.0) context.macros) context) body.1)

-- whether the condition of `ifdef` (true) or `ifndef` (false) holds, by whether its name is defined (19.4)
abbrev pub holds : Bool → Bool → Bool
holds true is_there = is_there
holds false is_there = not is_there

-- with a condition that opens on this line, and holds or not
abbrev pub opened : ℕ → Bool → Context → Context
opened line first_holds context = record context { conditions = first_branch (is_read context.conditions) line first_holds ∷ context.conditions }

-- `ifdef` (true) or `ifndef` (false) opens a condition
abbrev pub open_step : Bool → ℕ → Context → Text → Result After Fault
open_step wanted line context ts = and_then (name_of line ts) (λ n. went (opened line (holds wanted (is_some (context.macros n.0))) context) n.1)

-- the innermost condition goes on with its next branch, unless its `else` was read: whether that branch holds,
-- and whether it is the one of `else`
abbrev pub branch_by : Bool → ℕ → Context → Condition → List Condition → Bool → Bool → Text → Result After Fault
branch_by true line context c cs holds is_else rest = Err (fault Unbalanced line)
branch_by false line context c cs holds is_else rest = went (record context { conditions = next_branch holds is_else c ∷ cs }) rest

-- the same, where a condition is open
abbrev pub branch_step : ℕ → Context → List Condition → Bool → Bool → Text → Result After Fault
branch_step line context [] holds is_else rest = Err (fault Unbalanced line)
branch_step line context (c ∷ cs) holds is_else rest = branch_by c.had_else line context c cs holds is_else rest

-- the innermost condition may go on to a next branch: one is open, and its `else` hasn't come
abbrev pub may_turn : List Condition → Bool
may_turn [] = false
may_turn (c ∷ cs) = not c.had_else

-- `elsif`, by whether a condition may go on with it; only then its NAME is looked at
abbrev pub elsif_by : Bool → ℕ → Context → Text → Result After Fault
elsif_by false line context ts = Err (fault Unbalanced line)
elsif_by true line context ts =
    and_then (name_of line ts) (λ n. branch_step line context context.conditions (is_some (context.macros n.0)) false n.1)

-- the innermost condition ends
abbrev pub close_step : ℕ → Context → List Condition → Text → Result After Fault
close_step line context [] rest = Err (fault Unbalanced line)
close_step line context (c ∷ cs) rest = went (record context { conditions = cs }) rest

-- what a directive on this line does, and how the text goes on after it
abbrev pub directive_step : Directive → ℕ → Context → Text → Result After Fault
directive_step define line context ts = and_then (name_of line ts) (λ n. define_by (begins (codes "(") (bytes n.1)) line context n.0 n.1)
directive_step undef line context ts = and_then (name_of line ts) (λ n. went (with_macros (undefined n.0 context.macros) context) n.1)
directive_step ifdef line context ts = open_step true line context ts
directive_step ifndef line context ts = open_step false line context ts
directive_step elsif line context ts = elsif_by (may_turn context.conditions) line context ts
directive_step otherwise line context ts = branch_step line context context.conditions true true ts
directive_step endif line context ts = close_step line context context.conditions ts
directive_step passed_over line context ts = and_then (line_of false ts) (λ passed. went context passed.1)
directive_step include line context ts = Err (fault BadDirective line)
