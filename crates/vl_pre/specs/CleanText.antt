-- Clean text: what a text says once comments, directives and macros are replaced (IEEE 1364-2005, 3.3 and 19).
use Rattle.std.specs.Prelude.{ℕ, zero, suc, Bool, true, false, List, [], ◌∷◌, drop, length, Option, Some, None, Result, Ok, Err}
use Rattle.vl_pre.specs.Bytes.{Placed, Text, placed, all_at, bytes, name_at, most_clean}
use Rattle.vl_tree.specs.declared.fault.FaultKind.TheVariants.{BadDirective, Unbalanced, UnknownMacro, MacroDepth, TooLong}
use Rattle.vl_pre.specs.Pieces.{Head, line_comment, block_comment, a_string, a_backtick, Fault, fault, Part, gives, stops, fails, go_on, and_then, first, from_stop, after_block, kept_length, piece}
use Rattle.vl_pre.specs.Directives.{Directive, Ticked, no_name, a_directive, a_macro, Condition, is_conditional, ticked, Macros, no_macros, Context, is_read, After, went, directive_step}

-- ---- macros

-- a backtick with this name in a body: the use of a macro, which gives what `expand` says
abbrev pub body_tick : (List ℕ → Part) → ℕ → Ticked → Text → Part
body_tick expand line a_macro ts = record (expand (name_at ts)) { rest = drop (length (name_at ts)) ts }
body_tick expand line _ ts = fails BadDirective line

-- the piece at the head of a body
abbrev pub body_piece : (List ℕ → Part) → ℕ → Head → Placed → Text → Part
body_piece expand line a_backtick c ts = body_tick expand line (ticked (name_at ts)) ts
body_piece expand line f c ts = piece false f c ts

-- what a body gives on this line, in at most n pieces: its own bytes, and what the macros that it uses give
abbrev pub body_reading : (List ℕ → Part) → ℕ → ℕ → Text → Part
body_reading expand line n [] = gives [] []
body_reading expand line zero (c ∷ ts) = gives [] (c ∷ ts)
body_reading expand line (suc n) (c ∷ ts) = go_on (body_piece expand line (first (bytes (c ∷ ts))) c ts) (body_reading expand line n)

-- what the whole body gives on this line
abbrev pub whole_body : (List ℕ → Part) → ℕ → List ℕ → Part
whole_body expand line body = body_reading expand line (length body) (all_at line body)

-- what a use on this line gives, by what its body gives, if it has one
abbrev pub expanded : ℕ → (List ℕ → Part) → Option (List ℕ) → Part
expanded line body_gives None = fails UnknownMacro line
expanded line body_gives (Some body) = body_gives body

-- what the use of a macro gives on this line, where so many expansions may stand in one another (19.3.1)
abbrev pub use_of : ℕ → Macros → ℕ → List ℕ → Part
use_of zero macros line name = expanded line (λ body. fails MacroDepth line) (macros name)
use_of (suc depth) macros line name = expanded line (whole_body (use_of depth macros line) line) (macros name)

-- an expansion inside this many others is a fault
abbrev pub most_depth : ℕ
most_depth = 16

-- ---- the text

-- a part of a text, and what is defined and open after it
pub record Step : Type 0 where
  pub part : Part
  pub context : Context

-- nothing is given
abbrev pub nothing : Context → Result After Fault → Step
nothing context (Ok a) = record { part = gives [] a.rest; context = a.context }
nothing context (Err f) = record { part = stops f; context = context }

-- a backtick with this name in text that is read
abbrev pub tick_step : Ticked → ℕ → Context → Text → Step
tick_step no_name line context ts = record { part = fails BadDirective line; context = context }
tick_step (a_directive d) line context ts = nothing context (directive_step d line context (drop (length (name_at ts)) ts))
tick_step a_macro line context ts =
    record { part = record (use_of most_depth context.macros line (name_at ts)) { rest = drop (length (name_at ts)) ts }; context = context }

-- what stands at the head of a text that is read
abbrev pub read_step : Head → Context → Placed → Text → Step
read_step a_backtick context c ts = tick_step (ticked (name_at ts)) c.line context ts
read_step f context c ts = record { part = piece false f c ts; context = context }

-- a directive in skipped text, and whether it is a conditional one
abbrev pub skipped_directive : Bool → Directive → ℕ → Context → Text → Result After Fault
skipped_directive true d line context ts = directive_step d line context (drop (length (name_at ts)) ts)
skipped_directive false d line context ts = went context ts

-- a backtick with this name in skipped text
abbrev pub skipped_tick : Ticked → ℕ → Context → Text → Result After Fault
skipped_tick (a_directive d) line context ts = skipped_directive (is_conditional d) d line context ts
skipped_tick _ line context ts = went context ts

-- what stands at the head of skipped text: comments, strings and the conditional directives are recognised,
-- and nothing else (19.4)
abbrev pub skipped_step : Head → Context → Placed → Text → Result After Fault
skipped_step line_comment context c ts = went context (from_stop false ts)
skipped_step block_comment context c ts = and_then (after_block (c ∷ ts)) (went context)
skipped_step a_string context c ts = went context (drop (kept_length false a_string (bytes (c ∷ ts))) (c ∷ ts))
skipped_step a_backtick context c ts = skipped_tick (ticked (name_at ts)) c.line context ts
skipped_step _ context c ts = went context ts

-- what stands at the head of a text that is read, or of one that is skipped
abbrev pub step : Bool → Context → Placed → Text → Step
step true context c ts = read_step (first (bytes (c ∷ ts))) context c ts
step false context c ts = nothing context (skipped_step (first (bytes (c ∷ ts))) context c ts)

-- the end of the text: an open condition is a fault at its line, the innermost first
abbrev pub at_end : List Condition → Part
at_end [] = gives [] []
at_end (c ∷ cs) = fails Unbalanced c.line

-- what a text gives from this place on, in at most n steps
abbrev pub reading_from : ℕ → Context → Text → Part
reading_from n context [] = at_end context.conditions
reading_from zero context (c ∷ ts) = at_end context.conditions
reading_from (suc n) context (c ∷ ts) = let s = step (is_read context.conditions) context c ts in go_on s.part (reading_from n s.context)

-- nothing is defined at the start
abbrev pub start : Context
start = record { macros = no_macros; conditions = [] }

-- the bytes given before the first fault, and that fault; each step takes a byte, so the length bounds them
abbrev pub reading : List ℕ → Part
reading bs = reading_from (length bs) start (placed 1 bs)

-- what is given by this many bytes at most: those after them, the fault after those given, and the bytes
abbrev pub answer : Text → Option Fault → Text → Result Text Fault
answer (c ∷ more) f given = Err (fault TooLong c.line)
answer [] (Some f) given = Err f
answer [] None given = Ok given

-- a reading that gives at most so many bytes
abbrev pub within : ℕ → Part → Result Text Fault
within most p = answer (drop most p.given) p.fault p.given

-- the clean bytes of a text with their lines, or its first fault
abbrev pub clean_text : List ℕ → Result Text Fault
clean_text bs = within most_clean (reading bs)
