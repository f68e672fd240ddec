-- Pieces of text: comments, strings, escaped names and single bytes (IEEE 1364-2005, 3.3, 3.6 and 3.7.1).
use Rattle.std.specs.Prelude.{ℕ, zero, suc, ◌==◌, Bool, true, false, not, ◌&&◌, ◌||◌, if◌then◌else◌, List, [], ◌∷◌, ◌++◌, take, drop, Option, Some, None, Result, Ok, Err, codes}
use Rattle.vl_tree.specs.declared.fault.FaultKind.TheVariants.{BadByte, OpenComment}
use Rattle.vl_tree.specs.declared.fault.FaultKind.{FaultKind}
pub use Rattle.vl_pre.specs.Faults.{Fault, fault}
use Rattle.vl_pre.specs.Bytes.{Placed, Text, at_line, bytes, begins, at_line_end, is_white, is_allowed}

-- ---- parts of a reading

-- what was read of a text: the bytes that it gives, the fault that ended it, and what is left after it
pub record Part : Type 0 where
  pub given : Text
  pub fault : Option Fault
  pub rest : Text

-- a part without fault
abbrev pub gives : Text → Text → Part
gives given rest = record { given = given; fault = None; rest = rest }

-- a part that gives nothing but this fault
abbrev pub stops : Fault → Part
stops f = record { given = []; fault = Some f; rest = [] }

-- a fault of this kind on this line, and nothing else
abbrev pub fails : FaultKind → ℕ → Part
fails kind line = stops (fault kind line)

-- these bytes come before those
abbrev pub before : Text → Part → Part
before first p = record p { given = first ++ p.given }

-- a part with this fault or none, and what is read after it where it has none
abbrev pub go_by : Option Fault → Part → (Text → Part) → Part
go_by None p more = before p.given (more p.rest)
go_by (Some f) p more = p

-- the same, by the fault that it has
abbrev pub go_on : Part → (Text → Part) → Part
go_on p more = go_by p.fault p more

-- an answer, and what comes of it; a fault stays
abbrev pub and_then : {X Y : Type 0} → Result X Fault → (X → Result Y Fault) → Result Y Fault
and_then (Ok x) more = more x
and_then (Err f) more = Err f

-- ---- where a line stops

-- a backslash directly before a line's end, which continues the line of a definition (19.3.1)
abbrev pub at_continued : List ℕ → Bool
at_continued [] = false
at_continued (b ∷ bs) = b == 92 && at_line_end bs

-- where a line stops: at its end, and where backslashes continue it also at those
abbrev pub stops_line : Bool → List ℕ → Bool
stops_line continues bs = at_line_end bs || (continues && at_continued bs)

-- the text from the first place on where a line stops
abbrev pub from_stop : Bool → Text → Text
from_stop continues [] = []
from_stop continues (c ∷ ts) = if stops_line continues (bytes (c ∷ ts)) then c ∷ ts else from_stop continues ts

-- ---- what stands at the head of a text

-- what begins at a place: a comment to the line's end or from `/*` to `*/`, a string, an escaped name, a
-- backtick, or any other byte
pub data Head : Type 0 where
  line_comment : Head
  block_comment : Head
  a_string : Head
  escaped_name : Head
  a_backtick : Head
  any_other : Head

-- what a piece begins with
abbrev pub first : List ℕ → Head
first bs =
    if begins (codes "//") bs then line_comment else
    if begins (codes "/*") bs then block_comment else
    if begins (34 ∷ []) bs then a_string else
    if begins (92 ∷ []) bs then escaped_name else
    if begins (96 ∷ []) bs then a_backtick else any_other

-- the text after the next `*/`
abbrev pub after_close : Text → Option Text
after_close [] = None
after_close (c ∷ ts) = if begins (codes "*/") (bytes (c ∷ ts)) then Some (drop 1 ts) else after_close ts

-- what is after a comment that begins on this line, which isn't closed where nothing is
abbrev pub closed : ℕ → Option Text → Result Text Fault
closed line (Some rest) = Ok rest
closed line None = Err (fault OpenComment line)

-- the text after the comment from `/*` to `*/` at its head (3.3)
abbrev pub after_block : Text → Result Text Fault
after_block [] = Ok []
after_block (c ∷ ts) = closed c.line (after_close (drop 1 ts))

-- how many bytes a string has after its first quote: to the next quote that no backslash escapes, that
-- one included, or to where a line stops (3.6)
abbrev pub string_length : Bool → Bool → List ℕ → ℕ
string_length continues escaped [] = 0
string_length continues escaped (b ∷ bs) =
    if stops_line continues (b ∷ bs) then 0 else
    if b == 34 && not escaped then 1 else suc (string_length continues (b == 92 && not escaped) bs)

-- how many bytes an escaped name has after its backslash: it ends before white space, or where a line stops (3.7.1)
abbrev pub escaped_length : Bool → List ℕ → ℕ
escaped_length continues [] = 0
escaped_length continues (b ∷ bs) = if is_white b || stops_line continues (b ∷ bs) then 0 else suc (escaped_length continues bs)

-- how many bytes the piece at the head has that is no comment; a backtick is a piece of its own here: what it
-- does is said of directives
abbrev pub kept_length : Bool → Head → List ℕ → ℕ
kept_length continues a_string bs = suc (string_length continues false (drop 1 bs))
kept_length continues escaped_name bs = suc (escaped_length continues (drop 1 bs))
kept_length continues _ bs = 1

-- these bytes as they stand, up to the first that isn't allowed
abbrev pub as_it_stands : Text → Text → Part
as_it_stands [] rest = gives [] rest
as_it_stands (c ∷ ts) rest = if is_allowed c.byte then before (c ∷ []) (as_it_stands ts rest) else fails BadByte c.line

-- the first n bytes as they stand
abbrev pub kept : ℕ → Text → Part
kept n ts = as_it_stands (take n ts) (drop n ts)

-- the one blank that a comment leaves
abbrev pub blank : ℕ → Text
blank line = at_line line 32 ∷ []

-- one blank, unless the comment isn't closed
abbrev pub blank_before : ℕ → Result Text Fault → Part
blank_before line (Ok rest) = gives (blank line) rest
blank_before line (Err f) = stops f

-- the piece at the head of a text, by what it begins with: a comment is one blank on the line where it begins
abbrev pub piece : Bool → Head → Placed → Text → Part
piece continues line_comment c ts = gives (blank c.line) (from_stop continues ts)
piece continues block_comment c ts = blank_before c.line (after_block (c ∷ ts))
piece continues f c ts = kept (kept_length continues f (bytes (c ∷ ts))) (c ∷ ts)

-- ---- the rest of a line

-- what may stand next in a line: a backslash that continues it, or a piece that begins so
pub data InLine : Type 0 where
  continued : InLine
  inside : Head → InLine

-- what stands next in this line
abbrev pub in_line : Bool → List ℕ → InLine
in_line continues bs = if continues && at_continued bs then continued else inside (first bs)

-- the text after the line's end at its head
abbrev pub after_line_end : Text → Text
after_line_end ts = drop (if begins (10 ∷ []) (bytes ts) then 1 else 2) ts

-- the piece at the head of a line: a backslash that continues it is one blank, and a `//` comment is no part of it
abbrev pub line_piece : InLine → Bool → Placed → Text → Part
line_piece continued continues c ts = gives (blank c.line) (after_line_end ts)
line_piece (inside line_comment) continues c ts = gives [] (from_stop continues ts)
line_piece (inside f) continues c ts = piece continues f c ts

-- the rest of a line, whether it ends here, where `more` reads on after the next piece
abbrev pub line_from : Bool → Bool → Placed → Text → (Text → Part) → Part
line_from true continues c ts more = gives [] (c ∷ ts)
line_from false continues c ts more = go_on (line_piece (in_line continues (bytes (c ∷ ts))) continues c ts) more

-- the rest of a line, in at most n pieces; the line's end is left after it
abbrev pub rest_of_line : ℕ → Bool → Text → Part
rest_of_line n continues [] = gives [] []
rest_of_line zero continues (c ∷ ts) = gives [] (c ∷ ts)
rest_of_line (suc n) continues (c ∷ ts) = line_from (at_line_end (bytes (c ∷ ts))) continues c ts (rest_of_line n continues)
