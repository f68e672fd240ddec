-- What the readers promise each other, beside what the definition says. This project's own.
use Rattle.std.specs.Prelude.{ℕ, ◌≡◌, ◌≤◌, Bool, true, false, List, [], ◌∷◌, ◌++◌, ◌&&◌, cond, drop, length, nat_eq, nat_le, Option, Some, None, Result, Ok, Err}
use denote.Ref.{Bor}
use Rattle.std.specs.Cmp.Lexicographic.{pointwise}
use Rattle.indexmap.specs.IndexMap.{IndexMap, get}
use Rattle.vl_tree.specs.declared.fault.StaticFault.{StaticFault}
pub use Rattle.vl_pre.specs.Faults.{fault_of, HasFault}
pub use Rattle.vl_pre.specs.Calls.Views.{macros_of, context_of}
use Rattle.vl_pre.specs.declared.context.Context as code
use Rattle.vl_pre.specs.Bytes.{Text, bytes, name_at, most_clean}
use Rattle.vl_pre.specs.Pieces.{Head, a_backtick, InLine, Fault, Part, gives, piece, after_close, first, after_block, in_line, line_piece}
use Rattle.vl_pre.specs.Directives.{Condition, Macros, Context, After, went, ticked}
use Rattle.vl_pre.specs.CleanText.{Step, step, read_step, skipped_step, body_piece, body_tick, use_of, answer, at_end}

-- ---- writing

-- the whole answer is this fault, where these bytes stand before the part
abbrev pub EndsWith : Text → Part → Option Fault → Type 0
EndsWith old p None = Unit {0}
EndsWith old p (Some f) = answer (drop most_clean (old ++ p.given)) p.fault (old ++ p.given) ≡ Err f

-- the part was written whole, within the limit, and the text goes on after it
pub record Wrote (old new rest : Text) (p : Part) : Type 0 where
  pub sound : p.fault ≡ None
  pub all : new ≡ old ++ p.given
  pub fits : length new ≤ most_clean
  pub left : rest ≡ p.rest

-- what a writer answers
abbrev pub Writes : Text → Text → Text → Part → Result (Unit {0}) StaticFault → Type 0
Writes old new rest p (Ok u) = Wrote old new rest p
Writes old new rest p (Err f) = EndsWith old p (fault_of f)

-- ---- bodies

-- the part has this fault; where none is named, nothing is said
abbrev pub PartHasFault : Part → Option Fault → Type 0
PartHasFault p None = Unit {0}
PartHasFault p (Some f) = p.fault ≡ Some f

-- the bytes of the part were appended, and the text goes on after it
pub record Kept (old new : List ℕ) (rest : Text) (p : Part) : Type 0 where
  pub sound : p.fault ≡ None
  pub all : new ≡ old ++ bytes p.given
  pub left : rest ≡ p.rest

-- what a reader of a body answers
abbrev pub Keeps : List ℕ → List ℕ → Text → Part → Result (Unit {0}) StaticFault → Type 0
Keeps old new rest p (Ok u) = Kept old new rest p
Keeps old new rest p (Err f) = PartHasFault p (fault_of f)

-- ---- comments

-- whether a `*/` was passed
abbrev pub Closes : Text → Text → Bool → Type 0
Closes old new true = after_close old ≡ Some new
Closes old new false = after_close old ≡ None

-- the line of the byte at the head
abbrev pub head_line : Text → ℕ
head_line [] = 0
head_line (c ∷ ts) = c.line

-- a comment from `/*` was passed, with the line on which it begins
abbrev pub Passes : Text → Text → Result ℕ StaticFault → Type 0
Passes old new (Ok line) = (after_block old ≡ Ok new) × (line ≡ head_line old)
Passes old new (Err f) = HasFault (after_block old) (fault_of f)

-- ---- lines

-- the piece at the head of a line, which isn't empty
abbrev pub next_in_line : Bool → Text → Part
next_in_line continues [] = gives [] []
next_in_line continues (c ∷ ts) = line_piece (in_line continues (bytes (c ∷ ts))) continues c ts

-- the piece at the head of a text that isn't empty, which begins so
abbrev pub piece_at : Bool → Head → Text → Part
piece_at continues f [] = gives [] []
piece_at continues f (c ∷ ts) = piece continues f c ts

-- the piece at the head of a line, where it begins so
abbrev pub piece_in_line : InLine → Bool → Text → Part
piece_in_line i continues [] = gives [] []
piece_in_line i continues (c ∷ ts) = line_piece i continues c ts

-- the bytes of the part, and the text goes on after it
abbrev pub ReadsPart : Text → Part → Result (List ℕ) StaticFault → Type 0
ReadsPart rest p (Ok bs) = Kept [] bs rest p
ReadsPart rest p (Err f) = PartHasFault p (fault_of f)

-- ---- directives

-- the text goes on there
abbrev pub Moves : Text → Result Text Fault → Result (Unit {0}) StaticFault → Type 0
Moves new r (Ok u) = r ≡ Ok new
Moves new r (Err f) = HasFault r (fault_of f)

-- the name that was found, and the text goes on after it
abbrev pub Finds : Text → Result (List ℕ × Text) Fault → Result (Bor (List ℕ)) StaticFault → Type 0
Finds new r (Ok name) = r ≡ Ok (name.now, new)
Finds new r (Err f) = HasFault r (fault_of f)

-- the place was changed so, and the text goes on there
abbrev pub Goes : Text → code.Context → Result After Fault → Result (Unit {0}) StaticFault → Type 0
Goes rest context r (Ok u) = r ≡ Ok (record { context = context_of context; rest = rest })
Goes rest context r (Err f) = HasFault r (fault_of f)

-- the place was changed so, or out of memory
abbrev pub Changes : Context → code.Context → Result (Unit {0}) StaticFault → Type 0
Changes p new (Ok u) = context_of new ≡ p
Changes p new (Err f) = fault_of f ≡ None

-- no condition is open at the end of the text, or the fault of one that is
abbrev pub Finishes : List Condition → Result (Unit {0}) StaticFault → Type 0
Finishes cs (Ok u) = cs ≡ []
Finishes cs (Err f) = (at_end cs).fault ≡ fault_of f

-- the bytes in a text of their own, or out of memory
abbrev pub Copies : List ℕ → Result (List ℕ) StaticFault → Type 0
Copies bs (Ok t) = t ≡ bs
Copies bs (Err f) = fault_of f ≡ None

-- ---- the text

-- what a writer answers that has no text of its own
abbrev pub Gives : Text → Text → Part → Result (Unit {0}) StaticFault → Type 0
Gives old new p r = Writes old new p.rest p r

-- the piece at the head of a body that isn't empty
abbrev pub body_piece_at : (List ℕ → Part) → ℕ → Text → Part
body_piece_at expand line [] = gives [] []
body_piece_at expand line (c ∷ ts) = body_piece expand line (first (bytes (c ∷ ts))) c ts

-- the use of a macro, whose backtick stands at the head of a body
abbrev pub body_use_at : (List ℕ → Part) → ℕ → Text → Part
body_use_at expand line ts = body_tick expand line (ticked (name_at (drop 1 ts))) (drop 1 ts)

-- the step at the head of a text that is read, or of one that is skipped, and isn't empty
abbrev pub step_at : Bool → Context → Text → Step
step_at is_read context [] = record { part = gives [] []; context = context }
step_at is_read context (c ∷ ts) = step is_read context c ts

-- a backtick at the head of a text that is read
abbrev pub tick_at : Context → Text → Step
tick_at context [] = record { part = gives [] []; context = context }
tick_at context (c ∷ ts) = read_step a_backtick context c ts

-- the step at the head of a text that is skipped
abbrev pub skipped_at : Context → Text → Result After Fault
skipped_at context [] = went context []
skipped_at context (c ∷ ts) = skipped_step (first (bytes (c ∷ ts))) context c ts

-- a backtick at the head of a text that is skipped
abbrev pub skipped_tick_at : Context → Text → Result After Fault
skipped_tick_at context [] = went context []
skipped_tick_at context (c ∷ ts) = skipped_step a_backtick context c ts

-- what the part of the step gives was written, and the text goes on after it from the step's place
abbrev pub Steps : Text → Text → Text → code.Context → Step → Result (Unit {0}) StaticFault → Type 0
Steps old new rest context s (Ok u) = Wrote old new rest s.part × (context_of context ≡ s.context)
Steps old new rest context s (Err f) = EndsWith old s.part (fault_of f)

-- ---- uses that give nothing

-- the part gives nothing, and no fault
pub record IsBlank (p : Part) : Type 0 where
  pub none : p.given ≡ []
  pub sound : p.fault ≡ None

-- each name that is noted gives nothing on this line from its depth on
abbrev pub KnowsBlanks : {S : Type 0} → Macros → ℕ → IndexMap (List ℕ) ℕ S → Type 0
KnowsBlanks m line blanks = (name : List ℕ) (least : ℕ) → get (pointwise nat_eq) blanks name ≡ Some least
    → (depth : ℕ) → least ≤ depth → IsBlank (use_of depth m line name)

-- whether what gives nothing from this depth on, if from any, does so at this one
abbrev pub is_from : Option ℕ → ℕ → Bool
is_from None depth = false
is_from (Some least) depth = nat_le least depth

-- whether a name is noted at this depth
abbrev pub is_noted : {S : Type 0} → IndexMap (List ℕ) ℕ S → List ℕ → ℕ → Bool
is_noted blanks name depth = is_from (get (pointwise nat_eq) blanks name) depth

-- the name was noted with this depth, if it was to be; or out of memory and nothing was noted
abbrev pub Notes : {S : Type 0} → IndexMap (List ℕ) ℕ S → IndexMap (List ℕ) ℕ S → List ℕ → ℕ → Bool → Result (Unit {0}) StaticFault → Type 0
Notes old new name depth is_due (Ok u) =
    (x : List ℕ) → get (pointwise nat_eq) new x ≡ cond (is_due && pointwise nat_eq name x) (Some depth) (get (pointwise nat_eq) old x)
Notes old new name depth is_due (Err f) = (fault_of f ≡ None) × ((x : List ℕ) → get (pointwise nat_eq) new x ≡ get (pointwise nat_eq) old x)
