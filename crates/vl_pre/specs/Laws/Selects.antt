-- Which text a text with conditions selects (IEEE 1364-2005, 19.4), as a relation: conditions nest, the first branch that holds is read, and
-- no other. `specs/CleanText` computes it. What a single piece is, and how a directive is spelled, is said there and in `specs/Directives`.
use Rattle.std.specs.Prelude.{ℕ, ◌≡◌, ◌≤◌, Bool, true, false, List, [], ◌∷◌, ◌++◌, drop, length, Ok, is_some}
use Rattle.vl_pre.specs.Bytes.{Placed, Text, placed, bytes, name_at, most_clean}
use Rattle.vl_pre.specs.Pieces.{a_backtick, gives, first}
use Rattle.vl_pre.specs.Directives.{Directive, ifdef, ifndef, elsif, otherwise, endif, a_directive, ticked, name_of, holds, Macros, no_macros, Condition, Context, went}
use Rattle.vl_pre.specs.CleanText.{step, skipped_step, clean_text}

-- with these macros defined, and these conditions open
abbrev pub within : Macros → List Condition → Context
within macros conditions = record { macros = macros; conditions = conditions }

-- this directive stands at the head, on this line, and this text comes after its word
abbrev pub Begins : Directive → ℕ → Text → Text → Type 0
Begins d line [] rest = ⊥
Begins d line (c ∷ ts) rest =
    (line ≡ c.line) × (first (bytes (c ∷ ts)) ≡ a_backtick) × (ticked (name_at ts) ≡ a_directive d)
    × (rest ≡ drop (length (name_at ts)) ts)

-- the directive that opens a condition: `ifdef` (true) or `ifndef`
abbrev pub opening : Bool → Directive
opening true = ifdef
opening false = ifndef

-- a directive with its NAME stands at the head, and this text comes after the NAME
abbrev pub BeginsNamed : Directive → ℕ → List ℕ → Text → Text → Type 0
BeginsNamed d line name ts body = (rest : Text) × Begins d line ts rest × (name_of line rest ≡ Ok (name, body))

-- a piece of text that is read, which opens no condition and goes on with none: it gives these bytes, and leaves those macros defined
abbrev pub IsPiece : Macros → Placed → Text → Text → Text → Macros → Type 0
IsPiece m c ts rest given n =
    (cs : List Condition) → step true (within m cs) c ts ≡ record { part = gives given rest; context = within n cs }

-- a piece of text that is skipped
abbrev pub IsSkipped : Placed → Text → Text → Type 0
IsSkipped c ts rest = (context : Context) → skipped_step (first (bytes (c ∷ ts))) context c ts ≡ went context rest

mutual
  -- from here to there the text is skipped, and the conditions that open in it are closed in it
  pub data Skips : Text → Text → Type 0 where
    at_once : {ts : Text} → Skips ts ts
    a_piece : {c : Placed} {ts rest there : Text} → IsSkipped c ts rest → Skips rest there → Skips (c ∷ ts) there
    a_condition : {ts body last rest there : Text} (wanted : Bool) (line : ℕ) (name : List ℕ)
        → BeginsNamed (opening wanted) line name ts body → Skips body last → Passes last rest → Skips rest there → Skips ts there

  -- from here to there stand branches that are skipped, and the `endif`; after an `else` there is no further branch
  pub data Passes : Text → Text → Type 0 where
    at_endif : {ts there : Text} (line : ℕ) → Begins endif line ts there → Passes ts there
    at_else : {ts body last there : Text} (line l : ℕ)
        → Begins otherwise line ts body → Skips body last → Begins endif l last there → Passes ts there
    at_elsif : {ts body last there : Text} (line : ℕ) (name : List ℕ)
        → BeginsNamed elsif line name ts body → Skips body last → Passes last there → Passes ts there

mutual
  -- with these macros defined the text is read from here to there: it gives these bytes, and leaves those macros defined
  pub data Reads : Macros → Text → Text → Text → Macros → Type 0 where
    at_once : {m : Macros} {ts : Text} → Reads m ts ts [] m
    a_piece : {m n l : Macros} {c : Placed} {ts rest there given more : Text}
        → IsPiece m c ts rest given n → Reads n rest there more l → Reads m (c ∷ ts) there (given ++ more) l
    a_condition : {m n l : Macros} {ts body rest there given more : Text} (wanted : Bool) (line : ℕ) (name : List ℕ)
        → BeginsNamed (opening wanted) line name ts body → Chooses (holds wanted (is_some (m name))) m body rest given n
        → Reads n rest there more l → Reads m ts there (given ++ more) l

  -- from the begin of a branch, which holds or not, to after the `endif`: the first branch that holds is read, if one does
  pub data Chooses : Bool → Macros → Text → Text → Text → Macros → Type 0 where
    this_one : {m n : Macros} {ts last there given : Text} → Reads m ts last given n → Passes last there → Chooses true m ts there given n
    by_elsif : {m n : Macros} {ts last body there given : Text} (line : ℕ) (name : List ℕ)
        → Skips ts last → BeginsNamed elsif line name last body → Chooses (is_some (m name)) m body there given n
        → Chooses false m ts there given n
    by_else : {m n : Macros} {ts last body next there given : Text} (line l : ℕ)
        → Skips ts last → Begins otherwise line last body → Reads m body next given n → Begins endif l next there
        → Chooses false m ts there given n
    none : {m : Macros} {ts last there : Text} (line : ℕ) → Skips ts last → Begins endif line last there → Chooses false m ts there [] m

-- a law: the text that is selected, from the first byte to the last and with nothing defined at the start, is the clean text
abbrev pub SelectsCleanText : Type 0
SelectsCleanText = (text : List ℕ) (given : Text) (m : Macros) → Reads no_macros (placed 1 text) [] given m
    → length given ≤ most_clean → clean_text text ≡ Ok given
