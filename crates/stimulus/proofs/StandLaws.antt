-- From what was read before a line to what was read after it.
use Rattle.std.proofs.Common.{◌≡◌, ℕ, suc, ◌+◌, ◌<◌, ◌≤◌, inl, inr, Bool, true, false, if◌then◌else◌, List, [], ◌∷◌, ◌++◌, length, drop, take, map, Option, Some, None, refl, sym, ap, ◌∙◌, subst, arith, append_assoc, append-nil, length-append}
use Rattle.std.specs.Prelude.{nat_lt, Result, Ok}
use Rattle.std.specs.Str.Lines.{strip_carriage_return}
use Rattle.std.specs.Io.KnownBytes.{IsAtEnd}
use Rattle.std.proofs.lemmas.Bool.Decides.{nat_tests}
use Rattle.std.proofs.lemmas.List.{map_push, length_push, length-take-le}
use Rattle.stimulus.specs.declared.refusal.Input.{Input}
use Rattle.stimulus.specs.declared.refusal.TheConstants.{MAX_LINE}
use Rattle.stimulus.specs.declared.refusal.StimFault.{StimFault}
use Rattle.stimulus.specs.declared.refusal.RefusalKind.{RefusalKind}
use Rattle.stimulus.specs.declared.refusal.RefusalKind.TheVariants as k
use Rattle.stimulus.specs.Stimulus.{rows, refused, stimulus, is_long, line_fault, content_fault, tail_fault, row_of, second, names_of, MayGoOn}
use Rattle.stimulus.specs.Lines.{IsPlain, ArePlain, text_of, HavePassed}
use Rattle.stimulus.specs.Reader.{Held, Layout}
use Rattle.stimulus.specs.Reads.{InTime, Stands}
use Rattle.stimulus.specs.Calls.Turns.{HasLine, IsInTime, IsOpenLine}
use Rattle.stimulus.specs.Calls.Judging.{IsLayout, Took}
use Rattle.stimulus.specs.Calls.Taking.{rows_after, LineIs}
use Rattle.stimulus.proofs.LineLaws.{bad_line, bad_tail, open_tail, whole}

pub short_line : (line : List ℕ) → length line ≤ MAX_LINE → is_long line ≡ false
short_line line few = grind (arith, nat_tests)

pub long_line : (line : List ℕ) → MAX_LINE < length line → is_long line ≡ true
long_line line many = grind (arith, nat_tests)

-- what is held after a call, with what was taken before it
all_taken : (inputs : List Input) (number : ℕ) (layout : Layout) (held : Held) (taken : List ℕ) (given : List (List ℕ)) (bytes more : List ℕ)
    → (s : Stands inputs number layout held taken given) → bytes ≡ held.bytes ++ more → taken ++ more ≡ text_of s.lines ++ bytes
all_taken inputs number layout held taken given bytes more s e =
    ap (λ t. t ++ more) s.bytes ∙ append_assoc (text_of s.lines) held.bytes more ∙ ap (λ t. text_of s.lines ++ t) (sym e)

none_more : (xs more : List ℕ) → xs ≡ xs ++ more → more ≡ []
none_more xs [] e = refl
none_more xs (m ∷ more) e = absurd (omega (arith, ap length e, length-append xs (m ∷ more)))

-- nothing was taken after the bytes among which the first refused one is
pub in_time : (inputs : List Input) (number : ℕ) (layout : Layout) (held held' : Held) (taken : List ℕ) (given : List (List ℕ)) (more : List ℕ)
    → Stands inputs number layout held taken given → held'.bytes ≡ held.bytes ++ more → IsInTime held held' → InTime inputs (taken ++ more) held'.fresh
in_time inputs number layout held held' taken given more s e (inl same) =
    let none = none_more held.bytes more (sym same.0 ∙ e) in
    let old = s.time in
    record {
      front = old.front;
      last = old.last;
      bytes = ap (λ t. taken ++ t) none ∙ append-nil taken ∙ old.bytes;
      size = old.size ∙ sym same.1;
      may = old.may;
    }
in_time inputs number layout held held' taken given more s e (inr was) = record {
  front = text_of s.lines ++ was.front;
  last = was.last;
  bytes = all_taken inputs number layout held taken given held'.bytes more s e ∙ ap (λ t. text_of s.lines ++ t) was.bytes ∙ sym (append_assoc (text_of s.lines) was.front was.last);
  size = was.size;
  may = open_tail inputs s.lines was.front s.plain s.passed was.is_open.0 (short_line was.front was.is_open.1);
}

-- ---- a line more

plain_more : (lines : List (List ℕ)) (line : List ℕ) → ArePlain lines → IsPlain line → ArePlain (lines ++ line ∷ [])
plain_more [] line p q = (q, tt)
plain_more (l ∷ ls) line p q = (p.0, plain_more ls line p.1 q)

passed_more : (fault : ℕ → List ℕ → Option RefusalKind) (n : ℕ) (lines : List (List ℕ)) (line : List ℕ) → HavePassed fault n lines
    → fault (n + length lines) line ≡ None → HavePassed fault n (lines ++ line ∷ [])
passed_more fault n [] line p e = let none : n + 0 ≡ n = omega arith in (ap (λ m. fault m line) (sym none) ∙ e, tt)
passed_more fault n (l ∷ ls) line p e =
    let next : suc n + length ls ≡ n + suc (length ls) = omega arith in (p.0, passed_more fault (suc n) ls line p.1 (ap (λ m. fault m line) next ∙ e))

text_more : (lines : List (List ℕ)) (line : List ℕ) → text_of (lines ++ line ∷ []) ≡ text_of lines ++ (line ++ 10 ∷ [])
text_more [] line = refl
text_more (l ∷ ls) line = ap (λ t. l ++ 10 ∷ t) (text_more ls line) ∙ sym (append_assoc l (10 ∷ text_of ls) (line ++ 10 ∷ []))

-- the lines after one more, with their names
passed_on : (inputs : List Input) (lines : List (List ℕ)) (line : List ℕ) → HavePassed (line_fault inputs (names_of (second lines))) 0 lines
    → line_fault inputs (names_of (second lines)) (length lines) line ≡ None
    → HavePassed (line_fault inputs (names_of (second (lines ++ line ∷ [])))) 0 (lines ++ line ∷ [])
passed_on inputs [] line p e = (e, tt)
passed_on inputs (l ∷ []) line p e = (p.0, (e, tt))
passed_on inputs (l ∷ m ∷ ls) line p e =
    let none : 0 + length (l ∷ m ∷ ls) ≡ length (l ∷ m ∷ ls) = omega arith in
    passed_more (line_fault inputs (names_of m)) 0 (l ∷ m ∷ ls) line p (ap (λ n. line_fault inputs (names_of m) n line) none ∙ e)

rows_on : (inputs : List Input) (lines : List (List ℕ)) (line : List ℕ) (given : List (List ℕ)) (layout : Layout)
    → given ≡ map (row_of inputs (names_of (second lines))) (drop 2 lines) → Took inputs (names_of (second lines)) (length lines) line layout
    → rows_after (length lines) given layout.row ≡ map (row_of inputs (names_of (second (lines ++ line ∷ [])))) (drop 2 (lines ++ line ∷ []))
rows_on inputs [] line given layout e took = e
rows_on inputs (l ∷ []) line given layout e took = e
rows_on inputs (l ∷ m ∷ ls) line given layout e took =
    let later : nat_lt 1 (suc (suc (length ls))) ≡ true = grind (arith, nat_tests) in
    ap (λ b. if b then given ++ layout.row ∷ [] else given) later
    ∙ ap (λ rs. rs ++ layout.row ∷ []) e ∙ ap (λ r. map (row_of inputs (names_of m)) ls ++ r ∷ []) (took.later (omega arith)).1
    ∙ sym (map_push (row_of inputs (names_of m)) ls line)

layout_on : (inputs : List Input) (lines : List (List ℕ)) (line : List ℕ) (layout : Layout) → Took inputs (names_of (second lines)) (length lines) line layout
    → 2 ≤ length lines + 1 → IsLayout inputs (names_of (second (lines ++ line ∷ []))) layout
layout_on inputs [] line layout took two = absurd (omega arith)
layout_on inputs (l ∷ []) line layout took two = took.second refl
layout_on inputs (l ∷ m ∷ ls) line layout took two = (took.later (omega arith)).0

-- ---- by what stands at the head of what is held

names_before : {inputs : List Input} {number : ℕ} {layout : Layout} {held : Held} {taken : List ℕ} {given : List (List ℕ)} → Stands inputs number layout held taken given → List (List ℕ)
names_before s = names_of (second s.lines)

-- the fault of a line that isn't too long is that of its content
pub content : (inputs : List Input) (names : List (List ℕ)) (n : ℕ) (line : List ℕ) → length line ≤ MAX_LINE
    → line_fault inputs names n line ≡ content_fault inputs names n (strip_carriage_return line)
content inputs names n line few = ap (λ b. if b then Some k.LineTooLong else content_fault inputs names n (strip_carriage_return line)) (short_line line few)

pub stands_on : (inputs : List Input) (number : ℕ) (layout layout' : Layout) (held found held' : Held) (taken : List ℕ) (given : List (List ℕ)) (more : List ℕ) (n : ℕ)
    → (s : Stands inputs number layout held taken given) → found.bytes ≡ held.bytes ++ more → IsInTime held found → HasLine found.bytes n → n ≤ MAX_LINE
    → content_fault inputs (names_of (second s.lines)) number (strip_carriage_return (take n found.bytes)) ≡ None
    → Took inputs (names_of (second s.lines)) number (take n found.bytes) layout'
    → held'.bytes ≡ drop (n + 1) found.bytes → held'.fresh ≡ found.fresh
    → Stands inputs (number + 1) layout' held' (taken ++ more) (rows_after number given layout'.row)
stands_on inputs number layout layout' held found held' taken given more n s e time has few none took rest fresh =
    let line = take n found.bytes in
    let size : length line ≡ n = length-take-le n found.bytes (omega (arith, has.within)) in
    let good : line_fault inputs (names_of (second s.lines)) (length s.lines) line ≡ None =
    ap (λ m. line_fault inputs (names_of (second s.lines)) m line) s.count ∙ content inputs (names_of (second s.lines)) number line (omega (arith, size)) ∙ none in
    let took' : Took inputs (names_of (second s.lines)) (length s.lines) line layout' = subst (λ m. Took inputs (names_of (second s.lines)) m line layout') (sym s.count) took in
    record {
      lines = s.lines ++ line ∷ [];
      count = length_push s.lines line ∙ ap (λ m. m + 1) s.count;
      bytes = all_taken inputs number layout held taken given found.bytes more s e ∙ ap (λ t. text_of s.lines ++ t) (has.line ∙ sym (append_assoc line (10 ∷ []) (drop (n + 1) found.bytes)))
          ∙ sym (append_assoc (text_of s.lines) (line ++ 10 ∷ []) (drop (n + 1) found.bytes))
          ∙ ap (λ t. t ++ drop (n + 1) found.bytes) (sym (text_more s.lines line)) ∙ ap (λ t. text_of (s.lines ++ line ∷ []) ++ t) (sym rest);
      plain = plain_more s.lines line s.plain has.plain;
      passed = passed_on inputs s.lines line s.passed good;
      are_rows = ap (λ m. rows_after m given layout'.row) (sym s.count) ∙ rows_on inputs s.lines line given layout' s.are_rows took';
      layout_is = λ two. layout_on inputs s.lines line layout' took' (omega (arith, two, s.count));
      time = subst (InTime inputs (taken ++ more)) (sym fresh) (in_time inputs number layout held found taken given more s e time);
    }

-- a line with a fault
pub refused_line : (inputs : List Input) (number : ℕ) (layout : Layout) (held found : Held) (taken : List ℕ) (given : List (List ℕ)) (more : List ℕ) (n : ℕ) (kind : RefusalKind)
    → (s : Stands inputs number layout held taken given) → found.bytes ≡ held.bytes ++ more → HasLine found.bytes n
    → line_fault inputs (names_of (second s.lines)) number (take n found.bytes) ≡ Some kind
    → stimulus inputs (taken ++ more) ≡ refused (record { kind = kind; line = number + 1 })
refused_line inputs number layout held found taken given more n kind s e has bad =
    let m = s.count in
    let after : suc (length s.lines) ≡ number + 1 = omega (arith, m) in
    ap (stimulus inputs) (all_taken inputs number layout held taken given found.bytes more s e ∙ ap (λ t. text_of s.lines ++ t) has.line)
    ∙ bad_line inputs s.lines (take n found.bytes) (drop (n + 1) found.bytes) kind s.plain s.passed has.plain (ap (λ j. line_fault inputs (names_of (second s.lines)) j (take n found.bytes)) m ∙ bad)
    ∙ ap (λ j. refused (record { kind = kind; line = j })) after

-- bytes with a fault that no LF ends
pub refused_tail : (inputs : List Input) (number : ℕ) (layout : Layout) (held found : Held) (taken : List ℕ) (given : List (List ℕ)) (more : List ℕ) (kind : RefusalKind)
    → (s : Stands inputs number layout held taken given) → found.bytes ≡ held.bytes ++ more → IsPlain found.bytes → tail_fault number found.bytes ≡ Some kind
    → stimulus inputs (taken ++ more) ≡ refused (record { kind = kind; line = number + 1 })
refused_tail inputs number layout held found taken given more kind s e plain bad =
    let after : suc (length s.lines) ≡ number + 1 = omega (arith, s.count) in
    ap (stimulus inputs) (all_taken inputs number layout held taken given found.bytes more s e)
    ∙ bad_tail inputs s.lines found.bytes kind s.plain s.passed plain (ap (λ j. tail_fault j found.bytes) s.count ∙ bad)
    ∙ ap (λ j. refused (record { kind = kind; line = j })) after

-- the end after whole lines
pub ended : (inputs : List Input) (number : ℕ) (layout : Layout) (held found : Held) (taken : List ℕ) (given : List (List ℕ)) (more : List ℕ)
    → (s : Stands inputs number layout held taken given) → found.bytes ≡ held.bytes ++ more → found.bytes ≡ [] → 2 ≤ number
    → stimulus inputs (taken ++ more) ≡ rows given
ended inputs number layout held found taken given more s e none two =
    ap (stimulus inputs) (all_taken inputs number layout held taken given found.bytes more s e ∙ ap (λ t. text_of s.lines ++ t) none ∙ append-nil (text_of s.lines))
    ∙ whole inputs s.lines s.plain s.passed (omega (arith, s.count)) ∙ ap rows (sym s.are_rows)

-- an open line after whole lines
pub goes_on : (inputs : List Input) (number : ℕ) (layout : Layout) (held found : Held) (taken : List ℕ) (given : List (List ℕ)) (more : List ℕ)
    → (s : Stands inputs number layout held taken given) → found.bytes ≡ held.bytes ++ more → IsOpenLine found.bytes → MayGoOn inputs (taken ++ more)
goes_on inputs number layout held found taken given more s e is_open =
    subst (MayGoOn inputs) (sym (all_taken inputs number layout held taken given found.bytes more s e)) (open_tail inputs s.lines found.bytes s.plain s.passed is_open.0 (short_line found.bytes is_open.1))

-- ---- the answers

truncated_only : (kind : RefusalKind) (left : Option (List ℕ)) → (kind ≡ k.Truncated → ⊥) → kind ≡ k.Truncated → IsAtEnd left
truncated_only kind left not is = absurd (not is)

pub stands_none : (inputs : List Input) (layout : Layout) → Stands inputs 0 layout (record { bytes = []; fresh = 0 }) [] []
stands_none inputs layout = record {
  lines = [];
  count = refl;
  bytes = refl;
  plain = tt;
  passed = tt;
  are_rows = refl;
  layout_is = λ two. absurd (omega arith);
  time = record { front = []; last = []; bytes = refl; size = refl; may = refl };
}

-- lines 1 and 2 end no text
pub head_line : (inputs : List Input) (number : ℕ) (given : List (List ℕ)) (all : List ℕ) (layout : Layout) (held : Held) (left : Option (List ℕ)) (before now : ℕ) (b : Bool)
    → number < 2 → LineIs inputs number given all layout held left before now (Ok b) → Stands inputs (number + 1) layout held all given × (now ≡ before)
head_line inputs number given all layout held left before now true less h =
    let none : nat_lt 1 number ≡ false = grind (arith, nat_tests) in
    (subst (Stands inputs (number + 1) layout held all) (ap (λ b. if b then given ++ layout.row ∷ [] else given) none) h.0, h.1)
head_line inputs number given all layout held left before now false less h = absurd (omega (arith, h.2))

-- a row that is taken
pub later_line : (number : ℕ) (given : List (List ℕ)) (row : List ℕ) → 2 ≤ number → rows_after number given row ≡ given ++ row ∷ []
later_line number given row two =
    let later : nat_lt 1 number ≡ true = grind (arith, nat_tests) in
    ap (λ b. if b then given ++ row ∷ [] else given) later

-- the answer to a second call, as that to both
pub then_line : (inputs : List Input) (number : ℕ) (given : List (List ℕ)) (taken first second : List ℕ) (layout : Layout) (held : Held) (left : Option (List ℕ)) (before mid now : ℕ) (result : Result Bool StimFault)
    → mid ≡ before → LineIs inputs number given ((taken ++ first) ++ second) layout held left mid now result → LineIs inputs number given (taken ++ (first ++ second)) layout held left before now result
then_line inputs number given taken first second layout held left before mid now result kept h =
    subst (λ all. LineIs inputs number given all layout held left before now result) (append_assoc taken first second)
    (subst (λ b. LineIs inputs number given ((taken ++ first) ++ second) layout held left b now result) kept h)

-- no line is taken
pub no_line : (inputs : List Input) (number : ℕ) (given : List (List ℕ)) (taken : List ℕ) (layout : Layout) (held : Held) → Stands inputs number layout held taken given
    → Stands inputs number layout held (taken ++ []) given
no_line inputs number given taken layout held s = subst (λ all. Stands inputs number layout held all given) (sym (append-nil taken)) s

-- lines 1 and 2
pub two_lines : (inputs : List Input) (number : ℕ) (given : List (List ℕ)) (taken first second : List ℕ) (layout layout' : Layout) (held held' : Held) (left left' : Option (List ℕ)) (before mid now : ℕ) (b b' : Bool)
    → LineIs inputs 0 given (taken ++ first) layout held left before mid (Ok b) → LineIs inputs 1 given ((taken ++ first) ++ second) layout' held' left' mid now (Ok b')
    → Stands inputs 2 layout' held' (taken ++ (first ++ second)) given × (now ≡ before)
two_lines inputs number given taken first second layout layout' held held' left left' before mid now b b' h i =
    let one = head_line inputs 0 given (taken ++ first) layout held left before mid b (omega arith) h in
    let two = head_line inputs 1 given ((taken ++ first) ++ second) layout' held' left' mid now b' (omega arith) i in
    (subst (λ all. Stands inputs 2 layout' held' all given) (append_assoc taken first second) two.0, two.1 ∙ one.1)

pub from_none : (inputs : List Input) (number : ℕ) (layout : Layout) (held : Held) (taken : List ℕ) (given : List (List ℕ)) → number ≤ 0 → Stands inputs number layout held taken given
    → Stands inputs 0 layout held taken given
from_none inputs number layout held taken given none s = let e : number ≡ 0 = omega arith in subst (λ n. Stands inputs n layout held taken given) e s
