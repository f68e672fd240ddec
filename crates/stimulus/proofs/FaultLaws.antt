-- The answers where a line isn't taken.
use Rattle.std.proofs.Common.{◌≡◌, ℕ, zero, suc, ◌+◌, ◌<◌, ◌≤◌, ◌^◌, Bool, true, false, if◌then◌else◌, List, [], ◌∷◌, ◌++◌, length, take, drop, Option, Some, None, refl, sym, ap, ◌∙◌, subst, arith}
use Rattle.std.specs.Prelude.{nat_lt, nat_le, ◌==◌, ◌&&◌, not, bytes_eq, codes, Ok, Err}
use Rattle.std.specs.List.{list_all}
use Rattle.std.specs.Str.Lines.{strip_carriage_return}
use Rattle.std.specs.Io.KnownBytes.{IsAtEnd}
use Rattle.std.proofs.lemmas.Bool.Decides.{nat_tests}
use Rattle.dt_core.specs.declared.limits.TheConstants.{MAX_ROWS}
use Rattle.stimulus.specs.declared.refusal.Input.{Input}
use Rattle.stimulus.specs.declared.refusal.TheConstants.{MAX_LINE}
use Rattle.stimulus.specs.declared.refusal.RefusalKind.{RefusalKind}
use Rattle.stimulus.specs.declared.refusal.RefusalKind.TheVariants as k
use Rattle.stimulus.specs.declared.refusal.StimFault.{StimFault}
use Rattle.stimulus.specs.declared.names.LineFault.{LineFault}
use Rattle.stimulus.specs.declared.names.LineFault.TheVariants as w
use Rattle.stimulus.specs.Stimulus.{refused, stimulus, is_number, number_of, words, has_name, input_names, or_else, are_names, name_fault, bad_name, lack_fault, value_fault, bad_value, widths_of, values_of, line_fault, content_fault, tail_fault, second, names_of}
use Rattle.stimulus.specs.Reader.{Held, Layout}
use Rattle.stimulus.specs.Reads.{InTime, Stands, FaultIs}
use Rattle.stimulus.specs.Calls.Turns.{HasLine, IsInTime, IsOpenLine}
use Rattle.stimulus.specs.Calls.Names.{Judges}
use Rattle.stimulus.specs.Calls.Taking.{refused_at, fault_at, LineIs}
use Rattle.stimulus.proofs.DigitLaws.{split_and}
use Rattle.stimulus.proofs.StandLaws.{short_line, long_line, content, in_time, refused_line, refused_tail, ended}

-- ---- only the end of the text is Truncated

abbrev NotTruncated : Option RefusalKind → Type 0
NotTruncated fault = fault ≡ Some k.Truncated → ⊥

pick : (b : Bool) {o p : Option RefusalKind} → NotTruncated o → NotTruncated p → NotTruncated (if b then o else p)
pick true f g = f
pick false f g = g

either : (o p : Option RefusalKind) → NotTruncated o → NotTruncated p → NotTruncated (or_else o p)
either (Some kind) p f g = f
either None p f g = g

no_fault : NotTruncated None
no_fault e = absurd cc

bad_name_kind : (inputs : List Input) (before names : List (List ℕ)) → NotTruncated (bad_name inputs before names)
bad_name_kind inputs before [] = no_fault
bad_name_kind inputs before (name ∷ names) =
    either (name_fault inputs before name) (bad_name inputs (before ++ name ∷ []) names)
    (pick (not (has_name (input_names inputs) name)) (λ e. absurd cc) (pick (has_name before name) (λ e. absurd cc) no_fault))
    (bad_name_kind inputs (before ++ name ∷ []) names)

bad_value_kind : (widths : List ℕ) (values : List (List ℕ)) → NotTruncated (bad_value widths values)
bad_value_kind [] values = no_fault
bad_value_kind (w ∷ ws) [] = no_fault
bad_value_kind (w ∷ ws) (v ∷ vs) =
    either (value_fault w v) (bad_value ws vs) (pick (not (is_number v)) (λ e. absurd cc) (pick (nat_le (2 ^ w) (number_of v)) (λ e. absurd cc) no_fault)) (bad_value_kind ws vs)

content_kind : (inputs : List Input) (names : List (List ℕ)) (n : ℕ) (line : List ℕ) → NotTruncated (content_fault inputs names n line)
content_kind inputs names zero line = pick (bytes_eq line (codes "stimulus 1")) no_fault (λ e. absurd cc)
content_kind inputs names (suc zero) line =
    let ns = drop 1 (words line) in
    pick (not (are_names (words line))) (λ e. absurd cc)
    (either (bad_name inputs [] ns) (lack_fault inputs ns) (bad_name_kind inputs [] ns) (pick (list_all (λ i. has_name ns i.name) inputs) no_fault (λ e. absurd cc)))
content_kind inputs names (suc (suc row)) line =
    let ws = widths_of inputs names in
    pick (nat_le MAX_ROWS row) (λ e. absurd cc) (pick (length (values_of line) == length ws) (bad_value_kind ws (values_of line)) (λ e. absurd cc))

-- ---- the answers

pub refused_fault : (inputs : List Input) (all : List ℕ) (fresh : ℕ) (left : Option (List ℕ)) (before now number : ℕ) (kind : RefusalKind) (fault : StimFault)
    → fault ≡ refused_at number kind → stimulus inputs all ≡ refused (record { kind = kind; line = number + 1 }) → InTime inputs all fresh
    → (kind ≡ k.Truncated → IsAtEnd left) → now ≡ before → FaultIs inputs all fresh left before now fault
refused_fault inputs all fresh left before now number kind fault is e time end kept = subst (FaultIs inputs all fresh left before now) (sym is) (e, time, end, kept)

pub long_fault : (inputs : List Input) (names : List (List ℕ)) (n : ℕ) (line : List ℕ) → MAX_LINE < length line → line_fault inputs names n line ≡ Some k.LineTooLong
long_fault inputs names n line many = ap (λ b. if b then Some k.LineTooLong else content_fault inputs names n (strip_carriage_return line)) (long_line line many)

pub long_tail : (n : ℕ) (tail : List ℕ) → MAX_LINE < length tail → tail_fault n tail ≡ Some k.LineTooLong
long_tail n tail many = ap (λ b. if b then Some k.LineTooLong else (if nat_lt 1 n && (length tail == 0) then None else Some k.Truncated)) (long_line tail many)

pub long_only : (left : Option (List ℕ)) → k.LineTooLong ≡ k.Truncated → IsAtEnd left
long_only left e = absurd cc

-- a fault of a line that isn't too long
pub judged_fault : (inputs : List Input) (number : ℕ) (layout : Layout) (held found : Held) (taken : List ℕ) (given : List (List ℕ)) (more : List ℕ) (n : ℕ) (left : Option (List ℕ))
    (before now : ℕ) (P : Unit {0} → Type 0) (fault : LineFault)
    → (s : Stands inputs number layout held taken given) → found.bytes ≡ held.bytes ++ more → IsInTime held found → HasLine found.bytes n → length (take n found.bytes) ≤ MAX_LINE
    → Judges (content_fault inputs (names_of (second s.lines)) number (strip_carriage_return (take n found.bytes))) P (Err fault) → now ≡ before
    → FaultIs inputs (taken ++ more) found.fresh left before now (fault_at number fault)
judged_fault inputs number layout held found taken given more n left before now P (w.Refused kind) s e time has few bad kept = (
  refused_line inputs number layout held found taken given more n kind s e has (content inputs (names_of (second s.lines)) number (take n found.bytes) few ∙ bad),
  in_time inputs number layout held found taken given more s e time,
  λ is. absurd (content_kind inputs (names_of (second s.lines)) number (strip_carriage_return (take n found.bytes)) (bad ∙ ap (λ (j : RefusalKind). Some j) is)),
  kept,
)
judged_fault inputs number layout held found taken given more n left before now P w.Memory s e time has few bad kept = kept

no_bytes : (bytes : List ℕ) → (length bytes == 0) ≡ true → bytes ≡ []
no_bytes [] e = refl
no_bytes (b ∷ bytes) e = absurd (let h : (suc (length bytes) == 0) ≡ false = grind (arith, nat_tests) in cc)

some_lines : (n : ℕ) → nat_lt 1 n ≡ true → 2 ≤ n
some_lines n e = grind (arith, nat_tests)

-- the end of the source
pub last_line : (inputs : List Input) (number : ℕ) (layout : Layout) (held found : Held) (taken : List ℕ) (given : List (List ℕ)) (more : List ℕ) (left : Option (List ℕ)) (before now : ℕ) (b : Bool)
    → (s : Stands inputs number layout held taken given) → found.bytes ≡ held.bytes ++ more → IsInTime held found → IsOpenLine found.bytes → IsAtEnd left → now ≡ before
    → (nat_lt 1 number && (length found.bytes == 0)) ≡ b
    → LineIs inputs number given (taken ++ more) layout found left before now (if b then Ok false else Err (refused_at number k.Truncated))
last_line inputs number layout held found taken given more left before now true s e time is_open end kept is =
    let both = split_and (nat_lt 1 number) (length found.bytes == 0) is in
    let two = some_lines number both.0 in
    (ended inputs number layout held found taken given more s e (no_bytes found.bytes both.1) two, end, two, kept)
last_line inputs number layout held found taken given more left before now false s e time is_open end kept is =
    let bad : tail_fault number found.bytes ≡ Some k.Truncated =
    ap (λ b. if b then Some k.LineTooLong else (if nat_lt 1 number && (length found.bytes == 0) then None else Some k.Truncated)) (short_line found.bytes is_open.1)
    ∙ ap (λ b. if b then None else Some k.Truncated) is in
    (refused_tail inputs number layout held found taken given more k.Truncated s e is_open.0 bad, in_time inputs number layout held found taken given more s e time, λ trunc. end, kept)
