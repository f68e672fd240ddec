-- Rows of single digits.
use Rattle.std.proofs.Common.{◌≡◌, ℕ, zero, suc, ◌+◌, ◌-◌, ◌*◌, ◌^◌, ◌<◌, ◌≤◌, inl, Bool, true, false, if◌then◌else◌, List, [], ◌∷◌, ◌++◌, length, take, drop, set, get_or, map, Some, None, refl, sym, ap, ◌∙◌, subst, arith, lit<, append_assoc, append-nil, length-append}
use Rattle.std.specs.Prelude.{nat_le, ◌==◌, ◌||◌, ◌&&◌, All}
use Rattle.std.specs.Str.Lines.{strip_carriage_return}
use Rattle.std.specs.Char.{is_ascii_hexdigit, digit_value}
use Rattle.std.proofs.Math.Nat.{pow-le-pow_right}
use Rattle.std.proofs.lemmas.Bool.Decides.{nat_tests}
use Rattle.std.proofs.lemmas.List.{take_all, take_at, drop_at, take_more_set, drop_more, length-drop, length-map, drop_all}
use Rattle.std.proofs.lemmas.List.Splits.{slice_split_at, slice_split_none}
use Rattle.std.proofs.lemmas.List.Elements.{All-cons}
use Rattle.stimulus.specs.declared.refusal.RefusalKind.TheVariants as k
use Rattle.dt_core.specs.declared.limits.TheConstants.{MAX_ROWS}
use Rattle.stimulus.specs.declared.refusal.Input.{Input}
use Rattle.stimulus.specs.declared.refusal.TheConstants.{MAX_LINE}
use Rattle.stimulus.specs.Stimulus.{words, values_of, numbers_at, number_of, value_fault, bad_value, row_fault, row_of, or_else, names_of, second, widths_of, content_fault}
use Rattle.stimulus.specs.Lines.{IsPlain}
use Rattle.stimulus.specs.Reader.{Held, Layout}
use Rattle.stimulus.specs.Reads.{Stands}
use Rattle.stimulus.specs.Calls.Digits.{digit_code}
use Rattle.stimulus.specs.Calls.Judging.{IsLayout, Took}
use Rattle.stimulus.specs.Calls.Single.{digit_limit, HasEnd, AreSingle, ReadsSingle, IsInOrder, row_of_values}
use Rattle.stimulus.proofs.StandLaws.{stands_on, later_line}
use Rattle.stimulus.proofs.DigitLaws.{no_space, small_code, a_number, is_digits}

-- ---- the limit of a width's digits

pub wide_limit : (w : ℕ) → 4 ≤ w → 16 ≡ digit_limit w
wide_limit w more =
    let wide : 2 ^ 4 ≤ 2 ^ w = pow-le-pow_right (lit< tt) more in
    let least : 16 ≤ 2 ^ w = wide in
    grind (arith, nat_tests, least)

below_limit : (v w : ℕ) → v < digit_limit w → (v < 16) × (v < 2 ^ w)
below_limit v w l = (omega (arith, l), omega (arith, l))

-- ---- a digit more

more_one : (limit : ℕ) (limits : List ℕ) (digit end value : ℕ) (bytes values : List ℕ) → value ≡ digit_code digit → value < limit
    → (length limits ≡ 0 → end ≡ 10) → (0 < length limits → end ≡ 32) → AreSingle limits bytes values
    → AreSingle (limit ∷ limits) (digit ∷ end ∷ bytes) (value ∷ values)
more_one limit [] digit end value bytes values is less last other rest = (is, less, last refl, rest)
more_one limit (l ∷ limits) digit end value bytes values is less last other rest =
    let some : (length (l ∷ limits) == 0) ≡ false = grind (arith, nat_tests) in
    (is, less, other (omega arith) ∙ sym (ap (λ (b : Bool). if b then 10 else 32) some), rest)

was_space : (last : Bool) (byte : ℕ) → (last || byte == 32) ≡ true → last ≡ false → byte ≡ 32
was_space true byte h e = absurd cc
was_space false byte h e = grind (arith, nat_tests)

-- what is read of the first values, and what is left
pub single_more : (limits bytes values : List ℕ) (k v : ℕ) → k < length limits → length values ≡ length limits
    → HasEnd bytes (length limits) → v ≡ digit_code (get_or bytes (2 * k) 0) → v < get_or limits k 0
    → ((k + 1 == length limits) || get_or bytes (2 * k + 1) 0 == 32) ≡ true
    → ((vs : List ℕ) → AreSingle (drop k limits) (drop (2 * k) bytes) vs → AreSingle limits bytes (take k values ++ vs))
    → (vs : List ℕ) → AreSingle (drop (k + 1) limits) (drop (2 * (k + 1)) bytes) vs
    → AreSingle limits bytes (take (k + 1) (set values k v) ++ vs)
single_more limits bytes values k v less same ends is below next before vs rest =
    let limit : ℕ = get_or limits k 0 in
    let digit : ℕ = get_or bytes (2 * k) 0 in
    let end : ℕ = get_or bytes (2 * k + 1) 0 in
    let left : length (drop (k + 1) limits) ≡ length limits - (k + 1) = length-drop (k + 1) limits in
    let on : 2 * k + 1 + 1 ≡ 2 * (k + 1) = omega arith in
    let these : drop k limits ≡ limit ∷ drop (k + 1) limits = drop_more limits k 0 less in
    let two : drop (2 * k) bytes ≡ digit ∷ end ∷ drop (2 * (k + 1)) bytes =
    drop_more bytes (2 * k) 0 (omega (arith, less, ends.within))
    ∙ ap (λ (bs : List ℕ). digit ∷ bs) (drop_more bytes (2 * k + 1) 0 (omega (arith, less, ends.within)))
    ∙ ap (λ (i : ℕ). digit ∷ end ∷ drop i bytes) on in
    let last : length (drop (k + 1) limits) ≡ 0 → end ≡ 10 = λ none.
    let here : 2 * k + 1 ≡ 2 * length limits - 1 = omega (arith, none, left, less) in ap (λ (i : ℕ). get_or bytes i 0) here ∙ ends.ends in
    let other : 0 < length (drop (k + 1) limits) → end ≡ 32 = λ some.
    was_space (k + 1 == length limits) end next (let more : k + 1 < length limits = omega (arith, some, left) in grind (arith, nat_tests, more)) in
    let one : AreSingle (limit ∷ drop (k + 1) limits) (digit ∷ end ∷ drop (2 * (k + 1)) bytes) (v ∷ vs) =
    more_one limit (drop (k + 1) limits) digit end v (drop (2 * (k + 1)) bytes) vs is below last other rest in
    let all : AreSingle limits bytes (take k values ++ v ∷ vs) =
    before (v ∷ vs) (subst (λ (ls : List ℕ). AreSingle ls (drop (2 * k) bytes) (v ∷ vs)) (sym these)
    (subst (λ (bs : List ℕ). AreSingle (limit ∷ drop (k + 1) limits) bs (v ∷ vs)) (sym two) one)) in
    subst (AreSingle limits bytes) (sym (ap (λ (xs : List ℕ). xs ++ vs) (take_more_set values k v (omega (arith, less, same)))
    ∙ append_assoc (take k values) (v ∷ []) vs)) all

-- all are read
pub single_all : (limits bytes values : List ℕ) (k : ℕ) → length limits ≤ k → length values ≡ length limits
    → ((vs : List ℕ) → AreSingle (drop k limits) (drop (2 * k) bytes) vs → AreSingle limits bytes (take k values ++ vs))
    → AreSingle limits bytes values
single_all limits bytes values k all same before =
    let none : AreSingle (drop k limits) (drop (2 * k) bytes) [] =
    subst (λ (ls : List ℕ). AreSingle ls (drop (2 * k) bytes) []) (sym (drop_all k limits all)) tt in
    subst (AreSingle limits bytes) (append-nil (take k values) ∙ take_all k values (omega (arith, all, same))) (before [] none)

-- ---- a row of such digits

-- a digit is no LF and no CR
no_feed : (b : ℕ) → is_ascii_hexdigit b ≡ true → (b == 10) ≡ false
no_feed b h = grind (arith, nat_tests)

no_return : (b : ℕ) → is_ascii_hexdigit b ≡ true → (b == 13) ≡ false
no_return b h = grind (arith, nat_tests)

-- the line before the LF, and what it is as a row
record Row (widths bytes values : List ℕ) : Type 0 where
  line : List ℕ
  rest : List ℕ
  split : bytes ≡ line ++ 10 ∷ rest
  size : length line + 1 ≡ 2 * length widths
  plain : IsPlain line
  returns : All (λ b. (b == 13) ≡ false) line
  count : length (words line) ≡ length widths
  faults : bad_value widths (words line) ≡ None
  numbers : values ≡ map number_of (words line)

-- one digit as a value
record Digit (width digit value : ℕ) : Type 0 where
  is_digit : is_ascii_hexdigit digit ≡ true
  fault : value_fault width (digit ∷ []) ≡ None
  number : value ≡ number_of (digit ∷ [])

one_digit : (width digit value : ℕ) → value ≡ digit_code digit → value < digit_limit width → Digit width digit value
one_digit width digit value is less =
    let below = below_limit value width less in
    let code = small_code digit (omega (arith, below.0, is)) in
    let number : value ≡ number_of (digit ∷ []) = let none : digit_value digit ≡ 16 * 0 + digit_value digit = omega arith in is ∙ code.1 ∙ none in
    let small : false ≡ nat_le (2 ^ width) (number_of (digit ∷ [])) =
    let l : number_of (digit ∷ []) < 2 ^ width = subst (λ (n : ℕ). n < 2 ^ width) number below.1 in grind (arith, nat_tests, l) in
    let digits = is_digits (digit ∷ []) (omega arith) (ap (λ (b : Bool). b && true) code.0) in
    record {
      is_digit = code.0;
      fault = a_number width (digit ∷ []) false digits small;
      number = number;
    }

alone : (P : ℕ → Type 0) (b : ℕ) → P b → All P (b ∷ [])
alone P b p = All-cons P b [] p (λ j d less. absurd (omega (arith, less)))

last_one : (width digit end value : ℕ) (bytes : List ℕ) → Digit width digit value → end ≡ 10 → Row (width ∷ []) (digit ∷ end ∷ bytes) (value ∷ [])
last_one width digit end value bytes d is =
    let split : words (digit ∷ []) ≡ (digit ∷ []) ∷ [] =
    slice_split_none (λ b. b == 32) (digit ∷ []) (alone (λ b. (b == 32) ≡ false) digit (no_space digit d.is_digit)) in
    record {
      line = digit ∷ [];
      rest = bytes;
      split = ap (λ (b : ℕ). digit ∷ b ∷ bytes) is;
      size = omega arith;
      plain = alone (λ b. (b == 10) ≡ false) digit (no_feed digit d.is_digit);
      returns = alone (λ b. (b == 13) ≡ false) digit (no_return digit d.is_digit);
      count = ap length split;
      faults = ap (bad_value (width ∷ [])) split ∙ ap (λ o. or_else o None) d.fault;
      numbers = ap (λ (n : ℕ). n ∷ []) d.number ∙ ap (map number_of) (sym split);
    }

one_more : (width digit end value : ℕ) (widths bytes values : List ℕ) → Digit width digit value → end ≡ 32 → Row widths bytes values
    → Row (width ∷ widths) (digit ∷ end ∷ bytes) (value ∷ values)
one_more width digit end value widths bytes values d is row =
    let split : words (digit ∷ 32 ∷ row.line) ≡ (digit ∷ []) ∷ words row.line =
    slice_split_at (λ b. b == 32) (digit ∷ []) 32 row.line (alone (λ b. (b == 32) ≡ false) digit (no_space digit d.is_digit)) refl in
    record {
      line = digit ∷ 32 ∷ row.line;
      rest = row.rest;
      split = ap (λ (b : ℕ). digit ∷ b ∷ bytes) is ∙ ap (λ (bs : List ℕ). digit ∷ 32 ∷ bs) row.split;
      size = omega (arith, row.size);
      plain = All-cons (λ b. (b == 10) ≡ false) digit (32 ∷ row.line) (no_feed digit d.is_digit)
          (All-cons (λ b. (b == 10) ≡ false) 32 row.line refl row.plain);
      returns = All-cons (λ b. (b == 13) ≡ false) digit (32 ∷ row.line) (no_return digit d.is_digit)
          (All-cons (λ b. (b == 13) ≡ false) 32 row.line refl row.returns);
      count = ap length split ∙ ap suc row.count;
      faults = ap (bad_value (width ∷ widths)) split ∙ ap (λ o. or_else o (bad_value widths (words row.line))) d.fault ∙ row.faults;
      numbers = (λ i. d.number i ∷ row.numbers i) ∙ ap (map number_of) (sym split);
    }

single_row : (widths bytes values : List ℕ) → 0 < length widths → AreSingle (map digit_limit widths) bytes values → Row widths bytes values
single_row [] bytes values some h = absurd (omega (arith, some))
single_row (w ∷ ws) [] values some h = absurd h
single_row (w ∷ ws) (d ∷ []) values some h = absurd h
single_row (w ∷ ws) (d ∷ e ∷ bytes) [] some h = absurd h
single_row (w ∷ []) (d ∷ e ∷ bytes) (v ∷ []) some h = last_one w d e v bytes (one_digit w d v h.0 h.1) h.2
single_row (w ∷ []) (d ∷ e ∷ bytes) (v ∷ u ∷ vs) some h = absurd h.3
single_row (w ∷ x ∷ ws) (d ∷ e ∷ bytes) (v ∷ vs) some h =
    let space : (length (map digit_limit (x ∷ ws)) == 0) ≡ false = grind (arith, nat_tests) in
    one_more w d e v (x ∷ ws) bytes vs (one_digit w d v h.0 h.1) (h.2 ∙ ap (λ (b : Bool). if b then 10 else 32) space)
    (single_row (x ∷ ws) bytes vs (omega arith) h.3)

-- ---- the row that it is

number_at : (values : List (List ℕ)) (place : ℕ) → get_or (map number_of values) place 0 ≡ number_of (get_or values place [])
number_at [] place = refl
number_at (v ∷ values) zero = refl
number_at (v ∷ values) (suc place) = number_at values place

placed : (values : List (List ℕ)) (places : List ℕ) → map (λ place. get_or (map number_of values) place 0) places ≡ numbers_at values places
placed values [] = refl
placed values (p ∷ places) = λ i. number_at values p i ∷ placed values places i

some_values : (line : List ℕ) → 0 < length line → values_of line ≡ words line
some_values [] some = absurd (omega (arith, some))
some_values (b ∷ line) some = refl

kept_line : (line : List ℕ) → 0 < length line → All (λ b. (b == 13) ≡ false) line → strip_carriage_return line ≡ line
kept_line line some none =
    ap (λ (b : Bool). if b then take (length line - 1) line else line) (none (length line - 1) 0 (omega (arith, some)))

passed : (widths : List ℕ) (values : List (List ℕ)) → length values ≡ length widths → bad_value widths values ≡ None → row_fault widths values ≡ None
passed widths values count none =
    let same : (length values == length widths) ≡ true = grind (arith, nat_tests) in
    ap (λ (b : Bool). if b then bad_value widths values else Some k.WrongCount) same ∙ none

-- values that were read, put into a row
pub row_read : (in_order : Bool) (values given row put : List ℕ) (places : List ℕ) (split : List (List ℕ)) → values ≡ given → row ≡ put
    → given ≡ map number_of split → row_of_values in_order given put ≡ map (λ place. get_or given place 0) places
    → row_of_values in_order values row ≡ numbers_at split places
row_read in_order values given row put places split v r is gathered =
    (λ i. row_of_values in_order (v i) (r i)) ∙ gathered ∙ ap (λ (ns : List ℕ). map (λ place. get_or ns place 0) places) is ∙ placed split places

pub reads_single : (old new : Layout) (bytes values limits : List ℕ) (n : ℕ) → n ≡ 2 * length limits - 1 → limits ≡ map digit_limit old.widths
    → 0 < length limits → AreSingle limits bytes values → new.row ≡ map (λ place. get_or values place 0) old.places
    → ReadsSingle old new bytes n
reads_single old new bytes values limits n n_is are some h row =
    let size : length limits ≡ length old.widths = ap length are ∙ length-map old.widths digit_limit in
    let r : Row old.widths bytes values =
    single_row old.widths bytes values (omega (arith, some, size)) (subst (λ (ls : List ℕ). AreSingle ls bytes values) are h) in
    let long : length r.line ≡ n = omega (arith, r.size, size, some, n_is) in
    let front : take n bytes ≡ r.line = ap (take n) r.split ∙ take_at r.line (10 ∷ r.rest) n long in
    let parts : bytes ≡ (r.line ++ 10 ∷ []) ++ r.rest = r.split ∙ sym (append_assoc r.line (10 ∷ []) r.rest) in
    let behind : drop (n + 1) bytes ≡ r.rest =
    ap (drop (n + 1)) parts ∙ drop_at (r.line ++ 10 ∷ []) r.rest (n + 1) (length-append r.line (10 ∷ []) ∙ ap (λ (m : ℕ). m + 1) long) in
    let whole : strip_carriage_return (take n bytes) ≡ r.line =
    ap strip_carriage_return front ∙ kept_line r.line (omega (arith, long, some, n_is)) r.returns in
    let split : values_of (strip_carriage_return (take n bytes)) ≡ words r.line =
    ap values_of whole ∙ some_values r.line (omega (arith, long, some, n_is)) in
    record {
      line = record {
        within = omega (arith, ap length r.split, length-append r.line (10 ∷ r.rest), long);
        line = r.split ∙ (λ i. sym front i ++ 10 ∷ sym behind i);
        plain = subst IsPlain (sym front) r.plain;
      };
      faults = ap (row_fault old.widths) split ∙ passed old.widths (words r.line) r.count r.faults;
      row = row ∙ ap (λ (ns : List ℕ). map (λ place. get_or ns place 0) old.places) r.numbers ∙ placed (words r.line) old.places ∙ sym (ap (λ (vs : List (List ℕ)). numbers_at vs old.places) split);
    }

-- ---- values that are in order

in_order_from : (places values : List ℕ) (k : ℕ) → ((j d : ℕ) → j < length places → get_or places j d ≡ k + j)
    → length values ≡ k + length places → map (λ place. get_or values place 0) places ≡ drop k values
in_order_from [] values k h long = sym (drop_all k values (omega (arith, long)))
in_order_from (p ∷ places) values k h long =
    let first : p ≡ k = let none : k + 0 ≡ k = omega arith in h 0 0 (omega arith) ∙ none in
    let rest = in_order_from places values (k + 1) (λ j d l. let on : k + suc j ≡ k + 1 + j = omega arith in h (suc j) d (omega (arith, l)) ∙ on) (omega (arith, long)) in
    ap (λ (n : ℕ). get_or values n 0 ∷ map (λ place. get_or values place 0) places) first
    ∙ ap (λ (vs : List ℕ). get_or values k 0 ∷ vs) rest ∙ sym (drop_more values k 0 (omega (arith, long)))

pub in_order : (places : List ℕ) (n : ℕ) → length places ≡ n → ((j d : ℕ) → j < length places → get_or places j d ≡ j) → IsInOrder n places
in_order places n long h values size =
    in_order_from places values 0 (λ j d l. let none : j ≡ 0 + j = omega arith in h j d l ∙ none) (omega (arith, size, long))

-- ---- a row that is taken

row_passed : (inputs : List Input) (names : List (List ℕ)) (number : ℕ) (widths line : List ℕ) → 2 ≤ number → number < MAX_ROWS + 2
    → widths ≡ widths_of inputs names → row_fault widths (values_of line) ≡ None → content_fault inputs names number line ≡ None
row_passed inputs names zero widths line two few are none = absurd (omega (arith, two))
row_passed inputs names (suc zero) widths line two few are none = absurd (omega (arith, two))
row_passed inputs names (suc (suc row)) widths line two few are none =
    let room : nat_le MAX_ROWS row ≡ false = grind (arith, nat_tests, few) in
    ap (λ (b : Bool). if b then Some k.TooManyRows else row_fault (widths_of inputs names) (values_of line)) room
    ∙ ap (λ (ws : List ℕ). row_fault ws (values_of line)) (sym are) ∙ none

pub took_single : (inputs : List Input) (number : ℕ) (layout layout' : Layout) (held held' : Held) (taken : List ℕ) (given : List (List ℕ)) (n : ℕ)
    → 2 ≤ number → number < MAX_ROWS + 2 → n ≤ MAX_LINE → ReadsSingle layout layout' held.bytes n
    → (layout'.widths ≡ layout.widths) × (layout'.places ≡ layout.places) → held'.bytes ≡ drop (n + 1) held.bytes → held'.fresh ≡ held.fresh
    → Stands inputs number layout held taken given → Stands inputs (number + 1) layout' held' taken (given ++ layout'.row ∷ [])
took_single inputs number layout layout' held held' taken given n two few short r same rest fresh s =
    let names = names_of (second s.lines) in
    let is : IsLayout inputs names layout = s.layout_is two in
    let line = take n held.bytes in
    let row : layout'.row ≡ row_of inputs names line = r.row ∙ ap (numbers_at (values_of (strip_carriage_return line))) is.places in
    let now : IsLayout inputs names layout' = record { widths = same.0 ∙ is.widths; places = same.1 ∙ is.places } in
    let took : Took inputs names number line layout' = record { second = λ one. absurd (omega (arith, one, two)); later = λ _. (now, row) } in
    let all = stands_on inputs number layout layout' held held held' taken given [] n s (sym (append-nil held.bytes)) (inl (refl, refl)) r.line short
    (row_passed inputs names number layout.widths (strip_carriage_return line) two few is.widths r.faults) took rest fresh in
    subst (λ (bytes : List ℕ). Stands inputs (number + 1) layout' held' bytes (given ++ layout'.row ∷ [])) (append-nil taken)
    (subst (Stands inputs (number + 1) layout' held' (taken ++ [])) (later_line number given layout'.row two) all)

-- the same after values were read that aren't taken
pub stands_same : (inputs : List Input) (number : ℕ) (layout layout' : Layout) (held held' : Held) (taken : List ℕ) (given : List (List ℕ))
    → (layout'.widths ≡ layout.widths) × (layout'.places ≡ layout.places) → held' ≡ held → Stands inputs number layout held taken given
    → Stands inputs number layout' held' taken given
stands_same inputs number layout layout' held held' taken given same e s =
    subst (λ (h : Held). Stands inputs number layout' h taken given) (sym e) (record {
      lines = s.lines;
      count = s.count;
      bytes = s.bytes;
      plain = s.plain;
      passed = s.passed;
      are_rows = s.are_rows;
      layout_is = λ two. record { widths = same.0 ∙ (s.layout_is two).widths; places = same.1 ∙ (s.layout_is two).places };
      time = s.time;
    })
