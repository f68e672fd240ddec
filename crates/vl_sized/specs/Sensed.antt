-- What an expression means and reads, or the least of its faults, operand by operand. This project's own:
-- `proofs/Judged` shows that it is the sense of `Moments` where `vl_value` has no fault, and else the least of those that it has.
use Rattle.std.specs.Prelude.{ℕ, ◌+◌, ◌*◌, ◌==◌, Bool, true, false, if◌then◌else◌, List, [], ◌∷◌, ◌++◌, map, length, ℤ, pos, ◌-ℤ◌, ◌+ℤ◌, int_lt, unsigned_abs, Option, Some, None, Result, Ok, Err}
use Rattle.vl_tree.specs.declared.fault.FaultKind.TheVariants.{UnknownName, NotConstant, BadSelect, TooWide, ZeroReplication, BadCall}
use Rattle.vl_tree.specs.Syntax.{Place, Expr, number, read, call, system, group, concat, repeat, unary, chain, choose}
use Rattle.vl_tree.specs.Syntax.{Exprs, no_expr, more_expr, Links, no_link, more_link, Choices, no_choice, more_choice}
use Rattle.vl_tree.specs.Syntax.{Selects, no_select, more_select, Select, index, part, upward, downward}
use Rattle.vl_value.specs.Paths.{Path}
use Rattle.vl_value.specs.Things.{Shape, width_of, distance, word_place, Thing, signal, memory, constant, routine}
use Rattle.vl_value.specs.Meaning as m
use Rattle.vl_value.specs.Meaning.{Meaning, Picked}
use Rattle.vl_value.specs.Constant.{Sight, is_constant}
use Rattle.vl_value.specs.Reads.{Reading, bit, words, places}
use Rattle.vl_value.specs.Order.{Found, at, lesser}
use Rattle.vl_value.specs.Faults.{start, settled, faults, constant_meaning, is_along}
use Rattle.vl_width.specs.Known.{is_width}
use Rattle.vl_sized.specs.Moments.{Moment, in_sight, still, Sense, constant_sense, on_one, on_two, on_all, all_mean, all_read}
use Rattle.vl_sized.specs.Told.{told, mapped, joint, fault_in}

-- ---- selects

-- an index: the same in each moment, or not
pub data Basis : Type 0 where
  fixed : ℤ → Basis
  varying : Sense → Basis

-- a select: none where its index has a fault, or what has to be constant isn't settled
pub data Pick : Type 0 where
  one : Option Basis → Pick
  span : Option ℤ → Option ℤ → Pick
  up : Option Basis → Option ℤ → Pick
  down : Option Basis → Option ℤ → Pick

-- selects, with the least fault of their operands
pub record Picks : Type 0 where
  pub fault : Option Found
  pub list : List Pick

abbrev pub no_picks : Picks
no_picks = record { fault = None; list = [] }

-- one more, and all of two
abbrev pub one_more : Picks → Option Found → Pick → Picks
one_more ks f k = record { fault = lesser ks.fault f; list = ks.list ++ k ∷ [] }

abbrev pub picks_joined : Picks → Picks → Picks
picks_joined a b = record { fault = lesser a.fault b.fault; list = a.list ++ b.list }

abbrev pub with_value : Basis → Moment → ℤ
with_value (fixed z) t = z
with_value (varying a) t = m.whole (a.means t)

abbrev pub is_fixed : Basis → Bool
is_fixed (fixed z) = true
is_fixed (varying a) = false

abbrev pub when_still : Basis → ℤ
when_still (fixed z) = z
when_still (varying a) = pos 0

abbrev pub basis_reads : Basis → List Reading
basis_reads (fixed z) = []
basis_reads (varying a) = a.read

-- which indices are covered in a moment; whether they are the same in each, and which then; what is read for it
pub record Cover : Type 0 where
  pub picks : Moment → List Picked
  pub same : Bool
  pub always : List Picked
  pub read : List Reading

abbrev pub all_covered : Cover
all_covered = record { picks = λ t. []; same = true; always = []; read = [] }

abbrev pub based : Basis → (ℤ → ℤ) → ℕ → Cover
based b from n = record {
  picks = λ t. record { from = from (with_value b t); count = n } ∷ [];
  same = is_fixed b;
  always = record { from = from (when_still b); count = n } ∷ [];
  read = basis_reads b;
}

abbrev pub spanned : ℤ → ℤ → ℕ → Cover
spanned a b n = based (fixed (m.lesser a b)) (λ z. z) n

-- how many bits a whole number tells, where a vector has so many
abbrev pub bits_told : ℤ → Option ℕ
bits_told z = if int_lt z (pos 1) then None else (if is_width (unsigned_abs z) then Some (unsigned_abs z) else None)

-- how many bits there are from one to another
abbrev pub bits_between : ℤ → ℤ → Option ℕ
bits_between a b = if is_width (unsigned_abs (a -ℤ b) + 1) then Some (unsigned_abs (a -ℤ b) + 1) else None

abbrev pub if_bits : Option ℕ → (ℕ → Cover) → Cover
if_bits None k = all_covered
if_bits (Some n) k = k n

abbrev pub cover_by : Pick → Cover
cover_by (one (Some b)) = based b (λ z. z) 1
cover_by (span (Some a) (Some b)) = if_bits (bits_between a b) (spanned a b)
cover_by (up (Some b) (Some n)) = if_bits (bits_told n) (based b (λ z. z))
cover_by (down (Some b) (Some n)) = if_bits (bits_told n) (λ k. based b (λ z. (z -ℤ pos k) +ℤ pos 1) k)
cover_by k = all_covered

abbrev pub cover : List Pick → Cover
cover [] = all_covered
cover (k ∷ ks) = cover_by k

-- ---- names

-- where a vector's value comes from, and what is read for some of its bits
pub record Vector : Type 0 where
  pub shape : Shape
  pub value : Moment → ℕ
  pub read : Cover → List Reading

abbrev pub object : Path → Shape → Vector
object p sh = record {
  shape = sh;
  value = λ t. t.word p 0;
  read = λ k. map (bit p) (places sh k.same k.always) ++ k.read;
}

abbrev pub word_of : Path → Shape → ℕ → ℕ → Basis → Vector
word_of p sh first last b = record {
  shape = sh;
  value = λ t. m.word_at (in_sight (λ x. None) t) p (distance first last) (word_place first last (with_value b t));
  read = λ k. words p ∷ (basis_reads b ++ k.read);
}

abbrev pub covered : Vector → Cover → Sense
covered v k = record { means = λ t. m.selected v.shape (v.value t) (k.picks t); read = v.read k }

-- a memory's word, of which the first select is the index
abbrev pub named_word : Path → Shape → ℕ → ℕ → List Pick → Sense
named_word p sh first last (one (Some b) ∷ ks) = covered (word_of p sh first last b) (cover ks)
named_word p sh first last ks = constant_sense (m.unsigned 1 0)

-- what a name with selects means, where nothing is at fault
abbrev pub named : Option Thing → List Pick → Sense
named (Some (signal p sh)) ks = covered (object p sh) (cover ks)
named (Some (memory p sh first last)) ks = named_word p sh first last ks
named (Some (constant w g n)) ks = constant_sense (m.operand w g n)
named (Some (routine true p sh shs)) ks = covered (object p sh) (cover ks)
named o ks = constant_sense (m.unsigned 1 0)

-- ---- faults of its own

abbrev pub if_wide : Place → Option Found → ℕ → Option Found
if_wide p (Some g) w = None
if_wide p None w = if is_width w then None else Some (at p TooWide)

abbrev pub if_copied : Place → Option Found → Option ℤ → ℕ → Option Found
if_copied p o None w = None
if_copied p o (Some n) w = if int_lt n (pos 1) then Some (at p ZeroReplication) else if_wide p o (unsigned_abs n * w)

abbrev pub if_spanned : Shape → Place → Option Found → ℤ → ℤ → Option Found
if_spanned sh p o a b = if is_along sh a b then if_wide p o (unsigned_abs (a -ℤ b) + 1) else Some (at p BadSelect)

abbrev pub if_between : Shape → Place → Option Found → Option ℤ → Option ℤ → Option Found
if_between sh p o (Some a) (Some b) = if_spanned sh p o a b
if_between sh p o a b = None

abbrev pub if_covered : Shape → Place → Option Found → Pick → Option Found
if_covered sh p o (one b) = None
if_covered sh p o (span a b) = if_between sh p o a b
if_covered sh p o (up b n) = if_copied p o n 1
if_covered sh p o (down b n) = if_copied p o n 1

abbrev pub of_vector : Shape → Place → Option Found → List Pick → Option Found
of_vector sh p o [] = None
of_vector sh p o (k ∷ []) = if_covered sh p o k
of_vector sh p o (k ∷ l ∷ more) = Some (at p BadSelect)

-- a memory has a word's index and then what a vector has
abbrev pub of_word : Shape → Place → Option Found → List Pick → Option Found
of_word sh p o (one b ∷ ks) = of_vector sh p o ks
of_word sh p o ks = Some (at p BadSelect)

abbrev pub of_name : Option Thing → Place → Option Found → List Pick → Option Found
of_name None p o ks = Some (at p UnknownName)
of_name (Some (signal q sh)) p o ks = of_vector sh p o ks
of_name (Some (memory q sh first last)) p o ks = of_word sh p o ks
of_name (Some (constant w g n)) p o [] = None
of_name (Some (constant w g n)) p o ks = Some (at p BadSelect)
of_name (Some (routine true q sh shs)) p o ks = of_vector sh p o ks
of_name (Some (routine false q sh shs)) p o ks = Some (at p BadCall)

abbrev pub of_call : Option Thing → Place → ℕ → Option Found
of_call None p n = Some (at p UnknownName)
of_call (Some (routine inside q sh shs)) p n = if n == length shs then None else Some (at p BadCall)
of_call (Some x) p n = Some (at p BadCall)

-- ---- expressions

abbrev pub read_sensed : Option Thing → Place → Picks → Result Sense Found
read_sensed o p ks = told (lesser ks.fault (of_name o p ks.fault ks.list)) (named o ks.list)

-- a call's arguments, and its own fault after theirs
abbrev pub called : Option Thing → List Sense → Sense
called (Some (routine inside p sh shs)) xs = record {
  means = λ t. m.operand (width_of sh) sh.signed (t.calls p (m.arguments shs (all_mean xs t)));
  read = all_read xs;
}
called o xs = constant_sense (m.unsigned 1 0)

abbrev pub call_sensed : Option Thing → Place → ℕ → Result (List Sense) Found → Result Sense Found
call_sensed o p n (Ok xs) = told (of_call o p n) (called o xs)
call_sensed o p n (Err g) = told (lesser (Some g) (of_call o p n)) (constant_sense (m.unsigned 1 0))

abbrev pub braces_sensed : Place → Result (List Sense) Found → Result Sense Found
braces_sensed p (Ok xs) = told (if_wide p None (m.widths (all_mean xs still))) (on_all m.braces xs)
braces_sensed p (Err g) = Err g

abbrev pub copies_own : Place → Option ℤ → Result (List Sense) Found → Option Found
copies_own p n (Ok xs) = if_copied p None n (m.widths (all_mean xs still))
copies_own p n (Err g) = if_copied p (Some g) n 0

abbrev pub copied_sense : Option ℤ → List Sense → Sense
copied_sense None xs = constant_sense (m.unsigned 1 0)
copied_sense (Some z) xs = if int_lt z (pos 1) then constant_sense (m.unsigned 1 0)
    else (if is_width (unsigned_abs z * m.widths (all_mean xs still)) then on_all (λ ms. m.copies (unsigned_abs z) (m.braces ms)) xs
    else constant_sense (m.unsigned 1 0))

-- the fault of the count comes first, then those of the parts, then its own
abbrev pub copies_sensed : Place → Option ℤ → Option Found → Result (List Sense) Found → Result Sense Found
copies_sensed p n o (Ok xs) = told (lesser o (copies_own p n (Ok xs))) (copied_sense n xs)
copies_sensed p n o (Err g) = told (lesser o (lesser (Some g) (copies_own p n (Err g)))) (constant_sense (m.unsigned 1 0))

-- a fault where a constant is needed and this is none
abbrev pub needed : Bool → Place → Option Found → Option Found
needed c p o = if c then o else lesser o (Some (at p NotConstant))

-- a choice of senses
abbrev pub chosen_among : List (Sense × Sense) → Sense → Sense
chosen_among [] b = b
chosen_among (x ∷ xs) b =
    let c : Sense = chosen_among xs b in
    record { means = λ t. m.choice (x.0.means t) (x.1.means t) (c.means t); read = x.0.read ++ (x.1.read ++ c.read) }

abbrev pub paired : Sense → Sense → Sense × Sense
paired a b = (a, b)

-- the whole number that an expression is, where it is constant and has no fault
abbrev pub whole_settled : Sight → Expr → Option ℤ
whole_settled s e = settled (is_constant s e) (faults s e) (m.whole (constant_meaning s e))

abbrev pub basis_of : Option ℤ → Result Sense Found → Option Basis
basis_of (Some z) r = Some (fixed z)
basis_of None (Ok a) = Some (varying a)
basis_of None (Err g) = None

abbrev mutual
  pub sensed : Sight → Expr → Result Sense Found
  sensed s (number p l) = Ok (constant_sense (m.literal l))
  sensed s (read x ks) = read_sensed (s x.text) x.place (all_picked s ks)
  sensed s (call g es) = call_sensed (s g.text) g.place (length (m.meanings (m.at_rest s) es)) (all_sensed s es)
  sensed s (system p g e) = mapped (on_one (m.system_of g)) (sensed s e)
  sensed s (group p e) = sensed s e
  sensed s (concat p es) = braces_sensed p (all_sensed s es)
  sensed s (repeat p n es) =
      copies_sensed p (whole_settled s n) (needed (is_constant s n) (start n) (fault_in (sensed s n))) (all_sensed s es)
  sensed s (unary p g e) = mapped (on_one (m.unary_of g)) (sensed s e)
  sensed s (chain e ls) = linked s ls (sensed s e)
  sensed s (choose hs e) = joint chosen_among (all_choices s hs) (sensed s e)

  pub all_sensed : Sight → Exprs → Result (List Sense) Found
  all_sensed s no_expr = Ok []
  all_sensed s (more_expr e es) = joint ◌∷◌ (sensed s e) (all_sensed s es)

  pub linked : Sight → Links → Result Sense Found → Result Sense Found
  linked s no_link a = a
  linked s (more_link g p e ls) a = linked s ls (joint (on_two (m.binary_of g)) a (sensed s e))

  pub all_choices : Sight → Choices → Result (List (Sense × Sense)) Found
  all_choices s no_choice = Ok []
  all_choices s (more_choice e p a hs) = joint ◌∷◌ (joint paired (sensed s e) (sensed s a)) (all_choices s hs)

  pub all_picked : Sight → Selects → Picks
  all_picked s no_select = record { fault = None; list = [] }
  all_picked s (more_select p k ks) = record {
    fault = lesser (picked_fault s k) (all_picked s ks).fault;
    list = picked s k ∷ (all_picked s ks).list;
  }

  pub picked_fault : Sight → Select → Option Found
  picked_fault s (index e) = fault_in (sensed s e)
  picked_fault s (part a b) = lesser (needed (is_constant s a) (start a) (fault_in (sensed s a)))
      (needed (is_constant s b) (start b) (fault_in (sensed s b)))
  picked_fault s (upward b w) = lesser (fault_in (sensed s b)) (needed (is_constant s w) (start w) (fault_in (sensed s w)))
  picked_fault s (downward b w) = lesser (fault_in (sensed s b)) (needed (is_constant s w) (start w) (fault_in (sensed s w)))

  pub picked : Sight → Select → Pick
  picked s (index e) = one (basis_of (whole_settled s e) (sensed s e))
  picked s (part a b) = span (whole_settled s a) (whole_settled s b)
  picked s (upward b w) = up (basis_of (whole_settled s b) (sensed s b)) (whole_settled s w)
  picked s (downward b w) = down (basis_of (whole_settled s b) (sensed s b)) (whole_settled s w)
