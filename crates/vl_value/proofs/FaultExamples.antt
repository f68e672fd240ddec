-- Worked examples of faults: each kind, where it stands, and which of several is told.
use Rattle.std.specs.Prelude.{◌≡◌, refl, ℕ, ◌+◌, Bool, true, false, ◌&&◌, List, [], ◌∷◌, map, nat_lt, Option, Some, None, codes}
use Rattle.bit_ops.specs.declared.operator.Unary.TheVariants as u
use Rattle.bit_ops.specs.declared.operator.Binary.TheVariants as b
use Rattle.vl_tree.specs.declared.fault.FaultKind.{FaultKind}
use Rattle.vl_tree.specs.declared.fault.FaultKind.TheVariants as k
use Rattle.vl_tree.specs.Syntax.{to_signed, clog2, Place, Name, Expr, Select}
use Rattle.vl_tree.specs.Syntax.{number, read, call, system, group, concat, repeat, unary, chain, choose}
use Rattle.vl_tree.specs.Syntax.{no_expr, more_expr, no_link, more_link, no_choice, more_choice}
use Rattle.vl_tree.specs.Syntax.{no_select, more_select, index, part, upward, downward}
use Rattle.vl_value.specs.Paths.{Text, named}
use Rattle.vl_value.specs.Things.{Thing, signal, memory, constant, routine}
use Rattle.vl_value.specs.Order.{Found, rank, least}
use Rattle.vl_value.specs.Faults.{faults, needed_faults, early_faults}
use Rattle.vl_value.proofs.Examples.{found, shape, byte}

-- ---- the order has the kinds of each phase as the language lists them

abbrev rises : List ℕ → Bool
rises [] = true
rises (n ∷ []) = true
rises (n ∷ m ∷ more) = nat_lt n m && rises (m ∷ more)

phase_four : rises (map rank (k.DuplicateModule ∷ k.NoTop ∷ k.UnknownModule ∷ k.UnknownParameter ∷ k.TooDeep ∷ k.TooManyInstances
    ∷ k.TooManyTurns ∷ k.Misplaced ∷ k.NotConstant ∷ k.Expanded ∷ [])) ≡ true
phase_four = refl

phase_five : rises (map rank (k.Duplicate ∷ k.BadRange ∷ k.TooWide ∷ k.BadPort ∷ k.UnknownPort ∷ k.TooManySignals ∷ k.TooManyWords
    ∷ k.TooManyInputs ∷ [])) ≡ true
phase_five = refl

phase_six : rises (map rank (k.UnknownName ∷ k.NotConstant ∷ k.BadSelect ∷ k.TooWide ∷ k.ZeroReplication ∷ k.BadCall ∷ k.BadTarget
    ∷ k.BadFormat ∷ [])) ≡ true
phase_six = refl

phase_seven : rises (map rank (k.AsyncControl ∷ k.NegativeEdge ∷ k.WrongAssign ∷ k.LoopVariable ∷ k.Latch ∷ k.Recursive
    ∷ k.FunctionScope ∷ k.BadInitial ∷ k.TaskPlace ∷ k.Unrolled ∷ k.Expanded ∷ [])) ≡ true
phase_seven = refl

phase_eight : rises (map rank (k.ManyDrivers ∷ k.MixedKinds ∷ k.BadClock ∷ k.SecondClock ∷ k.ClockAsData ∷ [])) ≡ true
phase_eight = refl

-- ---- what is in sight, and expressions whose tokens have numbers
-- wire [7:0] v, [0:7] u, z, [100:0] w; reg [7:0] m [4:9]; parameter P is 3; function f of one input, not in its own body;
-- function g, in its own

abbrev things : List (Text × Thing)
things =
    (codes "v", signal (named (codes "v") ∷ []) byte) ∷
    (codes "u", signal (named (codes "u") ∷ []) (shape 0 7 false)) ∷
    (codes "z", signal (named (codes "z") ∷ []) (shape 0 0 false)) ∷
    (codes "w", signal (named (codes "w") ∷ []) (shape 100 0 false)) ∷
    (codes "m", memory (named (codes "m") ∷ []) byte 4 9) ∷
    (codes "P", constant 32 true 3) ∷
    (codes "f", routine false (named (codes "f") ∷ []) byte (byte ∷ [])) ∷
    (codes "g", routine true (named (codes "g") ∷ []) byte (byte ∷ [])) ∷ []

abbrev t : ℕ → Place
t n = record { token = n; line = 1 }

abbrev x : ℕ → Text → Name
x n s = record { text = s; place = t n }

-- a number, -1, a name, a name with one select and with two
abbrev num : ℕ → ℕ → Expr
num n v = number (t n) (record { width = 32; sized = false; signed = true; value = v; wild = 0 })

abbrev minus_one : ℕ → Expr
minus_one n = unary (t n) u.Minus (num (n + 1) 1)

abbrev rd : ℕ → Text → Expr
rd n s = read (x n s) no_select

abbrev of : ℕ → Text → Select → Expr
of n s j = read (x n s) (more_select (t (n + 1)) j no_select)

abbrev of_two : ℕ → Text → Select → Select → Expr
of_two n s j l = read (x n s) (more_select (t (n + 1)) j (more_select (t (n + 4)) l no_select))

abbrev braces : ℕ → Expr → Expr → Expr
braces n e f = concat (t n) (more_expr e (more_expr f no_expr))

abbrev copies : ℕ → Expr → Expr → Expr
copies n c e = repeat (t n) c (more_expr e no_expr)

abbrev sum : Expr → Expr → Expr
sum e f = chain e (more_link b.Add (t 9) f no_link)

-- the token and the kind of the least
abbrev spot : Option Found → Option (ℕ × FaultKind)
spot None = None
spot (Some f) = Some (f.place.token, f.kind)

abbrev told : Expr → Option (ℕ × FaultKind)
told e = spot (least (faults (found things) e))

abbrev told_needed : Expr → Option (ℕ × FaultKind)
told_needed e = spot (least (needed_faults (found things) e))

abbrev told_early : Expr → Option (ℕ × FaultKind)
told_early e = spot (least (early_faults (found things) e))

-- ---- UnknownName

unknown : told (rd 0 (codes "q")) ≡ Some (0, k.UnknownName)
unknown = refl

unknown_called : told (call (x 0 (codes "q")) (more_expr (num 2 1) no_expr)) ≡ Some (0, k.UnknownName)
unknown_called = refl

unknown_selected : told (of 0 (codes "q") (index (num 2 1))) ≡ Some (0, k.UnknownName)
unknown_selected = refl

known : told (rd 0 (codes "v")) ≡ None
known = refl

-- ---- NotConstant: v[u:0] at the bound, {u{v}} at the count, v[u +: z] at the width; an index may vary; in phase 6 a constant with
-- another fault is a constant

bound : told (of 0 (codes "v") (part (rd 2 (codes "u")) (num 4 0))) ≡ Some (2, k.NotConstant)
bound = refl

other_bound : told (of 0 (codes "v") (part (num 2 7) (rd 4 (codes "u")))) ≡ Some (4, k.NotConstant)
other_bound = refl

bound_in_parentheses : told (of 0 (codes "v") (part (group (t 2) (rd 3 (codes "u"))) (num 6 0))) ≡ Some (2, k.NotConstant)
bound_in_parentheses = refl

bound_is_a_sum : told (of 0 (codes "v") (part (sum (rd 2 (codes "u")) (num 4 1)) (num 6 0))) ≡ Some (2, k.NotConstant)
bound_is_a_sum = refl

count : told (copies 0 (rd 1 (codes "u")) (rd 3 (codes "v"))) ≡ Some (1, k.NotConstant)
count = refl

width_of_select : told (of 0 (codes "v") (upward (rd 2 (codes "u")) (rd 4 (codes "z")))) ≡ Some (4, k.NotConstant)
width_of_select = refl

index_varies : told (of 0 (codes "v") (index (rd 2 (codes "u")))) ≡ None
index_varies = refl

start_varies : told (of 0 (codes "v") (downward (rd 2 (codes "u")) (num 4 2))) ≡ None
start_varies = refl

cast_bound : told (of 0 (codes "v") (part (system (t 2) to_signed (num 4 7)) (num 7 0))) ≡ Some (2, k.NotConstant)
cast_bound = refl

logarithm_bound : told (of 0 (codes "v") (part (system (t 2) clog2 (num 4 7)) (num 7 0))) ≡ None
logarithm_bound = refl

unknown_bound : told (of 0 (codes "v") (part (rd 2 (codes "q")) (num 4 0))) ≡ Some (2, k.UnknownName)
unknown_bound = refl

unknown_in_bound : told (of 0 (codes "v") (part (group (t 2) (rd 3 (codes "q"))) (num 6 0))) ≡ Some (2, k.NotConstant)
unknown_in_bound = refl

select_of_constant_bound : told (of 0 (codes "v") (part (of 2 (codes "P") (index (num 4 0))) (num 7 0))) ≡ Some (2, k.BadSelect)
select_of_constant_bound = refl

no_copies_in_bound : told (of 0 (codes "v") (part (copies 2 (num 3 0) (num 5 1)) (num 9 0))) ≡ Some (2, k.ZeroReplication)
no_copies_in_bound = refl

-- ---- BadSelect: against the direction; more selects than the object has; of a constant; a memory without a word's index. It is not
-- asked of bounds that are no constants

against : told (of 0 (codes "v") (part (num 2 0) (num 4 7))) ≡ Some (0, k.BadSelect)
against = refl

against_ascending : told (of 0 (codes "u") (part (num 2 7) (num 4 0))) ≡ Some (0, k.BadSelect)
against_ascending = refl

along_ascending : told (of 0 (codes "u") (part (num 2 0) (num 4 7))) ≡ None
along_ascending = refl

one_bit_against : told (of 0 (codes "z") (part (num 2 0) (num 4 1))) ≡ Some (0, k.BadSelect)
one_bit_against = refl

one_bit_along : told (of 0 (codes "z") (part (num 2 1) (num 4 0))) ≡ None
one_bit_along = refl

outside : told (of 0 (codes "v") (part (num 2 20) (num 4 10))) ≡ None
outside = refl

bit_of_bit : told (of_two 0 (codes "v") (index (num 2 1)) (index (num 5 0))) ≡ Some (0, k.BadSelect)
bit_of_bit = refl

bit_of_constant : told (of 0 (codes "P") (index (num 2 0))) ≡ Some (0, k.BadSelect)
bit_of_constant = refl

memory_alone : told (rd 0 (codes "m")) ≡ Some (0, k.BadSelect)
memory_alone = refl

words : told (of 0 (codes "m") (part (num 2 5) (num 4 4))) ≡ Some (0, k.BadSelect)
words = refl

word : told (of 0 (codes "m") (index (num 2 4))) ≡ None
word = refl

part_of_word : told (of_two 0 (codes "m") (index (num 2 4)) (part (num 5 3) (num 7 0))) ≡ None
part_of_word = refl

part_of_word_against : told (of_two 0 (codes "m") (index (num 2 4)) (part (num 5 0) (num 7 3))) ≡ Some (0, k.BadSelect)
part_of_word_against = refl

select_before_its_index : told (of 0 (codes "P") (index (rd 2 (codes "q")))) ≡ Some (0, k.BadSelect)
select_before_its_index = refl

index_of_bad_select : told (of 0 (codes "v") (index (of 2 (codes "P") (index (num 4 0))))) ≡ Some (2, k.BadSelect)
index_of_bad_select = refl

-- ---- TooWide: more than 128 bits in braces, in copies and in a select; not where a part has a fault

braces_too_wide : told (braces 0 (rd 1 (codes "w")) (rd 3 (codes "w"))) ≡ Some (0, k.TooWide)
braces_too_wide = refl

braces_within : told (braces 0 (braces 1 (rd 2 (codes "w")) (rd 4 (codes "w"))) (rd 7 (codes "v"))) ≡ Some (1, k.TooWide)
braces_within = refl

braces_of_128 : told (copies 0 (num 1 4) (braces 2 (num 3 0) (rd 5 (codes "v")))) ≡ Some (0, k.TooWide)
braces_of_128 = refl

copies_of_128 : told (copies 0 (num 1 16) (rd 3 (codes "v"))) ≡ None
copies_of_128 = refl

copies_too_wide : told (copies 0 (num 1 17) (rd 3 (codes "v"))) ≡ Some (0, k.TooWide)
copies_too_wide = refl

part_too_wide : told (of 0 (codes "v") (part (num 2 160) (num 4 4))) ≡ Some (0, k.TooWide)
part_too_wide = refl

part_of_128 : told (of 0 (codes "v") (part (num 2 131) (num 4 4))) ≡ None
part_of_128 = refl

upward_too_wide : told (of 0 (codes "v") (upward (rd 2 (codes "u")) (num 4 129))) ≡ Some (0, k.TooWide)
upward_too_wide = refl

too_wide_and_unknown : told (braces 0 (rd 1 (codes "w")) (braces 3 (rd 4 (codes "w")) (rd 6 (codes "q")))) ≡ Some (6, k.UnknownName)
too_wide_and_unknown = refl

select_too_wide_and_unknown : told (of 0 (codes "v") (upward (rd 2 (codes "q")) (num 4 129))) ≡ Some (2, k.UnknownName)
select_too_wide_and_unknown = refl

-- ---- ZeroReplication: a count or a width of a select below 1, whatever else is wrong within

no_copies : told (copies 0 (num 1 0) (rd 3 (codes "v"))) ≡ Some (0, k.ZeroReplication)
no_copies = refl

copies_below_none : told (copies 0 (minus_one 1) (rd 4 (codes "v"))) ≡ Some (0, k.ZeroReplication)
copies_below_none = refl

no_copies_of_unknown : told (copies 0 (num 1 0) (rd 3 (codes "q"))) ≡ Some (0, k.ZeroReplication)
no_copies_of_unknown = refl

no_bits : told (of 0 (codes "v") (upward (num 2 0) (num 4 0))) ≡ Some (0, k.ZeroReplication)
no_bits = refl

no_bits_below : told (of 0 (codes "v") (downward (num 2 0) (minus_one 4))) ≡ Some (0, k.ZeroReplication)
no_bits_below = refl

no_bits_from_unknown : told (of 0 (codes "v") (upward (rd 2 (codes "q")) (num 4 0))) ≡ Some (0, k.ZeroReplication)
no_bits_from_unknown = refl

no_bits_of_constant : told (of 0 (codes "P") (upward (num 2 0) (num 4 0))) ≡ Some (0, k.BadSelect)
no_bits_of_constant = refl

-- ---- BadCall: what is no function, another number of arguments, a function's name alone outside of its body

call_of_vector : told (call (x 0 (codes "v")) (more_expr (num 2 1) no_expr)) ≡ Some (0, k.BadCall)
call_of_vector = refl

call_of_two : told (call (x 0 (codes "f")) (more_expr (num 2 1) (more_expr (num 4 2) no_expr))) ≡ Some (0, k.BadCall)
call_of_two = refl

call_of_one : told (call (x 0 (codes "f")) (more_expr (num 2 1) no_expr)) ≡ None
call_of_one = refl

name_of_function : told (rd 0 (codes "f")) ≡ Some (0, k.BadCall)
name_of_function = refl

own_name : told (rd 0 (codes "g")) ≡ None
own_name = refl

part_of_own_name : told (of 0 (codes "g") (part (num 2 160) (num 4 4))) ≡ Some (0, k.TooWide)
part_of_own_name = refl

called_within : told (call (x 0 (codes "g")) (more_expr (num 2 1) no_expr)) ≡ None
called_within = refl

call_before_argument : told (call (x 0 (codes "v")) (more_expr (rd 2 (codes "q")) no_expr)) ≡ Some (0, k.BadCall)
call_before_argument = refl

argument : told (call (x 0 (codes "f")) (more_expr (rd 2 (codes "q")) no_expr)) ≡ Some (2, k.UnknownName)
argument = refl

-- ---- The least by token, wherever it stands in the tree; operands of operators and of choices

first_of_two : told (sum (rd 3 (codes "q")) (rd 1 (codes "f"))) ≡ Some (1, k.BadCall)
first_of_two = refl

last_operand : told (chain (rd 0 (codes "v")) (more_link b.Add (t 1) (rd 2 (codes "v")) (more_link b.Sub (t 3) (rd 4 (codes "q")) no_link))) ≡ Some (4, k.UnknownName)
last_operand = refl

condition : told (choose (more_choice (rd 0 (codes "q")) (t 1) (rd 2 (codes "f")) no_choice) (rd 4 (codes "f"))) ≡ Some (0, k.UnknownName)
condition = refl

last_value : told (choose (more_choice (rd 0 (codes "v")) (t 1) (rd 2 (codes "v")) no_choice) (rd 4 (codes "f"))) ≡ Some (4, k.BadCall)
last_value = refl

negated : told (unary (t 0) u.Not (rd 1 (codes "q"))) ≡ Some (1, k.UnknownName)
negated = refl

converted : told (system (t 0) to_signed (rd 2 (codes "q"))) ≡ Some (2, k.UnknownName)
converted = refl

-- ---- Where a constant is needed: in phase 6 after the faults of the expression; in phase 4 there is one fault, at the first token

needed_varies : told_needed (rd 5 (codes "v")) ≡ Some (5, k.NotConstant)
needed_varies = refl

needed_unknown : told_needed (rd 5 (codes "q")) ≡ Some (5, k.UnknownName)
needed_unknown = refl

needed_select : told_needed (of 5 (codes "P") (index (num 7 0))) ≡ Some (5, k.BadSelect)
needed_select = refl

needed_constant : told_needed (sum (rd 5 (codes "P")) (num 7 1)) ≡ None
needed_constant = refl

early_varies : told_early (rd 5 (codes "v")) ≡ Some (5, k.NotConstant)
early_varies = refl

early_unknown : told_early (rd 5 (codes "q")) ≡ Some (5, k.NotConstant)
early_unknown = refl

early_select : told_early (of 5 (codes "P") (index (num 7 0))) ≡ Some (5, k.NotConstant)
early_select = refl

early_no_copies : told_early (copies 5 (num 6 0) (num 8 1)) ≡ Some (5, k.NotConstant)
early_no_copies = refl

early_too_wide : told_early (group (t 5) (copies 6 (num 7 5) (num 9 1))) ≡ Some (5, k.NotConstant)
early_too_wide = refl

early_cast : told_early (system (t 5) to_signed (num 7 1)) ≡ Some (5, k.NotConstant)
early_cast = refl

early_call : told_early (call (x 5 (codes "f")) (more_expr (num 7 1) no_expr)) ≡ Some (5, k.NotConstant)
early_call = refl

early_constant : told_early (copies 5 (rd 6 (codes "P")) (num 8 1)) ≡ None
early_constant = refl
