-- Generate loops, conditions and blocks (IEEE 1364-2005, clause 12.4): which turns and which branch there are, how the scope
-- of a block is named, and what is in sight in it.
use Rattle.std.specs.Prelude.{ℕ, zero, suc, ◌+◌, ◌-◌, Bool, true, false, ◌&&◌, ◌||◌, not, if◌then◌else◌, List, [], ◌∷◌, length, bytes_eq, ℤ, Option, Some, None}
use Rattle.bit_ops.specs.Operators as ops
use Rattle.vl_tree.specs.declared.fault.FaultKind.TheVariants.{TooManyTurns}
use Rattle.vl_tree.specs.Syntax.{Place, Name, Loop, Item, Items, GenerateBlock, GenerateBranches, GenerateElse, region, generate_loop, generate_if, no_item, more_item, single, several, no_generate_branch, more_generate_branch, no_generate_else, generate_else}
use Rattle.vl_tree.specs.Depth.{items_depths, generate_block_depths}
use Rattle.vl_value.specs.Paths.{Text, Step, named, turn, unnamed}
use Rattle.vl_value.specs.Meaning.{Meaning, assigned, true_of}
use Rattle.vl_value.specs.Order.{Found, at}
use Rattle.vl_design.specs.Limits.{Limits}
use Rattle.vl_design.specs.Constants.{worth, Known, with_constant, without, value_of, needs}
use Rattle.vl_design.specs.Declarations.{Declared, inner, object_names, parameter_names, genvar_names, have_name, known_after, has_name}
use Rattle.vl_design.specs.Parameters.{Given}

-- ---- what is in sight

-- the constants in sight, and which names are a genvar's
pub record Around : Type 0 where
  pub known : Known
  pub is_genvar : Text → Bool

-- in a scope an object of its own hides an outer name, wherever in it that is declared
abbrev pub genvars_in : Items → (Text → Bool) → Text → Bool
genvars_in is f x = have_name genvar_names is x
    || (not (have_name object_names is x) && f x)

abbrev pub entered : Items → Around → Around
entered is a = record {
  known = without (have_name object_names is) a.known;
  is_genvar = genvars_in is a.is_genvar;
}

-- behind an item: its parameters are in sight, and hide a genvar
abbrev pub behind : List Given → Around → Item → Around
behind gs a i = record {
  known = known_after gs a.known i;
  is_genvar = λ x. not (has_name parameter_names i x) && a.is_genvar x;
}

-- a turn's genvar and its number, which is signed and has 32 bits
abbrev pub in_turn : Text → ℕ → Around → Around
in_turn x n a = record { known = with_constant x (worth 32 true n) a.known; is_genvar = a.is_genvar }

-- ---- turns of a loop (12.4.1)

-- whether a loop has one variable, which is a genvar
abbrev pub has_one_genvar : Around → Loop → Bool
has_one_genvar a l = bytes_eq l.variable.text l.stepped.text && a.is_genvar l.variable.text

-- the numbers of the genvar, turn by turn, and the fault that ends them
pub record Turns : Type 0 where
  pub numbers : List ℕ
  pub faults : List Found

abbrev pub ended_by : List Found → Turns
ended_by fs = record { numbers = []; faults = fs }

abbrev pub one_more : ℕ → Turns → Turns
one_more n ts = record { numbers = n ∷ ts.numbers; faults = ts.faults }

-- the genvar takes a value as a variable does
abbrev pub next_turn : (ℕ → Turns) → List Found → Option Meaning → Turns
next_turn go fs None = ended_by fs
next_turn go fs (Some m) = go (assigned 32 m)

-- a turn where the condition holds
abbrev pub if_holds : List Found → Option Meaning → Turns → Turns
if_holds fs None ts = ended_by fs
if_holds fs (Some m) ts = if true_of m then ts else ended_by []

-- from a number of the genvar on, so many turns at most
abbrev pub turns_from : Place → Around → Loop → ℕ → ℕ → Turns
turns_from p a l zero n = let b : Known = (in_turn l.variable.text n a).known in
    if_holds (needs b l.condition) (value_of b l.condition) (ended_by (at p TooManyTurns ∷ []))
turns_from p a l (suc k) n = let b : Known = (in_turn l.variable.text n a).known in
    if_holds (needs b l.condition) (value_of b l.condition)
    (one_more n (next_turn (turns_from p a l k) (needs b l.step) (value_of b l.step)))

abbrev pub turns_of : Limits → Place → Around → Loop → Turns
turns_of q p a l = next_turn (turns_from p a l q.turns) (needs a.known l.first) (value_of a.known l.first)

-- ---- scopes of blocks (12.4.3)

abbrev pub label_of : GenerateBlock → Option Name
label_of (single i) = None
label_of (several p x is) = x

-- a labelled block has its label's name, another the number of its construct; in a loop the turn's number follows
abbrev pub step_of : ℕ → Option Name → Option ℤ → Step
step_of n None z = unnamed n z
step_of n (Some x) None = named x.text
step_of n (Some x) (Some z) = turn x.text z

abbrev pub turn_number : ℕ → ℤ
turn_number n = ops.integer true 32 n

-- generate constructs, by which unnamed blocks are numbered
abbrev mutual
  pub constructs_of : Item → ℕ
  constructs_of (region p is) = constructs is
  constructs_of (generate_loop p l b) = 1
  constructs_of (generate_if bs e) = 1
  constructs_of _ = 0

  pub constructs : Items → ℕ
  constructs no_item = 0
  constructs (more_item i is) = constructs_of i + constructs is

-- a generate `if` that stands directly as a branch belongs to the construct of that branch
abbrev pub is_if : Item → Bool
is_if (generate_if bs e) = true
is_if _ = false

-- ---- labels that are declared: those of branches that are taken, and of loops that have a turn

abbrev pub label_declared : GenerateBlock → List Declared
label_declared (several p (Some x) is) = inner x ∷ []
label_declared _ = []

abbrev pub loop_declared : Turns → GenerateBlock → List Declared
loop_declared ts b = elim ts.numbers [ [] ↦ [] | n ∷ ns ↦ label_declared b ]

-- ---- expanded tokens

abbrev mutual
  -- tokens of the bodies of generate loops in an item, which count with their turns
  pub repeated_tokens : Item → ℕ
  repeated_tokens (region p is) = all_repeated_tokens is
  repeated_tokens (generate_loop p l b) = length (generate_block_depths 0 b)
  repeated_tokens (generate_if bs e) = branches_repeated_tokens bs + else_repeated_tokens e
  repeated_tokens _ = 0

  pub all_repeated_tokens : Items → ℕ
  all_repeated_tokens no_item = 0
  all_repeated_tokens (more_item i is) = repeated_tokens i + all_repeated_tokens is

  pub block_repeated_tokens : GenerateBlock → ℕ
  block_repeated_tokens (single i) = repeated_tokens i
  block_repeated_tokens (several p x is) = all_repeated_tokens is

  pub branches_repeated_tokens : GenerateBranches → ℕ
  branches_repeated_tokens no_generate_branch = 0
  branches_repeated_tokens (more_generate_branch p e b bs) = block_repeated_tokens b + branches_repeated_tokens bs

  pub else_repeated_tokens : GenerateElse → ℕ
  else_repeated_tokens no_generate_else = 0
  else_repeated_tokens (generate_else b) = block_repeated_tokens b

-- what an instance adds, whose module has these items, and a turn of a block
abbrev pub items_tokens : Items → ℕ
items_tokens is = length (items_depths 0 is) - all_repeated_tokens is

abbrev pub turn_tokens : GenerateBlock → ℕ
turn_tokens b = length (generate_block_depths 0 b) - block_repeated_tokens b
