-- What the program's sized expressions mean and read, by the numbering of their objects. This project's own.
use Rattle.std.specs.Prelude.{◌≡◌, ◌≤◌, ℕ, ◌+◌, pos, ◌-ℤ◌, ◌+ℤ◌, false, max, Bool, ◌&&◌, List, [], ◌∷◌, ◌++◌, map, Option, Result, Ok, Err, IfOk}
use Rattle.std.specs.Option.{option_map}
use Rattle.vl_value.specs.Meaning.{Meaning}
use Rattle.vl_value.specs.Order as order
use Rattle.dt_core.specs.declared.limits.TheConstants.{MAX_WIDTH}
use Rattle.vl_value.specs.Things.{width_of}
use Rattle.vl_width.specs.declared.shape.Shape.{Shape}
use Rattle.vl_width.specs.Objects.{Numbering, plain_shape}
use Rattle.vl_found.specs.declared.Found.{Found}
use Rattle.vl_sized.specs.declared.node.SizedNode.{SizedNode}
use Rattle.vl_sized.specs.declared.node.Index.{Index}
use Rattle.vl_sized.specs.declared.node.Index.TheVariants as index
use Rattle.vl_sized.specs.declared.node.Case.{Case}
use Rattle.vl_sized.specs.declared.node.Node.{Node}
use Rattle.vl_sized.specs.declared.picks.Pick.{Pick}
use Rattle.vl_sized.specs.declared.picks.Pick.TheVariants as pick
use Rattle.vl_sized.specs.declared.picks.Picks.{Picks}
use Rattle.vl_sized.specs.declared.picks.Indexed.{Indexed}
use Rattle.vl_sized.specs.Moments.{Moment, Sense}
use Rattle.vl_found.specs.View.{found}
use Rattle.vl_value.specs.Reads.{Reading}
use Rattle.vl_width.specs.Terms.{At}
use Rattle.vl_sized.specs.declared.node.Step.{Step}
use Rattle.vl_sized.specs.declared.node.Step.TheVariants as step
use Rattle.vl_sized.specs.declared.node.Test.{Test}
use Rattle.vl_sized.specs.Nodes.{at_of, reads_of, whole_of, stepped, tested_bit}
use Rattle.vl_sized.specs.Sensed as sensed
use Rattle.vl_sized.specs.declared.node.Source.{Source}
use Rattle.vl_sized.specs.declared.node.Source.TheVariants as source
use Rattle.vl_sized.specs.declared.node.Part.{Part}
use Rattle.vl_sized.specs.declared.node.Part.TheVariants as part
use Rattle.vl_sized.specs.Sensed.{Basis, fixed, varying, one, span, up, down, Vector, object, word_of, Cover, all_covered, based}

-- what a sized expression means in a moment
abbrev pub meaning_of : Numbering → Moment → SizedNode Node → Meaning
meaning_of ns t x = record { width = x.size.width; signed = x.size.signed; at = at_of ns t x.node }

-- in each moment, and what it reads
abbrev pub sense_of : Numbering → SizedNode Node → Sense
sense_of ns x = record { means = λ t. meaning_of ns t x; read = reads_of ns x.node }

abbrev pub case_of : Numbering → Case Node → Sense × Sense
case_of ns k = (sense_of ns k.condition, sense_of ns k.value)

abbrev pub basis : Numbering → Index Node → Basis
basis ns (index.Fixed c) = fixed (whole_of c)
basis ns (index.Varying x) = varying (sense_of ns x)

abbrev pub plain_pick : Numbering → Pick → sensed.Pick
plain_pick ns (pick.Bit i) = one (option_map (basis ns) i)
plain_pick ns (pick.Span a b) = span (option_map whole_of a) (option_map whole_of b)
plain_pick ns (pick.Upward i n) = up (option_map (basis ns) i) (option_map whole_of n)
plain_pick ns (pick.Downward i n) = down (option_map (basis ns) i) (option_map whole_of n)

abbrev pub plain_picks : Numbering → Picks → sensed.Picks
plain_picks ns k = record { fault = option_map found k.fault; list = map (plain_pick ns) k.list }

-- an index of the program that is this one, with this fault
abbrev pub IsIndexed : Numbering → Indexed → Option order.Found → Option Basis → Type 0
IsIndexed ns p f b = (option_map found p.fault ≡ f) × (option_map (basis ns) p.index ≡ b)

-- a value of the program, or a fault
abbrev pub judged : {X Y : Type 0} → (X → Y) → Result X Found → Result Y order.Found
judged k (Ok x) = Ok (k x)
judged k (Err f) = Err (found f)

-- what a walk gives, where memory is enough
abbrev pub Gives : {X Y E : Type 0} → (X → Y) → Result (Result X Found) E → Result Y order.Found → Type 0
Gives k r y = IfOk r (λ x. judged k x ≡ y)

-- what is made of a sized expression, where memory is enough
abbrev pub Makes : {E : Type 0} → Result (SizedNode Node) E → (Numbering → Sense) → Type 0
Makes r a = IfOk r (λ x. (ns : Numbering) → sense_of ns x ≡ a ns)

-- ---- parts of vectors

abbrev pub vector_of : Numbering → Shape → Source Node → Vector
vector_of ns sh (source.Signal k) = object (ns.signals k) (plain_shape sh)
vector_of ns sh (source.Local k) = object (ns.locals k) (plain_shape sh)
vector_of ns sh (source.Function k) = object (ns.functions k) (plain_shape sh)
vector_of ns sh (source.Word k first last i) = word_of (ns.memories k) (plain_shape sh) first last (basis ns i)

abbrev pub part_cover : Numbering → Part Node → Cover
part_cover ns part.Whole = all_covered
part_cover ns (part.Upward i n) = based (basis ns i) (λ z. z) n
part_cover ns (part.Downward i n) = based (basis ns i) (λ z. (z -ℤ pos n) +ℤ pos 1) n

-- a vector has as many bits as are read of it
abbrev pub HasBits : Part Node → Type 0
HasBits part.Whole = Unit {0}
HasBits (part.Upward i n) = (1 ≤ n) × (n ≤ MAX_WIDTH)
HasBits (part.Downward i n) = (1 ≤ n) × (n ≤ MAX_WIDTH)

abbrev pub part_width : Shape → Part Node → ℕ
part_width sh part.Whole = width_of (plain_shape sh)
part_width sh (part.Upward i n) = n
part_width sh (part.Downward i n) = n

abbrev pub part_signed : Shape → Part Node → Bool
part_signed sh part.Whole = sh.signed
part_signed sh (part.Upward i n) = false
part_signed sh (part.Downward i n) = false

-- ---- lists of nodes

abbrev pub own_of : Numbering → Moment → SizedNode Node → SizedNode At
own_of ns t x = record { size = x.size; node = at_of ns t x.node }

abbrev pub step_at : Numbering → Moment → Step Node → Step At
step_at ns t (step.Alike f b) = step.Alike f (at_of ns t b)
step_at ns t (step.Shift f x) = step.Shift f (own_of ns t x)

-- a value with one step more
abbrev pub after_step : Numbering → Moment → At → Step Node → At
after_step ns t a k = λ w s. stepped w s (a w s) (step_at ns t k)

abbrev pub run_steps : Numbering → Moment → ℕ → Bool → ℕ → List (Step Node) → ℕ
run_steps ns t w s n [] = n
run_steps ns t w s n (k ∷ ks) = run_steps ns t w s (stepped w s n (step_at ns t k)) ks

abbrev pub chain_at : Numbering → Moment → Node → List (Step Node) → At
chain_at ns t a ks = λ w s. run_steps ns t w s (at_of ns t a w s) ks

abbrev pub step_reading : Numbering → Step Node → List Reading
step_reading ns (step.Alike f b) = reads_of ns b
step_reading ns (step.Shift f x) = reads_of ns x.node

abbrev pub steps_reading : Numbering → List (Step Node) → List Reading
steps_reading ns [] = []
steps_reading ns (k ∷ ks) = step_reading ns k ++ steps_reading ns ks

abbrev pub chain_reading : Numbering → Node → List (Step Node) → List Reading
chain_reading ns a ks = reads_of ns a ++ steps_reading ns ks

abbrev pub test_at : Numbering → Moment → Test Node → Test At
test_at ns t k = record { operator = k.operator; left = k.left; right = own_of ns t k.right }

-- a value with one test more
abbrev pub after_test : Numbering → Moment → At → Test Node → At
after_test ns t a k = (tested_bit a (test_at ns t k)).at

abbrev pub run_tests : Numbering → Moment → At → List (Test Node) → At
run_tests ns t a [] = a
run_tests ns t a (k ∷ ks) = run_tests ns t (after_test ns t a k) ks

abbrev pub tests_read_by : Numbering → List (Test Node) → List Reading
tests_read_by ns [] = []
tests_read_by ns (k ∷ ks) = reads_of ns k.right.node ++ tests_read_by ns ks

abbrev pub tests_reading : Numbering → Node → List (Test Node) → List Reading
tests_reading ns a ks = reads_of ns a ++ tests_read_by ns ks

abbrev pub width_together : List (SizedNode Node) → ℕ
width_together [] = 0
width_together (x ∷ xs) = x.size.width + width_together xs

-- the largest width of values and a last one, signed where all are
abbrev pub widest_of : List (Case Node) → ℕ → ℕ
widest_of [] w = w
widest_of (k ∷ ks) w = widest_of ks (max k.value.size.width w)

abbrev pub all_signed : List (Case Node) → Bool → Bool
all_signed [] s = s
all_signed (k ∷ ks) s = all_signed ks (k.value.size.signed && s)

-- a node of this value in each moment, and of these reads
abbrev pub IsWorth : {E : Type 0} → Result Node E → (Numbering → Moment → At) → Type 0
IsWorth r a = IfOk r (λ x. (ns : Numbering) (t : Moment) → at_of ns t x ≡ a ns t)

abbrev pub Reads : {E : Type 0} → Result Node E → (Numbering → List Reading) → Type 0
Reads r a = IfOk r (λ x. (ns : Numbering) → reads_of ns x ≡ a ns)
