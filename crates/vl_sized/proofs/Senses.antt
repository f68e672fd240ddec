-- What sized expressions mean and read, made of their parts.
use Rattle.std.proofs.Common.{◌≡◌, ℕ, ◌+◌, ◌*◌, Bool, true, false, List, [], ◌∷◌, ◌++◌, map, refl, ap, sym, ◌∙◌, append_assoc, if◌then◌else◌, arith}
use Rattle.std.specs.Prelude.{◌&&◌, max}
use Rattle.bit_ops.specs.Applied as applied
use Rattle.bit_ops.specs.declared.operator.Unary.{Unary}
use Rattle.bit_ops.specs.declared.operator.Binary.{Binary}
use Rattle.bit_ops.specs.declared.operator.Binary.TheVariants as two
use Rattle.vl_value.specs.Things.{width_of}
use Rattle.vl_value.specs.Things as things
use Rattle.vl_value.specs.Meaning as m
use Rattle.vl_value.specs.Meaning.{Meaning, Picked, keeps_context, operands_of}
use Rattle.vl_value.specs.Reads.{Reading}
use Rattle.vl_width.specs.declared.number.Constant.{Constant}
use Rattle.vl_width.specs.declared.shape.Shape.{Shape}
use Rattle.vl_width.specs.declared.size.Size.{Size}
use Rattle.vl_width.specs.Objects.{Numbering, plain_shape}
use Rattle.vl_width.specs.Terms.{shift_at}
use Rattle.vl_sized.specs.declared.node.SizedNode.{SizedNode}
use Rattle.vl_sized.specs.declared.node.Source.{Source}
use Rattle.vl_sized.specs.declared.node.Source.TheVariants as source
use Rattle.vl_sized.specs.declared.node.Index.TheVariants as index
use Rattle.vl_sized.specs.declared.node.Part.{Part}
use Rattle.vl_sized.specs.declared.node.Part.TheVariants as part
use Rattle.vl_sized.specs.declared.node.Test.{Test}
use Rattle.vl_sized.specs.declared.node.Case.{Case}
use Rattle.vl_sized.specs.declared.node.Node.{Node}
use Rattle.vl_sized.specs.declared.node.Node.TheVariants as n
use Rattle.vl_sized.specs.Moments.{Moment, Sense, constant_sense, on_one, on_all, all_mean, all_read}
use Rattle.vl_sized.specs.Nodes as nodes
use Rattle.vl_sized.specs.Nodes.{worth, at_of, reads_of, among, source_value, picks}
use Rattle.vl_sized.specs.Plain.{after_test, meaning_of, sense_of, case_of, vector_of, part_cover, part_width, part_signed, width_together, widest_of, all_signed}
use Rattle.vl_sized.specs.Sensed as s
use Rattle.vl_sized.proofs.NodeViews as view
use Rattle.vl_sized.specs.Parts.{sized_by, part_by, source_by, case_by}

-- width, sign, value in each moment and reads are all that there is
pub same_sense : (ns : Numbering) (sz : Size) (x : Node) (a : Sense) → ((t : Moment) → sz.width ≡ (a.means t).width)
    → ((t : Moment) → sz.signed ≡ (a.means t).signed) → ((t : Moment) → at_of ns t x ≡ (a.means t).at) → reads_of ns x ≡ a.read
    → sense_of ns (record { size = sz; node = x }) ≡ a
same_sense ns sz x a w g v r = λ i. record { means = λ t. record { width = w t i; signed = g t i; at = v t i }; read = r i }

-- ---- numbers, system functions and reductions

pub of_number : (ns : Numbering) (sz : Size) (c : Constant) → sz.width ≡ c.bits.width → sz.signed ≡ c.signed
    → sense_of ns (record { size = sz; node = n.Number c }) ≡ constant_sense (m.operand c.bits.width c.signed c.bits.value)
of_number ns sz c w g = same_sense ns sz (n.Number c) _ (λ t. w) (λ t. g) (λ t. view.at-number ns t c) (view.reads-number ns c)

pub of_cast : (ns : Numbering) (sz : Size) (g : Bool) (x : SizedNode Node) → sz.width ≡ x.size.width → sz.signed ≡ g
    → sense_of ns (record { size = sz; node = n.Cast g x }) ≡ on_one (λ a. m.operand a.width g (m.own a)) (sense_of ns x)
of_cast ns sz g x w h = same_sense ns sz (n.Cast g x) _ (λ t. w) (λ t. h) (λ t. view.at-cast ns t g x) (view.reads-cast ns g x)

pub of_logarithm : (ns : Numbering) (sz : Size) (x : SizedNode Node) → sz.width ≡ 32 → sz.signed ≡ true
    → sense_of ns (record { size = sz; node = n.Logarithm x }) ≡ on_one (λ a. m.operand 32 true (m.logarithm a.width (m.own a))) (sense_of ns x)
of_logarithm ns sz x w h = same_sense ns sz (n.Logarithm x) _ (λ t. w) (λ t. h) (λ t. view.at-logarithm ns t x) (view.reads-logarithm ns x)

unary_by : (x : Bool) (f : Unary) (a : Meaning) (y : Bool) → x ≡ y
    → (if x then record a { at = λ w g. applied.unary f w (a.at w g) } else m.unsigned 1 (applied.unary f a.width (m.own a)))
    ≡ (if y then record a { at = λ w g. applied.unary f w (a.at w g) } else m.unsigned 1 (applied.unary f a.width (m.own a)))
unary_by x f a y e = λ i. if e i then record a { at = λ w g. applied.unary f w (a.at w g) } else m.unsigned 1 (applied.unary f a.width (m.own a))

pub of_reduced : (ns : Numbering) (sz : Size) (f : Unary) (x : SizedNode Node) → sz.width ≡ 1 → sz.signed ≡ false → keeps_context f ≡ false
    → sense_of ns (record { size = sz; node = n.Reduced f x }) ≡ on_one (m.unary_of f) (sense_of ns x)
of_reduced ns sz f x w h k =
    same_sense ns sz (n.Reduced f x) (on_one (λ a. m.unsigned 1 (applied.unary f a.width (m.own a))) (sense_of ns x))
    (λ t. w) (λ t. h) (λ t. view.at-reduced ns t f x) (view.reads-reduced ns f x)
    ∙ (λ i. record { means = λ t. unary_by false f (meaning_of ns t x) (keeps_context f) (sym k) i; read = reads_of ns x.node })

pub of_unary : (ns : Numbering) (sz : Size) (f : Unary) (a : Node) → keeps_context f ≡ true
    → sense_of ns (record { size = sz; node = n.Unary f a }) ≡ on_one (m.unary_of f) (sense_of ns (record { size = sz; node = a }))
of_unary ns sz f a k =
    same_sense ns sz (n.Unary f a) (on_one (λ b. record b { at = λ w g. applied.unary f w (b.at w g) }) (sense_of ns (record { size = sz; node = a })))
    (λ t. refl) (λ t. refl) (λ t. view.at-unary ns t f a) (view.reads-unary ns f a)
    ∙ (λ i. record {
      means = λ t. unary_by true f (meaning_of ns t (record { size = sz; node = a })) (keeps_context f) (sym k) i;
      read = reads_of ns a;
    })

-- ---- two operands

-- of conditions the sign doesn't matter
abbrev NoSign : m.Operands → Binary → Type 0
NoSign m.alike f = Unit {0}
NoSign m.compared f = Unit {0}
NoSign m.shifted f = Unit {0}
NoSign m.judged f = (g : Bool) (w a b : ℕ) → applied.binary f g w a b ≡ applied.binary f false w a b

no_sign : (f : Binary) → NoSign (operands_of f) f
no_sign two.Mul = tt
no_sign two.Div = tt
no_sign two.Rem = tt
no_sign two.Add = tt
no_sign two.Sub = tt
no_sign two.Shl = tt
no_sign two.Shr = tt
no_sign two.Sar = tt
no_sign two.Lt = tt
no_sign two.Le = tt
no_sign two.Gt = tt
no_sign two.Ge = tt
no_sign two.Eq = tt
no_sign two.Ne = tt
no_sign two.And = tt
no_sign two.Xor = tt
no_sign two.Xnor = tt
no_sign two.Or = tt
no_sign two.LogicAnd = λ g w a b. refl
no_sign two.LogicOr = λ g w a b. refl

pub judged_sign : (f : Binary) → operands_of f ≡ m.judged → (g : Bool) (w a b : ℕ) → applied.binary f g w a b ≡ applied.binary f false w a b
judged_sign f e = let h : NoSign (operands_of f) f = no_sign f in subst_sign e h
  where
    subst_sign : {o : m.Operands} → o ≡ m.judged → NoSign o f → NoSign m.judged f
    subst_sign e h = rw e at h

-- what shifts, shifts
abbrev Shifts : m.Operands → Binary → Type 0
Shifts m.alike f = Unit {0}
Shifts m.compared f = Unit {0}
Shifts m.shifted f = (g : Bool) (w a k : ℕ) → shift_at f g w a k ≡ applied.binary f g w a k
Shifts m.judged f = Unit {0}

shifts : (f : Binary) → Shifts (operands_of f) f
shifts two.Mul = tt
shifts two.Div = tt
shifts two.Rem = tt
shifts two.Add = tt
shifts two.Sub = tt
shifts two.Shl = λ g w a k. refl
shifts two.Shr = λ g w a k. refl
shifts two.Sar = λ g w a k. refl
shifts two.Lt = tt
shifts two.Le = tt
shifts two.Gt = tt
shifts two.Ge = tt
shifts two.Eq = tt
shifts two.Ne = tt
shifts two.And = tt
shifts two.Xor = tt
shifts two.Xnor = tt
shifts two.Or = tt
shifts two.LogicAnd = tt
shifts two.LogicOr = tt

pub shift_is : (f : Binary) → operands_of f ≡ m.shifted → (g : Bool) (w a k : ℕ) → shift_at f g w a k ≡ applied.binary f g w a k
shift_is f e = as_shift e (shifts f)
  where
    as_shift : {o : m.Operands} → o ≡ m.shifted → Shifts o f → Shifts m.shifted f
    as_shift e h = rw e at h

abbrev pub test_of : Binary → Size → Size → Node → Test Node
test_of f left right b = record { operator = f; left = left; right = record { size = right; node = b } }

-- a comparison, whose operands have one size
pub compared_at : (ns : Numbering) (t : Moment) (f : Binary) (a b : Node) (left right : Size) (w : ℕ) (g : Bool) → operands_of f ≡ m.compared
    → left.width ≡ w → left.signed ≡ g → after_test ns t (at_of ns t a) (test_of f left right b)
    ≡ (m.unsigned 1 (applied.binary f g w (at_of ns t a w g) (at_of ns t b w g))).at
compared_at ns t f a b left right w g e p q =
    ap (λ k. (m.unsigned 1 (applied.binary f left.signed left.width (at_of ns t a left.width left.signed)
    (if nodes.takes_own k then at_of ns t b right.width right.signed else at_of ns t b left.width left.signed))).at) e
    ∙ (λ i. (m.unsigned 1 (applied.binary f (q i) (p i) (at_of ns t a (p i) (q i)) (at_of ns t b (p i) (q i)))).at)

-- conditions, each of its own size
pub judged_at : (ns : Numbering) (t : Moment) (f : Binary) (a : Node) (left : Size) (b : SizedNode Node) → operands_of f ≡ m.judged
    → after_test ns t (at_of ns t a) (test_of f left b.size b.node)
    ≡ (m.unsigned 1 (applied.binary f false left.width (at_of ns t a left.width left.signed) (m.own (meaning_of ns t b)))).at
judged_at ns t f a left b e =
    ap (λ k. (m.unsigned 1 (applied.binary f left.signed left.width (at_of ns t a left.width left.signed)
    (if nodes.takes_own k then m.own (meaning_of ns t b) else at_of ns t b.node left.width left.signed))).at) e
    ∙ ap (λ k. (m.unsigned 1 k).at) (judged_sign f e left.signed left.width (at_of ns t a left.width left.signed) (m.own (meaning_of ns t b)))

-- ---- names with selects

cover_value : (ns : Numbering) (t : Moment) (p : Part Node) → picks (part_by (at_of ns t) p) ≡ (part_cover ns p).picks t
cover_value ns t part.Whole = refl
cover_value ns t (part.Upward (index.Fixed c) k) = refl
cover_value ns t (part.Upward (index.Varying x) k) = refl
cover_value ns t (part.Downward (index.Fixed c) k) = refl
cover_value ns t (part.Downward (index.Varying x) k) = refl

cover_same : (ns : Numbering) (p : Part Node) → nodes.is_fixed (part_by (reads_of ns) p) ≡ (part_cover ns p).same
cover_same ns part.Whole = refl
cover_same ns (part.Upward (index.Fixed c) k) = refl
cover_same ns (part.Upward (index.Varying x) k) = refl
cover_same ns (part.Downward (index.Fixed c) k) = refl
cover_same ns (part.Downward (index.Varying x) k) = refl

cover_always : (ns : Numbering) (p : Part Node) → nodes.fixed_picks (part_by (reads_of ns) p) ≡ (part_cover ns p).always
cover_always ns part.Whole = refl
cover_always ns (part.Upward (index.Fixed c) k) = refl
cover_always ns (part.Upward (index.Varying x) k) = refl
cover_always ns (part.Downward (index.Fixed c) k) = refl
cover_always ns (part.Downward (index.Varying x) k) = refl

cover_read : (ns : Numbering) (p : Part Node) → nodes.part_reads (part_by (reads_of ns) p) ≡ (part_cover ns p).read
cover_read ns part.Whole = refl
cover_read ns (part.Upward (index.Fixed c) k) = refl
cover_read ns (part.Upward (index.Varying x) k) = refl
cover_read ns (part.Downward (index.Fixed c) k) = refl
cover_read ns (part.Downward (index.Varying x) k) = refl

vector_shape : (ns : Numbering) (sh : Shape) (x : Source Node) → plain_shape sh ≡ (vector_of ns sh x).shape
vector_shape ns sh (source.Signal k) = refl
vector_shape ns sh (source.Local k) = refl
vector_shape ns sh (source.Function k) = refl
vector_shape ns sh (source.Word k first last i) = refl

vector_value : (ns : Numbering) (t : Moment) (sh : Shape) (x : Source Node)
    → source_value ns t (source_by (at_of ns t) x) ≡ (vector_of ns sh x).value t
vector_value ns t sh (source.Signal k) = refl
vector_value ns t sh (source.Local k) = refl
vector_value ns t sh (source.Function k) = refl
vector_value ns t sh (source.Word k first last (index.Fixed c)) = refl
vector_value ns t sh (source.Word k first last (index.Varying x)) = refl

vector_read : (ns : Numbering) (sh : Shape) (x : Source Node) (p : Part Node)
    → nodes.source_reads ns (plain_shape sh) (source_by (reads_of ns) x) (part_by (reads_of ns) p) ≡ (vector_of ns sh x).read (part_cover ns p)
vector_read ns sh (source.Signal k) p = λ i. nodes.bits_by (plain_shape sh) (ns.signals k) (cover_same ns p i) (cover_always ns p i) ++ cover_read ns p i
vector_read ns sh (source.Local k) p = λ i. nodes.bits_by (plain_shape sh) (ns.locals k) (cover_same ns p i) (cover_always ns p i) ++ cover_read ns p i
vector_read ns sh (source.Function k) p = λ i. nodes.bits_by (plain_shape sh) (ns.functions k) (cover_same ns p i) (cover_always ns p i) ++ cover_read ns p i
vector_read ns sh (source.Word k first last (index.Fixed c)) p = λ i. nodes.memory_read ns k [] (cover_read ns p i)
vector_read ns sh (source.Word k first last (index.Varying x)) p = λ i. nodes.memory_read ns k (reads_of ns x.node) (cover_read ns p i)

part_size : (ns : Numbering) (t : Moment) (sh : Shape) (p : Part Node) (v : ℕ)
    → part_width sh p ≡ (m.selected (plain_shape sh) v ((part_cover ns p).picks t)).width
part_size ns t sh part.Whole v = refl
part_size ns t sh (part.Upward i k) v = refl
part_size ns t sh (part.Downward i k) v = refl

part_sign : (ns : Numbering) (t : Moment) (sh : Shape) (p : Part Node) (v : ℕ)
    → part_signed sh p ≡ (m.selected (plain_shape sh) v ((part_cover ns p).picks t)).signed
part_sign ns t sh part.Whole v = refl
part_sign ns t sh (part.Upward i k) v = refl
part_sign ns t sh (part.Downward i k) v = refl

abbrev selected_by : things.Shape → ℕ → List Picked → Meaning
selected_by sh v ks = m.selected sh v ks

pub of_read : (ns : Numbering) (sz : Size) (sh : Shape) (x : Source Node) (p : Part Node) → sz.width ≡ part_width sh p → sz.signed ≡ part_signed sh p
    → sense_of ns (record { size = sz; node = n.Read sh x p }) ≡ s.covered (vector_of ns sh x) (part_cover ns p)
of_read ns sz sh x p w g =
    let v : Moment → ℕ = (vector_of ns sh x).value in
    same_sense ns sz (n.Read sh x p) (record { means = λ t. m.selected (plain_shape sh) (v t) ((part_cover ns p).picks t); read = (vector_of ns sh x).read (part_cover ns p) })
    (λ t. w ∙ part_size ns t sh p (v t)) (λ t. g ∙ part_sign ns t sh p (v t))
    (λ t. view.at-read ns t sh x p ∙ (λ i. (selected_by (plain_shape sh) (vector_value ns t sh x i) (cover_value ns t p i)).at))
    (view.reads-read ns sh x p ∙ vector_read ns sh x p)
    ∙ (λ i. record { means = λ t. m.selected (vector_shape ns sh x i) (v t) ((part_cover ns p).picks t); read = (vector_of ns sh x).read (part_cover ns p) })

-- ---- lists of nodes

own_map : (ns : Numbering) (t : Moment) (xs : List (SizedNode Node))
    → map worth (map (sized_by (at_of ns t)) xs) ≡ all_mean (map (sense_of ns) xs) t
own_map ns t [] = refl
own_map ns t (x ∷ xs) = ap (λ (l : List Meaning). meaning_of ns t x ∷ l) (own_map ns t xs)

read_map : (ns : Numbering) (xs : List (SizedNode Node)) → nodes.nodes_read (map (sized_by (reads_of ns)) xs) ≡ all_read (map (sense_of ns) xs)
read_map ns [] = refl
read_map ns (x ∷ xs) = ap (λ (l : List Reading). reads_of ns x.node ++ l) (read_map ns xs)

pub together_is : (ns : Numbering) (t : Moment) (xs : List (SizedNode Node)) → width_together xs ≡ m.widths (all_mean (map (sense_of ns) xs) t)
together_is ns t [] = refl
together_is ns t (x ∷ xs) = ap (λ k. x.size.width + k) (together_is ns t xs)

pub of_braces : (ns : Numbering) (sz : Size) (xs : List (SizedNode Node)) → sz.width ≡ width_together xs → sz.signed ≡ false
    → sense_of ns (record { size = sz; node = n.Concat xs }) ≡ on_all m.braces (map (sense_of ns) xs)
of_braces ns sz xs w g =
    same_sense ns sz (n.Concat xs) (on_all m.braces (map (sense_of ns) xs)) (λ t. w ∙ together_is ns t xs) (λ t. g)
    (λ t. view.at-concat ns t xs ∙ ap (λ (l : List Meaning). (m.braces l).at) (own_map ns t xs)) (view.reads-concat ns xs ∙ read_map ns xs)

pub of_copies : (ns : Numbering) (sz : Size) (k : ℕ) (xs : List (SizedNode Node)) → sz.width ≡ k * width_together xs → sz.signed ≡ false
    → sense_of ns (record { size = sz; node = n.Copies k xs }) ≡ on_all (λ ms. m.copies k (m.braces ms)) (map (sense_of ns) xs)
of_copies ns sz k xs w g =
    same_sense ns sz (n.Copies k xs) (on_all (λ ms. m.copies k (m.braces ms)) (map (sense_of ns) xs))
    (λ t. w ∙ ap (λ j. k * j) (together_is ns t xs)) (λ t. g)
    (λ t. view.at-copies ns t k xs ∙ ap (λ (l : List Meaning). (m.copies k (m.braces l)).at) (own_map ns t xs))
    (view.reads-copies ns k xs ∙ read_map ns xs)

-- ---- choices

among_is : (ns : Numbering) (t : Moment) (ks : List (Case Node)) (last : SizedNode Node)
    → among (map (case_by (at_of ns t)) ks) (at_of ns t last.node) ≡ ((s.chosen_among (map (case_of ns) ks) (sense_of ns last)).means t).at
among_is ns t [] last = refl
among_is ns t (k ∷ ks) last =
    λ i w g. if m.true_of (meaning_of ns t k.condition) then at_of ns t k.value.node w g else among_is ns t ks last i w g

widest_first : (ks : List (Case Node)) (a w : ℕ) → widest_of ks (max a w) ≡ max a (widest_of ks w)
widest_first [] a w = refl
widest_first (k ∷ ks) a w =
    let b : ℕ = k.value.size.width in
    let turned : max b (max a w) ≡ max a (max b w) = omega arith in
    ap (widest_of ks) turned ∙ widest_first ks a (max b w)

widest_is : (ns : Numbering) (t : Moment) (ks : List (Case Node)) (last : SizedNode Node)
    → widest_of ks last.size.width ≡ ((s.chosen_among (map (case_of ns) ks) (sense_of ns last)).means t).width
widest_is ns t [] last = refl
widest_is ns t (k ∷ ks) last =
    widest_first ks k.value.size.width last.size.width ∙ ap (max k.value.size.width) (widest_is ns t ks last)

and_turned : (a b d : Bool) → (b && (a && d)) ≡ (a && (b && d))
and_turned true true d = refl
and_turned true false d = refl
and_turned false true d = refl
and_turned false false d = refl

signed_first : (ks : List (Case Node)) (a g : Bool) → all_signed ks (a && g) ≡ (a && all_signed ks g)
signed_first [] a g = refl
signed_first (k ∷ ks) a g =
    ap (all_signed ks) (and_turned a k.value.size.signed g) ∙ signed_first ks a (k.value.size.signed && g)

signed_is : (ns : Numbering) (t : Moment) (ks : List (Case Node)) (last : SizedNode Node)
    → all_signed ks last.size.signed ≡ ((s.chosen_among (map (case_of ns) ks) (sense_of ns last)).means t).signed
signed_is ns t [] last = refl
signed_is ns t (k ∷ ks) last =
    signed_first ks k.value.size.signed last.size.signed ∙ ap (λ b. k.value.size.signed && b) (signed_is ns t ks last)

cases_is : (ns : Numbering) (ks : List (Case Node)) (last : SizedNode Node)
    → nodes.cases_read (map (case_by (reads_of ns)) ks) ++ reads_of ns last.node ≡ (s.chosen_among (map (case_of ns) ks) (sense_of ns last)).read
cases_is ns [] last = refl
cases_is ns (k ∷ ks) last =
    let c = reads_of ns k.condition.node in let v = reads_of ns k.value.node in
    let rest = nodes.cases_read (map (case_by (reads_of ns)) ks) in let b = reads_of ns last.node in
    append_assoc c (v ++ rest) b ∙ ap (λ (l : List Reading). c ++ l) (append_assoc v rest b ∙ ap (λ (l : List Reading). v ++ l) (cases_is ns ks last))

pub of_choose : (ns : Numbering) (sz : Size) (ks : List (Case Node)) (last : SizedNode Node) → sz.width ≡ widest_of ks last.size.width
    → sz.signed ≡ all_signed ks last.size.signed
    → sense_of ns (record { size = sz; node = n.Choose ks last.node }) ≡ s.chosen_among (map (case_of ns) ks) (sense_of ns last)
of_choose ns sz ks last w g =
    same_sense ns sz (n.Choose ks last.node) (s.chosen_among (map (case_of ns) ks) (sense_of ns last)) (λ t. w ∙ widest_is ns t ks last)
    (λ t. g ∙ signed_is ns t ks last) (λ t. view.at-choose ns t ks last.node ∙ among_is ns t ks last)
    (view.reads-choose ns ks last.node ∙ cases_is ns ks last)

-- ---- calls

pub of_call : (ns : Numbering) (sz : Size) (k : ℕ) (sh : Shape) (xs : List (SizedNode Node)) (shs : List Shape) → map plain_shape shs ≡ ns.inputs k
    → sz.width ≡ width_of (plain_shape sh) → sz.signed ≡ sh.signed
    → sense_of ns (record { size = sz; node = n.Call k sh xs shs }) ≡ record {
      means = λ t. m.operand (width_of (plain_shape sh)) sh.signed (t.calls (ns.functions k) (m.arguments (ns.inputs k) (all_mean (map (sense_of ns) xs) t)));
      read = all_read (map (sense_of ns) xs);
    }
of_call ns sz k sh xs shs e w g =
    same_sense ns sz (n.Call k sh xs shs) _ (λ t. w) (λ t. g)
    (λ t. view.at-call ns t k sh xs shs
    ∙ (λ i. (m.operand (width_of (plain_shape sh)) sh.signed (t.calls (ns.functions k) (m.arguments (e i) (own_map ns t xs i)))).at))
    (view.reads-call ns k sh xs shs ∙ read_map ns xs)
