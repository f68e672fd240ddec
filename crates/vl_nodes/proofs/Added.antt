-- Each operation's node is worth what the operation makes of its operands.
use Rattle.std.proofs.Common.{◌≡◌, ℕ, zero, suc, ◌+◌, ◌≤◌, ◌<◌, ◌^◌, ◌||◌, Bool, true, false, List, [], ◌∷◌, ◌++◌, length, map, refl, sym, ap, ◌∙◌, subst, arith, lit≤}
use Rattle.std.specs.Prelude.{Result, IfOk, OnOk, slice_get, slice_index, slice_index_or, IsSomeAnd, Option, Some, None, ℤ, pos, negsuc, ◌-ℤ◌}
use Rattle.std.specs.Option.{option_map, unwrap_or}
use Rattle.std.proofs.lemmas.Nat.{pow_pos}
use Rattle.dt_core.specs.declared.limits.TheConstants.{MAX_WIDTH}
use Rattle.bit_ops.specs.Operators as ops
use Rattle.bit_ops.specs.Applied as applied
use Rattle.bit_ops.specs.declared.operator.Unary.{Unary}
use Rattle.bit_ops.specs.declared.operator.Unary.TheVariants as one
use Rattle.bit_ops.specs.declared.operator.Binary.{Binary}
use Rattle.bit_ops.specs.declared.operator.Binary.TheVariants as two
use Rattle.operator_laws.proofs.Fits.{low_fits, extend_fits, either, unary_fits, binary_fits, select_fits, insert_fits, concat_fits}
use Rattle.netlist.specs.Design.{Flat}
use Rattle.netlist.specs.Plain.{PlainMemory}
use Rattle.netlist.specs.Fits.{HasNode, IsWidth, LiesWithin, HasWords}
use Rattle.netlist.specs.Graph.{nodes_read, node_reads}
use Rattle.netlist.specs.Values.{Values, node_value, node_values, width_at, word_at, least_index}
use Rattle.netlist.specs.declared.design.Signal.{Signal}
use Rattle.netlist.specs.declared.design.Range.{Range}
use Rattle.netlist.specs.declared.node.Node.{Node}
use Rattle.netlist.specs.declared.node.Operation.{Operation}
use Rattle.netlist.specs.declared.node.Operation.TheVariants as o
use Rattle.vl_nodes.specs.declared.made.Made.{Made}
use Rattle.vl_nodes.specs.Sense.{Sense, Ground, Shape, number, bits, word, word_of, least_at, on_one, on_two, on_three, chosen, selected, inserted, kept}
use Rattle.vl_nodes.specs.Nodes.{ValuesFit, AreOn, Is, HasRange, HasMemory, shape_of}
use Rattle.vl_nodes.specs.Calls.{MakesAt, IsNumber, IsBits, IsWord, IsOfOne, IsOfTwo, IsOfThree}
use Rattle.vl_nodes.proofs.Making.{Fits, added, has_node, width_is, or_none}

-- what `add` answers
abbrev pub IsAdded : {E : Type 0} → List Node → ℕ → Result Made E → Type 0
IsAdded nodes w r = IfOk r (λ m. m ≡ record { node = length nodes; width = w })

abbrev pub Holds : {E : Type 0} → List Node → List Node → ℕ → Operation → Result Made E → Type 0
Holds nodes new w x r = OnOk r (new ≡ nodes ++ record { width = w; operation = x } ∷ [])

-- ---- the ground

-- what holds of a mapped element holds of what it is made of
some_mapped : {X Y : Type 0} (h : X → Y) (P : Y → Type 0) (xs : List X) (k : ℕ) → IsSomeAnd (slice_get (map h xs) k) P
    → IsSomeAnd (slice_get xs k) (λ x. P (h x))
some_mapped h P [] k i = absurd i
some_mapped h P (x ∷ xs) zero i = i
some_mapped h P (x ∷ xs) (suc k) i = some_mapped h P xs k i

lies_within : (g : Ground) (ss : List Signal) (ms : List PlainMemory) (r : Range) → AreOn g ss ms → HasRange g r → LiesWithin ss r
lies_within g ss ms r on has =
    some_mapped (λ (s : Signal). s.width) (λ w. r.low + r.width ≤ w) ss r.signal
    (subst (λ ws. IsSomeAnd (slice_get ws r.signal) (λ w. r.low + r.width ≤ w)) (sym on.signals) has)

has_words : (g : Ground) (ss : List Signal) (ms : List PlainMemory) (k w : ℕ) → AreOn g ss ms → HasMemory g k w → HasWords ms k w
has_words g ss ms k w on has =
    some_mapped shape_of (λ (m : Shape). m.width ≡ w) ms k
    (subst (λ ws. IsSomeAnd (slice_get ws k) (λ (m : Shape). m.width ≡ w)) (sym on.memories) has)

least_mapped : (ms : List PlainMemory) (k : ℕ) → unwrap_or (option_map least_index (slice_get ms k)) 0 ≡ least_at (map shape_of ms) k
least_mapped [] k = refl
least_mapped (m ∷ ms) zero = refl
least_mapped (m ∷ ms) (suc k) = least_mapped ms k

least_is : (g : Ground) (ss : List Signal) (ms : List PlainMemory) (k : ℕ) → AreOn g ss ms
    → unwrap_or (option_map least_index (slice_get ms k)) 0 ≡ least_at g.memories k
least_is g ss ms k on = least_mapped ms k ∙ ap (λ ws. least_at ws k) on.memories

-- ---- no operand

pub number_made : {E : Type 0} (nodes new : List Node) (w n : ℕ) (r : Result Made E) → IsWidth w → n < 2 ^ w
    → IsAdded nodes w r → Holds nodes new w (o.Constant n) r → IsNumber nodes new w n r
number_made nodes new w n r wide below is e g =
    added g nodes new (record { width = w; operation = o.Constant n }) (number n) r is e wide
    (λ ss ms on. (wide, below)) (λ v fit. below) (λ f v s fit. refl) (λ f q s some. refl)

pub bits_made : {E : Type 0} (nodes new : List Node) (range : Range) (r : Result Made E) → IsWidth range.width
    → IsAdded nodes range.width r → Holds nodes new range.width (o.Bits range) r → IsBits nodes new range r
bits_made nodes new range r wide is e g has =
    added g nodes new (record { width = range.width; operation = o.Bits range }) (bits range) r is e wide
    (λ ss ms on. (wide, (refl, lies_within g ss ms range on has)))
    (λ v fit. select_fits (pos range.low) range.width (slice_index v.signals range.signal)) (λ f v s fit. refl) (λ f q s some. or_none _)

-- ---- one operand

-- an operation on one node, whose value is a function of that node's width and value
made_of_one : {E : Type 0} (g : Ground) (nodes new : List Node) (a : Made) (w : ℕ) (op : Operation) (h : ℕ → ℕ → ℕ) (x : Sense)
    (r : Result Made E) → IsWidth w → Is g nodes a x → IsAdded nodes w r → Holds nodes new w op r
    → Fits g nodes (record { width = w; operation = op }) → ((n : ℕ) → n < 2 ^ a.width → h a.width n < 2 ^ w)
    → ((f : Flat) (v : Values) → node_value f v (node_values f v) (record { width = w; operation = op })
    ≡ h (width_at f.nodes a.node) (slice_index (node_values f v) a.node))
    → ((f : Flat) (q : Range) → node_reads q (nodes_read q [] f.nodes) (record { width = w; operation = op })
    ≡ slice_index_or (nodes_read q [] f.nodes) a.node false || false)
    → IfOk r (MakesAt g nodes new w (on_one (h a.width) x))
made_of_one g nodes new a w op h x r wide i is e fits small worth read =
    added g nodes new (record { width = w; operation = op }) (on_one (h a.width) x) r is e wide fits
    (λ v fit. small (x.value v) (i.fits v fit))
    (λ f v s fit. worth f v ∙ ap (λ k. h k (slice_index (node_values f v) a.node)) (width_is g nodes a x f i s)
    ∙ ap (h a.width) (i.value f v s fit))
    (λ f q s some. read f q ∙ or_none _ ∙ i.reads f q s some)

one_wide : IsWidth 1
one_wide = (lit≤ tt, lit≤ tt)

unary_wide : (operator : Unary) (w : ℕ) → IsWidth w → IsWidth (applied.unary_width operator w)
unary_wide one.Plus w h = h
unary_wide one.Minus w h = h
unary_wide one.Not w h = h
unary_wide one.LogicNot w h = one_wide
unary_wide one.And w h = one_wide
unary_wide one.Nand w h = one_wide
unary_wide one.Or w h = one_wide
unary_wide one.Nor w h = one_wide
unary_wide one.Xor w h = one_wide
unary_wide one.Xnor w h = one_wide

pub unary_made : {E : Type 0} (nodes new : List Node) (operator : Unary) (a : Made) (w : ℕ) (r : Result Made E)
    → w ≡ applied.unary_width operator a.width → IsAdded nodes w r → Holds nodes new w (o.Unary operator a.node) r
    → IsOfOne nodes new a (applied.unary_width operator a.width) (applied.unary operator a.width) r
unary_made nodes new operator a w r same is e g x i =
    let wide : IsWidth w = subst IsWidth (sym same) (unary_wide operator a.width i.is_width) in
    subst (λ k. IfOk r (MakesAt g nodes new k (on_one (applied.unary operator a.width) x))) same
    (made_of_one g nodes new a w (o.Unary operator a.node) (applied.unary operator) x r wide i is e
    (λ ss ms on. (wide, has_node g nodes a x (λ v. w ≡ applied.unary_width operator v) i same))
    (λ n l. subst (λ k. applied.unary operator a.width n < 2 ^ k) (sym same) (unary_fits operator a.width n l)) (λ f v. refl) (λ f q. refl))

pub extended_made : {E : Type 0} (nodes new : List Node) (a : Made) (signed : Bool) (w : ℕ) (r : Result Made E)
    → a.width ≤ w → w ≤ MAX_WIDTH → IsAdded nodes w r → Holds nodes new w (o.Extend signed a.node) r
    → IsOfOne nodes new a w (ops.extend signed a.width w) r
extended_made nodes new a signed w r less most is e g x i =
    let wide : IsWidth w = (omega (arith, less, i.is_width.0), most) in
    made_of_one g nodes new a w (o.Extend signed a.node) (λ u. ops.extend signed u w) x r wide i is e
    (λ ss ms on. (wide, has_node g nodes a x (λ v. v ≤ w) i less)) (λ n l. extend_fits signed a.width w n) (λ f v. refl) (λ f q. refl)

pub cut_made : {E : Type 0} (nodes new : List Node) (a : Made) (w : ℕ) (r : Result Made E) → 1 ≤ w → w ≤ a.width
    → IsAdded nodes w r → Holds nodes new w (o.Cut a.node) r → IsOfOne nodes new a w (ops.low w) r
cut_made nodes new a w r some less is e g x i =
    let wide : IsWidth w = (some, omega (arith, less, i.is_width.1)) in
    made_of_one g nodes new a w (o.Cut a.node) (λ u. ops.low w) x r wide i is e
    (λ ss ms on. (wide, has_node g nodes a x (λ v. w ≤ v) i less)) (λ n l. low_fits w n) (λ f v. refl) (λ f q. refl)

-- the word at an index, where the least one is n
abbrev word_from : Values → ℕ → ℕ → ℤ → ℕ
word_from v memory n i = word_at (slice_index_or v.memories memory []) (i -ℤ pos n)

-- the words of a memory that the ground has
word_in : (words : List ℕ) (w : ℕ) (z : ℤ) → ((k : ℕ) → slice_index words k < 2 ^ w) → word_at words z < 2 ^ w
word_in words w (pos k) h = h k
word_in words w (negsuc k) h = pow_pos w

memory_in : (o : Option Shape) (w : ℕ) → IsSomeAnd o (λ m. m.width ≡ w) → (m : Shape) × (o ≡ Some m) × (m.width ≡ w)
memory_in None w h = absurd h
memory_in (Some m) w h = (m, refl, h)

word_fits : (g : Ground) (memory w : ℕ) (z : ℤ) (v : Values) → HasMemory g memory w → ValuesFit g v → word g memory z v < 2 ^ w
word_fits g memory w z v has fit =
    let m = memory_in (slice_get g.memories memory) w has in
    word_in (slice_index_or v.memories memory []) w (z -ℤ pos (least_at g.memories memory))
    (λ k. subst (λ u. slice_index (slice_index_or v.memories memory []) k < 2 ^ u) m.2 ((fit.words memory m.0 m.1).each k))

pub word_made : {E : Type 0} (nodes new : List Node) (memory w : ℕ) (a : Made) (signed : Bool) (r : Result Made E) → IsWidth w
    → IsAdded nodes w r → Holds nodes new w (o.Word memory (record { node = a.node; signed = signed })) r
    → IsWord nodes new memory w a signed r
word_made nodes new memory w a signed r wide is e g x has i =
    added g nodes new (record { width = w; operation = o.Word memory (record { node = a.node; signed = signed }) })
    (word_of g memory signed a.width x) r is e wide
    (λ ss ms on. (wide, (has_words g ss ms memory w on has, has_node g nodes a x (λ v. Unit {0}) i tt)))
    (λ v fit. word_fits g memory w (ops.integer signed a.width (x.value v)) v has fit)
    (λ f v s fit. ap (λ k. word_from v memory k (ops.integer signed (width_at f.nodes a.node) (slice_index (node_values f v) a.node)))
    (least_is g f.signals f.memories memory s.ground)
    ∙ ap (λ k. word g memory (ops.integer signed k (slice_index (node_values f v) a.node)) v) (width_is g nodes a x f i s)
    ∙ ap (λ k. word g memory (ops.integer signed a.width k) v) (i.value f v s fit))
    (λ f q s some. or_none _ ∙ i.reads f q s some)

-- ---- two operands

made_of_two : {E : Type 0} (g : Ground) (nodes new : List Node) (a b : Made) (w : ℕ) (op : Operation) (h : ℕ → ℕ → ℕ → ℕ → ℕ)
    (x y : Sense) (r : Result Made E) → IsWidth w → Is g nodes a x → Is g nodes b y → IsAdded nodes w r → Holds nodes new w op r
    → Fits g nodes (record { width = w; operation = op })
    → ((m n : ℕ) → m < 2 ^ a.width → n < 2 ^ b.width → h a.width b.width m n < 2 ^ w)
    → ((f : Flat) (v : Values) → node_value f v (node_values f v) (record { width = w; operation = op })
    ≡ h (width_at f.nodes a.node) (width_at f.nodes b.node) (slice_index (node_values f v) a.node)
    (slice_index (node_values f v) b.node))
    → ((f : Flat) (q : Range) → node_reads q (nodes_read q [] f.nodes) (record { width = w; operation = op })
    ≡ slice_index_or (nodes_read q [] f.nodes) a.node false || (slice_index_or (nodes_read q [] f.nodes) b.node false || false))
    → IfOk r (MakesAt g nodes new w (on_two (h a.width b.width) x y))
made_of_two g nodes new a b w op h x y r wide i j is e fits small worth read =
    added g nodes new (record { width = w; operation = op }) (on_two (h a.width b.width) x y) r is e wide fits
    (λ v fit. small (x.value v) (y.value v) (i.fits v fit) (j.fits v fit))
    (λ f v s fit. worth f v
    ∙ ap (λ k. h k (width_at f.nodes b.node) (slice_index (node_values f v) a.node) (slice_index (node_values f v) b.node))
    (width_is g nodes a x f i s)
    ∙ ap (λ k. h a.width k (slice_index (node_values f v) a.node) (slice_index (node_values f v) b.node))
    (width_is g nodes b y f j s)
    ∙ ap (λ k. h a.width b.width k (slice_index (node_values f v) b.node)) (i.value f v s fit)
    ∙ ap (h a.width b.width (x.value v)) (j.value f v s fit))
    (λ f q s some. read f q ∙ ap (λ k. slice_index_or (nodes_read q [] f.nodes) a.node false || k) (or_none _)
    ∙ ap (λ k. k || slice_index_or (nodes_read q [] f.nodes) b.node false) (i.reads f q s some)
    ∙ ap (λ k. x.reads q || k) (j.reads f q s some))

binary_wide : (operator : Binary) (w : ℕ) → IsWidth w → IsWidth (applied.binary_width operator w)
binary_wide two.Mul w h = h
binary_wide two.Div w h = h
binary_wide two.Rem w h = h
binary_wide two.Add w h = h
binary_wide two.Sub w h = h
binary_wide two.Shl w h = h
binary_wide two.Shr w h = h
binary_wide two.Sar w h = h
binary_wide two.Lt w h = one_wide
binary_wide two.Le w h = one_wide
binary_wide two.Gt w h = one_wide
binary_wide two.Ge w h = one_wide
binary_wide two.Eq w h = one_wide
binary_wide two.Ne w h = one_wide
binary_wide two.And w h = h
binary_wide two.Xor w h = h
binary_wide two.Xnor w h = h
binary_wide two.Or w h = h
binary_wide two.LogicAnd w h = one_wide
binary_wide two.LogicOr w h = one_wide

pub binary_made : {E : Type 0} (nodes new : List Node) (operator : Binary) (signed : Bool) (a b : Made) (w : ℕ) (r : Result Made E)
    → w ≡ applied.binary_width operator a.width → (applied.takes_one_width operator ≡ true → a.width ≡ b.width)
    → IsAdded nodes w r → Holds nodes new w (o.Binary operator signed a.node b.node) r
    → IsOfTwo nodes new a b (applied.binary_width operator a.width) (applied.binary operator signed a.width) r
binary_made nodes new operator signed a b w r same alike is e g x y i j =
    let wide : IsWidth w = subst IsWidth (sym same) (binary_wide operator a.width i.is_width) in
    subst (λ k. IfOk r (MakesAt g nodes new k (on_two (applied.binary operator signed a.width) x y))) same
    (made_of_two g nodes new a b w (o.Binary operator signed a.node b.node) (λ u z. applied.binary operator signed u) x y r wide i j is e
    (λ ss ms on. (
      wide,
      has_node g nodes a x
          (λ v. (w ≡ applied.binary_width operator v) × HasNode nodes b.node (λ u. applied.takes_one_width operator ≡ true → v ≡ u)) i
          (same, has_node g nodes b y (λ u. applied.takes_one_width operator ≡ true → a.width ≡ u) j alike),
    ))
    (λ m n l k. subst (λ u. applied.binary operator signed a.width m n < 2 ^ u) (sym same)
    (binary_fits operator signed a.width m n l (λ t. subst (λ u. n < 2 ^ u) (sym (alike t)) k))) (λ f v. refl) (λ f q. refl))

pub select_made : {E : Type 0} (nodes new : List Node) (a b : Made) (signed : Bool) (w : ℕ) (r : Result Made E) → IsWidth w
    → IsAdded nodes w r → Holds nodes new w (o.Select a.node (record { node = b.node; signed = signed })) r
    → IsOfTwo nodes new a b w (selected signed b.width w) r
select_made nodes new a b signed w r wide is e g x y i j =
    made_of_two g nodes new a b w (o.Select a.node (record { node = b.node; signed = signed }))
    (λ u z. selected signed z w) x y r wide i j is e
    (λ ss ms on. (wide, (has_node g nodes a x (λ v. Unit {0}) i tt, has_node g nodes b y (λ v. Unit {0}) j tt)))
    (λ m n l k. select_fits (ops.integer signed b.width n) w m) (λ f v. refl) (λ f q. refl)

pub concat_made : {E : Type 0} (nodes new : List Node) (a b : Made) (r : Result Made E) → a.width + b.width ≤ MAX_WIDTH
    → IsAdded nodes (a.width + b.width) r → Holds nodes new (a.width + b.width) (o.Concat a.node b.node) r
    → IsOfTwo nodes new a b (a.width + b.width) (ops.concat b.width) r
concat_made nodes new a b r most is e g x y i j =
    let w : ℕ = a.width + b.width in
    let wide : IsWidth w = (omega (arith, i.is_width.0), most) in
    made_of_two g nodes new a b w (o.Concat a.node b.node) (λ u z. ops.concat z) x y r wide i j is e
    (λ ss ms on. (
      wide,
      has_node g nodes a x (λ v. HasNode nodes b.node (λ u. v + u ≡ w)) i
          (has_node g nodes b y (λ u. a.width + u ≡ w) j refl),
    ))
    (λ m n l k. concat_fits a.width b.width m n l k) (λ f v. refl) (λ f q. refl)

pub keep_made : {E : Type 0} (nodes new : List Node) (a b : Made) (r : Result Made E)
    → IsAdded nodes a.width r → Holds nodes new a.width (o.Keep a.node b.node) r
    → IsOfTwo nodes new a b a.width kept r
keep_made nodes new a b r is e g x y i j =
    made_of_two g nodes new a b a.width (o.Keep a.node b.node) (λ u z. kept) x y r i.is_width i j is e
    (λ ss ms on. (
      i.is_width,
      (has_node g nodes a x (λ v. v ≡ a.width) i refl, has_node g nodes b y (λ v. Unit {0}) j tt),
    ))
    (λ m n l k. l) (λ f v. refl) (λ f q. refl)

-- ---- three operands

made_of_three : {E : Type 0} (g : Ground) (nodes new : List Node) (a b c : Made) (w : ℕ) (op : Operation)
    (h : ℕ → ℕ → ℕ → ℕ → ℕ → ℕ) (x y z : Sense) (r : Result Made E) → IsWidth w → Is g nodes a x → Is g nodes b y → Is g nodes c z
    → IsAdded nodes w r → Holds nodes new w op r → Fits g nodes (record { width = w; operation = op })
    → ((l m n : ℕ) → l < 2 ^ a.width → m < 2 ^ b.width → n < 2 ^ c.width → h b.width c.width l m n < 2 ^ w)
    → ((f : Flat) (v : Values) → node_value f v (node_values f v) (record { width = w; operation = op })
    ≡ h (width_at f.nodes b.node) (width_at f.nodes c.node) (slice_index (node_values f v) a.node)
    (slice_index (node_values f v) b.node) (slice_index (node_values f v) c.node))
    → ((f : Flat) (q : Range) → node_reads q (nodes_read q [] f.nodes) (record { width = w; operation = op })
    ≡ slice_index_or (nodes_read q [] f.nodes) a.node false || (slice_index_or (nodes_read q [] f.nodes) b.node false
    || (slice_index_or (nodes_read q [] f.nodes) c.node false || false)))
    → IfOk r (MakesAt g nodes new w (on_three (h b.width c.width) x y z))
made_of_three g nodes new a b c w op h x y z r wide i j k is e fits small worth read =
    added g nodes new (record { width = w; operation = op }) (on_three (h b.width c.width) x y z) r is e wide fits
    (λ v fit. small (x.value v) (y.value v) (z.value v) (i.fits v fit) (j.fits v fit) (k.fits v fit))
    (λ f v s fit.
    let xs = node_values f v in
    worth f v
    ∙ ap (λ u. h u (width_at f.nodes c.node) (slice_index xs a.node) (slice_index xs b.node) (slice_index xs c.node))
    (width_is g nodes b y f j s)
    ∙ ap (λ u. h b.width u (slice_index xs a.node) (slice_index xs b.node) (slice_index xs c.node)) (width_is g nodes c z f k s)
    ∙ ap (λ u. h b.width c.width u (slice_index xs b.node) (slice_index xs c.node)) (i.value f v s fit)
    ∙ ap (λ u. h b.width c.width (x.value v) u (slice_index xs c.node)) (j.value f v s fit)
    ∙ ap (h b.width c.width (x.value v) (y.value v)) (k.value f v s fit))
    (λ f q s some.
    let rs = nodes_read q [] f.nodes in
    read f q ∙ ap (λ u. slice_index_or rs a.node false || (slice_index_or rs b.node false || u)) (or_none _)
    ∙ ap (λ u. u || (slice_index_or rs b.node false || slice_index_or rs c.node false)) (i.reads f q s some)
    ∙ ap (λ u. x.reads q || (u || slice_index_or rs c.node false)) (j.reads f q s some)
    ∙ ap (λ u. x.reads q || (y.reads q || u)) (k.reads f q s some))

pub insert_made : {E : Type 0} (nodes new : List Node) (a b c : Made) (signed : Bool) (r : Result Made E)
    → IsAdded nodes a.width r → Holds nodes new a.width (o.Insert a.node (record { node = b.node; signed = signed }) c.node) r
    → IsOfThree nodes new a b c a.width (inserted a.width signed b.width c.width) r
insert_made nodes new a b c signed r is e g x y z i j k =
    made_of_three g nodes new a b c a.width (o.Insert a.node (record { node = b.node; signed = signed }) c.node)
    (λ u t. inserted a.width signed u t) x y z r i.is_width i j k is e
    (λ ss ms on. (
      i.is_width,
      (
        has_node g nodes a x (λ v. v ≡ a.width) i refl,
        has_node g nodes b y (λ v. Unit {0}) j tt,
        has_node g nodes c z (λ v. Unit {0}) k tt,
      ),
    ))
    (λ l m n p q t. insert_fits a.width (ops.integer signed b.width m) c.width n l) (λ f v. refl) (λ f q. refl)

pub choice_made : {E : Type 0} (nodes new : List Node) (a b c : Made) (r : Result Made E) → b.width ≡ c.width
    → IsAdded nodes b.width r → Holds nodes new b.width (o.Choose a.node b.node c.node) r
    → IsOfThree nodes new a b c b.width chosen r
choice_made nodes new a b c r same is e g x y z i j k =
    made_of_three g nodes new a b c b.width (o.Choose a.node b.node c.node) (λ u t. chosen) x y z r j.is_width i j k is e
    (λ ss ms on. (
      j.is_width,
      (
        has_node g nodes a x (λ v. Unit {0}) i tt,
        has_node g nodes b y (λ v. v ≡ b.width) j refl,
        has_node g nodes c z (λ v. v ≡ b.width) k (sym same),
      ),
    ))
    (λ l m n p q t. either (ops.holds l) b.width m n q (subst (λ u. n < 2 ^ u) (sym same) t)) (λ f v. refl) (λ f q. refl)
