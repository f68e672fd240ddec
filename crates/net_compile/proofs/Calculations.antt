-- Each operation's calculation has its value.
use Rattle.std.proofs.Common.{◌≡◌, ℕ, zero, suc, ◌+◌, ◌^◌, ◌<◌, ◌≤◌, List, [], ◌∷◌, take, Bool, true, refl, sym, ap, ◌∙◌, subst, ◌*◌, lit<, false, arith}
use Rattle.std.specs.Prelude.{Option, Some, ℤ, pos, negsuc, ◌-ℤ◌, if◌then◌else◌, slice_get, slice_index, slice_index_or}
use Rattle.std.proofs.lemmas.Nat.{pow_pos}
use Rattle.bit_ops.specs.Operators as ops
use Rattle.bit_ops.specs.Applied as applied
use Rattle.bit_ops.specs.declared.operator.Unary.{Unary}
use Rattle.bit_ops.specs.declared.operator.Binary.{Binary}
use Rattle.netlist.specs.Design.{Flat}
use Rattle.netlist.specs.Plain.{PlainMemory}
use Rattle.netlist.specs.Fits.{IsWidth, HasNode, HasWords, OperationFits, IsWellFormed}
use Rattle.netlist.specs.Run.{all_words}
use Rattle.netlist.specs.Values.{Values, width_at, index_at, word_place, node_values}
use Rattle.netlist.specs.Values as of_nodes
use Rattle.netlist.specs.declared.design.Index.{Index}
use Rattle.netlist.specs.declared.node.Node.{Node}
use Rattle.netlist.specs.declared.node.Operation.{Operation}
use Rattle.netlist.specs.declared.node.Operation.TheVariants as o
use Rattle.step_program.specs.Values.{Slots, slot_value, operand_value, number_value, after, is_narrow_width}
use Rattle.step_program.specs.Values as of_slots
use Rattle.step_program.specs.Fits.{OperandFits}
use Rattle.step_program.specs.Draft.{Draft, narrow_count, wide_count}
use Rattle.step_program.specs.declared.step.Slot.{Slot}
use Rattle.step_program.specs.declared.step.Operand.{Operand}
use Rattle.step_program.specs.declared.step.Number.{Number}
use Rattle.step_program.specs.declared.step.Calculation.{Calculation}
use Rattle.step_program.specs.declared.step.Calculation.TheVariants as calc
use Rattle.net_compile.specs.Cycle.{Front, Cycle}
use Rattle.net_compile.specs.Stands.{NodesStand, node_number, operation_number, Stands, Begins, IsCut}
use Rattle.net_compile.proofs.Standing.{stands_for, cut_stands}
use Rattle.netlist.specs.Laws.{ValuesLaw}
use Rattle.std.proofs.Math.Nat.{pow-le-pow_right}
use Rattle.std.proofs.lemmas.Bool.{lt-leb}
use Rattle.net_compile.specs.Quick.{IsBounded}
use Rattle.net_compile.specs.Lowered.{IsOperand, IsNumber, IsNodeOf, Mirrors, IsCalculationOf, least_of, IsNumeral, IsPlaceOf}
use Rattle.net_compile.proofs.Numbers.{same_low}
use Rattle.net_compile.proofs.Fitting.{read_width, node_fits, width_of}

-- ---- operands

-- the slots of a cycle after the draft's steps
abbrev pub reached : (f : Flat) (front : Front) → Draft → Cycle f front → Slots
reached f front d c = after (all_words f.memories c.state.memories) c.given d.steps

-- the operand is there, has the node's width, and the node's value in each cycle
pub record Reads (f : Flat) (front : Front) (d : Draft) (n : ℕ) (x : Operand) : Type 0 where
  pub fits : OperandFits (narrow_count d) (wide_count d) x
  pub width : x.width ≡ width_at f.nodes n
  pub bounded : (c : Cycle f front) → IsBounded (reached f front d c) x
  pub value : (c : Cycle f front) → operand_value (reached f front d c) x ≡ node_number f front n c

pub reads : (f : Flat) (front : Front) (d : Draft) (slots : List (Option Slot)) (n : ℕ) (x : Operand)
    → NodesStand f front d slots → IsOperand f slots n x → Reads f front d n x
reads f front d slots n x nodes is =
    let there = nodes n x.slot is.0 in
    record {
      fits = (there.there.placed, subst (λ w. IsWidth w) (sym is.1) there.wide);
      width = is.1;
      bounded = λ c. record {
        fits = subst (λ v. v < 2 ^ x.width) (sym (there.value c))
            (subst (λ w. node_number f front n c < 2 ^ w) (sym is.1) (there.fits c));
        kind = there.there.kind ∙ ap is_narrow_width (sym is.1);
      };
      value = λ c. ap (λ y. ops.low x.width y) (there.value c)
          ∙ same_low x.width (node_number f front n c)
          (subst (λ w. node_number f front n c < 2 ^ w) (sym is.1) (there.fits c));
    }

-- the same for a whole number
pub record Counts (f : Flat) (front : Front) (d : Draft) (i : Index) (x : Number) : Type 0 where
  pub fits : OperandFits (narrow_count d) (wide_count d) x.of
  pub value : (c : Cycle f front)
      → number_value (reached f front d c) x ≡ index_at f.nodes (node_values f c.values) i

pub counts : (f : Flat) (front : Front) (d : Draft) (slots : List (Option Slot)) (i : Index) (x : Number)
    → NodesStand f front d slots → IsNumber f slots i x → Counts f front d i x
counts f front d slots i x nodes is =
    let r : Reads f front d i.node x.of = reads f front d slots i.node x.of nodes is.0 in
    record {
      fits = r.fits;
      value = λ c. ap (λ n. ops.integer x.signed x.of.width n) (r.value c)
          ∙ ap (λ w. ops.integer x.signed w (node_number f front i.node c)) r.width
          ∙ ap (λ (b : Bool). ops.integer b (width_at f.nodes i.node) (node_number f front i.node c)) is.1;
    }

-- ---- a word of a memory

same_word : (words : List ℕ) (z : ℤ) → of_slots.word_at words z ≡ of_nodes.word_at words z
same_word words (pos k) = refl
same_word words (negsuc k) = refl

word_fits : (words : List ℕ) (w : ℕ) (z : ℤ) → ((i : ℕ) → slice_index words i < 2 ^ w)
    → of_nodes.word_at words z < 2 ^ w
word_fits words w (pos k) h = h k
word_fits words w (negsuc k) h = pow_pos w

some_memory : (memories : List PlainMemory) (k w : ℕ) → HasWords memories k w
    → (m : PlainMemory) × (slice_get memories k ≡ Some m) × (m.width ≡ w)
some_memory [] k w h = absurd h
some_memory (m ∷ ms) zero w h = (m, refl, h)
some_memory (m ∷ ms) (suc k) w h = some_memory ms k w h

pub word_mirrors : (f : Flat) (front : Front) (d : Draft) (k w memory least : ℕ) (i : Index) (x : Number)
    → least ≡ least_of f.memories memory → OperationFits f.signals f.memories (take k f.nodes) w (o.Word memory i)
    → Counts f front d i x → Mirrors f front d w (o.Word memory i) (calc.Word memory least x)
word_mirrors f front d k w memory least i x is h r = record {
  fits = r.fits;
  bounded = λ c. tt;
  value = λ c.
      let words : List (List ℕ) = all_words f.memories c.state.memories in
      let own : List ℕ = slice_index_or words memory [] in
      let m = some_memory f.memories memory w h.0 in
      let at : ℤ = word_place f.memories memory (index_at f.nodes (node_values f c.values) i) in
      let fits : of_nodes.word_at own at < 2 ^ w =
      word_fits own w at (λ j. subst (λ v. slice_index own j < 2 ^ v) m.2 (c.state_fits.words memory j m.0 m.1)) in
      let same : c.values.memories ≡ words = ap (λ (v : Values). v.memories) c.settles in
      ap (λ n. ops.low w (of_slots.word_at own (number_value (reached f front d c) x -ℤ pos n))) is
      ∙ ap (λ z. ops.low w (of_slots.word_at own (z -ℤ pos (least_of f.memories memory)))) (r.value c)
      ∙ ap (λ n. ops.low w n) (same_word own at)
      ∙ same_low w (of_nodes.word_at own at) fits
      ∙ ap (λ ms. of_nodes.word_at (slice_index_or ms memory []) at) (sym same);
}

-- ---- the others

pub constant_mirrors : (f : Flat) (front : Front) (d : Draft) (k w n : ℕ)
    → OperationFits f.signals f.memories (take k f.nodes) w (o.Constant n)
    → Mirrors f front d w (o.Constant n) (calc.Constant n)
constant_mirrors f front d k w n h = record { fits = h; bounded = λ c. tt; value = λ c. refl }

pub unary_mirrors : (f : Flat) (front : Front) (d : Draft) (k w : ℕ) (op : Unary) (a : ℕ) (x : Operand)
    → OperationFits f.signals f.memories (take k f.nodes) w (o.Unary op a) → Reads f front d a x
    → Mirrors f front d w (o.Unary op a) (calc.Unary op x)
unary_mirrors f front d k w op a x h r = record {
  fits = (
    r.fits,
    read_width f.nodes k a (λ v. w ≡ applied.unary_width op v) h ∙ ap (λ v. applied.unary_width op v) (sym r.width),
  );
  bounded = λ c. r.bounded c;
  value = λ c. ap (λ n. applied.unary op x.width n) (r.value c)
      ∙ ap (λ v. applied.unary op v (node_number f front a c)) r.width;
}

pub binary_mirrors : (f : Flat) (front : Front) (d : Draft) (k w : ℕ) (op : Binary) (signed : Bool) (a b : ℕ)
    (x y : Operand) → OperationFits f.signals f.memories (take k f.nodes) w (o.Binary op signed a b)
    → Reads f front d a x → Reads f front d b y
    → Mirrors f front d w (o.Binary op signed a b) (calc.Binary op signed x y)
binary_mirrors f front d k w op signed a b x y h r q =
    let first = read_width f.nodes k a (λ v. (w ≡ applied.binary_width op v)
    × HasNode (take k f.nodes) b (λ u. applied.takes_one_width op ≡ true → v ≡ u)) h in
    let second = read_width f.nodes k b (λ u. applied.takes_one_width op ≡ true → width_at f.nodes a ≡ u) first.1 in
    record {
      fits = (
        r.fits,
        q.fits,
        first.0 ∙ ap (λ v. applied.binary_width op v) (sym r.width),
        λ one. r.width ∙ second one ∙ sym q.width,
      );
      bounded = λ c. (r.bounded c, q.bounded c);
      value = λ c.
          ap (λ n. applied.binary op signed x.width n (operand_value (reached f front d c) y)) (r.value c)
          ∙ ap (λ n. applied.binary op signed x.width (node_number f front a c) n) (q.value c)
          ∙ ap (λ v. applied.binary op signed v (node_number f front a c) (node_number f front b c)) r.width;
    }

pub extend_mirrors : (f : Flat) (front : Front) (d : Draft) (k w : ℕ) (signed : Bool) (a : ℕ) (x : Operand)
    → OperationFits f.signals f.memories (take k f.nodes) w (o.Extend signed a) → Reads f front d a x
    → Mirrors f front d w (o.Extend signed a) (calc.Extend signed x)
extend_mirrors f front d k w signed a x h r = record {
  fits = (r.fits, subst (λ v. v ≤ w) (sym r.width) (read_width f.nodes k a (λ v. v ≤ w) h));
  bounded = λ c. r.bounded c;
  value = λ c. ap (λ n. ops.extend signed x.width w n) (r.value c)
      ∙ ap (λ v. ops.extend signed v w (node_number f front a c)) r.width;
}

pub cut_mirrors : (f : Flat) (front : Front) (d : Draft) (k w : ℕ) (a : ℕ) (x : Operand)
    → OperationFits f.signals f.memories (take k f.nodes) w (o.Cut a) → Reads f front d a x
    → Mirrors f front d w (o.Cut a) (calc.Cut x)
cut_mirrors f front d k w a x h r = record {
  fits = (r.fits, subst (λ v. w ≤ v) (sym r.width) (read_width f.nodes k a (λ v. w ≤ v) h));
  bounded = λ c. r.bounded c;
  value = λ c. ap (λ n. ops.low w n) (r.value c);
}

pub select_mirrors : (f : Flat) (front : Front) (d : Draft) (w a : ℕ) (i : Index) (x : Operand) (y : Number)
    → Reads f front d a x → Counts f front d i y → Mirrors f front d w (o.Select a i) (calc.Select x y)
select_mirrors f front d w a i x y r q = record {
  fits = (r.fits, q.fits);
  bounded = λ c. r.bounded c;
  value = λ c. ap (λ n. ops.select (number_value (reached f front d c) y) w n) (r.value c)
      ∙ ap (λ z. ops.select z w (node_number f front a c)) (q.value c);
}

pub insert_mirrors : (f : Flat) (front : Front) (d : Draft) (k w a : ℕ) (i : Index) (b : ℕ) (x : Operand) (y : Number)
    (z : Operand) → OperationFits f.signals f.memories (take k f.nodes) w (o.Insert a i b) → Reads f front d a x
    → Counts f front d i y → Reads f front d b z → Mirrors f front d w (o.Insert a i b) (calc.Insert x y z)
insert_mirrors f front d k w a i b x y z h r q p = record {
  fits = (r.fits, q.fits, p.fits, r.width ∙ read_width f.nodes k a (λ v. v ≡ w) h.0);
  bounded = λ c. (r.bounded c, p.bounded c);
  value = λ c.
      ap (λ n. ops.insert w (number_value (reached f front d c) y) z.width (operand_value (reached f front d c) z) n)
      (r.value c)
      ∙ ap (λ j. ops.insert w j z.width (operand_value (reached f front d c) z) (node_number f front a c)) (q.value c)
      ∙ ap (λ n. ops.insert w (index_at f.nodes (node_values f c.values) i) z.width n (node_number f front a c))
      (p.value c)
      ∙ ap (λ v. ops.insert w (index_at f.nodes (node_values f c.values) i) v (node_number f front b c)
      (node_number f front a c)) p.width;
}

pub concat_mirrors : (f : Flat) (front : Front) (d : Draft) (k w a b : ℕ) (x y : Operand)
    → OperationFits f.signals f.memories (take k f.nodes) w (o.Concat a b) → Reads f front d a x → Reads f front d b y
    → Mirrors f front d w (o.Concat a b) (calc.Concat x y)
concat_mirrors f front d k w a b x y h r q =
    let first = read_width f.nodes k a (λ v. HasNode (take k f.nodes) b (λ u. v + u ≡ w)) h in
    let both : width_at f.nodes a + width_at f.nodes b ≡ w =
    read_width f.nodes k b (λ u. width_at f.nodes a + u ≡ w) first in
    record {
      fits = (r.fits, q.fits, ap (λ v. v + y.width) r.width ∙ ap (λ v. width_at f.nodes a + v) q.width ∙ both);
      bounded = λ c. (r.bounded c, q.bounded c);
      value = λ c.
          ap (λ n. ops.concat y.width n (operand_value (reached f front d c) y)) (r.value c)
          ∙ ap (λ n. ops.concat y.width (node_number f front a c) n) (q.value c)
          ∙ ap (λ v. ops.concat v (node_number f front a c) (node_number f front b c)) q.width;
    }

pub choose_mirrors : (f : Flat) (front : Front) (d : Draft) (k w n a b : ℕ) (z x y : Operand)
    → OperationFits f.signals f.memories (take k f.nodes) w (o.Choose n a b) → Reads f front d n z
    → Reads f front d a x → Reads f front d b y → Mirrors f front d w (o.Choose n a b) (calc.Choose z x y)
choose_mirrors f front d k w n a b z x y h p r q = record {
  fits = (
    p.fits,
    r.fits,
    q.fits,
    r.width ∙ read_width f.nodes k a (λ v. v ≡ w) h.1,
    q.width ∙ read_width f.nodes k b (λ v. v ≡ w) h.2,
  );
  bounded = λ c. (p.bounded c, r.bounded c, q.bounded c);
  value = λ c.
      ap (λ m. if ops.holds m then operand_value (reached f front d c) x else operand_value (reached f front d c) y)
      (p.value c)
      ∙ ap (λ m. if ops.holds (node_number f front n c) then m else operand_value (reached f front d c) y) (r.value c)
      ∙ ap (λ m. if ops.holds (node_number f front n c) then node_number f front a c else m) (q.value c);
}

-- ---- what a node's operation is

pub by_operation : (f : Flat) (slots : List (Option Slot)) (x : Node) (op : Operation) (r : Calculation)
    → x.operation ≡ op → IsNodeOf f x
    → ((k : ℕ) → OperationFits f.signals f.memories (take k f.nodes) x.width op → (front : Front) (d : Draft)
    → NodesStand f front d slots → Mirrors f front d x.width op r)
    → IsCalculationOf f slots x r
by_operation f slots x op r e node h front d nodes =
    let fits = (node_fits f node.0 node.1.0 x node.1.1).1 in
    subst (λ y. Mirrors f front d x.width y r) (sym e)
    (h node.1.0 (subst (λ y. OperationFits f.signals f.memories (take node.1.0 f.nodes) x.width y) e fits) front d nodes)

-- ---- constant places

pub same_integer : (signed : Bool) (w n : ℕ) → n ≤ 128 → 9 ≤ w → ops.integer signed w n ≡ pos n
same_integer false w n l m = refl
same_integer true w n l m =
    let large : 2 ^ 9 ≤ 2 ^ w = pow-le-pow_right (lit< tt) m in
    ap (λ b. if b then pos n -ℤ pos (2 ^ w) else pos n) (lt-leb (2 ^ w) (2 * n) (omega (arith, large)))

pub numeral_place : (f : Flat) → IsWellFormed f → ValuesLaw → (i : Index) (x : Node) (k : ℕ)
    → slice_get f.nodes i.node ≡ Some x → IsNumeral x i.signed k → IsPlaceOf f i k
numeral_place f w law i x k at is v =
    let value : slice_index (node_values f v) i.node ≡ k =
    (law.are f v w).each i.node x at
    ∙ ap (λ q. of_nodes.operation_value f v (node_values f v) x.width q) is.0 in
    ap (λ n. ops.integer i.signed (width_at f.nodes i.node) n) value
    ∙ ap (λ n. ops.integer i.signed n k) (width_of f.nodes i.node x at) ∙ is.1

-- bits of a node from a constant place on
pub selected_stands : (f : Flat) (front : Front) (a b : Draft) (slots : List (Option Slot)) (x : Node) (n : ℕ) (i : Index)
    (from : ℕ) (y : Operand) (slot : Slot) → Begins front a → NodesStand f front a slots → IsOperand f slots n y
    → IsPlaceOf f i from → x.operation ≡ o.Select n i → IsWidth x.width → IsCut a b y from x.width slot
    → Stands f front b slot x.width (operation_number f front x.width x.operation)
selected_stands f front a b slots x n i from y slot h nodes is place e wide cut =
    let there : Stands f front a y.slot y.width (node_number f front n) =
    subst (λ w. Stands f front a y.slot w (node_number f front n)) (sym is.1) (nodes n y.slot is.0) in
    stands_for f front b slot x.width x.width (λ c. ops.select (pos from) x.width (node_number f front n c))
    (operation_number f front x.width x.operation) refl
    (λ c. ap (λ z. ops.select z x.width (node_number f front n c)) (sym (place c.values))
    ∙ ap (λ q. of_nodes.operation_value f c.values (node_values f c.values) x.width q) (sym e))
    (cut_stands f front a b y from x.width slot (node_number f front n) h there cut wide)
