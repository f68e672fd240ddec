-- A step's value depends on what its slots hold, and on nothing else.
use Rattle.std.proofs.Common.{◌≡◌, ℕ, ◌+◌, ◌*◌, ◌/◌, ◌%◌, ◌^◌, Bool, List, [], bit_and, bit_or, bit_xor, refl, sym, ◌∙◌}
use Rattle.std.specs.Prelude.{◌==◌, not, if◌then◌else◌, slice_index_or, pos, ◌-ℤ◌}
use Rattle.bit_ops.specs.Operators as ops
use Rattle.bit_ops.specs.Applied as applied
use Rattle.step_program.specs.Values.{Slots, slot_value, word_at, calculation_value, step_value, is_narrow}
use Rattle.step_program.specs.Fits.{IsSlot, CalculationFits, StepFits}
use Rattle.step_program.specs.Table.{Table, stands}
use Rattle.step_program.specs.Renamed as names
use Rattle.step_program.specs.Renamed.{CalculationReads, Reads}
use Rattle.step_program.specs.declared.step.Slot.{Slot}
use Rattle.step_program.specs.declared.step.Slot.TheVariants as at
use Rattle.step_program.specs.declared.step.Operand.{Operand}
use Rattle.step_program.specs.declared.step.Calculation.{Calculation}
use Rattle.step_program.specs.declared.step.Calculation.TheVariants as c
use Rattle.step_program.specs.declared.step.Step.{Step}
use Rattle.step_program.specs.declared.step.Step.TheVariants as s

-- ---- values where f tells what a slot holds

abbrev operand_of : (Slot → ℕ) → Operand → ℕ
operand_of f o = ops.low o.width (f o.slot)

abbrev calculation_of : List (List ℕ) → (Slot → ℕ) → ℕ → Calculation → ℕ
calculation_of words f w (c.Constant value) = value
calculation_of words f w (c.Unary operator of) = applied.unary operator of.width (operand_of f of)
calculation_of words f w (c.Binary operator signed left right) =
    applied.binary operator signed left.width (operand_of f left) (operand_of f right)
calculation_of words f w (c.Extend signed of) = ops.extend signed of.width w (operand_of f of)
calculation_of words f w (c.Cut of) = ops.low w (operand_of f of)
calculation_of words f w (c.Select of place) =
    ops.select (ops.integer place.signed place.of.width (operand_of f place.of)) w (operand_of f of)
calculation_of words f w (c.Insert of place part) =
    ops.insert w (ops.integer place.signed place.of.width (operand_of f place.of)) part.width (operand_of f part)
    (operand_of f of)
calculation_of words f w (c.Concat left right) = ops.concat right.width (operand_of f left) (operand_of f right)
calculation_of words f w (c.Choose condition first second) =
    if ops.holds (operand_of f condition) then operand_of f first else operand_of f second
calculation_of words f w (c.Word memory least index) =
    ops.low w (word_at (slice_index_or words memory [])
    (ops.integer index.signed index.of.width (operand_of f index.of) -ℤ pos least))

abbrev test_of : ℕ → Bool → ℕ → ℕ → ℕ
test_of mask differs a b = let same : Bool = bit_and a mask == b in ops.bit (if differs then not same else same)

abbrev pub step_of : List (List ℕ) → (Slot → ℕ) → Step → ℕ
step_of words f (s.And x) = bit_and (f (at.Narrow x.left)) (f (at.Narrow x.right))
step_of words f (s.Or x) = bit_or (f (at.Narrow x.left)) (f (at.Narrow x.right))
step_of words f (s.Xor x) = bit_xor (f (at.Narrow x.left)) (f (at.Narrow x.right))
step_of words f (s.Pick x) =
    if ops.holds (f (at.Narrow x.condition)) then f (at.Narrow x.yes) else f (at.Narrow x.no)
step_of words f (s.Test x) = test_of x.mask x.differs (f (at.Narrow x.of)) (f (at.Narrow x.like))
step_of words f (s.Join x) = bit_or ((f (at.Narrow x.high) * x.scale) % 2 ^ 64) (f (at.Narrow x.low))
step_of words f (s.Take x) = bit_and (f (at.Narrow x.of) / 2 ^ x.from) x.mask
step_of words f (s.Sum x) = bit_and ((f (at.Narrow x.left) + f (at.Narrow x.right)) % 2 ^ 64) x.mask
step_of words f (s.Rare x) = calculation_of words f x.width x.calculation

-- ---- these are the values of a step, and of a step that is renamed

calculation_plain : (words : List (List ℕ)) (A : Slots) (w : ℕ) (x : Calculation)
    → calculation_value words A w x ≡ calculation_of words (slot_value A) w x
calculation_plain words A w (c.Constant value) = refl
calculation_plain words A w (c.Unary operator of) = refl
calculation_plain words A w (c.Binary operator signed left right) = refl
calculation_plain words A w (c.Extend signed of) = refl
calculation_plain words A w (c.Cut of) = refl
calculation_plain words A w (c.Select of place) = refl
calculation_plain words A w (c.Insert of place part) = refl
calculation_plain words A w (c.Concat left right) = refl
calculation_plain words A w (c.Choose condition first second) = refl
calculation_plain words A w (c.Word memory least index) = refl

step_plain : (words : List (List ℕ)) (A : Slots) (x : Step) → step_value words A x ≡ step_of words (slot_value A) x
step_plain words A (s.And x) = refl
step_plain words A (s.Or x) = refl
step_plain words A (s.Xor x) = refl
step_plain words A (s.Pick x) = refl
step_plain words A (s.Test x) = refl
step_plain words A (s.Join x) = refl
step_plain words A (s.Take x) = refl
step_plain words A (s.Sum x) = refl
step_plain words A (s.Rare x) = calculation_plain words A x.width x.calculation

calculation_renamed : (words : List (List ℕ)) (A : Slots) (t : Table) (w : ℕ) (x : Calculation)
    → calculation_value words A w (names.calculation t x) ≡ calculation_of words (λ k. slot_value A (stands t k)) w x
calculation_renamed words A t w (c.Constant value) = refl
calculation_renamed words A t w (c.Unary operator of) = refl
calculation_renamed words A t w (c.Binary operator signed left right) = refl
calculation_renamed words A t w (c.Extend signed of) = refl
calculation_renamed words A t w (c.Cut of) = refl
calculation_renamed words A t w (c.Select of place) = refl
calculation_renamed words A t w (c.Insert of place part) = refl
calculation_renamed words A t w (c.Concat left right) = refl
calculation_renamed words A t w (c.Choose condition first second) = refl
calculation_renamed words A t w (c.Word memory least index) = refl

step_renamed : (words : List (List ℕ)) (A : Slots) (t : Table) (x : Step)
    → step_value words A (names.step t x) ≡ step_of words (λ k. slot_value A (stands t k)) x
step_renamed words A t (s.And x) = refl
step_renamed words A t (s.Or x) = refl
step_renamed words A t (s.Xor x) = refl
step_renamed words A t (s.Pick x) = refl
step_renamed words A t (s.Test x) = refl
step_renamed words A t (s.Join x) = refl
step_renamed words A t (s.Take x) = refl
step_renamed words A t (s.Sum x) = refl
step_renamed words A t (s.Rare x) = calculation_renamed words A t x.width x.calculation

-- ---- where the slots hold the same, the values are the same

calculation_same : (words : List (List ℕ)) (f g : Slot → ℕ) (w : ℕ) (x : Calculation)
    → CalculationReads (λ k. f k ≡ g k) x → calculation_of words f w x ≡ calculation_of words g w x
calculation_same words f g w (c.Constant value) r = refl
calculation_same words f g w (c.Unary operator of) r = λ i. applied.unary operator of.width (ops.low of.width (r i))
calculation_same words f g w (c.Binary operator signed left right) r =
    λ i. applied.binary operator signed left.width (ops.low left.width (r.0 i)) (ops.low right.width (r.1 i))
calculation_same words f g w (c.Extend signed of) r = λ i. ops.extend signed of.width w (ops.low of.width (r i))
calculation_same words f g w (c.Cut of) r = λ i. ops.low w (ops.low of.width (r i))
calculation_same words f g w (c.Select of place) r =
    λ i. ops.select (ops.integer place.signed place.of.width (ops.low place.of.width (r.1 i))) w (ops.low of.width (r.0 i))
calculation_same words f g w (c.Insert of place part) r =
    λ i. ops.insert w (ops.integer place.signed place.of.width (ops.low place.of.width (r.1 i))) part.width
    (ops.low part.width (r.2 i)) (ops.low of.width (r.0 i))
calculation_same words f g w (c.Concat left right) r =
    λ i. ops.concat right.width (ops.low left.width (r.0 i)) (ops.low right.width (r.1 i))
calculation_same words f g w (c.Choose condition first second) r =
    λ i. if ops.holds (ops.low condition.width (r.0 i)) then ops.low first.width (r.1 i) else ops.low second.width (r.2 i)
calculation_same words f g w (c.Word memory least index) r =
    λ i. ops.low w (word_at (slice_index_or words memory [])
    (ops.integer index.signed index.of.width (ops.low index.of.width (r i)) -ℤ pos least))

step_same : (words : List (List ℕ)) (f g : Slot → ℕ) (x : Step) → Reads (λ k. f k ≡ g k) x
    → step_of words f x ≡ step_of words g x
step_same words f g (s.And x) r = λ i. bit_and (r.0 i) (r.1 i)
step_same words f g (s.Or x) r = λ i. bit_or (r.0 i) (r.1 i)
step_same words f g (s.Xor x) r = λ i. bit_xor (r.0 i) (r.1 i)
step_same words f g (s.Pick x) r = λ i. if ops.holds (r.0 i) then r.1 i else r.2 i
step_same words f g (s.Test x) r = λ i. test_of x.mask x.differs (r.0 i) (r.1 i)
step_same words f g (s.Join x) r = λ i. bit_or ((r.0 i * x.scale) % 2 ^ 64) (r.1 i)
step_same words f g (s.Take x) r = λ i. bit_and (r i / 2 ^ x.from) x.mask
step_same words f g (s.Sum x) r = λ i. bit_and ((r.0 i + r.1 i) % 2 ^ 64) x.mask
step_same words f g (s.Rare x) r = calculation_same words f g x.width x.calculation r

-- a step over slots that hold the same has the same value
pub value_same : (words : List (List ℕ)) (A B : Slots) (x : Step) → Reads (λ k. slot_value A k ≡ slot_value B k) x
    → step_value words A x ≡ step_value words B x
value_same words A B x r =
    step_plain words A x ∙ step_same words (slot_value A) (slot_value B) x r ∙ sym (step_plain words B x)

-- so has a step that is renamed
pub value_renamed : (words : List (List ℕ)) (A B : Slots) (t : Table) (x : Step)
    → Reads (λ k. slot_value A (stands t k) ≡ slot_value B k) x
    → step_value words A (names.step t x) ≡ step_value words B x
value_renamed words A B t x r =
    step_renamed words A t x ∙ step_same words (λ k. slot_value A (stands t k)) (slot_value B) x r
    ∙ sym (step_plain words B x)

-- ---- what steps read

calculation_reads : (P Q : Slot → Type 0) (x : Calculation) → ((k : Slot) → P k → Q k) → CalculationReads P x
    → CalculationReads Q x
calculation_reads P Q (c.Constant value) h r = tt
calculation_reads P Q (c.Unary operator of) h r = h of.slot r
calculation_reads P Q (c.Binary operator signed left right) h r = (h left.slot r.0, h right.slot r.1)
calculation_reads P Q (c.Extend signed of) h r = h of.slot r
calculation_reads P Q (c.Cut of) h r = h of.slot r
calculation_reads P Q (c.Select of place) h r = (h of.slot r.0, h place.of.slot r.1)
calculation_reads P Q (c.Insert of place part) h r = (h of.slot r.0, h place.of.slot r.1, h part.slot r.2)
calculation_reads P Q (c.Concat left right) h r = (h left.slot r.0, h right.slot r.1)
calculation_reads P Q (c.Choose condition first second) h r = (h condition.slot r.0, h first.slot r.1, h second.slot r.2)
calculation_reads P Q (c.Word memory least index) h r = h index.of.slot r

pub reads_map : (P Q : Slot → Type 0) (x : Step) → ((k : Slot) → P k → Q k) → Reads P x → Reads Q x
reads_map P Q (s.And x) h r = (h (at.Narrow x.left) r.0, h (at.Narrow x.right) r.1)
reads_map P Q (s.Or x) h r = (h (at.Narrow x.left) r.0, h (at.Narrow x.right) r.1)
reads_map P Q (s.Xor x) h r = (h (at.Narrow x.left) r.0, h (at.Narrow x.right) r.1)
reads_map P Q (s.Pick x) h r =
    (h (at.Narrow x.condition) r.0, h (at.Narrow x.yes) r.1, h (at.Narrow x.no) r.2)
reads_map P Q (s.Test x) h r = (h (at.Narrow x.of) r.0, h (at.Narrow x.like) r.1)
reads_map P Q (s.Join x) h r = (h (at.Narrow x.high) r.0, h (at.Narrow x.low) r.1)
reads_map P Q (s.Take x) h r = h (at.Narrow x.of) r
reads_map P Q (s.Sum x) h r = (h (at.Narrow x.left) r.0, h (at.Narrow x.right) r.1)
reads_map P Q (s.Rare x) h r = calculation_reads P Q x.calculation h r

-- two things that are so of each slot that a step reads
calculation_both : (P Q : Slot → Type 0) (x : Calculation) → CalculationReads P x → CalculationReads Q x
    → CalculationReads (λ k. P k × Q k) x
calculation_both P Q (c.Constant value) r q = tt
calculation_both P Q (c.Unary operator of) r q = (r, q)
calculation_both P Q (c.Binary operator signed left right) r q = ((r.0, q.0), (r.1, q.1))
calculation_both P Q (c.Extend signed of) r q = (r, q)
calculation_both P Q (c.Cut of) r q = (r, q)
calculation_both P Q (c.Select of place) r q = ((r.0, q.0), (r.1, q.1))
calculation_both P Q (c.Insert of place part) r q = ((r.0, q.0), (r.1, q.1), (r.2, q.2))
calculation_both P Q (c.Concat left right) r q = ((r.0, q.0), (r.1, q.1))
calculation_both P Q (c.Choose condition first second) r q = ((r.0, q.0), (r.1, q.1), (r.2, q.2))
calculation_both P Q (c.Word memory least index) r q = (r, q)

pub reads_both : (P Q : Slot → Type 0) (x : Step) → Reads P x → Reads Q x → Reads (λ k. P k × Q k) x
reads_both P Q (s.And x) r q = ((r.0, q.0), (r.1, q.1))
reads_both P Q (s.Or x) r q = ((r.0, q.0), (r.1, q.1))
reads_both P Q (s.Xor x) r q = ((r.0, q.0), (r.1, q.1))
reads_both P Q (s.Pick x) r q = ((r.0, q.0), (r.1, q.1), (r.2, q.2))
reads_both P Q (s.Test x) r q = ((r.0, q.0), (r.1, q.1))
reads_both P Q (s.Join x) r q = ((r.0, q.0), (r.1, q.1))
reads_both P Q (s.Take x) r q = (r, q)
reads_both P Q (s.Sum x) r q = ((r.0, q.0), (r.1, q.1))
reads_both P Q (s.Rare x) r q = calculation_both P Q x.calculation r q

-- a step that fits reads slots that are there
calculation_there : (n m w : ℕ) (x : Calculation) → CalculationFits n m w x → CalculationReads (IsSlot n m) x
calculation_there n m w (c.Constant value) h = tt
calculation_there n m w (c.Unary operator of) h = h.0.0
calculation_there n m w (c.Binary operator signed left right) h = (h.0.0, h.1.0)
calculation_there n m w (c.Extend signed of) h = h.0.0
calculation_there n m w (c.Cut of) h = h.0.0
calculation_there n m w (c.Select of place) h = (h.0.0, h.1.0)
calculation_there n m w (c.Insert of place part) h = (h.0.0, h.1.0, h.2.0)
calculation_there n m w (c.Concat left right) h = (h.0.0, h.1.0)
calculation_there n m w (c.Choose condition first second) h = (h.0.0, h.1.0, h.2.0)
calculation_there n m w (c.Word memory least index) h = h.0

pub reads_there : (n m : ℕ) (x : Step) → StepFits n m x → Reads (IsSlot n m) x
reads_there n m (s.And x) h = h
reads_there n m (s.Or x) h = h
reads_there n m (s.Xor x) h = h
reads_there n m (s.Pick x) h = h
reads_there n m (s.Test x) h = h
reads_there n m (s.Join x) h = h
reads_there n m (s.Take x) h = h.0
reads_there n m (s.Sum x) h = h
reads_there n m (s.Rare x) h = calculation_there n m x.width x.calculation h.1

-- ---- a step that is renamed fits the program's slots, and gives a slot of the same kind

calculation_fits : (n m n' m' w : ℕ) (t : Table) (x : Calculation) → CalculationFits n m w x
    → CalculationReads (λ k. IsSlot n' m' (stands t k)) x → CalculationFits n' m' w (names.calculation t x)
calculation_fits n m n' m' w t (c.Constant value) h r = h
calculation_fits n m n' m' w t (c.Unary operator of) h r = ((r, h.0.1), h.1)
calculation_fits n m n' m' w t (c.Binary operator signed left right) h r = ((r.0, h.0.1), (r.1, h.1.1), h.2, h.3)
calculation_fits n m n' m' w t (c.Extend signed of) h r = ((r, h.0.1), h.1)
calculation_fits n m n' m' w t (c.Cut of) h r = ((r, h.0.1), h.1)
calculation_fits n m n' m' w t (c.Select of place) h r = ((r.0, h.0.1), (r.1, h.1.1))
calculation_fits n m n' m' w t (c.Insert of place part) h r = ((r.0, h.0.1), (r.1, h.1.1), (r.2, h.2.1), h.3)
calculation_fits n m n' m' w t (c.Concat left right) h r = ((r.0, h.0.1), (r.1, h.1.1), h.2)
calculation_fits n m n' m' w t (c.Choose condition first second) h r =
    ((r.0, h.0.1), (r.1, h.1.1), (r.2, h.2.1), h.3, h.4)
calculation_fits n m n' m' w t (c.Word memory least index) h r = (r, h.1)

pub fits_renamed : (n m n' m' : ℕ) (t : Table) (x : Step) → StepFits n m x → Reads (λ k. IsSlot n' m' (stands t k)) x
    → StepFits n' m' (names.step t x)
fits_renamed n m n' m' t (s.And x) h r = r
fits_renamed n m n' m' t (s.Or x) h r = r
fits_renamed n m n' m' t (s.Xor x) h r = r
fits_renamed n m n' m' t (s.Pick x) h r = r
fits_renamed n m n' m' t (s.Test x) h r = r
fits_renamed n m n' m' t (s.Join x) h r = r
fits_renamed n m n' m' t (s.Take x) h r = (r, h.1)
fits_renamed n m n' m' t (s.Sum x) h r = r
fits_renamed n m n' m' t (s.Rare x) h r = (h.0, calculation_fits n m n' m' x.width t x.calculation h.1 r)

pub kind_renamed : (t : Table) (x : Step) → is_narrow (names.step t x) ≡ is_narrow x
kind_renamed t (s.And x) = refl
kind_renamed t (s.Or x) = refl
kind_renamed t (s.Xor x) = refl
kind_renamed t (s.Pick x) = refl
kind_renamed t (s.Test x) = refl
kind_renamed t (s.Join x) = refl
kind_renamed t (s.Take x) = refl
kind_renamed t (s.Sum x) = refl
kind_renamed t (s.Rare x) = refl

-- ---- more slots

calculation_wider : (n m n' m' w : ℕ) (x : Calculation) → CalculationFits n m w x
    → CalculationReads (IsSlot n' m') x → CalculationFits n' m' w x
calculation_wider n m n' m' w (c.Constant value) h r = h
calculation_wider n m n' m' w (c.Unary operator of) h r = ((r, h.0.1), h.1)
calculation_wider n m n' m' w (c.Binary operator signed left right) h r = ((r.0, h.0.1), (r.1, h.1.1), h.2, h.3)
calculation_wider n m n' m' w (c.Extend signed of) h r = ((r, h.0.1), h.1)
calculation_wider n m n' m' w (c.Cut of) h r = ((r, h.0.1), h.1)
calculation_wider n m n' m' w (c.Select of place) h r = ((r.0, h.0.1), (r.1, h.1.1))
calculation_wider n m n' m' w (c.Insert of place part) h r = ((r.0, h.0.1), (r.1, h.1.1), (r.2, h.2.1), h.3)
calculation_wider n m n' m' w (c.Concat left right) h r = ((r.0, h.0.1), (r.1, h.1.1), h.2)
calculation_wider n m n' m' w (c.Choose condition first second) h r =
    ((r.0, h.0.1), (r.1, h.1.1), (r.2, h.2.1), h.3, h.4)
calculation_wider n m n' m' w (c.Word memory least index) h r = (r, h.1)

pub fits_wider : (n m n' m' : ℕ) (x : Step) → StepFits n m x → Reads (IsSlot n' m') x → StepFits n' m' x
fits_wider n m n' m' (s.And x) h r = r
fits_wider n m n' m' (s.Or x) h r = r
fits_wider n m n' m' (s.Xor x) h r = r
fits_wider n m n' m' (s.Pick x) h r = r
fits_wider n m n' m' (s.Test x) h r = r
fits_wider n m n' m' (s.Join x) h r = r
fits_wider n m n' m' (s.Take x) h r = (r, h.1)
fits_wider n m n' m' (s.Sum x) h r = r
fits_wider n m n' m' (s.Rare x) h r = (h.0, calculation_wider n m n' m' x.width x.calculation h.1 r)
