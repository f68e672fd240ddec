-- Fast steps have the values of calculations.
use Rattle.std.proofs.Common.{inl, inr, ◌≡◌, ℕ, ◌+◌, ◌*◌, ◌^◌, ◌<◌, ◌≤◌, Bool, true, false, not, ◌==◌, List, refl, sym, ap, ◌∙◌, subst, arith, lit<, bit_and, bit_or, zero, suc, ◌-◌, ◌&&◌, ◌||◌}
use Rattle.std.specs.Prelude.{pos, slice_index, bit_xor, if◌then◌else◌}
use Rattle.std.proofs.Math.Nat.{pow-le-pow_right, div-one, mod-one}
use Rattle.std.proofs.lemmas.Bool.{le-leb, leb-true, eq-eqb, ne_eqb, cases_eq}
use Rattle.std.proofs.lemmas.Nat.{shl_below, and_mask}
use Rattle.bit_ops.specs.Operators as ops
use Rattle.bit_ops.specs.Applied as applied
use Rattle.bit_ops.specs.declared.operator.Unary.{Unary}
use Rattle.bit_ops.specs.declared.operator.Unary.TheVariants as one
use Rattle.bit_ops.specs.declared.operator.Binary.TheVariants as op
use Rattle.step_program.specs.Values.{Slots, slot_value, operand_value, is_narrow_width, take_value, join_value, sum_value, test_value}
use Rattle.step_program.specs.Fits.{IsSlot, is_narrow_slot, IsWidth, OperandFits}
use Rattle.step_program.specs.declared.step.Slot.TheVariants as at
use Rattle.step_program.specs.declared.step.Operand.{Operand}
use Rattle.step_program.specs.declared.step.Two.{Two}
use Rattle.step_program.specs.declared.step.Pick.{Pick}
use Rattle.step_program.specs.declared.step.Test.{Test}
use Rattle.step_program.specs.declared.step.Join.{Join}
use Rattle.step_program.specs.declared.step.Take.{Take}
use Rattle.step_program.specs.declared.step.Sum.{Sum}
use Rattle.step_program.specs.declared.step.Calculation.{Calculation}
use Rattle.step_program.specs.declared.step.Calculation.TheVariants as calc
use Rattle.step_program.specs.declared.step.Step.TheVariants as kind
use Rattle.net_compile.specs.Quick.{IsBounded, IsQuick}
use Rattle.net_compile.proofs.Numbers.{same_low}

-- ---- narrow operands

abbrev pub Has : Operand → ℕ → Type 0
Has x k = x.slot ≡ at.Narrow k

narrow_fits : (n m k : ℕ) (x : Operand) → Has x k → OperandFits n m x → k < n
narrow_fits n m k x e h = subst (λ s. IsSlot n m s) e h.0

operand_is : (slots : Slots) (k : ℕ) (x : Operand) → Has x k → IsBounded slots x
    → slice_index slots.narrow k ≡ operand_value slots x
operand_is slots k x e b =
    sym (same_low x.width (slot_value slots x.slot) b.fits ∙ ap (λ s. slot_value slots s) e)

below : (slots : Slots) (k : ℕ) (x : Operand) → Has x k → IsBounded slots x → slice_index slots.narrow k < 2 ^ x.width
below slots k x e b = subst (λ s. slot_value slots s < 2 ^ x.width) e b.fits

small_power : (w : ℕ) → w ≤ 64 → 2 ^ w ≤ 2 ^ 64
small_power w l = pow-le-pow_right (lit< tt) l

narrow_width : (slots : Slots) (k : ℕ) (x : Operand) → Has x k → IsBounded slots x → x.width ≤ 64
narrow_width slots k x e b = leb-true x.width 64 (sym b.kind ∙ ap is_narrow_slot e)

small : (slots : Slots) (k : ℕ) (x : Operand) → Has x k → IsBounded slots x → slice_index slots.narrow k < 2 ^ 64
small slots k x e b = omega (arith, below slots k x e b, small_power x.width (narrow_width slots k x e b))

-- a function of two operands
both : (slots : Slots) (k j : ℕ) (x y : Operand) (F : ℕ → ℕ → ℕ) → Has x k → Has y j → IsBounded slots x
    → IsBounded slots y
    → F (slice_index slots.narrow k) (slice_index slots.narrow j) ≡ F (operand_value slots x) (operand_value slots y)
both slots k j x y F e f b d =
    ap (λ p. F p (slice_index slots.narrow j)) (operand_is slots k x e b)
    ∙ ap (λ q. F (operand_value slots x) q) (operand_is slots j y f d)

is_narrow_kind : (w : ℕ) → w ≤ 64 → true ≡ is_narrow_width w
is_narrow_kind w l = sym (le-leb w 64 l)

-- ---- operators on two

pub and_quick : (w : ℕ) (signed : Bool) (x y : Operand) (t : Two) → w ≤ 64 → Has x t.left → Has y t.right
    → IsQuick w (calc.Binary op.And signed x y) (kind.And t)
and_quick w signed x y t l e f = record {
  fits = λ n m h. (narrow_fits n m t.left x e h.0, narrow_fits n m t.right y f h.1);
  kind = is_narrow_kind w l;
  value = λ words slots n m h b. both slots t.left t.right x y (λ p q. bit_and p q) e f b.0 b.1;
}

pub or_quick : (w : ℕ) (signed : Bool) (x y : Operand) (t : Two) → w ≤ 64 → Has x t.left → Has y t.right
    → IsQuick w (calc.Binary op.Or signed x y) (kind.Or t)
or_quick w signed x y t l e f = record {
  fits = λ n m h. (narrow_fits n m t.left x e h.0, narrow_fits n m t.right y f h.1);
  kind = is_narrow_kind w l;
  value = λ words slots n m h b. both slots t.left t.right x y (λ p q. bit_or p q) e f b.0 b.1;
}

pub xor_quick : (w : ℕ) (signed : Bool) (x y : Operand) (t : Two) → w ≤ 64 → Has x t.left → Has y t.right
    → IsQuick w (calc.Binary op.Xor signed x y) (kind.Xor t)
xor_quick w signed x y t l e f = record {
  fits = λ n m h. (narrow_fits n m t.left x e h.0, narrow_fits n m t.right y f h.1);
  kind = is_narrow_kind w l;
  value = λ words slots n m h b. both slots t.left t.right x y (λ p q. bit_xor p q) e f b.0 b.1;
}

pub sum_quick : (w : ℕ) (signed : Bool) (x y : Operand) (t : Two) (s : Sum) → w ≤ 64 → Has x t.left → Has y t.right
    → (s.left ≡ t.left) × (s.right ≡ t.right)
    → ((xs : List ℕ) → sum_value xs s ≡ ops.add w (slice_index xs t.left) (slice_index xs t.right))
    → IsQuick w (calc.Binary op.Add signed x y) (kind.Sum s)
sum_quick w signed x y t s l e f same is = record {
  fits = λ n m h. (
    subst (λ k. k < n) (sym same.0) (narrow_fits n m t.left x e h.0),
    subst (λ k. k < n) (sym same.1) (narrow_fits n m t.right y f h.1),
  );
  kind = is_narrow_kind w l;
  value = λ words slots n m h b. is slots.narrow
      ∙ both slots t.left t.right x y (λ p q. ops.add w p q) e f b.0 b.1
      ∙ ap (λ v. ops.add v (operand_value slots x) (operand_value slots y)) h.2;
}

pub same_quick : (w : ℕ) (signed : Bool) (x y : Operand) (t : Two) (s : Test) → w ≤ 64 → Has x t.left → Has y t.right
    → (s.of ≡ t.left) × (s.like ≡ t.right)
    → ((xs : List ℕ) → slice_index xs t.left < 2 ^ 64
    → test_value xs s ≡ ops.bit (slice_index xs t.left == slice_index xs t.right))
    → IsQuick w (calc.Binary op.Eq signed x y) (kind.Test s)
same_quick w signed x y t s l e f same is = record {
  fits = λ n m h. (
    subst (λ k. k < n) (sym same.0) (narrow_fits n m t.left x e h.0),
    subst (λ k. k < n) (sym same.1) (narrow_fits n m t.right y f h.1),
  );
  kind = is_narrow_kind w l;
  value = λ words slots n m h b. is slots.narrow (small slots t.left x e b.0)
      ∙ both slots t.left t.right x y (λ p q. ops.bit (p == q)) e f b.0 b.1;
}

pub differ_quick : (w : ℕ) (signed : Bool) (x y : Operand) (t : Two) (s : Test) → w ≤ 64 → Has x t.left
    → Has y t.right → (s.of ≡ t.left) × (s.like ≡ t.right)
    → ((xs : List ℕ) → slice_index xs t.left < 2 ^ 64
    → test_value xs s ≡ ops.bit (not (slice_index xs t.left == slice_index xs t.right)))
    → IsQuick w (calc.Binary op.Ne signed x y) (kind.Test s)
differ_quick w signed x y t s l e f same is = record {
  fits = λ n m h. (
    subst (λ k. k < n) (sym same.0) (narrow_fits n m t.left x e h.0),
    subst (λ k. k < n) (sym same.1) (narrow_fits n m t.right y f h.1),
  );
  kind = is_narrow_kind w l;
  value = λ words slots n m h b. is slots.narrow (small slots t.left x e b.0)
      ∙ both slots t.left t.right x y (λ p q. ops.bit (not (p == q))) e f b.0 b.1;
}

-- ---- conditions of one bit

one_and : (p q : ℕ) → p < 2 → q < 2 → bit_and p q ≡ ops.bit (ops.holds p && ops.holds q)
one_and zero zero l m = refl
one_and zero (suc zero) l m = refl
one_and (suc zero) zero l m = refl
one_and (suc zero) (suc zero) l m = refl
one_and (suc (suc p)) q l m = absurd (omega arith)
one_and zero (suc (suc q)) l m = absurd (omega arith)
one_and (suc zero) (suc (suc q)) l m = absurd (omega arith)

one_or : (p q : ℕ) → p < 2 → q < 2 → bit_or p q ≡ ops.bit (ops.holds p || ops.holds q)
one_or zero zero l m = refl
one_or zero (suc zero) l m = refl
one_or (suc zero) zero l m = refl
one_or (suc zero) (suc zero) l m = refl
one_or (suc (suc p)) q l m = absurd (omega arith)
one_or zero (suc (suc q)) l m = absurd (omega arith)
one_or (suc zero) (suc (suc q)) l m = absurd (omega arith)

one_pick_and : (p q : ℕ) → p < 2 → q < 2 → (if ops.holds p then q else p) ≡ bit_and p q
one_pick_and zero zero l m = refl
one_pick_and zero (suc zero) l m = refl
one_pick_and (suc zero) zero l m = refl
one_pick_and (suc zero) (suc zero) l m = refl
one_pick_and (suc (suc p)) q l m = absurd (omega arith)
one_pick_and zero (suc (suc q)) l m = absurd (omega arith)
one_pick_and (suc zero) (suc (suc q)) l m = absurd (omega arith)

one_pick_or : (p q : ℕ) → p < 2 → q < 2 → (if ops.holds p then p else q) ≡ bit_or p q
one_pick_or zero zero l m = refl
one_pick_or zero (suc zero) l m = refl
one_pick_or (suc zero) zero l m = refl
one_pick_or (suc zero) (suc zero) l m = refl
one_pick_or (suc (suc p)) q l m = absurd (omega arith)
one_pick_or zero (suc (suc q)) l m = absurd (omega arith)
one_pick_or (suc zero) (suc (suc q)) l m = absurd (omega arith)

-- an operand of one bit is 0 or 1
one_bit : (slots : Slots) (k : ℕ) (x : Operand) → Has x k → IsBounded slots x → x.width ≡ 1
    → operand_value slots x < 2
one_bit slots k x e b single =
    subst (λ v. operand_value slots x < 2 ^ v) single
    (subst (λ n. n < 2 ^ x.width) (operand_is slots k x e b) (below slots k x e b))

pub both_quick : (w : ℕ) (signed : Bool) (x y : Operand) (t : Two) → w ≤ 64 → Has x t.left → Has y t.right
    → x.width ≡ 1 → y.width ≡ 1 → IsQuick w (calc.Binary op.LogicAnd signed x y)
    (kind.Pick (record { condition = t.left; yes = t.right; no = t.left }))
both_quick w signed x y t l e f i j = record {
  fits = λ n m h. (
    narrow_fits n m t.left x e h.0,
    narrow_fits n m t.right y f h.1,
    narrow_fits n m t.left x e h.0,
  );
  kind = is_narrow_kind w l;
  value = λ words slots n m h b.
      let p : operand_value slots x < 2 = one_bit slots t.left x e b.0 i in
      let q : operand_value slots y < 2 = one_bit slots t.right y f b.1 j in
      both slots t.left t.right x y (λ p q. if ops.holds p then q else p) e f b.0 b.1
      ∙ one_pick_and (operand_value slots x) (operand_value slots y) p q
      ∙ one_and (operand_value slots x) (operand_value slots y) p q;
}

pub either_quick : (w : ℕ) (signed : Bool) (x y : Operand) (t : Two) → w ≤ 64 → Has x t.left → Has y t.right
    → x.width ≡ 1 → y.width ≡ 1 → IsQuick w (calc.Binary op.LogicOr signed x y)
    (kind.Pick (record { condition = t.left; yes = t.left; no = t.right }))
either_quick w signed x y t l e f i j = record {
  fits = λ n m h. (
    narrow_fits n m t.left x e h.0,
    narrow_fits n m t.left x e h.0,
    narrow_fits n m t.right y f h.1,
  );
  kind = is_narrow_kind w l;
  value = λ words slots n m h b.
      let p : operand_value slots x < 2 = one_bit slots t.left x e b.0 i in
      let q : operand_value slots y < 2 = one_bit slots t.right y f b.1 j in
      both slots t.left t.right x y (λ p q. if ops.holds p then p else q) e f b.0 b.1
      ∙ one_pick_or (operand_value slots x) (operand_value slots y) p q
      ∙ one_or (operand_value slots x) (operand_value slots y) p q;
}

-- on operands of one bit `&` and `|` are choices by the left one
pub and_one_quick : (w : ℕ) (signed : Bool) (x y : Operand) (t : Two) → w ≤ 64 → w ≡ 1 → Has x t.left → Has y t.right
    → IsQuick w (calc.Binary op.And signed x y)
    (kind.Pick (record { condition = t.left; yes = t.right; no = t.left }))
and_one_quick w signed x y t l single e f = record {
  fits = λ n m h. (
    narrow_fits n m t.left x e h.0,
    narrow_fits n m t.right y f h.1,
    narrow_fits n m t.left x e h.0,
  );
  kind = is_narrow_kind w l;
  value = λ words slots n m h b.
      let i : x.width ≡ 1 = sym h.2 ∙ single in let j : y.width ≡ 1 = sym (h.3 refl) ∙ i in
      both slots t.left t.right x y (λ p q. if ops.holds p then q else p) e f b.0 b.1
      ∙ one_pick_and (operand_value slots x) (operand_value slots y) (one_bit slots t.left x e b.0 i)
      (one_bit slots t.right y f b.1 j);
}

pub or_one_quick : (w : ℕ) (signed : Bool) (x y : Operand) (t : Two) → w ≤ 64 → w ≡ 1 → Has x t.left → Has y t.right
    → IsQuick w (calc.Binary op.Or signed x y)
    (kind.Pick (record { condition = t.left; yes = t.left; no = t.right }))
or_one_quick w signed x y t l single e f = record {
  fits = λ n m h. (
    narrow_fits n m t.left x e h.0,
    narrow_fits n m t.left x e h.0,
    narrow_fits n m t.right y f h.1,
  );
  kind = is_narrow_kind w l;
  value = λ words slots n m h b.
      let i : x.width ≡ 1 = sym h.2 ∙ single in let j : y.width ≡ 1 = sym (h.3 refl) ∙ i in
      both slots t.left t.right x y (λ p q. if ops.holds p then p else q) e f b.0 b.1
      ∙ one_pick_or (operand_value slots x) (operand_value slots y) (one_bit slots t.left x e b.0 i)
      (one_bit slots t.right y f b.1 j);
}

-- ---- operators on one

and_none : (n : ℕ) → bit_and n 0 ≡ 0
and_none n = and_mask n 0 ∙ mod-one n

-- a test whether an operand is 0, or whether it isn't
zero_quick : (w k : ℕ) (x : Operand) (r : Unary) (d : Bool) → w ≤ 64 → Has x k
    → ((n : ℕ) → n < 2 ^ x.width → ops.bit (if d then not (0 == n) else (0 == n)) ≡ applied.unary r x.width n)
    → IsQuick w (calc.Unary r x) (kind.Test (record { of = k; like = k; mask = 0; differs = d }))
zero_quick w k x r d l e means = record {
  fits = λ n m h. (narrow_fits n m k x e h.0, narrow_fits n m k x e h.0);
  kind = is_narrow_kind w l;
  value = λ words slots n m h b.
      let own : ℕ = slice_index slots.narrow k in
      ap (λ z. ops.bit (if d then not (z == own) else (z == own))) (and_none own)
      ∙ means own (below slots k x e b) ∙ ap (λ v. applied.unary r x.width v) (operand_is slots k x e b);
}

turned : (n : ℕ) → (0 == n) ≡ (n == 0)
turned n = elim (cases_eq n 0) [
  | inl e ↦ eq-eqb 0 n (sym e) ∙ sym (eq-eqb n 0 e)
  | inr some ↦ ne_eqb 0 n (λ e. some (sym e)) ∙ sym (ne_eqb n 0 some)
]

not_not : (b : Bool) → b ≡ not (not b)
not_not true = refl
not_not false = refl

is_zero : (n : ℕ) → ops.bit (0 == n) ≡ ops.bit (not (ops.holds n))
is_zero n = ap (λ b. ops.bit b) (turned n ∙ not_not (n == 0))

is_not_zero : (n : ℕ) → ops.bit (not (0 == n)) ≡ ops.bit (ops.holds n)
is_not_zero n = ap (λ b. ops.bit (not b)) (turned n)

one_inverted : (n : ℕ) → n < 2 → ops.bit (0 == n) ≡ 1 - n
one_inverted zero l = refl
one_inverted (suc zero) l = refl
one_inverted (suc (suc n)) l = absurd (omega arith)

pub logic_not_quick : (w k : ℕ) (x : Operand) → w ≤ 64 → Has x k
    → IsQuick w (calc.Unary one.LogicNot x) (kind.Test (record { of = k; like = k; mask = 0; differs = false }))
logic_not_quick w k x l e = zero_quick w k x one.LogicNot false l e (λ n m. is_zero n)

pub nor_quick : (w k : ℕ) (x : Operand) → w ≤ 64 → Has x k
    → IsQuick w (calc.Unary one.Nor x) (kind.Test (record { of = k; like = k; mask = 0; differs = false }))
nor_quick w k x l e = zero_quick w k x one.Nor false l e (λ n m. is_zero n)

pub or_all_quick : (w k : ℕ) (x : Operand) → w ≤ 64 → Has x k
    → IsQuick w (calc.Unary one.Or x) (kind.Test (record { of = k; like = k; mask = 0; differs = true }))
or_all_quick w k x l e = zero_quick w k x one.Or true l e (λ n m. is_not_zero n)

pub not_quick : (w k : ℕ) (x : Operand) → w ≤ 64 → Has x k → x.width ≡ 1
    → IsQuick w (calc.Unary one.Not x) (kind.Test (record { of = k; like = k; mask = 0; differs = false }))
not_quick w k x l e single =
    zero_quick w k x one.Not false l e (λ n m.
    one_inverted n (subst (λ v. n < 2 ^ v) single m) ∙ ap (λ v. ops.invert v n) (sym single))

-- ---- the others

pub pick_quick : (w : ℕ) (z x y : Operand) (p : Pick) → w ≤ 64 → Has z p.condition → Has x p.yes → Has y p.no
    → IsQuick w (calc.Choose z x y) (kind.Pick p)
pick_quick w z x y p l g e f = record {
  fits = λ n m h. (
    narrow_fits n m p.condition z g h.0,
    narrow_fits n m p.yes x e h.1,
    narrow_fits n m p.no y f h.2,
  );
  kind = is_narrow_kind w l;
  value = λ words slots n m h b.
      ap (λ c. if ops.holds c then slice_index slots.narrow p.yes else slice_index slots.narrow p.no)
      (operand_is slots p.condition z g b.0)
      ∙ both slots p.yes p.no x y (λ q r. if ops.holds (operand_value slots z) then q else r) e f b.1 b.2;
}

pub join_quick : (w : ℕ) (x y : Operand) (t : Two) (s : Join) → w ≤ 64 → Has x t.left → Has y t.right
    → (s.high ≡ t.left) × (s.low ≡ t.right)
    → ((xs : List ℕ) → slice_index xs t.left * 2 ^ y.width < 2 ^ 64 → slice_index xs t.right < 2 ^ y.width
    → join_value xs s ≡ ops.concat y.width (slice_index xs t.left) (slice_index xs t.right))
    → IsQuick w (calc.Concat x y) (kind.Join s)
join_quick w x y t s l e f same is = record {
  fits = λ n m h. (
    subst (λ k. k < n) (sym same.0) (narrow_fits n m t.left x e h.0),
    subst (λ k. k < n) (sym same.1) (narrow_fits n m t.right y f h.1),
  );
  kind = is_narrow_kind w l;
  value = λ words slots n m h b.
      let shifted : slice_index slots.narrow t.left * 2 ^ y.width < 2 ^ (x.width + y.width) =
      shl_below (slice_index slots.narrow t.left) x.width y.width (below slots t.left x e b.0) in
      let room : x.width + y.width ≤ 64 = omega (arith, h.2) in
      is slots.narrow (omega (arith, shifted, small_power (x.width + y.width) room)) (below slots t.right y f b.1)
      ∙ both slots t.left t.right x y (λ p q. ops.concat y.width p q) e f b.0 b.1;
}

-- the low bits, and the whole operand at a larger width, are so many bits from 0 on
low_is : (slots : Slots) (w k : ℕ) (x : Operand) → Has x k → IsBounded slots x
    → ops.select (pos 0) w (slice_index slots.narrow k) ≡ ops.low w (operand_value slots x)
low_is slots w k x e b =
    ap (λ v. ops.low w v) (div-one (slice_index slots.narrow k)) ∙ ap (λ v. ops.low w v) (operand_is slots k x e b)

take_fits : (n m k : ℕ) (x : Operand) (s : Take) → Has x k → (s.of ≡ k) × (s.from ≡ 0) → OperandFits n m x
    → (s.of < n) × (s.from < 64)
take_fits n m k x s e same h = (
  subst (λ j. j < n) (sym same.0) (narrow_fits n m k x e h),
  omega (arith, same.1),
)

pub cut_quick : (w k : ℕ) (x : Operand) (s : Take) → w ≤ 64 → Has x k → (s.of ≡ k) × (s.from ≡ 0)
    → ((xs : List ℕ) → take_value xs s ≡ ops.select (pos 0) w (slice_index xs k))
    → IsQuick w (calc.Cut x) (kind.Take s)
cut_quick w k x s l e same is = record {
  fits = λ n m h. take_fits n m k x s e same h.0;
  kind = is_narrow_kind w l;
  value = λ words slots n m h b. is slots.narrow ∙ low_is slots w k x e b;
}

pub extend_quick : (w k : ℕ) (x : Operand) (s : Take) → w ≤ 64 → Has x k → (s.of ≡ k) × (s.from ≡ 0)
    → ((xs : List ℕ) → take_value xs s ≡ ops.select (pos 0) w (slice_index xs k))
    → IsQuick w (calc.Extend false x) (kind.Take s)
extend_quick w k x s l e same is = record {
  fits = λ n m h. take_fits n m k x s e same h.0;
  kind = is_narrow_kind w l;
  value = λ words slots n m h b. is slots.narrow ∙ low_is slots w k x e b;
}

pub rare_quick : (w : ℕ) (r : Calculation) → IsWidth w → IsQuick w r (kind.Rare (record { width = w; calculation = r }))
rare_quick w r wide = record {
  fits = λ n m h. (wide, h);
  kind = refl;
  value = λ words slots n m h b. refl;
}
