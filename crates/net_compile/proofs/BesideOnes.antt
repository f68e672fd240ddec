-- Reductions as comparisons with ones.
use Rattle.std.proofs.Common.{◌≡◌, ℕ, ◌-◌, ◌^◌, ◌<◌, ◌==◌, not, false, List, sym, ap, ◌∙◌, subst, arith}
use Rattle.std.proofs.lemmas.Nat.{pow_pos}
use Rattle.bit_ops.specs.Operators as ops
use Rattle.bit_ops.specs.declared.operator.Unary.{Unary}
use Rattle.bit_ops.specs.declared.operator.Unary.TheVariants as one
use Rattle.bit_ops.specs.declared.operator.Binary.{Binary}
use Rattle.bit_ops.specs.declared.operator.Binary.TheVariants as two
use Rattle.netlist.specs.Design.{Flat}
use Rattle.netlist.specs.Run.{all_words}
use Rattle.netlist.specs.declared.node.Operation.{Operation}
use Rattle.step_program.specs.Values.{operand_value, is_narrow_width}
use Rattle.step_program.specs.Fits.{IsWidth}
use Rattle.step_program.specs.Draft.{Draft, IsGiven, HasStep, value_in}
use Rattle.step_program.specs.declared.step.Operand.{Operand}
use Rattle.step_program.specs.declared.step.Calculation.{Calculation}
use Rattle.step_program.specs.declared.step.Calculation.TheVariants as calc
use Rattle.net_compile.specs.Cycle.{Front, Cycle}
use Rattle.net_compile.specs.Stands.{Begins}
use Rattle.net_compile.specs.Lowered.{Mirrors, IsBesideOnes, ComparesOnes}
use Rattle.net_compile.specs.Quick.{IsBounded}
use Rattle.net_compile.proofs.Numbers.{same_low}
use Rattle.net_compile.proofs.Calculations.{reached}
use Rattle.net_compile.proofs.Standing.{rare, given_of}

few_ones : (w : ℕ) → 2 ^ w - 1 < 2 ^ w
few_ones w = omega (arith, pow_pos w)

-- what the slots of a cycle hold once there is a slot with ones
record Beside (f : Flat) (front : Front) (a b : Draft) (y z : Operand) (c : Cycle f front) : Type 0 where
  same : operand_value (reached f front b c) y ≡ operand_value (reached f front a c) y
  ones : operand_value (reached f front b c) z ≡ 2 ^ y.width - 1
  first : IsBounded (reached f front b c) y
  second : IsBounded (reached f front b c) z

beside : (f : Flat) (front : Front) (a b : Draft) (y z : Operand) → Begins front a → z.width ≡ y.width
    → HasStep a b (rare y.width (calc.Constant (2 ^ y.width - 1))) z.slot
    → (w : ℕ) (x : Operation) (r : Unary) → Mirrors f front a w x (calc.Unary r y) → (c : Cycle f front)
    → Beside f front a b y z c
beside f front a b y z i e h w x r m c =
    let words : List (List ℕ) = all_words f.memories c.state.memories in
    let given : IsGiven a.narrow a.wide c.given = given_of f front a i c in
    let stays : value_in b words c.given y.slot ≡ value_in a words c.given y.slot =
    h.same words c.given y.slot given m.fits.0.0 in
    let is : value_in b words c.given z.slot ≡ 2 ^ y.width - 1 = h.value words c.given given in
    record {
      same = ap (λ n. ops.low y.width n) stays;
      ones = ap (λ v. ops.low v (value_in b words c.given z.slot)) e ∙ ap (λ n. ops.low y.width n) is
          ∙ same_low y.width (2 ^ y.width - 1) (few_ones y.width);
      first = record {
        fits = subst (λ n. n < 2 ^ y.width) (sym stays) (m.bounded c).fits;
        kind = (m.bounded c).kind;
      };
      second = record {
        fits = subst (λ v. value_in b words c.given z.slot < 2 ^ v) (sym e)
            (subst (λ n. n < 2 ^ y.width) (sym is) (few_ones y.width));
        kind = h.kind ∙ ap is_narrow_width (sym e);
      };
    }

all_mirrors : (f : Flat) (front : Front) (a b : Draft) (y z : Operand) → Begins front a → IsWidth y.width
    → z.width ≡ y.width → HasStep a b (rare y.width (calc.Constant (2 ^ y.width - 1))) z.slot
    → (w : ℕ) (x : Operation) → Mirrors f front a w x (calc.Unary one.And y)
    → Mirrors f front b w x (calc.Binary two.Eq false y z)
all_mirrors f front a b y z i wide e h w x m = record {
  fits = (
    (h.still_placed y.slot m.fits.0.0, m.fits.0.1),
    (h.placed, subst IsWidth (sym e) wide),
    m.fits.1,
    λ one. sym e,
  );
  bounded = λ c.
      let s : Beside f front a b y z c = beside f front a b y z i e h w x one.And m c in
      (s.first, s.second);
  value = λ c.
      let s : Beside f front a b y z c = beside f front a b y z i e h w x one.And m c in
      ap (λ n. ops.bit (n == operand_value (reached f front b c) z)) s.same
      ∙ ap (λ n. ops.bit (operand_value (reached f front a c) y == n)) s.ones ∙ m.value c;
}

some_mirrors : (f : Flat) (front : Front) (a b : Draft) (y z : Operand) → Begins front a → IsWidth y.width
    → z.width ≡ y.width → HasStep a b (rare y.width (calc.Constant (2 ^ y.width - 1))) z.slot
    → (w : ℕ) (x : Operation) → Mirrors f front a w x (calc.Unary one.Nand y)
    → Mirrors f front b w x (calc.Binary two.Ne false y z)
some_mirrors f front a b y z i wide e h w x m = record {
  fits = (
    (h.still_placed y.slot m.fits.0.0, m.fits.0.1),
    (h.placed, subst IsWidth (sym e) wide),
    m.fits.1,
    λ one. sym e,
  );
  bounded = λ c.
      let s : Beside f front a b y z c = beside f front a b y z i e h w x one.Nand m c in
      (s.first, s.second);
  value = λ c.
      let s : Beside f front a b y z c = beside f front a b y z i e h w x one.Nand m c in
      ap (λ n. ops.bit (not (n == operand_value (reached f front b c) z))) s.same
      ∙ ap (λ n. ops.bit (not (operand_value (reached f front a c) y == n))) s.ones ∙ m.value c;
}

-- what is beside ones has the value of the reduction
pub with_ones : (a b : Draft) (y : Operand) (r : Calculation) (u : Unary) (op : Binary) → ComparesOnes u op → IsWidth y.width
    → IsBesideOnes a b op y r → (w : ℕ) (f : Flat) (front : Front) (x : Operation) → Begins front a
    → Mirrors f front a w x (calc.Unary u y) → Mirrors f front b w x r
with_ones a b y r one.And op e wide is w f front x i m =
    subst (λ s. Mirrors f front b w x s) (sym (is.2 ∙ ap (λ (p : Binary). calc.Binary p false y is.0) e))
    (all_mirrors f front a b y is.0 i wide is.1 is.3 w x m)
with_ones a b y r one.Nand op e wide is w f front x i m =
    subst (λ s. Mirrors f front b w x s) (sym (is.2 ∙ ap (λ (p : Binary). calc.Binary p false y is.0) e))
    (some_mirrors f front a b y is.0 i wide is.1 is.3 w x m)
with_ones a b y r one.Plus op e wide is w f front x i m = absurd e
with_ones a b y r one.Minus op e wide is w f front x i m = absurd e
with_ones a b y r one.Not op e wide is w f front x i m = absurd e
with_ones a b y r one.LogicNot op e wide is w f front x i m = absurd e
with_ones a b y r one.Or op e wide is w f front x i m = absurd e
with_ones a b y r one.Nor op e wide is w f front x i m = absurd e
with_ones a b y r one.Xor op e wide is w f front x i m = absurd e
with_ones a b y r one.Xnor op e wide is w f front x i m = absurd e
