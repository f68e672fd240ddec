-- Nodes that have the value of another one in each cycle.
use Rattle.std.proofs.Common.{◌≡◌, ℕ, zero, suc, ◌^◌, ◌<◌, ◌≤◌, ◌&&◌, List, take, refl, sym, ap, ◌∙◌, subst, arith, lit<, false}
use Rattle.std.specs.Prelude.{Option, Some, None, slice_get, slice_index, slice_index_or, IfSome}
use Rattle.std.proofs.Math.Nat.{pow-le-pow_right}
use Rattle.bit_ops.specs.Operators as ops
use Rattle.bit_ops.specs.Applied as applied
use Rattle.bit_ops.specs.declared.operator.Unary.TheVariants as one
use Rattle.bit_ops.specs.declared.operator.Binary.TheVariants as two
use Rattle.netlist.specs.Design.{Flat}
use Rattle.netlist.specs.Fits.{IsWellFormed, HasNode}
use Rattle.netlist.specs.Laws.{ValuesLaw}
use Rattle.netlist.specs.Values.{Values, width_at, node_values, operation_value}
use Rattle.netlist.specs.declared.node.Node.{Node}
use Rattle.netlist.specs.declared.node.Operation.TheVariants as o
use Rattle.step_program.specs.Values.{is_narrow_width}
use Rattle.step_program.specs.Draft.{Draft}
use Rattle.step_program.specs.declared.step.Slot.{Slot}
use Rattle.net_compile.specs.Cycle.{Front}
use Rattle.net_compile.specs.Stands.{Stands, NodesStand, operation_number}
use Rattle.net_compile.specs.Lowered.{IsNodeOf, IsAlwaysOne, IsBoth, HaveOneKind, IsSameAs}
use Rattle.net_compile.proofs.Numbers.{same_low}
use Rattle.net_compile.proofs.Fitting.{read_width}
use Rattle.net_compile.proofs.Nodes.{node_wide, fits_as}
use Rattle.net_compile.proofs.Standing.{if_some}

-- ---- nodes that are 1

pub one_value : (f : Flat) → IsWellFormed f → ValuesLaw → (n : ℕ) (x : Node) → slice_get f.nodes n ≡ Some x
    → x.operation ≡ o.Constant 1 → IsAlwaysOne f n
one_value f w law n x at e v =
    (law.are f v w).each n x at ∙ ap (λ q. operation_value f v (node_values f v) x.width q) e

right_of_one : (n : ℕ) → n < 2 → ops.bit (ops.holds 1 && ops.holds n) ≡ n
right_of_one zero l = refl
right_of_one (suc zero) l = refl
right_of_one (suc (suc n)) l = absurd (omega arith)

left_of_one : (n : ℕ) → n < 2 → ops.bit (ops.holds n && ops.holds 1) ≡ n
left_of_one zero l = refl
left_of_one (suc zero) l = refl
left_of_one (suc (suc n)) l = absurd (omega arith)

pub right_is_both : (f : Flat) (left right : ℕ) → IsAlwaysOne f left → width_at f.nodes right ≡ 1
    → IsBoth f left right right
right_is_both f left right is w = record {
  width = w;
  value = λ v l. ap (λ n. ops.bit (ops.holds n && ops.holds (slice_index (node_values f v) right))) (is v)
      ∙ right_of_one (slice_index (node_values f v) right) l;
}

pub left_is_both : (f : Flat) (left right : ℕ) → IsAlwaysOne f right → width_at f.nodes left ≡ 1
    → IsBoth f left right left
left_is_both f left right is w = record {
  width = w;
  value = λ v l. ap (λ n. ops.bit (ops.holds (slice_index (node_values f v) left) && ops.holds n)) (is v)
      ∙ left_of_one (slice_index (node_values f v) left) l;
}

-- ---- operations

wider_power : (v w : ℕ) → v ≤ w → 2 ^ v ≤ 2 ^ w
wider_power v w l = pow-le-pow_right (lit< tt) l

same_width : (f : Flat) (x : Node) (k : ℕ) → width_at f.nodes k ≡ x.width
    → ((v : Values) → operation_value f v (node_values f v) x.width x.operation ≡ slice_index (node_values f v) k)
    → IsSameAs f x k
same_width f x k e value = record {
  kind = ap is_narrow_width e;
  less = omega (arith, e);
  value = λ v l. value v;
}

pub kept_is : (f : Flat) (x : Node) (a b : ℕ) → IsNodeOf f x → x.operation ≡ o.Keep a b → IsSameAs f x a
kept_is f x a b h e =
    let fits = fits_as f x (o.Keep a b) h e in
    same_width f x a (read_width f.nodes fits.0 a (λ v. v ≡ x.width) fits.1.0)
    (λ v. ap (λ q. operation_value f v (node_values f v) x.width q) e)

pub plus_is : (f : Flat) (x : Node) (a : ℕ) → IsNodeOf f x → x.operation ≡ o.Unary one.Plus a → IsSameAs f x a
plus_is f x a h e =
    let fits = fits_as f x (o.Unary one.Plus a) h e in
    same_width f x a (sym (read_width f.nodes fits.0 a (λ v. x.width ≡ v) fits.1))
    (λ v. ap (λ q. operation_value f v (node_values f v) x.width q) e)

pub extended_is : (f : Flat) (x : Node) (a : ℕ) → IsNodeOf f x → x.operation ≡ o.Extend false a
    → HaveOneKind f a x.width → IsSameAs f x a
extended_is f x a h e kind =
    let fits = fits_as f x (o.Extend false a) h e in
    let less : width_at f.nodes a ≤ x.width = read_width f.nodes fits.0 a (λ v. v ≤ x.width) fits.1 in
    record {
      kind = kind;
      less = less;
      value = λ v l. ap (λ q. operation_value f v (node_values f v) x.width q) e
          ∙ same_low x.width (slice_index (node_values f v) a) (omega (arith, l, wider_power (width_at f.nodes a) x.width less));
    }

pub both_is : (f : Flat) (x : Node) (signed : _) (a b k : ℕ) → IsNodeOf f x
    → x.operation ≡ o.Binary two.LogicAnd signed a b → IsBoth f a b k → IsSameAs f x k
both_is f x signed a b k h e is =
    let fits = fits_as f x (o.Binary two.LogicAnd signed a b) h e in
    let own : x.width ≡ 1 = (read_width f.nodes fits.0 a (λ v. (x.width ≡ applied.binary_width two.LogicAnd v)
    × HasNode (take fits.0 f.nodes) b (λ u. applied.takes_one_width two.LogicAnd ≡ _ → v ≡ u)) fits.1).0 in
    record {
      kind = ap is_narrow_width (is.width ∙ sym own);
      less = omega (arith, is.width, own);
      value = λ v l. ap (λ q. operation_value f v (node_values f v) x.width q) e
          ∙ is.value v (subst (λ w. slice_index (node_values f v) k < 2 ^ w) is.width l);
    }

-- ---- slots

pub same_lowered : (f : Flat) (front : Front) (d : Draft) (slots : List (Option Slot)) (x : Node) (k : ℕ)
    (slot : Option Slot) → IsNodeOf f x → IsSameAs f x k → NodesStand f front d slots
    → slot ≡ slice_index_or slots k None
    → IfSome slot (λ s. Stands f front d s x.width (operation_number f front x.width x.operation))
same_lowered f front d slots x k slot h same nodes is =
    if_some slot (λ s. Stands f front d s x.width (operation_number f front x.width x.operation)) (λ s q.
    let own = nodes k s (sym is ∙ q) in
    record {
      there = record { placed = own.there.placed; kind = own.there.kind ∙ same.kind };
      wide = node_wide f x h;
      value = λ c. own.value c ∙ sym (same.value c.values (own.fits c));
      fits = λ c. subst (λ n. n < 2 ^ x.width) (sym (same.value c.values (own.fits c)))
          (omega (arith, own.fits c, wider_power (width_at f.nodes k) x.width same.less));
    })
