-- What nodes are worth where they are evaluated, kind by kind.
use Rattle.std.proofs.Common.{◌≡◌, refl, sym, ap, ◌∙◌, subst, ℕ, zero, suc, ◌^◌, ◌<◌, ◌≤◌, Bool, true, List, [], ◌∷◌, map, length, get_or, arith, if◌then◌else◌}
use Rattle.std.specs.Prelude.{◌&&◌, Result, Ok, Err}
use Rattle.std.proofs.Math.Nat.{mod-eq_of_lt}
use Rattle.std.proofs.lemmas.Bool.Decides.{nat_tests}
use Rattle.dt_core.specs.declared.bits.Bits.{Bits}
use Rattle.bit_ops.specs.Operators.{low, extend, concat}
use Rattle.bit_ops.specs.Operators as ops
use Rattle.bit_ops.specs.Applied as applied
use Rattle.vl_value.specs.Things as things
use Rattle.vl_value.specs.Things.{width_of}
use Rattle.vl_value.specs.Meaning as m
use Rattle.vl_value.specs.Meaning.{Meaning}
use Rattle.vl_width.specs.declared.shape.Shape.{Shape}
use Rattle.vl_width.specs.declared.size.Size.{Size}
use Rattle.vl_width.specs.Objects.{Numbering, plain_shape}
use Rattle.vl_width.specs.Terms.{At}
use Rattle.vl_sized.specs.declared.node.SizedNode.{SizedNode}
use Rattle.vl_sized.specs.declared.node.Test.{Test}
use Rattle.vl_sized.specs.declared.node.Step.{Step}
use Rattle.vl_sized.specs.declared.node.Case.{Case}
use Rattle.vl_sized.specs.declared.node.Node.{Node}
use Rattle.vl_sized.specs.declared.node.Node.TheVariants as n
use Rattle.vl_sized.specs.Moments.{Moment}
use Rattle.vl_sized.specs.Nodes.{worth, at_of, right_of, among}
use Rattle.vl_sized.specs.Parts.{sized_by, case_by}
use Rattle.vl_sized.specs.Plain.{meaning_of, run_steps, run_tests, test_at}
use Rattle.vl_sized.specs.Worth.{IsAtSize}
use Rattle.vl_sized.proofs.NodeViews as view

-- another value that is the same at this size
pub same_at : {E : Type 0} (r : Result Bits E) (sz : Size) (a b : At) → a sz.width sz.signed ≡ b sz.width sz.signed → IsAtSize r sz a → IsAtSize r sz b
same_at (Ok x) sz a b e h = (h.0, h.1 ∙ e)
same_at (Err x) sz a b e h = tt

worth_map : (ns : Numbering) (t : Moment) (xs : List (SizedNode Node)) → map worth (map (sized_by (at_of ns t)) xs) ≡ map (meaning_of ns t) xs
worth_map ns t [] = refl
worth_map ns t (x ∷ xs) = ap (λ (l : List Meaning). meaning_of ns t x ∷ l) (worth_map ns t xs)

pub at_call : (ns : Numbering) (t : Moment) (k : ℕ) (sh : Shape) (xs : List (SizedNode Node)) (shs : List Shape) (w : ℕ) (s : Bool)
    → at_of ns t (n.Call k sh xs shs) w s
    ≡ extend (sh.signed && s) (width_of (plain_shape sh)) w (t.calls (ns.functions k) (m.arguments (map plain_shape shs) (map (meaning_of ns t) xs)))
at_call ns t k sh xs shs w s =
    (λ i. view.at-call ns t k sh xs shs i w s)
    ∙ ap (λ (l : List Meaning). (m.operand (width_of (plain_shape sh)) sh.signed (t.calls (ns.functions k) (m.arguments (map plain_shape shs) l))).at w s)
    (worth_map ns t xs)

pub at_concat : (ns : Numbering) (t : Moment) (xs : List (SizedNode Node)) (w : ℕ) (s : Bool)
    → at_of ns t (n.Concat xs) w s ≡ low w (m.joined (map (meaning_of ns t) xs))
at_concat ns t xs w s = (λ i. view.at-concat ns t xs i w s) ∙ ap (λ (l : List Meaning). (m.braces l).at w s) (worth_map ns t xs)

pub at_copies : (ns : Numbering) (t : Moment) (k : ℕ) (xs : List (SizedNode Node)) (w : ℕ) (s : Bool)
    → at_of ns t (n.Copies k xs) w s
    ≡ low w (m.repeated k (m.widths (map (meaning_of ns t) xs)) (low (m.widths (map (meaning_of ns t) xs)) (m.joined (map (meaning_of ns t) xs))))
at_copies ns t k xs w s = (λ i. view.at-copies ns t k xs i w s) ∙ ap (λ (l : List Meaning). (m.copies k (m.braces l)).at w s) (worth_map ns t xs)

pub at_chain : (ns : Numbering) (t : Moment) (a : Node) (ks : List (Step Node)) (w : ℕ) (s : Bool)
    → at_of ns t (n.Chain a ks) w s ≡ run_steps ns t w s (at_of ns t a w s) ks
at_chain ns t a ks w s = λ i. view.at-chain ns t a ks i w s

pub at_choose : (ns : Numbering) (t : Moment) (ks : List (Case Node)) (b : Node) (w : ℕ) (s : Bool)
    → at_of ns t (n.Choose ks b) w s ≡ among (map (case_by (at_of ns t)) ks) (at_of ns t b) w s
at_choose ns t ks b w s = λ i. view.at-choose ns t ks b i w s

-- ---- tests

-- the bits of a first operand at the size at which it is taken do for the operand
pub first_test : (ns : Numbering) (t : Moment) (a : At) (v : ℕ) (ks : List (Test Node)) (k : Test Node) → 0 < length ks → k ≡ get_or ks 0 k
    → v ≡ a k.left.width k.left.signed → v < 2 ^ k.left.width → run_tests ns t (m.unsigned 1 v).at ks ≡ run_tests ns t a ks
first_test ns t a v [] k some e h fits = absurd (omega arith)
first_test ns t a v (j ∷ ks) k some e h fits =
    let same : j ≡ k = sym e in
    let is : v ≡ a j.left.width j.left.signed = h ∙ ap (λ (x : Test Node). a x.left.width x.left.signed) (sym same) in
    let few : v < 2 ^ j.left.width = subst (λ (x : Test Node). v < 2 ^ x.left.width) (sym same) fits in
    ap (λ i. run_tests ns t (m.unsigned 1 (applied.binary j.operator j.left.signed j.left.width i (right_of (test_at ns t j)))).at ks) (mod-eq_of_lt few ∙ is)

pub no_test : (ns : Numbering) (t : Moment) (a : At) (ks : List (Test Node)) → length ks ≤ 0 → run_tests ns t a ks ≡ a
no_test ns t a [] e = refl
no_test ns t a (k ∷ ks) e = absurd (omega arith)

-- ---- cases

case_true : (c : ℕ) (x y : ℕ) → (c ≡ 0 → ⊥) → (if ops.holds c then x else y) ≡ x
case_true zero x y h = absurd (h refl)
case_true (suc c) x y h = let holds : ops.holds (suc c) ≡ true = grind (arith, nat_tests) in ap (λ b. if b then x else y) holds

case_false : (c : ℕ) (x y : ℕ) → c ≡ 0 → (if ops.holds c then x else y) ≡ y
case_false zero x y h = refl
case_false (suc c) x y h = absurd cc

-- a condition that holds, and one that doesn't
pub taken_case : (f : Node → At) (k : Case Node) (ks : List (Case Node)) (last : At) (c : ℕ) (w : ℕ) (s : Bool)
    → c ≡ f k.condition.node k.condition.size.width k.condition.size.signed → (c ≡ 0 → ⊥)
    → among (map (case_by f) (k ∷ ks)) last w s ≡ f k.value.node w s
taken_case f k ks last c w s e h =
    ap (λ i. if ops.holds i then f k.value.node w s else among (map (case_by f) ks) last w s) (sym e)
    ∙ case_true c (f k.value.node w s) (among (map (case_by f) ks) last w s) h

pub passed_case : (f : Node → At) (k : Case Node) (ks : List (Case Node)) (last : At) (c : ℕ) (w : ℕ) (s : Bool)
    → c ≡ f k.condition.node k.condition.size.width k.condition.size.signed → c ≡ 0
    → among (map (case_by f) (k ∷ ks)) last w s ≡ among (map (case_by f) ks) last w s
passed_case f k ks last c w s e h =
    ap (λ i. if ops.holds i then f k.value.node w s else among (map (case_by f) ks) last w s) (sym e)
    ∙ case_false c (f k.value.node w s) (among (map (case_by f) ks) last w s) h

-- ---- arguments

pub none_to_take : (shs : List things.Shape) → m.arguments shs [] ≡ []
none_to_take [] = refl
none_to_take (sh ∷ shs) = refl
