-- How large trees are: in the walk each call goes into a smaller one, or into an instance that may hold fewer others.
use Rattle.std.proofs.Common.{◌≡◌, sym, ap, subst, ℕ, zero, suc, ◌+◌, ◌-◌, ◌*◌, ◌<◌, ◌≤◌, Bool, true, false, if◌then◌else◌, List, [], ◌∷◌, arith, length, get_or}
use Rattle.std.specs.Prelude.{Option, Some, None, bytes_eq}
use Rattle.vl_tree.specs.Syntax as t
use Rattle.vl_tree.specs.Syntax.{Source}
use Rattle.vl_tree.specs.SyntaxView as view
use Rattle.vl_tree.specs.declared.item.Item.{Item}
use Rattle.vl_value.specs.Meaning.{Meaning, true_of}
use Rattle.vl_value.specs.Paths.{Text}
use Rattle.vl_value.specs.Order as order
use Rattle.vl_design.specs.Constants.{Known, value_of, needs}
use Rattle.vl_design.specs.Scopes.{body_items, module_at}
use Rattle.vl_views.specs.Blocks.{items_of}
use Rattle.vl_generate.specs.Choices.{Taken, by_condition, last_taken, taken_of, takes}

abbrev mutual
  pub item_weight : t.Item → ℕ
  item_weight (t.region p is) = suc (items_weight is)
  item_weight (t.generate_loop p l b) = 4 + block_weight b
  item_weight (t.generate_if bs e) = 4 + (branches_weight bs + else_weight e)
  item_weight (t.instances x ps is) = 4
  item_weight _ = 0

  pub items_weight : t.Items → ℕ
  items_weight t.no_item = 0
  items_weight (t.more_item i is) = suc (item_weight i + items_weight is)

  pub block_weight : t.GenerateBlock → ℕ
  block_weight (t.single i) = 2 + item_weight i
  block_weight (t.several p x is) = suc (items_weight is)

  pub branches_weight : t.GenerateBranches → ℕ
  branches_weight t.no_generate_branch = 0
  branches_weight (t.more_generate_branch p e b bs) = block_weight b + branches_weight bs

  pub else_weight : t.GenerateElse → ℕ
  else_weight t.no_generate_else = 0
  else_weight (t.generate_else b) = block_weight b

-- more than the items of any module
abbrev pub source_weight : Source → ℕ
source_weight [] = 1
source_weight (m ∷ ms) = items_weight m.items + source_weight ms

-- an instance of a module that so many may lie in one another of
abbrev pub module_weight : ℕ → ℕ → ℕ → ℕ
module_weight s zero w = 0
module_weight s (suc d) w = suc (d * s + w)

-- ---- smaller trees

pub body_less : (b : t.GenerateBlock) → items_weight (body_items b) < block_weight b
body_less (t.single i) = omega arith
body_less (t.several p x is) = omega arith

one_more : (i : Item) (is : List Item) → item_weight (view.item i) < items_weight (items_of (i ∷ is))
one_more i is = omega arith

later_less : (a b c : ℕ) → a < b → a < suc (c + b)
later_less a b c h = omega (arith, h)

pub element_less : (all : List Item) (k : ℕ) (i : Item) → k < length all → i ≡ get_or all k i → item_weight (view.item i) < items_weight (items_of all)
element_less [] k i h e = absurd (omega (arith, h))
element_less (x ∷ all) zero i h e = subst (λ y. item_weight (view.item y) < items_weight (items_of (x ∷ all))) (sym e) (one_more x all)
element_less (x ∷ all) (suc k) i h e = later_less (item_weight (view.item i)) (items_weight (items_of all)) (item_weight (view.item x))
    (element_less all k i (omega (arith, h)) e)

abbrev weight_of : Option t.GenerateBlock → ℕ
weight_of o = elim o [ Some b ↦ block_weight b | None ↦ 0 ]

none_most : (n : ℕ) → 0 ≤ n
none_most n = omega arith

same_most : (n : ℕ) → n ≤ n
same_most n = omega arith

first_most : (a b : ℕ) → a ≤ a + b
first_most a b = omega arith

second_most : (a b x : ℕ) → x ≤ b → x ≤ a + b
second_most a b x h = omega (arith, h)

by_bool : (y : Bool) (b : t.GenerateBlock) (later : Taken) (w : ℕ) → weight_of later.block ≤ w
    → weight_of ((if y then takes (Some b) else later).block) ≤ block_weight b + w
by_bool true b later w h = first_most (block_weight b) w
by_bool false b later w h = second_most (block_weight b) w (weight_of later.block) h

by_value : (v : Option Meaning) (fs : List order.Found) (b : t.GenerateBlock) (later : Taken) (w : ℕ) → weight_of later.block ≤ w
    → weight_of ((by_condition v fs b later).block) ≤ block_weight b + w
by_value None fs b later w h = none_most (block_weight b + w)
by_value (Some m) fs b later w h = by_bool (true_of m) b later w h

last_most : (e : t.GenerateElse) → weight_of ((last_taken e).block) ≤ else_weight e
last_most t.no_generate_else = none_most 0
last_most (t.generate_else b) = same_most (block_weight b)

moved : (a b c x : ℕ) → x ≤ a + (b + c) → x ≤ (a + b) + c
moved a b c x h = omega (arith, h)

taken_most : (k : Known) (bs : t.GenerateBranches) (e : t.GenerateElse) → weight_of ((taken_of k bs e).block) ≤ branches_weight bs + else_weight e
taken_most k t.no_generate_branch e = second_most 0 (else_weight e) (weight_of ((last_taken e).block)) (last_most e)
taken_most k (t.more_generate_branch p c b bs) e =
    moved (block_weight b) (branches_weight bs) (else_weight e) (weight_of ((taken_of k (t.more_generate_branch p c b bs) e).block))
    (by_value (value_of k c) (needs k c) b (taken_of k bs e) (branches_weight bs + else_weight e) (taken_most k bs e))

pub block_most : (k : Known) (bs : t.GenerateBranches) (e : t.GenerateElse) (b : t.GenerateBlock) → Some b ≡ (taken_of k bs e).block
    → block_weight b ≤ branches_weight bs + else_weight e
block_most k bs e b is = subst (λ o. weight_of o ≤ branches_weight bs + else_weight e) (sym is) (taken_most k bs e)

-- ---- modules

abbrev weight_in : Option t.Module → ℕ
weight_in o = elim o [ Some m ↦ items_weight m.items | None ↦ 0 ]

same_less : (a b w : ℕ) → a ≡ b → 0 < w → b < a + w
same_less a b w e h = omega (arith, e, h)

more_less : (a b w : ℕ) → b < w → b < a + w
more_less a b w h = omega (arith, h)

found_or : (y : Bool) (m parent : t.Module) (o : Option t.Module) (w : ℕ) → (if y then Some m else o) ≡ Some parent
    → (o ≡ Some parent → items_weight parent.items < w) → 0 < w → items_weight parent.items < items_weight m.items + w
found_or true m parent o w e f p = same_less (items_weight m.items) (items_weight parent.items) w (ap weight_in e) p
found_or false m parent o w e f p = more_less (items_weight m.items) (items_weight parent.items) w (f e)

positive_on : (a w : ℕ) → 0 < w → 0 < a + w
positive_on a w h = omega (arith, h)

source_positive : (src : Source) → 0 < source_weight src
source_positive [] = omega arith
source_positive (m ∷ ms) = positive_on (items_weight m.items) (source_weight ms) (source_positive ms)

pub found_less : (src : Source) (x : Text) (parent : t.Module) → module_at src x ≡ Some parent → items_weight parent.items < source_weight src
found_less [] x parent e = absurd cc
found_less (m ∷ ms) x parent e = found_or (bytes_eq m.name.text x) m parent (module_at ms x) (source_weight ms) e (found_less ms x parent)
    (source_positive ms)

-- an instance from where it is made
suc_less : (d s w : ℕ) → w < s → suc (d * s + w) < suc d * s + 1
suc_less d s w h = omega (arith, h)

pub instance_less : (d s w : ℕ) → w < s → module_weight s d w < d * s + 1
instance_less zero s w h = omega arith
instance_less (suc d) s w h = suc_less d s w h

pred_is : (d : ℕ) → suc d - 1 ≡ d
pred_is d = omega arith

one_less : (x : ℕ) → x < suc x
one_less x = omega arith

-- its items from the module
pub inside_less : (d s w : ℕ) → 0 < d → (d - 1) * s + w < module_weight s d w
inside_less zero s w h = absurd (omega (arith, h))
inside_less (suc d) s w h = subst (λ k. k * s + w < suc (d * s + w)) (sym (pred_is d)) (one_less (d * s + w))
