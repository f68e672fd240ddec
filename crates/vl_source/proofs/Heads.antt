-- What an item begins with, and what it can't begin with.
use Rattle.std.proofs.Common.{◌≡◌, ℕ, List, [], ◌∷◌, refl, sym, ◌∙◌, ap, subst}
use Rattle.std.specs.Prelude.{true, false}
use Rattle.vl_tree.specs.declared.token.Key.{Key}
use Rattle.vl_tree.specs.declared.token.Key.TheVariants as w
use Rattle.vl_tree.specs.Token.{Kind}
use Rattle.vl_tree.specs.Token as k
use Rattle.vl_tree.specs.Syntax.{Place, Direction, input, output, Item, parameter, directed, nets, registers, integer, genvar, continuous}
use Rattle.vl_tree.specs.Syntax.{always, initial, function, instances, region, generate_loop, generate_if}
use Rattle.vl_tree.specs.Syntax.{no_item, GenerateBlock, single, several, no_generate_branch, more_generate_branch}
use Rattle.vl_tree.specs.Placed.{Placed, at}
use Rattle.vl_tree.specs.Modules.{item_at, generate_block_at, direction_word, is_generate_if}
use Rattle.vl_tree.specs.Depth.{item_depths}
use Rattle.vl_read.specs.Tokens.{Not}
use Rattle.vl_read.proofs.Pieces.{Productive}
use Rattle.vl_read.proofs.TokenRules.{somewhere}
use Rattle.vl_source.specs.Readers.{rest_of}

-- which sort of item begins with a token
pub data Sort : Type 0 where
  no_sort : Sort
  plain : Sort
  held : Sort
  repeated : Sort
  chosen : Sort

abbrev key_sort : Key → Sort
key_sort w.Parameter = plain
key_sort w.Localparam = plain
key_sort w.Input = plain
key_sort w.Output = plain
key_sort w.Wire = plain
key_sort w.Reg = plain
key_sort w.Integer = plain
key_sort w.Genvar = plain
key_sort w.Assign = plain
key_sort w.Always = plain
key_sort w.Initial = plain
key_sort w.Function = plain
key_sort w.Generate = held
key_sort w.For = repeated
key_sort w.If = chosen
key_sort a = no_sort

abbrev pub sort : Kind → Sort
sort (k.name n) = plain
sort (k.key v) = key_sort v
sort (k.system s) = no_sort
sort (k.number l) = no_sort
sort (k.str s) = no_sort
sort (k.mark a) = no_sort

abbrev pub item_sort : Item → Sort
item_sort (region p is) = held
item_sort (generate_loop p l b) = repeated
item_sort (generate_if bs o) = chosen
item_sort i = plain

direction_sort : (x : Direction) → sort (k.key (direction_word x)) ≡ plain
direction_sort input = refl
direction_sort output = refl

pub head_sort : (u : Item) (a : Kind) (p : Place) (us z : List Placed) → item_at u (at a p ∷ us) z → sort a ≡ item_sort u
head_sort (parameter q false s r vs) a p us z (mid, h, c) = let e : a ≡ k.key w.Parameter = cc in ap sort e
head_sort (parameter q true s r vs) a p us z (mid, h, c) = let e : a ≡ k.key w.Localparam = cc in ap sort e
head_sort (directed d ns) a p us z (mid, (m1, h, t), c) =
    let e : a ≡ k.key (direction_word d.direction) = cc in
    ap sort e ∙ direction_sort d.direction
head_sort (nets q s r ns) a p us z (mid, h, c) = let e : a ≡ k.key w.Wire = cc in ap sort e
head_sort (registers q s r vs) a p us z (mid, h, c) = let e : a ≡ k.key w.Reg = cc in ap sort e
head_sort (integer q vs) a p us z (mid, h, c) = let e : a ≡ k.key w.Integer = cc in ap sort e
head_sort (genvar q ns) a p us z (mid, h, c) = let e : a ≡ k.key w.Genvar = cc in ap sort e
head_sort (continuous q ds) a p us z (mid, h, c) = let e : a ≡ k.key w.Assign = cc in ap sort e
head_sort (always q e b) a p us z (mid, h, c) = let i : a ≡ k.key w.Always = cc in ap sort i
head_sort (initial q b) a p us z (mid, h, c) = let e : a ≡ k.key w.Initial = cc in ap sort e
head_sort (function f) a p us z (mid, h, c) = let e : a ≡ k.key w.Function = cc in ap sort e
head_sort (instances n b is) a p us z (mid, h, c) = let e : a ≡ k.name n.text = cc in ap sort e
head_sort (region q is) a p us z (mid, h, c) = let e : a ≡ k.key w.Generate = cc in ap sort e
head_sort (generate_loop q l b) a p us z (mid, h, c) = let e : a ≡ k.key w.For = cc in ap sort e
head_sort (generate_if no_generate_branch o) a p us z h = absurd h
head_sort (generate_if (more_generate_branch q x b bs) o) a p us z (mid, h, c) = let e : a ≡ k.key w.If = cc in ap sort e

some_sort : (u : Item) → no_sort ≡ item_sort u → ⊥
some_sort (region p is) h = absurd cc
some_sort (generate_loop p l b) h = absurd cc
some_sort (generate_if bs o) h = absurd cc
some_sort u h = absurd cc

-- a token with which no item begins doesn't stand before one
pub item_not : (b : Kind) → sort b ≡ no_sort → (u : Item) (us z : List Placed) → item_at u us z → Not b us
item_not b f u [] z c = tt
item_not b f u (at a p ∷ us) z c = λ e. some_sort u (sym (ap sort e ∙ f) ∙ head_sort u a p us z c)

-- an item has a token, at its depth
pub item_end : (u : Item) (z : List Placed) → item_at u [] z → ⊥
item_end (parameter q l s r vs) z (mid, h, c) = absurd cc
item_end (directed d ns) z (mid, (m1, h, t), c) = absurd cc
item_end (nets q s r ns) z (mid, h, c) = absurd cc
item_end (registers q s r vs) z (mid, h, c) = absurd cc
item_end (integer q vs) z (mid, h, c) = absurd cc
item_end (genvar q ns) z (mid, h, c) = absurd cc
item_end (continuous q ds) z (mid, h, c) = absurd cc
item_end (always q e b) z (mid, h, c) = absurd cc
item_end (initial q b) z (mid, h, c) = absurd cc
item_end (function f) z (mid, h, c) = absurd cc
item_end (instances n b is) z (mid, h, c) = absurd cc
item_end (region q is) z (mid, h, c) = absurd cc
item_end (generate_loop q l b) z (mid, h, c) = absurd cc
item_end (generate_if no_generate_branch o) z h = absurd h
item_end (generate_if (more_generate_branch q x b bs) o) z (mid, h, c) = absurd cc

pub first_depth : (d : ℕ) (u : Item) (us z : List Placed) → item_at u us z → item_depths d u ≡ d ∷ rest_of (item_depths d u)
first_depth d (generate_if no_generate_branch o) us z h = absurd h
first_depth d (generate_if (more_generate_branch q x b bs) o) us z h = refl
first_depth d u us z h = refl

-- an `if` begins a choice alone
pub if_item : (u : Item) (p : Place) (us z : List Placed) → item_at u (at (k.key w.If) p ∷ us) z → is_generate_if (single u) ≡ true
if_item (generate_if bs o) p us z h = refl
if_item (region q is) p us z h = let e = head_sort (region q is) (k.key w.If) p us z h in absurd cc
if_item (generate_loop q l b) p us z h = let e = head_sort (generate_loop q l b) (k.key w.If) p us z h in absurd cc
if_item u p us z h = let e = head_sort u (k.key w.If) p us z h in absurd cc

pub if_block : (b : GenerateBlock) (p : Place) (us z : List Placed) → generate_block_at b (at (k.key w.If) p ∷ us) z
    → is_generate_if b ≡ true
if_block (single u) p us z h = if_item u p us z h
if_block (several q n is) p us z (mid, h, r) = absurd cc

not_if_item : (u : Item) (us z : List Placed) → Not (k.key w.If) us → item_at u us z → is_generate_if (single u) ≡ false
not_if_item (generate_if no_generate_branch o) us z n h = absurd h
not_if_item (generate_if (more_generate_branch q x b bs) o) us z n (mid, h, r) = absurd ((subst (Not (k.key w.If)) h n) refl)
not_if_item u us z n h = refl

pub not_if : (b : GenerateBlock) (us z : List Placed) → Not (k.key w.If) us → generate_block_at b us z → is_generate_if b ≡ false
not_if (single u) us z n h = not_if_item u us z n h
not_if (several q m is) us z n h = refl

-- ---- items and blocks that stand for any other

abbrev pub some_region : Item
some_region = region somewhere no_item

pub some_item : (F : List Placed → Type 0) → Productive item_at F
some_item F z f =
    let last : List Placed = at (k.key w.Endgenerate) somewhere ∷ z in
    (some_region, at (k.key w.Generate) somewhere ∷ last, (last, refl, (last, refl, (somewhere, refl))))

pub some_block : (F : List Placed → Type 0) → Productive generate_block_at F
some_block F z f = let o = some_item F z f in (single o.0, o.1, o.2)
