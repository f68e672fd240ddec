-- The plain trees of items that hold others.
use Rattle.std.proofs.Common.{◌≡◌, ℕ, ◌+◌, ◌<◌, List, [], ◌∷◌, length, drop, get_or, rules, map, refl, sym, ap, ◌∙◌}
use Rattle.std.proofs.lemmas.List.{drop_more}
use Rattle.std.specs.Prelude.{Option, Some, None}
use Rattle.std.specs.Option.{option_map}
use Rattle.dt_core.specs.declared.place.Place.{Place}
use Rattle.vl_tree.specs.declared.statement.Loop.{Loop}
use Rattle.vl_tree.specs.declared.item.GenerateBlock.{GenerateBlock}
use Rattle.vl_tree.specs.declared.item.GenerateBlock.TheVariants as body
use Rattle.vl_tree.specs.declared.item.GenerateBranch.{GenerateBranch}
use Rattle.vl_tree.specs.declared.item.Item.{Item, the_lemmas}
use Rattle.vl_tree.specs.declared.item.Item.TheVariants as x
use Rattle.vl_tree.specs.declared.item.Module.{Module}
use Rattle.vl_tree.specs.Syntax as t
use Rattle.vl_tree.specs.SyntaxView.{place, name, expr, loop, item, items, generate_block, generate_branches, generate_otherwise, module_tree}
use Rattle.vl_views.specs.Blocks.{items_of, block_of, branches_of, else_of}

pub items-map : (is : List Item) → items (map item is) ≡ items_of is
items-map [] = refl
items-map (i ∷ is) = ap (t.more_item (item i)) (items-map is)

item-region-map : (p : Place) (is : List Item) → item (x.Region p is) ≡ t.region (place p) (items (map item is))
item-region-map p is = search (rules, the_lemmas)

pub item-region : (p : Place) (is : List Item) → item (x.Region p is) ≡ t.region (place p) (items_of is)
item-region p is = item-region-map p is ∙ ap (t.region (place p)) (items-map is)

abbrev block_tree : GenerateBlock Item → GenerateBlock t.Item
block_tree (body.Single i) = body.Single (item i)
block_tree (body.Several p n is) = body.Several p n (map item is)

block-map : (b : GenerateBlock Item) → generate_block (block_tree b) ≡ block_of b
block-map (body.Single i) = refl
block-map (body.Several p n is) = ap (t.several (place p) (option_map name n)) (items-map is)

item-loop-map : (p : Place) (l : Loop) (b : GenerateBlock Item)
    → item (x.GenerateLoop p l b) ≡ t.generate_loop (place p) (loop l) (generate_block (block_tree b))
item-loop-map p l (body.Single i) = search (rules, the_lemmas)
item-loop-map p l (body.Several q n is) = search (rules, the_lemmas)

pub item-loop : (p : Place) (l : Loop) (b : GenerateBlock Item)
    → item (x.GenerateLoop p l b) ≡ t.generate_loop (place p) (loop l) (block_of b)
item-loop p l b = item-loop-map p l b ∙ ap (t.generate_loop (place p) (loop l)) (block-map b)

abbrev branch_tree : GenerateBranch Item → GenerateBranch t.Item
branch_tree b = record { place = b.place; condition = b.condition; block = block_tree b.block }

branches-map : (bs : List (GenerateBranch Item)) → generate_branches (map branch_tree bs) ≡ branches_of bs
branches-map [] = refl
branches-map (b ∷ bs) = λ i. t.more_generate_branch (place b.place) (expr b.condition) (block-map b.block i) (branches-map bs i)

item-if-map : (bs : List (GenerateBranch Item)) (o : Option (GenerateBlock Item))
    → item (x.GenerateIf bs o) ≡ t.generate_if (generate_branches (map branch_tree bs)) (generate_otherwise (option_map block_tree o))
item-if-map bs o = search (rules, the_lemmas)

else-map : (o : Option (GenerateBlock Item)) → generate_otherwise (option_map block_tree o) ≡ else_of o
else-map None = refl
else-map (Some b) = ap t.generate_else (block-map b)

pub item-if : (bs : List (GenerateBranch Item)) (o : Option (GenerateBlock Item))
    → item (x.GenerateIf bs o) ≡ t.generate_if (branches_of bs) (else_of o)
item-if bs o = item-if-map bs o ∙ (λ i. t.generate_if (branches-map bs i) (else-map o i))

-- ---- what is left of a list, one further

pub items-drop : (all : List Item) (i : ℕ) (a : Item) → i < length all → a ≡ get_or all i a
    → items_of (drop i all) ≡ t.more_item (item a) (items_of (drop (i + 1) all))
items-drop all i a below is = ap items_of (drop_more all i a below) ∙ ap (λ y. t.more_item (item y) (items_of (drop (i + 1) all))) (sym is)

pub branches-drop : (all : List (GenerateBranch Item)) (i : ℕ) (a : GenerateBranch Item) → i < length all → a ≡ get_or all i a
    → branches_of (drop i all)
    ≡ t.more_generate_branch (place a.place) (expr a.condition) (block_of a.block) (branches_of (drop (i + 1) all))
branches-drop all i a below is = ap branches_of (drop_more all i a below)
    ∙ ap (λ (y : GenerateBranch Item). t.more_generate_branch (place y.place) (expr y.condition) (block_of y.block) (branches_of (drop (i + 1) all))) (sym is)

pub modules-drop : (all : List Module) (i : ℕ) (a : Module) → i < length all → a ≡ get_or all i a
    → map module_tree (drop i all) ≡ module_tree a ∷ map module_tree (drop (i + 1) all)
modules-drop all i a below is = ap (map module_tree) (drop_more all i a below) ∙ ap (λ y. module_tree y ∷ map module_tree (drop (i + 1) all)) (sym is)

-- ---- an item whose parts are in hand

pub region_is : (i : Item) (p : Place) (is slice : List Item) → i ≡ x.Region p is → slice ≡ is → item i ≡ t.region (place p) (items_of slice)
region_is i p is slice e s = ap item e ∙ item-region p is ∙ ap (λ y. t.region (place p) (items_of y)) (sym s)

pub loop_is : (i : Item) (p : Place) (l : Loop) (b : GenerateBlock Item) → i ≡ x.GenerateLoop p l b
    → item i ≡ t.generate_loop (place p) (loop l) (block_of b)
loop_is i p l b e = ap item e ∙ item-loop p l b

pub if_is : (i : Item) (bs all : List (GenerateBranch Item)) (o : Option (GenerateBlock Item)) → i ≡ x.GenerateIf bs o → all ≡ bs
    → item i ≡ t.generate_if (branches_of all) (else_of o)
if_is i bs all o e s = ap item e ∙ item-if bs o ∙ ap (λ y. t.generate_if (branches_of y) (else_of o)) (sym s)
