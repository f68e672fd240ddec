-- The plain trees of the program's items, and of their lists.
use Rattle.std.proofs.Common.{◌≡◌, List, [], ◌∷◌, ◌++◌, rules, map, refl, ap, ◌∙◌}
use Rattle.std.specs.Prelude.{Option, Some, None}
use Rattle.std.specs.Option.{option_map}
use Rattle.dt_core.specs.declared.place.Place.{Place}
use Rattle.vl_tree.specs.declared.statement.Loop.{Loop}
use Rattle.vl_tree.specs.declared.item.GenerateBlock.{GenerateBlock}
use Rattle.vl_tree.specs.declared.item.GenerateBlock.TheVariants as body
use Rattle.vl_tree.specs.declared.item.GenerateBranch.{GenerateBranch}
use Rattle.vl_tree.specs.declared.item.Item.{Item, the_lemmas}
use Rattle.vl_tree.specs.declared.item.Item.TheVariants as x
use Rattle.vl_tree.specs.Syntax as t
use Rattle.vl_tree.specs.SyntaxView.{place, name, expr, loop, item, items, generate_block, generate_branches, generate_otherwise}
use Rattle.vl_source.specs.Readers.{items_on, items_of, block_of}

-- ---- items in order

pub items-map : (is : List Item) → items (map item is) ≡ items_of is
items-map [] = refl
items-map (i ∷ is) = ap (t.more_item (item i)) (items-map is)

pub items_on-one : (is : List Item) (i : Item) (more : t.Items) → items_on (is ++ i ∷ []) more ≡ items_on is (t.more_item (item i) more)
items_on-one [] i more = refl
items_on-one (a ∷ is) i more = ap (t.more_item (item a)) (items_on-one is i more)

item-region-map : (p : Place) (is : List Item) → item (x.Region p is) ≡ t.region (place p) (items (map item is))
item-region-map p is = search (rules, the_lemmas)

pub item-region : (p : Place) (is : List Item) → item (x.Region p is) ≡ t.region (place p) (items_of is)
item-region p is = item-region-map p is ∙ ap (t.region (place p)) (items-map is)

-- ---- blocks

abbrev block_tree : GenerateBlock Item → GenerateBlock t.Item
block_tree (body.Single i) = body.Single (item i)
block_tree (body.Several p n is) = body.Several p n (map item is)

block-map : (b : GenerateBlock Item) → generate_block (block_tree b) ≡ block_of b
block-map (body.Single i) = refl
block-map (body.Several p n is) = ap (t.several (place p) (option_map name n)) (items-map is)

item-loop-map : (p : Place) (l : Loop) (b : GenerateBlock Item)
    → item (x.GenerateLoop p l b) ≡ t.generate_loop (place p) (loop l) (generate_block (block_tree b))
item-loop-map p l (body.Single i) = search (rules, the_lemmas)
item-loop-map p l (body.Several q n is) = search (rules, the_lemmas)

pub item-loop : (p : Place) (l : Loop) (b : GenerateBlock Item)
    → item (x.GenerateLoop p l b) ≡ t.generate_loop (place p) (loop l) (block_of b)
item-loop p l b = item-loop-map p l b ∙ ap (t.generate_loop (place p) (loop l)) (block-map b)

-- ---- branches

-- branches so far, and those after them
abbrev pub branches_on : List (GenerateBranch Item) → t.GenerateBranches → t.GenerateBranches
branches_on [] bs = bs
branches_on (b ∷ more) bs = t.more_generate_branch (place b.place) (expr b.condition) (block_of b.block) (branches_on more bs)

abbrev branch_tree : GenerateBranch Item → GenerateBranch t.Item
branch_tree b = record { place = b.place; condition = b.condition; block = block_tree b.block }

branches-map : (bs : List (GenerateBranch Item)) → generate_branches (map branch_tree bs) ≡ branches_on bs t.no_generate_branch
branches-map [] = refl
branches-map (b ∷ bs) = λ i. t.more_generate_branch (place b.place) (expr b.condition) (block-map b.block i) (branches-map bs i)

-- a last `else`
abbrev pub else_of : Option (GenerateBlock Item) → t.GenerateElse
else_of None = t.no_generate_else
else_of (Some b) = t.generate_else (block_of b)

item-if-map : (bs : List (GenerateBranch Item)) (o : Option (GenerateBlock Item))
    → item (x.GenerateIf bs o) ≡ t.generate_if (generate_branches (map branch_tree bs)) (generate_otherwise (option_map block_tree o))
item-if-map bs o = search (rules, the_lemmas)

else-map : (o : Option (GenerateBlock Item)) → generate_otherwise (option_map block_tree o) ≡ else_of o
else-map None = refl
else-map (Some b) = ap t.generate_else (block-map b)

pub item-if : (bs : List (GenerateBranch Item)) (o : Option (GenerateBlock Item))
    → item (x.GenerateIf bs o) ≡ t.generate_if (branches_on bs t.no_generate_branch) (else_of o)
item-if bs o = item-if-map bs o ∙ (λ i. t.generate_if (branches-map bs i) (else-map o i))

pub branches_on-one : (bs : List (GenerateBranch Item)) (b : GenerateBranch Item) (more : t.GenerateBranches)
    → branches_on (bs ++ b ∷ []) more ≡ branches_on bs (t.more_generate_branch (place b.place) (expr b.condition) (block_of b.block) more)
branches_on-one [] b more = refl
branches_on-one (a ∷ bs) b more =
    ap (t.more_generate_branch (place a.place) (expr a.condition) (block_of a.block))
    (branches_on-one bs b more)
