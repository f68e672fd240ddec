-- Items, generate blocks and branches of the program as plain trees. This project's own.
use Rattle.std.specs.Prelude.{List, [], ◌∷◌, Option, Some, None}
use Rattle.std.specs.Option.{option_map}
use Rattle.vl_tree.specs.Syntax as t
use Rattle.vl_tree.specs.SyntaxView as view
use Rattle.vl_tree.specs.declared.item.Item.{Item}
use Rattle.vl_tree.specs.declared.item.GenerateBlock.{GenerateBlock}
use Rattle.vl_tree.specs.declared.item.GenerateBlock.TheVariants as body
use Rattle.vl_tree.specs.declared.item.GenerateBranch.{GenerateBranch}

abbrev pub items_of : List Item → t.Items
items_of [] = t.no_item
items_of (i ∷ is) = t.more_item (view.item i) (items_of is)

abbrev pub block_of : GenerateBlock Item → t.GenerateBlock
block_of (body.Single i) = t.single (view.item i)
block_of (body.Several p n is) = t.several (view.place p) (option_map view.name n) (items_of is)

abbrev pub branches_of : List (GenerateBranch Item) → t.GenerateBranches
branches_of [] = t.no_generate_branch
branches_of (b ∷ bs) = t.more_generate_branch (view.place b.place) (view.expr b.condition) (block_of b.block) (branches_of bs)

-- a last `else`
abbrev pub else_of : Option (GenerateBlock Item) → t.GenerateElse
else_of None = t.no_generate_else
else_of (Some b) = t.generate_else (block_of b)
