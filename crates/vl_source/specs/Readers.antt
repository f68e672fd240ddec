-- What the readers of modules and items answer (IEEE 1364-2005, A.1 and A.4, for the rules; the answers are this project's own).
use Rattle.std.specs.Prelude.{ℕ, ◌+◌, ◌≡◌, List, [], ◌∷◌, ◌++◌, Option, Some, None, Result, map}
use Rattle.std.specs.Option.{option_map}
use Rattle.dt_core.specs.declared.place.Place as place_code
use Rattle.vl_tree.specs.declared.token.Key.{Key}
use Rattle.vl_tree.specs.declared.token.Key.TheVariants as w
use Rattle.vl_tree.specs.declared.token.Mark.TheVariants as m
use Rattle.vl_tree.specs.declared.item.Item as item_code
use Rattle.vl_tree.specs.declared.item.GenerateBlock as block_code
use Rattle.vl_tree.specs.declared.item.GenerateBlock.TheVariants as body
use Rattle.vl_tree.specs.declared.item.GenerateBranch as branch_code
use Rattle.vl_tree.specs.declared.item.Port as port_code
use Rattle.vl_tree.specs.declared.item.Module as module_code
use Rattle.vl_tree.specs.Token.{Kind}
use Rattle.vl_tree.specs.Token as k
use Rattle.vl_tree.specs.Syntax.{Place, Expr, Port, Item, Items, no_item, more_item, GenerateBlock, single, several}
use Rattle.vl_tree.specs.Syntax.{GenerateBranches, GenerateElse, Module}
use Rattle.vl_tree.specs.SyntaxView.{place, name, expr, port, item, module_tree}
use Rattle.vl_tree.specs.Placed.{Placed, at}
use Rattle.vl_tree.specs.Piece.{Piece, ◌then◌, given, word, in_parens, maybe}
use Rattle.vl_tree.specs.Statements.{NoElse}
use Rattle.vl_tree.specs.Modules.{item_at, items_at, generate_block_at, generate_branches_at, generate_else_at}
use Rattle.vl_tree.specs.Modules.{ports_at, module_at, source_at}
use Rattle.vl_tree.specs.Depth.{item_depths, items_depths, generate_block_depths, more_generate_branches_depths, generate_else_depths}
use Rattle.vl_tree.specs.Depth.{depths_of, ports_depths, module_depths, source_depths}
use Rattle.vl_read.specs.declared.fault.Fault.{Fault}
use Rattle.vl_read.specs.Reading.{Reads, Any}
use Rattle.vl_read.specs.Tokens.{Not}
use Rattle.vl_simple.specs.Readers.{grouped_at, grouped_depths}
use Rattle.vl_source.specs.declared.items.Structure.{Structure}
use Rattle.vl_source.specs.declared.items.Structure.TheVariants as structure

-- ---- items

-- the word of a structure (A.4.2)
abbrev pub structure_word : Structure → Key
structure_word structure.Region = w.Generate
structure_word structure.Loop = w.For
structure_word structure.Choice = w.If

-- no structure's word comes next
abbrev pub NoStructure : List Placed → Type 0
NoStructure ts = Not (k.key w.Generate) ts × Not (k.key w.For) ts × Not (k.key w.If) ts

-- the structure whose word comes first, the word's place and the tokens after it, or that none comes
abbrev pub FindsStructure : List Placed → Option (Structure × place_code.Place × List Placed) → Type 0
FindsStructure ts (Some x) = ts ≡ at (k.key (structure_word x.0)) (place x.1) ∷ x.2
FindsStructure ts None = NoStructure ts

abbrev pub ReadsItem : ℕ → List Placed → Result (item_code.Item × List Placed) Fault → Type 0
ReadsItem d ts r = Reads item item_at (item_depths d) NoElse Any ts r

-- an item whose first token is known, from after it on
abbrev pub after : Kind → Place → Item → Piece
after a p i us z = item_at i (at a p ∷ us) z

-- all but the first
abbrev pub rest_of : List ℕ → List ℕ
rest_of [] = []
rest_of (d ∷ ds) = ds

-- its depths
abbrev pub after_depths : ℕ → Item → List ℕ
after_depths d i = rest_of (item_depths d i)

abbrev pub ReadsAfter : Kind → Place → ℕ → List Placed → Result (item_code.Item × List Placed) Fault → Type 0
ReadsAfter a p d ts r = Reads item (after a p) (after_depths d) NoElse Any ts r

-- a keyword that closes items
abbrev pub IsClosing : Key → Type 0
IsClosing w.End = Unit {0}
IsClosing w.Endgenerate = Unit {0}
IsClosing w.Endmodule = Unit {0}
IsClosing a = ⊥

-- items and the keyword that closes them
abbrev pub closed_items_at : Key → Items → Piece
closed_items_at last is = items_at is then word last

-- their depths
abbrev pub closed_items_depths : ℕ → Items → List ℕ
closed_items_depths d is = items_depths (d + 1) is ++ (d ∷ [])

-- items so far, and those after them
abbrev pub items_on : List item_code.Item → Items → Items
items_on [] is = is
items_on (i ∷ more) is = more_item (item i) (items_on more is)

-- items of the program
abbrev pub items_of : List item_code.Item → Items
items_of is = items_on is no_item

abbrev pub ReadsItems : Key → ℕ → List Placed → Result (List item_code.Item × List Placed) Fault → Type 0
ReadsItems last d ts r = Reads items_of (closed_items_at last) (closed_items_depths d) Any Any ts r

-- ---- generate blocks and branches

-- the plain tree of a block
abbrev pub block_of : block_code.GenerateBlock item_code.Item → GenerateBlock
block_of (body.Single i) = single (item i)
block_of (body.Several p n is) = several (place p) (option_map name n) (items_of is)

abbrev pub ReadsBlock : ℕ → List Placed → Result (block_code.GenerateBlock item_code.Item × List Placed) Fault → Type 0
ReadsBlock d ts r = Reads block_of generate_block_at (generate_block_depths d) NoElse Any ts r

-- a condition and its block, after an `if` with this place
abbrev pub branch_at : Place → Place × Expr × GenerateBlock → Piece
branch_at p (q, c, b) = given (q ≡ p) (grouped_at c then generate_block_at b)

-- their depths
abbrev pub branch_depths : ℕ → Place × Expr × GenerateBlock → List ℕ
branch_depths d (q, c, b) = grouped_depths d c ++ generate_block_depths (d + 1) b

-- the plain tree of a branch
abbrev pub branch_of : branch_code.GenerateBranch item_code.Item → Place × Expr × GenerateBlock
branch_of b = (place b.place, expr b.condition, block_of b.block)

abbrev pub ReadsBranch : Place → ℕ → List Placed → Result (branch_code.GenerateBranch item_code.Item × List Placed) Fault → Type 0
ReadsBranch p d ts r = Reads branch_of (branch_at p) (branch_depths d) NoElse Any ts r

-- what stands after the first branch: others, and a last `else` if there is one
abbrev pub others_at : GenerateBranches × GenerateElse → Piece
others_at x = generate_branches_at x.0 then generate_else_at x.1

-- its depths
abbrev pub others_depths : ℕ → GenerateBranches × GenerateElse → List ℕ
others_depths d x = more_generate_branches_depths d x.0 ++ generate_else_depths d x.1

-- ---- modules

-- no `(` comes next
abbrev pub NoParen : List Placed → Type 0
NoParen = Not (k.mark m.OpenParen)

-- the ports of a module's header in parentheses, if it has them (A.1.2)
abbrev pub header_ports_at : Option (List Port) → Piece
header_ports_at = maybe (λ ps. in_parens (ports_at ps))

-- their depths
abbrev pub header_ports_depths : Option (List Port) → List ℕ
header_ports_depths = depths_of ports_depths 0

abbrev pub ReadsPorts : List Placed → Result (Option (List port_code.Port) × List Placed) Fault → Type 0
ReadsPorts ts r = Reads (option_map (map port)) header_ports_at header_ports_depths NoParen NoParen ts r

-- a module from after its `module` on, which has this place
abbrev pub module_rest_at : Place → Module → Piece
module_rest_at p x us z = module_at x (at (k.key w.Module) p ∷ us) z

-- its depths
abbrev pub module_rest_depths : Module → List ℕ
module_rest_depths x = rest_of (module_depths 0 x)

abbrev pub ReadsModule : Place → List Placed → Result (module_code.Module × List Placed) Fault → Type 0
ReadsModule p ts r = Reads module_tree (module_rest_at p) module_rest_depths Any Any ts r

-- no module comes next
abbrev pub NoModule : List Placed → Type 0
NoModule = Not (k.key w.Module)

abbrev pub ReadsModules : List Placed → Result (List module_code.Module × List Placed) Fault → Type 0
ReadsModules ts r = Reads (map module_tree) source_at source_depths NoModule NoModule ts r
