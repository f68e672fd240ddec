-- What the reader of plain items answers: those that hold no other items. This project's own.
use Rattle.std.specs.Prelude.{◌≡◌, ℕ, List, Some, Result}
use Rattle.vl_tree.specs.declared.item.Item as code
use Rattle.vl_tree.specs.Syntax.{Item, region, generate_loop, generate_if}
use Rattle.vl_tree.specs.SyntaxView.{item}
use Rattle.vl_tree.specs.Placed.{Placed}
use Rattle.vl_tree.specs.Piece.{Piece, nowhere, given}
use Rattle.vl_tree.specs.Statements.{NoElse}
use Rattle.vl_tree.specs.Modules.{item_at}
use Rattle.vl_tree.specs.Depth.{item_depths}
use Rattle.vl_read.specs.declared.fault.Fault.{Fault}
use Rattle.vl_read.specs.Reading.{Reads, Any}
use Rattle.vl_item.specs.declared.start.Start.{Start}
use Rattle.vl_item.specs.Starts.{sort}

-- an item that is no `generate`, `for` or `if` (A.1.4, A.4.2)
abbrev pub plain_item_at : Item → Piece
plain_item_at (region p is) = nowhere
plain_item_at (generate_loop p l b) = nowhere
plain_item_at (generate_if bs o) = nowhere
plain_item_at i = item_at i

abbrev pub ReadsPlainItem : ℕ → List Placed → Result (code.Item × List Placed) Fault → Type 0
ReadsPlainItem d ts r = Reads item plain_item_at (item_depths d) NoElse Any ts r

-- an item of this sort
abbrev pub sorted_at : Start → Item → Piece
sorted_at s i = given (sort i ≡ Some s) (plain_item_at i)

abbrev pub ReadsSort : Start → ℕ → List Placed → Result (code.Item × List Placed) Fault → Type 0
ReadsSort s d ts r = Reads item (sorted_at s) (item_depths d) NoElse Any ts r
