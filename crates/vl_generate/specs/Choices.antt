-- Which block of an `if` is taken, as a block and not as what it asks for (IEEE 1364-2005, 12.4.2). This project's own.
use Rattle.std.specs.Prelude.{◌≡◌, List, [], if◌then◌else◌, Option, Some, None}
use Rattle.std.specs.Option.{option_map}
use Rattle.std.specs.Borrow.{Bor}
use Rattle.vl_tree.specs.Syntax as t
use Rattle.vl_tree.specs.declared.item.Item.{Item}
use Rattle.vl_tree.specs.declared.item.GenerateBlock.{GenerateBlock}
use Rattle.vl_value.specs.Meaning.{Meaning, true_of}
use Rattle.vl_value.specs.Order as order
use Rattle.vl_value.specs.Order.{least}
use Rattle.vl_found.specs.declared.Found.{Found}
use Rattle.vl_found.specs.View.{found}
use Rattle.vl_design.specs.Constants.{Known, value_of, needs}
use Rattle.vl_views.specs.Blocks.{block_of}

-- a block and the faults for which none is taken, of which one is none
pub record Taken : Type 0 where
  pub block : Option t.GenerateBlock
  pub faults : List order.Found

abbrev pub takes : Option t.GenerateBlock → Taken
takes b = record { block = b; faults = [] }

-- by what a condition means, which has these faults
abbrev pub by_condition : Option Meaning → List order.Found → t.GenerateBlock → Taken → Taken
by_condition None fs b later = record { block = None; faults = fs }
by_condition (Some m) fs b later = if true_of m then takes (Some b) else later

abbrev pub last_taken : t.GenerateElse → Taken
last_taken t.no_generate_else = takes None
last_taken (t.generate_else b) = takes (Some b)

abbrev pub taken_of : Known → t.GenerateBranches → t.GenerateElse → Taken
taken_of k t.no_generate_branch last = last_taken last
taken_of k (t.more_generate_branch p e b bs) last = by_condition (value_of k e) (needs k e) b (taken_of k bs last)

abbrev pub block_tree : Bor (GenerateBlock Item) → t.GenerateBlock
block_tree b = block_of b.now

-- the same of the program
pub record HasTaken (c : Taken) (b : Option (Bor (GenerateBlock Item))) (f : Option Found) : Type 0 where
  pub block : option_map block_tree b ≡ c.block
  pub fault : option_map found f ≡ least c.faults

abbrev pub HasChoice : Known → t.GenerateBranches → t.GenerateElse → Option (Bor (GenerateBlock Item)) → Option Found → Type 0
HasChoice k bs e = HasTaken (taken_of k bs e)
