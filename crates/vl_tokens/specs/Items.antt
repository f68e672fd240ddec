-- Numbers of tokens of items and branches without those of the bodies of generate loops, which count with their turns. This
-- project's own.
use Rattle.std.specs.Prelude.{ℕ, ◌-◌, Bool, true, false, length, Option}
use Rattle.std.specs.Option.{option_map}
use Rattle.vl_tree.specs.declared.item.Binds.{Binds}
use Rattle.vl_tree.specs.Syntax as t
use Rattle.vl_tree.specs.SyntaxView as view
use Rattle.vl_tree.specs.Depth.{depths_of, item_depths, parameter_binds_depths, generate_branches_depths, more_generate_branches_depths, generate_else_depths}
use Rattle.vl_design.specs.Generate.{repeated_tokens, branches_repeated_tokens, else_repeated_tokens}

abbrev pub item_tokens : t.Item → ℕ
item_tokens i = length (item_depths 0 i) - repeated_tokens i

-- branches, with an `else` before the first where that is said
abbrev pub branches_listed : Bool → t.GenerateBranches → ℕ
branches_listed false bs = length (generate_branches_depths 0 bs) - branches_repeated_tokens bs
branches_listed true bs = length (more_generate_branches_depths 0 bs) - branches_repeated_tokens bs

abbrev pub else_tokens : t.GenerateElse → ℕ
else_tokens e = length (generate_else_depths 0 e) - else_repeated_tokens e

-- the values that instances give to parameters
abbrev pub given_tokens : Option (Option Binds) → ℕ
given_tokens b = length (depths_of parameter_binds_depths 0 (option_map (option_map view.binds) b))
