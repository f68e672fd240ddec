-- The plain trees of the code's statements with parts.
use Rattle.std.proofs.Common.{◌≡◌, List, [], ◌∷◌, map, rules, refl, ap, ◌∙◌}
use Rattle.std.specs.Prelude.{Option, Some, None, option_map}
use Rattle.vl_tree.specs.declared.tree.Branch as branch_code
use Rattle.vl_tree.specs.declared.tree.Stmt as stmt_code
use Rattle.vl_tree.specs.declared.tree.Stmt.{the_lemmas}
use Rattle.vl_tree.specs.declared.tree.Stmt.TheVariants as s
use Rattle.vl_tree.specs.View.{expr, stmt, stmts, branches, otherwise, joined_stmts, joined_branches, joined_else}
use Rattle.vl_tree.specs.Tree.{Stmt, block, conditional, more_stmt, Branches, more_branch}

joined_all : (all : List stmt_code.Stmt) → joined_stmts (map stmt all) ≡ stmts all
joined_all [] = refl
joined_all (x ∷ xs) = ap (more_stmt (stmt x)) (joined_all xs)

-- a branch with the plain tree of its body
abbrev viewed : branch_code.Branch stmt_code.Stmt → branch_code.Branch Stmt
viewed b = record { condition = b.condition; body = stmt b.body }

joined_chain : (all : List (branch_code.Branch stmt_code.Stmt)) → joined_branches (map viewed all) ≡ branches all
joined_chain [] = refl
joined_chain (x ∷ xs) = ap (more_branch (expr x.condition) (stmt x.body)) (joined_chain xs)

joined_last : (o : Option stmt_code.Stmt) → joined_else (option_map stmt o) ≡ otherwise o
joined_last None = refl
joined_last (Some x) = refl

block_layer : (all : List stmt_code.Stmt) → stmt (s.Block all) ≡ block (joined_stmts (map stmt all))
block_layer all = search (rules, the_lemmas)

conditional_layer : (all : List (branch_code.Branch stmt_code.Stmt)) (o : Option stmt_code.Stmt) → stmt (s.Conditional all o) ≡ conditional (joined_branches (map viewed all)) (joined_else (option_map stmt o))
conditional_layer all o = search (rules, the_lemmas)

pub stmt_block : (all : List stmt_code.Stmt) → stmt (s.Block all) ≡ block (stmts all)
stmt_block all = block_layer all ∙ ap block (joined_all all)

pub stmt_conditional : (all : List (branch_code.Branch stmt_code.Stmt)) (o : Option stmt_code.Stmt) → stmt (s.Conditional all o) ≡ conditional (branches all) (otherwise o)
stmt_conditional all o = conditional_layer all o ∙ ap (λ (bs : Branches). conditional bs (joined_else (option_map stmt o))) (joined_chain all) ∙ ap (conditional (branches all)) (joined_last o)
