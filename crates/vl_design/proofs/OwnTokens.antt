-- Tokens of items without those of the bodies of generate loops, part by part.
use Rattle.std.proofs.Common.{◌≡◌, refl, ap, sym, ◌∙◌, ℕ, suc, ◌+◌, ◌-◌, ◌≤◌, List, [], ◌∷◌, ◌++◌, length, arith}
use Rattle.vl_tree.specs.Syntax as t
use Rattle.vl_tree.specs.Syntax.{Place, Loop, Name, Expr}
use Rattle.vl_tree.specs.Depth.{enclosed, item_depths, items_depths, generate_block_depths, generate_branches_depths, more_generate_branches_depths, generate_else_depths, loop_depths, label_depths, expr_depths}
use Rattle.vl_design.specs.Generate.{repeated_tokens, all_repeated_tokens, block_repeated_tokens, branches_repeated_tokens, else_repeated_tokens, items_tokens, turn_tokens}
use Rattle.vl_design.proofs.TokenLaws.{lengthened, items_alike, generate_block_alike}
use Rattle.std.specs.Prelude.{Option}

-- what encloses has two more
within : (d : ℕ) (xs : List ℕ) → length (enclosed d xs) ≡ 2 + length xs
within d xs = let h = lengthened xs (d ∷ []) in omega (arith, h)

-- the bodies' tokens are among all
mutual
  pub fewer : (i : t.Item) → repeated_tokens i ≤ length (item_depths 0 i)
  fewer (t.region p is) =
      let h = all_fewer is in let s = items_alike 1 0 is in let l = within 0 (items_depths 1 is) in omega (arith, h, s, l)
  fewer (t.generate_loop p l b) =
      let s = generate_block_alike 1 0 b in
      let k = lengthened (loop_depths 0 l) (generate_block_depths 1 b) in omega (arith, s, k)
  fewer (t.generate_if bs e) =
      let h = branches_fewer bs in let k = else_fewer e in
      let l = lengthened (generate_branches_depths 0 bs) (generate_else_depths 0 e) in omega (arith, h, k, l)
  fewer (t.parameter p l s r vs) = omega arith
  fewer (t.directed d ns) = omega arith
  fewer (t.nets p s r ns) = omega arith
  fewer (t.registers p s r vs) = omega arith
  fewer (t.integer p vs) = omega arith
  fewer (t.genvar p ns) = omega arith
  fewer (t.continuous p ds) = omega arith
  fewer (t.always p e s) = omega arith
  fewer (t.initial p s) = omega arith
  fewer (t.function f) = omega arith
  fewer (t.instances n ps is) = omega arith

  pub all_fewer : (is : t.Items) → all_repeated_tokens is ≤ length (items_depths 0 is)
  all_fewer t.no_item = omega arith
  all_fewer (t.more_item i is) =
      let h = fewer i in let k = all_fewer is in
      let l = lengthened (item_depths 0 i) (items_depths 0 is) in omega (arith, h, k, l)

  pub block_fewer : (b : t.GenerateBlock) → block_repeated_tokens b ≤ length (generate_block_depths 0 b)
  block_fewer (t.single i) = fewer i
  block_fewer (t.several p x is) =
      let h = all_fewer is in let s = items_alike 1 0 is in
      let l = lengthened (label_depths 0 x) (items_depths 1 is ++ (0 ∷ [])) in
      let k = lengthened (items_depths 1 is) (0 ∷ []) in omega (arith, h, s, l, k)

  pub branches_fewer : (bs : t.GenerateBranches) → branches_repeated_tokens bs ≤ length (generate_branches_depths 0 bs)
  branches_fewer t.no_generate_branch = omega arith
  branches_fewer (t.more_generate_branch p e b bs) =
      let h = block_fewer b in let k = more_fewer bs in let s = generate_block_alike 1 0 b in
      let l = lengthened (enclosed 0 (expr_depths 1 e)) (generate_block_depths 1 b ++ more_generate_branches_depths 0 bs) in
      let m = lengthened (generate_block_depths 1 b) (more_generate_branches_depths 0 bs) in omega (arith, h, k, s, l, m)

  pub more_fewer : (bs : t.GenerateBranches) → branches_repeated_tokens bs ≤ length (more_generate_branches_depths 0 bs)
  more_fewer t.no_generate_branch = omega arith
  more_fewer (t.more_generate_branch p e b bs) =
      let h = block_fewer b in let k = more_fewer bs in let s = generate_block_alike 1 0 b in
      let l = lengthened (enclosed 0 (expr_depths 1 e)) (generate_block_depths 1 b ++ more_generate_branches_depths 0 bs) in
      let m = lengthened (generate_block_depths 1 b) (more_generate_branches_depths 0 bs) in omega (arith, h, k, s, l, m)

  pub else_fewer : (e : t.GenerateElse) → else_repeated_tokens e ≤ length (generate_else_depths 0 e)
  else_fewer t.no_generate_else = omega arith
  else_fewer (t.generate_else b) = let h = block_fewer b in let s = generate_block_alike 1 0 b in omega (arith, h, s)

-- ---- part by part

abbrev pub item_tokens : t.Item → ℕ
item_tokens i = length (item_depths 0 i) - repeated_tokens i

pub more_tokens : (i : t.Item) (is : t.Items) → items_tokens (t.more_item i is) ≡ item_tokens i + items_tokens is
more_tokens i is =
    let h = fewer i in let k = all_fewer is in
    let l = lengthened (item_depths 0 i) (items_depths 0 is) in omega (arith, h, k, l)

pub region_tokens : (p : Place) (is : t.Items) → item_tokens (t.region p is) ≡ 2 + items_tokens is
region_tokens p is =
    let h = all_fewer is in let s = items_alike 1 0 is in let l = within 0 (items_depths 1 is) in omega (arith, h, s, l)

pub loop_tokens : (p : Place) (l : Loop) (b : t.GenerateBlock) → item_tokens (t.generate_loop p l b) ≡ 1 + length (loop_depths 0 l)
loop_tokens p l b =
    let s = generate_block_alike 1 0 b in
    let k = lengthened (loop_depths 0 l) (generate_block_depths 1 b) in omega (arith, s, k)

pub several_tokens : (p : Place) (x : Option Name) (is : t.Items)
    → turn_tokens (t.several p x is) ≡ 2 + (length (label_depths 0 x) + items_tokens is)
several_tokens p x is =
    let h = all_fewer is in let s = items_alike 1 0 is in
    let l = lengthened (label_depths 0 x) (items_depths 1 is ++ (0 ∷ [])) in
    let k = lengthened (items_depths 1 is) (0 ∷ []) in omega (arith, h, s, l, k)
