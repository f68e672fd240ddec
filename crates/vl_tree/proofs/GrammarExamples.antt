-- Worked examples of the grammar: tokens that stand for a tree, each with its derivation, and tokens that don't.
use Rattle.std.proofs.Common.{◌≡◌, ℕ, List, [], ◌∷◌, ◌++◌, map, refl, subst, arith}
use Rattle.std.specs.Prelude.{codes}
use Rattle.vl_tree.specs.declared.token.Key.TheVariants as w
use Rattle.vl_tree.specs.declared.token.Mark.TheVariants as m
use Rattle.vl_tree.specs.declared.token.System.TheVariants as s
use Rattle.vl_tree.specs.declared.expr.Unary.TheVariants as one
use Rattle.vl_tree.specs.declared.expr.Binary.TheVariants as two
use Rattle.vl_tree.specs.Token.{Kind, Tokens, token}
use Rattle.vl_tree.specs.Token as k
use Rattle.vl_tree.specs.Tree.{name, number, primary, unary, binary, Stmt, block, conditional, assign, no_stmt, more_stmt, no_branch, more_branch, no_else, else_stmt}
use Rattle.vl_tree.specs.Grammar.{expr_at, NoElse, stmt_at, Derives}
use Rattle.vl_tree.proofs.Counter.{plain_decimal, sized_decimal, counter}

-- tokens of one line
abbrev pub on : ℕ → List Kind → Tokens
on line = map (token line)

-- ---- the nearest `if`

-- if (a) if (b) x <= 1; else x <= 2;
abbrev two_ifs : Tokens
two_ifs = on 1 (k.key w.If ∷ k.mark m.OpenParen ∷ k.name (codes "a") ∷ k.mark m.CloseParen ∷ k.key w.If ∷ k.mark m.OpenParen ∷ k.name (codes "b") ∷ k.mark m.CloseParen
    ∷ k.name (codes "x") ∷ k.mark m.LessEqual ∷ k.number (plain_decimal 1) ∷ k.mark m.Semicolon
    ∷ k.key w.Else ∷ k.name (codes "x") ∷ k.mark m.LessEqual ∷ k.number (plain_decimal 2) ∷ k.mark m.Semicolon ∷ [])

-- x <= n;
abbrev write : ℕ → Stmt
write n = assign (codes "x") (primary (number (plain_decimal n)))

-- the `else` at the inner `if`
abbrev inner_else : Stmt
inner_else = conditional (more_branch (primary (name (codes "a")))
    (conditional (more_branch (primary (name (codes "b"))) (write 1) no_branch) (else_stmt (write 2))) no_branch) no_else

inner_derives : stmt_at 2 inner_else two_ifs []
inner_derives = (_, (_, (omega arith, refl)), (_, (_, (_, (omega arith, refl)), (_, (_, (omega arith, refl)), (_, (omega arith, refl)))), (_, (_, (_, (omega arith, refl)), (_, (_, (_, (omega arith, refl)), (_, (_, (omega arith, refl)), (_, (omega arith, refl)))), (_, (_, (_, (omega arith, refl)), (_, (_, (omega arith, refl)), (_, (_, (omega arith, refl)), (_, (omega arith, refl))))), (_, refl, (_, (_, (omega arith, refl)), (refl, (_, (_, (omega arith, refl)), (_, (_, (omega arith, refl)), (_, (_, (omega arith, refl)), (_, (omega arith, refl))))))))))), (_, refl, (refl, tt)))))

-- the `else` at the outer `if`
abbrev outer_else : Stmt
outer_else = conditional (more_branch (primary (name (codes "a")))
    (conditional (more_branch (primary (name (codes "b"))) (write 1) no_branch) no_else) no_branch) (else_stmt (write 2))

outer_is_refused : stmt_at 2 outer_else two_ifs [] → ⊥
outer_is_refused (m1, (_, (_, e1)), (m2, (m3, (_, (_, e2)), (m4, (_, (_, e3)), (_, (_, e4)))), (m5, (m6, (_, (_, e5)), (m7, (m8, (_, (_, e6)), (m9, (_, (_, e7)), (_, (_, e8)))), (m10, (m11, (_, (_, e9)), (m12, (_, (_, e10)), (m13, (_, (_, e11)), (_, (_, e12))))), (m14, q1, (q2, n))))), _))) =
    let s : m5 ≡ on 1 (k.key w.Else ∷ k.name (codes "x") ∷ k.mark m.LessEqual ∷ k.number (plain_decimal 2) ∷ k.mark m.Semicolon ∷ []) = cc in
    (subst NoElse s n) refl

-- an `else` whose statement is an `if` is one branch more, and no last `else`
if_after_else_is_refused : (ts rest : Tokens) → stmt_at 2 (conditional (more_branch (primary (name (codes "a"))) (write 1) no_branch) (else_stmt inner_else)) ts rest → ⊥
if_after_else_is_refused ts rest (_, _, (_, _, (_, _, (_, _, (_, _, (is_no_if, _)))))) = absurd cc

-- ---- operators before their operands

-- ! a
abbrev not_a : Tokens
not_a = on 1 (k.mark m.Not ∷ k.name (codes "a") ∷ [])

-- what follows a unary operator is one deeper, so `! a` fits at depth 199 and not at 200, where `a` alone fits
not_derives : expr_at 199 (unary one.LogicNot (name (codes "a"))) not_a []
not_derives = (_, (_, (omega arith, refl)), (_, (omega arith, refl)))

not_is_too_deep : expr_at 200 (unary one.LogicNot (name (codes "a"))) not_a [] → ⊥
not_is_too_deep (_, _, (_, (fits, _))) = absurd (omega (arith, fits))

name_derives : expr_at 200 (primary (name (codes "a"))) (on 1 (k.name (codes "a") ∷ [])) []
name_derives = (_, (omega arith, refl))

-- ---- operators between operands

-- a + b, and a == b
abbrev a_plus_b : Tokens
a_plus_b = on 1 (k.name (codes "a") ∷ k.mark m.Plus ∷ k.name (codes "b") ∷ [])

abbrev a_equals_b : Tokens
a_equals_b = on 1 (k.name (codes "a") ∷ k.mark m.EqualEqual ∷ k.name (codes "b") ∷ [])

-- both operands stand at the depth of the operator
sum_derives : expr_at 200 (binary (name (codes "a")) two.Add (name (codes "b"))) a_plus_b []
sum_derives = (_, (_, (omega arith, refl)), (_, (_, (omega arith, refl)), (_, (omega arith, refl))))

equality_derives : expr_at 200 (binary (name (codes "a")) two.Equal (name (codes "b"))) a_equals_b []
equality_derives = (_, (_, (omega arith, refl)), (_, (_, (omega arith, refl)), (_, (omega arith, refl))))

-- each mark is one operator's
sum_is_no_equality : (rest : Tokens) → expr_at 2 (binary (name (codes "a")) two.Equal (name (codes "b"))) a_plus_b rest → ⊥
sum_is_no_equality rest (_, (_, (_, e)), (_, (_, (_, f)), _)) = absurd cc

-- ---- blocks

-- begin end
abbrev empty_block : Tokens
empty_block = on 1 (k.key w.Begin ∷ k.key w.End ∷ [])

block_derives : stmt_at 200 (block no_stmt) empty_block []
block_derives = (_, (_, (omega arith, refl)), (_, refl, (_, (omega arith, refl))))

block_is_too_deep : stmt_at 201 (block no_stmt) empty_block [] → ⊥
block_is_too_deep (_, (_, (fits, _)), _) = absurd (omega (arith, fits))

-- begin begin end end: a block's statements are one deeper than its words
abbrev two_blocks : Tokens
two_blocks = on 1 (k.key w.Begin ∷ k.key w.Begin ∷ k.key w.End ∷ k.key w.End ∷ [])

abbrev block_in_block : Stmt
block_in_block = block (more_stmt (block no_stmt) no_stmt)

inner_block_derives : stmt_at 199 block_in_block two_blocks []
inner_block_derives = (_, (_, (omega arith, refl)), (_, (_, (_, (_, (omega arith, refl)), (_, refl, (_, (omega arith, refl)))), refl), (_, (omega arith, refl))))

inner_block_is_too_deep : stmt_at 200 block_in_block two_blocks [] → ⊥
inner_block_is_too_deep (_, _, (_, (_, (_, (_, (fits, _)), _), _), _)) = absurd (omega (arith, fits))

-- ---- a whole module

-- the tokens of the counter, line by line
abbrev pub counter_tokens : Tokens
counter_tokens =
    on 1 (k.key w.Module ∷ k.name (codes "cnt") ∷ k.mark m.OpenParen ∷ k.key w.Input ∷ k.name (codes "clk") ∷ k.mark m.Comma ∷ k.key w.Input ∷ k.name (codes "rst") ∷ k.mark m.Comma
    ∷ k.key w.Input ∷ k.name (codes "en") ∷ k.mark m.Comma ∷ k.key w.Output ∷ k.key w.Reg ∷ k.mark m.OpenBracket ∷ k.number (plain_decimal 3) ∷ k.mark m.Colon ∷ k.number (plain_decimal 0)
    ∷ k.mark m.CloseBracket ∷ k.name (codes "r") ∷ k.mark m.CloseParen ∷ k.mark m.Semicolon ∷ [])
    ++ on 2 (k.key w.Always ∷ k.mark m.At ∷ k.mark m.OpenParen ∷ k.key w.Posedge ∷ k.name (codes "clk") ∷ k.mark m.CloseParen ∷ k.key w.Begin ∷ [])
    ++ on 3 (k.key w.If ∷ k.mark m.OpenParen ∷ k.name (codes "rst") ∷ k.mark m.CloseParen ∷ [])
    ++ on 4 (k.name (codes "r") ∷ k.mark m.LessEqual ∷ k.number (sized_decimal 4 0) ∷ k.mark m.Semicolon ∷ [])
    ++ on 5 (k.key w.Else ∷ k.key w.If ∷ k.mark m.OpenParen ∷ k.name (codes "en") ∷ k.mark m.CloseParen ∷ [])
    ++ on 6 (k.name (codes "r") ∷ k.mark m.LessEqual ∷ k.name (codes "r") ∷ k.mark m.Plus ∷ k.number (sized_decimal 4 1) ∷ k.mark m.Semicolon ∷ [])
    ++ on 7 (k.key w.If ∷ k.mark m.OpenParen ∷ k.name (codes "r") ∷ k.mark m.EqualEqual ∷ k.number (sized_decimal 4 9) ∷ k.mark m.CloseParen ∷ k.key w.Begin ∷ [])
    ++ on 8 (k.system s.Display ∷ k.mark m.OpenParen ∷ k.str (codes "r hit %0d") ∷ k.mark m.Comma ∷ k.name (codes "r") ∷ k.mark m.CloseParen ∷ k.mark m.Semicolon ∷ [])
    ++ on 9 (k.system s.Stop ∷ k.mark m.Semicolon ∷ [])
    ++ on 10 (k.key w.End ∷ [])
    ++ on 11 (k.key w.End ∷ [])
    ++ on 12 (k.key w.Endmodule ∷ [])

pub counter_derives : Derives counter_tokens counter
counter_derives = (_, (_, (omega arith, refl)), (_, (_, (omega arith, refl)), (_, (_, (omega arith, refl)), (_, (_, (_, (_, (omega arith, refl)), (_, (omega arith, refl))), (_, (_, (omega arith, refl)), (_, (_, (_, (omega arith, refl)), (_, (omega arith, refl))), (_, (_, (omega arith, refl)), (_, (_, (_, (omega arith, refl)), (_, (omega arith, refl))), (_, (_, (omega arith, refl)), (_, (_, (_, (omega arith, refl)), (_, (_, (omega arith, refl)), (_, (_, (omega arith, refl)), (_, (_, (omega arith, refl)), (_, (_, (omega arith, refl)), (_, (_, (omega arith, refl)), (_, (_, (omega arith, refl)), (_, (omega arith, refl))))))))), refl))))))), (_, (_, (omega arith, refl)), (_, (_, (omega arith, refl)), (_, (_, (_, (omega arith, refl)), (_, (_, (omega arith, refl)), (_, (_, (omega arith, refl)), (_, (_, (omega arith, refl)), (_, (_, (omega arith, refl)), (_, (_, (omega arith, refl)), (_, (_, (omega arith, refl)), (_, (_, (_, (_, (omega arith, refl)), (_, (_, (_, (omega arith, refl)), (_, (_, (omega arith, refl)), (_, (omega arith, refl)))), (_, (_, (_, (omega arith, refl)), (_, (_, (omega arith, refl)), (_, (_, (omega arith, refl)), (_, (omega arith, refl))))), (_, (_, (_, (omega arith, refl)), (_, (_, (omega arith, refl)), (_, (_, (_, (omega arith, refl)), (_, (_, (omega arith, refl)), (_, (omega arith, refl)))), (_, (_, (_, (omega arith, refl)), (_, (_, (omega arith, refl)), (_, (_, (_, (omega arith, refl)), (_, (_, (omega arith, refl)), (_, (omega arith, refl)))), (_, (omega arith, refl))))), refl)))), (refl, λ e. absurd cc))))), (_, (_, (_, (omega arith, refl)), (_, (_, (_, (omega arith, refl)), (_, (_, (_, (omega arith, refl)), (_, (_, (omega arith, refl)), (_, (omega arith, refl)))), (_, (omega arith, refl)))), (_, (_, (_, (omega arith, refl)), (_, (_, (_, (_, (omega arith, refl)), (_, (_, (omega arith, refl)), (_, (_, (omega arith, refl)), (_, (_, (_, (omega arith, refl)), (_, (omega arith, refl))), (_, (_, (omega arith, refl)), (_, (omega arith, refl))))))), (_, (_, (omega arith, refl), (_, (omega arith, refl))), refl)), (_, (omega arith, refl)))), (_, refl, (refl, λ e. absurd cc))))), refl)), (_, (omega arith, refl)))))))))), (_, (omega arith, refl)))))))))
