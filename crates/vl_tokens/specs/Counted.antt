-- Numbers of tokens, and counts that stop. A tree has as many tokens wherever it stands, so they are counted where it is the
-- outermost. This project's own.
use Rattle.std.specs.Prelude.{ℕ, Bool, true, false, List, length, min}
use Rattle.vl_tree.specs.Syntax as t
use Rattle.vl_tree.specs.Depth.{expr_depths, exprs_depths, more_exprs_depths, links_depths, choices_depths, selects_depths, select_depths, range_depths, comma_depths, more_depths}

-- a count of 32 bits, which stops at the most that they hold
abbrev pub capped : ℕ → ℕ
capped n = min n 4294967295

abbrev pub expr_tokens : t.Expr → ℕ
expr_tokens e = length (expr_depths 0 e)

-- expressions with commas between them, with one before the first where that is said
abbrev pub listed : Bool → t.Exprs → ℕ
listed false es = length (exprs_depths 0 es)
listed true es = length (more_exprs_depths 0 es)

abbrev pub links_tokens : t.Links → ℕ
links_tokens ls = length (links_depths 0 ls)

abbrev pub choices_tokens : t.Choices → ℕ
choices_tokens cs = length (choices_depths 0 cs)

abbrev pub selects_tokens : t.Selects → ℕ
selects_tokens ss = length (selects_depths 0 ss)

abbrev pub select_tokens : t.Select → ℕ
select_tokens s = length (select_depths 0 s)

abbrev pub range_tokens : t.Range → ℕ
range_tokens r = length (range_depths 0 r)

-- what has commas between it, with one before the first where that is said
abbrev pub in_list : {A : Type 0} → (ℕ → A → List ℕ) → Bool → List A → ℕ
in_list f false xs = length (comma_depths f 0 xs)
in_list f true xs = length (more_depths f 0 xs)
