-- Short names for the trees of the worked examples.
use Rattle.std.specs.Prelude.{ℕ, Bool, true, false, List, [], ◌∷◌}
use Rattle.bit_ops.specs.declared.operator.Unary.{Unary}
use Rattle.bit_ops.specs.declared.operator.Binary.{Binary}
use Rattle.vl_tree.specs.Syntax as tree
use Rattle.vl_tree.specs.Syntax.{Place, Name, Expr, Exprs, Select, SystemFunction}

abbrev pub here : Place
here = record { token = 0; line = 1 }

abbrev pub named : List ℕ → Name
named t = record { text = t; place = here }

-- 4'd9 and 4'sd9, and 9
abbrev pub sized : ℕ → Bool → ℕ → Expr
sized w s n = tree.number here (record { width = w; sized = true; signed = s; value = n; wild = 0 })

abbrev pub plain : ℕ → Expr
plain n = tree.number here (record { width = 32; sized = false; signed = true; value = n; wild = 0 })

abbrev pub two : Binary → Expr → Expr → Expr
two f a b = tree.chain a (tree.more_link f here b tree.no_link)

abbrev pub one : Unary → Expr → Expr
one f a = tree.unary here f a

abbrev pub name : List ℕ → Expr
name t = tree.read (named t) tree.no_select

abbrev pub of : List ℕ → Select → Expr
of t k = tree.read (named t) (tree.more_select here k tree.no_select)

abbrev pub exprs : List Expr → Exprs
exprs [] = tree.no_expr
exprs (e ∷ es) = tree.more_expr e (exprs es)

abbrev pub group : Expr → Expr
group e = tree.group here e

abbrev pub system : SystemFunction → Expr → Expr
system f e = tree.system here f e

abbrev pub call : List ℕ → List Expr → Expr
call t es = tree.call (named t) (exprs es)
