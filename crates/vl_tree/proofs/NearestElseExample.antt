-- In `if (c) if (d) ; else ;` the `else` isn't that of the first `if`.
use Rattle.std.proofs.Common.{◌≡◌, List, [], ◌∷◌, refl, subst}
use Rattle.std.specs.Prelude.{codes}
use Rattle.vl_tree.specs.declared.token.Key.TheVariants as w
use Rattle.vl_tree.specs.declared.token.Mark.TheVariants as m
use Rattle.vl_tree.specs.Syntax as t
use Rattle.vl_tree.specs.Syntax.{Stmt}
use Rattle.vl_tree.specs.Placed.{Placed, at}
use Rattle.vl_tree.specs.Token as k
use Rattle.vl_tree.specs.Statements.{stmt_at, NoElse}
use Rattle.vl_tree.proofs.SyntaxExamples.{spot, numbered, id, plain}

abbrev pub two_ifs : List Placed
two_ifs = numbered 0 (k.key w.If ∷ k.mark m.OpenParen ∷ id (codes "c") ∷ k.mark m.CloseParen ∷ k.key w.If
    ∷ k.mark m.OpenParen ∷ id (codes "d") ∷ k.mark m.CloseParen ∷ k.mark m.Semicolon
    ∷ k.key w.Else ∷ k.mark m.Semicolon ∷ [])

-- the `else` at the nearest `if`
abbrev pub nearest : Stmt
nearest = t.conditional (t.more_branch (spot 0) (plain (codes "c") 2) (t.conditional (t.more_branch (spot 4) (plain
    (codes "d") 6) (t.empty (spot 8)) t.no_branch) (t.else_stmt (t.empty (spot 10)))) t.no_branch) t.no_else

pub nearest_derives : stmt_at nearest two_ifs []
nearest_derives = (
  _,
  refl,
  (
    _,
    (_, (_, refl), (_, (_, refl, refl), (_, refl))),
    (
      _,
      (
        _,
        refl,
        (
          _,
          (
            _,
            (_, refl),
            (
              _,
              (_, refl, refl),
              (_, refl),
            ),
          ),
          (_, refl, (_, refl, (_, (_, refl), (refl, refl)))),
        ),
      ),
      (_, refl, (refl, tt)),
    ),
  ),
)

-- the `else` at the first `if`
abbrev pub farther : Stmt
farther = t.conditional (t.more_branch (spot 0) (plain (codes "c") 2) (t.conditional (t.more_branch (spot 4) (plain
    (codes "d") 6) (t.empty (spot 8)) t.no_branch) t.no_else) t.no_branch) (t.else_stmt (t.empty (spot 10)))

pub farther_is_refused : stmt_at farther two_ifs [] → ⊥
farther_is_refused (
  m1,
  e1,
  (
    m2,
    (a1, (p1, f1), (a2, (a3, g1, g2), (p2, f2))),
    (
      m3,
      (
        b1,
        h1,
        (
          b2,
          (
            c1,
            (q1, i1),
            (
              c2,
              (c3, j1, j2),
              (q2, i2),
            ),
          ),
          (b3, l1, (b4, l2, (l3, n))),
        ),
      ),
      rest,
    ),
  ),
) =
    let s : m3 ≡ at (k.key w.Else) (spot 9) ∷ at (k.mark m.Semicolon) (spot 10) ∷ [] = cc in
    (subst NoElse s n) refl
