-- Pieces of the grammar over tokens whose places are moved.
use Rattle.std.proofs.Common.{Bool, true, false, List, [], ◌∷◌, map, Option, Some, None, ap}
use Rattle.std.specs.Option.{option_map}
use Rattle.vl_tree.specs.declared.token.Mark.{Mark}
use Rattle.vl_tree.specs.declared.token.Mark.TheVariants as m
use Rattle.vl_tree.specs.Token.{Kind}
use Rattle.vl_tree.specs.Token as k
use Rattle.vl_tree.specs.Syntax.{Place, Name}
use Rattle.vl_tree.specs.Placed.{Placed, at}
use Rattle.vl_tree.specs.Piece.{Piece, ◌then◌, nothing, nowhere, given, kind_at, kind, operator_at, name_at, in_parens, where_true, maybe, each, more_of, commas}
use Rattle.vl_tree.specs.Statements.{NoElse, no_else_next}
use Rattle.line_laws.specs.Moved.{move_name}

module _ (f : Place → Place) where
  abbrev pub move : Placed → Placed
  move (at a p) = at a (f p)

  abbrev pub moved : List Placed → List Placed
  moved = map move

  -- what stands for the first piece stands, moved, for the second
  pub record Moves (P Q : Piece) : Type 0 where
    pub by : (ts rest : List Placed) → P ts rest → Q (moved ts) (moved rest)

  pub m_then : {P Q R S : Piece} → Moves P Q → Moves R S → Moves (P then R) (Q then S)
  m_then a b = record { by = λ ts rest c. (moved c.0, a.by ts c.0 c.1, b.by c.0 rest c.2) }

  pub m_nothing : Moves nothing nothing
  m_nothing = record { by = λ ts rest e. ap moved e }

  pub m_nowhere : Moves nowhere nowhere
  m_nowhere = record { by = λ ts rest c. c }

  pub m_given : {A B : Type 0} {P Q : Piece} → (A → B) → Moves P Q → Moves (given A P) (given B Q)
  m_given g a = record { by = λ ts rest c. (g c.0, a.by ts rest c.1) }

  pub m_kind_at : (a : Kind) (p : Place) → Moves (kind_at a p) (kind_at a (f p))
  m_kind_at a p = record { by = λ ts rest e. ap moved e }

  pub m_kind : (a : Kind) → Moves (kind a) (kind a)
  m_kind a = record { by = λ ts rest c. (f c.0, ap moved c.1) }

  pub m_name : (n : Name) → Moves (name_at n) (name_at (move_name f n))
  m_name n = m_kind_at (k.name n.text) n.place

  pub m_operator : {O : Type 0} (table : Mark → Option O) (op : O) (p : Place) → Moves (operator_at table op p) (operator_at table op (f p))
  m_operator table op p = record { by = λ ts rest c. (c.0, c.1, ap moved c.2) }

  pub m_where : (b : Bool) {P Q : Piece} → Moves P Q → Moves (where_true b P) (where_true b Q)
  m_where false a = m_nothing
  m_where true a = a

  pub m_parens : {P Q : Piece} → Moves P Q → Moves (in_parens P) (in_parens Q)
  m_parens a = m_then (m_kind (k.mark m.OpenParen)) (m_then a (m_kind (k.mark m.CloseParen)))

  module _ {A : Type 0} (P Q : A → Piece) (g : A → A) (a : (x : A) → Moves (P x) (Q (g x))) where
    pub m_maybe : (x : Option A) → Moves (maybe P x) (maybe Q (option_map g x))
    m_maybe None = m_nothing
    m_maybe (Some x) = a x

    pub m_each : (xs : List A) → Moves (each P xs) (each Q (map g xs))
    m_each [] = m_nothing
    m_each (x ∷ xs) = m_then (a x) (m_each xs)

    pub m_more : (xs : List A) → Moves (more_of P xs) (more_of Q (map g xs))
    m_more [] = m_nothing
    m_more (x ∷ xs) = m_then (m_kind (k.mark m.Comma)) (m_then (a x) (m_more xs))

    pub m_commas : (xs : List A) → Moves (commas P xs) (commas Q (map g xs))
    m_commas [] = m_nowhere
    m_commas (x ∷ xs) = m_then (a x) (m_more xs)

  no_else_moved : (rest : List Placed) → NoElse rest → NoElse (moved rest)
  no_else_moved [] n = tt
  no_else_moved (at a p ∷ rest) n = n

  pub m_no_else : Moves no_else_next no_else_next
  m_no_else = record { by = λ ts rest c. (ap moved c.0, no_else_moved rest c.1) }
