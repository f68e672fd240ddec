-- Constants while a design is built (IEEE 1364-2005, clauses 4.10, 5 and 12.4). This project's own: a parameter is in sight
-- only behind its declaration, and of what rests on a faulty constant no further fault is told.
use Rattle.std.specs.Prelude.{ℕ, Bool, true, false, ◌||◌, if◌then◌else◌, List, [], bytes_eq, Option, Some, None}
use Rattle.vl_tree.specs.Syntax.{Expr, number, read, call, system, group, concat, repeat, unary, chain, choose}
use Rattle.vl_tree.specs.Syntax.{Exprs, no_expr, more_expr, Links, no_link, more_link, Choices, no_choice, more_choice}
use Rattle.vl_tree.specs.Syntax.{Selects, no_select, more_select, Select, index, part, upward, downward}
use Rattle.vl_value.specs.Paths.{Text}
use Rattle.vl_value.specs.Things.{Thing, constant}
use Rattle.vl_value.specs.Meaning.{Meaning}
use Rattle.vl_value.specs.Constant.{Sight, is_constant}
use Rattle.vl_value.specs.Order.{Found}
use Rattle.vl_value.specs.Faults.{settled, faults, constant_meaning, early_faults}

-- a constant's width, sign and number; or a constant that rests on a fault
pub data Worth : Type 0 where
  worth : ℕ → Bool → ℕ → Worth
  faulty : Worth

-- the constants in sight
abbrev pub Known : Type 0
Known = Text → Option Worth

abbrev pub nothing_known : Known
nothing_known x = None

abbrev pub with_constant : Text → Worth → Known → Known
with_constant x w k = λ y. if bytes_eq x y then Some w else k y

-- without names that something else has
abbrev pub without : (Text → Bool) → Known → Known
without f k = λ x. if f x then None else k x

-- ---- expressions among them

-- what isn't a constant is in sight as nothing: an expression that reads it is no constant either way
abbrev pub thing_of : Option Worth → Option Thing
thing_of (Some (worth w s n)) = Some (constant w s n)
thing_of _ = None

abbrev pub sight_of : Known → Sight
sight_of k = λ x. thing_of (k x)

abbrev pub is_faulty : Option Worth → Bool
is_faulty (Some faulty) = true
is_faulty _ = false

-- whether an expression reads a name of which f holds
abbrev mutual
  pub mentions : (Text → Bool) → Expr → Bool
  mentions f (number p l) = false
  mentions f (read x ks) = f x.text || selects_mention f ks
  mentions f (call x es) = some_mention f es
  mentions f (system p x e) = mentions f e
  mentions f (group p e) = mentions f e
  mentions f (concat p es) = some_mention f es
  mentions f (repeat p n es) = mentions f n || some_mention f es
  mentions f (unary p x e) = mentions f e
  mentions f (chain e ls) = mentions f e || links_mention f ls
  mentions f (choose hs e) = choices_mention f hs || mentions f e

  pub some_mention : (Text → Bool) → Exprs → Bool
  some_mention f no_expr = false
  some_mention f (more_expr e es) = mentions f e || some_mention f es

  pub links_mention : (Text → Bool) → Links → Bool
  links_mention f no_link = false
  links_mention f (more_link x p e ls) = mentions f e || links_mention f ls

  pub choices_mention : (Text → Bool) → Choices → Bool
  choices_mention f no_choice = false
  choices_mention f (more_choice e p a hs) = mentions f e || (mentions f a || choices_mention f hs)

  pub selects_mention : (Text → Bool) → Selects → Bool
  selects_mention f no_select = false
  selects_mention f (more_select p k ks) = select_mentions f k || selects_mention f ks

  pub select_mentions : (Text → Bool) → Select → Bool
  select_mentions f (index e) = mentions f e
  select_mentions f (part a b) = mentions f a || mentions f b
  select_mentions f (upward b w) = mentions f b || mentions f w
  select_mentions f (downward b w) = mentions f b || mentions f w

-- what an expression means; none where it isn't a constant without a fault
abbrev pub value_of : Known → Expr → Option Meaning
value_of k e = settled (is_constant (sight_of k) e) (faults (sight_of k) e) (constant_meaning (sight_of k) e)

-- the fault of an expression that has to be a constant, but for one that rests on a faulty constant
abbrev pub needs : Known → Expr → List Found
needs k e = if mentions (λ x. is_faulty (k x)) e then [] else early_faults (sight_of k) e
