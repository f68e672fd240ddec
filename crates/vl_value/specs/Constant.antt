-- Constant expressions (IEEE 1364-2005, clause 5 and A.8.3, cut down to the profile): numbers, and parameters, genvars and
-- loop variables in sight, with no function but `$clog2`, which is this project's own. That an expression has no fault
-- is asked apart.
use Rattle.std.specs.Prelude.{Bool, true, false, ◌&&◌, Option, Some}
use Rattle.vl_tree.specs.Syntax.{to_signed, to_unsigned, clog2}
use Rattle.vl_tree.specs.Syntax.{Expr, number, read, call, system, group, concat, repeat, unary, chain, choose}
use Rattle.vl_tree.specs.Syntax.{Exprs, no_expr, more_expr, Links, no_link, more_link, Choices, no_choice, more_choice}
use Rattle.vl_tree.specs.Syntax.{Selects, no_select, more_select, Select, index, part, upward, downward}
use Rattle.vl_value.specs.Paths.{Text}
use Rattle.vl_value.specs.Things.{Thing, constant}

-- the names in sight
abbrev pub Sight : Type 0
Sight = Text → Option Thing

abbrev pub is_constant_name : Option Thing → Bool
is_constant_name (Some (constant w s n)) = true
is_constant_name _ = false

abbrev mutual
  pub is_constant : Sight → Expr → Bool
  is_constant s (number p l) = true
  is_constant s (read x ks) = is_constant_name (s x.text) && selects_constant s ks
  is_constant s (call f es) = false
  is_constant s (system p clog2 e) = is_constant s e
  is_constant s (system p to_signed e) = false
  is_constant s (system p to_unsigned e) = false
  is_constant s (group p e) = is_constant s e
  is_constant s (concat p es) = all_constant s es
  is_constant s (repeat p n es) = is_constant s n && all_constant s es
  is_constant s (unary p f e) = is_constant s e
  is_constant s (chain e ls) = is_constant s e && links_constant s ls
  is_constant s (choose hs e) = choices_constant s hs && is_constant s e

  pub all_constant : Sight → Exprs → Bool
  all_constant s no_expr = true
  all_constant s (more_expr e es) = is_constant s e && all_constant s es

  pub links_constant : Sight → Links → Bool
  links_constant s no_link = true
  links_constant s (more_link f p e ls) = is_constant s e && links_constant s ls

  pub choices_constant : Sight → Choices → Bool
  choices_constant s no_choice = true
  choices_constant s (more_choice e p a hs) = is_constant s e && is_constant s a && choices_constant s hs

  -- a constant has no select, which is another fault (`of_name` in `specs/Faults`): what it reads is constant all the same
  pub selects_constant : Sight → Selects → Bool
  selects_constant s no_select = true
  selects_constant s (more_select p k ks) = select_constant s k && selects_constant s ks

  pub select_constant : Sight → Select → Bool
  select_constant s (index e) = is_constant s e
  select_constant s (part a b) = is_constant s a && is_constant s b
  select_constant s (upward b w) = is_constant s b && is_constant s w
  select_constant s (downward b w) = is_constant s b && is_constant s w

-- whether a select covers the same bits in each moment; `[a:b]` has constant bounds always
abbrev pub is_fixed_select : Sight → Select → Bool
is_fixed_select s (index e) = is_constant s e
is_fixed_select s (part a b) = true
is_fixed_select s (upward b w) = is_constant s b
is_fixed_select s (downward b w) = is_constant s b

abbrev pub is_fixed : Sight → Selects → Bool
is_fixed s no_select = true
is_fixed s (more_select p k ks) = is_fixed_select s k && is_fixed s ks
