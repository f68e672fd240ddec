-- The faults of an expression among the names in sight: of phase 6, and of phase 4 where its value is wanted while the
-- design is built. This project's own, over the rules of IEEE 1364-2005, clauses 4.9, 5.1.14, 5.2 and 10.4.
-- The faults of an expression are those of its operands and then its own.
use Rattle.std.specs.Prelude.{ℕ, ◌+◌, ◌*◌, ◌==◌, Bool, true, false, ◌&&◌, if◌then◌else◌, nat_le, List, [], ◌∷◌, ◌++◌, length, ℤ, pos, ◌-ℤ◌, unsigned_abs, int_lt, int_le, Option, Some, None}
use Rattle.dt_core.specs.declared.limits.TheConstants.{MAX_WIDTH}
use Rattle.vl_tree.specs.declared.fault.FaultKind.TheVariants.{UnknownName, NotConstant, BadSelect, TooWide, ZeroReplication, BadCall}
use Rattle.vl_tree.specs.Syntax.{Place, Expr, number, read, call, system, group, concat, repeat, unary, chain, choose}
use Rattle.vl_tree.specs.Syntax.{Exprs, no_expr, more_expr, Links, no_link, more_link, Choices, no_choice, more_choice}
use Rattle.vl_tree.specs.Syntax.{Selects, no_select, more_select, Select, index, part, upward, downward}
use Rattle.vl_value.specs.Things.{Shape, Thing, signal, memory, constant, routine}
use Rattle.vl_value.specs.Meaning.{Meaning, whole, widths, at_rest, meaning, meanings}
use Rattle.vl_value.specs.Constant.{Sight, is_constant}
use Rattle.vl_value.specs.Order.{Found, at}

-- the place of the first token
abbrev mutual
  pub start : Expr → Place
  start (number p l) = p
  start (read x ks) = x.place
  start (call f es) = f.place
  start (system p f e) = p
  start (group p e) = p
  start (concat p es) = p
  start (repeat p n es) = p
  start (unary p f e) = p
  start (chain e ls) = start e
  start (choose hs e) = choices_start hs (start e)

  pub choices_start : Choices → Place → Place
  choices_start no_choice p = p
  choices_start (more_choice e q a hs) p = start e

-- ---- constants that are needed

-- what an expression in sight is worth
abbrev pub constant_meaning : Sight → Expr → Meaning
constant_meaning s e = meaning (at_rest s) e

-- a fault where a constant is needed and this is none; it stands at the first token, after the expression's own faults
abbrev pub needed : Bool → Place → List Found → List Found
needed c p fs = fs ++ (if c then [] else at p NotConstant ∷ [])

-- what is said of an expression with these faults, where it is a constant and has none
abbrev pub settled : {X : Type 0} → Bool → List Found → X → Option X
settled true [] x = Some x
settled c fs x = None

-- phase 4 has this one fault instead
abbrev pub unsettled : Place → Option ℤ → List Found
unsettled p (Some z) = []
unsettled p None = at p NotConstant ∷ []

-- ---- widths

-- More than 128 bits, or none, as braces without a part have, which stand in no source. What has a fault within isn't too
-- wide itself.
abbrev pub wide : Place → List Found → ℕ → List Found
wide p [] w = if nat_le 1 w && nat_le w MAX_WIDTH then [] else at p TooWide ∷ []
wide p (f ∷ fs) w = []

-- so many copies: one at least, and of 128 bits at most
abbrev pub copied : Place → List Found → Option ℤ → ℕ → List Found
copied p fs None w = []
copied p fs (Some n) w = if int_lt n (pos 1) then at p ZeroReplication ∷ [] else wide p fs (unsigned_abs n * w)

-- ---- names and selects

-- a select, with the whole number of each constant that it needs: [i], [a:b], and w bits, [b +: w] or [b -: w]
pub data Chosen : Type 0 where
  one : Chosen
  span : Option ℤ → Option ℤ → Chosen
  many : Option ℤ → Chosen

-- whether a select from a to b goes the way of the vector; one of equal bounds descends
abbrev pub is_along : Shape → ℤ → ℤ → Bool
is_along sh a b = if nat_le sh.right sh.left then int_le b a else int_le a b

-- a select of bits, whose operands have these faults
abbrev pub covered : Shape → Place → List Found → Chosen → List Found
covered sh p fs one = []
covered sh p fs (span (Some a) (Some b)) =
    if is_along sh a b then wide p fs (unsigned_abs (a -ℤ b) + 1) else at p BadSelect ∷ []
covered sh p fs (span a b) = []
covered sh p fs (many n) = copied p fs n 1

-- a vector has one select at most
abbrev pub of_vector : Shape → Place → List Found → List Chosen → List Found
of_vector sh p fs [] = []
of_vector sh p fs (k ∷ []) = covered sh p fs k
of_vector sh p fs (k ∷ l ∷ more) = at p BadSelect ∷ []

-- A name that is read: a memory has a word's index and then what a vector has, a constant has no select. A function's
-- name stands for its variable in its own body alone.
abbrev pub of_name : Option Thing → Place → List Found → List Chosen → List Found
of_name None p fs ks = at p UnknownName ∷ []
of_name (Some (signal q sh)) p fs ks = of_vector sh p fs ks
of_name (Some (memory q sh first last)) p fs (one ∷ ks) = of_vector sh p fs ks
of_name (Some (memory q sh first last)) p fs ks = at p BadSelect ∷ []
of_name (Some (constant w g n)) p fs [] = []
of_name (Some (constant w g n)) p fs ks = at p BadSelect ∷ []
of_name (Some (routine true q sh shs)) p fs ks = of_vector sh p fs ks
of_name (Some (routine false q sh shs)) p fs ks = at p BadCall ∷ []

-- a name that is called with so many arguments
abbrev pub of_call : Option Thing → Place → ℕ → List Found
of_call None p n = at p UnknownName ∷ []
of_call (Some (routine inside q sh shs)) p n = if n == length shs then [] else at p BadCall ∷ []
of_call (Some x) p n = at p BadCall ∷ []

-- ---- expressions

abbrev mutual
  pub faults : Sight → Expr → List Found
  faults s (number p l) = []
  faults s (read x ks) = select_faults s ks ++ of_name (s x.text) x.place (select_faults s ks) (chosen s ks)
  faults s (call f es) = all_faults s es ++ of_call (s f.text) f.place (length (meanings (at_rest s) es))
  faults s (system p f e) = faults s e
  faults s (group p e) = faults s e
  faults s (concat p es) = all_faults s es ++ wide p (all_faults s es) (widths (meanings (at_rest s) es))
  faults s (repeat p n es) = needed (is_constant s n) (start n) (faults s n) ++ (all_faults s es
      ++ copied p (all_faults s es) (settled (is_constant s n) (faults s n) (whole (constant_meaning s n)))
      (widths (meanings (at_rest s) es)))
  faults s (unary p f e) = faults s e
  faults s (chain e ls) = faults s e ++ link_faults s ls
  faults s (choose hs e) = choice_faults s hs ++ faults s e

  pub all_faults : Sight → Exprs → List Found
  all_faults s no_expr = []
  all_faults s (more_expr e es) = faults s e ++ all_faults s es

  pub link_faults : Sight → Links → List Found
  link_faults s no_link = []
  link_faults s (more_link f p e ls) = faults s e ++ link_faults s ls

  pub choice_faults : Sight → Choices → List Found
  choice_faults s no_choice = []
  choice_faults s (more_choice e p a hs) = faults s e ++ (faults s a ++ choice_faults s hs)

  pub select_faults : Sight → Selects → List Found
  select_faults s no_select = []
  select_faults s (more_select p k ks) = index_faults s k ++ select_faults s ks

  pub index_faults : Sight → Select → List Found
  index_faults s (index e) = faults s e
  index_faults s (part a b) =
      needed (is_constant s a) (start a) (faults s a) ++ needed (is_constant s b) (start b) (faults s b)
  index_faults s (upward b w) = faults s b ++ needed (is_constant s w) (start w) (faults s w)
  index_faults s (downward b w) = faults s b ++ needed (is_constant s w) (start w) (faults s w)

  pub chosen : Sight → Selects → List Chosen
  chosen s no_select = []
  chosen s (more_select p k ks) = chosen_by s k ∷ chosen s ks

  pub chosen_by : Sight → Select → Chosen
  chosen_by s (index e) = one
  chosen_by s (part a b) = span (settled (is_constant s a) (faults s a) (whole (constant_meaning s a)))
      (settled (is_constant s b) (faults s b) (whole (constant_meaning s b)))
  chosen_by s (upward b w) = many (settled (is_constant s w) (faults s w) (whole (constant_meaning s w)))
  chosen_by s (downward b w) = many (settled (is_constant s w) (faults s w) (whole (constant_meaning s w)))

-- phase 6, where the expression has to be a constant
abbrev pub needed_faults : Sight → Expr → List Found
needed_faults s e = needed (is_constant s e) (start e) (faults s e)

-- phase 4, where it has to be one: its one fault, at its first token, where it is none or has a fault of phase 6
abbrev pub early_faults : Sight → Expr → List Found
early_faults s e = unsettled (start e) (settled (is_constant s e) (faults s e) (whole (constant_meaning s e)))
