-- What an expression is worth where it is constant and has no fault, operand by operand; none else. This project's own:
-- `proofs/Settled` shows that it is the meaning of `vl_value` where no fault is, and none where there is one.
use Rattle.std.specs.Prelude.{◌≡◌, ◌⊎◌, ◌≤◌, ◌<◌, ℕ, ◌*◌, Bool, true, ◌&&◌, if◌then◌else◌, nat_le, List, [], ◌∷◌, ℤ, pos, int_lt, unsigned_abs, Option, Some, None}
use Rattle.std.specs.Option.{option_map}
use Rattle.dt_core.specs.declared.limits.TheConstants.{MAX_WIDTH}
use Rattle.vl_tree.specs.Syntax.{SystemFunction, to_signed, to_unsigned, clog2}
use Rattle.vl_tree.specs.Syntax.{Expr, number, read, call, system, group, concat, repeat, unary, chain, choose}
use Rattle.vl_tree.specs.Syntax.{Exprs, no_expr, more_expr, Links, no_link, more_link, Choices, no_choice, more_choice}
use Rattle.vl_tree.specs.Syntax.{Selects, no_select}
use Rattle.vl_value.specs.Things.{Thing, constant}
use Rattle.vl_value.specs.Meaning as m
use Rattle.vl_value.specs.Meaning.{Meaning}
use Rattle.vl_value.specs.Constant.{Sight}

-- ---- answers that may be none

abbrev pub both : {X Y Z : Type 0} → (X → Y → Z) → Option X → Option Y → Option Z
both f None y = None
both f (Some x) y = option_map (f x) y

abbrev pub then_some : {X Y : Type 0} → Option X → (X → Option Y) → Option Y
then_some None f = None
then_some (Some x) f = f x

-- ---- braces

-- whether a vector has so many bits
abbrev pub is_width : ℕ → Bool
is_width w = nat_le 1 w && nat_le w MAX_WIDTH

-- parts side by side
abbrev pub braces_within : List Meaning → Option Meaning
braces_within ms = if is_width (m.widths ms) then Some (m.braces ms) else None

-- so many copies of a part
abbrev pub copies_within : ℤ → Meaning → Option Meaning
copies_within z a = if int_lt z (pos 1) then None
    else (if is_width (unsigned_abs z * a.width) then Some (m.copies (unsigned_abs z) a) else None)

-- ---- expressions

abbrev pub read_known : Option Thing → Selects → Option Meaning
read_known (Some (constant w s n)) no_select = Some (m.operand w s n)
read_known x ks = None

abbrev pub system_known : SystemFunction → Option Meaning → Option Meaning
system_known clog2 a = option_map (m.system_of clog2) a
system_known to_signed a = None
system_known to_unsigned a = None

abbrev pub braced : Option (List Meaning) → Option Meaning
braced ms = then_some ms braces_within

abbrev pub copied : Option Meaning → Option Meaning → Option Meaning
copied n a = then_some n (λ k. then_some a (copies_within (m.whole k)))

-- of branches, each a condition and a value, the value of the first that holds, or the last value
abbrev pub chosen_among : List (Meaning × Meaning) → Meaning → Meaning
chosen_among [] b = b
chosen_among (x ∷ xs) b = m.choice x.0 x.1 (chosen_among xs b)

abbrev pub chosen : Option (List (Meaning × Meaning)) → Option Meaning → Option Meaning
chosen hs b = both chosen_among hs b

abbrev pub paired : Meaning → Meaning → Meaning × Meaning
paired a b = (a, b)

abbrev mutual
  pub known : Sight → Expr → Option Meaning
  known s (number p l) = Some (m.literal l)
  known s (read x ks) = read_known (s x.text) ks
  known s (call f es) = None
  known s (system p f e) = system_known f (known s e)
  known s (group p e) = known s e
  known s (concat p es) = braced (all_known s es)
  known s (repeat p n es) = copied (known s n) (braced (all_known s es))
  known s (unary p f e) = option_map (m.unary_of f) (known s e)
  known s (chain e ls) = linked s ls (known s e)
  known s (choose hs e) = chosen (all_choices s hs) (known s e)

  pub all_known : Sight → Exprs → Option (List Meaning)
  all_known s no_expr = Some []
  all_known s (more_expr e es) = both ◌∷◌ (known s e) (all_known s es)

  pub linked : Sight → Links → Option Meaning → Option Meaning
  linked s no_link a = a
  linked s (more_link f p e ls) a = linked s ls (both (m.binary_of f) a (known s e))

  pub all_choices : Sight → Choices → Option (List (Meaning × Meaning))
  all_choices s no_choice = Some []
  all_choices s (more_choice e p a hs) = both ◌∷◌ (both paired (known s e) (known s a)) (all_choices s hs)

-- ---- what helpers promise

-- how many copies a whole number tells; none where it is below 1, or no vector has so many bits
abbrev pub Counts : ℤ → Option ℕ → Type 0
Counts z None = (int_lt z (pos 1) ≡ true) ⊎ (MAX_WIDTH < unsigned_abs z)
Counts z (Some n) = (z ≡ pos n) × (1 ≤ n) × (n ≤ MAX_WIDTH)
