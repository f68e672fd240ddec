-- Counts that stop, one part after another.
use Rattle.std.proofs.Common.{◌≡◌, refl, ap, ◌∙◌, ℕ, ◌+◌, Bool, true, false, List, [], ◌∷◌, length, arith}
use Rattle.vl_tree.specs.Depth.{one_if, more_depths}
use Rattle.vl_design.proofs.TokenLaws.{lengthened}
use Rattle.vl_tokens.specs.Counted.{capped, in_list}

-- two counts together are the count of both
pub sums : {a b r : ℕ} → (x y : ℕ) → r ≡ capped (a + b) → a ≡ capped x → b ≡ capped y → r ≡ capped (x + y)
sums x y h f g = omega (arith, h, f, g)

-- ---- what was counted, and what is left

abbrev pub Counts : ℕ → ℕ → ℕ → Type 0
Counts count left all = (n : ℕ) × ((count ≡ capped n) × (n + left ≡ all))

pub none_counted : (all : ℕ) → Counts 0 all all
none_counted all = (0, (refl, omega arith))

pub one_more : {count left all one new : ℕ} → (k rest : ℕ) → Counts count left all → new ≡ capped (count + one) → one ≡ capped k → left ≡ k + rest
    → Counts new rest all
one_more k rest c h g e = let was = c.1.1 in (c.0 + k, (sums c.0 k h c.1.0 g, omega (arith, was, e)))

pub all_counted : {count left all : ℕ} → Counts count left all → left ≡ 0 → count ≡ capped all
all_counted c e = let was = c.1.1 in c.1.0 ∙ ap capped (omega (arith, was, e))

-- ---- what has commas between it

pub none_in_list : {A : Type 0} → (f : ℕ → A → List ℕ) (b : Bool) → in_list f b [] ≡ 0
none_in_list f true = refl
none_in_list f false = refl

pub more_in_list : {A : Type 0} → (f : ℕ → A → List ℕ) (b : Bool) (a : A) (more : List A)
    → in_list f b (a ∷ more) ≡ (length (one_if 0 b) + length (f 0 a)) + in_list f true more
more_in_list f true a more = let h = lengthened (f 0 a) (more_depths f 0 more) in omega (arith, h)
more_in_list f false a more = let h = lengthened (f 0 a) (more_depths f 0 more) in omega (arith, h)
