-- Equality of paths and of keys is what their tests decide.
use Rattle.std.proofs.Common.{◌≡◌, ℕ, Bool, ◌&&◌, [], ◌∷◌, ◌++◌, ℤ, pos, negsuc, Option, Some, None, arith, refl, sym, ap}
use Rattle.std.specs.Prelude.{nat_le, ◌==◌, bytes_eq}
use Rattle.std.specs.Bool.{Decides}
use Rattle.std.specs.Ordering.{int_eq}
use Rattle.std.specs.Option.{option_eq}
use Rattle.std.proofs.lemmas.Bool.Decides.{same_from_decides, Decides-eqb, Decides-int_eq, Decides-at, Decides-like, Decides-and, nat_tests}
use Rattle.std.proofs.lemmas.Slice.Eq.{bytes_eq-Decides}
use Rattle.std.proofs.lemmas.List.{same_from_push}
use Rattle.vl_value.specs.Paths.{Text, Path, Step, named, turn, unnamed, same_number, same_turn, same_step, same_path, below}
use Rattle.vl_paths.specs.declared.key.LastStep.{LastStep}
use Rattle.vl_paths.specs.declared.key.LastStep.TheVariants as l
use Rattle.vl_paths.specs.declared.key.Key.{Key}
use Rattle.vl_paths.specs.declared.key.Key.TheVariants.{Top, Below}
use Rattle.vl_paths.specs.contracts.key.LastStepPartialEq.TheImpl as last_eq
use Rattle.vl_paths.specs.contracts.key.KeyPartialEq.TheImpl as key_eq

both : (a b : ℕ) → (nat_le a b && nat_le b a) ≡ (a == b)
both a b = grind (arith, nat_tests)

same_number-decides : (a b : ℤ) → Decides (same_number a b) (a ≡ b)
same_number-decides (pos a) (pos b) =
    Decides-at _ (a == b) (both a b) (Decides-like (a == b) (λ e. ap pos e) (λ e. cc) (Decides-eqb a b))
same_number-decides (pos a) (negsuc b) = (λ e. cc, λ e. cc)
same_number-decides (negsuc a) (pos b) = (λ e. cc, λ e. cc)
same_number-decides (negsuc a) (negsuc b) =
    Decides-at _ (b == a) (both b a) (Decides-like (b == a) (λ e. ap negsuc (sym e)) (λ e. cc) (Decides-eqb b a))

same_turn-decides : (a b : Option ℤ) → Decides (same_turn a b) (a ≡ b)
same_turn-decides None None = (λ e. refl, λ e. refl)
same_turn-decides None (Some b) = (λ e. cc, λ e. cc)
same_turn-decides (Some a) None = (λ e. cc, λ e. cc)
same_turn-decides (Some a) (Some b) = Decides-like (same_number a b) (λ e. ap Some e) (λ e. cc) (same_number-decides a b)

same_step-decides : (a b : Step) → Decides (same_step a b) (a ≡ b)
same_step-decides (named x) (named y) = Decides-like (bytes_eq x y) (λ e. ap named e) (λ e. cc) (bytes_eq-Decides x y)
same_step-decides (named x) (turn y b) = (λ e. cc, λ e. cc)
same_step-decides (named x) (unnamed m b) = (λ e. cc, λ e. cc)
same_step-decides (turn x a) (named y) = (λ e. cc, λ e. cc)
same_step-decides (turn x a) (turn y b) =
    Decides-like _ (λ h i. turn (h.0 i) (h.1 i)) (λ e. (cc, cc))
    (Decides-and (bytes_eq x y) (same_number a b) (bytes_eq-Decides x y) (same_number-decides a b))
same_step-decides (turn x a) (unnamed m b) = (λ e. cc, λ e. cc)
same_step-decides (unnamed n a) (named y) = (λ e. cc, λ e. cc)
same_step-decides (unnamed n a) (turn y b) = (λ e. cc, λ e. cc)
same_step-decides (unnamed n a) (unnamed m b) =
    Decides-like _ (λ h i. unnamed (h.0 i) (h.1 i)) (λ e. (cc, cc))
    (Decides-and (n == m) (same_turn a b) (Decides-eqb n m) (same_turn-decides a b))

pub same_path-decides : (p q : Path) → Decides (same_path p q) (p ≡ q)
same_path-decides [] [] = (λ e. refl, λ e. refl)
same_path-decides [] (t ∷ q) = (λ e. cc, λ e. cc)
same_path-decides (s ∷ p) [] = (λ e. cc, λ e. cc)
same_path-decides (s ∷ p) (t ∷ q) =
    Decides-like _ (λ h i. h.0 i ∷ h.1 i) (λ e. (cc, cc))
    (Decides-and (same_step s t) (same_path p q) (same_step-decides s t) (same_path-decides p q))

-- paths below two paths are one where the paths and the names are
pub same_below : (p q : Path) (x y : Text) → same_path (below q y) (below p x) ≡ (same_path p q && bytes_eq x y)
same_below p q x y = same_from_decides _ _
    (Decides-like (same_path (below q y) (below p x))
    (λ e. let h = same_from_push q p (named y) (named x) e in let f : named y ≡ named x = h.1 in (sym h.0, cc))
    (λ h i. sym h.0 i ++ named (sym h.1 i) ∷ []) (same_path-decides (below q y) (below p x)))
    (Decides-and (same_path p q) (bytes_eq x y) (same_path-decides p q) (bytes_eq-Decides x y))

-- ---- keys

abbrev pub same_last : LastStep → LastStep → Bool
same_last = (last_eq.ghosts).eq

abbrev pub same_key : Key → Key → Bool
same_key = (key_eq.ghosts).eq

option-decides : (a b : Option ℤ) → Decides (option_eq int_eq a b) (a ≡ b)
option-decides None None = (λ e. refl, λ e. refl)
option-decides None (Some b) = (λ e. cc, λ e. cc)
option-decides (Some a) None = (λ e. cc, λ e. cc)
option-decides (Some a) (Some b) = Decides-like (int_eq a b) (λ e. ap Some e) (λ e. cc) (Decides-int_eq a b)

same_last-decides : (a b : LastStep) → Decides (same_last a b) (a ≡ b)
same_last-decides (l.Named x) (l.Named y) = Decides-like (bytes_eq x y) (λ e. ap l.Named e) (λ e. cc) (bytes_eq-Decides x y)
same_last-decides (l.Named x) (l.Turn y b) = (λ e. cc, λ e. cc)
same_last-decides (l.Named x) (l.Unnamed m b) = (λ e. cc, λ e. cc)
same_last-decides (l.Turn x a) (l.Named y) = (λ e. cc, λ e. cc)
same_last-decides (l.Turn x a) (l.Turn y b) =
    Decides-like _ (λ h i. l.Turn (h.0 i) (h.1 i)) (λ e. (cc, cc))
    (Decides-and (bytes_eq x y) (int_eq a b) (bytes_eq-Decides x y) (Decides-int_eq a b))
same_last-decides (l.Turn x a) (l.Unnamed m b) = (λ e. cc, λ e. cc)
same_last-decides (l.Unnamed n a) (l.Named y) = (λ e. cc, λ e. cc)
same_last-decides (l.Unnamed n a) (l.Turn y b) = (λ e. cc, λ e. cc)
same_last-decides (l.Unnamed n a) (l.Unnamed m b) =
    Decides-like _ (λ h i. l.Unnamed (h.0 i) (h.1 i)) (λ e. (cc, cc))
    (Decides-and (n == m) (option_eq int_eq a b) (Decides-eqb n m) (option-decides a b))

pub same_key-decides : (a b : Key) → Decides (same_key a b) (a ≡ b)
same_key-decides Top Top = (λ e. refl, λ e. refl)
same_key-decides Top (Below m t) = (λ e. cc, λ e. cc)
same_key-decides (Below n s) Top = (λ e. cc, λ e. cc)
same_key-decides (Below n s) (Below m t) =
    Decides-like _ (λ h i. Below (h.0 i) (h.1 i)) (λ e. (cc, cc))
    (Decides-and (n == m) (same_last s t) (Decides-eqb n m) (same_last-decides s t))
