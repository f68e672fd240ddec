-- What is known operand by operand is the meaning of an expression, where it is constant and has no fault.
use Rattle.std.proofs.Common.{◌≡◌, ◌*◌, refl, sym, ap, ◌∙◌, ℕ, Bool, true, false, List, [], ◌∷◌, ◌++◌, Some, None, append-nil, append_assoc, if◌then◌else◌}
use Rattle.std.specs.Prelude.{Option, ◌&&◌, ℤ, pos, int_lt, unsigned_abs}
use Rattle.std.specs.Option.{option_map}
use Rattle.vl_tree.specs.Syntax.{Place, to_signed, to_unsigned, clog2}
use Rattle.vl_tree.specs.Syntax.{Expr, number, read, call, system, group, concat, repeat, unary, chain, choose}
use Rattle.vl_tree.specs.Syntax.{Exprs, no_expr, more_expr, Links, no_link, more_link, Choices, no_choice, more_choice}
use Rattle.vl_tree.specs.Syntax.{Selects, no_select, more_select}
use Rattle.vl_value.specs.Things.{Thing, signal, memory, constant, routine}
use Rattle.vl_value.specs.Meaning as m
use Rattle.vl_value.specs.Meaning.{Meaning, at_rest, meaning, meanings, named, picked, whole, widths}
use Rattle.vl_value.specs.Constant as c
use Rattle.vl_value.specs.Constant.{Sight, is_constant, is_constant_name}
use Rattle.vl_value.specs.Order.{Found}
use Rattle.vl_value.specs.Faults as f
use Rattle.vl_value.specs.Faults.{settled, faults, start, wide, constant_meaning}
use Rattle.vl_width.specs.Known.{both, then_some, is_width, braces_within, copies_within, read_known, braced, copied, chosen, chosen_among, paired, known, all_known, linked, all_choices}
use Rattle.vl_width.proofs.Numbers.{no_product, at_least_one}

-- ---- answers that may be none

pub settled_map : {X Y : Type 0} (k : X → Y) (b : Bool) (fs : List Found) (x : X) → option_map k (settled b fs x) ≡ settled b fs (k x)
settled_map k true [] x = refl
settled_map k true (g ∷ fs) x = refl
settled_map k false fs x = refl

settled_both : {X Y Z : Type 0} (k : X → Y → Z) (b d : Bool) (fs gs : List Found) (x : X) (y : Y)
    → both k (settled b fs x) (settled d gs y) ≡ settled (b && d) (fs ++ gs) (k x y)
settled_both k true d [] gs x y = settled_map (k x) d gs y
settled_both k true true (g ∷ fs) gs x y = refl
settled_both k true false (g ∷ fs) gs x y = refl
settled_both k false d fs gs x y = refl

and_true : (b : Bool) → (b && true) ≡ b
and_true true = refl
and_true false = refl

and_joined : (a b d : Bool) → ((a && b) && d) ≡ (a && (b && d))
and_joined true b d = refl
and_joined false b d = refl

none_with : {X : Type 0} (b : Bool) (fs : List Found) (g : Found) (x : X) → None ≡ settled b (fs ++ g ∷ []) x
none_with true [] g x = refl
none_with true (h ∷ fs) g x = refl
none_with false fs g x = refl

-- ---- names

-- a name that isn't a constant, or has a select, is none
read_settled : (s : Sight) (o : Option Thing) (p : Place) (ks : Selects)
    → read_known o ks ≡ settled (is_constant_name o && c.selects_constant s ks)
    (f.select_faults s ks ++ f.of_name o p (f.select_faults s ks) (f.chosen s ks)) (named (at_rest s) o (picked (at_rest s) ks))
read_settled s None p ks = refl
read_settled s (Some (signal q sh)) p ks = refl
read_settled s (Some (memory q sh first last)) p ks = refl
read_settled s (Some (routine inside q sh shs)) p ks = refl
read_settled s (Some (constant w g n)) p no_select = refl
read_settled s (Some (constant w g n)) p (more_select q k ks) = none_with (c.selects_constant s (more_select q k ks)) (f.select_faults s (more_select q k ks)) _ _

-- ---- braces

one_test : (t : Bool) (g : Found) (x : Meaning) → (if t then Some x else None) ≡ settled true (if t then [] else g ∷ []) x
one_test true g x = refl
one_test false g x = refl

braces_settled : (p : Place) (b : Bool) (fs : List Found) (ms : List Meaning)
    → braced (settled b fs ms) ≡ settled b (fs ++ wide p fs (widths ms)) (m.braces ms)
braces_settled p true [] ms = one_test (is_width (widths ms)) _ (m.braces ms)
braces_settled p true (g ∷ fs) ms = refl
braces_settled p false fs ms = refl

-- ---- choices

-- the branches of choices, each a condition and a value
abbrev branches : Sight → Choices → List (Meaning × Meaning)
branches s no_choice = []
branches s (more_choice e p a hs) = (constant_meaning s e, constant_meaning s a) ∷ branches s hs

among_branches : (s : Sight) (hs : Choices) (b : Meaning) → chosen_among (branches s hs) b ≡ m.chosen (at_rest s) hs b
among_branches s no_choice b = refl
among_branches s (more_choice e p a hs) b = ap (m.choice (constant_meaning s e) (constant_meaning s a)) (among_branches s hs b)

choice_settled : (b d h : Bool) (fs gs hs : List Found) (x y : Meaning) (zs : List (Meaning × Meaning))
    → both ◌∷◌ (both paired (settled b fs x) (settled d gs y)) (settled h hs zs) ≡ settled ((b && d) && h) (fs ++ (gs ++ hs)) ((x, y) ∷ zs)
choice_settled b d h fs gs hs x y zs =
    ap (λ o. both ◌∷◌ o (settled h hs zs)) (settled_both paired b d fs gs x y)
    ∙ settled_both ◌∷◌ (b && d) h (fs ++ gs) hs (x, y) zs
    ∙ ap (λ (l : List Found). settled ((b && d) && h) l ((x, y) ∷ zs)) (append_assoc fs gs hs)

-- ---- copies

-- one of two tests that fails
by_tests : (w t u : Bool) (g h : Found) (a b : Meaning) (k : Meaning → Option Meaning)
    → k a ≡ (if t then None else (if u then Some b else None)) → (w ≡ false → t ≡ false → u ≡ false)
    → then_some (if w then Some a else None) k ≡ settled true (if t then g ∷ [] else (if u then [] else h ∷ [])) b
by_tests true true u g h a b k e i = e
by_tests true false true g h a b k e i = e
by_tests true false false g h a b k e i = e
by_tests false true u g h a b k e i = refl
by_tests false false true g h a b k e i = absurd cc (i refl refl)
by_tests false false false g h a b k e i = refl

-- copies of what no vector has are no vector
no_copies : (z : ℤ) (w : ℕ) → is_width w ≡ false → int_lt z (pos 1) ≡ false → is_width (unsigned_abs z * w) ≡ false
no_copies z w e h = no_product (unsigned_abs z) w (at_least_one z h) e

copies_known : (p : Place) (z : ℤ) (ms : List Meaning)
    → then_some (braces_within ms) (copies_within z) ≡ settled true (f.copied p [] (Some z) (widths ms)) (m.copies (unsigned_abs z) (m.braces ms))
copies_known p z ms =
    by_tests (is_width (widths ms)) (int_lt z (pos 1)) (is_width (unsigned_abs z * widths ms)) _ _ (m.braces ms)
    (m.copies (unsigned_abs z) (m.braces ms)) (copies_within z) refl (no_copies z (widths ms))

copies_settled : (p q : Place) (b d : Bool) (fs gs : List Found) (k : Meaning) (ms : List Meaning)
    → copied (settled b fs k) (braced (settled d gs ms))
    ≡ settled (b && d) (f.needed b q fs ++ (gs ++ f.copied p gs (settled b fs (whole k)) (widths ms)))
    (m.copies (unsigned_abs (whole k)) (m.braces ms))
copies_settled p q true true [] [] k ms = copies_known p (whole k) ms
copies_settled p q true true [] (g ∷ gs) k ms = refl
copies_settled p q true false [] gs k ms = refl
copies_settled p q true true (g ∷ fs) gs k ms = refl
copies_settled p q true false (g ∷ fs) gs k ms = refl
copies_settled p q false d fs gs k ms = refl

-- ---- expressions

mutual
  pub known_settled : (s : Sight) (e : Expr) → known s e ≡ settled (is_constant s e) (faults s e) (constant_meaning s e)
  known_settled s (number p l) = refl
  known_settled s (read x ks) = read_settled s (s x.text) x.place ks
  known_settled s (call g es) = refl
  known_settled s (system p clog2 e) =
      ap (option_map (m.system_of clog2)) (known_settled s e)
      ∙ settled_map (m.system_of clog2) (is_constant s e) (faults s e) (constant_meaning s e)
  known_settled s (system p to_signed e) = refl
  known_settled s (system p to_unsigned e) = refl
  known_settled s (group p e) = known_settled s e
  known_settled s (concat p es) =
      ap braced (all_settled s es) ∙ braces_settled p (c.all_constant s es) (f.all_faults s es) (meanings (at_rest s) es)
  known_settled s (repeat p n es) =
      (λ i. copied (known_settled s n i) (braced (all_settled s es i)))
      ∙ copies_settled p (start n) (is_constant s n) (c.all_constant s es) (faults s n) (f.all_faults s es) (constant_meaning s n) (meanings (at_rest s) es)
  known_settled s (unary p g e) =
      ap (option_map (m.unary_of g)) (known_settled s e)
      ∙ settled_map (m.unary_of g) (is_constant s e) (faults s e) (constant_meaning s e)
  known_settled s (chain e ls) =
      ap (linked s ls) (known_settled s e) ∙ links_settled s ls (is_constant s e) (faults s e) (constant_meaning s e)
  known_settled s (choose hs e) =
      (λ i. chosen (choices_settled s hs i) (known_settled s e i))
      ∙ settled_both chosen_among (c.choices_constant s hs) (is_constant s e) (f.choice_faults s hs) (faults s e) (branches s hs) (constant_meaning s e)
      ∙ ap (settled (c.choices_constant s hs && is_constant s e) (f.choice_faults s hs ++ faults s e)) (among_branches s hs (constant_meaning s e))

  all_settled : (s : Sight) (es : Exprs)
      → all_known s es ≡ settled (c.all_constant s es) (f.all_faults s es) (meanings (at_rest s) es)
  all_settled s no_expr = refl
  all_settled s (more_expr e es) =
      (λ i. both ◌∷◌ (known_settled s e i) (all_settled s es i))
      ∙ settled_both ◌∷◌ (is_constant s e) (c.all_constant s es) (faults s e) (f.all_faults s es) (constant_meaning s e) (meanings (at_rest s) es)

  links_settled : (s : Sight) (ls : Links) (b : Bool) (fs : List Found) (a : Meaning)
      → linked s ls (settled b fs a) ≡ settled (b && c.links_constant s ls) (fs ++ f.link_faults s ls) (m.chained (at_rest s) ls a)
  links_settled s no_link b fs a = λ i. settled (sym (and_true b) i) (sym (append-nil fs) i) a
  links_settled s (more_link g p e ls) b fs a =
      ap (λ o. linked s ls (both (m.binary_of g) (settled b fs a) o)) (known_settled s e)
      ∙ ap (linked s ls) (settled_both (m.binary_of g) b (is_constant s e) fs (faults s e) a (constant_meaning s e))
      ∙ links_settled s ls (b && is_constant s e) (fs ++ faults s e) (m.binary_of g a (constant_meaning s e))
      ∙ (λ i. settled (and_joined b (is_constant s e) (c.links_constant s ls) i) (append_assoc fs (faults s e) (f.link_faults s ls) i)
      (m.chained (at_rest s) ls (m.binary_of g a (constant_meaning s e))))

  choices_settled : (s : Sight) (hs : Choices)
      → all_choices s hs ≡ settled (c.choices_constant s hs) (f.choice_faults s hs) (branches s hs)
  choices_settled s no_choice = refl
  choices_settled s (more_choice e p v hs) =
      (λ i. both ◌∷◌ (both paired (known_settled s e i) (known_settled s v i)) (choices_settled s hs i))
      ∙ choice_settled (is_constant s e) (is_constant s v) (c.choices_constant s hs) (faults s e) (faults s v) (f.choice_faults s hs)
      (constant_meaning s e) (constant_meaning s v) (branches s hs)
