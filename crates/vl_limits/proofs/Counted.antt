-- Things that are added to a count with a limit, one after another.
use Rattle.std.proofs.Common.{◌≡◌, ℕ, suc, ◌+◌, ◌<◌, Bool, true, false, List, [], ◌∷◌, ◌++◌, append_assoc, length, arith, refl, sym, ap, ◌∙◌}
use Rattle.std.proofs.lemmas.Bool.Decides.{nat_tests}
use Rattle.std.specs.Prelude.{Option, Some, None, if◌then◌else◌, nat_lt}
use Rattle.dt_core.specs.declared.place.Place as code
use Rattle.vl_tree.specs.Syntax.{Place}
use Rattle.vl_design.specs.Lists.{each_of}
use Rattle.vl_design.specs.Declarations.{Declared}
use Rattle.vl_design.specs.ObjectFaults.{beyond, memory_words}
use Rattle.vl_declares.specs.declared.declared.Declared as declared
use Rattle.vl_declares.specs.Plain.{all_plain}
use Rattle.vl_repeats.specs.Flags.{flags_behind, picked}
use Rattle.vl_limits.specs.declared.limit.Limit.{Limit}
use Rattle.vl_limits.specs.Counting.{Adds, further, further_from, words_if}

same_test : (a b n k : ℕ) → nat_lt (a + b) ((a + n) + k) ≡ nat_lt b (n + k)
same_test a b n k = grind (arith, nat_tests)

either_way : (t u : Bool) (p : Place) (x y : Option Place) → t ≡ u → x ≡ y → (if t then Some p else x) ≡ (if u then Some p else y)
either_way t u p x y e h = λ i. if e i then Some p else h i

-- as much more that may be added as was added before
pub shifted : (a b n : ℕ) (cs : List (Place × ℕ)) → beyond (a + b) (a + n) cs ≡ beyond b n cs
shifted a b n [] = refl
shifted a b n (c ∷ cs) =
    either_way _ _ c.0 _ _ (same_test a b n c.1)
    (ap (λ m. beyond (a + b) m cs) (omega arith) ∙ shifted a b (n + c.1) cs)

-- one more that isn't too much, and one that is
pub within : (left count now : ℕ) (p : Place) (cs : List (Place × ℕ)) → count + now ≡ left → beyond now 0 cs ≡ beyond left 0 ((p, count) ∷ cs)
within left count now p cs e =
    let no : nat_lt left (0 + count) ≡ false = grind (arith, nat_tests, e) in
    sym (shifted count now 0 cs) ∙ (λ i. beyond (e i) (count + 0) cs) ∙ ap (λ m. beyond left m cs) (omega arith)
    ∙ ap (λ t. if t then Some p else beyond left (0 + count) cs) (sym no)

pub too_much : (left count : ℕ) (p : Place) (cs : List (Place × ℕ)) → left < count → Some p ≡ beyond left 0 ((p, count) ∷ cs)
too_much left count p cs below =
    let yes : nat_lt left (0 + count) ≡ true = grind (arith, nat_tests, below) in
    ap (λ t. if t then Some p else beyond left (0 + count) cs) (sym yes)

-- of a limit that was passed before nothing changes
pub added_within : (o : Option code.Place) (now left count : ℕ) (p : Place) (cs : List (Place × ℕ)) → count + now ≡ left
    → further_from o now cs ≡ further_from o left ((p, count) ∷ cs)
added_within None now left count p cs e = within left count now p cs e
added_within (Some q) now left count p cs e = refl

-- ---- flags

pub plain_length : (ds : List declared.Declared) → length (all_plain ds) ≡ length ds
plain_length [] = refl
plain_length (d ∷ ds) = ap suc (plain_length ds)

pub flags_length : (before ds : List Declared) → length (flags_behind before ds) ≡ length ds
flags_length before [] = refl
flags_length before (b ∷ ds) = ap suc (flags_length (before ++ b ∷ []) ds)

-- words of those that are picked, one further
pub picked_on : (b : Bool) (bs : List Bool) (d : Declared) (ds : List Declared)
    → each_of memory_words (picked (b ∷ bs) (d ∷ ds)) ≡ words_if b d ++ each_of memory_words (picked bs ds)
picked_on true bs d ds = refl
picked_on false bs d ds = refl

-- some were added, and the rest is left
pub adds_on : (was old new : Limit) (some rest all : List (Place × ℕ)) → Adds some old new
    → ((cs : List (Place × ℕ)) → further old ((some ++ rest) ++ cs) ≡ further was (all ++ cs))
    → (cs : List (Place × ℕ)) → further new (rest ++ cs) ≡ further was (all ++ cs)
adds_on was old new some rest all added h cs =
    added (rest ++ cs) ∙ ap (further old) (sym (append_assoc some rest cs)) ∙ h cs
