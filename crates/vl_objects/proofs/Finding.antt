-- What declarations find, with one more in front; and their objects.
use Rattle.std.proofs.Common.{◌≡◌, ℕ, suc, ◌+◌, ◌<◌, Bool, true, false, ◌&&◌, ◌||◌, List, [], ◌∷◌, ◌++◌, length, drop, get_or, refl, sym, ap, ◌∙◌}
use Rattle.std.proofs.lemmas.List.{drop_more}
use Rattle.std.specs.Prelude.{Option, Some, None, if◌then◌else◌}
use Rattle.vl_tree.specs.Syntax.{Kept, reg, wire}
use Rattle.vl_value.specs.Paths.{Text}
use Rattle.vl_design.specs.Declarations.{Declared, object, port, memory, parameter, genvar, routine, inner, is_named, name_of}
use Rattle.vl_design.specs.Objects.{is_plain_object, is_bare_port, first_named, has_bare_port, port_kind, signed_again, object_of, objects_of}
use Rattle.vl_declares.specs.declared.declared.Declared as code
use Rattle.vl_declares.specs.Plain.{all_plain, plain}
use Rattle.vl_repeats.specs.Flags.{flags_behind, picked}
use Rattle.vl_objects.specs.declared.partner.Partners.{Partners}
use Rattle.vl_objects.specs.Partners.{AreOf, Notes, partner_of, partner_in, kind_by, signed_by, object_by, found_by}

-- ---- those that are picked, one further

pub plain_length : (ds : List code.Declared) → length (all_plain ds) ≡ length ds
plain_length [] = refl
plain_length (d ∷ ds) = ap suc (plain_length ds)

pub flags_length : (before ds : List Declared) → length (flags_behind before ds) ≡ length ds
flags_length before [] = refl
flags_length before (b ∷ ds) = ap suc (flags_length (before ++ b ∷ []) ds)

abbrev pub one_if : Bool → Declared → List Declared
one_if b d = if b then d ∷ [] else []

pub picked-drop : (flags : List Bool) (all : List code.Declared) (k : ℕ) (d : code.Declared)
    → k < length flags → k < length all → d ≡ get_or all k d
    → picked (drop k flags) (all_plain (drop k all))
    ≡ one_if (get_or flags k false) (plain d) ++ picked (drop (k + 1) flags) (all_plain (drop (k + 1) all))
picked-drop flags all k d in_flags in_all is =
    ap (λ bs. picked bs (all_plain (drop k all))) (drop_more flags k false in_flags)
    ∙ ap (λ ds. picked (get_or flags k false ∷ drop (k + 1) flags) (all_plain ds))
    (drop_more all k d in_all ∙ ap (λ c. c ∷ drop (k + 1) all) (sym is))

pub none_picked : (flags : List Bool) → picked flags (all_plain []) ≡ []
none_picked [] = refl
none_picked (b ∷ bs) = refl

-- ---- one declaration in front

first_on : (t : Bool) (x : Text) (d : Declared) (ds : List Declared)
    → partner_in (first_named is_plain_object x (one_if t d ++ ds))
    ≡ (if t && (is_named x d && is_plain_object d) then partner_of d else partner_in (first_named is_plain_object x ds))
first_on false x d ds = refl
first_on true x d ds = by_test (is_named x d && is_plain_object d) d (first_named is_plain_object x ds)
  where
    by_test : (u : Bool) (d : Declared) (o : Option Declared) → partner_in (if u then Some d else o) ≡ (if u then partner_of d else partner_in o)
    by_test true d o = refl
    by_test false d o = refl

bare_on : (t : Bool) (x : Text) (d : Declared) (ds : List Declared)
    → has_bare_port x (one_if t d ++ ds) ≡ ((t && (is_named x d && is_bare_port d)) || has_bare_port x ds)
bare_on false x d ds = refl
bare_on true x d ds = refl

pub of_more : (t : Bool) (d : Declared) (ds all : List Declared) (old new : Partners) → all ≡ one_if t d ++ ds
    → AreOf old ds → Notes t d old new → AreOf new all
of_more t d ds all old new e was now = record {
  plain = λ x. now.plain x ∙ ap (λ o. if t && (is_named x d && is_plain_object d) then partner_of d else o) (was.plain x)
      ∙ sym (first_on t x d ds) ∙ ap (λ y. partner_in (first_named is_plain_object x y)) (sym e);
  bare = λ x. now.bare x ∙ ap (λ o. (t && (is_named x d && is_bare_port d)) || o) (was.bare x)
      ∙ sym (bare_on t x d ds) ∙ ap (has_bare_port x) (sym e);
}

-- ---- objects

kind_is : (k : Option Kept) (o : Option Declared) → kind_by k (partner_in o) ≡ port_kind k o
kind_is (Some reg) o = refl
kind_is (Some wire) o = refl
kind_is None None = refl
kind_is None (Some (object k l)) = refl
kind_is None (Some (port w k l)) = refl
kind_is None (Some (memory l w)) = refl
kind_is None (Some (parameter x w)) = refl
kind_is None (Some (genvar x)) = refl
kind_is None (Some (routine r)) = refl
kind_is None (Some (inner x)) = refl

or_no : (s : Bool) → s ≡ (s || false)
or_no true = refl
or_no false = refl

signed_is : (k : Option Kept) (o : Option Declared) (s : Bool) → signed_by k (partner_in o) s ≡ (s || signed_again k o)
signed_is (Some k) o s = or_no s
signed_is None None s = or_no s
signed_is None (Some (object k l)) s = refl
signed_is None (Some (port w k l)) s = or_no s
signed_is None (Some (memory l w)) s = or_no s
signed_is None (Some (parameter x w)) s = or_no s
signed_is None (Some (genvar x)) s = or_no s
signed_is None (Some (routine r)) s = or_no s
signed_is None (Some (inner x)) s = or_no s

pub object_is : (ds : List Declared) (d : Declared)
    → object_by (partner_in (first_named is_plain_object (name_of d).text ds)) (has_bare_port (name_of d).text ds) d ≡ object_of ds d
object_is ds (port w k l) = λ i. record {
  name = l.name;
  kind = kind_is k (first_named is_plain_object l.name.text ds) i;
  direction = Some w;
  shape = Rattle.vl_design.specs.Spans.shape (signed_is k (first_named is_plain_object l.name.text ds) l.signed i) l.span;
} ∷ []
object_is ds (object k l) = refl
object_is ds (memory l w) = refl
object_is ds (parameter x w) = refl
object_is ds (genvar x) = refl
object_is ds (routine r) = refl
object_is ds (inner x) = refl

pub found_is : (p : Partners) (ds : List Declared) (d : Declared) → AreOf p ds → found_by p d ≡ object_of ds d
found_is p ds d h = (λ i. object_by (h.plain (name_of d).text i) (h.bare (name_of d).text i) d) ∙ object_is ds d

-- the objects of those that are picked, one further
pub objects_on : (t : Bool) (p : Partners) (ds : List Declared) (d : Declared) (more : List Declared) → AreOf p ds
    → objects_of ds (one_if t d ++ more) ≡ (if t then found_by p d else []) ++ objects_of ds more
objects_on true p ds d more h = ap (λ os. os ++ objects_of ds more) (sym (found_is p ds d h))
objects_on false p ds d more h = refl
