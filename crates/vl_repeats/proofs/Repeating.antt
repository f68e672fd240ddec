-- Declarations that repeat a name, one after another.
use Rattle.std.proofs.Common.{◌≡◌, ℕ, ◌+◌, ◌<◌, Bool, true, false, ◌||◌, List, [], ◌∷◌, ◌++◌, append-nil, length, drop, get_or, refl, sym, ap, ◌∙◌}
use Rattle.std.specs.Prelude.{Option, Some, filter, if◌then◌else◌, bytes_eq, cond}
use Rattle.std.specs.Option.{option_map}
use Rattle.std.proofs.lemmas.Cmp.{nat_list_eq_equiv}
use Rattle.std.proofs.lemmas.List.{drop_more}
use Rattle.std.proofs.lemmas.List.Elements.{filter-append}
use Rattle.std.proofs.lemmas.Slice.Eq.{bytes_eq-Decides}
use Rattle.vl_value.specs.Paths.{Text}
use Rattle.vl_names.specs.declared.NameSet.{NameSet}
use Rattle.vl_names.specs.Names as names
use Rattle.vl_design.specs.Lists.{stands_in}
use Rattle.vl_design.specs.Declarations.{Declared, name_of, is_named}
use Rattle.vl_design.specs.Objects.{counts_behind, counted_behind}
use Rattle.vl_design.specs.ObjectFaults.{repeated_faults}
use Rattle.vl_declares.specs.declared.declared.Declared as code
use Rattle.vl_declares.specs.declared.declared.Local as code_local
use Rattle.vl_declares.specs.Locals.{all_locals}
use Rattle.vl_declares.specs.Plain.{all_plain, plain, plain_local}
use Rattle.vl_repeats.specs.declared.side.Met.{Met}
use Rattle.vl_repeats.specs.Sides.{side_of, plain_met, met_of, more, counts_by, faults_by}
use Rattle.vl_repeats.specs.Flags.{flags_behind, picked}

-- ---- what was met tells the fault, and whether a declaration counts

pub faults_met : (fs : List Declared) (b : Declared) → repeated_faults fs b ≡ faults_by (met_of fs) (side_of b) (name_of b).place
faults_met [] b = refl
faults_met (a ∷ []) b = refl
faults_met (a ∷ c ∷ ds) b = refl

pub counts_met : (fs : List Declared) (b : Declared) → counts_behind fs b ≡ counts_by (met_of fs) (side_of b)
counts_met [] b = refl
counts_met (a ∷ []) b = refl
counts_met (a ∷ c ∷ ds) b = refl

-- ---- one declaration more

met_more : (fs : List Declared) (b : Declared) → met_of (fs ++ b ∷ []) ≡ Some (more (met_of fs) (side_of b))
met_more [] b = refl
met_more (a ∷ []) b = refl
met_more (a ∷ c ∷ ds) b = refl

same_text : (x y : Text) → bytes_eq x y ≡ true → x ≡ y
same_text x y = (bytes_eq-Decides x y).0

-- what was met of each name, behind one declaration more
module _ (before : List Declared) (d : Declared) (name : Text) (named : name ≡ (name_of d).text) (old new : Text → Option Met) (m : Met) where
  by_case : (x : Text) (b : Bool) → bytes_eq name x ≡ b
      → plain_met m ≡ more (met_of (filter (is_named name) before)) (side_of d)
      → option_map plain_met (old x) ≡ met_of (filter (is_named x) before)
      → option_map plain_met (cond b (Some m) (old x)) ≡ met_of (filter (is_named x) before ++ (if b then d ∷ [] else []))
  by_case x true e h was =
      ap Some (h ∙ ap (λ y. more (met_of (filter (is_named y) before)) (side_of d)) (same_text name x e))
      ∙ sym (met_more (filter (is_named x) before) d)
  by_case x false e h was = was ∙ ap met_of (sym (append-nil (filter (is_named x) before)))

  pub met_on : ((x : Text) → new x ≡ cond (bytes_eq name x) (Some m) (old x))
      → plain_met m ≡ more (met_of (filter (is_named name) before)) (side_of d)
      → ((x : Text) → option_map plain_met (old x) ≡ met_of (filter (is_named x) before))
      → (x : Text) → option_map plain_met (new x) ≡ met_of (filter (is_named x) (before ++ d ∷ []))
  met_on updates h was x =
      ap (option_map plain_met) (updates x) ∙ by_case x (bytes_eq name x) refl h (was x)
      ∙ ap (λ y. met_of (filter (is_named x) before ++ (if bytes_eq y x then d ∷ [] else []))) named
      ∙ ap met_of (sym (filter-append (is_named x) before (d ∷ [])))

-- ---- what is left of declarations and of locals, one further

pub declared-drop : (all : List code.Declared) (i : ℕ) (a : code.Declared) → i < length all → a ≡ get_or all i a
    → all_plain (drop i all) ≡ plain a ∷ all_plain (drop (i + 1) all)
declared-drop all i a below is =
    ap all_plain (drop_more all i a below) ∙ ap (λ y. plain y ∷ all_plain (drop (i + 1) all)) (sym is)

pub locals-drop : (all : List code_local.Local) (i : ℕ) (a : code_local.Local) → i < length all → a ≡ get_or all i a
    → all_locals (drop i all) ≡ plain_local a ∷ all_locals (drop (i + 1) all)
locals-drop all i a below is =
    ap all_locals (drop_more all i a below) ∙ ap (λ y. plain_local y ∷ all_locals (drop (i + 1) all)) (sym is)

-- ---- names of a function

pub known_on : (old new : NameSet) (name : Text) (before : List Text) → names.Adds name old new
    → ((x : Text) → names.has old x ≡ stands_in before x) → (x : Text) → names.has new x ≡ stands_in (name ∷ before) x
known_on old new name before added h x = added x ∙ (λ i. nat_list_eq_equiv.symm name x i || h x i)

pub known_none : (s : NameSet) → names.HasNone s → (x : Text) → names.has s x ≡ stands_in [] x
known_none s h x = h x

-- ---- flags and those that are picked by them

pub picked_behind : (before ds : List Declared) → picked (flags_behind before ds) ds ≡ counted_behind before ds
picked_behind before [] = refl
picked_behind before (b ∷ ds) =
    ap (λ cs. (if counts_behind (filter (is_named (name_of b).text) before) b then b ∷ [] else []) ++ cs) (picked_behind (before ++ b ∷ []) ds)
