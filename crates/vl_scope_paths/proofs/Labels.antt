-- Declarations of one name: where there is no fault, no two that stand by themselves have one name, and no two labels are alike.
use Rattle.std.proofs.Common.{◌≡◌, Bool, true, false, List, [], ◌∷◌, ◌++◌, refl}
use Rattle.std.specs.Prelude.{bytes_eq, filter, cond, if◌then◌else◌}
use Rattle.vl_value.specs.Paths.{Text}
use Rattle.vl_design.specs.Lists.{each_of}
use Rattle.vl_design.specs.Declarations.{Declared, name_of, is_named}
use Rattle.vl_design.specs.Declarations as d
use Rattle.vl_design.specs.Objects.{may_unite}
use Rattle.vl_design.specs.ObjectFaults.{repeated_faults, same_names, united_faults}
use Rattle.vl_design_laws.proofs.Elaborated.{none_joined}
use Rattle.vl_tree.specs.declared.fault.FaultKind.TheVariants.{Duplicate}
use Rattle.vl_value.specs.Order.{Found, at}
use Rattle.vl_scope_paths.proofs.Apart.{Each, each_so, each_all, each_parted, Pairwise, Between, pairwise_each}
use Rattle.vl_scope_paths.proofs.Steps.{same_text, not_so, is_not}

abbrev pub text_of : Declared → Text
text_of a = (name_of a).text

abbrev pub UnlikeNames : Declared → Declared → Type 0
UnlikeNames a b = bytes_eq (text_of a) (text_of b) ≡ false

-- what is so of those that pass a test
one_more : {A : Type 0} (R : A → Type 0) (p : A → Bool) (x : A) (xs : List A) (b : Bool) → p x ≡ b → Each R (cond b (x ∷ filter p xs) (filter p xs))
    → (Each R (filter p xs) → Each (λ y. p y ≡ true → R y) xs) → Each (λ y. p y ≡ true → R y) (x ∷ xs)
one_more R p x xs true e h go = ((λ t. h.0), go h.1)
one_more R p x xs false e h go = ((λ t. absurd (is_not (p x) e t)), go h)

filter_each : {A : Type 0} (R : A → Type 0) (p : A → Bool) (xs : List A) → Each R (filter p xs) → Each (λ x. p x ≡ true → R x) xs
filter_each R p [] h = tt
filter_each R p (x ∷ xs) h = one_more R p x xs (p x) refl h (filter_each R p xs)

-- whether b is a fault behind a
abbrev behind_one : Declared → Declared → Bool → List Found
behind_one a b u = if u then united_faults a b else at (name_of b).place Duplicate ∷ []

module _ (P : Declared → Type 0) (apart : (a b : Declared) → P a → P b → text_of a ≡ text_of b → may_unite a b ≡ false) where
  abbrev Clash : Declared → Declared → Type 0
  Clash b a = P a → P b → text_of a ≡ text_of b → ⊥

  never_unite : (a b : Declared) (u : Bool) → u ≡ false → behind_one a b u ≡ [] → ⊥
  never_unite a b true e h = absurd cc
  never_unite a b false e h = absurd cc

  -- of those of its name
  clash : (cs : List Declared) (b : Declared) → repeated_faults cs b ≡ [] → Each (Clash b) cs
  clash [] b h = tt
  clash (a ∷ []) b h = ((λ pa pb e. never_unite a b (may_unite a b) (apart a b pa pb e) h), tt)
  clash (a ∷ (c ∷ cs)) b h = absurd cc

  abbrev pub Rel : Declared → Declared → Type 0
  Rel a b = P a → P b → UnlikeNames a b

  -- of all before
  unlike_before : (before : List Declared) (b : Declared) → repeated_faults (filter (is_named (text_of b)) before) b ≡ [] → Each (λ a. Rel a b) before
  unlike_before before b h =
      each_so (λ a. is_named (text_of b) a ≡ true → Clash b a) (λ a. Rel a b)
      (λ a go pa pb. not_so (bytes_eq (text_of a) (text_of b)) (λ t. go t pa pb (same_text (text_of a) (text_of b) t)))
      before (filter_each (Clash b) (is_named (text_of b)) before (clash (filter (is_named (text_of b)) before) b h))

  all_unlike : (before xs : List Declared) → same_names before xs ≡ [] → Each (λ b. Each (λ a. Rel a b) before) xs
  all_unlike before [] h = tt
  all_unlike before (b ∷ xs) h =
      let n = none_joined (repeated_faults (filter (is_named (text_of b)) before) b) (same_names (before ++ b ∷ []) xs) h in (
        unlike_before before b n.0,
        each_so (λ c. Each (λ a. Rel a c) (before ++ b ∷ [])) (λ c. Each (λ a. Rel a c) before)
            (λ c k. (each_parted (λ a. Rel a c) before (b ∷ []) k).0) xs (all_unlike (before ++ b ∷ []) xs n.1),
      )

  pub names_differ : (before xs : List Declared) → same_names before xs ≡ [] → Pairwise Rel xs
  names_differ before [] h = tt
  names_differ before (b ∷ xs) h =
      let n = none_joined (repeated_faults (filter (is_named (text_of b)) before) b) (same_names (before ++ b ∷ []) xs) h in (
        each_so (λ c. Each (λ a. Rel a c) (before ++ b ∷ [])) (Rel b)
            (λ c k. (each_parted (λ a. Rel a c) before (b ∷ []) k).1.0) xs (all_unlike (before ++ b ∷ []) xs n.1),
        names_differ (before ++ b ∷ []) xs n.1,
      )

-- ---- labels: names of instances and of blocks

abbrev pub UnlikeTexts : Text → Text → Type 0
UnlikeTexts x y = bytes_eq x y ≡ false

abbrev pub label : Declared → List Text
label (d.inner x) = x.text ∷ []
label _ = []

abbrev pub labels : List Declared → List Text
labels ds = each_of label ds

abbrev is_label : Declared → Bool
is_label (d.inner x) = true
is_label _ = false

abbrev IsLabel : Declared → Type 0
IsLabel a = is_label a ≡ true

stands_alone : (a b : Declared) → IsLabel a → IsLabel b → text_of a ≡ text_of b → may_unite a b ≡ false
stands_alone (d.inner x) b p q e = refl
stands_alone (d.port w k l) b p q e = absurd cc
stands_alone (d.object k l) b p q e = absurd cc
stands_alone (d.memory l ws) b p q e = absurd cc
stands_alone (d.parameter x w) b p q e = absurd cc
stands_alone (d.genvar x) b p q e = absurd cc
stands_alone (d.routine r) b p q e = absurd cc

one_label : (a : Declared) → Pairwise UnlikeTexts (label a)
one_label (d.inner x) = (tt, tt)
one_label (d.port w k l) = tt
one_label (d.object k l) = tt
one_label (d.memory l ws) = tt
one_label (d.parameter x w) = tt
one_label (d.genvar x) = tt
one_label (d.routine r) = tt

two_labels : (a b : Declared) → Rel IsLabel stands_alone a b → Between UnlikeTexts (label a) (label b)
two_labels (d.inner x) (d.inner y) r = ((r refl refl, tt), tt)
two_labels (d.inner x) (d.port w k l) r = (tt, tt)
two_labels (d.inner x) (d.object k l) r = (tt, tt)
two_labels (d.inner x) (d.memory l ws) r = (tt, tt)
two_labels (d.inner x) (d.parameter y w) r = (tt, tt)
two_labels (d.inner x) (d.genvar y) r = (tt, tt)
two_labels (d.inner x) (d.routine q) r = (tt, tt)
two_labels (d.port w k l) b r = tt
two_labels (d.object k l) b r = tt
two_labels (d.memory l ws) b r = tt
two_labels (d.parameter x w) b r = tt
two_labels (d.genvar x) b r = tt
two_labels (d.routine q) b r = tt

-- where no name is declared twice, no label is
pub labels_differ : (ds : List Declared) → same_names [] ds ≡ [] → Pairwise UnlikeTexts (labels ds)
labels_differ ds h = pairwise_each UnlikeTexts label (Rel IsLabel stands_alone) two_labels ds
    (each_all (λ a. Pairwise UnlikeTexts (label a)) ds one_label) (names_differ IsLabel stands_alone [] ds h)
