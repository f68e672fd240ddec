-- Scopes and functions, below which all that has a path stands: no two of them have one path.
use Rattle.std.proofs.Common.{◌≡◌, false, inl, inr, List, [], ◌∷◌, ◌++◌, append_assoc, refl, ap, ◌∙◌}
use Rattle.vl_value.specs.Paths.{Text, Path, Step, named, turn, unnamed, same_step, same_path, below}
use Rattle.vl_design.specs.Scopes.{Scope}
use Rattle.vl_design.specs.ObjectFaults.{same_names}
use Rattle.vl_scope_paths.proofs.Apart.{Each, Pairwise, pairwise_with, pairwise_so}
use Rattle.vl_scope_paths.proofs.Steps.{UnlikePaths, paths_turned, step_differs, longer_differs}
use Rattle.vl_scope_paths.proofs.Labels.{labels}
use Rattle.vl_scope_paths.proofs.Opened.{path_of, Has, texts_apart, IsOwn, Parted, Related}
use Rattle.vl_scope_paths.proofs.Heard.{IsClean, names_clean}
use Rattle.vl_scope_paths.proofs.Scopes.{parted_unlike, inside_unlike}
use Rattle.vl_path_laws.proofs.Objects.{routine_names, routines_no_labels}

first_longer : (p r more : Path) → Parted p r → Parted (p ++ more) r
first_longer p r more (q, (x, (y, (xs, (ys, (e, (f, d))))))) =
    (q, (x, (y, (xs ++ more, (ys, (ap (λ w. w ++ more) e ∙ append_assoc q (x ∷ xs) more, (f, d)))))))

second_longer : (p r more : Path) → Parted p r → Parted p (r ++ more)
second_longer p r more (q, (x, (y, (xs, (ys, (e, (f, d))))))) =
    (q, (x, (y, (xs, (ys ++ more, (e, (ap (λ w. w ++ more) f ∙ append_assoc q (y ∷ ys) more, d)))))))

-- the functions of the one scope have another path than the other
abbrev pub FunctionsUnlike : Scope → Scope → Type 0
FunctionsUnlike s r = (f : Text) → Has (routine_names s.level.declared) f → UnlikePaths (below (path_of s) f) (path_of r)

-- two scopes have different paths, and so have the functions of each and the other
pub record Free (s r : Scope) : Type 0 where
  pub scopes : UnlikePaths (path_of s) (path_of r)
  pub first : FunctionsUnlike s r
  pub second : FunctionsUnlike r s

pub free_turned : (s r : Scope) → Free s r → Free r s
free_turned s r f = record { scopes = paths_turned (path_of s) (path_of r) f.scopes; first = f.second; second = f.first }

-- a function is no label
no_own_step : (s : Scope) → same_names [] s.level.declared ≡ [] → (f : Text) (x : Step) → Has (routine_names s.level.declared) f
    → IsOwn (labels s.level.declared) x → same_step (named f) x ≡ false
no_own_step s clean f (named y) h k =
    texts_apart (routine_names s.level.declared) (labels s.level.declared) f y (routines_no_labels s.level.declared clean) h k
no_own_step s clean f (turn y z) h k = refl
no_own_step s clean f (unnamed n z) h k = refl

free_of : (s r : Scope) → same_names [] s.level.declared ≡ [] → Related s r → Free s r
free_of s r clean (inl p) = record {
  scopes = parted_unlike (path_of s) (path_of r) p;
  first = λ f h. parted_unlike (below (path_of s) f) (path_of r) (first_longer (path_of s) (path_of r) (named f ∷ []) p);
  second = λ g h. paths_turned (path_of s) (below (path_of r) g)
      (parted_unlike (path_of s) (below (path_of r) g) (second_longer (path_of s) (path_of r) (named g ∷ []) p));
}
free_of s r clean (inr (x, (more, (e, k)))) = record {
  scopes = inside_unlike s r (x, (more, (e, k)));
  first = λ f h. ap (same_path (below (path_of s) f)) e ∙ step_differs (path_of s) (named f) x [] more (no_own_step s clean f x h k);
  second = λ g h. paths_turned (path_of s) (below (path_of r) g)
      (ap (same_path (path_of s)) (ap (λ w. w ++ named g ∷ []) e ∙ append_assoc (path_of s) (x ∷ more) (named g ∷ []))
      ∙ longer_differs (path_of s) x (more ++ named g ∷ []));
}

-- a function has another path than its own scope
pub own_free : (s : Scope) → FunctionsUnlike s s
own_free s f h = paths_turned (path_of s) (below (path_of s) f) (longer_differs (path_of s) (named f) [])

pub all_free : (ss : List Scope) → Each IsClean ss → Pairwise Related ss → Pairwise Free ss
all_free ss clean related = pairwise_so (λ s r. Related s r × (IsClean s × IsClean r)) Free
    (λ s r h. free_of s r (names_clean s h.1.0) h.0) ss (pairwise_with Related IsClean ss clean related)
