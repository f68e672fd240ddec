-- Scopes of one path stand at one place.
use Rattle.std.proofs.Common.{inl, inr, List, ap, subst, ◌∙◌}
use Rattle.vl_value.specs.Paths.{Path, same_path}
use Rattle.vl_design.specs.Lists.{each_of}
use Rattle.vl_design.specs.Scopes.{Scope}
use Rattle.vl_design.specs.ObjectFaults.{scope_faults, limit_faults}
use Rattle.vl_design.specs.Design.{scopes}
use Rattle.vl_design_laws.proofs.Elaborated.{none_joined, is_of, no_hierarchy_fault, no_object_fault}
use Rattle.vl_scope_paths.specs.Laws.{ScopesAreDistinct, ScopesLaw}
use Rattle.vl_scope_paths.proofs.Apart.{Pairwise, pairwise_so, one_place}
use Rattle.vl_scope_paths.proofs.Steps.{UnlikePaths, is_not, paths_turned, step_differs, longer_differs}
use Rattle.vl_scope_paths.proofs.Opened.{path_of, Parted, Inside, Related}
use Rattle.vl_scope_paths.proofs.Heard.{all_scoped}

pub parted_unlike : (p r : Path) → Parted p r → UnlikePaths p r
parted_unlike p r (q, (x, (y, (xs, (ys, (e, (f, d))))))) = (λ i. same_path (e i) (f i)) ∙ step_differs q x y xs ys d

pub inside_unlike : (s r : Scope) → Inside s r → UnlikePaths (path_of s) (path_of r)
inside_unlike s r (x, (more, (e, k))) = ap (same_path (path_of s)) e ∙ longer_differs (path_of s) x more

related_unlike : (s r : Scope) → Related s r → UnlikePaths (path_of s) (path_of r)
related_unlike s r (inl p) = parted_unlike (path_of s) (path_of r) p
related_unlike s r (inr i) = inside_unlike s r i

abbrev UnlikeScopes : Scope → Scope → Type 0
UnlikeScopes s r = UnlikePaths (path_of s) (path_of r)

pub are_distinct : (ss : List Scope) → Pairwise Related ss → ScopesAreDistinct ss
are_distinct ss h i j s r e f t = one_place UnlikeScopes (λ s r. paths_turned (path_of s) (path_of r)) ss
    (pairwise_so Related UnlikeScopes related_unlike ss h) i j s r e f (λ u. is_not (same_path (path_of s) (path_of r)) u t)

pub scopes_law : ScopesLaw
scopes_law q src top d is =
    let n = none_joined (each_of scope_faults (scopes q src top)) (limit_faults q (scopes q src top)) (no_object_fault q src top d is) in
    subst (λ c. ScopesAreDistinct c.scopes) (is_of q src top d is)
    (are_distinct (scopes q src top) (all_scoped q src top (no_hierarchy_fault q src top d is) n.0).1)
