use Rattle.std.proofs.Common.{◌∙◌, ap, List, length, map}
use Rattle.netlist.specs.declared.design.Scope.{Scope}
use Rattle.design_names.proofs.LinkLaws.{linked_as}
use Rattle.design_names.proofs.WalkLaws.{parents_low}
use Rattle.design_names.proofs.walk.link_scopes.Goals as goal

pub returns-clause-linked : goal.returns-clause-linked
returns-clause-linked c =
    linked_as c.link.result _ _ _ _
    (c.deref.ensures.value ∙ c.in_ok-parents.ensures ∙ ap (λ (xs : List Scope). map (λ (s : Scope). s.parent) xs) c.scopes-scopes.ensures.scopes)
    (ap (λ (xs : List Scope). length xs) c.scopes-scopes.ensures.scopes) c.link.ensures

pub link-requires-clause-owners : goal.link-requires-clause-owners
link-requires-clause-owners c =
    parents_low c.args.flat.now _ _ c.scopes-scopes.ensures.fits
    (c.deref.ensures.value ∙ c.in_ok-parents.ensures ∙ ap (λ (xs : List Scope). map (λ (s : Scope). s.parent) xs) c.scopes-scopes.ensures.scopes)
    (ap (λ (xs : List Scope). length xs) c.scopes-scopes.ensures.scopes)
