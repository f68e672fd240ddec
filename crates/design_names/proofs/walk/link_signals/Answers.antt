use Rattle.std.proofs.Common.{◌∙◌, ap, List, length, map}
use Rattle.netlist.specs.declared.design.Scope.{Scope}
use Rattle.netlist.specs.declared.design.Signal.{Signal}
use Rattle.design_names.proofs.LinkLaws.{linked_as}
use Rattle.design_names.proofs.WalkLaws.{owners_low}
use Rattle.design_names.proofs.walk.link_signals.Goals as goal

pub returns : goal.returns
returns c =
    linked_as c.link.result _ _ _ _
    (c.deref.ensures.value ∙ c.in_ok-owners.ensures ∙ ap (λ (xs : List Signal). map (λ (s : Signal). s.scope) xs) c.signals.ensures.signals)
    (ap (λ (xs : List Scope). length xs) c.scopes.ensures.scopes) c.link.ensures

pub link-requires-clause-owners : goal.link-requires-clause-owners
link-requires-clause-owners c =
    owners_low c.args.flat.now _ _ c.signals.ensures.fits
    (c.deref.ensures.value ∙ c.in_ok-owners.ensures ∙ ap (λ (xs : List Signal). map (λ (s : Signal). s.scope) xs) c.signals.ensures.signals)
    (ap (λ (xs : List Scope). length xs) c.scopes.ensures.scopes)
