use Rattle.std.proofs.Common.{refl, sym, ap, ◌∙◌, subst, map}
use Rattle.std.specs.Prelude.{None}
use Rattle.vl_tree.specs.SyntaxView as view
use Rattle.vl_design.specs.Generate.{items_tokens}
use Rattle.vl_views.specs.Blocks.{items_of}
use Rattle.vl_views.proofs.ItemViews.{items-map}
use Rattle.vl_parameters.specs.Plain.{plain_given}
use Rattle.vl_scopes.specs.declared.scope.Scope.{Scope}
use Rattle.vl_opening.specs.declared.walk.Walk.{Walk}
use Rattle.vl_opening.specs.Walking.{Opens}
use Rattle.vl_opening.proofs.Entering.{walks_begin, walks_expand, entry_ended, entry_made, entry_none}
use Rattle.vl_opening.proofs.instance.enter_module.Goals as goal

pub returns-then-walk : goal.returns-then-walk
returns-then-walk c =
    let m = view.module_tree c.args.parent.now in let site = c.args.site in let gs = map plain_given c.args.given.now in
    let is = items_of c.as_slice.result.now in let w = c.args.walk.now in
    let b : Walk = record { progress = c.begin_instance.new.self; scopes = w.scopes } in
    let d : Walk = record { progress = c.expand.new.self; scopes = w.scopes } in
    λ u h. entry_ended u m site gs is c.items_tokens-tokens.result w b d h
    (ap items_of c.as_slice.ensures ∙ sym (items-map c.args.parent.now.items))
    (walks_begin (view.place site.place) w b refl c.begin_instance.ensures)
    (walks_expand c.items_tokens-tokens.result (items_tokens is) b d refl c.items_tokens-tokens.ensures c.expand.ensures) c.if-walk.true

pub returns-in-Some : goal.returns-in-Some
returns-in-Some c =
    let m = view.module_tree c.args.parent.now in let site = c.args.site in let gs = map plain_given c.args.given.now in
    let is = items_of c.as_slice.result.now in let w = c.args.walk.now in
    let b : Walk = record { progress = c.begin_instance.new.self; scopes = w.scopes } in
    let d : Walk = record { progress = c.expand.new.self; scopes = w.scopes } in
    let o = c.open.new.self in let p = c.in_ok-frames in
    let s : Scope = record { origin = site.origin; step = site.step; within = site.within; turn = None; declared = p.field-0.declared } in
    λ u h. entry_made u m site gs is w b d o p.field-0.frames p.field-0.declared.items p.field-0.fault s h refl
    (ap items_of c.as_slice.ensures ∙ sym (items-map c.args.parent.now.items))
    (walks_begin (view.place site.place) w b refl c.begin_instance.ensures)
    (walks_expand c.items_tokens-tokens.result (items_tokens is) b d refl c.items_tokens-tokens.ensures c.expand.ensures)
    p.ensures
    (record { plain = refl }) (record { progress = c.fail.new.self; scopes = o.scopes }) c.in-Some.scope
    (record { frames = p.field-0.frames; scope = c.in-Some.scope })
    (subst (λ n. Opens s d o n) c.in-Some.is c.in_ok-number.ensures) refl c.fail.ensures refl refl

pub returns-in-None : goal.returns-in-None
returns-in-None c =
    let m = view.module_tree c.args.parent.now in let site = c.args.site in let gs = map plain_given c.args.given.now in
    let is = items_of c.as_slice.result.now in let w = c.args.walk.now in
    let b : Walk = record { progress = c.begin_instance.new.self; scopes = w.scopes } in
    let d : Walk = record { progress = c.expand.new.self; scopes = w.scopes } in
    let o = c.open.new.self in let p = c.in_ok-frames in
    let s : Scope = record { origin = site.origin; step = site.step; within = site.within; turn = None; declared = p.field-0.declared } in
    λ u h. entry_none u m site gs is w b d o p.field-0.frames p.field-0.declared.items p.field-0.fault s h refl
    (ap items_of c.as_slice.ensures ∙ sym (items-map c.args.parent.now.items))
    (walks_begin (view.place site.place) w b refl c.begin_instance.ensures)
    (walks_expand c.items_tokens-tokens.result (items_tokens is) b d refl c.items_tokens-tokens.ensures c.expand.ensures)
    p.ensures
    (record { plain = refl }) (subst (λ n. Opens s d o n) c.in-None.is c.in_ok-number.ensures)
