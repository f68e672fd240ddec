use Rattle.std.proofs.Common.{◌∙◌, ap, sym, map}
use Rattle.std.specs.Prelude.{Ok, Err}
use Rattle.std.specs.Option.{option_map}
use Rattle.vl_tree.specs.SyntaxView as view
use Rattle.vl_value.specs.Meaning as m
use Rattle.vl_sized.specs.Moments.{constant_sense}
use Rattle.vl_sized.specs.Sensed as sensed
use Rattle.vl_found.specs.View.{found}
use Rattle.vl_sized.specs.Told.{told}
use Rattle.vl_sized.specs.Plain.{sense_of, judged}
use Rattle.vl_sized.proofs.Copies.{call_both, call_inner}
use Rattle.vl_sized.proofs.combine.call.Goals as goal

pub returns-in-Err-Some : goal.returns-in-Err-Some
returns-in-Err-Some g c =
    let ns = g.N.Names.numbering c.args.names.now in let o = g.N.Names.sight c.args.names.now c.args.name.now.text in
    let p = view.place c.args.name.now.place in let n = c.args.count in
    let own = c.of_call-own.ensures ns c.find-object.ensures.inputs ∙ ap (λ x. sensed.of_call x p n) c.find-object.ensures.thing in
    ap (λ f. Err (found f)) c.first_of.ensures
    ∙ call_both c.in-Err-Some.inner c.in-Err-Some.own (sensed.of_call o p n) (constant_sense (m.unsigned 1 0)) (sym (ap (option_map found) c.in-Err-Some.is-1) ∙ own)
    ∙ sym (ap (λ r. sensed.call_sensed o p n (judged (map (sense_of ns)) r)) c.in-Err-Some.is-0)

pub returns-in-Err-None : goal.returns-in-Err-None
returns-in-Err-None g c =
    let ns = g.N.Names.numbering c.args.names.now in let o = g.N.Names.sight c.args.names.now c.args.name.now.text in
    let p = view.place c.args.name.now.place in let n = c.args.count in
    let own = c.of_call-own.ensures ns c.find-object.ensures.inputs ∙ ap (λ x. sensed.of_call x p n) c.find-object.ensures.thing in
    call_inner c.in-Err-None.inner (sensed.of_call o p n) (constant_sense (m.unsigned 1 0)) (sym (ap (option_map found) c.in-Err-None.is-1) ∙ own)
    ∙ sym (ap (λ r. sensed.call_sensed o p n (judged (map (sense_of ns)) r)) c.in-Err-None.is-0)

pub returns-in-Ok-Some : goal.returns-in-Ok-Some
returns-in-Ok-Some g c =
    let ns = g.N.Names.numbering c.args.names.now in let o = g.N.Names.sight c.args.names.now c.args.name.now.text in
    let p = view.place c.args.name.now.place in let n = c.args.count in
    let own = c.of_call-own.ensures ns c.find-object.ensures.inputs ∙ ap (λ x. sensed.of_call x p n) c.find-object.ensures.thing in
    ap (λ q. told q (sensed.called o (map (sense_of ns) c.in-Ok-Some.field-0-0))) (sym (ap (option_map found) c.in-Ok-Some.is-1) ∙ own)
    ∙ sym (ap (λ r. sensed.call_sensed o p n (judged (map (sense_of ns)) r)) c.in-Ok-Some.is-0)

pub returns-in_ok-called-in-Ok-None : goal.returns-in_ok-called-in-Ok-None
returns-in_ok-called-in-Ok-None g c =
    let ns = g.N.Names.numbering c.args.names.now in let o = g.N.Names.sight c.args.names.now c.args.name.now.text in
    let p = view.place c.args.name.now.place in let n = c.args.count in
    let own = c.of_call-own.ensures ns c.find-object.ensures.inputs ∙ ap (λ x. sensed.of_call x p n) c.find-object.ensures.thing in
    let xs = map (sense_of ns) c.in-Ok-None.inputs in
    ap Ok (c.in_ok-called-in-Ok-None.ensures ∙ ap (λ x. sensed.called x xs) c.find-object.ensures.thing)
    ∙ ap (λ q. told q (sensed.called o xs)) (sym (ap (option_map found) c.in-Ok-None.is-1) ∙ own)
    ∙ sym (ap (λ r. sensed.call_sensed o p n (judged (map (sense_of ns)) r)) c.in-Ok-None.is-0)
