use Rattle.std.proofs.Common.{◌∙◌, ap, sym, map, Some}
use Rattle.std.specs.Option.{option_map}
use Rattle.vl_width.specs.Objects.{thing}
use Rattle.vl_sized.specs.Sensed as sensed
use Rattle.vl_sized.specs.Plain.{sense_of}
use Rattle.vl_sized.proofs.Senses.{of_call}
use Rattle.vl_sized.proofs.Copies.{none_called}
use Rattle.vl_sized.proofs.combine.called.Goals as goal

pub returns-in_ok-shapes-in-Function : goal.returns-in_ok-shapes-in-Function
returns-in_ok-shapes-in-Function g c =
    let ns = g.N.Names.numbering c.args.names.now in
    of_call ns c.whole_size.result c.in-Function.number c.in-Function.shape c.args.inputs c.in_ok-shapes-in-Function.shapes c.in_ok-shapes-in-Function.ensures
    c.whole_size.ensures.width c.whole_size.ensures.signed
    ∙ sym (ap (λ x. sensed.called (option_map (thing ns) x) (map (sense_of ns) c.args.inputs)) (c.in-Some.is ∙ ap Some c.in-Function.is))

pub returns-in_default : goal.returns-in_default
returns-in_default g c =
    let ns = g.N.Names.numbering c.args.names.now in
    c.nothing.ensures ns ∙ none_called ns c.args.object (map (sense_of ns) c.args.inputs) c.in_default.not-Some

pub returns-in-Signal : goal.returns-in-Signal
returns-in-Signal g c =
    let ns = g.N.Names.numbering c.args.names.now in
    c.nothing-in-Signal.ensures ns ∙ sym (ap (λ x. sensed.called (option_map (thing ns) x) (map (sense_of ns) c.args.inputs)) (c.in-Some.is ∙ ap Some c.in-Signal.is))

pub returns-in-Memory : goal.returns-in-Memory
returns-in-Memory g c =
    let ns = g.N.Names.numbering c.args.names.now in
    c.nothing-in-Memory.ensures ns ∙ sym (ap (λ x. sensed.called (option_map (thing ns) x) (map (sense_of ns) c.args.inputs)) (c.in-Some.is ∙ ap Some c.in-Memory.is))

pub returns-in-Constant : goal.returns-in-Constant
returns-in-Constant g c =
    let ns = g.N.Names.numbering c.args.names.now in
    c.nothing-in-Constant.ensures ns ∙ sym (ap (λ x. sensed.called (option_map (thing ns) x) (map (sense_of ns) c.args.inputs)) (c.in-Some.is ∙ ap Some c.in-Constant.is))

pub returns-in-Local : goal.returns-in-Local
returns-in-Local g c =
    let ns = g.N.Names.numbering c.args.names.now in
    c.nothing-in-Local.ensures ns ∙ sym (ap (λ x. sensed.called (option_map (thing ns) x) (map (sense_of ns) c.args.inputs)) (c.in-Some.is ∙ ap Some c.in-Local.is))
