use Rattle.std.proofs.Common.{◌∙◌, ap, sym, map, Some}
use Rattle.std.specs.Option.{option_map}
use Rattle.vl_width.specs.declared.names.Object.TheVariants as o
use Rattle.vl_width.specs.Objects.{thing}
use Rattle.vl_sized.specs.Sensed as sensed
use Rattle.vl_sized.specs.Plain.{plain_pick}
use Rattle.vl_sized.proofs.Copies.{none_named}
use Rattle.vl_sized.proofs.select.named.Goals as goal

pub returns-in-Signal : goal.returns-in-Signal
returns-in-Signal c = λ ns.
    c.vector.ensures ns ∙ sym (ap (λ x. sensed.named (option_map (thing ns) x) (map (plain_pick ns) c.args.list)) (c.in-Some.is ∙ ap Some c.in-Signal.is))

pub returns-in-Local : goal.returns-in-Local
returns-in-Local c = λ ns.
    c.vector-in-Local.ensures ns ∙ sym (ap (λ x. sensed.named (option_map (thing ns) x) (map (plain_pick ns) c.args.list)) (c.in-Some.is ∙ ap Some c.in-Local.is))

pub returns-then-inside : goal.returns-then-inside
returns-then-inside c = λ ns.
    c.vector-then-inside.ensures ns
    ∙ sym (ap (λ x. sensed.named (option_map (thing ns) x) (map (plain_pick ns) c.args.list))
    (c.in-Some.is ∙ ap Some (c.in-Function.is ∙ ap (λ b. o.Function c.in-Function.number c.in-Function.shape b c.in-Function.inputs) c.if-inside.true)))

pub returns-else-inside : goal.returns-else-inside
returns-else-inside c = λ ns.
    c.nothing-else-inside.ensures ns
    ∙ sym (ap (λ x. sensed.named (option_map (thing ns) x) (map (plain_pick ns) c.args.list))
    (c.in-Some.is ∙ ap Some (c.in-Function.is ∙ ap (λ b. o.Function c.in-Function.number c.in-Function.shape b c.in-Function.inputs) c.if-inside.false)))

pub returns-in-Memory : goal.returns-in-Memory
returns-in-Memory c = λ ns.
    c.word.ensures ns ∙ sym (ap (λ x. sensed.named (option_map (thing ns) x) (map (plain_pick ns) c.args.list)) (c.in-Some.is ∙ ap Some c.in-Memory.is))

pub returns-in-Constant : goal.returns-in-Constant
returns-in-Constant c = λ ns.
    c.number.ensures ns ∙ sym (ap (λ x. sensed.named (option_map (thing ns) x) (map (plain_pick ns) c.args.list)) (c.in-Some.is ∙ ap Some c.in-Constant.is))

pub returns-in_default : goal.returns-in_default
returns-in_default c = λ ns. c.nothing.ensures ns ∙ none_named ns c.args.object (map (plain_pick ns) c.args.list) c.in_default.not-Some
