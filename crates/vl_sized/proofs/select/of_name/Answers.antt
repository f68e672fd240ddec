use Rattle.std.proofs.Common.{◌∙◌, ap, sym, map, Some}
use Rattle.std.specs.Option.{option_map}
use Rattle.vl_tree.specs.SyntaxView as view
use Rattle.vl_width.specs.declared.names.Object.TheVariants as o
use Rattle.vl_width.specs.Objects.{thing}
use Rattle.vl_sized.specs.Sensed as sensed
use Rattle.vl_found.specs.View.{found}
use Rattle.vl_sized.specs.Plain.{plain_pick}
use Rattle.vl_sized.proofs.select.of_name.Goals as goal

pub returns-in-Signal : goal.returns-in-Signal
returns-in-Signal c = λ ns.
    c.of_vector.ensures ns
    ∙ sym (ap (λ x. sensed.of_name (option_map (thing ns) x) (view.place c.args.place) (option_map found c.args.inner) (map (plain_pick ns) c.args.picks.now)) (c.in-Some.is ∙ ap Some c.in-Signal.is))

pub returns-in-Local : goal.returns-in-Local
returns-in-Local c = λ ns.
    c.of_vector-in-Local.ensures ns
    ∙ sym (ap (λ x. sensed.of_name (option_map (thing ns) x) (view.place c.args.place) (option_map found c.args.inner) (map (plain_pick ns) c.args.picks.now)) (c.in-Some.is ∙ ap Some c.in-Local.is))

pub returns-in-Memory : goal.returns-in-Memory
returns-in-Memory c = λ ns.
    c.of_word.ensures ns
    ∙ sym (ap (λ x. sensed.of_name (option_map (thing ns) x) (view.place c.args.place) (option_map found c.args.inner) (map (plain_pick ns) c.args.picks.now)) (c.in-Some.is ∙ ap Some c.in-Memory.is))

pub returns-in-Constant : goal.returns-in-Constant
returns-in-Constant c = λ ns.
    c.of_constant.ensures ns c.in-Constant.field-0.bits.width c.in-Constant.field-0.signed c.in-Constant.field-0.bits.value (option_map found c.args.inner)
    ∙ sym (ap (λ x. sensed.of_name (option_map (thing ns) x) (view.place c.args.place) (option_map found c.args.inner) (map (plain_pick ns) c.args.picks.now)) (c.in-Some.is ∙ ap Some c.in-Constant.is))

pub returns-then-inside : goal.returns-then-inside
returns-then-inside c = λ ns.
    c.of_vector-then-inside.ensures ns
    ∙ sym (ap (λ x. sensed.of_name (option_map (thing ns) x) (view.place c.args.place) (option_map found c.args.inner) (map (plain_pick ns) c.args.picks.now))
    (c.in-Some.is ∙ ap Some (c.in-Function.is ∙ ap (λ b. o.Function c.in-Function.number c.in-Function.shape b c.in-Function.inputs) c.if-inside.true)))
