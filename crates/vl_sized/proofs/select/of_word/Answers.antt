use Rattle.std.proofs.Common.{◌∙◌, ◌∷◌, ap, sym, map}
use Rattle.std.specs.Option.{option_map}
use Rattle.vl_tree.specs.SyntaxView as view
use Rattle.vl_width.specs.Objects.{plain_shape}
use Rattle.vl_sized.specs.Sensed as sensed
use Rattle.vl_found.specs.View.{found}
use Rattle.vl_sized.specs.Plain.{plain_pick}
use Rattle.vl_sized.proofs.select.of_word.Goals as goal

pub returns-in-Bit : goal.returns-in-Bit
returns-in-Bit c = λ ns.
    let e = c.in-Some.ensures.cases.0 ∙ ap (λ k. k ∷ c.in-Some.rest.now) c.in-Bit.is in
    c.of_vector.ensures ns
    ∙ sym (ap (λ l. sensed.of_word (plain_shape c.args.shape) (view.place c.args.place) (option_map found c.args.inner) (map (plain_pick ns) l)) e)
