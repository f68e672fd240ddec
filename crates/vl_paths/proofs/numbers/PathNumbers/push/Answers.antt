use Rattle.std.proofs.Common.{ap, subst, ◌∙◌}
use Rattle.std.specs.Prelude.{option_to_list}
use Rattle.std.specs.Option.{option_map}
use Rattle.vl_scopes.specs.Plain.{plain_step}
use Rattle.vl_paths.specs.Keys.{GoesOn}
use Rattle.vl_paths.specs.Numbers.{number_within}
use Rattle.vl_paths.proofs.Pushed.{pushed}
use Rattle.vl_paths.proofs.numbers.PathNumbers.push.Goals as goal

pub returns-in-Ok : goal.returns-in-Ok
returns-in-Ok c = λ before a.
    let s = c.args.scope.now in let r = c.in_ok-number.number in
    let steps = option_to_list (option_map plain_step s.step) in
    pushed c.args.self.now (record { keys = c.number_after.new.keys; of_scopes = c.push.new.self }) s r before a
    (subst (λ m. GoesOn m steps r c.args.self.now.keys.keys c.number_after.new.keys.keys)
    (c.number_within-before.ensures ∙ ap (λ ms. number_within ms s.within) c.as_slice.ensures.value) c.in_ok-number.ensures)
    c.in-Ok.ensures.items
