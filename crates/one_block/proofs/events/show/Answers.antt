use Rattle.std.proofs.Common.{ℕ, ◌-◌, length, drop, arith, length-drop, subst, ap, ◌∙◌, ◌++◌, ◌∷◌, []}
use Rattle.netlist.specs.declared.design.Effect.TheVariants as e
use Rattle.std.proofs.lemmas.List.{take_all}
use Rattle.std.proofs.lemmas.Result.{on_ok_weaker}
use Rattle.one_block.specs.Calls.Front.{IsFront}
use Rattle.one_block.proofs.Telling.{shows_one}
use Rattle.one_block.proofs.events.show.Goals as goal

pub returns-in_ok-add-in-Some : goal.returns-in_ok-add-in-Some
returns-in_ok-add-in-Some c =
    let front = c.in_ok-front.front in
    let is = subst (IsFront c.args.format.now front.text.items) c.in-Some.is c.in_ok-front.ensures in
    on_ok_weaker c.say.result
    (shows_one c.args.condition c.args.node c.args.format.now front.text.items _ c.in-Some.end c.args.events.now.items
    c.add_text.new.events.items c.add.new.events.items c.say.new.events.items is
    (take_all (length c.args.format.now - c.in-Some.end) (drop c.in-Some.end c.args.format.now) (omega (arith, length-drop {A = ℕ})))
    c.in_ok-add_text-in-Some.ensures
    (c.in_ok-add-in-Some.ensures ∙ ap (λ s. c.add_text.new.events.items ++ record { condition = c.args.condition; effect = e.Showed s } ∷ []) c.fewest_digits.ensures))
    c.say.ensures
