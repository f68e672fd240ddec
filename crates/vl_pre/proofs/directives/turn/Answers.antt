use Rattle.std.proofs.Common.{rules, ◌≡◌, true, false, List, ℕ, sym, ap, ◌∙◌}
use Rattle.std.specs.Prelude.{is_some}
use Rattle.vl_pre.specs.Bytes.{Text}
use Rattle.vl_pre.specs.Pieces.{and_then}
use Rattle.vl_pre.specs.Directives.{branch_step, may_turn, elsif_by}
use Rattle.vl_pre.specs.Calls.Reading.{context_of}
use Rattle.vl_pre.proofs.DirectiveLaws.{goes_as}
use Rattle.vl_pre.proofs.directives.turn.Goals as goal

pub returns : goal.returns
returns c =
    let context = context_of c.args.context.now in
    let step = λ (name : List ℕ) (rest : Text). branch_step c.args.line context context.conditions (is_some (context.macros name)) false rest in
    let holds : c.is_defined-holds.result ≡ is_some (context.macros c.in_ok-name.name.now) = c.is_defined-holds.ensures ∙ ap (λ n. is_some (context.macros n)) c.in_ok-name-2.ensures in
    let may : may_turn context.conditions ≡ true = search rules in
    goes_as c.name_of.new.at c.turn.new.self _ _ c.turn.result
    (ap (λ b. elsif_by b c.args.line context c.args.at.now) may ∙ ap (λ r. and_then r (λ (n : List ℕ × Text). step n.0 n.1)) c.in_ok-name.ensures ∙ ap (λ h. branch_step c.args.line context context.conditions h false c.name_of.new.at) (sym holds))
    (c.turn.ensures c.name_of.new.at)
