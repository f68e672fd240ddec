use Rattle.std.proofs.Common.{rules, ◌≡◌, ◌∷◌, drop, length, sym, ap, ◌∙◌}
use Rattle.vl_pre.specs.Bytes.{Text, at_line, name_at}
use Rattle.vl_tree.specs.declared.fault.FaultKind.TheVariants.{BadDirective}
use Rattle.vl_pre.specs.Pieces.{fault}
use Rattle.vl_pre.specs.Directives.{no_name, a_directive, directive_step}
use Rattle.vl_pre.specs.CleanText.{Step, nothing}
use Rattle.vl_pre.specs.Calls.Views.{directive_of, ticked_of, context_of}
use Rattle.vl_pre.proofs.ReadingLaws.{steps_as, nothing_steps, tick_of}
use Rattle.vl_pre.proofs.WriteLaws.{ends_fails}
use Rattle.vl_pre.proofs.reading.read_tick.Goals as goal

pub returns-in-NoName : goal.returns-in-NoName
returns-in-NoName c =
    let next : c.args.at.now ≡ at_line c.in-Some.line c.in-Some.field-0-0 ∷ c.next.new.self = search rules in
    let tick = tick_of (context_of c.args.context.now) c.args.at.now c.next.new.self (at_line c.in-Some.line c.in-Some.field-0-0) c.name_at-name.result.now no_name next c.name_at-name.ensures
    (sym c.after_tick.ensures ∙ ap ticked_of c.in-NoName.is) in
    rw c.in_text.ensures (ends_fails c.args.out.now _ (fault BadDirective c.in-Some.line) c.requires.room (ap (λ (s : Step). s.part) tick))

pub returns-in-Named : goal.returns-in-Named
returns-in-Named c =
    let context = context_of c.args.context.now in
    let next : c.args.at.now ≡ at_line c.in-Some.line c.in-Some.field-0-0 ∷ c.next.new.self = search rules in
    let tick = tick_of context c.args.at.now c.next.new.self (at_line c.in-Some.line c.in-Some.field-0-0) c.name_at-name.result.now (a_directive (directive_of c.in-Named.directive)) next c.name_at-name.ensures
    (sym c.after_tick.ensures ∙ ap ticked_of c.in-Named.is) in
    let after : c.skip.new.at ≡ drop (length (name_at c.next.new.self)) c.next.new.self = c.skip.ensures ∙ ap (λ n. drop (length n) c.next.new.self) c.name_at-name.ensures in
    steps_as c.args.out.now c.args.out.now c.direct.new.at c.direct.new.context _ (nothing context (directive_step (directive_of c.in-Named.directive) c.in-Some.line context c.skip.new.at)) c.direct.result
    (tick ∙ ap (λ (x : Text). nothing context (directive_step (directive_of c.in-Named.directive) c.in-Some.line context x)) (sym after))
    (nothing_steps c.args.out.now c.direct.new.at context c.direct.new.context _ c.direct.result c.requires.room c.direct.ensures)
