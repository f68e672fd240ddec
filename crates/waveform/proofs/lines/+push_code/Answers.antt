use Rattle.std.proofs.Common.{◌++◌, ◌∷◌, [], ◌+◌, ◌/◌, ◌-◌, ◌%◌, ap, sym, ◌∙◌, List, ℕ}
use Rattle.waveform.specs.Vcd.{code}
use Rattle.waveform.proofs.CodeLaws.{code-small, code-large}
use Rattle.waveform.proofs.Pushes.{on_ok, then_pushed}
use Rattle.waveform.proofs.lines.+push_code.Goals as goal

pub returns-then-number-lt94 : goal.returns-then-number-lt94
returns-then-number-lt94 t c =
    on_ok c.push_byte.result (λ e. e ∙ ap (λ (xs : List ℕ). c.args.text.now.items ++ xs) (sym (code-small c.args.number c.if-number-lt94.true))) c.push_byte.ensures

pub returns : goal.returns
returns t c =
    on_ok c.push_byte-2.result (λ e. then_pushed _ _ _ (code (c.args.number / 94 - 1)) ((33 + c.args.number % 94) ∷ []) (code c.args.number) c.in_ok-push_code.ensures e (code-large c.args.number c.if-number-lt94.false)) c.push_byte-2.ensures
